use Rattle.std.proofs.Common.{◌≡◌, ◌⊎◌, inl, inr, ℕ, List, [], ◌∷◌, ◌++◌, Some, sym, ap, ◌∙◌, subst}
use Rattle.iol_types.specs.Command.{CommandValue, Configure, Store}
use Rattle.iol_types.specs.DataSet.{SetValue}
use Rattle.iol_types.specs.Examples.{port_of}
use Rattle.iol_types.specs.State.{Port, empty_state, after, port_numbered}
use Rattle.iol_types.specs.declared.config.PortConfig.{PortConfig}
use Rattle.iol_types.specs.declared.config.Validation.TheVariants.{BackupAndRestore, Restore}
use Rattle.iol_headline.proofs.NoSets.{had_none}
use Rattle.iol_headline.proofs.OnePlace.{head_is, tail_is, one_in}
use Rattle.iol_headline.proofs.Revisions.{some_is}
use Rattle.iol_headline.proofs.examples.a_later_configuration_is_refused.Goals as goal
use Rattle.iol_headline.specs.Examples.{example_config, example_set, restore_config, recorded_later}
use Rattle.iol_headline.specs.StoredSets.{HadSet, WasStored}

abbrev first : CommandValue
first = Configure 1 example_config

abbrev store : CommandValue
store = Store 1 1 (example_set 0x7F)

abbrev later : CommandValue
later = Configure 1 restore_config

no_store : (port told revision : ℕ) (config : PortConfig) (set : SetValue) → Configure port config ≡ Store told revision set → ⊥
no_store port told revision config set same = cc

-- the one Store comes after the first command
before_store : (early late : List CommandValue) (revision : ℕ) (set : SetValue)
    → first ∷ store ∷ later ∷ [] ≡ early ++ Store 1 revision set ∷ late → early ≡ first ∷ []
before_store [] late revision set same =
    absurd (no_store 1 1 revision example_config set (head_is first (Store 1 revision set) (store ∷ later ∷ []) late same))
before_store (c ∷ []) late revision set same =
    ap (λ (d : CommandValue). d ∷ []) (sym (head_is first c (store ∷ later ∷ []) (Store 1 revision set ∷ late) same))
before_store (c ∷ d ∷ early) late revision set same =
    let rest = tail_is first c (store ∷ later ∷ []) (d ∷ (early ++ Store 1 revision set ∷ late)) same in
    absurd (no_store 1 1 revision restore_config set (one_in early late later (Store 1 revision set)
    (tail_is store d (later ∷ []) (early ++ Store 1 revision set ∷ late) rest)))

apart : Restore ≡ BackupAndRestore → ⊥
apart same = cc

refused : HadSet (empty_state 1) 1 recorded_later ⊎ WasStored (empty_state 1) (first ∷ store ∷ later ∷ []) 1 recorded_later → ⊥
refused (inl had) = had_none 0 recorded_later had
refused (inr was) =
    let port_is : port_of example_config 1 ≡ was.port = some_is (port_of example_config 1) was.port
    (subst (λ (cs : List CommandValue). port_numbered (after (empty_state 1) cs) 1 ≡ Some was.port)
    (before_store was.early was.late was.revision (example_set 0x7F) was.split) was.there) in
    let config_is : restore_config ≡ example_config = was.recorded ∙ sym (ap (λ (p : Port). p.config) port_is) in
    apart (ap (λ (config : PortConfig). config.validation) config_is)

pub returns : goal.returns
returns c law = refused law
