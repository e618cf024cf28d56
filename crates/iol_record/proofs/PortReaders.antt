-- Ports read back.
use Rattle.std.proofs.Common.{◌≡◌, ℕ, ◌≤◌, Bool, true, false, List, [], ◌∷◌, ◌++◌, Option, Some, None, Ok, refl, sym, ap, ◌∙◌, subst}
use Rattle.std.specs.Prelude.{IfSome}
use Rattle.iol_types.specs.declared.config.PortConfig.{PortConfig}
use Rattle.iol_types.specs.declared.port_state.TheConstants.{LAST_REVISION}
use Rattle.iol_types.specs.DataSet.{SetValue, IsSet}
use Rattle.iol_types.specs.State.{Stored, Port, IsStored, IsPort}
use Rattle.iol_record.specs.declared.version.Version.{Version}
use Rattle.iol_record.specs.declared.version.Version.TheVariants.{One, Two}
use Rattle.iol_record.specs.Record.{config_octets, set_octets, stored_octets, previous_octets, port_octets, SpellsLabel, SpellsPrevious}
use Rattle.iol_record.specs.Record.{SpellsPort}
use Rattle.iol_record.specs.Reading.{stored_at, flagged_at, previous_at, sets_may_stand, port_parts_at, port_record_at}
use Rattle.iol_record.proofs.Readers.{Splits, IsReader, field_reads, both_reads, joined_reads, followed_reads, tested_reads}
use Rattle.iol_record.proofs.Readers.{nothing_reads, in_other_words}
use Rattle.iol_record.proofs.Fields.{flag_octet, flag_reads, revision_reads}
use Rattle.iol_record.proofs.ConfigReaders.{IsConfigIn, config_reads}
use Rattle.iol_record.proofs.SetReaders.{set_reads}

-- whether something is stored
abbrev is_stored : Option Stored → Bool
is_stored None = false
is_stored (Some stored) = true

-- the octets after the flag
abbrev after_flag : Version → Option Stored → List ℕ
after_flag version None = []
after_flag version (Some stored) = config_octets version stored.recorded ++ set_octets stored.set

-- the stored set, if there is one, is in range and a version spells it
abbrev AreStored : Version → Option Stored → Type 0
AreStored version stored = IfSome stored (λ kept. IsConfigIn version kept.recorded × IsSet kept.set)

abbrev IsFlagged : Version → Bool → Option Stored → Type 0
IsFlagged version flag stored = (is_stored stored ≡ flag) × AreStored version stored

abbrev stored_of : PortConfig × SetValue → Option Stored
stored_of parts = Some (record { set = parts.1; recorded = parts.0 })

set_stored_reads : (version : Version) → IsReader (stored_at version true) (after_flag version) (IsFlagged version true)
unfolding stored_at
set_stored_reads version =
    joined_reads stored_of _ _ (after_flag version) _ (IsFlagged version true)
    (record { made = made; spelled = λ parts. refl; in_range = λ parts is. (refl, is) })
    (both_reads _ _ _ _ _ _ (config_reads version) set_reads)
  where
    made : (stored : Option Stored) → IsFlagged version true stored → (parts : PortConfig × SetValue) × (stored_of parts ≡ stored)
        × (IsConfigIn version parts.0 × IsSet parts.1)
    made None is = let other = is.0 in cc
    made (Some stored) is = ((stored.recorded, stored.set), refl, is.1)

nothing_stored_reads : (version : Version) → IsReader (stored_at version false) (after_flag version) (IsFlagged version false)
unfolding stored_at
nothing_stored_reads version = record {
  again = again;
  takes = λ octets stored rest are e. taken octets stored rest (nothing.takes octets stored rest are e);
  stays = nothing.stays;
}
  where
    nothing : IsReader {A = Option Stored} (λ octets. Ok (None, octets)) (λ _. []) (λ stored. stored ≡ None)
    nothing = nothing_reads None

    again : (stored : Option Stored) (rest : List ℕ) → IsFlagged version false stored
        → stored_at version false (after_flag version stored ++ rest) ≡ Ok (stored, rest)
    again None rest is = refl
    again (Some stored) rest is = let other = is.0 in cc

    taken : (octets : List ℕ) (stored : Option Stored) (rest : List ℕ) → Splits octets [] rest × (stored ≡ None)
        → Splits octets (after_flag version stored) rest × IsFlagged version false stored
    taken octets None rest is = (is.0, (refl, tt))
    taken octets (Some stored) rest is = let other = is.1 in cc

stored_reads : (version : Version) (flag : Bool) → IsReader (stored_at version flag) (after_flag version) (IsFlagged version flag)
stored_reads version true = set_stored_reads version
stored_reads version false = nothing_stored_reads version

flagged_reads : (version : Version) → IsReader (flagged_at version) (stored_octets version) (AreStored version)
flagged_reads version =
    followed_reads _ (stored_at version) _ (after_flag version) (stored_octets version) _ (IsFlagged version) (AreStored version)
    (record {
      first = λ stored is. (is_stored stored, tt, (refl, is));
      spelled = λ flag stored is. flagged stored ∙ ap (λ (other : Bool). flag_octet other ∷ after_flag version stored) is.0;
      in_range = λ flag stored _ is. is.1;
    })
    (field_reads _ _ _ flag_reads) (stored_reads version)
  where
    flagged : (stored : Option Stored) → stored_octets version stored ≡ flag_octet (is_stored stored) ∷ after_flag version stored
    flagged None = refl
    flagged (Some stored) = refl

-- the previous set, if there is one, is in range and a version spells it
abbrev ArePrevious : Version → Option Stored → Type 0
ArePrevious version previous = AreStored version previous × SpellsPrevious version previous

previous_reads : (version : Version) → IsReader (previous_at version) (previous_octets version) (ArePrevious version)
unfolding previous_at
previous_reads One =
    in_other_words (λ previous is. is.1) (λ previous none. (subst (AreStored One) (sym none) tt, none)) (nothing_reads None)
previous_reads Two = in_other_words (λ previous is. is.0) (λ previous is. (is, tt)) (flagged_reads Two)

abbrev PortParts : Type 0
PortParts = PortConfig × (ℕ × (Option Stored × Option Stored))

abbrev port_of : PortParts → Port
port_of parts = record { config = parts.0; revision = parts.1.0; stored = parts.1.1.0; previous = parts.1.1.1 }

-- a port whose parts are in range and spelled by a version, whether or not it may have its sets
pub record HasParts (version : Version) (port : Port) : Type 0 where
  pub config : IsConfigIn version port.config
  pub revision : port.revision ≤ LAST_REVISION
  pub stored : AreStored version port.stored
  pub previous : ArePrevious version port.previous

port_parts_read : (version : Version) → IsReader (port_parts_at version) (port_octets version) (HasParts version)
unfolding port_parts_at
port_parts_read version =
    joined_reads port_of _ _ (port_octets version) _ (HasParts version)
    (record {
      made = λ port is. (
        (port.config, (port.revision, (port.stored, port.previous))),
        refl,
        (is.config, (is.revision, (is.stored, is.previous))),
      );
      spelled = λ parts. refl;
      in_range = λ parts is. record { config = is.0; revision = is.1.0; stored = is.1.1.0; previous = is.1.1.1 };
    })
    (both_reads _ _ _ _ _ _ (config_reads version)
    (both_reads _ _ _ _ _ _ (field_reads _ _ _ revision_reads)
    (both_reads _ _ _ _ _ _ (flagged_reads version) (previous_reads version))))

-- a port in range that a version spells
abbrev pub IsPortIn : Version → Port → Type 0
IsPortIn version port = IsPort port × SpellsPort version port

-- the stored set, as a part and as that of the port
module _ (version : Version) where
  are-stored : (stored : Option Stored) → AreStored version stored
      → IfSome stored IsStored × IfSome stored (λ kept. SpellsLabel version kept.recorded.label)
  are-stored None are = (tt, tt)
  are-stored (Some stored) are = (record { set = are.1; recorded = are.0.0 }, are.0.1)

  stored-are : (stored : Option Stored) → IfSome stored IsStored → IfSome stored (λ kept. SpellsLabel version kept.recorded.label)
      → AreStored version stored
  stored-are None is spelled = tt
  stored-are (Some stored) is spelled = ((is.recorded, spelled), is.set)

previous-are : (version : Version) (previous : Option Stored) → IfSome previous IsStored → SpellsPrevious version previous
    → ArePrevious version previous
previous-are version None is spelled = (tt, spelled)
previous-are One (Some previous) is spelled = absurd cc
previous-are Two (Some previous) is spelled = (((is.recorded, tt), is.set), tt)

-- a port is valid exactly if its parts are in range and it may have its sets
tested-is_port : (version : Version) (port : Port) → HasParts version port → sets_may_stand port ≡ true → IsPortIn version port
tested-is_port version port parts may =
    let stored = are-stored version port.stored parts.stored in
    let previous = are-stored version port.previous parts.previous.0 in (
      record { config = parts.config.0; revision = parts.revision; stored = stored.0; previous = previous.0; stands = may },
      record { label = parts.config.1; recorded = stored.1; previous = parts.previous.1 },
    )

is_port-tested : (version : Version) (port : Port) → IsPortIn version port → HasParts version port × (sets_may_stand port ≡ true)
is_port-tested version port is = (
  record {
    config = (is.0.config, is.1.label);
    revision = is.0.revision;
    stored = stored-are version port.stored is.0.stored is.1.recorded;
    previous = previous-are version port.previous is.0.previous is.1.previous;
  },
  is.0.stands,
)

pub port_record_reads : (version : Version) → IsReader (port_record_at version) (port_octets version) (IsPortIn version)
unfolding port_record_at
port_record_reads version =
    in_other_words (is_port-tested version) (λ port is. tested-is_port version port is.0 is.1)
    (tested_reads sets_may_stand (port_parts_at version) (port_octets version) (HasParts version) (port_parts_read version))
