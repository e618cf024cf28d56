use Rattle.std.proofs.Common.{◌≡◌, refl, ℕ, List, [], ◌∷◌, Some, ap, sym, subst, arith}
use Rattle.std.specs.Prelude.{slice_index}
use Rattle.iol_types.specs.DataSet.{SetValue}
use Rattle.iol_types.specs.State.{Stored, empty_state, port_numbered}
use Rattle.iol_core.specs.Downloads.{stored_at}
use Rattle.iol_transfer.specs.Command.{commanded}
use Rattle.iol_transfer.specs.declared.command.DsCommand.TheVariants.{DownloadStart, DownloadEnd}
use Rattle.iol_link.specs.declared.messages.Request.{Request}
use Rattle.iol_link.specs.declared.messages.Request.TheVariants.{Write}
use Rattle.iol_transfer.specs.Download.{order_of}
use Rattle.iol_transfer.specs.Exchanges.{carried}
use Rattle.iol_core.specs.Events.{Changed, Stamp, stamped}
use Rattle.iol_core.specs.Own.{own}
use Rattle.iol_core.specs.Statuses.{Downloading}
use Rattle.iol_core.specs.Words.{durable}
use Rattle.iol_headline.proofs.ExampleTalks.{start_told, start_talk, writes_another}
use Rattle.iol_headline.proofs.OnePlace.{Each, TellsStatus, one_place, none_marked, talk_no_status, each_at}
use Rattle.iol_headline.proofs.examples.another_value_is_refused.Goals as goal
use Rattle.iol_headline.specs.Downloads.{IsDownloadOf}
use Rattle.iol_headline.specs.Examples.{example_config, example_set, replaced, restoring}

-- the request that is sent
abbrev wrong : Request
wrong = Write 0x0040 0x00 (carried (0x0A ∷ 0x65 ∷ []))

abbrev IsOther : Request → Type 0
IsOther request = request ≡ wrong → ⊥

-- the octets of a write
abbrev octets_of : Request → List ℕ
octets_of (Write index subindex values) = values.items
octets_of request = []

other : (request : Request) → (slice_index (octets_of request) 1 ≡ 0x65 → ⊥) → IsOther request
other request apart same = apart (ap (λ (r : Request). slice_index (octets_of r) 1) same)

-- no request of the download of the set is that
all_other : Each IsOther (order_of (example_set 0x7F))
all_other = (
  other (commanded DownloadStart) (λ same. omega (arith, same)),
  (
    other (Write 0x0040 0x00 (carried (0x0A ∷ 0x64 ∷ []))) (λ same. omega (arith, same)),
    (
      other (Write 0x0041 0x01 (carried (0x7F ∷ []))) (λ same. omega (arith, same)),
      (other (commanded DownloadEnd) (λ same. omega (arith, same)), tt),
    ),
  ),
)

stored_is : (one other : Stored) → Some one ≡ Some other → one ≡ other
stored_is one other same = cc

refused : IsDownloadOf 0 (empty_state 2) 1 1 wrong (stamped 7 restoring) → ⊥
refused is = each_at IsOther is.sending.sent is.sending.left wrong (subst (Each IsOther) is.sending.order there) refl
  where
    early_is : is.early ≡ stamped 7 replaced
    early_is =
        (one_place (λ (e : Stamp). TellsStatus 1 e.event) is.early (stamped 7 replaced)
        (record { event = Changed 1 Downloading; clock = is.clock }) (record { event = Changed 1 Downloading; clock = 7 }) is.late
        (stamped 7 (start_told ∷ [])) (Downloading, refl) (Downloading, refl)
        (none_marked 1 is.late (talk_no_status 1 1 (own 1 is.late) is.conversation is.told))
        (none_marked 1 (stamped 7 (start_told ∷ [])) (talk_no_status 1 1 (start_told ∷ []) _ start_talk)) (sym is.split)).0

    set_is : is.stored.set ≡ example_set 0x7F
    set_is = ap (λ (s : Stored). s.set) (sym (stored_is (record { set = example_set 0x7F; recorded = example_config }) is.stored
        (subst (λ (es : List Stamp). stored_at (port_numbered (durable 0 (empty_state 2) es) 1) ≡ Some is.stored) early_is is.durable)))

    there : Each IsOther (order_of is.stored.set)
    there = subst (λ (s : SetValue). Each IsOther (order_of s)) (sym set_is) all_other

parameter : (let index : ℕ = 0x0040 in index ≡ 3) → ⊥
parameter same = cc

pub returns : goal.returns
returns c law = refused (law 1 1 wrong (refl, refl, writes_another) parameter)
