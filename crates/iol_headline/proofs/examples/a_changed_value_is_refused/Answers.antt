use Rattle.std.proofs.Common.{◌≡◌, refl, ℕ, List, [], ◌∷◌, ◌++◌, ap, sym, subst, arith}
use Rattle.std.specs.Prelude.{slice_index}
use Rattle.iol_transfer.specs.Exchanges.{Exchange, read_of, Follows}
use Rattle.iol_transfer.specs.Upload.{opening}
use Rattle.iol_core.specs.Events.{Changed, Stamp, stamped}
use Rattle.iol_core.specs.Own.{own}
use Rattle.iol_core.specs.Statuses.{Uploading}
use Rattle.iol_headline.proofs.ExampleTalks.{octets_in, uploading, start, size, index_list, first_value, second_value, checksum}
use Rattle.iol_headline.proofs.ExampleTalks.{upload_talk}
use Rattle.iol_headline.proofs.OnePlace.{Each, TellsStatus, one_place, none_marked, talk_no_status, one_talk, settled_each, each_front}
use Rattle.iol_headline.proofs.OnePlace.{each_after}
use Rattle.iol_headline.proofs.examples.a_changed_value_is_refused.Goals as goal
use Rattle.iol_headline.specs.Conversations.{Converses}
use Rattle.iol_headline.specs.Examples.{example_set, flagged, uploaded, upload}
use Rattle.iol_headline.specs.WholeSets.{IsUploadedWhole}

-- the read that the set would need
abbrev wrong : Exchange
wrong = read_of 0x0041 0x01 (0x7E ∷ [])

abbrev IsOther : Exchange → Type 0
IsOther exchange = exchange ≡ wrong → ⊥

other : (exchange : Exchange) → (slice_index (octets_in exchange) 0 ≡ 0x7E → ⊥) → IsOther exchange
other exchange apart same = apart (ap (λ (x : Exchange). slice_index (octets_in x) 0) same)

-- nothing in the upload is that read
all_other : Each IsOther uploading
all_other = (
  other start (λ same. omega (arith, same)),
  (
    other size (λ same. omega (arith, same)),
    (
      other index_list (λ same. omega (arith, same)),
      (
        other first_value (λ same. omega (arith, same)),
        (other second_value (λ same. omega (arith, same)), (other checksum (λ same. omega (arith, same)), tt)),
      ),
    ),
  ),
)

refused : (connection : ℕ) → IsUploadedWhole 1 connection (example_set 0x7E) (stamped 7 uploaded) → ⊥
refused connection is =
    (each_after IsOther (opening is.finished.upload.size is.finished.upload.lists) (first_value ∷ wrong ∷ [])
    (each_front IsOther (opening is.finished.upload.size is.finished.upload.lists ++ first_value ∷ wrong ∷ []) _ there)).1.0 refl
  where
    late_is : is.late ≡ stamped 7 upload
    late_is =
        (one_place (λ (e : Stamp). TellsStatus 1 e.event) is.early (stamped 7 flagged)
        (record { event = Changed 1 Uploading; clock = is.clock }) (record { event = Changed 1 Uploading; clock = 7 }) is.late
        (stamped 7 upload) (Uploading, refl) (Uploading, refl)
        (none_marked 1 is.late (talk_no_status 1 connection (own 1 is.late) is.conversation is.told))
        (none_marked 1 (stamped 7 upload) (talk_no_status 1 0 upload uploading upload_talk)) (sym is.split)).2

    conversation_is : is.conversation ≡ uploading
    conversation_is =
        one_talk 1 connection 0 upload is.conversation uploading
        (subst (λ (es : List Stamp). Converses 1 connection (own 1 es) is.conversation) late_is is.told) upload_talk

    there : Each IsOther ((opening is.finished.upload.size is.finished.upload.lists ++ first_value ∷ wrong ∷ [])
        ++ read_of 3 4 is.finished.upload.checksum ∷ [])
    there =
        subst (Each IsOther) is.finished.upload.order
        (settled_each IsOther is.finished.settled uploading
        (subst (λ (c : List Exchange). Follows c is.finished.settled) conversation_is is.finished.follows) all_other)

pub returns : goal.returns
returns c law = refused law.0 law.1
