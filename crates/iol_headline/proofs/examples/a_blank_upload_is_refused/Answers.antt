use Rattle.std.proofs.Common.{◌≡◌, refl, ℕ, zero, suc, Bool, true, false, if◌then◌else◌, List, [], ◌∷◌, ◌++◌, ap, sym, ◌∙◌, subst}
use Rattle.std.proofs.Common.{append_assoc}
use Rattle.std.specs.Prelude.{Some, slice_index, ◌==◌}
use Rattle.iol_types.specs.declared.config.Validation.TheVariants.{BackupAndRestore}
use Rattle.iol_transfer.specs.Property.{property_of}
use Rattle.iol_port.specs.Decision.{decide}
use Rattle.iol_port.specs.declared.decision.Decision.TheVariants as decision
use Rattle.iol_link.specs.declared.messages.Answer.TheVariants.{ReadOk, Busy}
use Rattle.iol_link.specs.declared.messages.Request.TheVariants.{Read}
use Rattle.iol_transfer.specs.Exchanges.{Exchange, carried, read_of, busy_times}
use Rattle.iol_transfer.specs.Upload.{number_of}
use Rattle.iol_core.specs.Events.{Event, Page, Attended, stamped}
use Rattle.iol_core.specs.Own.{own}
use Rattle.iol_core.specs.Statuses.{Work}
use Rattle.iol_headline.proofs.ExampleTalks.{octets_in, both_read, replaced_reads, before_replaced_page, replaced_talk}
use Rattle.iol_headline.proofs.OnePlace.{head_is, TellsPage, one_place, talk_no_page, one_talk, last_is, each_and}
use Rattle.iol_headline.proofs.examples.a_blank_upload_is_refused.Goals as goal
use Rattle.iol_headline.specs.Conversations.{Converses}
use Rattle.iol_headline.specs.Decisions.{IsExamined}
use Rattle.iol_headline.specs.Examples.{example_work, example_page, replaced}

work_no_page : (work : Work) → TellsPage (Attended 1 work) → ⊥
work_no_page work is = no is.0 is.1 is.2 is.3
  where
    no : (port connection : ℕ) (octets : List ℕ) → Attended 1 work ≡ Page port connection octets → ⊥
    no port connection octets same = cc

work_is : (one other : Work) → Attended 1 one ≡ Attended 1 other → one ≡ other
work_is one other same = cc

not_busy : (octets : List ℕ) → ReadOk (carried octets) ≡ Busy → ⊥
not_busy octets same = cc

-- what was read first is the state
first_read : (rest : List Exchange) (state blank : List ℕ) (sum : Exchange) (times : ℕ)
    → read_of 3 2 blank ∷ sum ∷ [] ≡ busy_times times (read_of 3 2 state).request ++ read_of 3 2 state ∷ rest → state ≡ blank
first_read rest state blank sum zero same =
    ap octets_in (sym (head_is (read_of 3 2 blank) (read_of 3 2 state) (sum ∷ []) rest same))
first_read rest state blank sum (suc times) same =
    absurd (not_busy blank (ap (λ (x : Exchange). x.answer) (head_is (read_of 3 2 blank) (record { request = Read 3 2; answer = Busy })
    (sum ∷ []) (busy_times times (Read 3 2) ++ read_of 3 2 state ∷ rest) same)))

-- with a set and no flag it is never decided to upload
never : (sum : ℕ) → decide BackupAndRestore (property_of 0x00).state (property_of 0x00).flag sum (Some 0x024F) ≡ decision.Upload → ⊥
never sum = by (0x024F == sum)
  where
    by : (test : Bool) → (if test then decision.Ready else decision.Download) ≡ decision.Upload → ⊥
    by true same = cc
    by false same = cc

-- it was decided to upload, from this work, state and checksum
abbrev Uploads : Work → List ℕ → ℕ → Type 0
Uploads work state sum =
    decide work.config.validation (property_of (slice_index state 0)).state (property_of (slice_index state 0)).flag sum work.checksum
    ≡ decision.Upload

refused : IsExamined decision.Upload 1 (own 1 (stamped 7 replaced)) → ⊥
refused is =
    never (number_of is.sum) (subst (λ (os : List ℕ). Uploads (example_work (Some 0x024F)) os (number_of is.sum)) state_is
    (subst (λ (w : Work). Uploads w is.state (number_of is.sum)) (work_is is.work (example_work (Some 0x024F)) ends.1) is.decided))
  where
    behind : is.told ++ Attended 1 is.work ∷ [] ≡ replaced_reads ++ Attended 1 (example_work (Some 0x024F)) ∷ []
    behind =
        (one_place TellsPage is.before before_replaced_page (Page 1 is.connection is.octets) (Page 1 1 example_page)
        (is.told ++ Attended 1 is.work ∷ []) (replaced_reads ++ Attended 1 (example_work (Some 0x024F)) ∷ [])
        (1, is.connection, is.octets, refl) (1, 1, example_page, refl)
        (each_and (λ e. TellsPage e → ⊥) is.told (Attended 1 is.work) (talk_no_page 1 is.connection is.told is.conversation is.talk)
        (work_no_page is.work))
        (each_and (λ e. TellsPage e → ⊥) replaced_reads (Attended 1 (example_work (Some 0x024F)))
        (talk_no_page 1 1 replaced_reads (both_read (0x00 ∷ []) (0x00 ∷ 0x00 ∷ 0x00 ∷ 0x00 ∷ [])) replaced_talk)
        (work_no_page (example_work (Some 0x024F))))
        (sym (is.split ∙ append_assoc is.before (Page 1 is.connection is.octets ∷ is.told) (Attended 1 is.work ∷ [])))).2

    ends : (is.told ≡ replaced_reads) × (Attended 1 is.work ≡ Attended 1 (example_work (Some 0x024F)))
    ends = last_is is.told replaced_reads (Attended 1 is.work) (Attended 1 (example_work (Some 0x024F))) behind

    conversation_is : is.conversation ≡ both_read (0x00 ∷ []) (0x00 ∷ 0x00 ∷ 0x00 ∷ 0x00 ∷ [])
    conversation_is =
        one_talk 1 is.connection 1 replaced_reads is.conversation (both_read (0x00 ∷ []) (0x00 ∷ 0x00 ∷ 0x00 ∷ 0x00 ∷ []))
        (subst (λ (es : List Event). Converses 1 is.connection es is.conversation) ends.0 is.talk) replaced_talk

    state_is : is.state ≡ 0x00 ∷ []
    state_is =
        first_read is.reads.1 is.state (0x00 ∷ []) (read_of 3 4 (0x00 ∷ 0x00 ∷ 0x00 ∷ 0x00 ∷ [])) is.reads.0
        (sym conversation_is ∙ is.reads.3)

pub returns : goal.returns
returns c law = refused law
