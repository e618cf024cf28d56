-- Events that accept and acknowledge nothing, and report no failure.
use Rattle.std.proofs.Common.{◌≡◌, refl, inl, inr, ℕ, List, [], ◌∷◌, ◌++◌, ap, sym, ◌∙◌, append_assoc}
use Rattle.iol_core.specs.Events.{Event, Accepted, Refused, Page, Exchange, Lost, Attended, Changed, Acknowledged, DiskFailed, Stamp}
use Rattle.iol_core.specs.Events.{stamped}
use Rattle.iol_core.specs.Words.{IsFailure, HasFailure, accepted, numbers, acked, acked_by, command_in, number_in}

abbrev pub IsQuiet : Event → Type 0
IsQuiet (Accepted number command) = ⊥
IsQuiet (Acknowledged number) = ⊥
IsQuiet DiskFailed = ⊥
IsQuiet _ = Unit {0}

abbrev pub AreQuiet : List Event → Type 0
AreQuiet [] = Unit {0}
AreQuiet (e ∷ events) = IsQuiet e × AreQuiet events

accepts_none : (e : Event) → IsQuiet e → (command_in e ≡ []) × (number_in e ≡ [])
accepts_none (Accepted n c) quiet = absurd quiet
accepts_none (Refused r) quiet = (refl, refl)
accepts_none (Page p c os) quiet = (refl, refl)
accepts_none (Exchange p c r a) quiet = (refl, refl)
accepts_none (Lost p c r) quiet = (refl, refl)
accepts_none (Attended p w) quiet = (refl, refl)
accepts_none (Changed p s) quiet = (refl, refl)
accepts_none (Acknowledged n) quiet = absurd quiet
accepts_none DiskFailed quiet = absurd quiet

acks_none : (n : ℕ) (e : Event) → IsQuiet e → acked_by n e ≡ n
acks_none n (Accepted m c) quiet = absurd quiet
acks_none n (Refused r) quiet = refl
acks_none n (Page p c os) quiet = refl
acks_none n (Exchange p c r a) quiet = refl
acks_none n (Lost p c r) quiet = refl
acks_none n (Attended p w) quiet = refl
acks_none n (Changed p s) quiet = refl
acks_none n (Acknowledged m) quiet = absurd quiet
acks_none n DiskFailed quiet = absurd quiet

fails_none : (e : Event) → IsQuiet e → IsFailure e → ⊥
fails_none (Accepted m c) quiet failed = failed
fails_none (Refused r) quiet failed = failed
fails_none (Page p c os) quiet failed = failed
fails_none (Exchange p c r a) quiet failed = failed
fails_none (Lost p c r) quiet failed = failed
fails_none (Attended p w) quiet failed = failed
fails_none (Changed p s) quiet failed = failed
fails_none (Acknowledged m) quiet failed = failed
fails_none DiskFailed quiet failed = quiet

module _ (t : ℕ) where
  pub quiet_accepted : (told : List Event) → AreQuiet told → accepted (stamped t told) ≡ []
  quiet_accepted [] quiet = refl
  quiet_accepted (e ∷ told) quiet = ap (λ cs. cs ++ accepted (stamped t told)) (accepts_none e quiet.0).0 ∙ quiet_accepted told quiet.1

  pub quiet_numbers : (told : List Event) → AreQuiet told → numbers (stamped t told) ≡ []
  quiet_numbers [] quiet = refl
  quiet_numbers (e ∷ told) quiet = ap (λ ns. ns ++ numbers (stamped t told)) (accepts_none e quiet.0).1 ∙ quiet_numbers told quiet.1

  pub quiet_acked : (n : ℕ) (told : List Event) → AreQuiet told → acked n (stamped t told) ≡ n
  quiet_acked n [] quiet = refl
  quiet_acked n (e ∷ told) quiet = ap (λ (m : ℕ). acked m (stamped t told)) (acks_none n e quiet.0) ∙ quiet_acked n told quiet.1

-- events that acknowledge nothing
abbrev pub AcksNone : List Event → Type 0
AcksNone [] = Unit {0}
AcksNone (e ∷ events) = ((n : ℕ) → acked_by n e ≡ n) × AcksNone events

pub quiet_acks : (told : List Event) → AreQuiet told → AcksNone told
quiet_acks [] quiet = tt
quiet_acks (e ∷ told) quiet = ((λ n. acks_none n e quiet.0), quiet_acks told quiet.1)

-- more events with the same clock
pub quiet_fails : (t : ℕ) (told : List Event) → AreQuiet told → HasFailure (stamped t told) → ⊥
quiet_fails t [] quiet failed = failed
quiet_fails t (e ∷ told) quiet (inl here) = fails_none e quiet.0 here
quiet_fails t (e ∷ told) quiet (inr later) = quiet_fails t told quiet.1 later

pub stamped_both : (t : ℕ) (one two : List Event) → stamped t (one ++ two) ≡ stamped t one ++ stamped t two
stamped_both t [] two = refl
stamped_both t (e ∷ one) two = ap (λ (ss : List Stamp). record { event = e; clock = t } ∷ ss) (stamped_both t one two)

pub stamped_more : (t : ℕ) (events : List Stamp) (one two : List Event) → events ++ stamped t (one ++ two) ≡ (events ++ stamped t one)
    ++ stamped t two
stamped_more t events one two =
    ap (λ (ss : List Stamp). events ++ ss) (stamped_both t one two) ∙ sym (append_assoc events (stamped t one) (stamped t two))
