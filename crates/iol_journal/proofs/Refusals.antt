-- Which batches a journal accepts, from the tests that it makes.
use Rattle.std.proofs.Common.{◌≡◌, ◌≤◌, ◌+◌, true, false, ℕ, List, length, Some, None, refl, arith}
use Rattle.std.proofs.lemmas.Bool.Decides.{nat_tests}
use Rattle.iol_types.specs.Command.{CommandValue}
use Rattle.iol_types.specs.State.{legal}
use Rattle.iol_journal.specs.Begin.{follows, fits_no_area, wants_checkpoint, batch_refusal}
use Rattle.iol_layout.specs.Meaning.{Standing}
use Rattle.iol_layout.specs.declared.header.TheConstants.{LAST_NUMBER}
use Rattle.iol_journal.specs.declared.refusal.BeginCause.TheVariants.{Misfit}

module _ (s : Standing) (first : ℕ) (commands : List CommandValue) (fits : fits_no_area s commands ≡ false)
    (free : wants_checkpoint s commands ≡ false) where
  -- the batch follows the journal
  pub taken : 1 ≤ length commands → first ≡ s.number + 1 → s.number + length commands ≤ LAST_NUMBER → legal s.state commands ≡ true
      → batch_refusal s first commands ≡ None
  taken some next bound passes =
      let goes_on : follows s first commands ≡ true = grind (arith, nat_tests) in
      rw (fits, free, goes_on) refl

  -- a command of the batch does not pass
  pub refused : legal s.state commands ≡ false → batch_refusal s first commands ≡ Some Misfit
  refused fails =
      let strays : follows s first commands ≡ false = grind (arith, nat_tests) in
      rw (fits, free, strays) refl
