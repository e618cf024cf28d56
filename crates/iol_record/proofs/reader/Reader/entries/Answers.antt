use Rattle.std.proofs.Common.{◌≡◌, ℕ, ◌+◌, ◌-◌, ◌<◌, List, [], sym, refl, ap, ◌∙◌, arith, inl, inr}
use Rattle.std.proofs.lemmas.Bool.{cases_lt}
use Rattle.std.proofs.lemmas.Result.{err_from_is_err_and}
use Rattle.iol_types.specs.DataSet.{Entry}
use Rattle.iol_record.specs.Reading.{entries_at}
use Rattle.iol_record.proofs.EntryReadings.{all_with, with-one_more, with-none, with-empty, at-fault, has-begun}
use Rattle.iol_record.proofs.reader.Reader.entries.Goals as goal

pub loop-done-init : goal.loop-done-init
loop-done-init c = record {
  read = λ left is.
      ap (λ (entries : List Entry). all_with entries left c.args.self.now) c.new-entries.ensures ∙ with-empty left c.args.self.now
      ∙ ap (λ (n : ℕ). entries_at n [] c.args.self.now) (omega (arith, is));
  start = λ none. (c.new-entries.ensures, refl);
  begun = λ some. absurd (omega (arith, some));
}

pub returns-in_err-entry-clause-read : goal.returns-in_err-entry-clause-read
returns-in_err-entry-clause-read c =
    let p = err_from_is_err_and c.from_residual.result c.from_residual.ensures.1 in
    let i = c.loop-done.invariant in
    let left = c.args.count - c.loop-done.done - 1 in
    let below : c.loop-done.done < c.args.count = omega (arith, c.loop-done-test.true) in
    rw (p.1, p.2)
    (at-fault c.loop-done.entries left c.args.count c.loop-done.self c.args.self.now _ c.in_err-entry.ensures.fault
    (i.read (left + 1) (omega (arith, below)))
    (has-begun c.loop-done.entries c.loop-done.done c.args.count c.loop-done.self c.args.self.now below i.start i.begun))

pub loop-done-preserved : goal.loop-done-preserved
loop-done-preserved c =
    let entry = c.in_ok-entry.ensures.read in
    record {
      read = λ left is.
          ap (λ (entries : List Entry). all_with entries left c.entry.new.self) entry.2
          ∙ sym (with-one_more c.loop-done.entries entry.0 left c.loop-done.self c.entry.new.self entry.1)
          ∙ c.loop-done.invariant.read (left + 1) (omega (arith, is));
      start = λ none. absurd (omega (arith, none));
      begun = λ some.
          has-begun c.loop-done.entries c.loop-done.done c.args.count c.loop-done.self c.args.self.now
          (omega (arith, c.loop-done-test.true))
          c.loop-done.invariant.start c.loop-done.invariant.begun
          (rw entry.1 refl);
    }

pub returns-clause-read : goal.returns-clause-read
returns-clause-read c =
    sym (c.loop-done.invariant.read 0 (omega (arith, c.loop-done-test.false))) ∙ with-none c.loop-done.entries c.loop-done.self

pub returns-clause-begun : goal.returns-clause-begun
returns-clause-begun c =
    elim (cases_lt 0 c.args.count) [
      | inl some ↦ c.loop-done.invariant.begun (omega (arith, c.loop-done-test.false, some))
      | inr none ↦ let nothing : c.args.count ≡ 0 = omega (arith, none) in rw nothing refl
    ]
