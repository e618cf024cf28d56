use Rattle.std.proofs.Common.{◌≡◌, ◌+◌, ◌≤◌, ℕ, []}
use Rattle.std.specs.Prelude.{IsOk, min}
use Rattle.iol_record.specs.Reading.{entries_at}
use Rattle.iol_record.proofs.EntryReadings.{all_with}
use Rattle.iol_record.proofs.reader.Reader.entries.Given as goal

abbrev pub invariant-loop-done : goal.invariant-loop-done
invariant-loop-done l = record {
  read : (left : ℕ) → left + l.done ≡ l.fn.count → all_with l.entries left l.self ≡ entries_at l.fn.count [] l.fn.self;
  start : l.done ≡ 0 → (l.entries ≡ []) × (l.self ≡ l.fn.self);
  begun : 1 ≤ l.done → IsOk (entries_at (min 1 l.fn.count) [] l.fn.self);
}
