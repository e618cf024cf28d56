use Rattle.std.proofs.Common.{◌≡◌, ℕ, zero, suc, ◌<◌, ◌≤◌, ◌-◌, ◌==◌, false, length, slice_index, IsUtf8, refl, sym, subst, arith}
use Rattle.std.proofs.lemmas.Str.{IsUtf8-from_ascii}
use Rattle.iol_requests.specs.Line.{IsText, text_of}
use Rattle.iol_requests.specs.Examples.{blanks}
use Rattle.iol_requests.specs.declared.line.TheConstants.{LINE_OCTETS}
use Rattle.iol_requests.proofs.examples.lengths.Goals as goal

length-blanks : (count : ℕ) → length (blanks count) ≡ count
length-blanks zero = refl
length-blanks (suc count) = let others = length-blanks count in omega arith

-- a space is an octet of ASCII and no carriage return
blank : (count place : ℕ) → slice_index (blanks count) place < 128
blank zero place = omega arith
blank (suc count) zero = omega arith
blank (suc count) (suc place) = blank count place

no_return : (count place : ℕ) → (slice_index (blanks count) place == 0x0D) ≡ false
no_return zero place = refl
no_return (suc count) zero = refl
no_return (suc count) (suc place) = no_return count place

-- a short text of spaces is the text of a line
is_text : (count : ℕ) → count ≤ LINE_OCTETS → IsText (blanks count)
is_text count short = record {
  short = let long = length-blanks count in omega (arith, long);
  utf8 = rw (no_return count (length (blanks count) - 1)) (IsUtf8-from_ascii (blanks count) (blank count));
}

too_long : (count : ℕ) → LINE_OCTETS < count → IsText (blanks count) → ⊥
too_long count above text = let long = length-blanks count in omega (arith, long, text.short)

pub returns : goal.returns
returns c = record { longest = is_text 4096 (omega arith); longer = too_long 4097 (omega arith) }
