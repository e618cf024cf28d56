use Rattle.std.proofs.Common.{ℕ, zero, suc, ◌<◌, ◌≤◌, slice_index, arith}
use Rattle.std.proofs.lemmas.List.{length-replicate}
use Rattle.std.proofs.lemmas.Str.{IsUtf8-from_ascii}
use Rattle.iol_script.specs.Script.{IsText}
use Rattle.iol_script.specs.Examples.{blanks}
use Rattle.iol_script.specs.declared.script.TheConstants.{SCRIPT_OCTETS}
use Rattle.iol_script.proofs.examples.text_lengths.Goals as goal

-- a space is an octet of ASCII
blank : (count place : ℕ) → slice_index (blanks count) place < 128
blank zero place = omega arith
blank (suc count) zero = omega arith
blank (suc count) (suc place) = blank count place

-- a short text of spaces may be a script
is_text : (count : ℕ) → count ≤ SCRIPT_OCTETS → IsText (blanks count)
is_text count short = record {
  short = let long = length-replicate {A = ℕ} count 0x20 in omega (arith, long);
  utf8 = IsUtf8-from_ascii (blanks count) (blank count);
}

too_long : (count : ℕ) → SCRIPT_OCTETS < count → IsText (blanks count) → ⊥
too_long count above text = let long = length-replicate {A = ℕ} count 0x20 in omega (arith, long, text.short)

pub returns : goal.returns
returns c = record { longest = is_text 65536 (omega arith); longer = too_long 65537 (omega arith) }
