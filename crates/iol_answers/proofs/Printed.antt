-- Each octet of a value's compact text is printable, so that the text is on one line.
use Rattle.std.proofs.Common.{◌≡◌, ◌≤◌, ◌/◌, ◌%◌, ◌==◌, ℕ, zero, suc, List, [], ◌∷◌, ◌++◌, Bool, true, false, cond, refl}
use Rattle.std.proofs.Common.{arith, lit≤, decimal}
use Rattle.std.specs.Prelude.{All, nat_lt, pos, negsuc}
use Rattle.std.specs.Char.{digit_char}
use Rattle.std.specs.Fmt.{digits, digits_onto, digit_glyph}
use Rattle.std.proofs.lemmas.Bool.Decides.{nat_tests}
use Rattle.std.proofs.lemmas.List.Elements.{All-nil, All-cons, All-append}
use Rattle.json.specs.Print.{escape, escape_byte, escape_letter, quoted}
use Rattle.serde_json.specs.Data.{Num, unsigned, negative, float, Data, null, boolean, number, string, array, object, Items, no_items, item}
use Rattle.serde_json.specs.Data.{Members, no_members, member}
use Rattle.serde_json.specs.Written.{number_text, comma_if, compact_text, items_text, members_text}

-- each octet is printable: 32 or more
abbrev pub ArePrinted : List ℕ → Type 0
ArePrinted octets = All (λ octet. 32 ≤ octet) octets

none : ArePrinted []
none = All-nil (λ octet. 32 ≤ octet)

one : (octet : ℕ) (octets : List ℕ) → 32 ≤ octet → ArePrinted octets → ArePrinted (octet ∷ octets)
one octet octets here others = All-cons (λ octet. 32 ≤ octet) octet octets here others

both : (front back : List ℕ) → ArePrinted front → ArePrinted back → ArePrinted (front ++ back)
both front back one_ other = All-append (λ octet. 32 ≤ octet) front back one_ other

-- one of two texts, each of which is printable if it is chosen
either : (test : Bool) (chosen other : List ℕ) → (test ≡ true → ArePrinted chosen) → (test ≡ false → ArePrinted other)
    → ArePrinted (cond test chosen other)
either true chosen other first second = first refl
either false chosen other first second = second refl

glyph_printed : (digit : ℕ) → 32 ≤ digit_glyph false digit
glyph_printed digit = grind (arith, nat_tests)

char_printed : (digit : ℕ) → 32 ≤ digit_char digit
char_printed digit = grind (arith, nat_tests)

digits_printed : (count n : ℕ) (after : List ℕ) → ArePrinted after → ArePrinted (digits_onto count 10 false n after)
digits_printed zero n after printed = printed
digits_printed (suc count) n after printed =
    let more = one (digit_glyph false (n % 10)) after (glyph_printed (n % 10)) printed in
    either (n / 10 == 0) (digit_glyph false (n % 10) ∷ after) (digits_onto count 10 false (n / 10) (digit_glyph false (n % 10) ∷ after))
    (λ _. more) (λ _. digits_printed count (n / 10) (digit_glyph false (n % 10) ∷ after) more)

decimal_printed : (n : ℕ) → ArePrinted (decimal n)
unfolding digits
decimal_printed n = digits_printed 64 n [] none

number_printed : (n : Num) → ArePrinted (number_text n)
number_printed (unsigned n) = decimal_printed n
number_printed (negative (pos n)) = decimal_printed n
number_printed (negative (negsuc n)) = one 45 (decimal (suc n)) (lit≤ tt) (decimal_printed (suc n))
number_printed (float x) = none

letter_printed : (octet : ℕ) → nat_lt 0 (escape_letter octet) ≡ true → 32 ≤ escape_letter octet
letter_printed octet some = grind (arith, nat_tests)

-- a word of four octets
word_printed : (first second third fourth : ℕ) → 32 ≤ first → 32 ≤ second → 32 ≤ third → 32 ≤ fourth
    → ArePrinted (first ∷ second ∷ third ∷ fourth ∷ [])
word_printed first second third fourth a b c d =
    one first (second ∷ third ∷ fourth ∷ []) a (one second (third ∷ fourth ∷ []) b (one third (fourth ∷ []) c (one fourth [] d none)))

unicode_printed : ArePrinted (92 ∷ 117 ∷ 48 ∷ 48 ∷ [])
unicode_printed = word_printed 92 117 48 48 (lit≤ tt) (lit≤ tt) (lit≤ tt) (lit≤ tt)

high_printed : (octet : ℕ) → nat_lt octet 32 ≡ false → 32 ≤ octet
high_printed octet high = grind (arith, nat_tests)

escaped_printed : (octet : ℕ) → ArePrinted (escape_byte octet)
unfolding escape_byte
escaped_printed octet =
    let last = one (digit_char (octet % 16)) [] (char_printed (octet % 16)) none in
    let both_ = one (digit_char (octet / 16)) (digit_char (octet % 16) ∷ []) (char_printed (octet / 16)) last in
    either (nat_lt 0 (escape_letter octet)) (92 ∷ escape_letter octet ∷ [])
    (cond (nat_lt octet 32) (92 ∷ 117 ∷ 48 ∷ 48 ∷ digit_char (octet / 16) ∷ digit_char (octet % 16) ∷ []) (octet ∷ []))
    (λ some. one 92 (escape_letter octet ∷ []) (lit≤ tt) (one (escape_letter octet) [] (letter_printed octet some) none))
    (λ _. either (nat_lt octet 32) (92 ∷ 117 ∷ 48 ∷ 48 ∷ digit_char (octet / 16) ∷ digit_char (octet % 16) ∷ []) (octet ∷ [])
    (λ _. both (92 ∷ 117 ∷ 48 ∷ 48 ∷ []) (digit_char (octet / 16) ∷ digit_char (octet % 16) ∷ []) unicode_printed both_)
    (λ high. one octet [] (high_printed octet high) none))

escape_printed : (octets : List ℕ) → ArePrinted (escape octets)
escape_printed [] = none
escape_printed (octet ∷ octets) = both (escape_byte octet) (escape octets) (escaped_printed octet) (escape_printed octets)

quoted_printed : (octets : List ℕ) → ArePrinted (quoted octets)
quoted_printed octets =
    one 34 (escape octets ++ 34 ∷ []) (lit≤ tt) (both (escape octets) (34 ∷ []) (escape_printed octets) (one 34 [] (lit≤ tt) none))

comma_printed : (later : Bool) → ArePrinted (comma_if later)
comma_printed true = one 44 [] (lit≤ tt) none
comma_printed false = none

null_printed : ArePrinted (110 ∷ 117 ∷ 108 ∷ 108 ∷ [])
null_printed = word_printed 110 117 108 108 (lit≤ tt) (lit≤ tt) (lit≤ tt) (lit≤ tt)

true_printed : ArePrinted (116 ∷ 114 ∷ 117 ∷ 101 ∷ [])
true_printed = word_printed 116 114 117 101 (lit≤ tt) (lit≤ tt) (lit≤ tt) (lit≤ tt)

false_printed : ArePrinted (102 ∷ 97 ∷ 108 ∷ 115 ∷ 101 ∷ [])
false_printed = one 102 (97 ∷ 108 ∷ 115 ∷ 101 ∷ []) (lit≤ tt) (word_printed 97 108 115 101 (lit≤ tt) (lit≤ tt) (lit≤ tt) (lit≤ tt))

mutual
  -- the compact text of a value is printable
  pub compact_printed : (value : Data) → ArePrinted (compact_text value)
  compact_printed null = null_printed
  compact_printed (boolean true) = true_printed
  compact_printed (boolean false) = false_printed
  compact_printed (number n) = number_printed n
  compact_printed (string text) = quoted_printed text
  compact_printed (array items) = one 91 (items_text false items) (lit≤ tt) (items_printed false items)
  compact_printed (object members) = one 123 (members_text false members) (lit≤ tt) (members_printed false members)

  items_printed : (later : Bool) (items : Items) → ArePrinted (items_text later items)
  items_printed later no_items = one 93 [] (lit≤ tt) none
  items_printed later (item value items) =
      both (comma_if later) (compact_text value ++ items_text true items) (comma_printed later)
      (both (compact_text value) (items_text true items) (compact_printed value) (items_printed true items))

  members_printed : (later : Bool) (members : Members) → ArePrinted (members_text later members)
  members_printed later no_members = one 125 [] (lit≤ tt) none
  members_printed later (member name value members) =
      both (comma_if later) (quoted name ++ 58 ∷ (compact_text value ++ members_text true members)) (comma_printed later)
      (both (quoted name) (58 ∷ (compact_text value ++ members_text true members)) (quoted_printed name)
      (one 58 (compact_text value ++ members_text true members) (lit≤ tt)
      (both (compact_text value) (members_text true members) (compact_printed value) (members_printed true members))))
