-- How a request is written.
use Rattle.std.specs.Prelude.{ℕ, ◌/◌, ◌%◌, ◌≤◌, List, [], ◌∷◌, ◌++◌, length, codes, decimal, flat_map, slice_index}
use Rattle.iol_link.specs.declared.parts.TheConstants.{ISDU_OCTETS}
use Rattle.iol_wire.specs.declared.writing.TheConstants.{LINE_FEED}
use Rattle.iol_wire.specs.declared.writing.Request.{Request}
use Rattle.iol_wire.specs.declared.writing.Request.TheVariants as request
use Rattle.iol_wire.specs.declared.words.TheConstants.{BLANK}

-- a request to a driver: for the page, or for the answer to the octets of an ISDU
-- (format, Lines of a driver)
pub data Asked : Type 0 where
  Page : Asked
  Isdu : (octets : List ℕ) → Asked

-- the request in the code, as a request to a driver (own)
abbrev pub asked_of : Request → Asked
asked_of request.Page = Page
asked_of (request.Isdu octets) = Isdu octets.now

-- the request fits a line: an ISDU has at most 238 octets (format, Lines of a driver)
abbrev pub FitsLine : Asked → Type 0
FitsLine Page = Unit {0}
FitsLine (Isdu octets) = length octets ≤ ISDU_OCTETS

-- a hexadecimal digit of upper case (format, Lines of a driver)
abbrev pub hexadecimal_digit : ℕ → ℕ
hexadecimal_digit value = slice_index (codes "0123456789ABCDEF") value

-- an octet as a word, after its blank (format, Lines of a driver)
abbrev pub octet_word : ℕ → List ℕ
octet_word octet = BLANK ∷ hexadecimal_digit (octet / 16) ∷ hexadecimal_digit (octet % 16) ∷ []

-- the request, as words (format, Lines of a driver)
abbrev pub asked_words : Asked → List ℕ
asked_words Page = codes " page"
asked_words (Isdu octets) = codes " isdu" ++ flat_map octet_word octets

-- the single line of a request with this number, with its line feed (format, Lines of a driver)
abbrev pub request_line : ℕ → Asked → List ℕ
request_line number asked = decimal number ++ asked_words asked ++ LINE_FEED ∷ []
