-- The request of a line.
use Rattle.std.specs.Prelude.{◌≡◌, ℕ, Bool, true, false, ◌==◌, ◌||◌, ◌-◌, ◌≤◌, if◌then◌else◌, List, length, take, slice_index}
use Rattle.std.specs.Prelude.{Option, Some, None, option_map, IsUtf8}
use Rattle.std.specs.List.{list_all}
use Rattle.iol_requests.specs.Id.{IdValue, id_value}
use Rattle.iol_requests.specs.Json.{Asking, asked_in_json, id_in_json}
use Rattle.iol_requests.specs.Words.{is_blank, asked_in_words}
use Rattle.iol_requests.specs.declared.line.Line.{Line}
use Rattle.iol_requests.specs.declared.line.Line.TheVariants.{Nothing, Asked, Wrong}
use Rattle.iol_requests.specs.declared.line.Spelling.{Spelling}
use Rattle.iol_requests.specs.declared.line.Spelling.TheVariants.{Words, Json}
use Rattle.iol_requests.specs.declared.line.TheConstants.{LINE_OCTETS}

-- the text of a line: a carriage return at its end is dropped (format, Requests)
abbrev pub text_of : List ℕ → List ℕ
text_of octets = if slice_index octets (length octets - 1) == 0x0D then take (length octets - 1) octets else octets

-- a line has at most 4,096 octets before its line feed, and is UTF-8 (format, Requests)
pub record IsText (octets : List ℕ) : Type 0 where
  pub short : length octets ≤ LINE_OCTETS
  pub utf8 : IsUtf8 (text_of octets)

-- a text is neither a request nor a mistake: it has only blanks, or begins with a number sign (format, Requests)
abbrev pub is_nothing : List ℕ → Bool
is_nothing text = list_all is_blank text || slice_index text 0 == 0x23

-- how a text is spelled: one that begins with a brace is JSON (format, Requests)
abbrev pub spelling_of : List ℕ → Spelling
spelling_of text = if slice_index text 0 == 0x7B then Json else Words

-- the request of a text that is spelled like this (format, Requests)
abbrev pub asked_as : Spelling → List ℕ → Option Asking
asked_as Words text = option_map (λ request. record { id = None; request = request }) (asked_in_words text)
asked_as Json text = asked_in_json text

-- the request of a text (format, Requests)
abbrev pub asked_in : List ℕ → Option Asking
asked_in text = asked_as (spelling_of text) text

-- the id of a text that is wrong: only one in JSON may have it (format, Requests)
abbrev pub id_as : Spelling → List ℕ → Option IdValue
id_as Words text = None
id_as Json text = id_in_json text

abbrev pub id_in : List ℕ → Option IdValue
id_in text = id_as (spelling_of text) text

-- the octets of a line are neither a request nor a mistake (format, Requests)
pub record SaysNothing (octets : List ℕ) : Type 0 where
  pub line : IsText octets
  pub nothing : is_nothing (text_of octets) ≡ true

-- the octets of a line are this request (format, Requests)
pub record Says (octets : List ℕ) (asking : Asking) : Type 0 where
  pub line : IsText octets
  pub something : is_nothing (text_of octets) ≡ false
  pub asked : asked_in (text_of octets) ≡ Some asking

-- the octets of a line are a mistake: neither nothing nor any request (format, Requests)
pub record SaysWrong (octets : List ℕ) : Type 0 where
  pub something : SaysNothing octets → ⊥
  pub no_request : (asking : Asking) → Says octets asking → ⊥

-- a claim about a line that is nothing, about one that is a request, and about one that is wrong (own)
abbrev pub IfNothing : Line → Type 0 → Type 0
IfNothing Nothing fact = fact
IfNothing (Asked id spelling request) fact = Unit {0}
IfNothing (Wrong id spelling mistake) fact = Unit {0}

abbrev pub IfAsked : Line → (Asking → Spelling → Type 0) → Type 0
IfAsked Nothing fact = Unit {0}
IfAsked (Asked id spelling request) fact = fact (record { id = option_map id_value id; request = request }) spelling
IfAsked (Wrong id spelling mistake) fact = Unit {0}

abbrev pub IfWrong : Line → (Option IdValue → Spelling → Type 0) → Type 0
IfWrong Nothing fact = Unit {0}
IfWrong (Asked id spelling request) fact = Unit {0}
IfWrong (Wrong id spelling mistake) fact = fact (option_map id_value id) spelling
