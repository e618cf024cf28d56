-- Requests in words: a verb, and pairs of a key and a value, each of which is a line of TOML.
use Rattle.std.specs.Prelude.{ℕ, Bool, ◌==◌, ◌||◌, if◌then◌else◌, List, [], ◌∷◌, ◌++◌, codes, Option, Some, None, option_and_then}
use Rattle.std.specs.List.{before_first, after_first}
use Rattle.toml.specs.Parse.{parse_document}
use Rattle.iol_requests.specs.Verb.{verb_name, verb_of}
use Rattle.iol_requests.specs.Request.{request_in}
use Rattle.iol_requests.specs.declared.verb.Verb.{Verb}
use Rattle.iol_requests.specs.declared.request.Request.{Request}
use Rattle.iol_requests.specs.declared.quote.Quote.{Quote}
use Rattle.iol_requests.specs.declared.quote.Quote.TheVariants.{Single, Double}

-- a blank: a space or a tab (format, Requests)
abbrev pub is_blank : ℕ → Bool
is_blank octet = octet == 0x20 || octet == 0x09

-- the octet of a quotation mark (TOML)
abbrev pub quote_octet : Quote → ℕ
quote_octet Double = 0x22
quote_octet Single = 0x27

-- the quotation mark that an octet is, if any (TOML)
abbrev pub quote_of : ℕ → Option Quote
quote_of octet = if octet == 0x22 then Some Double else if octet == 0x27 then Some Single else None

-- the quotes that are open after an octet, if any: quotes end at the next mark of the same kind (format, Requests)
abbrev pub within_after : Option Quote → ℕ → Option Quote
within_after None octet = quote_of octet
within_after (Some quote) octet = if octet == quote_octet quote then None else Some quote

-- an octet of a request as an octet of TOML: outside of quotes a blank ends a line (format, Requests)
abbrev pub as_toml : Option Quote → ℕ → ℕ
as_toml None octet = if is_blank octet then 0x0A else octet
as_toml (Some quote) octet = octet

-- the lines of TOML that pairs are, if these quotes are open at their first octet (format, Requests)
abbrev pub lines_of : Option Quote → List ℕ → List ℕ
lines_of within [] = []
lines_of within (octet ∷ others) = as_toml within octet ∷ lines_of (within_after within octet) others

-- the document of TOML of a verb and its pairs (format, Requests)
abbrev pub document_of : Verb → List ℕ → List ℕ
document_of verb pairs = codes "do = \"" ++ verb_name verb ++ codes "\"\n" ++ lines_of None pairs

-- the verb of a text, and its pairs: what is before and after the first blank (format, Requests)
abbrev pub verb_in : List ℕ → Option Verb
verb_in text = verb_of (before_first is_blank text)

abbrev pub pairs_in : List ℕ → List ℕ
pairs_in text = after_first is_blank text

-- the request of a text in words (format, Requests)
abbrev pub asked_in_words : List ℕ → Option Request
asked_in_words text =
    option_and_then (λ verb. option_and_then request_in (parse_document (document_of verb (pairs_in text)))) (verb_in text)
