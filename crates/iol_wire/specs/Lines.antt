-- The meaning of a line of a driver.
use Rattle.std.specs.Prelude.{ℕ, ◌==◌, nat_le, if◌then◌else◌, List, [], ◌∷◌, length, filter_map, codes}
use Rattle.std.specs.Prelude.{Option, Some, None, is_some, slice_get, take, ◌-◌, false}
use Rattle.std.specs.Option.{option_map, option_map_or}
use Rattle.std.specs.List.{list_all}
use Rattle.std.specs.Str.{bytes_eq}
use Rattle.iol_link.specs.declared.parts.TheConstants.{ISDU_OCTETS}
use Rattle.iol_link.specs.declared.link.TheConstants.{PAGE_OCTETS}
use Rattle.iol_wire.specs.declared.line.Line.{Line}
use Rattle.iol_wire.specs.declared.line.Line.TheVariants.{Event, Answer, Malformed}
use Rattle.iol_wire.specs.declared.line.Reply.{Reply}
use Rattle.iol_wire.specs.declared.line.Reply.TheVariants.{Page, Isdu, Lost}
use Rattle.iol_wire.specs.declared.numeral.TheConstants.{DECIMAL}
use Rattle.iol_wire.specs.declared.reading.TheConstants.{CARRIAGE_RETURN}
use Rattle.iol_wire.specs.Words.{words}
use Rattle.iol_wire.specs.Numeral.{numeral, hexadecimal}

-- these octets without a carriage return at their end (format, Lines of a driver)
abbrev pub without_return : List ℕ → List ℕ
without_return line =
    if option_map_or (λ last. last == CARRIAGE_RETURN) (slice_get line (length line - 1)) false
    then take (length line - 1) line else line

-- the octets that words spell, each with two hexadecimal digits (format, Lines of a driver)
abbrev pub octets_in : List (List ℕ) → Option (List ℕ)
octets_in written =
    if list_all (λ word. is_some (hexadecimal 2 word)) written then Some (filter_map (hexadecimal 2) written) else None

-- the octets that words spell, if they are at most `most` (format, Lines of a driver)
abbrev pub octets_within : ℕ → List (List ℕ) → Option (List ℕ)
octets_within most written = if nat_le (length written) most then octets_in written else None

-- the page that words spell: 16 octets (format, Lines of a driver)
abbrev pub page_of : List (List ℕ) → Option Reply
page_of written = if length written == PAGE_OCTETS then option_map Page (octets_in written) else None

-- the answer to an ISDU request that words spell: 0 to 238 octets (format, Lines of a driver)
abbrev pub isdu_of : List (List ℕ) → Option Reply
isdu_of written = option_map (λ octets. Isdu (record { items = octets })) (octets_within ISDU_OCTETS written)

-- a loss has no further words (format, Lines of a driver)
abbrev pub lost_of : List (List ℕ) → Option Reply
lost_of [] = Some Lost
lost_of (_ ∷ _) = None

-- the reply of this kind with these words after it (format, Lines of a driver)
abbrev pub reply_of : List ℕ → List (List ℕ) → Option Reply
reply_of kind written =
    if bytes_eq kind (codes "page") then page_of written
    else if bytes_eq kind (codes "isdu") then isdu_of written
    else if bytes_eq kind (codes "lost") then lost_of written
    else None

-- the answer with this number and this reply (format, Lines of a driver)
abbrev pub answer_line : Option ℕ → Option Reply → Line
answer_line (Some number) (Some reply) = Answer number reply
answer_line (Some _) None = Malformed
answer_line None _ = Malformed

-- an event has its code and nothing else (format, Lines of a driver)
abbrev pub event_line : List ℕ → List (List ℕ) → Line
event_line code [] = option_map_or Event (hexadecimal 4 code) Malformed
event_line code (_ ∷ _) = Malformed

-- the meaning of words (format, Lines of a driver)
abbrev pub sentence : List (List ℕ) → Line
sentence [] = Malformed
sentence (_ ∷ []) = Malformed
sentence (first ∷ second ∷ more) =
    if bytes_eq first (codes "event") then event_line second more
    else answer_line (numeral DECIMAL first) (reply_of second more)

-- the meaning of a line, without its line feed (format, Lines of a driver)
abbrev pub meaning : List ℕ → Line
meaning line = sentence (words (without_return line))
