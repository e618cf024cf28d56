-- The lines that a link receives after a request.
use Rattle.std.specs.Prelude.{◌≡◌, ◌≢◌, ◌+◌, ◌-◌, ◌^◌, ◌<◌, ◌≤◌, ◌⊎◌, ℕ, List, [], ◌∷◌, ◌++◌, length, map, flat_map, filter_map, All}
use Rattle.std.specs.Prelude.{Option, Some, None}
use Rattle.iol_wire.specs.declared.line.Line.{Line}
use Rattle.iol_wire.specs.declared.line.Line.TheVariants.{Event, Answer, Malformed}
use Rattle.iol_wire.specs.declared.line.Reply.{Reply}
use Rattle.iol_wire.specs.declared.reading.TheConstants.{LINE_OCTETS}
use Rattle.iol_wire.specs.declared.transport.Position.{Position}
use Rattle.iol_wire.specs.declared.transport.Position.TheVariants.{LineStart, WithinLine}
use Rattle.iol_wire.specs.declared.writing.TheConstants.{LINE_FEED}
use Rattle.iol_wire.specs.Lines.{meaning}
use Rattle.iol_wire.specs.Transport.{TransportCall, Stayed, Opened, Received, Unheard}

-- the position of the next octets after a call of `connect` (own)
abbrev pub Connects : Position → TransportCall → Position → Type 0
Connects old Stayed new = new ≡ old
Connects old (Opened position) new = new ≡ position
Connects _ _ _ = ⊥

-- these octets contain no line feed, so they are within one line (format, Lines of a driver)
abbrev pub HasNoFeed : List ℕ → Type 0
HasNoFeed octets = All (λ octet. octet ≢ LINE_FEED) octets

-- a line with the line feed that ends it (format, Lines of a driver)
abbrev pub ended : List ℕ → List ℕ
ended line = line ++ LINE_FEED ∷ []

-- a whole line, without its line feed: at most 800 octets (format, Lines of a driver)
abbrev pub IsWhole : List ℕ → Type 0
IsWhole line = HasNoFeed line × (length line ≤ LINE_OCTETS)

-- the octets that are dropped before the next line: none at the start of a line, else the rest of the line
-- (format, Lines of a driver)
abbrev pub IsRest : Position → List ℕ → Type 0
IsRest LineStart dropped = dropped ≡ []
IsRest WithinLine dropped = (rest : List ℕ) × HasNoFeed rest × (dropped ≡ ended rest)

-- the position of the next octets after this part of a line (own)
abbrev pub position_after : List ℕ → Position
position_after [] = LineStart
position_after (_ ∷ _) = WithinLine

-- a line that is passed over: an event, or the answer to an earlier request (format, Lines of a driver)
abbrev pub Passes : ℕ → Line → Type 0
Passes number (Event _) = Unit {0}
Passes number (Answer earlier _) = earlier < number
Passes number Malformed = ⊥

-- a line that loses the device: a malformed one, or the answer to a later request (format, Lines of a driver)
abbrev pub Fails : ℕ → Line → Type 0
Fails number (Event _) = ⊥
Fails number (Answer later _) = number < later
Fails number Malformed = Unit {0}

-- the code of an event, if the line is one (own)
abbrev pub code_of : Line → Option ℕ
code_of (Event code) = Some code
code_of (Answer _ _) = None
code_of Malformed = None

-- the codes of the events among these lines, in order (own)
abbrev pub codes_in : List (List ℕ) → List ℕ
codes_in lines = filter_map (λ line. code_of (meaning line)) lines

-- the calls that receive these octets one by one (own)
abbrev pub received : List ℕ → List TransportCall
received octets = map Received octets

-- the octets received before the line that decides: the rest of a line, then whole lines that are passed over, with the codes
-- of their events (own)
pub record Passing (number : ℕ) (start : Position) (heard codes : List ℕ) : Type 0 where
  pub dropped : List ℕ
  pub lines : List (List ℕ)
  pub parts : heard ≡ dropped ++ flat_map ended lines
  pub rest : IsRest start dropped
  pub whole : All IsWhole lines
  pub passed : All (λ line. Passes number (meaning line)) lines
  pub in_order : codes ≡ codes_in lines

-- a whole line with this meaning, after lines that are passed over (own)
pub record Decides (number : ℕ) (start : Position) (Means : Line → Type 0) (calls : List TransportCall) (codes : List ℕ)
    (end : Position) : Type 0 where
  pub heard : List ℕ
  pub line : List ℕ
  pub passing : Passing number start heard codes
  pub whole : IsWhole line
  pub means : Means (meaning line)
  pub calls_are : calls ≡ received (heard ++ ended line)
  pub at_start : end ≡ LineStart

-- how a line fails to end: no octet comes, or there are 801 (format, Lines of a driver)
abbrev pub BreaksLine : List ℕ → List TransportCall → Position → Type 0
BreaksLine part ending end =
    HasNoFeed part × (end ≡ position_after part)
    × (((ending ≡ Unheard ∷ []) × (length part ≤ LINE_OCTETS)) ⊎ ((ending ≡ []) × (length part ≡ LINE_OCTETS + 1)))

-- the rest of a line does not end (own)
pub record SkipsRest (start : Position) (calls : List TransportCall) (end : Position) : Type 0 where
  pub dropped : List ℕ
  pub ending : List TransportCall
  pub unended : HasNoFeed dropped
  pub breaks : (ending ≡ Unheard ∷ []) ⊎ ((ending ≡ []) × (length dropped ≡ 2 ^ 64 - 1))
  pub calls_are : calls ≡ received dropped ++ ending
  pub within : (start ≡ WithinLine) × (end ≡ WithinLine)

-- a line that does not end, after lines that are passed over; or the largest number of lines was read (own)
pub record Ceases (number : ℕ) (start : Position) (calls : List TransportCall) (codes : List ℕ) (end : Position) : Type 0 where
  pub heard : List ℕ
  pub part : List ℕ
  pub ending : List TransportCall
  pub passing : Passing number start heard codes
  pub breaks : BreaksLine part ending end
      ⊎ ((ending ≡ []) × (part ≡ []) × (length passing.lines ≡ 2 ^ 64 - 1) × (end ≡ LineStart))
  pub calls_are : calls ≡ received (heard ++ part) ++ ending

-- what a link receives after the request with this number: its answer, or no answer (own)
abbrev pub Hears : ℕ → Position → List TransportCall → Option Reply → List ℕ → Position → Type 0
Hears number start calls (Some reply) codes end = Decides number start (λ line. line ≡ Answer number reply) calls codes end
Hears number start calls None codes end =
    Decides number start (Fails number) calls codes end ⊎ (Ceases number start calls codes end ⊎ (SkipsRest start calls end × (codes ≡ [])))
