-- The line of a port's status.
use Rattle.std.specs.Prelude.{ℕ, List, ◌++◌, codes, None}
use Rattle.std.specs.Fmt.{decimal}
use Rattle.iol_core.specs.Statuses.{Status}
use Rattle.iol_texts.specs.Texts.{status_text}
use Rattle.iol_texts.specs.Statuses.{status_words}

-- the words for a status if nothing else is known of the port's device (format, Lines of a serving master)
abbrev pub meaning_of : Status → List ℕ
meaning_of status = status_words None status

-- the line of the status of the port with this number: the status, and its words (format, Lines of a serving master)
abbrev pub status_line : ℕ → Status → List ℕ
status_line port status =
    codes "port " ++ (decimal port ++ (codes " " ++ (status_text status ++ (codes " # " ++ (meaning_of status ++ codes "\n")))))
