-- The lines of an event, with its words.
use Rattle.std.specs.Prelude.{ℕ, List, [], ◌++◌, codes}
use Rattle.std.specs.Fmt.{decimal}
use Rattle.std.specs.Option.{option_map_or}
use Rattle.iol_link.specs.Page.{page_of}
use Rattle.iol_link.specs.Reading.{answer_of, request_of}
use Rattle.iol_core.specs.Events.{Event, Accepted, Refused, Page, Exchange, Lost, Attended, Changed, Acknowledged, DiskFailed}
use Rattle.iol_core.specs.Statuses.{Status}
use Rattle.iol_texts.specs.Texts.{spaced}
use Rattle.iol_texts.specs.Texts.{refusal_name, status_text}
use Rattle.iol_explain.specs.Answers.{answer_words}
use Rattle.iol_explain.specs.Known.{row_known}
use Rattle.iol_explain.specs.Pages.{page_words}
use Rattle.iol_texts.specs.Refusals.{refusal_words}
use Rattle.iol_explain.specs.Requests.{asked_by, request_words}
use Rattle.iol_texts.specs.Statuses.{status_words}
use Rattle.iol_explain.specs.declared.known.Known.{Known}

-- words after a line (format, Explained runs)
abbrev pub with_words : List ℕ → List ℕ
with_words words = codes "  # " ++ (words ++ codes "\n")

-- the line of a port with a word or a sign and octets, and its words (format, Explained runs)
abbrev pub octets_line : ℕ → List ℕ → List ℕ → List ℕ → List ℕ
octets_line port sign octets words = codes "port " ++ (decimal port ++ (sign ++ (spaced octets ++ with_words words)))

-- the line of a request (format, Explained runs)
abbrev pub request_line : ℕ → List ℕ → List ℕ
request_line port request = octets_line port (codes " >") request (request_words (request_of request))

-- the lines of an exchange: that of the request, and that of the answer to it (format, Explained runs)
abbrev pub exchange_lines : ℕ → List ℕ → List ℕ → List ℕ
exchange_lines port request answer =
    request_line port request ++ octets_line port (codes " <") answer (answer_words (asked_by (request_of request)) (answer_of answer))

-- the line of a page (format, Explained runs)
abbrev pub page_line : ℕ → List ℕ → List ℕ
page_line port octets = octets_line port (codes " page") octets (page_words (page_of octets))

-- the line of a loss (format, Explained runs)
abbrev pub loss_line : ℕ → List ℕ
loss_line port =
    codes "port " ++ (decimal port ++ (codes " lost" ++ with_words (codes "no device answers: check the cable, and connect a device")))

-- the words that all commands up to a number are durable (format, Explained runs)
abbrev pub durable_words : ℕ → List ℕ
durable_words number = codes "all commands up to " ++ (decimal number ++ codes " are durable")

-- the line of an acknowledgement (format, Explained runs)
abbrev pub acknowledged_line : ℕ → List ℕ
acknowledged_line number = codes "acknowledged " ++ (decimal number ++ with_words (durable_words number))

-- the line of a status, given what is known of its port (format, Explained runs)
abbrev pub status_line : Known → ℕ → Status → List ℕ
status_line known port status =
    codes "port " ++ (decimal port ++ (codes " " ++ (status_text status ++ with_words (status_words (row_known known) status))))

-- the lines of an event, given what is known of its port (format, Explained runs)
abbrev pub event_lines : Known → Event → List ℕ
event_lines known (Accepted number command) = codes "accepted " ++ (decimal number ++ with_words (codes "waits for the disk"))
event_lines known (Refused refusal) = codes "refused " ++ (refusal_name refusal ++ with_words (refusal_words refusal))
event_lines known (Page port connection octets) = page_line port octets
event_lines known (Exchange port connection request answer) = exchange_lines port request answer
event_lines known (Lost port connection request) = option_map_or (request_line port) request [] ++ loss_line port
event_lines known (Attended port work) = []
event_lines known (Changed port status) = status_line known port status
event_lines known (Acknowledged number) = acknowledged_line number
event_lines known DiskFailed = codes "disk failed" ++ with_words (codes "the disk call before this line failed: nothing more is written")
