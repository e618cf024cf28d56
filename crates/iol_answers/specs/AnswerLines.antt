-- The lines of an answer in words.
use Rattle.std.specs.Prelude.{ℕ, List, ◌++◌, codes}
use Rattle.std.specs.Fmt.{decimal}
use Rattle.std.specs.List.{flat_map}
use Rattle.iol_port.specs.Telling.{status_told}
use Rattle.iol_texts.specs.Recovered.{port_text}
use Rattle.iol_answers.specs.Help.{help_texts}
use Rattle.iol_answers.specs.Refusals.{name_of, words_of}
use Rattle.iol_answers.specs.Statuses.{status_line}
use Rattle.iol_answers.specs.declared.answer.RequestAnswer.{RequestAnswer}
use Rattle.iol_answers.specs.declared.answer.RequestAnswer.TheVariants as answer
use Rattle.iol_answers.specs.declared.refusal.Refusal.{Refusal}
use Rattle.iol_answers.specs.declared.report.PortReport.{PortReport}

-- a change is durable, and its command has this number (format, Lines of a serving master)
abbrev pub receipt_line : ℕ → List ℕ
receipt_line number = codes "receipt " ++ (decimal number ++ codes "\n")

-- a request is refused or has failed: its name and its words (format, Lines of a serving master)
abbrev pub refused_line : Refusal → List ℕ
refused_line refusal = codes "refused " ++ (name_of refusal ++ (codes " # " ++ (words_of refusal ++ codes "\n")))

-- the line of a port whose status was requested (format, Lines of a serving master)
abbrev pub report_line : PortReport → List ℕ
report_line report = status_line report.port (status_told report.status)

-- a line that is no request, with what is wrong (format, Lines of a serving master)
abbrev pub wrong_line : List ℕ → List ℕ
wrong_line mistake = codes "wrong: " ++ (mistake ++ codes "\n")

-- a text, and a line feed (own)
abbrev pub with_line_feed : List ℕ → List ℕ
with_line_feed text = text ++ codes "\n"

-- each request, on a line of its own (format, Lines of a serving master)
abbrev pub help_lines : List ℕ
help_lines = flat_map with_line_feed help_texts

-- the lines of an answer (format, Lines of a serving master)
abbrev pub answer_lines : RequestAnswer → List ℕ
answer_lines (answer.Receipt number) = receipt_line number
answer_lines (answer.Refused refusal) = refused_line refusal
answer_lines (answer.Port port state) = port_text port state.now
answer_lines (answer.Statuses reports) = flat_map report_line reports.now
answer_lines (answer.Wrong mistake) = wrong_line mistake.now
answer_lines answer.Help = help_lines
