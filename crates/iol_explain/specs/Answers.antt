-- The words for an answer.
use Rattle.std.specs.Prelude.{ℕ, Bool, true, false, if◌then◌else◌, List, ◌++◌, codes, Result, Ok, Err}
use Rattle.iol_link.specs.declared.faults.IsduFault.{IsduFault}
use Rattle.iol_link.specs.declared.messages.Answer.{Answer}
use Rattle.iol_link.specs.declared.messages.Answer.TheVariants.{ReadOk, ReadFault, WriteOk, WriteFault, Busy}
use Rattle.iol_texts.specs.ErrorTypes.{error_text}
use Rattle.iol_explain.specs.Requests.{isdu_fault_words}
use Rattle.iol_explain.specs.Values.{value_words}
use Rattle.iol_explain.specs.declared.request_words.Asked.{Asked}
use Rattle.iol_explain.specs.declared.request_words.Asked.TheVariants.{Read, Write}

-- the words for an answer to something else than was asked (format, Explained runs)
abbrev pub unasked : List ℕ
unasked = codes "an answer to something else than was asked"

-- the request was a read (own)
abbrev pub asks_read : Asked → Bool
asks_read (Read object) = true
asks_read asked = false

-- the request was a write (own)
abbrev pub asks_write : Asked → Bool
asks_write (Write object) = true
asks_write asked = false

-- the words for the positive answer to a write (format, Explained runs)
abbrev pub written_well : Asked → List ℕ
written_well (Write object) = codes "written"
written_well asked = unasked

-- the words for the positive answer to a read (format, Explained runs)
abbrev pub read_words : Asked → List ℕ → List ℕ
read_words (Read object) octets = value_words object octets
read_words asked octets = unasked

-- the words for a negative answer, or that it is an answer to something else than was asked (format, Explained runs)
abbrev pub refused_words : Bool → ℕ → ℕ → List ℕ
refused_words is_asked error additional = if is_asked then codes "refused: " ++ error_text error additional else unasked

-- the words for an answer to what was asked, or for the first fault of its octets (format, Explained runs)
abbrev pub answer_words : Asked → Result Answer IsduFault → List ℕ
answer_words asked (Ok (ReadOk octets)) = read_words asked octets.items
answer_words asked (Ok WriteOk) = written_well asked
answer_words asked (Ok (ReadFault error additional)) = refused_words (asks_read asked) error additional
answer_words asked (Ok (WriteFault error additional)) = refused_words (asks_write asked) error additional
answer_words asked (Ok Busy) = codes "Device busy: the device has no answer yet"
answer_words asked (Err fault) = codes "malformed, " ++ isdu_fault_words fault
