-- Why a request is refused or has failed, in a name and in words.
use Rattle.std.specs.Prelude.{ℕ, List, codes}
use Rattle.iol_types.specs.declared.command.CommandFault.TheVariants as fault
use Rattle.iol_core.specs.Telling.{refusal_of}
use Rattle.iol_core.specs.Statuses as trace
use Rattle.iol_texts.specs.Texts.{refusal_name}
use Rattle.iol_texts.specs.Refusals.{refusal_words}
use Rattle.iol_answers.specs.declared.refusal.Refusal.{Refusal}
use Rattle.iol_answers.specs.declared.refusal.Refusal.TheVariants as refusal

-- the name of the cause why a request is refused or has failed (format, Lines of a serving master)
abbrev pub name_of : Refusal → List ℕ
name_of (refusal.Submit cause) = refusal_name (refusal_of cause)
name_of refusal.Memory = codes "Memory"
name_of refusal.Unsure = codes "Unsure"
name_of refusal.Unwritten = codes "Unwritten"
name_of refusal.UnknownPort = codes "UnknownPort"
name_of refusal.Behind = codes "Behind"

-- why a request is refused or has failed, and what to do (format, Lines of a serving master)
abbrev pub words_of : Refusal → List ℕ
words_of (refusal.Submit cause) = refusal_words (refusal_of cause)
words_of refusal.Memory = codes "out of memory, nothing was asked for: ask again"
words_of refusal.Unsure = codes "the disk failed before it was known to be durable: after a recovery it may be there or not"
words_of refusal.Unwritten = codes "out of memory to write it: it is written once memory is there, if that is before the master ends"
words_of refusal.UnknownPort = refusal_words (trace.Command fault.UnknownPort)
words_of refusal.Behind = codes "what is durable is not yet read as far as this client has seen: ask again"
