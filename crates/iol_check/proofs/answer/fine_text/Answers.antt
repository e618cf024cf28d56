use Rattle.std.proofs.Common.{string_bytes, rules}
use Rattle.iol_script.specs.Script.{said_of}
use Rattle.iol_check.proofs.answer.fine_text.Goals as goal

-- the notes come after the line
pub returns : goal.returns
returns c = record {
  said = said_of c.args.script.now;
  says = c.requires;
  notes = string_bytes c.in_ok-notes.notes;
  tells = search rules;
}
