use Rattle.std.proofs.Common.{sym, ap, ◌∙◌, is_some}
use Rattle.iol_types.specs.Key.{same_key}
use Rattle.iol_types.specs.DataSet.{data_at}
use Rattle.iol_types.proofs.Kept.{is_some-entries_of}
use Rattle.iol_types.proofs.kept_entries.Entries.has.Goals as goal

pub returns : goal.returns
returns c =
    c.contains_key.ensures
    ∙ sym (is_some-entries_of c.self.inside.parts (same_key c.args.key) c.self.inside.places.entries)
    ∙ ap (λ entries. is_some (data_at entries c.args.key)) c.self.view_is
