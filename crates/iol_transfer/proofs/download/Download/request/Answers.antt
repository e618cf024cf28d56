use Rattle.std.proofs.Common.{sym, ap, ◌∙◌}
use Rattle.iol_types.specs.DataSet.{SetValue}
use Rattle.iol_transfer.specs.declared.download.Progress.TheVariants.{Writing}
use Rattle.iol_transfer.specs.Download.{Sender, sent_by, sends_of}
use Rattle.iol_transfer.proofs.Sending.{writing-entry, writing-end}
use Rattle.iol_transfer.proofs.download.Download.request.Goals as goal

pub returns-in-Some : goal.returns-in-Some
returns-in-Some c =
    c.write.ensures
    ∙ sym (writing-entry _ c.in-Writing.place _ c.in-Some.ensures.entry)
    ∙ ap (λ (set : SetValue). sent_by (sends_of set.entries (Writing c.in-Writing.place))) c.deref.ensures
    ∙ ap (λ progress. sent_by (sends_of c.self.inside.set.value.entries progress)) (sym c.in-Writing.is)
    ∙ ap (λ (sender : Sender). sent_by sender.sends) c.self.view_is

pub returns-in-None : goal.returns-in-None
returns-in-None c =
    c.request-in-None.ensures
    ∙ sym (writing-end _ c.in-Writing.place c.in-None.ensures.entry)
    ∙ ap (λ (set : SetValue). sent_by (sends_of set.entries (Writing c.in-Writing.place))) c.deref.ensures
    ∙ ap (λ progress. sent_by (sends_of c.self.inside.set.value.entries progress)) (sym c.in-Writing.is)
    ∙ ap (λ (sender : Sender). sent_by sender.sends) c.self.view_is
