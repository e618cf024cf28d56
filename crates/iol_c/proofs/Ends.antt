-- A session that is to end has ended, and one that is to open a flash has opened it.
use Rattle.std.proofs.Common.{◌≡◌, ◌==◌, Bool, true, false, not, Option, ap, subst, sym, true≢false, ◌∙◌}
use Rattle.iol_c.specs.Codes.{code_of}
use Rattle.iol_c.specs.Hosting.{Hosts, IsOpened}
use Rattle.core.specs.declared.option.Option.TheVariants.{None, Some}
use Rattle.iol_handed.specs.Master.{HandedMasterView}
use Rattle.iol_handed.specs.Opening.{OpeningView}
use Rattle.iol_handed.specs.Running.{is_end}
use Rattle.iol_handed.specs.Serving.{Serves, ServesAt}
use Rattle.iol_handed.specs.Sessions.{SessionView, ended}
use Rattle.iol_handed.specs.declared.ask.SessionAnswer.{SessionAnswer}
use Rattle.iol_handed.specs.declared.ask.Ask.{Ask}
use Rattle.iol_handed.specs.declared.ask.Ask.TheVariants as ask

ends_at : (flash : Option OpeningView) (master : Option HandedMasterView) (new : SessionView) (said : SessionAnswer)
    → ServesAt flash master ask.End new said → new ≡ ended
ends_at (Some flash) master new said serves = serves.1
ends_at None (Some master) new said serves = serves.1
ends_at None None new said serves = serves.1

pub end_ends : (asked : Ask) (old new : SessionView) (said : SessionAnswer) → is_end asked ≡ true → Serves asked old new said → new ≡ ended
end_ends ask.End old new said is serves = ends_at old.opening old.running new said serves
end_ends (ask.Submit change) old new said is serves = absurd (true≢false (sym is))
end_ends ask.DiskNext old new said is serves = absurd (true≢false (sym is))
end_ends (ask.DiskDone made) old new said is serves = absurd (true≢false (sym is))
end_ends (ask.DiskRead octets) old new said is serves = absurd (true≢false (sym is))
end_ends (ask.Port port asked) old new said is serves = absurd (true≢false (sym is))
end_ends (ask.Status port) old new said is serves = absurd (true≢false (sym is))
end_ends ask.Numbers old new said is serves = absurd (true≢false (sym is))
end_ends (ask.View port) old new said is serves = absurd (true≢false (sym is))
end_ends (ask.Entry port which place) old new said is serves = absurd (true≢false (sym is))
end_ends (ask.Open flash) old new said is serves = absurd (true≢false (sym is))

pub hosts_ended : (asked : Ask) (was_open : Bool) (old : SessionView) (is_open : Bool) (new after : SessionView) (said : SessionAnswer)
    → was_open ≡ true → is_open ≡ false → new ≡ ended → is_end asked ≡ true → Serves asked old after said
    → Hosts asked was_open old is_open new said
hosts_ended asked was_open old is_open new after said there closed none is serves =
    subst (λ (t : Bool). Hosts asked t old is_open new said) (sym there) (
      closed ∙ sym (ap not is),
      subst (λ (seen : SessionView). Serves asked old seen said) (end_ends asked old after said is serves ∙
          sym none) serves,
    )

pub is_opened : (was_open : Bool) (flash : OpeningView) (old : SessionView) (is_open : Bool) (new : SessionView) (said : SessionAnswer)
    → Hosts (ask.Open flash) was_open old is_open new said → IsOpened (code_of said == 0) flash is_open new
is_opened true flash old is_open new said hosts =
    subst (λ (answered : SessionAnswer). IsOpened (code_of answered == 0) flash is_open new) (sym hosts.1.0) (hosts.0, hosts.1.1)
is_opened false flash old is_open new said hosts =
    subst (λ (answered : SessionAnswer). IsOpened (code_of answered == 0) flash is_open new) (sym hosts.2) (hosts.0, hosts.1)
