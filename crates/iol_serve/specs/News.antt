-- The events of a serving master's news.
use Rattle.std.specs.Prelude.{◌≡◌, ◌≢◌, ◌-◌, List, Option, Some, None, slice_get, slice_set}
use Rattle.iol_port.specs.declared.status.PortStatus.{PortStatus}
use Rattle.iol_port.specs.declared.status.PortStatus.TheVariants.{Lost, Starting}
use Rattle.iol_master.specs.declared.news.News.{News}
use Rattle.iol_master.specs.declared.news.News.TheVariants as news
use Rattle.iol_answers.specs.declared.event.Event.{Event}
use Rattle.iol_answers.specs.declared.event.Event.TheVariants as event

-- the event reports what is new (own)
abbrev pub SaysNews : News → Event → Type 0
SaysNews (news.Status port status) said = said ≡ event.Status port status
SaysNews (news.Durable number) said = said ≡ event.Durable number

-- a status gets an event, after the status of the port's last event: it is another, and not that of a port that looks again for a device
-- that it has lost (format, Lines of a serving master)
pub record IsTold (last status : PortStatus) : Type 0 where
  pub other : status ≢ last
  pub no_look : last ≡ Lost → status ≢ Starting

-- news gets an event, after the statuses of the last events of the ports, port 1 first: more durable commands always do (own)
abbrev pub AreTold : List PortStatus → News → Type 0
AreTold told (news.Status port status) = (last : PortStatus) × (slice_get told (port - 1) ≡ Some last) × IsTold last status
AreTold told (news.Durable number) = Unit {0}

-- the statuses of the last events of the ports, once news has got an event (own)
abbrev pub told_with : List PortStatus → News → List PortStatus
told_with told (news.Status port status) = slice_set told (port - 1) status
told_with told (news.Durable number) = told

-- if news gets an event, the event reports it, and the statuses of the last events follow; if not, there is no event, and they stay (own)
abbrev pub Tells : List PortStatus → News → Option Event → List PortStatus → Type 0
Tells before news (Some event) after = AreTold before news × SaysNews news event × (after ≡ told_with before news)
Tells before news None after = (AreTold before news → ⊥) × (after ≡ before)
