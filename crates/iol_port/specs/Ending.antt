-- The end of a port's machine.
use Rattle.iol_core.specs.Core.{CoreView}
use Rattle.iol_core.specs.Permits.{without_upload, without_download}
use Rattle.iol_port.specs.Stage.{Stage, Uploading, Filing, Downloading, Breaking, Returning}
use Rattle.iol_port.specs.declared.stage.Held.{Held}
use Rattle.iol_port.specs.declared.stage.Held.TheVariants as held

-- the core without a permit that was held (own)
abbrev pub released : CoreView → Held → CoreView
released core (held.Upload permit) = without_upload core permit
released core (held.Download permit) = without_download core permit

-- the core without the permit that a stage holds, if it holds one (own)
abbrev pub ended : CoreView → Stage → CoreView
ended core (Uploading grant page upload) = without_upload core grant
ended core (Filing grant page set) = without_upload core grant
ended core (Downloading port page download) = without_download core port
ended core (Breaking holds fault) = released core holds
ended core (Returning holds rest) = released core holds
ended core _ = core
