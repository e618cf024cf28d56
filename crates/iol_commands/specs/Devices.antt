-- The devices of a script, at the ports of a run.
use Rattle.std.specs.Prelude.{ℕ, zero, suc, ◌==◌, false, if◌then◌else◌, List, [], ◌∷◌, ◌++◌, map}
use Rattle.std.specs.List.{filter}
use Rattle.iol_transfer.specs.declared.property.State.TheVariants.{Inactive, Locked}
use Rattle.iol_script.specs.Device.{SaidDevice}
use Rattle.iol_script.specs.Parameters.{entries_of}
use Rattle.iol_script.specs.declared.device.Device as script
use Rattle.iol_sim.specs.Device.{Device}
use Rattle.iol_sim.specs.Parameters.{AreParameters}
use Rattle.iol_sim.specs.SimLink.{Sim, VisitValue, visit_of}

-- a simulated device may have the parameters of a device (format, Scripts)
abbrev pub MayVisit : script.Device → Type 0
MayVisit device = AreParameters (entries_of device.parameters.items)

-- a device as a script describes it, but without parameters (format, Scripts)
abbrev pub bare_device : SaidDevice → Device
bare_device said = record {
  vendor = said.vendor;
  device = said.device;
  revision = said.revision;
  isdu = said.isdu;
  parameters = [];
  state = if said.locked then Locked else Inactive;
  flag = said.flag;
  event = false;
}

-- a device as a script describes it (format, Scripts)
abbrev pub simulated : SaidDevice → Device
simulated said = record (bare_device said) { parameters = said.parameters }

-- the visit of a device: the number of calls that it answers until it is lost, and after which it requests an upload
-- (format, Scripts)
abbrev pub visit_by : SaidDevice → VisitValue
visit_by said = visit_of (simulated said) said.answers said.event

-- the link of a port: its devices one after another, in the order of the script (format, Scripts)
abbrev pub link_at : ℕ → List SaidDevice → Sim
link_at port devices = record {
  visits = map visit_by (filter (λ (said : SaidDevice). said.port == port) devices);
  place = 0;
  connection = 0;
}

-- a link for each of this number of ports, port 1 first (own)
abbrev pub links_of : ℕ → List SaidDevice → List Sim
links_of zero devices = []
links_of (suc ports) devices = links_of ports devices ++ link_at (suc ports) devices ∷ []
