-- The records of a state's ports, as they are written into an area and read again.
use Rattle.std.proofs.Common.{◌≡◌, ◌≤◌, ◌<◌, ℕ, ◌+◌, ◌-◌, ◌*◌, List, [], ◌∷◌, ◌++◌, length, replicate, Some, Ok, refl, ◌∙◌, ap, subst}
use Rattle.std.proofs.Common.{arith, append_assoc, length-append}
use Rattle.std.proofs.lemmas.List.{length-replicate}
use Rattle.std.proofs.lemmas.List.FromFn.{length-map-range_with_len}
use Rattle.iol_types.specs.State.{Port, State, IsPort}
use Rattle.iol_record.specs.Reading.{port_record_at}
use Rattle.iol_record.specs.Record.{port_octets, largest_port_record}
use Rattle.iol_record.proofs.RecordLaws.{IsPortIn, length-port_octets, port_record_at-record}
use Rattle.iol_record.specs.declared.version.Version.{Version}
use Rattle.iol_disk.specs.Content.{Image}
use Rattle.iol_disk.specs.Calls.{write}
use Rattle.iol_disk.specs.declared.disk.TheConstants.{SECTOR_OCTETS}
use Rattle.iol_layout.specs.AreaWrites.{record_writes, port_writes, IsRow, HasWrites}
use Rattle.iol_layout.specs.Layout.{Layout, port_at}
use Rattle.iol_layout.specs.Meaning.{port_of, port_in, ports_from}
use Rattle.iol_layout.specs.Octets.{octets_at, padded, sectors_reached, sector_of}
use Rattle.iol_layout.specs.declared.area.Area.{Area}
use Rattle.iol_layout.proofs.Bodies.{octets_at-in_slot}
use Rattle.iol_layout.proofs.Rows.{row-append, row-map, has-append, has-map}

-- each port is in its ranges, and a version can encode it
abbrev pub ArePorts : Version → State → Type 0
ArePorts version [] = Unit {0}
ArePorts version (port ∷ ports) = IsPortIn version port × ArePorts version ports

pub ports-append : (version : Version) (first second : State) → ArePorts version first → ArePorts version second
    → ArePorts version (first ++ second)
ports-append version [] second a b = b
ports-append version (port ∷ first) second a b = (a.0, ports-append version first second a.1 b)

-- ---- one record

-- padded octets fill their sectors
pub length-padded : (octets : List ℕ) → length (padded octets) ≡ SECTOR_OCTETS * sectors_reached (length octets)
unfolding padded
length-padded octets =
    let zeros = SECTOR_OCTETS * sectors_reached (length octets) - length octets in
    omega (arith, length-append octets (replicate {A = ℕ} zeros 0), length-replicate {A = ℕ} zeros 0)

-- whatever follows them, they are read as the port whose record they are
read-padded : (version : Version) (port : Port) (rest : List ℕ) → IsPortIn version port
    → port_of (port_record_at version (padded (port_octets version port) ++ rest)) ≡ Some port
unfolding padded
read-padded version port rest is =
    let octets = port_octets version port in
    let zeros = replicate {A = ℕ} (SECTOR_OCTETS * sectors_reached (length octets) - length octets) 0 in
    ap (λ (all : List ℕ). port_of (port_record_at version all)) (append_assoc octets zeros rest)
    ∙ ap port_of (port_record_at-record version octets (zeros ++ rest) port (record { spelling = refl; in_range = is.0; spelled = is.1 }))

-- a record reaches at most the sectors that hold the largest record
reaches : (version : Version) (port : Port) (sectors : ℕ) → IsPort port → largest_port_record version ≤ SECTOR_OCTETS * sectors
    → sectors_reached (length (port_octets version port)) ≤ sectors
reaches version port sectors is room = let long = length-port_octets version port is in omega (arith, long.1, room)

port-read : (version : Version) (image : Image) (first sectors : ℕ) (port : Port) → IsPortIn version port
    → largest_port_record version ≤ SECTOR_OCTETS * sectors
    → HasWrites (record_writes first (port_octets version port)) image → port_in version image first sectors ≡ Ok port
port-read version image first sectors port is room has =
    read_at (octets_at-in_slot image (padded octets) first reached sectors there (length-padded octets)
    (reaches version port sectors is.0 room))
  where
    octets : List ℕ
    octets = port_octets version port

    reached : ℕ
    reached = sectors_reached (length octets)

    there : (j : ℕ) → j < reached → image (first + j) ≡ sector_of (padded octets) j
    there j below = has-map (λ i. first + i) (λ i. sector_of (padded octets) i) 0 reached image has j (omega arith) (omega (arith, below))

    read_at : (rest : List ℕ) × (octets_at image first sectors ≡ padded octets ++ rest) → port_in version image first sectors ≡ Ok port
    read_at (rest, at) =
        let found : port_of (port_record_at version (octets_at image first sectors)) ≡ Some port =
        ap (λ (all : List ℕ). port_of (port_record_at version all)) at ∙ read-padded version port rest is in
        rw found refl

record-row : (version : Version) (first sectors : ℕ) (port : Port) → IsPort port → largest_port_record version ≤ SECTOR_OCTETS * sectors
    → IsRow first (first + sectors) (record_writes first (port_octets version port))
record-row version first sectors port is room =
    row-map (λ j. first + j) (λ j. sector_of (padded (port_octets version port)) j) first (first + sectors) 0
    (sectors_reached (length (port_octets version port)))
    (λ k. omega arith) (omega arith) (omega (arith, reaches version port sectors is room))

-- ---- the records of all ports

module _ (layout : Layout) (a : Area) (room : largest_port_record layout.version ≤ SECTOR_OCTETS * layout.port_sectors) where
  pub records-row : (p : ℕ) (ports : State) → ArePorts layout.version ports
      → IsRow (port_at layout a p) (port_at layout a (p + length ports)) (port_writes layout a p ports)
  records-row p [] are = omega arith
  records-row p (port ∷ ports) are =
      let next : port_at layout a p + layout.port_sectors ≡ port_at layout a (p + 1) = omega arith in
      let last : p + 1 + length ports ≡ p + length (port ∷ ports) = omega arith in
      row-append (port_at layout a p) (port_at layout a (p + 1)) (port_at layout a (p + length (port ∷ ports))) _ _
      (subst (λ (high : ℕ). IsRow (port_at layout a p) high (record_writes (port_at layout a p) (port_octets layout.version port))) next
      (record-row layout.version (port_at layout a p) layout.port_sectors port are.0.0 room))
      (subst (λ (n : ℕ). IsRow (port_at layout a (p + 1)) (port_at layout a n) (port_writes layout a (p + 1) ports)) last
      (records-row (p + 1) ports are.1))

  pub records-read : (p : ℕ) (ports : State) (image : Image) → ArePorts layout.version ports
      → HasWrites (port_writes layout a p ports) image
      → ports_from layout a image p (length ports) ≡ Ok ports
  unfolding ports_from
  records-read p [] image are has = refl
  records-read p (port ∷ ports) image are has =
      let parts = has-append (record_writes (port_at layout a p) (port_octets layout.version port))
      (port_writes layout a (p + 1) ports) image has in
      rw (
        port-read layout.version image (port_at layout a p) layout.port_sectors port are.0 room parts.0,
        records-read
            (p + 1) ports image are.1 parts.1,
      )
      refl

  pub length-records : (p : ℕ) (ports : State) → ArePorts layout.version ports
      → length (port_writes layout a p ports) ≤ layout.port_sectors * length ports
  length-records p [] are = omega arith
  length-records p (port ∷ ports) are =
      let here = length-map-range_with_len (λ j. write (port_at layout a p + j) (sector_of (padded (port_octets layout.version port)) j)) 0
      (sectors_reached (length (port_octets layout.version port))) in
      let both = length-append (record_writes (port_at layout a p) (port_octets layout.version port))
      (port_writes layout a (p + 1) ports) in
      omega (arith, here, both, reaches layout.version port layout.port_sectors are.0.0 room, length-records (p + 1) ports are.1)
