-- The sectors of records, pushed one after another.
use Rattle.std.proofs.Common.{◌≡◌, ◌≤◌, ◌<◌, ℕ, zero, suc, ◌+◌, ◌-◌, ◌*◌, ◌/◌, nat_le, true, List, [], ◌∷◌, ◌++◌, length, map, take, drop}
use Rattle.std.proofs.Common.{slice_get, Option, Some, None, Ok, refl, sym, ◌∙◌, ap, subst, arith, append_assoc, Bor}
use Rattle.std.specs.List.{range_with_len}
use Rattle.std.proofs.lemmas.Bool.Decides.{nat_tests}
use Rattle.std.proofs.lemmas.List.{map-append, take_more}
use Rattle.std.proofs.lemmas.List.FromFn.{map-range_with_len_more}
use Rattle.std.proofs.lemmas.Option.{slice_get_within, get_or_from_slice_get, slice_get-get_or}
use Rattle.std.specs.Option.{option_copied, IsSome}
use Rattle.iol_types.specs.State.{Port, State, IsPort, port_numbered, blank}
use Rattle.iol_record.specs.Record.{port_octets, largest_port_record, SpellsPort, SpellsState}
use Rattle.iol_record.proofs.RecordLaws.{IsPortIn, length-port_octets}
use Rattle.iol_record.specs.declared.version.Version.{Version}
use Rattle.iol_record.specs.declared.version.Version.TheVariants.{One, Two}
use Rattle.iol_disk.specs.Calls.{Call, write}
use Rattle.iol_disk.specs.declared.disk.TheConstants.{SECTOR_OCTETS}
use Rattle.iol_layout.specs.AreaPlans.{AreRecords, write_of}
use Rattle.iol_layout.specs.AreaWrites.{record_writes, port_writes, IsRow}
use Rattle.iol_layout.specs.Layout.{Layout, port_at, slot_at}
use Rattle.iol_layout.specs.Meaning.{ports_from}
use Rattle.iol_layout.specs.Octets.{padded, sectors_reached, sector_of}
use Rattle.iol_layout.specs.declared.area.Area.{Area}
use Rattle.iol_layout.specs.declared.records.RecordSector.{RecordSector}
use Rattle.iol_layout.proofs.AreaRecords.{ArePorts, ports-append, length-padded, records-row, records-read, length-records}

-- one more sector
pub sector-pushed : (f : ℕ → Call) (old items : List RecordSector) (pushed : RecordSector) (j : ℕ) → map write_of items ≡ map write_of old
    ++ map f (range_with_len 0 j)
    → write_of pushed ≡ f j → map write_of (items ++ pushed ∷ []) ≡ map write_of old ++ map f (range_with_len 0 (j + 1))
sector-pushed f old items pushed j so_far is =
    map-append write_of items (pushed ∷ [])
    ∙ ap (λ (calls : List Call). calls ++ write_of pushed ∷ []) so_far
    ∙ append_assoc (map write_of old) (map f (range_with_len 0 j)) (write_of pushed ∷ [])
    ∙ ap (λ (call : Call). map write_of old ++ (map f (range_with_len 0 j) ++ call ∷ [])) is
    ∙ ap (λ (calls : List Call). map write_of old ++ calls) (sym (map-range_with_len_more f 0 j j (omega arith)))

-- the port at a place, and those after it
drop-port : (state : State) (place : ℕ) (port : Port) → slice_get state place ≡ Some port → drop place state ≡ port ∷ drop (suc place) state
drop-port [] place port is = cc
drop-port (first ∷ state) zero port is = ap (λ (front : Port). front ∷ state) (same is)
  where
    same : Some first ≡ Some port → first ≡ port
    same some = cc
drop-port (first ∷ state) (suc place) port is = drop-port state place port is

pub numbered : (state : State) (number place : ℕ) (port : Port) → number ≡ place + 1 → port_numbered state number ≡ Some port
    → slice_get state place ≡ Some port
numbered state number place port at is =
    let some : nat_le 1 number ≡ true = grind (arith, nat_tests) in
    let before : number - 1 ≡ place = omega arith in
    rw (some, before) at is

-- there is a port under each number up to the number of ports
pub is-there : (found : Option (Bor Port)) (state : State) (number place : ℕ) → number ≡ place + 1 → place < length state
    → option_copied found ≡ port_numbered state number → IsSome found
is-there (Some port) state number place at below is = refl
is-there None state number place at below is =
    let there = slice_get-get_or state place blank below in
    let some : nat_le 1 number ≡ true = grind (arith, nat_tests) in
    let before : number - 1 ≡ place = omega arith in
    let none : None ≡ slice_get state place = rw (some, before) at is in
    absurd (clash _ (none ∙ there))
  where
    clash : (port : Port) → None ≡ Some port → ⊥
    clash port is = cc

-- one more record
pub record-pushed : (layout : Layout) (a : Area) (state : State) (place first : ℕ) (port : Port) (octets : List ℕ) (old new all : List Call)
    → slice_get state place ≡ Some port → first ≡ port_at layout a place → octets ≡ padded (port_octets layout.version port)
    → new ≡ old ++ map (λ j. write (first + j) (sector_of octets j)) (range_with_len 0 (length octets / SECTOR_OCTETS))
    → old ++ port_writes layout a place (drop place state) ≡ all → new ++ port_writes layout a (place + 1) (drop (place + 1) state) ≡ all
record-pushed layout a state place first port octets old new all there at spelled pushed so_far =
    let rest = port_writes layout a (place + 1) (drop (place + 1) state) in
    let next : suc place ≡ place + 1 = omega arith in
    let reached : length octets / SECTOR_OCTETS ≡ sectors_reached (length (port_octets layout.version port)) =
    omega (arith, ap (λ (os : List ℕ). length os) spelled, length-padded (port_octets layout.version port)) in
    let written : map (λ j. write (first + j) (sector_of octets j)) (range_with_len 0 (length octets / SECTOR_OCTETS))
    ≡ record_writes (port_at layout a place) (port_octets layout.version port) =
    ap (λ (n : ℕ). map (λ j. write (first + j) (sector_of octets j)) (range_with_len 0 n)) reached
    ∙ ap (λ (n : ℕ). map (λ j. write (n + j) (sector_of octets j))
    (range_with_len 0 (sectors_reached (length (port_octets layout.version port))))) at
    ∙ ap (λ (os : List ℕ).
    map (λ j. write (port_at layout a place + j) (sector_of os j))
    (range_with_len 0 (sectors_reached (length (port_octets layout.version port)))))
    spelled in
    ap (λ (calls : List Call). calls ++ rest) (pushed ∙ ap (λ (calls : List Call). old ++ calls) written)
    ∙ append_assoc old (record_writes (port_at layout a place) (port_octets layout.version port)) rest
    ∙ ap (λ (n : ℕ). old ++ port_writes layout a place (port ∷ drop n state)) (sym next)
    ∙ ap (λ (ports : State). old ++ port_writes layout a place ports) (sym (drop-port state place port there))
    ∙ so_far

-- one more port that is in its ranges
pub port-more : (version : Version) (state : State) (place : ℕ) (port : Port) → slice_get state place ≡ Some port
    → IsPortIn version port → ArePorts version (take place state)
    → ArePorts version (take (place + 1) state)
port-more version state place port there is are =
    let more = take_more state place port (slice_get_within state place port there)
    ∙ ap (λ (p : Port). take place state ++ p ∷ []) (get_or_from_slice_get state place port port there) in
    subst (ArePorts version) (sym more) (ports-append version (take place state) (port ∷ []) are (is, tt))

-- a version that can encode a state can encode each of its ports
pub spelled-at : (version : Version) (state : State) (place : ℕ) (port : Port) → SpellsState version state
    → slice_get state place ≡ Some port → SpellsPort version port
spelled-at version [] place port spells there = absurd cc
spelled-at version (other ∷ state) zero port spells there =
    let same : other ≡ port = cc in
    subst (SpellsPort version) same spells.0
spelled-at version (other ∷ state) (suc place) port spells there = spelled-at version state place port spells.1 there

largest-port : (version : Version) → largest_port_record version ≤ 8349
largest-port One = omega arith
largest-port Two = omega arith

-- a padded record reaches at most 17 sectors
pub record-short : (version : Version) (port : Port) (octets : List ℕ) → octets ≡ padded (port_octets version port) → IsPort port
    → length octets ≤ 8704
record-short version port octets spelled is =
    omega (
      arith,
      ap (λ (os : List ℕ). length os) spelled,
      length-padded (port_octets version port),
      (length-port_octets version port is).1,
      largest-port version,
    )

pub are-records : (layout : Layout) (a : Area) (state : State)
    → largest_port_record layout.version ≤ SECTOR_OCTETS * layout.port_sectors → length state ≡ layout.ports → ArePorts layout.version state
    → AreRecords layout a state
are-records layout a state room count are = record {
  row =
      let last : port_at layout a (0 + length state) ≡ slot_at layout a 0 = omega (arith, ap (λ (n : ℕ). port_at layout a n) count) in
      subst (λ (high : ℕ). IsRow (port_at layout a 0) high (port_writes layout a 0 state)) last (records-row layout a room 0 state are);
  read_back = λ image has.
      subst (λ (n : ℕ). ports_from layout a image 0 n ≡ Ok state) count (records-read layout a room 0 state image are has);
  at_most = subst (λ (n : ℕ). length (port_writes layout a 0 state) ≤ layout.port_sectors * n) count
      (length-records layout a room 0 state are);
}
