-- What a plan of an area contains, and where it writes.
use Rattle.std.proofs.Common.{◌≡◌, ◌≤◌, ◌<◌, ℕ, List, length, map, slice_get, get_or, Option, Some, None}
use Rattle.std.proofs.Common.{refl, sym, ◌∙◌, ap, subst, arith}
use Rattle.std.proofs.lemmas.List.{length-map}
use Rattle.std.proofs.lemmas.Option.{slice_get-map, slice_get_read, slice_get-get_or, slice_get_within}
use Rattle.std.specs.Option.{option_map}
use Rattle.iol_types.specs.State.{State}
use Rattle.iol_disk.specs.Calls.{Call, write, sync}
use Rattle.iol_layout.specs.AreaPlans.{AreRecords, IsAreaPlan, write_of}
use Rattle.iol_layout.specs.AreaWrites.{port_writes, IsRow}
use Rattle.iol_layout.specs.Layout.{Layout, total, port_at, slot_at}
use Rattle.iol_layout.specs.declared.area.Area.{Area}
use Rattle.iol_layout.specs.declared.area.Area.TheVariants.{A, B}
use Rattle.iol_layout.specs.declared.area_plan.AreaPlan.{AreaPlan}
use Rattle.iol_layout.specs.declared.header.Header.{Header}
use Rattle.iol_layout.specs.declared.records.RecordSector.{RecordSector}
use Rattle.iol_layout.proofs.Rows.{row-wider, row-higher, row-nth}

module _ (layout : Layout) (a : Area) (header : Header) (state : State) (plan : AreaPlan) (is : IsAreaPlan layout a header state plan) where
  pub length-plan : length plan.records.items ≡ length (port_writes layout a 0 state)
  length-plan = sym (length-map plan.records.items write_of) ∙ ap (λ (calls : List Call). length calls) is.records_are

-- an area's slots begin within the sectors of the journal
slots-inside : (layout : Layout) (a : Area) → slot_at layout a 0 ≤ total layout
slots-inside layout A = omega arith
slots-inside layout B = omega arith

-- the records of a plan are on the disk
pub plan-row : (sectors : ℕ) (layout : Layout) (a : Area) (header : Header) (state : State) (plan : AreaPlan) → total layout ≤ sectors
    → AreRecords layout a state
    → IsAreaPlan layout a header state plan → IsRow 0 sectors (map write_of plan.records.items)
plan-row sectors layout a header state plan fits records is =
    let inside = slots-inside layout a in
    subst (IsRow 0 sectors) (sym is.records_are)
    (row-wider (port_at layout a 0) 0 sectors _ (omega arith)
    (row-higher (port_at layout a 0) (slot_at layout a 0) sectors _ (omega (arith, fits, inside)) records.row))

-- the sector at a place, as it is found
pub found-there : (items : List RecordSector) (i : ℕ) (found : RecordSector) → i < length items → found ≡ get_or items i found
    → slice_get (map write_of items) i ≡ Some (write_of found)
found-there items i found below is = slice_get-map write_of items i
    ∙ ap (option_map write_of) (slice_get_read items (length items) i found refl below is)

-- the same for a slice of them
pub shown-there : (items shown : List RecordSector) (i : ℕ) (d : RecordSector) → shown ≡ items → i < length shown
    → slice_get (map write_of items) i ≡ Some (write_of (get_or shown i d))
shown-there items shown i d same below =
    subst (λ (all : List RecordSector). slice_get (map write_of all) i ≡ Some (write_of (get_or shown i d))) same
    (slice_get-map write_of shown i ∙ ap (option_map write_of) (slice_get-get_or shown i d below))

-- it is on the disk
pub sector-inside : (sectors : ℕ) (calls : List Call) (i : ℕ) (found : RecordSector) → IsRow 0 sectors calls → slice_get calls i
    ≡ Some (write_of found) → found.sector < sectors
sector-inside sectors calls i found row there =
    let nth = row-nth 0 sectors calls i row (slice_get_within calls i (write_of found) there) in
    let same : nth.sector ≡ found.sector = same_sector _ _ _ _ (sym nth.at_place ∙ there) in
    omega (arith, nth.below, same)
  where
    sector_of_call : Option Call → ℕ
    sector_of_call (Some (write sector octets)) = sector
    sector_of_call (Some sync) = 0
    sector_of_call None = 0

    same_sector : (n m : ℕ) (octets others : List ℕ) → Some (write n octets) ≡ Some (write m others) → n ≡ m
    same_sector n m octets others e = ap sector_of_call e
