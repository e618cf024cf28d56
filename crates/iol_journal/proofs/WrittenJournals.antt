-- What the writes of a format leave: an empty journal.
use Rattle.std.proofs.Common.{◌≡◌, ◌≢◌, ◌≤◌, ◌<◌, ◌⊎◌, ℕ, zero, suc, ◌+◌, ◌*◌, List, [], ◌∷◌, ◌++◌, replicate, inl, inr, refl, sym, ◌∙◌, ap}
use Rattle.std.proofs.Common.{subst, arith}
use Rattle.std.proofs.lemmas.List.{length-replicate}
use Rattle.iol_types.specs.State.{blank, empty_state, IsPort}
use Rattle.iol_record.specs.declared.version.Version.{Version}
use Rattle.iol_record.specs.declared.version.Version.TheVariants.{One, Two}
use Rattle.iol_record.specs.Record.{largest_port_record, SpellsState}
use Rattle.iol_record.proofs.RecordLaws.{spells-blank}
use Rattle.iol_disk.specs.declared.disk.TheConstants.{SECTOR_OCTETS}
use Rattle.iol_disk.specs.Content.{Image, Content, reads, wrote}
use Rattle.iol_disk.specs.Calls.{Call, write, sync, content_after_all}
use Rattle.iol_disk.proofs.DiskLaws.{reads-wrote_here, reads-wrote_other, content_after_append}
use Rattle.iol_disk.specs.Gate.{is_open, open_gate, closed_gate}
use Rattle.iol_disk.proofs.SlotLaws.{is_open-open_gate, is_open-closed_gate}
use Rattle.iol_layout.specs.AreaPlans.{AreRecords}
use Rattle.iol_layout.specs.AreaWrites.{slot_writes, port_writes, IsRow}
use Rattle.iol_layout.specs.Geometry.{Geometry, IsGeometry, geometry_of, geometry_octets}
use Rattle.iol_layout.specs.Header.{header_of, header_octets}
use Rattle.iol_layout.specs.Layout.{Layout, laid_out, port_sectors_of, gate_at, header_at, port_at, slot_at}
use Rattle.iol_journal.specs.Formatting.{first_header}
use Rattle.iol_journal.specs.Orders.{gate_writes, header_writes, journal_writes}
use Rattle.iol_layout.specs.declared.area.Area.TheVariants.{A, B}
use Rattle.iol_layout.specs.declared.geometry.TheConstants.{GEOMETRY, DISK_GATE}
use Rattle.iol_layout.proofs.AreaRecords.{ArePorts}
use Rattle.iol_journal.proofs.DiskGate.{Spares, spares-append}
use Rattle.iol_journal.proofs.EmptyParts.{HasAreas, IsEmptyJournal}
use Rattle.iol_layout.proofs.Geometries.{geometry_of-octets}
use Rattle.iol_layout.proofs.RecordSectors.{are-records}
use Rattle.iol_layout.proofs.Rows.{IsWritten, row-map, row-written, has-map}
use Rattle.iol_layout.proofs.Headers.{header_of-octets}

-- ---- the records of ports that were never configured

blank-port : IsPort blank
blank-port = record {
  config = record { vendor = omega arith; device = omega arith; label = refl };
  revision = omega arith;
  stored = tt;
  previous = tt;
  stands = refl;
}

-- ports that were never configured are valid in a version that can encode them
are-blank : (version : Version) (n : ℕ) → SpellsState version (replicate n blank) → ArePorts version (replicate n blank)
are-blank version zero spelled = tt
are-blank version (suc n) spelled = ((blank-port, spelled.0), are-blank version n spelled.1)

record-room : (version : Version) → largest_port_record version ≤ SECTOR_OCTETS * port_sectors_of version
record-room One = omega arith
record-room Two = omega arith

-- a row of writes after the gate of the disk does not write the gate
spares-row : (low high : ℕ) (calls : List Call) → DISK_GATE < low → IsRow low high calls → Spares calls
spares-row low high [] behind row = tt
spares-row low high (write sector octets ∷ calls) behind row =
    (omega (arith, behind, row.0), spares-row (sector + 1) high calls (omega (arith, behind, row.0)) row.1)
spares-row low high (sync ∷ calls) behind row = absurd row

module _ (version : Version) (g : Geometry) where
  abbrev layout : Layout
  layout = laid_out version g

  pub blank-records : AreRecords layout A (empty_state g.ports)
  blank-records =
      are-records layout A (empty_state g.ports) (record-room version) (length-replicate g.ports blank)
      (are-blank version g.ports (spells-blank version g.ports))

  slots-row : IsRow (slot_at layout A 0) (slot_at layout A layout.slots) (slot_writes layout A)
  slots-row =
      row-map (slot_at layout A) (λ k. closed_gate) (slot_at layout A 0) (slot_at layout A layout.slots) 0
      layout.slots (λ k.
      omega arith) (omega arith) (omega arith)

  -- the gates and the headers

  abbrev said : Content → Content
  said c = wrote GEOMETRY (geometry_octets g) c

  abbrev gated : Content → Content
  gated c = wrote (gate_at layout A) open_gate (said c)

  areas-written : (c : Content) → IsGeometry g → HasAreas version g (reads (content_after_all (gate_writes version g) c))
  areas-written c is = record {
    geometry = ap geometry_of (other GEOMETRY (omega arith) (omega arith) ∙ reads-wrote_here GEOMETRY (geometry_octets g) c)
        ∙ geometry_of-octets g is.in_range;
    is = is;
    a_open = ap is_open (reads-wrote_other (gate_at layout B) closed_gate (gated c) (gate_at layout A) (omega arith)
        ∙ reads-wrote_here (gate_at layout A) open_gate (said c)) ∙ is_open-open_gate;
    b_closed = ap is_open (reads-wrote_here (gate_at layout B) closed_gate (gated c)) ∙ is_open-closed_gate;
  }
    where
      other : (i : ℕ) → i ≢ gate_at layout A → i ≢ gate_at layout B → reads (content_after_all (gate_writes version g) c) i
          ≡ reads (said c) i
      other i no_a no_b =
          reads-wrote_other (gate_at layout B) closed_gate (gated c) i no_b
          ∙ reads-wrote_other (gate_at layout A) open_gate (said c) i no_a

  abbrev with_header : Content → Content
  with_header c = wrote (header_at layout A) (header_octets version 1 0) c

  -- area A is in its first epoch, and everything except the headers is unchanged
  record HasHeaders (old new : Image) : Type 0 where
    first_epoch : header_of (new (header_at layout A)) ≡ first_header version
    others : (i : ℕ) → i ≢ header_at layout A → i ≢ header_at layout B → new i ≡ old i

  headers-written : (c : Content) → HasHeaders (reads c) (reads (content_after_all (header_writes version g) c))
  headers-written c = record {
    first_epoch =
        ap header_of (reads-wrote_other (header_at layout B) (header_octets version 0 0) (with_header c) (header_at layout A)
        (omega arith)
        ∙ reads-wrote_here (header_at layout A) (header_octets version 1 0) c)
        ∙ header_of-octets version 1 0 (omega arith) (omega arith);
    others = λ i no_a no_b. reads-wrote_other (header_at layout B) (header_octets version 0 0) (with_header c) i no_b
        ∙ reads-wrote_other (header_at layout A) (header_octets version 1 0) c i no_a;
  }

  -- all parts

  put-together : (gates slots headers ports : Image) → HasAreas version g gates
      → IsWritten (slot_at layout A 0) (slot_at layout A layout.slots) (slot_writes layout A) gates slots
      → HasHeaders slots headers
      → IsWritten (port_at layout A 0) (slot_at layout A 0) (port_writes layout A 0 (empty_state g.ports)) headers ports
      → IsEmptyJournal version g ports
  put-together gates slots headers ports areas closed headed recorded = record {
    areas = record {
      geometry = rw (kept GEOMETRY (inl (omega arith)) (inl (omega arith)) (omega arith) (omega arith)) areas.geometry;
      is = areas.is;
      a_open = rw (kept (gate_at layout A) (inl (omega arith)) (inl (omega arith)) (omega arith) (omega arith)) areas.a_open;
      b_closed = rw (kept (gate_at layout B) (inr (omega arith)) (inr (omega arith)) (omega arith) (omega arith)) areas.b_closed;
    };
    whole = record {
      shut = λ k below.
          ap is_open (recorded.others (slot_at layout A k) (inr (omega arith))
          ∙ headed.others (slot_at layout A k) (omega arith) (omega (arith, below))
          ∙ has-map (slot_at layout A) (λ j. closed_gate) 0 layout.slots slots closed.written k (omega arith) (omega
          (arith, below)))
          ∙ is_open-closed_gate;
      head = ap header_of (recorded.others (header_at layout A) (inl (omega arith))) ∙ headed.first_epoch;
      ports_are = blank-records.read_back ports recorded.written;
    };
  }
    where
      kept : (i : ℕ) → (i < port_at layout A 0) ⊎ (slot_at layout A 0 ≤ i) → (i < slot_at layout A 0)
          ⊎ (slot_at layout A layout.slots ≤ i)
          → i ≢ header_at layout A → i ≢ header_at layout B → ports i ≡ gates i
      kept i no_port no_slot no_a no_b = recorded.others i no_port ∙ headed.others i no_a no_b ∙ closed.others i no_slot

  -- the writes after the gate of the disk leave an empty journal
  pub journal-writes : (c : Content) → IsGeometry g → IsEmptyJournal version g (reads (content_after_all (journal_writes version g) c))
  journal-writes c is =
      let slot_calls = slot_writes layout A in
      let port_calls = port_writes layout A 0 (empty_state g.ports) in
      let gates = content_after_all (gate_writes version g) c in
      let slots = content_after_all slot_calls gates in
      let headers = content_after_all (header_writes version g) slots in
      let ports = content_after_all port_calls headers in
      let all : content_after_all (journal_writes version g) c ≡ ports =
      content_after_append (gate_writes version g ++ slot_calls ++ header_writes version g) port_calls c
      ∙ ap (content_after_all port_calls) (content_after_append (gate_writes version g ++ slot_calls) (header_writes version g) c
      ∙ ap (content_after_all (header_writes version g)) (content_after_append (gate_writes version g) slot_calls c)) in
      subst (λ (after : Content). IsEmptyJournal version g (reads after)) (sym all)
      (put-together (reads gates) (reads slots) (reads headers) (reads ports) (areas-written c is)
      (row-written _ _ slot_calls gates slots-row) (headers-written slots) (row-written _ _ port_calls headers blank-records.row))

  -- and none of them is to the gate of the disk
  pub spares-journal : Spares (journal_writes version g)
  spares-journal =
      let slot_calls = slot_writes layout A in
      let port_calls = port_writes layout A 0 (empty_state g.ports) in
      spares-append (gate_writes version g ++ slot_calls ++ header_writes version g) port_calls
      (spares-append (gate_writes version g ++ slot_calls) (header_writes version g)
      (spares-append (gate_writes version g) slot_calls (omega arith, (omega arith, (omega arith, tt)))
      (spares-row _ _ slot_calls (omega arith) slots-row))
      (omega arith, (omega arith, tt)))
      (spares-row _ _ port_calls (omega arith) blank-records.row)
