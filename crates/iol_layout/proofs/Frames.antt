-- How a write in the first free slots changes a kept image.
use Rattle.std.proofs.Common.{◌≡◌, ◌≤◌, ◌<◌, ◌⊎◌, inl, inr, ℕ, ◌+◌, true, false, if◌then◌else◌, List, length, Option, Some, None, Ok, refl}
use Rattle.std.proofs.Common.{◌∙◌, ap, arith}
use Rattle.std.proofs.lemmas.Bool.{cases_lt}
use Rattle.iol_types.specs.Command.{CommandValue}
use Rattle.iol_types.specs.State.{State, legal}
use Rattle.iol_disk.specs.Content.{Image}
use Rattle.iol_disk.specs.Gate.{is_open}
use Rattle.iol_record.specs.Record.{newest}
use Rattle.iol_record.specs.declared.version.Version.{Version}
use Rattle.iol_layout.specs.Layout.{Layout, other, gate_at, header_at, slot_at}
use Rattle.iol_layout.specs.Header.{header_of}
use Rattle.iol_layout.specs.Body.{records_of, slots_for, batch_of}
use Rattle.iol_layout.specs.Meaning.{geometry_in, header_in, greatest, log_from, Log, Standing, body_in, span_in}
use Rattle.iol_layout.specs.Kept.{IsIdle, IsKeptAs, IsKept, KeptMeans}
use Rattle.iol_layout.specs.Standings.{with_batch}
use Rattle.iol_layout.specs.declared.area.Area.{Area}
use Rattle.iol_layout.specs.declared.area.Area.TheVariants.{A, B}
use Rattle.iol_layout.specs.declared.idle.Idle.{Idle}
use Rattle.iol_layout.specs.declared.idle.Idle.TheVariants.{Older, Closed}
use Rattle.iol_layout.specs.declared.header.Header.{Header}
use Rattle.iol_layout.specs.declared.geometry.TheConstants.{GEOMETRY, DISK_GATE}
use Rattle.iol_layout.proofs.Readings.{IsRead, read_stands, stands_read}
use Rattle.iol_layout.proofs.Sectors.{ports_from-same}
use Rattle.iol_layout.proofs.Logs.{log-same, log-more}
use Rattle.iol_layout.proofs.Spans.{slots_of-some}

-- outside of the first `n` free slots the images are the same, and so are the gates of all slots except the first free one
pub record SameButSlots (s : Standing) (n : ℕ) (old new : Image) : Type 0 where
  pub outside : (i : ℕ) → (i < slot_at s.layout s.area s.used) ⊎ (slot_at s.layout s.area (s.used + n) ≤ i) → new i ≡ old i
  pub gates : (k : ℕ) → s.used < k → new (slot_at s.layout s.area k) ≡ old (slot_at s.layout s.area k)

-- the gate and the header of an area are outside of the slots of each area
gate_apart : (layout : Layout) (a b : Area) (k : ℕ) → (gate_at layout b + 1 < slot_at layout a k)
    ⊎ (slot_at layout a layout.slots ≤ gate_at layout b)
gate_apart layout A A k = inl (omega arith)
gate_apart layout A B k = inr (omega arith)
gate_apart layout B A k = inl (omega arith)
gate_apart layout B B k = inl (omega arith)

module _ (s : Standing) (n : ℕ) (old new : Image) (room : s.used + n ≤ s.layout.slots) (some : 1 ≤ n)
    (same : SameButSlots s n old new) where
  at_gate : (b : Area) → new (gate_at s.layout b) ≡ old (gate_at s.layout b)
  at_gate b = same.outside _
      (elim (gate_apart s.layout s.area b s.used) as (λ _. (gate_at s.layout b < slot_at s.layout s.area s.used)
      ⊎ (slot_at s.layout s.area (s.used + n) ≤ gate_at s.layout b)) [
        | inl before ↦ inl (omega arith)
        | inr behind ↦ inr (omega (arith, behind, room))
      ])

  at_header : (b : Area) → new (header_at s.layout b) ≡ old (header_at s.layout b)
  at_header b = same.outside _
      (elim (gate_apart s.layout s.area b s.used) as (λ _. (header_at s.layout b < slot_at s.layout s.area s.used)
      ⊎ (slot_at s.layout s.area (s.used + n) ≤ header_at s.layout b)) [
        | inl before ↦ inl (omega arith)
        | inr behind ↦ inr (omega (arith, behind, room))
      ])

  two : 2 ≤ gate_at s.layout s.area
  two = at_least s.area
    where
      at_least : (a : Area) → 2 ≤ gate_at s.layout a
      at_least A = omega arith
      at_least B = omega arith

  at_front : (i : ℕ) → i < 2 → new i ≡ old i
  at_front i below = same.outside i (inl (omega (arith, two)))

  headers_same : (b : Area) → header_in s.layout new b ≡ header_in s.layout old b
  headers_same b =
      ap (λ (octets : List ℕ). if is_open octets then Some (header_of (new (header_at s.layout b))) else None) (at_gate b)
      ∙ ap (λ (octets : List ℕ). if is_open (old (gate_at s.layout b)) then Some (header_of octets) else None) (at_header b)

  -- all that is read before the slots
  fronts_same : (sectors base : ℕ) (ports : State) → IsRead sectors old s base ports
      → (log : Log) → log_from s.layout s.area s.epoch new 0 0 s.layout.slots base ports ≡ Ok log
      → IsRead sectors new
      (record { layout = s.layout; area = s.area; epoch = s.epoch; used = log.used; number = log.number; state = log.state }) base ports
  fronts_same sectors base ports is log logged = record {
    layout = record {
      geometry = is.layout.geometry;
      found = geometries (at_front 1 (omega arith)) (at_front 0 (omega arith)) ∙ is.layout.found;
      so = is.layout.so;
    };
    in_use = ap (λ (a : Option Header). greatest s.layout a (header_in s.layout new B)) (headers_same A)
        ∙ ap (λ (b : Option Header). greatest s.layout (header_in s.layout old A) b) (headers_same B) ∙ is.in_use;
    ports_are = ports_from-same s.layout s.area old new 0 s.layout.ports (λ i above below. same.outside i (inl (omega (arith, below))))
        ∙ is.ports_are;
    log = logged;
  }
    where
      geometries : new DISK_GATE ≡ old DISK_GATE → new GEOMETRY ≡ old GEOMETRY → geometry_in sectors new ≡ geometry_in sectors old
      geometries gate sector = rw (gate, sector) refl

  idle_same : (idle : Idle) → IsIdle s idle old → IsIdle s idle new
  idle_same Older is = rw (at_header (other s.area)) is
  idle_same Closed is = ap is_open (at_gate (other s.area)) ∙ is

-- the gates after the first free slot stay closed
rest_same : (s : Standing) (n : ℕ) (old new : Image) → SameButSlots s n old new
    → ((k : ℕ) → s.used ≤ k → k < s.layout.slots → is_open (old (slot_at s.layout s.area k)) ≡ false)
    → (k : ℕ) → s.used < k → k < s.layout.slots → is_open (new (slot_at s.layout s.area k)) ≡ false
rest_same s n old new same rest k above below = ap is_open (same.gates k above) ∙ rest k (omega (arith, above)) below

-- after a closed gate the slots may hold anything
pub kept_closed : (sectors : ℕ) (s : Standing) (n : ℕ) (idle : Idle) (old new : Image) → s.used + n ≤ s.layout.slots → 1 ≤ n
    → SameButSlots s n old new
    → IsKeptAs sectors s idle old → is_open (new (slot_at s.layout s.area s.used)) ≡ false → IsKeptAs sectors s idle new
kept_closed sectors s n idle old new room some same kept shut = stand (stands_read sectors old s kept.stands)
  where
    rest : (k : ℕ) → s.used ≤ k → k < s.layout.slots → is_open (new (slot_at s.layout s.area k)) ≡ false
    rest k above below = elim (cases_lt s.used k) [
      | inl behind ↦ rest_same s n old new same kept.rest k behind below
      | inr here ↦
          let e : k ≡ s.used = omega arith in
          ap (λ (j : ℕ). is_open (new (slot_at s.layout s.area j))) e ∙ shut
    ]

    stand : (base : ℕ) × (ports : State) × IsRead sectors old s base ports → IsKeptAs sectors s idle new
    stand (base, ports, is) = record {
      stands = read_stands sectors new s base ports (fronts_same s n old new room some same sectors base ports is _
          (log-same s.layout s.area s.epoch old new 0 0 s.layout.slots base ports _ (omega arith) is.log
          (λ i above below. same.outside i (inl below)) (λ less. shut)));
      rest = rest;
      other_area = idle_same s n old new room some same idle kept.other_area;
    }

-- a batch whose gate is open counts
pub kept_open : (sectors : ℕ) (s : Standing) (idle : Idle) (old new : Image) (commands : List CommandValue)
    → s.layout.version ≡ newest → s.used + slots_for commands ≤ s.layout.slots
    → SameButSlots s (slots_for commands) old new
    → IsKeptAs sectors s idle old → is_open (new (slot_at s.layout s.area s.used)) ≡ true
    → span_in s.layout s.area new s.used ≡ slots_for commands
    → batch_of newest s.epoch (s.number + 1) (body_in s.layout s.area new s.used (slots_for commands)) ≡ Some commands
    → legal s.state commands ≡ true
    → IsKeptAs sectors (with_batch s commands) idle new
kept_open sectors s idle old new commands is_newest room same kept gate span batch passes = stand (stands_read sectors old s kept.stands)
  where
    some : 1 ≤ slots_for commands
    some = slots_of-some (length (records_of commands))

    behind : (k : ℕ) → s.used + slots_for commands ≤ k → k < s.layout.slots → is_open (new (slot_at s.layout s.area k)) ≡ false
    behind k above below = rest_same s (slots_for commands) old new same kept.rest k (omega (arith, above, some)) below

    in_version : batch_of s.layout.version s.epoch (s.number + 1) (body_in s.layout s.area new s.used (slots_for commands)) ≡ Some commands
    in_version =
        ap (λ (v : Version). batch_of v s.epoch (s.number + 1) (body_in s.layout s.area new s.used (slots_for commands))) is_newest ∙ batch

    idle_with : (idle : Idle) → IsIdle s idle new → IsIdle (with_batch s commands) idle new
    idle_with Older is = is
    idle_with Closed is = is

    stand : (base : ℕ) × (ports : State) × IsRead sectors old s base ports → IsKeptAs sectors (with_batch s commands) idle new
    stand (base, ports, is) = record {
      stands = read_stands sectors new (with_batch s commands) base ports
          (fronts_same s (slots_for commands) old new room some same sectors base ports is _
          (log-more s.layout s.area s.epoch old new 0 0 s.layout.slots base (slots_for commands) ports _ commands (omega arith) is.log
          (λ i above below. same.outside i (inl below))
          (omega (arith, room)) gate span in_version passes
          (λ less. behind (s.used + slots_for commands) (omega arith) (omega (arith, less)))));
      rest = behind;
      other_area = idle_with idle (idle_same s (slots_for commands) old new room some same idle kept.other_area);
    }

pub kept_means : (sectors : ℕ) (s : Standing) (idle : Idle) (image : Image) → IsKeptAs sectors s idle image
    → KeptMeans sectors s.number s.state image
unfolding IsKept
kept_means sectors s idle image kept = ((s, idle, kept), rw kept.stands refl)
