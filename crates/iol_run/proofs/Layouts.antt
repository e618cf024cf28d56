-- The layout of the journal that a disk shows: the turns for a full queue are at most 128 for each of its sectors, whatever version it has.
use Rattle.std.proofs.Common.{◌≡◌, ◌≤◌, ℕ, ◌*◌, true, List, Ok, refl, ap, sym, ◌∙◌, subst, arith}
use Rattle.iol_record.specs.Record.{newest, is_newest}
use Rattle.iol_record.specs.declared.version.Version.{Version}
use Rattle.iol_record.specs.declared.version.Version.TheVariants.{One, Two}
use Rattle.iol_disk.specs.Content.{Image}
use Rattle.iol_journal.proofs.Geometries.{geometry_in-is}
use Rattle.iol_journal.proofs.Layouts.{size-renewed, renewed-is, renewed-some, renewed-ports, renewed-renewed}
use Rattle.iol_journal.proofs.Readings.{stands_read}
use Rattle.iol_journal.specs.Layout.{Layout, IsLayout, renewed, port_sectors_of, total}
use Rattle.iol_journal.specs.Meaning.{Standing, standing_in}
use Rattle.iol_core.specs.Events.{Stamp}
use Rattle.iol_run.specs.Flushed.{AllFlushed, queue_turns}
use Rattle.iol_run.specs.declared.step.Step.{Step}

within : (layout : Layout) (sectors : ℕ) → 1 ≤ layout.ports → 1 ≤ layout.slots → layout.port_sectors ≡ 17 → sectors ≡ total layout
    → queue_turns layout ≤ 128 * sectors
within layout sectors ports some wide is =
    let records : 17 ≤ layout.port_sectors * layout.ports = subst (λ (n : ℕ). 17 ≤ n * layout.ports) (sym wide) (omega (arith, ports)) in
    omega (arith, records, some, is)

-- the record of a port has 17 sectors in the version that is written
wide_ports : (layout : Layout) → IsLayout layout → (renewed layout).port_sectors ≡ 17
wide_ports layout is =
    ap (λ (l : Layout). l.port_sectors) (renewed-is layout is).so
    ∙ ap port_sectors_of (newest_of (renewed layout).version (renewed-renewed layout))
  where
    newest_of : (version : Version) → is_newest version ≡ true → version ≡ newest
    newest_of One is = absurd cc
    newest_of Two is = refl

pub turns_within : (sectors : ℕ) (image : Image) (s : Standing) → standing_in sectors image ≡ Ok s
    → queue_turns (renewed s.layout) ≤ 128 * total s.layout
turns_within sectors image s is =
    let formatted = (stands_read sectors image s is).2.layout in
    let g = formatted.geometry in
    let laid_out : IsLayout s.layout =
    record { geometry = g; is = geometry_in-is sectors image g formatted.found; so = formatted.so } in
    let ports : 1 ≤ (renewed s.layout).ports =
    subst (λ (n : ℕ). 1 ≤ n) (sym (renewed-ports s.layout ∙ ap (λ (l : Layout). l.ports) formatted.so)) laid_out.is.in_range.some_port in
    let size = size-renewed s.layout laid_out in
    within (renewed s.layout) (total s.layout) ports (renewed-some s.layout laid_out) (wide_ports s.layout laid_out) (omega (arith, size))

-- if fewer turns are enough, more are
pub more_flushed : (least more : ℕ) (made : List Step) (first waits : ℕ) (events : List Stamp) → least ≤ more
    → AllFlushed least made first waits events → AllFlushed more made first waits events
more_flushed least more made first waits events le all = λ ends none sound.
    all (record { before = ends.before; turns = ends.turns; order = ends.order; enough = omega (arith, le, ends.enough) }) none sound
