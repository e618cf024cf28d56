-- A whole standing, as it is read, taken apart and put together.
use Rattle.std.proofs.Common.{◌≡◌, ℕ, Option, Some, Ok, refl, sym, ◌∙◌, ap, subst}
use Rattle.iol_types.specs.State.{State}
use Rattle.iol_record.specs.declared.version.Version.{Version}
use Rattle.iol_disk.specs.Content.{Image}
use Rattle.iol_layout.specs.Geometry.{Geometry}
use Rattle.iol_layout.specs.Header.{version_in}
use Rattle.iol_layout.specs.Layout.{Layout, laid_out, layout_of}
use Rattle.iol_layout.specs.Meaning.{Standing, Log, geometry_in, in_use_in, ports_from, log_from, layout_used, standing_in}
use Rattle.iol_layout.specs.declared.header.Header.{Header}
use Rattle.iol_layout.specs.declared.in_use.InUse.{InUse}
use Rattle.iol_layout.proofs.AreasInUse.{in_use_header}
use Rattle.iol_layout.proofs.Chains.{bind_ok, ok}
use Rattle.iol_layout.proofs.Geometries.{geometry_in-is}
use Rattle.iol_layout.proofs.Headers.{sound-named}
use Rattle.iol_layout.proofs.Layouts.{size-of, in_use_in-same}

-- a disk of this number of sectors is formatted for the geometry of a layout
pub record IsFormattedFor (sectors : ℕ) (image : Image) (layout : Layout) : Type 0 where
  pub geometry : Geometry
  pub found : geometry_in sectors image ≡ Ok geometry
  pub so : layout ≡ laid_out layout.version geometry

-- the header of an area in which a journal has this standing
abbrev pub header_for : Standing → ℕ → Header
header_for s base = record { epoch = s.epoch; base = base; version = Some s.layout.version }

-- what a standing is read from
pub record IsRead (sectors : ℕ) (image : Image) (s : Standing) (base : ℕ) (ports : State) : Type 0 where
  pub layout : IsFormattedFor sectors image s.layout
  pub in_use : in_use_in s.layout image ≡ Ok (record { area = s.area; header = header_for s base })
  pub ports_are : ports_from s.layout s.area image 0 s.layout.ports ≡ Ok ports
  pub log : log_from s.layout s.area s.epoch image 0 0 s.layout.slots base ports
      ≡ Ok (record { used = s.used; number = s.number; state = s.state })

pub read_stands : (sectors : ℕ) (image : Image) (s : Standing) (base : ℕ) (ports : State) → IsRead sectors image s base ports
    → standing_in sectors image ≡ Ok s
unfolding standing_in
read_stands sectors image s base ports is =
    let g = is.layout.geometry in
    let so = is.layout.so in
    let size = size-of s.layout g (geometry_in-is sectors image g is.layout.found) so in
    let in_use : in_use_in (layout_of g) image ≡ Ok (record { area = s.area; header = header_for s base }) =
    in_use_in-same (layout_of g) s.layout size image ∙ is.in_use in
    let ports_are = subst (λ (l : Layout). ports_from l s.area image 0 l.ports ≡ Ok ports) so is.ports_are in
    let log =
    subst (λ (l : Layout).
    log_from l s.area s.epoch image 0 0 l.slots base ports ≡ Ok (record { used = s.used; number = s.number; state = s.state })) so
    is.log in
    rw (is.layout.found, in_use, ports_are, log) (ap (λ (l : Layout).
    ok (record { layout = l; area = s.area; epoch = s.epoch; used = s.used; number = s.number; state = s.state })) (sym so))

pub stands_read : (sectors : ℕ) (image : Image) (s : Standing) → standing_in sectors image ≡ Ok s → (base : ℕ) × (ports : State)
    × IsRead sectors image s base ports
unfolding standing_in
stands_read sectors image s is =
    let g = bind_ok (geometry_in sectors image) _ s is in
    let u = bind_ok (in_use_in (layout_of g.0) image) _ s g.2 in
    let p = bind_ok (ports_from (layout_used g.0 u.0) u.0.area image 0 g.0.ports) _ s u.2 in
    let l = bind_ok (log_from (layout_used g.0 u.0) u.0.area u.0.header.epoch image 0 0 (layout_used g.0 u.0).slots u.0.header.base p.0) _ s
    p.2 in
    put_together g.0 u.0 p.0 l.0 s (same_ok _ s l.2) g.1 u.1 p.1 l.1
  where
    same_ok : (x y : Standing) → ok x ≡ Ok y → x ≡ y
    same_ok x y same = cc

    -- the area in use, whose version is named
    named : (g : Geometry) (u : InUse) → in_use_in (layout_of g) image ≡ Ok u
        → ok u ≡ Ok (record {
          area = u.area;
          header = record { epoch = u.header.epoch; base = u.header.base; version = Some (version_in u.header) };
        })
    named g u is =
        ap (λ (v : Option Version).
        ok (record { area = u.area; header = record { epoch = u.header.epoch; base = u.header.base; version = v } }))
        (sound-named u.header.version u.header.epoch u.header.base (in_use_header (layout_of g) image u.area u.header is).1)

    put_together : (g : Geometry) (u : InUse) (p : State) (l : Log) (s : Standing)
        → record {
          layout = layout_used g u;
          area = u.area;
          epoch = u.header.epoch;
          used = l.used;
          number = l.number;
          state = l.state;
        } ≡ s
        → geometry_in sectors image ≡ Ok g → in_use_in (layout_of g) image ≡ Ok u
        → ports_from (layout_used g u) u.area image 0 g.ports ≡ Ok p
        → log_from (layout_used g u) u.area u.header.epoch image 0 0 (layout_used g u).slots u.header.base p ≡ Ok l
        → (base : ℕ) × (ports : State) × IsRead sectors image s base ports
    put_together g u p l s same found in_use ports log =
        let size = size-of (layout_used g u) g (geometry_in-is sectors image g found) refl in
        subst (λ (t : Standing). (base : ℕ) × (ports : State) × IsRead sectors image t base ports) same (
          u.header.base,
          p,
          record {
            layout = record { geometry = g; found = found; so = refl };
            in_use = in_use_in-same (layout_used g u) (layout_of g) (sym size) image ∙ in_use ∙ named g u in_use;
            ports_are = ports;
            log = log;
          },
        )
