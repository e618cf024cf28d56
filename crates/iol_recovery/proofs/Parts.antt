-- The parts of a journal on an image, as far as each was read: reading ends at a cause.
use Rattle.std.proofs.Common.{◌≡◌, ℕ, Result, Ok, refl, sym, ap, subst}
use Rattle.iol_types.specs.State.{State}
use Rattle.iol_disk.specs.Content.{Image}
use Rattle.iol_record.specs.Reading.{◌>>=◌}
use Rattle.iol_layout.specs.Geometry.{Geometry}
use Rattle.iol_layout.specs.Meaning.{Cause, Log, Standing, geometry_in, in_use_in, ports_from, log_from, layout_used, standing_in}
use Rattle.iol_layout.specs.Layout.{Layout, layout_of}
use Rattle.iol_recovery.specs.Reading.{SaysWhy}
use Rattle.iol_recovery.specs.declared.cause.RecoverCause.{RecoverCause}
use Rattle.iol_recovery.specs.declared.cause.RecoverCause.TheVariants as cause
use Rattle.iol_layout.specs.declared.in_use.InUse.{InUse}

pub cause_before : {A B : Type 0} (first : Result A Cause) (next : A → Result B Cause) (told : RecoverCause) → SaysWhy first told
    → SaysWhy (first >>= next) told
cause_before first next (cause.Disk fault) is = tt
cause_before {A = A} first next cause.NotFormatted is = ap (λ (r : Result A Cause). r >>= next) is
cause_before {A = A} first next cause.TooSmall is = ap (λ (r : Result A Cause). r >>= next) is
cause_before {A = A} first next (cause.Damaged sector) is = ap (λ (r : Result A Cause). r >>= next) is
cause_before first next cause.Memory is = tt

module _ (sectors : ℕ) (image : Image) where
  pub no_geometry : (told : RecoverCause) → SaysWhy (geometry_in sectors image) told → SaysWhy (standing_in sectors image) told
  unfolding standing_in
  no_geometry told is = cause_before (geometry_in sectors image) _ told is

  pub no_area : (g : Geometry) (told : RecoverCause) → geometry_in sectors image ≡ Ok g → SaysWhy (in_use_in (layout_of g) image) told
      → SaysWhy (standing_in sectors image) told
  unfolding standing_in
  no_area g told found is = rw found (cause_before (in_use_in (layout_of g) image) _ told is)

  -- the area in use and its layout were found
  module _ (g : Geometry) (used : InUse) (layout : Layout) (found : geometry_in sectors image ≡ Ok g)
      (in_use : in_use_in (layout_of g) image ≡ Ok used) (so : layout ≡ layout_used g used) where
    pub no_ports : (told : RecoverCause) → SaysWhy (ports_from layout used.area image 0 layout.ports) told
        → SaysWhy (standing_in sectors image) told
    unfolding standing_in
    no_ports told is =
        rw (found, in_use)
        (cause_before (ports_from (layout_used g used) used.area image 0 g.ports) _ told
        (subst (λ (l : Layout). SaysWhy (ports_from l used.area image 0 l.ports) told) so is))

    pub no_log : (ports : State) (told : RecoverCause) → ports_from layout used.area image 0 layout.ports ≡ Ok ports
        → SaysWhy (log_from layout used.area used.header.epoch image 0 0 layout.slots used.header.base ports) told
        → SaysWhy (standing_in sectors image) told
    unfolding standing_in
    no_log ports told state is =
        let ports_are = subst (λ (l : Layout). ports_from l used.area image 0 l.ports ≡ Ok ports) so state in
        rw (found, in_use, ports_are)
        (cause_before (log_from (layout_used g used) used.area used.header.epoch image 0 0 (layout_used g used).slots used.header.base
        ports) _ told
        (subst (λ (l : Layout). SaysWhy (log_from l used.area used.header.epoch image 0 0 l.slots used.header.base ports) told) so is))

    pub stands : (ports : State) (log : Log) → ports_from layout used.area image 0 layout.ports ≡ Ok ports
        → log_from layout used.area used.header.epoch image 0 0 layout.slots used.header.base ports ≡ Ok log
        → standing_in sectors image
        ≡ Ok (record {
          layout = layout;
          area = used.area;
          epoch = used.header.epoch;
          used = log.used;
          number = log.number;
          state = log.state;
        })
    unfolding standing_in
    stands ports log state is =
        subst (λ (l : Layout). ports_from l used.area image 0 l.ports ≡ Ok ports
        → log_from l used.area used.header.epoch image 0 0 l.slots used.header.base ports ≡ Ok log
        → standing_in sectors image ≡ Ok (standing l)) (sym so) (λ ports_are logged. rw (found, in_use, ports_are, logged) refl) state is
      where
        standing : Layout → Standing
        standing l = record {
          layout = l;
          area = used.area;
          epoch = used.header.epoch;
          used = log.used;
          number = log.number;
          state = log.state;
        }
