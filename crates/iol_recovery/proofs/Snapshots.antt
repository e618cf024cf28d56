-- The ports of a snapshot, read record by record.
use Rattle.std.proofs.Common.{◌≡◌, ℕ, ◌+◌, [], ◌∷◌, ◌++◌, Result, Ok, Err, refl, sym, ap, subst, add-one, append_assoc}
use Rattle.std.proofs.lemmas.List.{append-nil}
use Rattle.iol_types.specs.State.{Port, State}
use Rattle.iol_record.specs.Reading.{◌>>=◌}
use Rattle.iol_disk.specs.Content.{Image, reads}
use Rattle.iol_disk.specs.Disk.{Disk, Same, Shows}
use Rattle.iol_record.specs.declared.version.Version.{Version}
use Rattle.iol_layout.specs.Layout.{Layout, port_at}
use Rattle.iol_layout.specs.Meaning.{Cause, port_in, ports_from}
use Rattle.iol_recovery.specs.Reading.{Says, SaysWhy}
use Rattle.iol_recovery.specs.declared.cause.RecoverCause.{RecoverCause}
use Rattle.iol_recovery.specs.declared.cause.RecoverCause.TheVariants as cause
use Rattle.iol_recovery.proofs.Parts.{cause_before}
use Rattle.iol_layout.specs.declared.area.Area.{Area}
use Rattle.iol_disk.proofs.Unchanged.{same-honest, same-reads}

-- the ports that were read come before those that are read next
abbrev pub with_front : State → Result State Cause → Result State Cause
with_front front (Ok ports) = Ok (front ++ ports)
with_front front (Err cause) = Err cause

pub with_front-none : (ports : Result State Cause) → with_front [] ports ≡ ports
with_front-none (Ok ports) = refl
with_front-none (Err cause) = refl

with_front-one : (front : State) (port : Port) (others : Result State Cause)
    → with_front front (others >>= λ ports. Ok (port ∷ ports)) ≡ with_front (front ++ port ∷ []) others
with_front-one front port (Ok ports) = ap (λ (all : State). Ok all) (sym (append_assoc front (port ∷ []) ports))
with_front-one front port (Err cause) = refl

-- one more port, read from its record
pub ports-more : (layout : Layout) (a : Area) (image : Image) (p left : ℕ) (front : State) (port : Port)
    → port_in layout.version image (port_at layout a p) layout.port_sectors ≡ Ok port
    → with_front front (ports_from layout a image p (left + 1)) ≡ with_front (front ++ port ∷ []) (ports_from layout a image (p + 1) left)
unfolding ports_from
ports-more layout a image p left front port is = rw (add-one, is) (with_front-one front port (ports_from layout a image (p + 1) left))

with_front-why : (front : State) (ports : Result State Cause) (told : RecoverCause) → SaysWhy ports told
    → SaysWhy (with_front front ports) told
with_front-why front (Ok ports) (cause.Disk fault) is = tt
with_front-why front (Err why) (cause.Disk fault) is = tt
with_front-why front (Ok ports) cause.NotFormatted is = absurd cc
with_front-why front (Err why) cause.NotFormatted is = is
with_front-why front (Ok ports) cause.TooSmall is = absurd cc
with_front-why front (Err why) cause.TooSmall is = is
with_front-why front (Ok ports) (cause.Damaged sector) is = absurd cc
with_front-why front (Err why) (cause.Damaged sector) is = is
with_front-why front (Ok ports) cause.Memory is = tt
with_front-why front (Err why) cause.Memory is = tt

-- a port's record from which no port is read
pub ports-stopped : (layout : Layout) (a : Area) (image : Image) (p left : ℕ) (front : State) (told : RecoverCause)
    → SaysWhy (port_in layout.version image (port_at layout a p) layout.port_sectors) told
    → SaysWhy (with_front front (ports_from layout a image p (left + 1))) told
unfolding ports_from
ports-stopped layout a image p left front told is =
    with_front-why front (ports_from layout a image p (left + 1)) told
    (rw add-one (cause_before (port_in layout.version image (port_at layout a p) layout.port_sectors) (λ port.
    ports_from layout a image (p + 1) left >>= λ ports. Ok (port ∷ ports)) told is))

-- no port is left
pub ports-ended : (layout : Layout) (a : Area) (image : Image) (p : ℕ) (front : State) → with_front front (ports_from layout a image p 0)
    ≡ Ok front
unfolding ports_from
ports-ended layout a image p front = simp append-nil

-- what is read from a port's record at this place
pub port_placed : (image : Image) (version told : Version) (place sector count sectors : ℕ) (answer : Result Port RecoverCause)
    → told ≡ version → sector ≡ place → count ≡ sectors
    → Says (λ port. port) (port_in told image sector count) answer → Says (λ port. port) (port_in version image place sectors) answer
port_placed image version told place sector count sectors answer spelled here whole says =
    subst (λ (n : ℕ). Says (λ port. port) (port_in version image place n) answer) whole
    (subst (λ (s : ℕ). Says (λ port. port) (port_in version image s count) answer) here
    (subst (λ (v : Version). Says (λ port. port) (port_in v image sector count) answer) spelled says))

-- the same on a disk that calls left unchanged
pub port_shown : (old now : Disk) (version told : Version) (place sector count sectors : ℕ) (answer : Result Port RecoverCause)
    → Same old now → told ≡ version → sector ≡ place → count ≡ sectors
    → Shows now (λ image. Says (λ port. port) (port_in told image sector count) answer)
    → Shows old (λ image. Says (λ port. port) (port_in version image place sectors) answer)
port_shown old now version told place sector count sectors answer same spelled here whole says h =
    port_placed (reads old.content) version told place sector count sectors answer spelled here whole
    (subst (λ (image : Image). Says (λ port. port) (port_in told image sector count) answer) (same-reads old now same h)
    (says (same-honest old now same h)))
