-- Where memory is needed, extended from what was read to the whole.
use Rattle.std.proofs.Common.{◌≡◌, ◌≤◌, ◌<◌, ◌⊎◌, ℕ, ◌+◌, ◌-◌, ◌*◌, true, List, ◌++◌, length, inl, inr, sym, ◌∙◌, ap, subst, arith}
use Rattle.std.proofs.lemmas.List.{length-append}
use Rattle.iol_types.specs.State.{State}
use Rattle.iol_disk.specs.Content.{Image, reads}
use Rattle.iol_disk.specs.Disk.{Disk, Same, Shows}
use Rattle.iol_disk.proofs.Unchanged.{same-honest, same-reads}
use Rattle.iol_record.specs.declared.version.Version.{Version}
use Rattle.iol_layout.specs.Body.{head_of}
use Rattle.iol_layout.specs.Octets.{octets_at}
use Rattle.iol_layout.specs.declared.body.TheConstants.{BODY_HEAD_OCTETS}
use Rattle.iol_layout.proofs.ReachedBodies.{HaveRead, head_of-append, front-kept}
use Rattle.iol_layout.proofs.Sectors.{octets_at-add}
use Rattle.iol_disk.specs.Gate.{is_open, body_sector}
use Rattle.iol_disk.specs.declared.slot.TheConstants.{BODY_SECTORS}
use Rattle.iol_layout.specs.Layout.{Layout, slot_at, body_at}
use Rattle.iol_layout.specs.Meaning.{body_in, span_in, log_from}
use Rattle.iol_layout.specs.declared.area.Area.{Area}
use Rattle.iol_layout.proofs.Spans.{body_in-placed}
use Rattle.iol_recovery.specs.Wants.{BatchWants, CommandsWant, LogWants, PortWants}

-- what was read of a body is the beginning of the body
pub begins_with : (image : Image) (sector n most : ℕ) (front body : List ℕ) → HaveRead image sector n most front body
    → octets_at image sector most ≡ body ++ octets_at image (sector + n) (most - n)
begins_with image sector n most front body read =
    let count : most ≡ n + (most - n) = omega (arith, read.within) in
    ap (octets_at image sector) count ∙ octets_at-add image sector n (most - n)
    ∙ ap (λ (octets : List ℕ). octets ++ octets_at image (sector + n) (most - n)) (sym read.all)

-- a batch that needs memory needs it in a longer body too
pub wants-longer : (version : Version) (epoch first : ℕ) (state : State) (body more : List ℕ)
    → BatchWants version epoch first state body → BatchWants version epoch first state (body ++ more)
wants-longer version epoch first state body more (fit, holds, wants) =
    let some : BODY_HEAD_OCTETS ≤ length body = omega (arith, holds) in
    let longer : BODY_HEAD_OCTETS + (head_of body).octets ≤ length (body ++ more) = omega (arith, holds, length-append body more) in
    let octets = (head_of body).octets in
    rw (head_of-append body more some) (
      fit,
      longer,
      subst (λ (records : List ℕ). CommandsWant version (head_of body).count state records)
          (sym (front-kept octets BODY_HEAD_OCTETS body more holds)) wants,
    )

-- the octets that were read of a body are its beginning, on a disk that calls left unchanged
pub body_read : (old now : Disk) (layout : Layout) (a : Area) (k sector n : ℕ) (body : List ℕ) → Same old now
    → sector ≡ body_at layout a k 0
    → Shows now (λ image. (more : List ℕ) × (octets_at (λ j. image (body_sector sector j)) 0 (BODY_SECTORS * n) ≡ body ++ more))
    → Shows old (λ image. (more : List ℕ) × (body_in layout a image k n ≡ body ++ more))
body_read old now layout a k sector n body same here read h =
    let begins = read (same-honest old now same h) in (
      begins.0,
      ap (λ (image : Image). body_in layout a image k n) (sym (same-reads old now same h))
          ∙ sym (body_in-placed layout a (reads now.content) k n sector here) ∙ begins.1,
    )

-- a slot after sound ones needs memory
pub slot-wants : (layout : Layout) (a : Area) (epoch : ℕ) (image : Image) (k base : ℕ) (state : State) (number : ℕ) (reached : State)
    (n : ℕ) → log_from layout a epoch image k 0 0 number reached ≡ log_from layout a epoch image 0 0 (0 + k) base state
    → is_open (image (slot_at layout a k)) ≡ true → span_in layout a image k ≡ n → k < layout.slots → n ≤ layout.slots - k
    → (1 < n) ⊎ BatchWants layout.version epoch (number + 1) reached (body_in layout a image k n)
    → LogWants layout a epoch image base state
slot-wants layout a epoch image k base state number reached n front opened span inside short wants =
    let count : k ≡ 0 + k = omega arith in (
      k,
      number,
      reached,
      inside,
      ap (λ (i : ℕ). log_from layout a epoch image 0 0 i base state) count ∙ sym front,
      (
        opened,
        omega (arith, span, short),
        subst (λ (i : ℕ). (1 < i) ⊎ BatchWants layout.version epoch (number + 1) reached (body_in layout a image k i)) (sym span) wants,
      ),
    )

-- with less capacity, memory is needed too
less-room : (room least : ℕ) (version : Version) (image : Image) (first sectors : ℕ) → least ≤ room
    → PortWants room version image first sectors → PortWants least version image first sectors
less-room room least version image first sectors less (j, inside, short, inl full) = (j, inside, short, inl (omega (arith, less, full)))
less-room room least version image first sectors less (j, inside, short, inr begun) = (j, inside, short, inr begun)

-- a port of an area needs memory, on a disk that calls left unchanged
pub port-wants : (old now : Disk) (version told : Version) (place sector count sectors room least : ℕ) → Same old now → told ≡ version
    → sector ≡ place → count ≡ sectors → least ≤ room → Shows now (λ image. PortWants room told image sector count)
    → Shows old (λ image. PortWants least version image place sectors)
port-wants old now version told place sector count sectors room least same spelled here whole less wants h =
    less-room room least version (reads old.content) place sectors less
    (subst (λ (n : ℕ). PortWants room version (reads old.content) place n) whole
    (subst (λ (s : ℕ). PortWants room version (reads old.content) s count) here
    (subst (λ (v : Version). PortWants room v (reads old.content) sector count) spelled
    (subst (λ (image : Image). PortWants room told image sector count) (same-reads old now same h)
    (wants (same-honest old now same h))))))
