-- What a power stop leaves of a disk while it is formatted.
use Rattle.std.proofs.Common.{◌≡◌, ◌≤◌, ◌⊎◌, ℕ, ◌+◌, Bool, true, false, IsTrue, ◌∷◌, [], ◌++◌, Result, Ok, Err, IfErr, inl, inr, ◌∙◌, ap}
use Rattle.std.proofs.Common.{sym, subst, arith, length-append}
use Rattle.iol_record.specs.Record.{newest}
use Rattle.iol_record.specs.declared.version.Version.{Version}
use Rattle.iol_disk.specs.Content.{Image, Content, IsImage, IsImageSince, clock, now, reads, synced}
use Rattle.iol_disk.specs.Disk.{Disk, After, Same, Shows}
use Rattle.iol_disk.specs.Moments.{LeavesOnly}
use Rattle.iol_disk.specs.declared.fault.DiskFault.{DiskFault}
use Rattle.iol_disk.specs.declared.fault.DiskFault.TheVariants.{Read, Write, Sync}
use Rattle.iol_disk.proofs.DiskLaws.{HasOnTheWay, content_after_append, made_leaves, failed_leaves, started, leaves_same, and_then}
use Rattle.iol_disk.proofs.DiskLaws.{then_same, weaker, quiet_sync}
use Rattle.iol_disk.specs.Calls.{content_after_all, Made, FailedIn, Makes}
use Rattle.iol_disk.specs.Gate.{is_open, IsShut}
use Rattle.iol_layout.specs.Geometry.{Geometry, IsGeometry}
use Rattle.iol_layout.specs.Layout.{laid_out, layout_of, total}
use Rattle.iol_journal.specs.Formatting.{EachIsEmptyJournal, IfUntouched, IsEmptyJournalOf, IsEmptyOrUnformatted, LeavesFormat}
use Rattle.iol_journal.specs.Orders.{MakesFormat, journal_writes, opening_calls, format_calls}
use Rattle.iol_layout.specs.declared.geometry.TheConstants.{DISK_GATE}
use Rattle.iol_journal.specs.declared.formatting.FormatFault.{FormatFault}
use Rattle.iol_journal.specs.declared.formatting.FormatFault.TheVariants.{TooSmall, AlreadyFormatted, Memory, Disk as DiskFailed}
use Rattle.iol_journal.proofs.EmptyJournals.{shut-unformatted}
use Rattle.iol_journal.proofs.DiskGate.{Shut, way_append, spared, spared-end, opened, durable}
use Rattle.iol_disk.proofs.Synced.{synced-only, no_read}
use Rattle.iol_journal.proofs.WrittenJournals.{journal-writes, spares-journal}

-- a gate that was read closed is shut after a sync
pub read_shut : (old mid : Disk) → After synced old mid → Shows old (λ image. is_open (image DISK_GATE) ≡ false) → IsShut DISK_GATE mid
read_shut old mid after closed h image is =
    let h_old = subst IsTrue after.honest h in
    subst (λ (was : Image). is_open (was DISK_GATE) ≡ false) (sym (synced-only old mid after h_old image is)) (closed h_old)

-- ---- a format from its first sync on, which reads the gate of the disk next

-- nothing is written yet
pub quiet-moments : (old mid new : Disk) → After synced old mid → Same mid new → LeavesOnly old new (IsImage old.content)
quiet-moments old mid new after same = then_same old mid new _ (quiet_sync old mid after) same

pub quiet-any_moment : (g : Geometry) (old mid new : Disk) → After synced old mid → Same mid new
    → LeavesOnly old new (λ image. IsImage old.content image ⊎ IsEmptyOrUnformatted g old.sectors image)
quiet-any_moment g old mid new after same = weaker old new _ _ (quiet-moments old mid new after same) (λ h image is. inl is)

-- the gate was read closed
pub closed-before : (old mid : Disk) (sector : ℕ) (answer : Bool) → After synced old mid → sector ≡ DISK_GATE → answer ≡ false
    → Shows mid (λ image. answer ≡ is_open (image sector)) → Shows old (λ image. is_open (image DISK_GATE) ≡ false)
closed-before old mid sector answer after at closed read h =
    sym (ap (λ (c : Content). is_open (reads c DISK_GATE)) (after.content h)) ∙ sym (ap (λ (i : ℕ). is_open (reads mid.content i)) at)
    ∙ sym (read (subst IsTrue (sym after.honest) h)) ∙ closed

pub shut-same : (old new : Disk) → Same old new → IsShut DISK_GATE old → IsShut DISK_GATE new
shut-same old new same shut h image is =
    let h_old = subst IsTrue same.honest h in
    shut h_old image (subst (λ (c : Content). IsImage c image) (same.content h_old) is)

-- the writes while the gate of the disk is shut, and then the gate
abbrev pub WritesAfter : Geometry → Disk → Disk → Type 0
WritesAfter g old new = IsShut DISK_GATE old → LeavesOnly old new (IsEmptyOrUnformatted g old.sectors)

pub behind-nothing : (g : Geometry) (d : Disk) → WritesAfter g d d
behind-nothing g d shut = started d _ (λ h image is. inl (shut-unformatted d.sectors image (shut h image is)))

-- the images during the calls after the first sync
way : (version : Version) (g : Geometry) (sectors : ℕ) (c : Content) → IsGeometry g → total (laid_out version g) ≤ sectors → Shut c
    → HasOnTheWay (journal_writes version g ++ opening_calls) c (IsEmptyOrUnformatted g sectors)
way version g sectors c is fits shut =
    way_append (journal_writes version g) opening_calls c (IsEmptyOrUnformatted g sectors)
    (λ place image is_image.
    inl (shut-unformatted sectors image (spared (journal_writes version g) c (spares-journal version g) shut place image is_image)))
    (opened version g sectors fits (content_after_all (journal_writes version g) c)
    (spared-end (journal_writes version g) c (spares-journal version g) shut)
    (journal-writes version g c is))

pub behind-makes : (result : Result Unit DiskFault) (version : Version) (g : Geometry) (old new : Disk) → IsGeometry g
    → total (laid_out version g) ≤ old.sectors
    → Makes (journal_writes version g ++ opening_calls) old new result → WritesAfter g old new
behind-makes (Ok done) version g old new is fits made shut =
    made_leaves _ old new _ made (λ h. way version g old.sectors old.content is fits (shut h))
behind-makes (Err told) version g old new is fits failed shut =
    failed_leaves _ told old new _ failed (λ h. way version g old.sectors old.content is fits (shut h))

-- after all of them, each image is the empty journal
pub made-empty : (version : Version) (g : Geometry) (old new : Disk) → IsGeometry g → total (laid_out version g) ≤ old.sectors
    → Made (journal_writes version g ++ opening_calls) old new → IsShut DISK_GATE old → EachIsEmptyJournal new g
made-empty version g old new is fits made shut h image is_image =
    let h_old = subst IsTrue made.after.honest h in
    let written = content_after_all (journal_writes version g) old.content in
    let all = made.after.content h_old ∙ content_after_append (journal_writes version g) opening_calls old.content in
    subst (λ (n : ℕ). IsEmptyJournalOf g n image) (sym made.after.sectors)
    (durable version g old.sectors fits written (spared-end (journal_writes version g) old.content (spares-journal version g) (shut h_old))
    (journal-writes version g old.content is) image
    (subst (λ (c : Content). IsImage c image) all is_image))

behind-synced : (g : Geometry) (old mid read new : Disk) → After synced old mid → Same mid read
    → Shows old (λ image. is_open (image DISK_GATE) ≡ false) → WritesAfter g read new
    → LeavesOnly mid new (IsEmptyOrUnformatted g old.sectors)
behind-synced g old mid read new after same closed writes =
    let shut = read_shut old mid after closed in
    let sizes : read.sectors ≡ old.sectors = same.sectors ∙ after.sectors in
    and_then mid read new _ (leaves_same mid read _ same (λ h image is. inl (shut-unformatted old.sectors image (shut h image is))))
    (subst (λ (n : ℕ). LeavesOnly read new (IsEmptyOrUnformatted g n)) sizes (writes (shut-same mid read same shut)))

pub written-any_moment : (g : Geometry) (old mid read new : Disk) → After synced old mid → Same mid read
    → Shows old (λ image. is_open (image DISK_GATE) ≡ false) → WritesAfter g read new
    → LeavesOnly old new (λ image. IsImage old.content image ⊎ IsEmptyOrUnformatted g old.sectors image)
written-any_moment g old mid read new after same closed writes =
    and_then old mid new _ (weaker old mid _ _ (quiet_sync old mid after) (λ h image is. inl is))
    (weaker mid new _ _ (behind-synced g old mid read new after same closed writes) (λ h image is. inr is))

-- for a disk whose gate was open nothing more is claimed
pub closed-or_kept : (old new : Disk) (P : Image → Type 0) → LeavesOnly old new P
    → Shows old (λ image. is_open (image DISK_GATE) ≡ false) → Shows old (λ image. is_open (image DISK_GATE) ≡ true)
    → LeavesOnly old new (IsImage old.content)
closed-or_kept old new P leaves closed opened = weaker old new _ _ leaves (λ h image is. absurd (clash (closed h) (opened h)))
  where
    clash : is_open (reads old.content DISK_GATE) ≡ false → is_open (reads old.content DISK_GATE) ≡ true → ⊥
    clash was_closed was_open = cc

pub written-since : (g : Geometry) (old mid read new : Disk) → After synced old mid → Same mid read
    → Shows old (λ image. is_open (image DISK_GATE) ≡ false) → WritesAfter g read new → LeavesFormat g old new
written-since g old mid read new after same closed writes h later image left =
    let next : clock old.content + 1 ≡ clock mid.content =
    omega (arith, ap clock (after.content h), length-append old.content.past (now old.content ∷ [])) in
    (behind-synced g old mid read new after same closed writes).each (subst IsTrue (sym after.honest) h) image
    (subst (λ (t : ℕ). IsImageSince t new.content image) next left)

-- a fault that is not the disk's
pub untouched : (result : Result Unit FormatFault) (P : Type 0) → P → IfErr result (λ fault. IfUntouched fault P)
untouched (Ok done) P p = tt
untouched (Err TooSmall) P p = p
untouched (Err AlreadyFormatted) P p = p
untouched (Err Memory) P p = p
untouched (Err (DiskFailed fault)) P p = tt

-- only a write or a sync of a format fails in this way
pub format_failed : (version : Version) (g : Geometry) (told : DiskFault) (old new : Disk) → FailedIn (format_calls version g) told old new
    → MakesFormat version g old new (Err (DiskFailed told))
format_failed version g Read old new failed = absurd (no_read failed.call failed.kind)
format_failed version g Write old new failed = failed
format_failed version g Sync old new failed = failed

-- the newest version, as a call returns it
pub fits-newest : (version : Version) (g : Geometry) (sectors : ℕ) → version ≡ newest → total (layout_of g) ≤ sectors
    → total (laid_out version g) ≤ sectors
fits-newest version g sectors is fits = subst (λ (v : Version). total (laid_out v g) ≤ sectors) (sym is) fits

pub made-newest : {old new : Disk} (version : Version) (g : Geometry) → version ≡ newest → Made (format_calls version g) old new
    → Made (format_calls newest g) old new
made-newest {old} {new} version g is made = subst (λ (v : Version). Made (format_calls v g) old new) is made

pub failed-newest : {told : DiskFault} {old new : Disk} (version : Version) (g : Geometry) → version ≡ newest
    → FailedIn (format_calls version g) told old new → FailedIn (format_calls newest g) told old new
failed-newest {told} {old} {new} version g is failed = subst (λ (v : Version). FailedIn (format_calls v g) told old new) is failed
