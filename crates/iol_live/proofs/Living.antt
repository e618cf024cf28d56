-- A master leaves the state after what was there and its commands, and this state can be recovered.
use Rattle.std.proofs.Common.{◌≡◌, ◌∙◌, ℕ, ◌+◌, List, length, Result, Ok, Err, inr, sym, ap, subst}
use Rattle.std.specs.Prelude.{IsTrue}
use Rattle.iol_types.specs.Command.{CommandValue}
use Rattle.iol_types.specs.State.{State, after}
use Rattle.iol_disk.proofs.Images.{reads-is_image}
use Rattle.iol_disk.specs.Content.{reads}
use Rattle.iol_disk.specs.Disk.{Disk, Shows}
use Rattle.iol_script.specs.declared.device.Device.{Device}
use Rattle.iol_front.specs.Fronts.{Start}
use Rattle.iol_journal.specs.Journals.{JournalView}
use Rattle.iol_journal.specs.Kept.{EachMeans, IsKept}
use Rattle.iol_journal.specs.Meaning.{Cause, Meaning, unformatted, too_small, damaged, standing_in}
use Rattle.iol_flush.specs.Flushing.{Rests}
use Rattle.iol_commands.specs.Images.{TellsWhy}
use Rattle.iol_texts.specs.Recovered.{recovered_text}
use Rattle.iol_commands.specs.Recovered.{TellsState}
use Rattle.iol_commands.specs.declared.fault.Fault.{Fault}
use Rattle.iol_commands.specs.declared.fault.Fault.TheVariants.{NotFormatted, AlreadyFormatted, TooSmall, Damaged, Disk as OfDisk, Memory}
use Rattle.iol_commands.specs.declared.fault.Fault.TheVariants.{Words, File, InUse, Thread, Call, Fit, Drivers, Script, Geometry}
use Rattle.iol_master.specs.Endings.{IsWhole}
use Rattle.iol_live.specs.Lived.{IsAfterWhatIsThere, IsLiveCause, IsRunCause, TellsReceipts, lived_text}

pub ok_same : {A B : Type 0} (x y : A) → ◌≡◌ {A = Result A B} (Ok x) (Ok y) → x ≡ y
ok_same x y same = cc

-- if each image of an honest disk means a number and a state, the recovered text is that of these
tells_what_is_meant : (d : Disk) (number : ℕ) (state : State) (text : List ℕ) → IsTrue d.honest → EachMeans d number state
    → TellsState d text → text ≡ recovered_text number state
tells_what_is_meant d number state text honest means tells =
    let meant = (means honest (reads d.content) (reads-is_image d.content)).1 in
    let same : Ok (record { number = tells.0; state = tells.1 }) ≡ Ok (record { number = number; state = state }) =
    sym (tells.2 honest) ∙ meant in
    let m : record { number = tells.0; state = tells.1 } ≡ record { number = number; state = state } = ok_same _ _ same in
    tells.3 ∙ ap (λ (m : Meaning). recovered_text m.number m.state) m

-- a run over a master's journal is a run over the journal that the master received
since : {D : Type 0} (disk : D → Disk) (start : Start) (first master last : JournalView D) (published : List CommandValue)
    → master ≡ first → IsWhole disk start master last published → IsWhole disk start first last published
since disk start first master last published same whole = subst (λ j. IsWhole disk start j last published) same whole

-- the text of the journal that a master left
left_behind : {D : Type 0} (disk : D → Disk) (start : Start) (first last : JournalView D) (published : List CommandValue)
    (receipts : ℕ) (told text : List ℕ) → ((d : D) → IsTrue (disk d).honest)
    → Rests disk first
    → start ≡ record { number = first.standing.number; state = first.standing.state }
    → IsWhole disk start first last published → TellsState (disk last.disk) told → text ≡ lived_text receipts told
    → IsAfterWhatIsThere receipts first.standing text
left_behind disk start first last published receipts told text honest rest same whole tells is =
    let number : last.standing.number ≡ first.standing.number + length published = whole.behind.number
    ∙ ap (λ (s : Start). s.number + length published) same in
    let state : last.standing.state ≡ after first.standing.state published = whole.behind.state
    ∙ ap (λ (s : Start). after s.state published) same in
    let tells_last = tells_what_is_meant (disk last.disk) last.standing.number last.standing.state told (honest last.disk)
    (whole.images rest) tells in
    let told_is : told ≡ recovered_text (first.standing.number + length published) (after first.standing.state published) = tells_last
    ∙ (ap (λ (n : ℕ). recovered_text n last.standing.state) number
    ∙ ap (λ (s : State). recovered_text (first.standing.number + length published) s) state) in
    (published, is ∙ ap (lived_text receipts) told_is)

-- a disk is that which a master with this journal left, after no failed disk call
abbrev pub IsLeftWhole : {D : Type 0} → (D → Disk) → Start → JournalView D → D → Type 0
IsLeftWhole {D} disk start first left =
    (last : JournalView D) × (published : List CommandValue) × IsWhole disk start first last published × (left ≡ last.disk)

-- the text of the disk that a master left
pub told_of_left : {D : Type 0} (disk : D → Disk) (start : Start) (first master : JournalView D) (left : D) (receipts : ℕ)
    (told text : List ℕ) → ((d : D) → IsTrue (disk d).honest) → Rests disk first
    → start ≡ record { number = first.standing.number; state = first.standing.state } → master ≡ first
    → IsLeftWhole disk start master left → TellsState (disk left) told → text ≡ lived_text receipts told
    → IsAfterWhatIsThere receipts first.standing text
told_of_left disk start first master left receipts told text honest rest from same whole tells is =
    left_behind disk start first whole.0 whole.1 receipts told text honest rest from
    (since disk start first master whole.0 whole.1 same whole.2) (subst (λ d. TellsState (disk d) told) whole.3 tells) is

-- the recovery of a disk that holds a journal fails only if a disk call fails or memory runs out
met : {Y : Type 0} (read : Result Y Cause) (y : Y) (fault : Fault) → TellsWhy read fault → read ≡ Ok y → IsRunCause fault
met read y NotFormatted tells is = let wrong : ◌≡◌ {A = Result _ Cause} (Err unformatted) (Ok y) = sym tells ∙ is in absurd cc
met read y TooSmall tells is = let wrong : ◌≡◌ {A = Result _ Cause} (Err too_small) (Ok y) = sym tells ∙ is in absurd cc
met read y (Damaged sector) tells is = let wrong : ◌≡◌ {A = Result _ Cause} (Err (damaged sector)) (Ok y) = sym tells ∙ is in absurd cc
met read y OfDisk tells is = tt
met read y Memory tells is = tt
met read y AlreadyFormatted tells is = absurd tells
met read y Words tells is = absurd tells
met read y (File path) tells is = absurd tells
met read y InUse tells is = absurd tells
met read y Thread tells is = absurd tells
met read y Call tells is = absurd tells
met read y Fit tells is = absurd tells
met read y Drivers tells is = absurd tells
met read y Script tells is = absurd tells
met read y Geometry tells is = absurd tells

-- why the disk of the journal that a master left is not recovered
left_cause : {D : Type 0} (disk : D → Disk) (start : Start) (first last : JournalView D) (published : List CommandValue) (fault : Fault)
    → ((d : D) → IsTrue (disk d).honest) → Rests disk first → IsWhole disk start first last published
    → Shows (disk last.disk) (λ image. TellsWhy (standing_in (disk last.disk).sectors image) fault) → IsRunCause fault
unfolding IsKept
left_cause disk start first last published fault honest rest whole tells =
    let d = disk last.disk in
    let kept = (whole.images rest (honest last.disk) (reads d.content) (reads-is_image d.content)).0 in
    met (standing_in d.sectors (reads d.content)) kept.0 fault (tells (honest last.disk)) kept.2.stands

-- why the disk that a master left is not recovered
pub cause_of_left : {D : Type 0} (disk : D → Disk) (start : Start) (first master : JournalView D) (left : D) (fault : Fault)
    → ((d : D) → IsTrue (disk d).honest) → Rests disk first → master ≡ first
    → IsLeftWhole disk start master left → Shows (disk left) (λ image. TellsWhy (standing_in (disk left).sectors image) fault)
    → IsRunCause fault
cause_of_left disk start first master left fault honest rest same whole tells =
    left_cause disk start first whole.0 whole.1 fault honest rest (since disk start first master whole.0 whole.1 same whole.2)
    (subst (λ d. Shows (disk d) (λ image. TellsWhy (standing_in (disk d).sectors image) fault)) whole.3 tells)

-- the text of any recovered disk is that of some number and state
pub receipts_told : (d : Disk) (receipts : ℕ) (told text : List ℕ) → TellsState d told → text ≡ lived_text receipts told
    → TellsReceipts receipts text
receipts_told d receipts told text tells is = (tells.0, tells.1, is ∙ ap (lived_text receipts) tells.3)

-- why a disk that holds a journal is not recovered
pub recovery_cause : (d : Disk) (devices : List Device) (fault : Fault) → IsTrue d.honest → IsKept d.sectors (reads d.content)
    → Shows d (λ image. TellsWhy (standing_in d.sectors image) fault) → IsLiveCause d devices fault
unfolding IsKept
recovery_cause d devices fault honest kept tells =
    inr (met (standing_in d.sectors (reads d.content)) kept.0 fault (tells honest) kept.2.stands)
