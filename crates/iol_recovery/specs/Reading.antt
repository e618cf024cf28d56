-- What a function that reads a disk returns.
use Rattle.std.specs.Prelude.{◌≡◌, Result, Ok, Err}
use Rattle.iol_disk.specs.Content.{Image}
use Rattle.iol_disk.specs.Disk.{Disk, Shows}
use Rattle.iol_layout.specs.Meaning.{Cause, unformatted, too_small, damaged}
use Rattle.iol_recovery.specs.declared.cause.RecoverCause.{RecoverCause}
use Rattle.iol_recovery.specs.declared.cause.RecoverCause.TheVariants as cause

-- a cause is the one why reading fails; a fault of the disk or of memory says nothing about what is read (own)
abbrev pub SaysWhy : {Y : Type 0} → Result Y Cause → RecoverCause → Type 0
SaysWhy read (cause.Disk fault) = Unit {0}
SaysWhy read cause.NotFormatted = read ≡ Err unformatted
SaysWhy read cause.TooSmall = read ≡ Err too_small
SaysWhy read (cause.Damaged sector) = read ≡ Err (damaged sector)
SaysWhy read cause.Memory = Unit {0}

-- an answer, in this view, is what is read, or says why reading fails (own)
abbrev pub Says : {X Y : Type 0} → (X → Y) → Result Y Cause → Result X RecoverCause → Type 0
Says view read (Ok x) = read ≡ Ok (view x)
Says view read (Err told) = SaysWhy read told

-- an answer, in this view, is what is read from an honest disk, or says why reading fails; `Counted` covers failed calls, and
-- `HasChosen` memory (own)
abbrev pub Finds : {X Y : Type 0} → (X → Y) → Disk → (Image → Result Y Cause) → Result X RecoverCause → Type 0
Finds view old read answer = Shows old (λ image. Says view (read image) answer)
