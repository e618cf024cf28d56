-- The log of the calls that were handed out: numbers that take no octets, and the content of a disk after them.
use Rattle.std.specs.Prelude.{ℕ, List, [], ◌∷◌, ◌++◌, zero, suc, take, drop, replicate, None}
use Rattle.iol_disk.specs.Calls.{Call, write, sync, content_after}
use Rattle.iol_disk.specs.Content.{Content, Image}
use Rattle.iol_disk.specs.declared.disk.TheConstants.{SECTOR_OCTETS}

-- a call as numbers: 0 for a sync, or one more than the sector for a write; and then 512 octets, which are those of a write (own)
abbrev pub numbers_of : Call → List ℕ
numbers_of (write sector octets) = suc sector ∷ octets
numbers_of sync = 0 ∷ replicate SECTOR_OCTETS 0

-- the call that these numbers begin with (own)
abbrev pub call_in : List ℕ → Call
call_in [] = sync
call_in (zero ∷ numbers) = sync
call_in (suc sector ∷ numbers) = write sector (take SECTOR_OCTETS numbers)

-- the content of a disk that held this image, after this number of calls; the numbers begin with the last call (own)
abbrev pub content_in : Image → ℕ → List ℕ → Content
content_in image zero numbers = record { durable = image; written = λ i. None; past = [] }
content_in image (suc calls) numbers = content_after (call_in numbers) (content_in image calls (drop (suc SECTOR_OCTETS) numbers))

-- the content after the calls of a log, which begins with their number (own)
abbrev pub content_of : Image → List ℕ → Content
content_of image [] = content_in image 0 []
content_of image (calls ∷ numbers) = content_in image calls numbers

-- a log after one more call (own)
abbrev pub logged : Call → List ℕ → List ℕ
logged call [] = 1 ∷ numbers_of call
logged call (calls ∷ numbers) = suc calls ∷ (numbers_of call ++ numbers)
