-- The conversations of the worked examples.
use Rattle.std.proofs.Common.{◌≡◌, refl, ◌+◌, ◌≤◌, ℕ, List, [], ◌∷◌, ◌++◌, length, arith, lit≤}
use Rattle.std.specs.Prelude.{Ok, Some, None}
use Rattle.iol_transfer.specs.Command.{commanded}
use Rattle.iol_transfer.specs.declared.command.DsCommand.TheVariants.{UploadStart, UploadEnd, DownloadStart}
use Rattle.iol_link.proofs.AnswerTexts.{answer_reads}
use Rattle.iol_link.proofs.Lengths.{shortest_read, shortest_write}
use Rattle.iol_link.proofs.Spelled.{short_isdu}
use Rattle.iol_link.specs.Isdu.{IsShortestRequest, xor_of}
use Rattle.iol_link.specs.Reading.{answer_of}
use Rattle.iol_link.specs.declared.messages.Answer.{Answer}
use Rattle.iol_link.specs.declared.messages.Answer.TheVariants.{ReadOk, WriteOk}
use Rattle.iol_link.specs.declared.messages.Request.TheVariants as request
use Rattle.iol_transfer.specs.Exchanges.{Exchange, carried, done, read_of}
use Rattle.iol_core.specs.Events as trace
use Rattle.iol_core.specs.Events.{Event, Accepted, Page, Lost, Attended, Changed, Acknowledged, stamped}
use Rattle.iol_core.specs.Own.{own}
use Rattle.iol_core.specs.Statuses as status
use Rattle.iol_core.specs.Statuses.{Starting, Uploading, Storing, Ready, Downloading}
use Rattle.iol_headline.specs.Conversations.{IsToldAs, Converses}
use Rattle.iol_headline.specs.Examples.{example_work, upload, ended}

-- the octets that an exchange reads
abbrev pub octets_of : Answer → List ℕ
octets_of (ReadOk values) = values.items
octets_of answer = []

abbrev pub octets_in : Exchange → List ℕ
octets_in exchange = octets_of exchange.answer

-- an exchange is reported by an event
as_told : (port connection : ℕ) (octets back : List ℕ) (exchange : Exchange) → IsShortestRequest octets exchange.request
    → answer_of back ≡ Ok exchange.answer → IsToldAs port connection (trace.Exchange port connection octets back) exchange
as_told port connection octets back exchange sent heard =
    record { request = octets; answer = back; event = refl; sent = sent; heard = heard }

-- an answer to a read, and the answer to a write
pub was_read : (values : List ℕ) (check : ℕ) → length values ≤ 13
    → xor_of ((208 + (length values + 2)) ∷ (values ++ check ∷ [])) ≡ 0
    → answer_of ((208 + (length values + 2)) ∷ (values ++ check ∷ [])) ≡ Ok (ReadOk (carried values))
was_read values check few xor =
    answer_reads _ (ReadOk (carried values)) (short_isdu _ values check few xor, omega (arith, few))

pub was_written : answer_of (0x52 ∷ 0x52 ∷ []) ≡ Ok WriteOk
was_written = answer_reads _ WriteOk (short_isdu _ [] 0x52 (lit≤ tt) refl)

-- ---- requests, in their shortest form

pub reads_state : IsShortestRequest (0xA4 ∷ 0x03 ∷ 0x02 ∷ 0xA5 ∷ []) (request.Read 3 2)
reads_state = shortest_read _ 3 2 (short_isdu _ (0x03 ∷ 0x02 ∷ []) 0xA5 (lit≤ tt) refl)

pub reads_size : IsShortestRequest (0xA4 ∷ 0x03 ∷ 0x03 ∷ 0xA4 ∷ []) (request.Read 3 3)
reads_size = shortest_read _ 3 3 (short_isdu _ (0x03 ∷ 0x03 ∷ []) 0xA4 (lit≤ tt) refl)

pub reads_checksum : IsShortestRequest (0xA4 ∷ 0x03 ∷ 0x04 ∷ 0xA3 ∷ []) (request.Read 3 4)
reads_checksum = shortest_read _ 3 4 (short_isdu _ (0x03 ∷ 0x04 ∷ []) 0xA3 (lit≤ tt) refl)

pub reads_list : IsShortestRequest (0xA4 ∷ 0x03 ∷ 0x05 ∷ 0xA2 ∷ []) (request.Read 3 5)
reads_list = shortest_read _ 3 5 (short_isdu _ (0x03 ∷ 0x05 ∷ []) 0xA2 (lit≤ tt) refl)

pub reads_first : IsShortestRequest (0x93 ∷ 0x40 ∷ 0xD3 ∷ []) (request.Read 0x0040 0x00)
reads_first = shortest_read _ 0x0040 0x00 (short_isdu _ (0x40 ∷ []) 0xD3 (lit≤ tt) refl)

pub reads_second : IsShortestRequest (0xA4 ∷ 0x41 ∷ 0x01 ∷ 0xE4 ∷ []) (request.Read 0x0041 0x01)
reads_second = shortest_read _ 0x0041 0x01 (short_isdu _ (0x41 ∷ 0x01 ∷ []) 0xE4 (lit≤ tt) refl)

pub starts_upload : IsShortestRequest (0x25 ∷ 0x03 ∷ 0x01 ∷ 0x01 ∷ 0x26 ∷ []) (commanded UploadStart)
starts_upload =
    shortest_write _ 3 1 (carried (0x01 ∷ [])) (lit≤ tt)
    (short_isdu _ (0x03 ∷ 0x01 ∷ 0x01 ∷ []) 0x26 (lit≤ tt) refl)

pub ends_upload : IsShortestRequest (0x25 ∷ 0x03 ∷ 0x01 ∷ 0x02 ∷ 0x25 ∷ []) (commanded UploadEnd)
ends_upload =
    shortest_write _ 3 1 (carried (0x02 ∷ [])) (lit≤ tt)
    (short_isdu _ (0x03 ∷ 0x01 ∷ 0x02 ∷ []) 0x25 (lit≤ tt) refl)

pub starts_download : IsShortestRequest (0x25 ∷ 0x03 ∷ 0x01 ∷ 0x03 ∷ 0x24 ∷ []) (commanded DownloadStart)
starts_download =
    shortest_write _ 3 1 (carried (0x03 ∷ [])) (lit≤ tt)
    (short_isdu _ (0x03 ∷ 0x01 ∷ 0x03 ∷ []) 0x24 (lit≤ tt) refl)

pub writes_first : IsShortestRequest (0x15 ∷ 0x40 ∷ 0x0A ∷ 0x64 ∷ 0x3B ∷ []) (request.Write 0x0040 0x00 (carried (0x0A ∷ 0x64 ∷ [])))
writes_first =
    shortest_write _ 0x0040 0x00 (carried (0x0A ∷ 0x64 ∷ [])) (lit≤ tt)
    (short_isdu _ (0x40 ∷ 0x0A ∷ 0x64 ∷ []) 0x3B (lit≤ tt) refl)

pub writes_second : IsShortestRequest (0x25 ∷ 0x41 ∷ 0x01 ∷ 0x7F ∷ 0x1A ∷ []) (request.Write 0x0041 0x01 (carried (0x7F ∷ [])))
writes_second =
    shortest_write _ 0x0041 0x01 (carried (0x7F ∷ [])) (lit≤ tt)
    (short_isdu _ (0x41 ∷ 0x01 ∷ 0x7F ∷ []) 0x1A (lit≤ tt) refl)

pub writes_another : IsShortestRequest (0x15 ∷ 0x40 ∷ 0x0A ∷ 0x65 ∷ 0x3A ∷ []) (request.Write 0x0040 0x00 (carried (0x0A ∷ 0x65 ∷ [])))
writes_another =
    shortest_write _ 0x0040 0x00 (carried (0x0A ∷ 0x65 ∷ [])) (lit≤ tt)
    (short_isdu _ (0x40 ∷ 0x0A ∷ 0x65 ∷ []) 0x3A (lit≤ tt) refl)

-- ---- conversations

-- the events as the sensor and its replacement are examined
abbrev pub flagged_reads : List Event
flagged_reads =
    trace.Exchange 1 0 (0xA4 ∷ 0x03 ∷ 0x02 ∷ 0xA5 ∷ []) (0xD3 ∷ 0x80 ∷ 0x53 ∷ [])
    ∷ trace.Exchange 1 0 (0xA4 ∷ 0x03 ∷ 0x04 ∷ 0xA3 ∷ []) (0xD6 ∷ 0x00 ∷ 0x00 ∷ 0x02 ∷ 0x4F ∷ 0x9B ∷ []) ∷ []

abbrev pub replaced_reads : List Event
replaced_reads =
    trace.Exchange 1 1 (0xA4 ∷ 0x03 ∷ 0x02 ∷ 0xA5 ∷ []) (0xD3 ∷ 0x00 ∷ 0xD3 ∷ [])
    ∷ trace.Exchange 1 1 (0xA4 ∷ 0x03 ∷ 0x04 ∷ 0xA3 ∷ []) (0xD6 ∷ 0x00 ∷ 0x00 ∷ 0x00 ∷ 0x00 ∷ 0xD6 ∷ []) ∷ []

-- the events before the page of the replacement
abbrev pub before_replaced_page : List Event
before_replaced_page =
    own 1 (stamped 7 ended) ++ Changed 1 Ready ∷ Lost 1 0 None ∷ Changed 1 status.Lost ∷ Attended 1 (example_work (Some 0x024F))
    ∷ Changed 1 Starting ∷ []

-- the events of the download
abbrev pub start_told : Event
start_told = trace.Exchange 1 1 (0x25 ∷ 0x03 ∷ 0x01 ∷ 0x03 ∷ 0x24 ∷ []) (0x52 ∷ 0x52 ∷ [])

abbrev pub first_told : Event
first_told = trace.Exchange 1 1 (0x15 ∷ 0x40 ∷ 0x0A ∷ 0x64 ∷ 0x3B ∷ []) (0x52 ∷ 0x52 ∷ [])

abbrev pub restoring_exchanges : List Event
restoring_exchanges =
    start_told ∷ first_told ∷ trace.Exchange 1 1 (0x25 ∷ 0x41 ∷ 0x01 ∷ 0x7F ∷ 0x1A ∷ []) (0x52 ∷ 0x52 ∷ [])
    ∷ trace.Exchange 1 1 (0x25 ∷ 0x03 ∷ 0x01 ∷ 0x04 ∷ 0x23 ∷ []) (0x52 ∷ 0x52 ∷ []) ∷ []

-- the begin of the download, and its first parameter
pub start_talk : Converses 1 1 (start_told ∷ []) (done (commanded DownloadStart) ∷ [])
start_talk = (
  done (commanded DownloadStart),
  [],
  as_told 1 1 _ _ (done (commanded DownloadStart)) starts_download was_written,
  refl,
  refl,
)

pub first_talk : Converses 1 1 (start_told ∷ first_told ∷ [])
    (done (commanded DownloadStart) ∷ done (request.Write 0x0040 0x00 (carried (0x0A ∷ 0x64 ∷ []))) ∷ [])
first_talk = (
  done (commanded DownloadStart),
  done (request.Write 0x0040 0x00 (carried (0x0A ∷ 0x64 ∷ []))) ∷ [],
  as_told 1 1 _ _ (done (commanded DownloadStart)) starts_download was_written,
  refl,
  (
    done (request.Write 0x0040 0x00 (carried (0x0A ∷ 0x64 ∷ []))),
    [],
    as_told 1 1 _ _ (done (request.Write 0x0040 0x00 (carried (0x0A ∷ 0x64 ∷ [])))) writes_first was_written,
    refl,
    refl,
  ),
)

-- State_Property and Parameter_Checksum are read
abbrev pub both_read : List ℕ → List ℕ → List Exchange
both_read state sum = read_of 3 2 state ∷ read_of 3 4 sum ∷ []

-- both devices are examined
pub flagged_talk : Converses 1 0 flagged_reads (both_read (0x80 ∷ []) (0x00 ∷ 0x00 ∷ 0x02 ∷ 0x4F ∷ []))
flagged_talk = (
  read_of 3 2 (0x80 ∷ []),
  read_of 3 4 (0x00 ∷ 0x00 ∷ 0x02 ∷ 0x4F ∷ []) ∷ [],
  as_told 1 0 _ _ (read_of 3 2 (0x80 ∷ [])) reads_state (was_read (0x80 ∷ []) 0x53 (lit≤ tt) refl),
  refl,
  (
    read_of 3 4 (0x00 ∷ 0x00 ∷ 0x02 ∷ 0x4F ∷ []),
    [],
    as_told 1 0 _ _ (read_of 3 4 (0x00 ∷ 0x00 ∷ 0x02 ∷ 0x4F ∷ [])) reads_checksum
        (was_read (0x00 ∷ 0x00 ∷ 0x02 ∷ 0x4F ∷ []) 0x9B (lit≤ tt) refl),
    refl,
    refl,
  ),
)

pub replaced_talk : Converses 1 1 replaced_reads (both_read (0x00 ∷ []) (0x00 ∷ 0x00 ∷ 0x00 ∷ 0x00 ∷ []))
replaced_talk = (
  read_of 3 2 (0x00 ∷ []),
  read_of 3 4 (0x00 ∷ 0x00 ∷ 0x00 ∷ 0x00 ∷ []) ∷ [],
  as_told 1 1 _ _ (read_of 3 2 (0x00 ∷ [])) reads_state (was_read (0x00 ∷ []) 0xD3 (lit≤ tt) refl),
  refl,
  (
    read_of 3 4 (0x00 ∷ 0x00 ∷ 0x00 ∷ 0x00 ∷ []),
    [],
    as_told 1 1 _ _ (read_of 3 4 (0x00 ∷ 0x00 ∷ 0x00 ∷ 0x00 ∷ [])) reads_checksum
        (was_read (0x00 ∷ 0x00 ∷ 0x00 ∷ 0x00 ∷ []) 0xD6 (lit≤ tt) refl),
    refl,
    refl,
  ),
)

-- the exchanges of the upload
abbrev pub start : Exchange
start = done (commanded UploadStart)

abbrev pub size : Exchange
size = read_of 3 3 (0x00 ∷ 0x00 ∷ 0x00 ∷ 0x0B ∷ [])

abbrev pub index_list : Exchange
index_list = read_of 3 5 (0x00 ∷ 0x40 ∷ 0x00 ∷ 0x00 ∷ 0x41 ∷ 0x01 ∷ 0x00 ∷ 0x00 ∷ [])

abbrev pub first_value : Exchange
first_value = read_of 0x0040 0x00 (0x0A ∷ 0x64 ∷ [])

abbrev pub second_value : Exchange
second_value = read_of 0x0041 0x01 (0x7F ∷ [])

abbrev pub checksum : Exchange
checksum = read_of 3 4 (0x00 ∷ 0x00 ∷ 0x02 ∷ 0x4F ∷ [])

abbrev pub uploading : List Exchange
uploading = start ∷ size ∷ index_list ∷ first_value ∷ second_value ∷ checksum ∷ []

-- the whole upload
pub upload_talk : Converses 1 0 upload uploading
upload_talk = (
  start,
  size ∷ index_list ∷ first_value ∷ second_value ∷ checksum ∷ [],
  as_told 1 0 _ _ start starts_upload was_written,
  refl,
  (
    size,
    index_list ∷ first_value ∷ second_value ∷ checksum ∷ [],
    as_told 1 0 _ _ size reads_size (was_read (0x00 ∷ 0x00 ∷ 0x00 ∷ 0x0B ∷ []) 0xDD (lit≤ tt) refl),
    refl,
    (
      index_list,
      first_value ∷ second_value ∷ checksum ∷ [],
      as_told 1 0 _ _ index_list reads_list (was_read (0x00 ∷ 0x40 ∷ 0x00 ∷ 0x00 ∷ 0x41 ∷ 0x01 ∷ 0x00 ∷ 0x00 ∷ []) 0xDA (lit≤ tt) refl),
      refl,
      (
        first_value,
        second_value ∷ checksum ∷ [],
        as_told 1 0 _ _ first_value reads_first (was_read (0x0A ∷ 0x64 ∷ []) 0xBA (lit≤ tt) refl),
        refl,
        (
          second_value,
          checksum ∷ [],
          as_told 1 0 _ _ second_value reads_second (was_read (0x7F ∷ []) 0xAC (lit≤ tt) refl),
          refl,
          (
            checksum,
            [],
            as_told 1 0 _ _ checksum reads_checksum (was_read (0x00 ∷ 0x00 ∷ 0x02 ∷ 0x4F ∷ []) 0x9B (lit≤ tt) refl),
            refl,
            refl,
          ),
        ),
      ),
    ),
  ),
)
