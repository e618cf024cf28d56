-- What a port sends at each stage.
use Rattle.std.proofs.Common.{◌≡◌, refl, ℕ, List, ◌∷◌, ◌++◌, sym, ◌∙◌, subst}
use Rattle.std.specs.Prelude.{Ok}
use Rattle.std.proofs.Common.{[], false, true, ◌||◌}
use Rattle.std.specs.Prelude.{All, ◌==◌}
use Rattle.std.proofs.lemmas.List.Elements.{All-head, All-tail}
use Rattle.arrayvec.specs.ArrayVec.{ArrayVec}
use Rattle.iol_transfer.specs.declared.command.DsCommand.{DsCommand}
use Rattle.iol_link.specs.declared.messages.Request.TheVariants.{Read, Write}
use Rattle.iol_types.specs.DataSet.{Entry, SetValue, IsEntry}
use Rattle.iol_types.specs.State.{State}
use Rattle.iol_types.specs.declared.key.TheConstants.{DATA_STORAGE, DIRECT_PARAMETER_PAGE, SYSTEM_COMMAND}
use Rattle.iol_transfer.specs.declared.command.DsCommand.TheVariants as command
use Rattle.iol_link.proofs.RequestTexts.{request_reads}
use Rattle.iol_link.specs.Isdu.{IsShortestRequest}
use Rattle.iol_link.specs.declared.faults.IsduFault.{IsduFault}
use Rattle.iol_link.specs.declared.messages.Request.{Request}
use Rattle.std.specs.Prelude.{Result}
use Rattle.iol_transfer.specs.Asked.{Asks, Start, Size, IndexList, Value, Checksum, request_of as asked_by}
use Rattle.iol_transfer.specs.Download.{Sender, IsDownloading, IsSending, sent_by, later_writes, entry_written, writes_of}
use Rattle.iol_transfer.specs.Command.{commanded}
use Rattle.iol_transfer.specs.Exchanges.{Exchange}
use Rattle.iol_port.proofs.UploadEnds.{read_other, asks_other, break_other, sends_other}
use Rattle.iol_port.specs.Stage.{Stage, Exchanging, Uploading, Downloading, Breaking}
use Rattle.iol_port.specs.Wanted.{AnswerTo, wanted, request_for}
use Rattle.iol_port.specs.declared.stage.ExchangeFor.{ExchangeFor}
use Rattle.iol_port.specs.declared.stage.ExchangeFor.TheVariants as exchange
use Rattle.iol_core.specs.Events.{Stamp}
use Rattle.iol_headline.proofs.Lawful.{WasStored}
use Rattle.iol_headline.proofs.Stages.{Told, ExchangingTold}
use Rattle.iol_headline.specs.Downloads.{WritesParameter, IsDownloadOf}

-- octets are one request
ok_is : (one other : Request) → (let r : Result Request IsduFault = Ok one in r ≡ Ok other) → one ≡ other
ok_is one other same = cc

-- octets are one request
pub one_request : (octets : List ℕ) (one other : Request) → IsShortestRequest octets one → IsShortestRequest octets other → one ≡ other
one_request octets one other first second =
    ok_is one other (sym (request_reads octets one first.of_request) ∙ request_reads octets other second.of_request)

answer-is : (one other : Request) → AnswerTo one ≡ AnswerTo other → one ≡ other
answer-is one other same = cc

-- what a download sends next
sending : (set : SetValue) (conversation : List Exchange) (download : Sender) → IsDownloading set conversation download
    → IsSending set conversation (sent_by download.sends) download.busy
sending set conversation download since = record {
  sent = since.sent;
  left = later_writes set download.sends;
  before = since.before;
  order = since.order;
  is = since.is;
  few = since.few;
  follows = since.follows;
}

module _ (first : ℕ) (start : State) (port connection : ℕ) (events : List Stamp) where
  exchange_ends : (what : ExchangeFor) → ExchangingTold first start port connection events what
      → request_for what ≡ commanded command.UploadEnd
      → WasStored first port connection events
  exchange_ends (exchange.ReadingState found left) is same = absurd (read_other _ _ same)
  exchange_ends (exchange.ReadingChecksum found property left) is same = absurd (read_other _ _ same)
  exchange_ends (exchange.EndingUpload page left) is same = is
  exchange_ends (exchange.Stopping storing) is same = absurd (break_other same)
  exchange_ends exchange.Yielding is same = absurd (break_other same)

  -- DS_UploadEnd
  pub ends_stored : (stage : Stage) → Told first start port connection events stage
      → wanted port stage ≡ AnswerTo (commanded command.UploadEnd)
      → WasStored first port connection events
  ends_stored (Exchanging what) is wants = exchange_ends what is (answer-is _ _ wants)
  ends_stored (Uploading grant page upload) is wants = absurd (asks_other upload.asks (answer-is _ _ wants))
  ends_stored (Downloading permit page download) is wants =
      absurd (sends_other is.stored.set is.conversation download is.set_is is.since (answer-is _ _ wants))
  ends_stored (Breaking holder why) is wants = absurd (break_other (answer-is _ _ wants))
  ends_stored stage is wants = absurd cc

  -- nothing else writes a parameter
  exchange_writes : (what : ExchangeFor) → WritesParameter (request_for what) → ⊥
  exchange_writes (exchange.ReadingState found left) writes = writes
  exchange_writes (exchange.ReadingChecksum found property left) writes = writes
  exchange_writes (exchange.EndingUpload page left) writes = writes refl
  exchange_writes (exchange.Stopping storing) writes = writes refl
  exchange_writes exchange.Yielding writes = writes refl

  asks_writes : (asks : Asks) → WritesParameter (asked_by asks) → ⊥
  asks_writes Start writes = writes refl
  asks_writes Size writes = writes
  asks_writes (IndexList index subindex lists keys) writes = writes
  asks_writes (Value entries key behind) writes = writes
  asks_writes (Checksum entries) writes = writes

  -- a parameter
  pub writes_downloads : (stage : Stage) (request : Request) → Told first start port connection events stage
      → wanted port stage ≡ AnswerTo request → WritesParameter request
      → IsDownloadOf first start port connection request events
  writes_downloads (Exchanging what) request is wants writes =
      absurd (exchange_writes what (subst WritesParameter (sym (answer-is _ _ wants)) writes))
  writes_downloads (Uploading grant page upload) request is wants writes =
      absurd (asks_writes upload.asks (subst WritesParameter (sym (answer-is _ _ wants)) writes))
  writes_downloads (Downloading permit page download) request is wants writes = record {
    early = is.early;
    clock = is.clock;
    late = is.late;
    page = is.page;
    stored = is.stored;
    conversation = is.conversation;
    busy = download.busy;
    split = is.split;
    shown = is.shown;
    told = is.told;
    durable = is.durable;
    vendor = is.vendor;
    device = is.device;
    sending = subst (λ (r : Request). IsSending is.stored.set is.conversation r download.busy) (answer-is _ _ wants)
        (sending is.stored.set is.conversation download is.since);
  }
  writes_downloads (Breaking holder why) request is wants writes = absurd (subst WritesParameter (sym (answer-is _ _ wants)) writes refl)
  writes_downloads stage request is wants writes = absurd cc

-- a request that writes to the Data Storage object is a command
abbrev pub IsGood : Request → Type 0
IsGood request = (subindex : ℕ) (octets : ArrayVec ℕ) → request ≡ Write DATA_STORAGE subindex octets
    → (c : DsCommand) × (Write DATA_STORAGE subindex octets ≡ commanded c)

-- each request that a port sends is so
command_good : (c : DsCommand) → IsGood (commanded c)
command_good c subindex octets same = (c, sym same)

read_good : (index own : ℕ) → IsGood (Read index own)
read_good index own subindex octets same = absurd cc

entry_good : (entry : Entry) → IsEntry entry → IsGood (entry_written entry)
entry_good entry is subindex octets same =
    let index : entry.0.index ≡ DATA_STORAGE = cc in
    absurd (reserved entry.0.index index is.free)
  where
    reserved : (index : ℕ) → index ≡ DATA_STORAGE
        → ((index == DIRECT_PARAMETER_PAGE) || (index == SYSTEM_COMMAND) || (index == DATA_STORAGE)) ≡ false → ⊥
    reserved index is free =
        let there : true ≡ false =
        subst (λ i. ((i == DIRECT_PARAMETER_PAGE) || (i == SYSTEM_COMMAND) || (i == DATA_STORAGE)) ≡ false) is free in cc

abbrev AreGood : List Request → Type 0
AreGood [] = Unit {0}
AreGood (request ∷ requests) = IsGood request × AreGood requests

-- requests of a download
writes_good : (entries : List Entry) → All IsEntry entries → AreGood (writes_of entries)
writes_good [] all = (command_good command.DownloadEnd, tt)
writes_good (entry ∷ entries) all =
    (entry_good entry (All-head IsEntry entry entries all), writes_good entries (All-tail IsEntry entry entries all))

middle_good : (front behind : List Request) (request : Request) → AreGood (front ++ request ∷ behind) → IsGood request
middle_good [] behind request all = all.0
middle_good (one ∷ front) behind request all = middle_good front behind request all.1

-- requests of an upload, and others
asks_good : (asks : Asks) → IsGood (asked_by asks)
asks_good Start = command_good command.UploadStart
asks_good Size = read_good _ _
asks_good (IndexList index subindex lists keys) = read_good _ _
asks_good (Value entries key behind) = read_good _ _
asks_good (Checksum entries) = read_good _ _

exchange_good : (what : ExchangeFor) → IsGood (request_for what)
exchange_good (exchange.ReadingState found left) = read_good _ _
exchange_good (exchange.ReadingChecksum found property left) = read_good _ _
exchange_good (exchange.EndingUpload page left) = command_good command.UploadEnd
exchange_good (exchange.Stopping storing) = command_good command.Break
exchange_good exchange.Yielding = command_good command.Break

-- what a port sends at a stage
pub writes_command : (first : ℕ) (start : State) (port connection : ℕ) (events : List Stamp) (stage : Stage) (request : Request)
    → Told first start port connection events stage
    → wanted port stage ≡ AnswerTo request → IsGood request
writes_command first start port connection events (Exchanging what) request is wants =
    subst IsGood (answer-is _ _ wants) (exchange_good what)
writes_command first start port connection events (Uploading grant page upload) request is wants =
    subst IsGood (answer-is _ _ wants) (asks_good upload.asks)
writes_command first start port connection events (Downloading permit page download) request is wants =
    subst IsGood (answer-is _ _ wants)
    (middle_good is.since.sent (later_writes is.stored.set download.sends) (sent_by download.sends)
    (subst AreGood is.since.order (command_good command.DownloadStart, writes_good is.stored.set.entries is.set_is.entries.each)))
writes_command first start port connection events (Breaking holder why) request is wants =
    subst IsGood (answer-is _ _ wants) (command_good command.Break)
writes_command first start port connection events stage request is wants = absurd cc
