-- DS_UploadEnd is no request of an upload or a download.
use Rattle.std.proofs.Common.{◌≡◌, ℕ, false, true, ◌||◌, List, [], ◌∷◌, ◌++◌, refl, subst}
use Rattle.std.specs.Prelude.{All, ◌==◌, slice_index}
use Rattle.std.proofs.lemmas.List.Elements.{All-head, All-tail}
use Rattle.iol_types.specs.DataSet.{Entry, SetValue, IsEntry, IsSet}
use Rattle.iol_types.specs.declared.key.TheConstants.{DATA_STORAGE, DIRECT_PARAMETER_PAGE, SYSTEM_COMMAND}
use Rattle.iol_link.specs.declared.messages.Request.{Request}
use Rattle.iol_link.specs.declared.messages.Request.TheVariants.{Read, Write}
use Rattle.iol_transfer.specs.declared.command.DsCommand.TheVariants as command
use Rattle.iol_transfer.specs.Asked.{Asks, Start, Size, IndexList, Value, Checksum, request_of}
use Rattle.iol_transfer.specs.Command.{commanded}
use Rattle.iol_transfer.specs.Exchanges.{Exchange}
use Rattle.iol_transfer.specs.Download.{Sender, entry_written, writes_of, order_of, sent_by, later_writes, IsDownloading}

-- a request is not DS_UploadEnd
abbrev pub IsOther : Request → Type 0
IsOther request = request ≡ commanded command.UploadEnd → ⊥

first_octet : Request → ℕ
first_octet (Read index subindex) = 0
first_octet (Write index subindex octets) = slice_index octets.items 0

-- the command of a request is another
by_octet : (request : Request) → (first_octet request == 2) ≡ false → IsOther request
unfolding first_octet
by_octet request is same = let no : true ≡ false = subst (λ r. (first_octet r == 2) ≡ false) same is in cc

pub read_other : (index subindex : ℕ) → IsOther (Read index subindex)
read_other index subindex same = cc

pub asks_other : (asks : Asks) → IsOther (request_of asks)
unfolding first_octet
asks_other Start = by_octet (request_of Start) refl
asks_other Size = read_other _ _
asks_other (IndexList index subindex lists keys) = read_other _ _
asks_other (Value entries key behind) = read_other _ _
asks_other (Checksum entries) = read_other _ _

pub break_other : IsOther (commanded command.Break)
unfolding first_octet
break_other = by_octet (commanded command.Break) refl

start_other : IsOther (commanded command.DownloadStart)
unfolding first_octet
start_other = by_octet (commanded command.DownloadStart) refl

end_other : IsOther (commanded command.DownloadEnd)
unfolding first_octet
end_other = by_octet (commanded command.DownloadEnd) refl

reserved_index : (index : ℕ) → index ≡ DATA_STORAGE
    → ((index == DIRECT_PARAMETER_PAGE) || (index == SYSTEM_COMMAND) || (index == DATA_STORAGE)) ≡ false → ⊥
reserved_index index is free =
    let there : true ≡ false = subst (λ i. ((i == DIRECT_PARAMETER_PAGE) || (i == SYSTEM_COMMAND) || (i == DATA_STORAGE))
    ≡ false) is free in cc

entry_other : (entry : Entry) → IsEntry entry → IsOther (entry_written entry)
entry_other entry is same =
    let index : entry.0.index ≡ DATA_STORAGE = cc in
    reserved_index entry.0.index index is.free

-- all of these requests are others
abbrev pub AreOthers : List Request → Type 0
AreOthers [] = Unit {0}
AreOthers (request ∷ requests) = IsOther request × AreOthers requests

writes_other : (entries : List Entry) → All IsEntry entries → AreOthers (writes_of entries)
writes_other [] all = (end_other, tt)
writes_other (entry ∷ entries) all =
    (entry_other entry (All-head IsEntry entry entries all), writes_other entries (All-tail IsEntry entry entries all))

order_other : (set : SetValue) → IsSet set → AreOthers (order_of set)
order_other set is = (start_other, writes_other set.entries is.entries.each)

middle : (front behind : List Request) (request : Request) → AreOthers (front ++ request ∷ behind) → IsOther request
middle [] behind request all = all.0
middle (one ∷ front) behind request all = middle front behind request all.1

-- what a download of a parameter set sends
pub sends_other : (set : SetValue) (conversation : List Exchange) (download : Sender) → IsSet set → IsDownloading set conversation download
    → IsOther (sent_by download.sends)
sends_other set conversation download is since =
    middle since.sent (later_writes set download.sends) (sent_by download.sends) (subst AreOthers since.order (order_other set is))
