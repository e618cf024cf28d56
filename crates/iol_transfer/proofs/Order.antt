-- An upload that continues has followed the order.
use Rattle.std.proofs.Common.{◌≡◌, ℕ, ◌+◌, ◌<◌, List, [], ◌∷◌, ◌++◌, map, fold, refl, ap, sym, ◌∙◌, subst, arith, append_assoc}
use Rattle.std.proofs.Common.{length-append, lit<}
use Rattle.std.proofs.lemmas.List.{map-append, append-nil}
use Rattle.std.specs.Prelude.{Ok}
use Rattle.std.specs.Map.{keys_of}
use Rattle.iol_types.specs.declared.key.Key.{Key}
use Rattle.iol_types.specs.declared.key.TheConstants.{DATA_STORAGE}
use Rattle.iol_types.specs.DataSet.{Entry}
use Rattle.iol_link.specs.declared.messages.Answer.{Answer}
use Rattle.iol_transfer.specs.List.{reading_of, kept_with}
use Rattle.iol_transfer.proofs.FirstPlaces.{first_places-more}
use Rattle.iol_transfer.specs.declared.list.Next.TheVariants as next_is
use Rattle.iol_transfer.specs.declared.object.TheConstants.{INDEX_LIST, DATA_STORAGE_SIZE}
use Rattle.iol_transfer.specs.declared.repeats.TheConstants.{MOST_REQUESTS}
use Rattle.iol_transfer.specs.declared.upload.TheConstants.{MOST_LISTS}
use Rattle.iol_transfer.specs.Exchanges.{Exchange, busy_times, read_of, Follows}
use Rattle.iol_transfer.specs.Upload.{IsSize, AreLists, opening, entry_read}
use Rattle.iol_transfer.specs.Asked.{Asks, Size, request_of, LeadsTo, HasListed, HasRead, IsAskedAfter, IsAsking}
use Rattle.iol_transfer.specs.Machine.{Machine, reading}

-- an upload with these numbers
abbrev pub upload_at : ℕ → ℕ → Asks → ℕ → Machine
upload_at vendor device asks busy = record { vendor = vendor; device = device; asks = asks; busy = busy }

-- a request with an answer to it
abbrev pub with_answer : Asks → Answer → Exchange
with_answer asks answer = record { request = request_of asks; answer = answer }

-- one more exchange, sent again after Device busy, follows the settled ones
pub follows-more : (before settled : List Exchange) (times : ℕ) (exchange : Exchange) → Follows before settled → times < MOST_REQUESTS
    → Follows (before ++ busy_times times exchange.request ++ exchange ∷ []) (settled ++ exchange ∷ [])
follows-more before [] times exchange is few = (times, [], few, ap (λ b. b ++ busy_times times exchange.request ++ exchange ∷ []) is, refl)
follows-more before (first ∷ settled) times exchange follows few =
    let whole : before ++ busy_times times exchange.request ++ exchange ∷ []
    ≡ busy_times follows.0 first.request ++ first ∷ (follows.1 ++ busy_times times exchange.request ++ exchange ∷ []) =
    rw follows.3 (simp append_assoc) in (
      follows.0,
      follows.1 ++ busy_times times exchange.request ++ exchange ∷ [],
      follows.2,
      whole,
      follows-more follows.1 settled times exchange follows.4 few,
    )

-- a list that ends, after those that lead to it
leads-end : (index subindex : ℕ) (reads : List Exchange) (to_index to_subindex : ℕ) (keys : List Key) (octets : List ℕ) (listed : List Key)
    → LeadsTo index subindex reads to_index to_subindex keys → reading_of octets ≡ Ok (listed, next_is.End)
    → AreLists index subindex (reads ++ read_of to_index to_subindex octets ∷ []) (keys ++ listed)
leads-end index subindex [] to_index to_subindex keys octets listed leads is =
    (octets, listed, next_is.End, cc, is, (refl, ap (λ k. k ++ listed) leads.2))
leads-end index subindex (exchange ∷ reads) to_index to_subindex keys octets listed leads is = (
  leads.0,
  leads.1,
  next_is.List leads.2,
  leads.4,
  leads.5,
  (
    leads.3 ++ listed,
    leads-end leads.2 0 reads to_index to_subindex leads.3 octets listed leads.6 is,
    ap (λ k. k ++ listed) leads.7
        ∙ append_assoc leads.1 leads.3 listed,
  ),
)

-- a list that names another, after those that lead to it
leads-more : (index subindex : ℕ) (reads : List Exchange) (to_index to_subindex : ℕ) (keys : List Key) (octets : List ℕ) (listed : List Key)
    (further : ℕ)
    → LeadsTo index subindex reads to_index to_subindex keys → reading_of octets ≡ Ok (listed, next_is.List further)
    → LeadsTo index subindex (reads ++ read_of to_index to_subindex octets ∷ []) further 0 (keys ++ listed)
leads-more index subindex [] to_index to_subindex keys octets listed further leads is =
    (octets, listed, further, [], cc, is, (refl, refl, refl), ap (λ k. k ++ listed) leads.2 ∙ sym (append-nil listed))
leads-more index subindex (exchange ∷ reads) to_index to_subindex keys octets listed further leads is = (
  leads.0,
  leads.1,
  leads.2,
  leads.3 ++ listed,
  leads.4,
  leads.5,
  leads-more leads.2 0 reads to_index to_subindex leads.3 octets listed further leads.6 is,
  ap (λ k. k ++ listed) leads.7 ∙ append_assoc leads.1 leads.3 listed,
)

-- after these entries were read, the next request is for the first key that is left, or for the
-- checksum
pub asked-reading : (entries : List Entry) (left : List Key) (settled : List Exchange) → HasRead entries left settled
    → IsAskedAfter settled (reading entries left)
asked-reading entries [] settled has = has
asked-reading entries (key ∷ behind) settled has = has

-- a settled exchange leads to the next request
pub advance : (asks next : Asks) (busy : ℕ) (answer : Answer) (conversation : List Exchange) → IsAsking conversation asks busy
    → ((settled : List Exchange) → IsAskedAfter settled asks → IsAskedAfter (settled ++ with_answer asks answer ∷ []) next)
    → IsAsking (conversation ++ with_answer asks answer ∷ []) next 0
advance asks next busy answer conversation asking leads =
    let exchange = with_answer asks answer in
    let same : asking.before ++ busy_times busy (request_of asks) ++ exchange ∷ []
    ≡ conversation ++ exchange ∷ [] = ap (λ c. c ++ exchange ∷ []) (sym asking.is) in
    record {
      settled = asking.settled ++ exchange ∷ [];
      before = conversation ++ exchange ∷ [];
      is = sym (append-nil (conversation ++ exchange ∷ []));
      few = lit< tt;
      follows = subst (λ c. Follows c (asking.settled ++ exchange ∷ [])) same
          (follows-more asking.before asking.settled busy exchange asking.follows asking.few);
      asked = leads asking.settled asking.asked;
    }

-- the declared size
pub size-read : (octets : List ℕ) → IsSize octets → (settled : List Exchange) → IsAskedAfter settled Size
    → HasListed DATA_STORAGE INDEX_LIST 0 [] (settled ++ read_of DATA_STORAGE DATA_STORAGE_SIZE octets ∷ [])
size-read octets size settled is = record {
  size = octets;
  reads = [];
  listed = [];
  order = ap (λ s. s ++ read_of DATA_STORAGE DATA_STORAGE_SIZE octets ∷ []) is;
  declared = size;
  chain = (refl, refl, refl);
  count = refl;
  few = omega arith;
  keys_are = refl;
}

-- a list that ends
pub list-ends : (index subindex lists : ℕ) (keys : List Key) (octets : List ℕ) (listed : List Key)
    → reading_of octets ≡ Ok (listed, next_is.End)
    → (settled : List Exchange) → HasListed index subindex lists keys settled
    → HasRead [] (fold kept_with keys listed) (settled ++ read_of index subindex octets ∷ [])
list-ends index subindex lists keys octets listed is settled has =
    let read = read_of index subindex octets in
    record {
      size = has.size;
      lists = has.reads ++ read ∷ [];
      listed = has.listed ++ listed;
      order = ap (λ s. s ++ read ∷ []) has.order ∙ sym (append-nil _);
      declared = has.declared;
      chain = leads-end DATA_STORAGE INDEX_LIST has.reads index subindex has.listed octets listed has.chain is;
      few = omega (arith, length-append has.reads (read ∷ []), has.count, has.few);
      keys = ap (λ k. fold kept_with k listed) has.keys_are ∙ first_places-more has.listed listed;
    }

-- a list that names another
pub list-further : (index subindex lists : ℕ) (keys : List Key) (octets : List ℕ) (listed : List Key) (further : ℕ)
    → reading_of octets ≡ Ok (listed, next_is.List further)
    → lists + 1 < MOST_LISTS → (settled : List Exchange) → HasListed index subindex lists keys settled
    → HasListed further 0 (lists + 1) (fold kept_with keys listed) (settled ++ read_of index subindex octets ∷ [])
list-further index subindex lists keys octets listed further is few settled has =
    let read = read_of index subindex octets in
    record {
      size = has.size;
      reads = has.reads ++ read ∷ [];
      listed = has.listed ++ listed;
      order = ap (λ s. s ++ read ∷ []) has.order;
      declared = has.declared;
      chain = leads-more DATA_STORAGE INDEX_LIST has.reads index subindex has.listed octets listed further has.chain is;
      count = omega (arith, length-append has.reads (read ∷ []), has.count);
      few = few;
      keys_are = ap (λ k. fold kept_with k listed) has.keys_are ∙ first_places-more has.listed listed;
    }

-- a value
pub value-read : (entries : List Entry) (key : Key) (behind : List Key) (octets : List ℕ) (settled : List Exchange)
    → HasRead entries (key ∷ behind) settled
    → HasRead (entries ++ (key, octets) ∷ []) behind (settled ++ read_of key.index key.subindex octets ∷ [])
value-read entries key behind octets settled has =
    let read = read_of key.index key.subindex octets in
    record {
      size = has.size;
      lists = has.lists;
      listed = has.listed;
      order =
          ap (λ s. s ++ read ∷ []) has.order
          ∙ append_assoc (opening has.size has.lists) (map entry_read entries) (read ∷ [])
          ∙ ap (λ s. opening has.size has.lists ++ s) (sym (map-append entry_read entries ((key, octets) ∷ [])));
      declared = has.declared;
      chain = has.chain;
      few = has.few;
      keys = ap (λ k. k ++ behind) (map-append (λ (e : Entry). e.0) entries ((key, octets) ∷ []))
          ∙ append_assoc (keys_of entries) (key ∷ []) behind ∙ has.keys;
    }
