-- The claims of `feed` of a download about the exchanges since it began follow from its effect on the
-- download.
use Rattle.std.proofs.Common.{◌≡◌, ◌≢◌, ℕ, zero, suc, ◌+◌, ◌<◌, ◌⊎◌, inl, inr, List, [], ◌∷◌, ◌++◌, map, length, drop, get_or, refl, ap}
use Rattle.std.proofs.Common.{sym, ◌∙◌, subst, arith, append_assoc, lit<}
use Rattle.std.proofs.lemmas.List.{map-append, append-nil, replicate_more, drop_more}
use Rattle.std.proofs.lemmas.Option.{slice_get_within, get_or_from_slice_get}
use Rattle.std.specs.Prelude.{Some, None, slice_get}
use Rattle.iol_types.specs.DataSet.{Entry, SetValue}
use Rattle.iol_link.specs.declared.messages.Request.{Request}
use Rattle.iol_link.specs.declared.messages.Answer.{Answer}
use Rattle.iol_link.specs.declared.messages.Answer.TheVariants.{WriteOk, Busy}
use Rattle.iol_transfer.specs.declared.fault.TransferFault.{TransferFault}
use Rattle.iol_transfer.specs.declared.fault.TransferFault.TheVariants as fault
use Rattle.iol_transfer.specs.declared.repeats.TheConstants.{MOST_REQUESTS}
use Rattle.iol_transfer.specs.declared.download.DownloadStep.{DownloadStep}
use Rattle.iol_transfer.specs.declared.download.DownloadStep.TheVariants as step_is
use Rattle.iol_transfer.specs.Exchanges.{Exchange, done, busy_times, Follows}
use Rattle.iol_transfer.specs.Download.{Sends, Opening, Parameter, Closing, Sender, sent_by, later_writes, sends_after, writing, writes_of}
use Rattle.iol_transfer.specs.Download.{order_of, entry_written, answered_to, IsDownload, IsDownloadCause, IsDownloading, IsDownloadStep}
use Rattle.iol_transfer.specs.Download.{IfGoesOn, IfDone}
use Rattle.iol_transfer.proofs.Order.{follows-more}

behind-after : (set : SetValue) (sends : Sends) → sends ≢ Closing
    → later_writes set sends ≡ sent_by (sends_after set sends) ∷ later_writes set (sends_after set sends)
behind-after set Opening goes = by set.entries
  where
    by : (entries : List Entry) → writes_of entries ≡ sent_by (writing entries) ∷ later_writes set (writing entries)
    by [] = refl
    by (entry ∷ entries) = refl
behind-after set (Parameter entry behind) goes = by behind
  where
    by : (entries : List Entry) → writes_of entries ≡ sent_by (writing entries) ∷ later_writes set (writing entries)
    by [] = refl
    by (entry ∷ entries) = refl
behind-after set Closing goes = absurd (goes refl)

pub fed-on : (old new : Sender) (answer : Answer) (result : DownloadStep) → IsDownloadStep old answer result new
    → IfGoesOn result ((set : SetValue) (conversation : List Exchange) → IsDownloading set conversation old
    → IsDownloading set (conversation ++ answered_to old answer ∷ []) new)
fed-on old new answer step_is.More is = λ set conversation since. by is set conversation since
  where
    waits : (answer ≡ Busy) × (old.busy + 1 < MOST_REQUESTS) × (new ≡ record { set = old.set; sends = old.sends; busy = old.busy + 1 })
        → (set : SetValue) (conversation : List Exchange) → IsDownloading set conversation old
        → IsDownloading set (conversation ++ answered_to old answer ∷ []) new
    waits busy set conversation since =
        let exchange : Exchange = answered_to old Busy in
        let here : IsDownloading set (conversation ++ exchange ∷ [])
        (record { set = old.set; sends = old.sends; busy = old.busy + 1 }) = record {
          set_is = since.set_is;
          sent = since.sent;
          before = since.before;
          order = since.order;
          is =
              ap (λ c. c ++ exchange ∷ []) since.is ∙ append_assoc since.before (busy_times old.busy (sent_by old.sends)) (exchange ∷ [])
              ∙ ap (λ c. since.before ++ c) (replicate_more old.busy exchange);
          few = busy.1;
          follows = since.follows;
        } in
        subst (λ a. IsDownloading set (conversation ++ answered_to old a ∷ []) new) (sym busy.0)
        (subst (IsDownloading set (conversation ++ exchange ∷ [])) (sym busy.2) here)

    on : (answer ≡ WriteOk) × (old.sends ≢ Closing) × (new ≡ record { set = old.set; sends = sends_after old.set old.sends; busy = 0 })
        → (set : SetValue) (conversation : List Exchange) → IsDownloading set conversation old
        → IsDownloading set (conversation ++ answered_to old answer ∷ []) new
    on written set conversation since =
        let request = sent_by old.sends in
        let exchange : Exchange = done request in
        let order : order_of set
        ≡ (since.sent ++ request ∷ []) ++ sent_by (sends_after old.set old.sends) ∷ later_writes set (sends_after old.set old.sends) =
        since.order
        ∙ ap (λ s. since.sent ++ request ∷ later_writes s old.sends) (sym since.set_is)
        ∙ ap (λ b. since.sent ++ request ∷ b) (behind-after old.set old.sends written.1)
        ∙ ap (λ s. since.sent ++ request ∷ sent_by (sends_after old.set old.sends) ∷ later_writes s
        (sends_after old.set old.sends)) since.set_is
        ∙ sym (append_assoc since.sent (request ∷ []) _) in
        let same : since.before ++ busy_times old.busy request ++ exchange ∷ []
        ≡ conversation ++ exchange ∷ [] = ap (λ c. c ++ exchange ∷ []) (sym since.is) in
        let follows : Follows (conversation ++ exchange ∷ []) (map done (since.sent ++ request ∷ [])) =
        subst (Follows (conversation ++ exchange ∷ [])) (sym (map-append done since.sent (request ∷ [])))
        (subst (λ c. Follows c (map done since.sent ++ exchange ∷ [])) same
        (follows-more since.before (map done since.sent) old.busy exchange since.follows since.few)) in
        let here : IsDownloading set (conversation ++ exchange ∷ [])
        (record { set = old.set; sends = sends_after old.set old.sends; busy = 0 }) = record {
          set_is = since.set_is;
          sent = since.sent ++ request ∷ [];
          before = conversation ++ exchange ∷ [];
          order = order;
          is = sym (append-nil (conversation ++ exchange ∷ []));
          few = lit< tt;
          follows = follows;
        } in
        subst (λ a. IsDownloading set (conversation ++ answered_to old a ∷ []) new) (sym written.0)
        (subst (IsDownloading set (conversation ++ exchange ∷ [])) (sym written.2) here)

    by : ((answer ≡ Busy) × (old.busy + 1 < MOST_REQUESTS) × (new ≡ record { set = old.set; sends = old.sends; busy = old.busy + 1 }))
        ⊎ ((answer ≡ WriteOk) × (old.sends ≢ Closing) × (new ≡ record { set = old.set; sends = sends_after old.set old.sends; busy = 0 }))
        → (set : SetValue) (conversation : List Exchange) → IsDownloading set conversation old
        → IsDownloading set (conversation ++ answered_to old answer ∷ []) new
    by (inl busy) = waits busy
    by (inr written) = on written
fed-on old new answer step_is.Whole is = tt
fed-on old new answer (step_is.Fault why) is = tt

-- the last request, answered (+)
whole-is : (set : SetValue) (conversation : List Exchange) (old : Sender) → IsDownloading set conversation old → old.sends ≡ Closing
    → IsDownload set (conversation ++ done (sent_by old.sends) ∷ [])
whole-is set conversation old since last =
    let request = sent_by old.sends in
    let exchange : Exchange = done request in
    let none : later_writes set old.sends ≡ [] = ap (later_writes set) last in
    let order : order_of set ≡ since.sent ++ request ∷ [] = since.order ∙ ap (λ b. since.sent ++ request ∷ b) none in
    let same : since.before ++ busy_times old.busy request ++ exchange ∷ []
    ≡ conversation ++ exchange ∷ [] = ap (λ c. c ++ exchange ∷ []) (sym since.is) in
    subst (Follows (conversation ++ exchange ∷ [])) (sym (map-append done since.sent (request ∷ [])) ∙ ap (map done) (sym order))
    (subst (λ c. Follows c (map done since.sent ++ exchange ∷ [])) same
    (follows-more since.before (map done since.sent) old.busy exchange since.follows since.few))

pub fed-done : (old new : Sender) (answer : Answer) (result : DownloadStep) → IsDownloadStep old answer result new
    → IfDone result ((set : SetValue) (conversation : List Exchange) → IsDownloading set conversation old
    → IsDownload set (conversation ++ answered_to old answer ∷ []))
fed-done old new answer step_is.More is = tt
fed-done old new answer step_is.Whole is = λ set conversation since.
    subst (λ a. IsDownload set (conversation ++ answered_to old a ∷ [])) (sym is.0) (whole-is set conversation old since is.1)
fed-done old new answer (step_is.Fault why) is = tt

-- ---- a whole download is nothing else

done-not-busy : WriteOk ≡ Busy → ⊥
done-not-busy same = cc

same-head : (one two : Exchange) (rest more : List Exchange) → one ∷ rest ≡ two ∷ more → (one.answer ≡ two.answer) × (rest ≡ more)
same-head one two rest more is = (cc, cc)

-- if a request is answered (+) after Device busy, the exchanges after it are determined
same-busy : (times others : ℕ) (request : Request) (rest more : List Exchange)
    → busy_times times request ++ done request ∷ rest ≡ busy_times others request ++ done request ∷ more → rest ≡ more
same-busy zero zero request rest more is = (same-head _ _ rest more is).1
same-busy zero (suc others) request rest more is = absurd (done-not-busy (same-head _ _ rest _ is).0)
same-busy (suc times) zero request rest more is = absurd (done-not-busy (sym (same-head _ _ _ more is).0))
same-busy (suc times) (suc others) request rest more is = same-busy times others request rest more (same-head _ _ _ _ is).1

-- the exchanges of some requests and then others, without those of the first ones, are those of the
-- others
follows-rest : (sent left : List Request) (before rest : List Exchange) → Follows before (map done sent)
    → Follows (before ++ rest) (map done (sent ++ left))
    → Follows rest (map done left)
follows-rest [] left before rest first all = subst (λ b. Follows (b ++ rest) (map done left)) first all
follows-rest (request ∷ sent) left before rest first all =
    let is : busy_times all.0 request ++ done request ∷ all.1 ≡ busy_times first.0 request ++ done request ∷ (first.1 ++ rest) =
    sym all.3 ∙ ap (λ b. b ++ rest) first.3 ∙ append_assoc (busy_times first.0 request) (done request ∷ first.1) rest in
    follows-rest sent left first.1 rest first.4
    (subst (λ r. Follows r (map done (sent ++ left))) (same-busy all.0 first.0 request all.1 (first.1 ++ rest) is) all.4)

-- if an answer ends the exchanges of a request and others, it is (+), and there are no others
last-of : (times busy : ℕ) (request : Request) (answer : Answer) (left : List Request) (rest : List Exchange)
    → busy_times busy request ++ record { request = request; answer = answer } ∷ [] ≡ busy_times times request ++ done request ∷ rest
    → Follows rest (map done left) → (answer ≡ WriteOk) × (left ≡ [])
last-of zero zero request answer left rest is follows =
    let parts = same-head _ _ [] rest is in (parts.0, none left (subst (λ r. Follows r (map done left)) (sym parts.1) follows))
  where
    none : (left : List Request) → Follows [] (map done left) → left ≡ []
    none [] follows = refl
    none (one ∷ more) follows = absurd (empty follows.0 follows.3)
      where
        empty : (times : ℕ) → [] ≡ busy_times times one ++ done one ∷ follows.1 → ⊥
        empty zero is = cc
        empty (suc times) is = cc
last-of zero (suc busy) request answer left rest is follows = absurd (done-not-busy (sym (same-head _ _ _ rest is).0))
last-of (suc times) zero request answer left rest is follows = absurd (empty times (same-head _ _ [] _ is).1)
  where
    empty : (times : ℕ) → [] ≡ busy_times times request ++ done request ∷ rest → ⊥
    empty zero is = cc
    empty (suc times) is = cc
last-of (suc times) (suc busy) request answer left rest is follows =
    last-of times busy request answer left rest (same-head _ _ _ _ is).1 follows

none-behind : (set : SetValue) (sends : Sends) → later_writes set sends ≡ [] → sends ≡ Closing
none-behind set Opening is = absurd (some set.entries is)
  where
    some : (entries : List Entry) → writes_of entries ≡ [] → ⊥
    some [] is = cc
    some (entry ∷ entries) is = cc
none-behind set (Parameter entry behind) is = absurd (some behind is)
  where
    some : (entries : List Entry) → writes_of entries ≡ [] → ⊥
    some [] is = cc
    some (one ∷ entries) is = cc
none-behind set Closing is = refl

-- an answer that makes a download whole is (+), and answers the last request
pub last-answer : (set : SetValue) (conversation : List Exchange) (old : Sender) (answer : Answer) → IsDownloading set conversation old
    → IsDownload set (conversation ++ answered_to old answer ∷ []) → (answer ≡ WriteOk) × (old.sends ≡ Closing)
last-answer set conversation old answer since all =
    let request = sent_by old.sends in
    let exchange = answered_to old answer in
    let whole : Follows (since.before ++ (busy_times old.busy request ++ exchange ∷ []))
    (map done (since.sent ++ request ∷ later_writes set old.sends)) =
    subst (λ c. Follows c (map done (since.sent ++ request ∷ later_writes set old.sends)))
    (ap (λ c. c ++ exchange ∷ []) since.is ∙ append_assoc since.before (busy_times old.busy request) (exchange ∷ []))
    (subst (λ o. Follows (conversation ++ exchange ∷ []) (map done o)) since.order all) in
    let left = follows-rest since.sent (request ∷ later_writes set old.sends) since.before
    (busy_times old.busy request ++ exchange ∷ []) since.follows whole in
    let last = last-of left.0 old.busy request answer (later_writes set old.sends) left.1 left.3 left.4 in
    (last.0, none-behind set old.sends last.1)

pub fed-last : (old new : Sender) (answer : Answer) (result : DownloadStep) → IsDownloadStep old answer result new
    → (set : SetValue) (conversation : List Exchange) → IsDownloading set conversation old
    → IsDownload set (conversation ++ answered_to old answer ∷ []) → result ≡ step_is.Whole
fed-last old new answer result is set conversation since all = by result is
  where
    last : (answer ≡ WriteOk) × (old.sends ≡ Closing)
    last = last-answer set conversation old answer since all

    by : (result : DownloadStep) → IsDownloadStep old answer result new → result ≡ step_is.Whole
    by step_is.Whole is = refl
    by step_is.More is = absurd (more is)
      where
        more : ((answer ≡ Busy) × (old.busy + 1 < MOST_REQUESTS) × (new ≡ record { set = old.set; sends = old.sends; busy = old.busy + 1 }))
            ⊎ ((answer ≡ WriteOk) × (old.sends ≢ Closing)
            × (new ≡ record { set = old.set; sends = sends_after old.set old.sends; busy = 0 })) → ⊥
        more (inl busy) = done-not-busy (sym last.0 ∙ busy.0)
        more (inr written) = written.1 last.1
    by (step_is.Fault why) is = absurd (never why (subst (λ a. IsDownloadCause old.busy a why) last.0 is))
      where
        never : (why : TransferFault) → IsDownloadCause old.busy WriteOk why → ⊥
        never (fault.Refused error additional) cause = cc
        never fault.Unexpected cause = cause refl
        never fault.Size cause = cause
        never fault.List cause = cause
        never fault.Busy cause = done-not-busy cause.0
        never fault.Memory cause = cause

-- ---- the next write

-- at the place of an entry, this entry is written; after the last one, there is none
pub writing-entry : (entries : List Entry) (place : ℕ) (entry : Entry) → Some entry ≡ slice_get entries place
    → sent_by (writing (drop place entries)) ≡ entry_written entry
writing-entry entries place entry there =
    let below = slice_get_within entries place entry (sym there) in
    ap (λ left. sent_by (writing left))
    (drop_more entries place entry below
    ∙ ap (λ e. e ∷ drop (place + 1) entries) (get_or_from_slice_get entries place entry entry (sym there)))

pub writing-end : (entries : List Entry) (place : ℕ) → None ≡ slice_get entries place
    → sent_by (writing (drop place entries)) ≡ sent_by Closing
writing-end [] zero none = refl
writing-end [] (suc place) none = refl
writing-end (entry ∷ entries) zero none = cc
writing-end (entry ∷ entries) (suc place) none = writing-end entries place none

parameter-open : (entry : Entry) (behind : List Entry) → Parameter entry behind ≡ Closing → ⊥
parameter-open entry behind same = cc

-- the next place is the one after it
pub writing-next : (set : SetValue) (place : ℕ) → place < length set.entries
    → (writing (drop place set.entries) ≢ Closing)
    × (writing (drop (place + 1) set.entries) ≡ sends_after set (writing (drop place set.entries)))
writing-next set place below = by set.entries below
  where
    by : (entries : List Entry) → place < length entries
        → (writing (drop place entries) ≢ Closing) × (writing (drop (place + 1) entries) ≡ sends_after set (writing (drop place entries)))
    by [] below = absurd (omega (arith, below))
    by (entry ∷ entries) below =
        let next = get_or (entry ∷ entries) place entry in
        let behind = drop (place + 1) (entry ∷ entries) in
        let is : writing (drop place (entry ∷ entries))
        ≡ Parameter next behind = ap writing (drop_more (entry ∷ entries) place entry below) in
        (λ closing. parameter-open next behind (sym is ∙ closing), ap (sends_after set) (sym is))
