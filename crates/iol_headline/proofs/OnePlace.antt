-- What a trace reports of a conversation leaves no choice: one place where it began, one conversation, one work.
use Rattle.std.proofs.Common.{◌≡◌, refl, ℕ, List, [], ◌∷◌, ◌++◌, sym, ap, ◌∙◌, subst}
use Rattle.std.specs.Prelude.{Ok, Result}
use Rattle.iol_link.specs.Isdu.{IsShortestRequest}
use Rattle.iol_link.specs.Reading.{answer_of}
use Rattle.iol_link.specs.declared.faults.IsduFault.{IsduFault}
use Rattle.iol_link.specs.declared.messages.Answer.{Answer}
use Rattle.iol_link.specs.declared.messages.Request.{Request}
use Rattle.iol_transfer.specs.Exchanges.{Exchange, busy_times, Follows}
use Rattle.iol_core.specs.Events as trace
use Rattle.iol_core.specs.Events.{Event, Page, Changed, Stamp}
use Rattle.iol_core.specs.Own.{own, own_in}
use Rattle.iol_core.specs.Statuses.{Status}
use Rattle.iol_headline.proofs.Sending.{one_request}
use Rattle.iol_headline.proofs.Talks.{at_own}
use Rattle.iol_headline.specs.Conversations.{IsToldAs, Converses}

-- ---- lists

-- heads and tails
pub head_is : {A : Type 0} (x y : A) (xs ys : List A) → x ∷ xs ≡ y ∷ ys → x ≡ y
head_is x y xs ys same = cc

pub tail_is : {A : Type 0} (x y : A) (xs ys : List A) → x ∷ xs ≡ y ∷ ys → xs ≡ ys
tail_is x y xs ys same = cc

-- a list with an element is not empty
cons_not : {A : Type 0} (x : A) (xs : List A) → x ∷ xs ≡ [] → ⊥
cons_not x xs same = cc

none_with : {A : Type 0} (xs : List A) (x : A) → xs ++ x ∷ [] ≡ [] → ⊥
none_with [] x none = cons_not x [] none
none_with (a ∷ xs) x none = cons_not a (xs ++ x ∷ []) none

-- lists that end with one element each are one
pub last_is : {A : Type 0} (xs ys : List A) (x y : A) → xs ++ x ∷ [] ≡ ys ++ y ∷ [] → (xs ≡ ys) × (x ≡ y)
last_is [] [] x y same = (refl, head_is x y [] [] same)
last_is [] (b ∷ ys) x y same = absurd (none_with ys y (sym (tail_is x b [] (ys ++ y ∷ []) same)))
last_is (a ∷ xs) [] x y same = absurd (none_with xs x (tail_is a y (xs ++ x ∷ []) [] same))
last_is (a ∷ xs) (b ∷ ys) x y same =
    let rest = last_is xs ys x y (tail_is a b (xs ++ x ∷ []) (ys ++ y ∷ []) same) in
    (ap (λ zs. a ∷ zs) rest.0 ∙ ap (λ z. z ∷ ys) (head_is a b (xs ++ x ∷ []) (ys ++ y ∷ []) same), rest.1)

-- this holds of each
abbrev pub Each : {A : Type 0} → (A → Type 0) → List A → Type 0
Each Holds [] = Unit {0}
Each Holds (x ∷ xs) = Holds x × Each Holds xs

-- what holds of each holds of one, and of each in a part
pub each_at : {A : Type 0} (Holds : A → Type 0) (front behind : List A) (x : A) → Each Holds (front ++ x ∷ behind) → Holds x
each_at Holds [] behind x each = each.0
each_at Holds (y ∷ front) behind x each = each_at Holds front behind x each.1

pub each_after : {A : Type 0} (Holds : A → Type 0) (front behind : List A) → Each Holds (front ++ behind) → Each Holds behind
each_after Holds [] behind each = each
each_after Holds (y ∷ front) behind each = each_after Holds front behind each.1

-- ---- one place

pub each_front : {A : Type 0} (Holds : A → Type 0) (front behind : List A) → Each Holds (front ++ behind) → Each Holds front
each_front Holds [] behind each = tt
each_front Holds (y ∷ front) behind each = (each.0, each_front Holds front behind each.1)

-- and of one more
pub each_and : {A : Type 0} (Holds : A → Type 0) (xs : List A) (x : A) → Each Holds xs → Holds x → Each Holds (xs ++ x ∷ [])
each_and Holds [] x each holds = (holds, tt)
each_and Holds (y ∷ xs) x each holds = (each.0, each_and Holds xs x each.1 holds)

-- a list of one has no other element
pub one_in : {A : Type 0} (front behind : List A) (one x : A) → one ∷ [] ≡ front ++ x ∷ behind → one ≡ x
one_in [] behind one x same = head_is one x [] behind same
one_in (y ∷ front) behind one x same = absurd (none_at front behind x (sym (tail_is one y [] (front ++ x ∷ behind) same)))
  where
    none_at : {A : Type 0} (front behind : List A) (x : A) → front ++ x ∷ behind ≡ [] → ⊥
    none_at [] behind x none = cons_not x behind none
    none_at (y ∷ front) behind x none = cons_not y (front ++ x ∷ behind) none

-- two marked places of one list, after which none is marked, are one
pub one_place : {A : Type 0} (Marked : A → Type 0) (xs others : List A) (c d : A) (ys rest : List A) → Marked c → Marked d
    → Each (λ x. Marked x → ⊥) ys → Each (λ x. Marked x → ⊥) rest → xs ++ c ∷ ys ≡ others ++ d ∷ rest
    → (xs ≡ others) × (c ≡ d) × (ys ≡ rest)
one_place Marked [] [] c d ys rest here there behind after same = (refl, head_is c d ys rest same, tail_is c d ys rest same)
one_place Marked [] (b ∷ others) c d ys rest here there behind after same =
    absurd (each_at (λ x. Marked x → ⊥) others rest d (subst (Each (λ x. Marked x → ⊥)) (tail_is c b ys (others ++ d ∷ rest) same) behind)
    there)
one_place Marked (a ∷ xs) [] c d ys rest here there behind after same =
    absurd (each_at (λ x. Marked x → ⊥) xs ys c (subst (Each (λ x. Marked x → ⊥)) (sym (tail_is a d (xs ++ c ∷ ys) rest same)) after) here)
one_place Marked (a ∷ xs) (b ∷ others) c d ys rest here there behind after same =
    let more = one_place Marked xs others c d ys rest here there behind after (tail_is a b (xs ++ c ∷ ys) (others ++ d ∷ rest) same) in
    (ap (λ zs. a ∷ zs) more.0 ∙ ap (λ z. z ∷ others) (head_is a b (xs ++ c ∷ ys) (others ++ d ∷ rest) same), more.1, more.2)

-- a status of the port is reported
abbrev pub TellsStatus : ℕ → Event → Type 0
TellsStatus port e = (status : Status) × (e ≡ Changed port status)

-- the page of a device is reported
abbrev pub TellsPage : Event → Type 0
TellsPage e = (port : ℕ) × (connection : ℕ) × (octets : List ℕ) × (e ≡ Page port connection octets)

-- events that are apart
exchange_no_status : (port connection told : ℕ) (request answer : List ℕ) (status : Status)
    → trace.Exchange port connection request answer ≡ Changed told status → ⊥
exchange_no_status port connection told request answer status same = cc

exchange_no_page : (port connection told on : ℕ) (request answer octets : List ℕ)
    → trace.Exchange port connection request answer ≡ Page told on octets → ⊥
exchange_no_page port connection told on request answer octets same = cc

-- a conversation reports no status and no page
pub talk_no_status : (port connection : ℕ) (told : List Event) (conversation : List Exchange) → Converses port connection told conversation
    → Each (λ e. TellsStatus port e → ⊥) told
talk_no_status port connection [] conversation talk = tt
talk_no_status port connection (e ∷ told) conversation talk = (
  (λ is. exchange_no_status port connection port talk.2.request talk.2.answer is.0 (sym talk.2.event ∙ is.1)),
  talk_no_status port connection told talk.1 talk.4,
)

pub talk_no_page : (port connection : ℕ) (told : List Event) (conversation : List Exchange) → Converses port connection told conversation
    → Each (λ e. TellsPage e → ⊥) told
talk_no_page port connection [] conversation talk = tt
talk_no_page port connection (e ∷ told) conversation talk = (
  (λ is. exchange_no_page port connection is.0 is.1 talk.2.request talk.2.answer is.2 (sym talk.2.event ∙ is.3)),
  talk_no_page port connection told talk.1 talk.4,
)

-- nor do the events that it is among
pub none_marked : (port : ℕ) (events : List Stamp) → Each (λ e. TellsStatus port e → ⊥) (own port events)
    → Each (λ (e : Stamp). TellsStatus port e.event → ⊥) events
none_marked port [] each = tt
none_marked port (e ∷ events) each = (
  (λ is.
      (subst (Each (λ d. TellsStatus port d → ⊥)) (ap (λ d. own_in port d ++ own port events) is.1
      ∙ ap (λ ds. ds ++ own port events) (at_own port (Changed port is.0))) each).0 (is.0, refl)),
  none_marked port events (each_after (λ d. TellsStatus port d → ⊥) (own_in port e.event) (own port events) each),
)

-- ---- one conversation

-- exchanges that are reported by one event are one
told_same : (port on connection : ℕ) (request other answer back : List ℕ)
    → trace.Exchange port on request answer ≡ trace.Exchange port connection other back → (request ≡ other) × (answer ≡ back)
told_same port on connection request other answer back same = (cc, cc)

heard_same : (one other : Answer) → (let heard : Result Answer IsduFault = Ok one in heard ≡ Ok other) → one ≡ other
heard_same one other same = cc

one_exchange : (port on connection : ℕ) (e : Event) (x y : Exchange) → IsToldAs port on e x → IsToldAs port connection e y → x ≡ y
one_exchange port on connection e x y one other =
    let same = told_same port on connection one.request other.request one.answer other.answer (sym one.event ∙ other.event) in
    let asked = one_request one.request x.request y.request one.sent
    (subst (λ (os : List ℕ). IsShortestRequest os y.request) (sym same.0) other.sent) in
    let heard = heard_same x.answer y.answer (sym one.heard ∙ (ap answer_of same.1 ∙ other.heard)) in
    ap (λ (r : Request). record { request = r; answer = x.answer }) asked
    ∙ ap (λ (a : Answer). record { request = y.request; answer = a }) heard

-- conversations that are reported by the same events are one
pub one_talk : (port on connection : ℕ) (told : List Event) (conversation other : List Exchange) → Converses port on told conversation
    → Converses port connection told other → conversation ≡ other
one_talk port on connection [] conversation other talk same = talk ∙ sym same
one_talk port on connection (e ∷ told) conversation other talk same =
    talk.3
    ∙ (ap (λ (x : Exchange). x ∷ talk.1) (one_exchange port on connection e talk.0 same.0 talk.2 same.2)
    ∙ (ap (λ (xs : List Exchange). same.0 ∷ xs) (one_talk port on connection told talk.1 same.1 talk.4 same.4) ∙ sym same.3))

-- what holds of each exchange holds of each that is settled
pub settled_each : (Holds : Exchange → Type 0) (settled conversation : List Exchange) → Follows conversation settled
    → Each Holds conversation
    → Each Holds settled
settled_each Holds [] conversation follows each = tt
settled_each Holds (exchange ∷ settled) conversation follows each =
    let there = subst (Each Holds) follows.3 each in
    let at = each_after Holds (busy_times follows.0 exchange.request) (exchange ∷ follows.1) there in
    (at.0, settled_each Holds settled follows.1 follows.4 at.1)
