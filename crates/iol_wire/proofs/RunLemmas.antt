-- Runs of the calls of a transport, and the octets that they receive.
use Rattle.std.proofs.Common.{◌≡◌, ◌≢◌, ◌+◌, ◌≤◌, ◌==◌, true, false, ℕ, List, [], ◌∷◌, ◌++◌, length, refl, sym, subst, arith}
use Rattle.std.proofs.lemmas.Bool.Decides.{nat_tests}
use Rattle.std.proofs.lemmas.List.{map-append, length-append}
use Rattle.std.proofs.lemmas.List.Elements.{All-push}
use Rattle.iol_wire.specs.declared.transport.Position.TheVariants.{WithinLine}
use Rattle.iol_wire.specs.declared.writing.TheConstants.{LINE_FEED}
use Rattle.iol_wire.specs.Hearing.{HasNoFeed, ended, position_after, received}
use Rattle.iol_wire.specs.Transport.{TransportCall, Received, Run}

module _ {T : Type 0} (moves : T → TransportCall → T → Type 0) where
  -- one run after another is a run
  pub run_join : (old middle new : T) (early late : List TransportCall) → Run moves old early middle → Run moves middle late new
      → Run moves old (early ++ late) new
  run_join old middle new [] late first second = subst (λ (from : T). Run moves from late new) (sym first) second
  run_join old middle new (call ∷ more) late first second =
      (first.0, first.1, run_join first.0 middle new more late first.2 second)

  -- one call is a run
  pub run_one : (old new : T) (call : TransportCall) → moves old call new → Run moves old (call ∷ []) new
  run_one old new call move = (new, move, refl)

  -- a run, and one more call
  pub run_more : (old middle new : T) (calls : List TransportCall) (call : TransportCall) → Run moves old calls middle
      → moves middle call new → Run moves old (calls ++ call ∷ []) new
  run_more old middle new calls call first move =
      run_join old middle new calls (call ∷ []) first (run_one middle new call move)

  -- a run, and one more octet
  pub run_receive : (old middle new : T) (octets : List ℕ) (octet : ℕ) → Run moves old (received octets) middle
      → moves middle (Received octet) new → Run moves old (received (octets ++ octet ∷ [])) new
  run_receive old middle new octets octet first move =
      rw map-append (run_more old middle new (received octets) (Received octet) first move)

  -- a run, and the line feed that ends its line
  pub run_line : (old middle new : T) (line : List ℕ) (octet : ℕ) → octet ≡ LINE_FEED → Run moves old (received line) middle
      → moves middle (Received octet) new → Run moves old (received (ended line)) new
  run_line old middle new line octet feed first move =
      subst (λ (last : ℕ). Run moves old (received (line ++ last ∷ [])) new) feed
      (run_receive old middle new line octet first move)

-- no octet is a line feed
pub no_feed_more : (octets : List ℕ) (octet : ℕ) → HasNoFeed octets → (octet ≡ LINE_FEED → ⊥) → HasNoFeed (octets ++ octet ∷ [])
no_feed_more octets octet none other = All-push (λ (one : ℕ). one ≢ LINE_FEED) octets octet none other

pub one_longer : (octets : List ℕ) (octet : ℕ) → length (octets ++ octet ∷ []) ≡ length octets + 1
one_longer octets octet = length-append octets (octet ∷ [])

-- after an octet, the position is within a line
pub within_line : (octets : List ℕ) (octet : ℕ) → WithinLine ≡ position_after (octets ++ octet ∷ [])
within_line [] octet = refl
within_line (first ∷ more) octet = refl

-- whether a buffer is full
pub is_full : (count most : ℕ) → true ≡ (count == most) → count ≡ most
is_full count most full = grind (arith, nat_tests)

pub has_place : (count most : ℕ) → false ≡ (count == most) → count ≤ most → count + 1 ≤ most
has_place count most full fits = grind (arith, nat_tests)
