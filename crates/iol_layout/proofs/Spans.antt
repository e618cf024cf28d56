-- Batches over several slots: where their sectors are, and what is read of them.
use Rattle.std.proofs.Common.{◌≡◌, ◌≢◌, ◌≤◌, ◌<◌, ℕ, ◌+◌, ◌*◌, nat_le, Bool, true, false, List, Option, Some, None, if◌then◌else◌}
use Rattle.std.proofs.Common.{refl, sym, ◌∙◌, ap, arith}
use Rattle.std.proofs.lemmas.Bool.Decides.{nat_tests}
use Rattle.iol_types.specs.Command.{CommandValue}
use Rattle.iol_disk.specs.Content.{Image}
use Rattle.iol_disk.specs.Gate.{body_sector}
use Rattle.iol_layout.specs.Layout.{Layout, slot_at, body_at, total}
use Rattle.iol_layout.specs.Octets.{octets_at}
use Rattle.iol_layout.specs.Body.{head_of, slots_of, batch_of}
use Rattle.iol_layout.specs.Meaning.{body_in, span_in, batch_in}
use Rattle.iol_layout.specs.declared.area.Area.{Area}
use Rattle.iol_layout.specs.declared.area.Area.TheVariants.{A, B}
use Rattle.iol_disk.specs.declared.slot.TheConstants.{BODY_SECTORS}
use Rattle.iol_layout.proofs.Chains.{by_test}
use Rattle.iol_layout.proofs.Sectors.{octets_at-same}

-- ---- places

-- a sector of a body is after the gate of its first slot
pub body_at-behind : (layout : Layout) (a : Area) (k j : ℕ) → slot_at layout a k < body_at layout a k j
body_at-behind layout a k j = omega arith

-- and before the slot after its last one
pub body_at-within : (layout : Layout) (a : Area) (k n j : ℕ) → j < BODY_SECTORS * n → body_at layout a k j < slot_at layout a (k + n)
body_at-within layout a k n j below = omega (arith, below)

-- places rise
pub body_at-rises : (layout : Layout) (a : Area) (k i j : ℕ) → i < j → body_at layout a k i < body_at layout a k j
body_at-rises layout a k i j below = omega (arith, below)

-- no place of a body is a gate
pub body_at-no_gate : (layout : Layout) (a : Area) (k l j : ℕ) → slot_at layout a l ≢ body_at layout a k j
body_at-no_gate layout a k l j = omega arith

-- a batch takes at least one slot
pub slots_of-some : (octets : ℕ) → 1 ≤ slots_of octets
slots_of-some octets = omega arith

-- the slots of an area are within the sectors of the journal
pub slots-inside : (layout : Layout) (a : Area) (k : ℕ) → k ≤ layout.slots → slot_at layout a k ≤ total layout
slots-inside layout A k below = omega (arith, below)
slots-inside layout B k below = omega (arith, below)

-- ---- what is read

pub body_in-same : (layout : Layout) (a : Area) (old new : Image) (k n : ℕ)
    → ((i : ℕ) → slot_at layout a k ≤ i → i < slot_at layout a (k + n) → new i ≡ old i)
    → body_in layout a new k n ≡ body_in layout a old k n
body_in-same layout a old new k n same =
    octets_at-same (λ j. old (body_at layout a k j)) (λ j. new (body_at layout a k j)) 0 (BODY_SECTORS * n)
    (λ j above below. same (body_at layout a k j) (omega arith) (omega (arith, below)))

-- the places of a slot are those of the layout
pub body_in-placed : (layout : Layout) (a : Area) (image : Image) (k n sector : ℕ) → sector ≡ body_at layout a k 0
    → octets_at (λ j. image (body_sector sector j)) 0 (BODY_SECTORS * n) ≡ body_in layout a image k n
body_in-placed layout a image k n sector here =
    octets_at-same (λ j. image (body_at layout a k j)) (λ j. image (body_sector sector j)) 0 (BODY_SECTORS * n)
    (λ j above below. ap image (placed j))
  where
    placed : (j : ℕ) → body_sector sector j ≡ body_at layout a k j
    placed j = omega (arith, here)

pub span_in-same : (layout : Layout) (a : Area) (old new : Image) (k : ℕ) → new (body_at layout a k 0) ≡ old (body_at layout a k 0)
    → span_in layout a new k ≡ span_in layout a old k
span_in-same layout a old new k same = ap (λ (octets : List ℕ). slots_of (head_of octets).octets) same

-- a batch that is read ends within the slots
pub batch_in-within : (layout : Layout) (a : Area) (epoch : ℕ) (image : Image) (k most first : ℕ) (commands : List CommandValue)
    → batch_in layout a epoch image k most first ≡ Some commands
    → (span_in layout a image k ≤ most) × (batch_of layout.version epoch first (body_in layout a image k (span_in layout a image k))
    ≡ Some commands)
batch_in-within layout a epoch image k most first commands is = tested (nat_le (span_in layout a image k) most) refl is
  where
    tested : (test : Bool) → nat_le (span_in layout a image k) most ≡ test
        → if◌then◌else◌ {A = Option (List CommandValue)} test
        (batch_of layout.version epoch first (body_in layout a image k (span_in layout a image k))) None
        ≡ Some commands
        → (span_in layout a image k ≤ most) × (batch_of layout.version epoch first (body_in layout a image k (span_in layout a image k))
        ≡ Some commands)
    tested true at is = (grind (arith, nat_tests), is)
    tested false at is = absurd cc

-- a batch whose slots exist
pub batch_in-there : (layout : Layout) (a : Area) (epoch : ℕ) (image : Image) (k n most first : ℕ) (answer : Option (List CommandValue))
    → span_in layout a image k ≡ n → n ≤ most → batch_of layout.version epoch first (body_in layout a image k n) ≡ answer
    → batch_in layout a epoch image k most first ≡ answer
batch_in-there layout a epoch image k n most first answer span within is =
    let test : nat_le n most ≡ true = grind (arith, nat_tests) in
    rw (span, test) is

-- a batch whose slots do not exist
pub batch_in-past : (layout : Layout) (a : Area) (epoch : ℕ) (image : Image) (k n most first : ℕ)
    → span_in layout a image k ≡ n → most < n → batch_in layout a epoch image k most first ≡ None
batch_in-past layout a epoch image k n most first span past =
    let test : nat_le n most ≡ false = grind (arith, nat_tests) in
    rw (span, test) refl

-- images that are the same in the slots have the same batch
pub batch_in-same : (layout : Layout) (a : Area) (epoch : ℕ) (old new : Image) (k most first : ℕ) → 1 ≤ most
    → ((i : ℕ) → slot_at layout a k ≤ i → i < slot_at layout a (k + most) → new i ≡ old i)
    → batch_in layout a epoch new k most first ≡ batch_in layout a epoch old k most first
batch_in-same layout a epoch old new k most first some same =
    let span = span_in-same layout a old new k (same (body_at layout a k 0) (omega arith) (omega (arith, some))) in
    by_test (nat_le (span_in layout a old k) most) _
    (λ at.
    let within : span_in layout a old k ≤ most = grind (arith, nat_tests) in
    batch_in-there layout a epoch new k (span_in layout a old k) most first _ span within
    (ap (batch_of layout.version epoch first)
    (body_in-same layout a old new k (span_in layout a old k) (λ i above below. same i above (omega (arith, below, within))))
    ∙ sym (batch_in-there layout a epoch old k (span_in layout a old k) most first _ refl within refl)))
    (λ at.
    let past : most < span_in layout a old k = grind (arith, nat_tests) in
    batch_in-past layout a epoch new k (span_in layout a old k) most first span past
    ∙ sym (batch_in-past layout a epoch old k (span_in layout a old k) most first refl past))
