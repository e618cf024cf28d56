-- The body of a slot, written and read.
use Rattle.std.proofs.Common.{◌≡◌, ◌≤◌, ◌<◌, ℕ, zero, suc, ◌+◌, ◌*◌, ◌-◌, ◌^◌, true, List, [], ◌∷◌, ◌++◌, length, take, drop, get_or}
use Rattle.std.proofs.Common.{replicate, Some, refl, sym, ◌∙◌, ap, arith, append_assoc, append-nil, add-zero, zero-add, length-append}
use Rattle.std.proofs.lemmas.Bool.Decides.{nat_tests}
use Rattle.std.proofs.lemmas.List.{take-append-drop, drop-drop, take_more, map-append, flat_map_more, length-replicate}
use Rattle.std.proofs.lemmas.Grind.{flat_map-append}
use Rattle.std.proofs.Math.ListN.{drop_of_length-le}
use Rattle.std.proofs.Math.Seq.{take-append_seam}
use Rattle.std.specs.Int.{w16, w32, w64, to_be_bytes}
use Rattle.std.proofs.lemmas.Nat.{from_be_bytes-to_be_bytes_2, from_be_bytes-to_be_bytes_4, from_be_bytes-to_be_bytes_8}
use Rattle.iol_types.specs.Command.{CommandValue, value_of}
use Rattle.iol_types.specs.declared.command.Command.{Command}
use Rattle.iol_record.specs.Record.{IsCommandRecord, command_octets, newest}
use Rattle.iol_record.proofs.RecordLaws.{command_at-record}
use Rattle.iol_disk.specs.Content.{Image}
use Rattle.iol_disk.specs.declared.disk.TheConstants.{SECTOR_OCTETS}
use Rattle.iol_layout.specs.Octets.{number_at, octets_at, padded, sectors_reached, sector_of}
use Rattle.iol_layout.specs.Body.{values, commands_of, fits, head_of, batch_of, records_of, head_octets, body_octets}
use Rattle.iol_layout.specs.declared.header.TheConstants.{LAST_NUMBER}
use Rattle.iol_layout.specs.declared.body.TheConstants.{MOST_COMMANDS, BODY_HEAD_OCTETS, EPOCH_OCTETS}
use Rattle.iol_layout.proofs.Sectors.{octets_at-add}

-- before the records of other commands, these octets are read as these commands
pub record Encodes (octets : List ℕ) (commands : List CommandValue) : Type 0 where
  pub reads : (n : ℕ) (rest : List ℕ) (others : List CommandValue) → commands_of newest n rest ≡ Some others
      → commands_of newest (length commands + n) (octets ++ rest) ≡ Some (commands ++ others)

pub encodes-none : Encodes [] []
encodes-none = record { reads = λ n rest others is. rw zero-add is }

pub encodes-more : (octets front : List ℕ) (commands : List CommandValue) (command : CommandValue) → Encodes octets commands
    → IsCommandRecord newest front command
    → Encodes (octets ++ front) (commands ++ command ∷ [])
encodes-more octets front commands command encodes is = record { reads = λ n rest others read. go n rest others read }
  where
    first : (n : ℕ) (rest : List ℕ) (others : List CommandValue) → commands_of newest n rest ≡ Some others
        → commands_of newest (suc n) (front ++ rest)
        ≡ Some (command ∷ others)
    first n rest others read = rw (command_at-record newest front rest command is, read) refl

    go : (n : ℕ) (rest : List ℕ) (others : List CommandValue) → commands_of newest n rest ≡ Some others
        → commands_of newest (length (commands ++ command ∷ []) + n) ((octets ++ front) ++ rest)
        ≡ Some ((commands ++ command ∷ []) ++ others)
    go n rest others read =
        let count : length (commands ++ command ∷ []) + n ≡ length commands + suc n =
        omega (arith, length-append commands (command ∷ [])) in
        let whole = encodes.reads (suc n) (front ++ rest) (command ∷ others) (first n rest others read) in
        rw (count, append_assoc octets front rest, append_assoc commands (command ∷ []) others) whole

pub encodes-all : (octets : List ℕ) (commands : List CommandValue) → Encodes octets commands → commands_of newest (length commands) octets
    ≡ Some commands
encodes-all octets commands encodes =
    ap (λ (o : List ℕ). commands_of newest (length commands) o) (sym (append-nil octets))
    ∙ ap (λ (n : ℕ). commands_of newest n (octets ++ [])) (sym (add-zero (length commands)))
    ∙ encodes.reads 0 [] [] refl
    ∙ ap Some (append-nil commands)

behind : (image : Image) (body : List ℕ) (first k n : ℕ) → ((j : ℕ) → k ≤ j → j < k + n → image (first + j) ≡ sector_of body j)
    → length body ≡ SECTOR_OCTETS * (k + n)
    → octets_at image (first + k) n ≡ drop (SECTOR_OCTETS * k) body
unfolding octets_at
behind image body first k zero written whole = sym (drop_of_length-le body (omega arith))
behind image body first k (suc n) written whole =
    let here : image (first + k) ≡ sector_of body k = written k (omega arith) (omega arith) in
    let place : first + k + 1 ≡ first + (k + 1) = omega arith in
    let there : octets_at image (first + (k + 1)) n ≡ drop (SECTOR_OCTETS * (k + 1)) body =
    behind image body first (k + 1) n (λ j above below. written j (omega arith) (omega arith)) (omega arith) in
    let width : SECTOR_OCTETS * (k + 1) - SECTOR_OCTETS * k ≡ SECTOR_OCTETS = omega arith in
    let next : SECTOR_OCTETS * (k + 1) ≡ SECTOR_OCTETS * k + SECTOR_OCTETS = omega arith in
    rw (place, here, there, width, next, ← drop-drop) (take-append-drop SECTOR_OCTETS (drop (SECTOR_OCTETS * k) body))

-- a body that is in an image, sector by sector, is read unchanged
pub octets_at-body : (image : Image) (body : List ℕ) (first n : ℕ) → ((j : ℕ) → j < n → image (first + j) ≡ sector_of body j) → length body
    ≡ SECTOR_OCTETS * n
    → octets_at image first n ≡ body
octets_at-body image body first n written whole =
    ap (λ (place : ℕ). octets_at image place n) (sym (add-zero first))
    ∙ behind image body first 0 n (λ j above below. written j (omega arith)) (omega arith)

-- the same whatever is in the sectors after it
pub octets_at-in_slot : (image : Image) (body : List ℕ) (first n m : ℕ) → ((j : ℕ) → j < n → image (first + j) ≡ sector_of body j)
    → length body ≡ SECTOR_OCTETS * n → n ≤ m
    → (rest : List ℕ) × (octets_at image first m ≡ body ++ rest)
octets_at-in_slot image body first n m written whole le =
    let split : m ≡ n + (m - n) = omega arith in (
      octets_at image (first + n) (m - n),
      ap (λ (count : ℕ). octets_at image first count) split ∙ octets_at-add image first n (m - n)
          ∙ ap (λ (octets : List ℕ). octets ++ octets_at image (first + n) (m - n)) (octets_at-body image body first n written whole),
    )

-- the fields of a head that was written
module _ (epoch first count octets : ℕ) (rest : List ℕ) where
  head-epoch : epoch < 2 ^ 64 → number_at w64 0 (head_octets epoch first count octets ++ rest) ≡ epoch
  head-epoch fits = omega (arith, from_be_bytes-to_be_bytes_8 epoch fits)

  head-first : first < 2 ^ 64 → number_at w64 8 (head_octets epoch first count octets ++ rest) ≡ first
  head-first fits = omega (arith, from_be_bytes-to_be_bytes_8 first fits)

  head-count : count < 2 ^ 16 → number_at w16 16 (head_octets epoch first count octets ++ rest) ≡ count
  head-count fits = omega (arith, from_be_bytes-to_be_bytes_2 count fits)

  head-octets : octets < 2 ^ 32 → number_at w32 18 (head_octets epoch first count octets ++ rest) ≡ octets
  head-octets fits = omega (arith, from_be_bytes-to_be_bytes_4 octets fits)

fits-true : (epoch first count octets : ℕ) → 1 ≤ count → count ≤ MOST_COMMANDS → first + count ≤ LAST_NUMBER + 1
    → fits (record { epoch = epoch; first = first; count = count; octets = octets }) epoch first ≡ true
fits-true epoch first count octets some most last = grind (arith, nat_tests)

-- one more command of a list of commands
pub values-more : (commands : List Command) (i : ℕ) (command : Command) → i < length commands → command ≡ get_or commands i command
    → values (take (i + 1) commands) ≡ values (take i commands) ++ value_of command ∷ []
values-more commands i command below is =
    ap values (take_more commands i command below ∙ ap (λ (c : Command). take i commands ++ c ∷ []) (sym is))
    ∙ map-append value_of (take i commands) (command ∷ [])

-- a body is read as its commands, whatever follows the records
pub batch_of-body : (epoch first : ℕ) (commands : List CommandValue) (rest : List ℕ) → epoch < 2 ^ 64
    → 1 ≤ length commands → length commands ≤ MOST_COMMANDS → length (records_of commands) < 2 ^ 32
    → first + length commands ≤ LAST_NUMBER + 1
    → commands_of newest (length commands) (records_of commands) ≡ Some commands
    → batch_of newest epoch first (head_octets epoch first (length commands) (length (records_of commands))
    ++ (records_of commands ++ rest))
    ≡ Some commands
unfolding batch_of head_of
batch_of-body epoch first commands rest small some most short last is =
    let count = length commands in
    let octets = length (records_of commands) in
    let behind = records_of commands ++ rest in
    let fit = fits-true epoch first count octets some most last in
    rw (
      head-epoch epoch first count octets behind small,
      head-first epoch first count octets behind (omega arith),
      head-count epoch first count octets behind (omega arith),
      head-octets epoch first count octets behind short,
      fit,
      take-append_seam (records_of commands) rest,
    )
    is

-- the head of a body that was written says the number of octets of its records
pub head_of-body_octets : (epoch first : ℕ) (commands : List CommandValue) → length (records_of commands) < 2 ^ 32
    → (head_of (body_octets epoch first commands)).octets ≡ length (records_of commands)
unfolding body_octets padded head_of
head_of-body_octets epoch first commands short =
    let head = head_octets epoch first (length commands) (length (records_of commands)) in
    let records = records_of commands in
    let zeros = replicate {A = ℕ} (SECTOR_OCTETS * sectors_reached (length (head ++ records)) - length (head ++ records)) 0 in
    ap (number_at w32 18) (append_assoc head records zeros)
    ∙ head-octets epoch first (length commands) (length records) (records ++ zeros) short

-- the number of sectors of a body
pub length-body : (epoch first : ℕ) (commands : List CommandValue)
    → length (body_octets epoch first commands) ≡ SECTOR_OCTETS * sectors_reached (BODY_HEAD_OCTETS + length (records_of commands))
unfolding body_octets padded
length-body epoch first commands =
    let records = records_of commands in
    let front = head_octets epoch first (length commands) (length records) ++ records in
    let size : length front ≡ BODY_HEAD_OCTETS + length records =
    length-append (head_octets epoch first (length commands) (length records)) records in
    let zeros = SECTOR_OCTETS * sectors_reached (length front) - length front in
    omega (arith, length-append front (replicate {A = ℕ} zeros 0), length-replicate {A = ℕ} zeros 0, size)

-- under another epoch a body differs only in its first octets
pub body_octets-under : (epoch other first : ℕ) (commands : List CommandValue)
    → to_be_bytes w64 other ++ drop EPOCH_OCTETS (body_octets epoch first commands) ≡ body_octets other first commands
unfolding body_octets padded
body_octets-under epoch other first commands = refl

-- whatever follows a body in its slot, it is read as its commands
pub batch_of-body_octets : (epoch first : ℕ) (commands : List CommandValue) (rest : List ℕ) → epoch < 2 ^ 64
    → 1 ≤ length commands → length commands ≤ MOST_COMMANDS → length (records_of commands) < 2 ^ 32
    → first + length commands ≤ LAST_NUMBER + 1
    → commands_of newest (length commands) (records_of commands) ≡ Some commands
    → batch_of newest epoch first (body_octets epoch first commands ++ rest) ≡ Some commands
unfolding body_octets padded
batch_of-body_octets epoch first commands rest small some most short last is =
    let head = head_octets epoch first (length commands) (length (records_of commands)) in
    let records = records_of commands in
    let zeros = replicate {A = ℕ} (SECTOR_OCTETS * sectors_reached (length (head ++ records)) - length (head ++ records)) 0 in
    ap (batch_of newest epoch first) (append_assoc (head ++ records) zeros rest ∙ append_assoc head records (zeros ++ rest))
    ∙ batch_of-body epoch first commands (zeros ++ rest) small some most short last is

-- the records of one more command
pub records-more : (octets front : List ℕ) (commands : List CommandValue) (command : CommandValue) → octets ≡ records_of commands
    → IsCommandRecord newest front command
    → octets ++ front ≡ records_of (commands ++ command ∷ [])
records-more octets front commands command so_far is = rw (so_far, is.spelling) (flat_map_more (command_octets newest) [] commands command)

-- the records of one more command
pub length-records-more : (commands : List CommandValue) (command : CommandValue)
    → length (records_of (commands ++ command ∷ [])) ≡ length (records_of commands) + length (command_octets newest command)
length-records-more commands command =
    ap length (flat_map-append (command_octets newest) commands (command ∷ [])
    ∙ ap (λ (more : List ℕ). records_of commands ++ more) (append-nil (command_octets newest command)))
    ∙ length-append (records_of commands) (command_octets newest command)
