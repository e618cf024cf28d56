-- Records of the first commands, and the longest prefix that fits.
use Rattle.std.proofs.Common.{◌≡◌, ◌<◌, ℕ, zero, suc, ◌+◌, ◌≤◌, List, [], ◌∷◌, ◌++◌, length, take, arith, ⊎_elim, length-append}
use Rattle.std.proofs.lemmas.Bool.{cases_lt}
use Rattle.iol_types.specs.Command.{CommandValue}
use Rattle.iol_record.specs.Record.{command_octets, newest}
use Rattle.iol_journal.specs.Body.{records_of}
use Rattle.iol_core.specs.Batches.{IsLongest}

-- more commands never have fewer octets
pub records_grow : (commands : List CommandValue) (n m : ℕ) → n ≤ m → length (records_of (take n commands))
    ≤ length (records_of (take m commands))
records_grow commands zero m h = omega arith
records_grow [] (suc n) m h = omega arith
records_grow (c ∷ cs) (suc n) zero h = absurd (omega arith)
records_grow (c ∷ cs) (suc n) (suc m) h =
    let rest : length (records_of (take n cs)) ≤ length (records_of (take m cs)) = records_grow cs n m (omega arith) in
    let few : length (command_octets newest c ++ records_of (take n cs))
    ≡ length (command_octets newest c) + length (records_of (take n cs)) =
    length-append (command_octets newest c) (records_of (take n cs)) in
    let many : length (command_octets newest c ++ records_of (take m cs))
    ≡ length (command_octets newest c) + length (records_of (take m cs)) =
    length-append (command_octets newest c) (records_of (take m cs)) in
    omega (arith, rest, few, many)

-- a prefix is the longest if it fits and one more command does not
pub stops_here : (room : ℕ) (commands : List CommandValue) (n : ℕ) → n ≤ length commands → length (records_of (take n commands)) ≤ room
    → (n < length commands → room < length (records_of (take (n + 1) commands))) → IsLongest room commands n
stops_here room commands n within fits over = record {
  within = within;
  fits = fits;
  longest = λ more there small.
      ⊎_elim (λ (less : n < more). absurd (too_many more less there small)) (λ (most : more ≤ n). most) (cases_lt n more);
}
  where
    too_many : (more : ℕ) → n < more → more ≤ length commands → length (records_of (take more commands)) ≤ room → ⊥
    too_many more less there small =
        let grown : length (records_of (take (n + 1) commands)) ≤ length (records_of (take more commands)) =
        records_grow commands (n + 1) more (omega arith) in
        let past : room < length (records_of (take (n + 1) commands)) = over (omega arith) in
        omega (arith, grown, past, small)
