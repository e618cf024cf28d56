-- The next entry of a set, and the next port of a state.
use Rattle.std.proofs.Common.{◌≡◌, refl, ◌+◌, ◌-◌, ◌≤◌, ℕ, zero, suc, List, [], ◌∷◌, ◌++◌, map, Option, None, take, slice_get, sym, ap, ◌∙◌}
use Rattle.std.proofs.Common.{add-one, arith}
use Rattle.std.specs.Prelude.{Bool, true, nat_le, if◌then◌else◌}
use Rattle.std.specs.Option.{option_map_or}
use Rattle.std.proofs.lemmas.Bool.Decides.{nat_tests}
use Rattle.serde_json.specs.Data.{Data}
use Rattle.iol_types.specs.DataSet.{Entry}
use Rattle.iol_types.specs.State.{Port, State}
use Rattle.iol_json.specs.Json.{entry_data, entry_at, port_data, ports_data, port_at}

-- the entries before a place, and then the entry at it
pub entries_next : (entries : List Entry) (place : ℕ)
    → map entry_data (take place entries) ++ entry_at entries place ≡ map entry_data (take (place + 1) entries)
entries_next entries place = behind entries place ∙ ap (λ (i : ℕ). map entry_data (take i entries)) (sym (add-one place))
  where
    behind : (entries : List Entry) (place : ℕ)
        → map entry_data (take place entries) ++ entry_at entries place ≡ map entry_data (take (suc place) entries)
    behind [] zero = refl
    behind [] (suc place) = refl
    behind (entry ∷ entries) zero = refl
    behind (entry ∷ entries) (suc place) = ap (λ (others : List Data). entry_data entry ∷ others) (behind entries place)

-- a port, if it is there
abbrev found_at : ℕ → Option Port → List Data
found_at number port = option_map_or (λ found. port_data number found ∷ []) port []

-- the ports before a place, and then the port at it
later_ports : (first place : ℕ) (ports : List Port)
    → ports_data first (take place ports) ++ found_at (first + place) (slice_get ports place) ≡ ports_data first (take (suc place) ports)
later_ports first zero [] = refl
later_ports first (suc place) [] = refl
later_ports first zero (port ∷ ports) =
    let same : first + 0 ≡ first = omega arith in ap (λ (n : ℕ). port_data n port ∷ []) same
later_ports first (suc place) (port ∷ ports) =
    let same : first + suc place ≡ first + 1 + place = omega arith in
    ap (λ (n : ℕ). port_data first port ∷ (ports_data (first + 1) (take place ports) ++ found_at n (slice_get ports place))) same
    ∙ ap (λ (others : List Data). port_data first port ∷ others) (later_ports (first + 1) place ports)

-- the ports of a state before a number, and then the port with that number
pub ports_next : (number : ℕ) (state : State) → 1 ≤ number
    → ports_data 1 (take (number - 1) state) ++ port_at state number ≡ ports_data 1 (take number state)
ports_next zero state some = absurd (omega arith)
ports_next (suc place) state some =
    let there : nat_le 1 (suc place) ≡ true = grind (arith, nat_tests) in
    let before : suc place - 1 ≡ place = omega arith in
    let here : suc place ≡ 1 + place = omega arith in
    ap (λ (found : Bool). ports_data 1 (take (suc place - 1) state)
    ++ found_at (suc place) (if found then slice_get state (suc place - 1) else None)) there
    ∙ ap (λ (i : ℕ). ports_data 1 (take i state) ++ found_at (suc place) (slice_get state i)) before
    ∙ ap (λ (n : ℕ). ports_data 1 (take place state) ++ found_at n (slice_get state place)) here ∙ later_ports 1 place state
