-- The lines with one more entry, and with one more port.
use Rattle.std.proofs.Common.{◌≡◌, refl, ◌+◌, ◌-◌, ◌≤◌, ℕ, zero, suc, List, [], ◌∷◌, ◌++◌, Option, None, take, slice_get, sym, ap, ◌∙◌}
use Rattle.std.proofs.Common.{append_assoc, append-nil, add-one, arith}
use Rattle.std.specs.Prelude.{Bool, true, nat_le, if◌then◌else◌}
use Rattle.std.specs.List.{flat_map}
use Rattle.std.specs.Option.{option_map_or}
use Rattle.std.proofs.lemmas.Bool.Decides.{nat_tests}
use Rattle.iol_types.specs.DataSet.{Entry}
use Rattle.iol_types.specs.State.{Port, State, port_numbered}
use Rattle.iol_texts.specs.Recovered.{entry_line, port_text, port_lines}

-- the line of an entry, if there is one
abbrev entry_text : Option Entry → List ℕ
entry_text entry = option_map_or entry_line entry []

-- the lines of the entries before a place, and that of the entry at it
pub entries_next : (entries : List Entry) (place : ℕ)
    → flat_map entry_line (take place entries) ++ option_map_or entry_line (slice_get entries place) []
    ≡ flat_map entry_line (take (place + 1) entries)
entries_next entries place = behind entries place ∙ ap (λ (i : ℕ). flat_map entry_line (take i entries)) (sym (add-one place))
  where
    behind : (entries : List Entry) (place : ℕ)
        → flat_map entry_line (take place entries) ++ entry_text (slice_get entries place) ≡ flat_map entry_line (take (suc place) entries)
    behind [] zero = refl
    behind [] (suc place) = refl
    behind (entry ∷ entries) zero = sym (append-nil (entry_line entry))
    behind (entry ∷ entries) (suc place) =
        append_assoc (entry_line entry) (flat_map entry_line (take place entries)) (entry_text (slice_get entries place))
        ∙ ap (λ (text : List ℕ). entry_line entry ++ text) (behind entries place)

-- the lines of a port, if there is one
abbrev text_of : ℕ → Option Port → List ℕ
text_of number port = option_map_or (port_text number) port []

-- the lines of the ports before a place, and those of the port at it
later_ports : (first place : ℕ) (ports : List Port)
    → port_lines first (take place ports) ++ text_of (first + place) (slice_get ports place) ≡ port_lines first (take (suc place) ports)
later_ports first zero [] = refl
later_ports first (suc place) [] = refl
later_ports first zero (port ∷ ports) =
    let same : first + 0 ≡ first = omega arith in ap (λ (n : ℕ). port_text n port) same ∙ sym (append-nil (port_text first port))
later_ports first (suc place) (port ∷ ports) =
    let same : first + suc place ≡ first + 1 + place = omega arith in
    append_assoc (port_text first port) (port_lines (first + 1) (take place ports)) (text_of (first + suc place) (slice_get ports place))
    ∙ ap (λ (n : ℕ). port_text first port ++ (port_lines (first + 1) (take place ports) ++ text_of n (slice_get ports place))) same
    ∙ ap (λ (text : List ℕ). port_text first port ++ text) (later_ports (first + 1) place ports)

-- the lines of the ports of a state before a number, and those of the port with this number
pub ports_next : (number : ℕ) (state : State) → 1 ≤ number
    → port_lines 1 (take (number - 1) state) ++ option_map_or (port_text number) (port_numbered state number) []
    ≡ port_lines 1 (take number state)
ports_next zero state some = absurd (omega arith)
ports_next (suc place) state some =
    let there : nat_le 1 (suc place) ≡ true = grind (arith, nat_tests) in
    let before : suc place - 1 ≡ place = omega arith in
    let here : suc place ≡ 1 + place = omega arith in
    ap (λ (found : Bool). port_lines 1 (take (suc place - 1) state)
    ++ text_of (suc place) (if found then slice_get state (suc place - 1) else None)) there
    ∙ ap (λ (i : ℕ). port_lines 1 (take i state) ++ text_of (suc place) (slice_get state i)) before
    ∙ ap (λ (n : ℕ). port_lines 1 (take place state) ++ text_of n (slice_get state place)) here ∙ later_ports 1 place state
