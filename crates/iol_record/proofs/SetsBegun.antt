-- A fault at a set of a port is the fault of both, or memory that ran out after the first of them had begun.
use Rattle.std.proofs.Common.{◌≡◌, Bool, true, false, List, ℕ, Option, Some, None, Result, Ok, Err, refl, sym, subst, ap}
use Rattle.std.specs.Prelude.{IfSome, IsOk}
use Rattle.iol_types.specs.declared.config.PortConfig.{PortConfig}
use Rattle.iol_types.specs.DataSet.{SetValue}
use Rattle.iol_types.specs.State.{Stored}
use Rattle.iol_record.specs.declared.fault.RecordFault.{RecordFault}
use Rattle.iol_record.specs.declared.fault.RecordFault.TheVariants.{Short, BadTag, BadField, Memory}
use Rattle.iol_record.specs.declared.version.Version.{Version}
use Rattle.iol_record.specs.Reading.{◌>>=◌, both, field_at, flag_field, config_at, set_at, stored_at, stored_begun_at, flagged_at}
use Rattle.iol_record.specs.Reading.{flagged_begun_at, previous_at, previous_begun_at, first_begun_at, sets_begun_at, IsReadFault}

-- what is read
abbrev SetRead : Type 0
SetRead = Option Stored × List ℕ

abbrev read_as : SetRead → Result SetRead RecordFault
read_as read = Ok read

same_read : (one two : SetRead) → read_as one ≡ read_as two → one ≡ two
same_read one two is = cc

-- what is read of a configuration and a set is a stored set
abbrev with_set : (PortConfig × SetValue) × List ℕ → Result SetRead RecordFault
with_set parts = Ok (Some (record { set = parts.0.1; recorded = parts.0.0 }), parts.1)

some_read : (read : Result ((PortConfig × SetValue) × List ℕ) RecordFault) (rest : List ℕ) → (read >>= with_set) ≡ Ok (None, rest) → ⊥
some_read (Ok parts) rest is =
    let set : Stored = record { set = parts.0.1; recorded = parts.0.0 } in
    is_none_set set (ap (λ (read : SetRead). read.0) (same_read (Some set, parts.1) (None, rest) is))
  where
    is_none_set : (set : Stored) → Some set ≡ None → ⊥
    is_none_set set same = cc
some_read (Err fault) rest is = cc

module _ (version : Version) (octets : List ℕ) where
  -- if the stored set has begun, the first one has
  stored-begun : IsOk (flagged_begun_at version octets) → IsOk (sets_begun_at version octets)
  unfolding stored_begun_at first_begun_at
  stored-begun is = by (field_at flag_field octets) is
    where
      by : (flag : Result (Bool × List ℕ) RecordFault) → IsOk (flag >>= λ a. stored_begun_at version a.0 a.1)
          → IsOk (flag >>= λ a. first_begun_at version a.0 a.1)
      by (Ok (true, rest)) is = is
      by (Ok (false, rest)) is = let never = is in cc
      by (Err fault) is = is

  -- and so it has if none is stored and the previous set has begun
  previous-begun : (rest : List ℕ) → flagged_at version octets ≡ Ok (None, rest) → IsOk (previous_begun_at version rest)
      → IsOk (sets_begun_at version octets)
  unfolding stored_at first_begun_at
  previous-begun rest none is = by (field_at flag_field octets) none
    where
      by : (flag : Result (Bool × List ℕ) RecordFault) → (flag >>= λ a. stored_at version a.0 a.1) ≡ Ok (None, rest)
          → IsOk (flag >>= λ a. first_begun_at version a.0 a.1)
      by (Ok (true, more)) none = absurd (some_read (both (config_at version) set_at more) rest none)
      by (Ok (false, more)) none =
          let same : more ≡ rest = ap (λ (read : SetRead). read.1) (same_read (None, more) (None, rest) none) in
          subst (λ (os : List ℕ). IsOk (previous_begun_at version os)) (sym same) is
      by (Err fault) none = absurd cc

  -- a fault at the stored set
  pub fault_at_stored : (fault : RecordFault) → IsReadFault (flagged_begun_at version octets) fault (flagged_at version octets)
      → IsReadFault (sets_begun_at version octets) fault (both (flagged_at version) (previous_at version) octets)
  fault_at_stored Memory is = stored-begun is
  fault_at_stored Short is = rw is refl
  fault_at_stored BadTag is = rw is refl
  fault_at_stored BadField is = rw is refl

  -- a fault at the previous set, after the stored one was read
  pub fault_at_previous : (stored : Option Stored) (rest : List ℕ) (fault : RecordFault) → flagged_at version octets ≡ Ok (stored, rest)
      → IfSome stored (λ _. IsOk (flagged_begun_at version octets))
      → IsReadFault (previous_begun_at version rest) fault (previous_at version rest)
      → IsReadFault (sets_begun_at version octets) fault (both (flagged_at version) (previous_at version) octets)
  fault_at_previous None rest Memory read begun is = previous-begun rest read is
  fault_at_previous (Some stored) rest Memory read begun is = stored-begun begun
  fault_at_previous stored rest Short read begun is = rw (read, is) refl
  fault_at_previous stored rest BadTag read begun is = rw (read, is) refl
  fault_at_previous stored rest BadField read begun is = rw (read, is) refl
