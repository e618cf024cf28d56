-- Octets in an array of C.
use Rattle.std.specs.Prelude.{◌++◌, ◌-◌, ℕ, List, length, replicate}

-- octets followed by zeros, this number in all (own)
abbrev pub filled : ℕ → List ℕ → List ℕ
filled count octets = octets ++ replicate (count - length octets) 0
