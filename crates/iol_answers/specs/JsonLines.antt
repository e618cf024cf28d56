-- A JSON value on one line.
use Rattle.std.specs.Prelude.{◌≡◌, ◌≤◌, ℕ, List, ◌++◌, codes, All, Some}
use Rattle.serde_json.specs.Data.{Data}
use Rattle.serde_json.specs.Read.{read}
use Rattle.serde_json.specs.Written.{compact_text}

-- a text is the compact form of a value, which reads as that value and has no octet below hexadecimal 20, and then a line feed
-- (format, Lines of a serving master)
pub record IsJsonLine (value : Data) (text : List ℕ) : Type 0 where
  pub line : text ≡ compact_text value ++ codes "\n"
  pub reads : read (compact_text value) ≡ Some value
  pub printed : All (λ octet. 32 ≤ octet) (compact_text value)
