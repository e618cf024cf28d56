-- The text that is printed for a script that can be run.
use Rattle.std.specs.Prelude.{◌≡◌, ◌==◌, ℕ, ℤ, pos, negsuc, if◌then◌else◌, List, ◌++◌, length, codes, Some}
use Rattle.std.specs.Fmt.{decimal}
use Rattle.iol_script.specs.Script.{Said, said_in}

-- a whole number as a count, which is 0 if the number is negative (own)
abbrev pub count_of : ℤ → ℕ
count_of (pos n) = n
count_of (negsuc n) = 0

-- a count with its word, which has an s unless the count is 1 (format, Check)
abbrev pub counted : List ℕ → ℕ → List ℕ
counted word count = if count == 1 then codes "1 " ++ word else decimal count ++ (codes " " ++ (word ++ codes "s"))

-- the line for these numbers of ports, slots, devices, and steps before the stop (format, Check)
abbrev pub counts_line : ℕ → ℕ → ℕ → ℕ → List ℕ
counts_line ports slots devices steps =
    codes "fine: " ++ (counted (codes "port") ports ++ (codes ", " ++ (counted (codes "slot") slots
    ++ (codes ", " ++ (counted (codes "device") devices ++ (codes ", " ++ (counted (codes "step") steps ++ codes "\n")))))))

-- the line of a script that can be run (format, Check)
abbrev pub fine_line : Said → List ℕ
fine_line said = counts_line (count_of said.ports) (count_of said.slots) (length said.devices) (length said.steps)

-- the printed text is the line of the script of a text, and notes after it (format, Check)
pub record TellsFine (text printed : List ℕ) : Type 0 where
  pub said : Said
  pub says : said_in text ≡ Some said
  pub notes : List ℕ
  pub tells : printed ≡ fine_line said ++ notes
