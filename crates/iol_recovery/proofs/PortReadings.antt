-- The port of a record that is read sector by sector, as far as the record reaches.
use Rattle.std.proofs.Common.{◌≡◌, ◌≤◌, ℕ, ◌+◌, ◌-◌, List, [], ◌++◌, Option, Result, Ok, Err, refl, sym, ◌∙◌, ap, arith}
use Rattle.iol_types.specs.State.{Port}
use Rattle.iol_record.specs.Reading.{port_record_at}
use Rattle.iol_record.specs.declared.fault.RecordFault.{RecordFault}
use Rattle.iol_record.specs.declared.fault.RecordFault.TheVariants.{Short}
use Rattle.iol_record.proofs.RecordLaws.{extended, port_record_at-append}
use Rattle.iol_record.specs.declared.version.Version.{Version}
use Rattle.iol_disk.specs.Content.{Image}
use Rattle.iol_layout.specs.Octets.{octets_at}
use Rattle.iol_layout.specs.Meaning.{damaged, or_damaged, port_of, port_in}
use Rattle.iol_layout.proofs.Sectors.{octets_at-add}

port_of-extended : (more : List ℕ) (read : Result (Port × List ℕ) RecordFault) → port_of (extended more read) ≡ port_of read
port_of-extended more (Ok read) = refl
port_of-extended more (Err fault) = refl

-- a record that is not short in the first sectors is read the same from all
in_all : (version : Version) (image : Image) (first sectors read : ℕ) (octets : List ℕ) → octets ≡ octets_at image first read
    → read ≤ sectors
    → (port_record_at version octets ≡ Err Short → ⊥) → port_of (port_record_at version (octets_at image first sectors))
    ≡ port_of (port_record_at version octets)
in_all version image first sectors read octets is some not_short =
    let more = octets_at image (first + read) (sectors - read) in
    let all : octets_at image first sectors ≡ octets ++ more =
    ap (octets_at image first) (omega (arith, some)) ∙ octets_at-add image first read (sectors - read)
    ∙ ap (λ (front : List ℕ). front ++ more) (sym is) in
    ap (λ (os : List ℕ). port_of (port_record_at version os)) all ∙ ap port_of (port_record_at-append version octets more not_short)
    ∙ port_of-extended more (port_record_at version octets)

module _ (version : Version) (image : Image) (first sectors read : ℕ) (octets : List ℕ) (is : octets ≡ octets_at image first read)
    (some : read ≤ sectors) where
  pub port-read : (port : Port) (rest : List ℕ) → port_record_at version octets ≡ Ok (port, rest) → port_in version image first sectors
      ≡ Ok port
  port-read port rest found =
      ap (λ (o : Option Port). or_damaged o first)
      (in_all version image first sectors read octets is some (λ short. let both = sym found ∙ short in cc) ∙ ap port_of found)

  pub port-damaged : (fault : RecordFault) → (fault ≡ Short → ⊥) → port_record_at version octets ≡ Err fault
      → port_in version image first sectors
      ≡ Err (damaged first)
  port-damaged fault other fails =
      ap (λ (o : Option Port). or_damaged o first)
      (in_all version image first sectors read octets is some (λ short. other (let both = sym fails ∙ short in cc)) ∙ ap port_of fails)

-- no sector is read
pub none-read : (image : Image) (first : ℕ) → [] ≡ octets_at image first 0
unfolding octets_at
none-read image first = refl
