-- Headers, written and read, and those of an area that may be in use.
use Rattle.std.proofs.Common.{◌≡◌, ◌≤◌, ◌<◌, ℕ, ◌+◌, ◌^◌, true, Option, Some, None, unwrap_or, refl, arith}
use Rattle.std.proofs.lemmas.Bool.Decides.{nat_tests}
use Rattle.std.proofs.lemmas.Nat.{from_be_bytes-to_be_bytes_8}
use Rattle.std.specs.Int.{w8, w64}
use Rattle.iol_record.specs.Record.{newest}
use Rattle.iol_record.specs.declared.version.Version.{Version}
use Rattle.iol_record.specs.declared.version.Version.TheVariants.{One, Two}
use Rattle.iol_layout.specs.Header.{header_of, header_octets, version_named, epochs_ahead, is_sound_in}
use Rattle.iol_layout.specs.Octets.{number_at, padded}
use Rattle.iol_layout.specs.declared.header.TheConstants.{LAST_NUMBER}

named-octets : (version : Version) (epoch base : ℕ) → version_named (number_at w8 16 (header_octets version epoch base)) ≡ Some version
unfolding padded
named-octets One epoch base = refl
named-octets Two epoch base = refl

-- a header is read as it is written
pub header_of-octets : (version : Version) (epoch base : ℕ) → epoch < 2 ^ 64 → base < 2 ^ 64
    → header_of (header_octets version epoch base) ≡ record { epoch = epoch; base = base; version = Some version }
unfolding header_of padded
header_of-octets version epoch base small short =
    let e : number_at w64 0 (header_octets version epoch base) ≡ epoch = omega (arith, from_be_bytes-to_be_bytes_8 epoch small) in
    let b : number_at w64 8 (header_octets version epoch base) ≡ base = omega (arith, from_be_bytes-to_be_bytes_8 base short) in
    λ i. record { epoch = e i; base = b i; version = named-octets version epoch base i }

-- the version of an area in use is named
pub sound-named : (version : Option Version) (epoch base : ℕ) → is_sound_in version epoch base ≡ true
    → version ≡ Some (unwrap_or version newest)
sound-named None epoch base is = absurd cc
sound-named (Some version) epoch base is = refl

-- the bounds of its numbers
pub record AreBounded (version : Version) (epoch base : ℕ) : Type 0 where
  pub first : 1 ≤ epoch
  pub ahead : epoch ≤ base + epochs_ahead version
  pub last : base ≤ LAST_NUMBER

pub sound-bounds : (version : Version) (epoch base : ℕ) → is_sound_in (Some version) epoch base ≡ true → AreBounded version epoch base
sound-bounds version epoch base is = record {
  first = grind (arith, nat_tests, is);
  ahead = grind (arith, nat_tests, is);
  last = grind (arith, nat_tests, is);
}

pub bounds-sound : (version : Version) (epoch base : ℕ) → AreBounded version epoch base → is_sound_in (Some version) epoch base ≡ true
bounds-sound version epoch base are = grind (arith, nat_tests, are.first, are.ahead, are.last)

pub few-ahead : (version : Version) → epochs_ahead version ≤ 2
few-ahead One = omega arith
few-ahead Two = omega arith
