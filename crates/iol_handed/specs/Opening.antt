-- A disk that is being opened.
use Rattle.std.specs.Prelude.{◌≡◌, ◌<◌, ◌++◌, ◌∷◌, ℕ, List, [], Result, Ok, Err}
use Rattle.iol_handed.specs.declared.held.HeldSector.{HeldSector}
use Rattle.iol_handed.specs.declared.opening.HandFault.{HandFault}
use Rattle.iol_handed.specs.declared.opening.HandFault.TheVariants.{Misfit, Memory}
use Rattle.iol_handed.specs.declared.opening.OpeningWant.{OpeningWant}
use Rattle.iol_handed.specs.declared.opening.OpeningWant.TheVariants.{Sync, Read, Nothing}

-- an opening as contracts see it: the size of its disk, the sectors that were handed in, and what it wants (own)
pub record OpeningView : Type 0 where
  pub sectors : ℕ
  pub held : List HeldSector
  pub want : OpeningWant

-- a sector was handed in with these octets, and nothing is wanted any more (own)
pub record HasTaken (sector : ℕ) (octets : List ℕ) (old new : OpeningView) : Type 0 where
  pub one : HeldSector
  pub sector_is : one.sector ≡ sector
  pub octets_are : one.octets.value ≡ octets
  pub new_is : new ≡ record old { held = old.held ++ one ∷ []; want = Nothing }

-- octets are handed in: they are taken for the wanted sector, or memory ran out; or no sector is wanted (own)
abbrev pub HandsIn : OpeningWant → List ℕ → OpeningView → OpeningView → Result Unit HandFault → Type 0
HandsIn (Read sector) octets old new (Ok done) = HasTaken sector octets old new
HandsIn (Read sector) octets old new (Err Memory) = new ≡ old
HandsIn (Read sector) octets old new (Err Misfit) = ⊥
HandsIn want octets old new (Ok done) = ⊥
HandsIn want octets old new (Err Memory) = ⊥
HandsIn want octets old new (Err Misfit) = new ≡ old

-- the opening once the wanted sync was made (own)
abbrev pub synced : OpeningWant → OpeningView → OpeningView
synced Sync opening = record opening { want = Nothing }
synced want opening = opening

-- a wanted sector is one that the disk has (own)
abbrev pub WantsBelow : ℕ → OpeningWant → Type 0
WantsBelow sectors (Read sector) = sector < sectors
WantsBelow sectors want = Unit {0}
