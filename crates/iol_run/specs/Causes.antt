-- Why a schedule was not run.
use Rattle.std.specs.Prelude.{◌≡◌, ℕ, length, Ok, Err}
use Rattle.iol_types.specs.State.{State}
use Rattle.iol_disk.specs.Disk.{Disk, Shows}
use Rattle.iol_journal.specs.Meaning.{Standing, standing_in}
use Rattle.iol_journal.specs.Reading.{SaysWhy}
use Rattle.iol_journal.specs.Finding.{HasChosen, MakesRecovery}
use Rattle.iol_journal.specs.RecoverCause.TheVariants.{Memory}
use Rattle.iol_journal.specs.declared.recovery.RecoverFault.{RecoverFault}
use Rattle.iol_run.specs.declared.schedule.RunFault.{RunFault}
use Rattle.iol_run.specs.declared.schedule.RunFault.TheVariants as fault

module _ {D : Type 0} (disk : D → Disk) (old : D) where
  -- a fault is one of the recovery of this disk. It is the first thing that is wrong with what an honest disk shows, or that of
  -- the sync or the read that failed, or out of memory. Memory is allocated only after a sound geometry and an area in use
  -- (own)
  pub record IsRecoveryFault (why : RecoverFault D) : Type 0 where
    pub says : Shows (disk old) (λ image. SaysWhy (standing_in (disk old).sectors image) why.cause)
    pub makes : MakesRecovery {T = State} (disk old) (disk why.disk) (Err why.cause)
    pub memory : why.cause ≡ Memory → Shows (disk old) (HasChosen (disk old).sectors)

  -- if the disk is honest, it shows a journal, of which this holds (own)
  abbrev pub ShowsJournal : (Standing → Type 0) → Type 0
  ShowsJournal P = Shows (disk old) (λ image. (journal : Standing) × (standing_in (disk old).sectors image ≡ Ok journal) × P journal)

  -- why a schedule was not run with this number of links: the disk is not recovered, or the state that an honest disk shows has
  -- another number of ports, or out of memory if neither is so (own)
  abbrev pub FailsFor : ℕ → RunFault D → Type 0
  FailsFor links (fault.Recover why) = IsRecoveryFault why
  FailsFor links (fault.Ports left) = ShowsJournal (λ journal. links ≡ length journal.state → ⊥)
  FailsFor links (fault.Memory left) = ShowsJournal (λ journal. links ≡ length journal.state)
