use Rattle.iol_layout.specs.Standings.{standing_at}
use Rattle.iol_journal.proofs.Resting.{at_rest_after, means-after}
use Rattle.iol_journal.proofs.RunLaws.{no_image_added}
use Rattle.iol_journal.proofs.RunSteps.{run_of_found}
use Rattle.iol_journal.proofs.journal.Journal.recover.Goals as goal

pub returns-in-Ok-clause-at_rest : goal.returns-in-Ok-clause-at_rest
returns-in-Ok-clause-at_rest g c = λ kept.
    let found = c.in-Ok.found in
    let read = c.in-Ok.ensures in
    rw (c.at_rest.ensures.disk, c.at_rest.ensures.standing, c.at_rest.ensures.idle)
    (at_rest_after (g.D.SectorDisk.disk c.args.disk) (g.D.SectorDisk.disk c.find.new.disk)
    (standing_at found.place found.number found.state) found.place.idle
    read.any_moment.sectors read.any_moment.honest read.finds read.idle read.settled kept)

pub returns-in-Ok-clause-means : goal.returns-in-Ok-clause-means
returns-in-Ok-clause-means g c = λ number state h each.
    let found = c.in-Ok.found in
    let read = c.in-Ok.ensures in
    rw (c.at_rest.ensures.disk, c.at_rest.ensures.standing, c.at_rest.ensures.idle)
    (means-after (g.D.SectorDisk.disk c.args.disk) (g.D.SectorDisk.disk c.find.new.disk) (standing_at found.place found.number found.state)
    found.place.idle number state
    read.any_moment.sectors read.any_moment.honest read.finds read.idle read.settled h each)

pub returns-in-Ok-clause-run : goal.returns-in-Ok-clause-run
returns-in-Ok-clause-run g c r =
    rw c.at_rest.ensures.disk
    (no_image_added (g.D.SectorDisk.disk c.args.disk) (g.D.SectorDisk.disk c.find.new.disk) r c.in-Ok.ensures.any_moment)

pub returns-in-Err-clause-run : goal.returns-in-Err-clause-run
returns-in-Err-clause-run g c r =
    no_image_added (g.D.SectorDisk.disk c.args.disk) (g.D.SectorDisk.disk c.find.new.disk) r c.in-Err.ensures.any_moment

pub returns-in-Ok-clause-begins : goal.returns-in-Ok-clause-begins
returns-in-Ok-clause-begins g c kept =
    run_of_found g.D.SectorDisk.disk c.at_rest.result (returns-in-Ok-clause-at_rest g c kept) c.at_rest.ensures.begun
