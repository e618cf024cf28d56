-- The standing of a journal with these parts.
use Rattle.iol_layout.specs.Meaning.{Standing}
use Rattle.iol_layout.specs.Standings.{standing_at}
use Rattle.iol_journal.specs.declared.parts.Parts.{Parts}

-- the standing of a journal with these parts (own)
abbrev pub stands : Parts → Standing
stands parts = standing_at parts.place parts.number parts.state
