-- The uploads that examples use.
use Rattle.std.specs.Prelude.{ℕ}
use Rattle.iol_transfer.specs.Asked.{Asks}
use Rattle.iol_transfer.specs.Machine.{Machine}

-- for worked examples: an upload from the device 43981 of vendor 500 that asks for this, after `busy` Device busy in a row
-- (own)
abbrev pub example_upload : Asks → ℕ → Machine
example_upload asks busy = record { vendor = 500; device = 43981; asks = asks; busy = busy }
