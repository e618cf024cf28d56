use Rattle.std.proofs.Common.{◌≡◌, ◌<◌, ◌^◌, drop}
use Rattle.iol_wire.specs.Numeral.{numeral, numeral_after}
use Rattle.iol_wire.proofs.numeral.numeral.Given as goal

abbrev pub invariant-loop-octet : goal.invariant-loop-octet
invariant-loop-octet l = record {
  same : numeral_after l.radix l.value (drop l.octet-index l.digits) ≡ numeral l.radix l.digits;
  below : l.value < l.radix ^ l.octet-index;
  fits : l.value < 2 ^ 64;
}
