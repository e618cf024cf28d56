use Rattle.std.proofs.Common.{◌≡◌, ◌++◌, ◌+◌, ℕ, [], List, length, filter_map, true, arith}
use Rattle.std.specs.List.{list_all}
use Rattle.iol_wire.specs.Numeral.{hexadecimal}
use Rattle.iol_wire.specs.Words.{words}
use Rattle.iol_wire.proofs.LineLemmas.{is_octet, octets_done}
use Rattle.iol_wire.proofs.reading.octets_within.Goals as goal

pub returns : goal.returns
returns g c =
    let kept = c.loop-word.invariant in
    let none : words c.loop-word.left.now ≡ [] = c.in_default.ensures.words in
    let written : List (List ℕ) = words c.args.rest.now in
    let all : list_all is_octet written ≡ true = rw none at kept.all in
    let octets : filter_map (hexadecimal 2) written ≡ c.loop-word.octets.items ++ [] = rw none at kept.octets in
    let count : length written ≡ length c.loop-word.octets.items + length {A = List ℕ} [] = rw none at kept.count in
    octets_done g.row.MOST written c.loop-word.octets.items all octets (omega (arith, count))
