use Rattle.std.proofs.Common.{◌≡◌, ◌++◌, ℕ, [], length, map, take, drop, Some, refl, sym, ◌∙◌, ap, subst, arith}
use Rattle.std.proofs.Math.Seq.{take-length}
use Rattle.std.proofs.Math.ListN.{drop_of_length-le}
use Rattle.std.proofs.lemmas.List.{append-nil}
use Rattle.std.specs.Option.{option_copied}
use Rattle.iol_types.specs.State.{State}
use Rattle.iol_layout.specs.AreaPlans.{write_of}
use Rattle.iol_layout.specs.AreaWrites.{port_writes}
use Rattle.iol_layout.specs.Layout.{port_at}
use Rattle.iol_layout.proofs.AreaRecords.{ArePorts}
use Rattle.iol_layout.proofs.RecordSectors.{numbered, is-there, record-pushed, port-more, spelled-at, record-short}
use Rattle.iol_layout.proofs.RecordSectors.{are-records}
use Rattle.iol_layout.proofs.records.record_sectors.Goals as goal

pub loop-place-init : goal.loop-place-init
loop-place-init c = record {
  are = tt;
  so_far = rw c.in_ok-records.ensures.items refl;
}

pub loop-place-preserved : goal.loop-place-preserved
loop-place-preserved c =
    let place = c.loop-place.place in
    let state = c.args.state.now in
    let found : option_copied c.port.result ≡ Some c.unwrap-port.result.now = ap option_copied c.unwrap-port.ensures in
    let number = rw c.unwrap.ensures at c.new.ensures.number in
    let there = numbered state c.unwrap.result place c.unwrap-port.result.now number (sym c.port.ensures ∙ found) in
    let octets = c.deref.ensures.value ∙ rw c.version-version.ensures at c.in_ok-octets.ensures.octets in
    record {
      are = port-more c.args.layout.version state place c.unwrap-port.result.now there
          (c.in_ok-octets.ensures.in_range, spelled-at c.args.layout.version state place c.unwrap-port.result.now c.requires.spelled there)
          c.loop-place.invariant.are;
      so_far = record-pushed c.args.layout c.args.area state place c.port-first.result c.unwrap-port.result.now c.deref.result.now _ _ _
          there
          (c.port-first.ensures.at ∙ ap (port_at c.args.layout c.args.area) c.from-in-loop-place.ensures) octets c.in_ok-push_record.ensures
          c.loop-place.invariant.so_far;
    }

pub unwrap-port-requires : goal.unwrap-port-requires
unwrap-port-requires c =
    let number = rw c.unwrap.ensures at c.new.ensures.number in
    is-there c.port.result c.args.state.now c.unwrap.result c.loop-place.place number
    (omega (arith, c.requires.count, c.ports-place-end.ensures.value)) c.port.ensures

pub padded_record-requires : goal.padded_record-requires
padded_record-requires c =
    let state = c.args.state.now in
    let found : option_copied c.port.result ≡ Some c.unwrap-port.result.now = ap option_copied c.unwrap-port.ensures in
    let number = rw c.unwrap.ensures at c.new.ensures.number in
    let there = numbered state c.unwrap.result c.loop-place.place c.unwrap-port.result.now number (sym c.port.ensures ∙ found) in
    rw c.version-version.ensures
    (spelled-at c.args.layout.version state c.loop-place.place c.unwrap-port.result.now c.requires.spelled there)

pub push_record-requires-clause-small : goal.push_record-requires-clause-small
push_record-requires-clause-small c =
    record-short _ _ c.deref.result.now (c.deref.ensures.value ∙ c.in_ok-octets.ensures.octets) c.in_ok-octets.ensures.in_range

pub returns-clause-records : goal.returns-clause-records
returns-clause-records c =
    let done : length c.args.state.now ≡ c.loop-place.place =
    omega (arith, c.requires.count, c.ports-place-end.ensures.value, c.loop-place-test.false, c.loop-place.auto.place-end) in
    let none : drop c.loop-place.place c.args.state.now ≡ [] = drop_of_length-le c.args.state.now (omega (arith, done)) in
    sym (append-nil (map write_of c.loop-place.records.items))
    ∙ ap (λ (ports : State). map write_of c.loop-place.records.items ++ port_writes c.args.layout c.args.area c.loop-place.place ports)
    (sym none)
    ∙ c.loop-place.invariant.so_far

pub returns-clause-sound : goal.returns-clause-sound
returns-clause-sound c =
    let done : c.loop-place.place ≡ length c.args.state.now =
    omega (arith, c.requires.count, c.ports-place-end.ensures.value, c.loop-place-test.false, c.loop-place.auto.place-end) in
    let all : take c.loop-place.place c.args.state.now ≡ c.args.state.now = ap (λ (n : ℕ). take n c.args.state.now) done
    ∙ take-length c.args.state.now in
    are-records c.args.layout c.args.area c.args.state.now
    (omega (arith, c.port_sectors-sectors.ensures.room, c.port_sectors-sectors.ensures.value)) c.requires.count
    (subst (ArePorts c.args.layout.version) all c.loop-place.invariant.are)
