use Rattle.std.proofs.Common.{◌≡◌, ℕ, List, ◌++◌, Vec, take, sym, ap, ◌∙◌, arith}
use Rattle.std.specs.List.{concat}
use Rattle.std.proofs.lemmas.List.{take_all}
use Rattle.std.specs.declared.alloc.Global.{Global}
use Rattle.iol_types.specs.Parts.{parts_of}
use Rattle.iol_types.proofs.PartLemmas.{concat-parts_of}
use Rattle.iol_record.proofs.Spellings.{written-one_more, no_more}
use Rattle.iol_record.proofs.encode.push_entries.Goals as goal
use Rattle.iol_record.proofs.encode.push_entries.Goals.{in-Some+in_ok-extend_from_slice, in_default}

pub loop-place-preserved : goal.loop-place-preserved
loop-place-preserved c =
    elim c.match-part.branch [
      | in-Some+in_ok-extend_from_slice w ↦
          written-one_more (parts_of c.args.set.now.entries) c.loop-place.place w.in-Some.part.now c.args.octets.now.items
          c.loop-place.octets.items c.match-part.octets.items
          (sym w.in-Some.ensures.part) c.loop-place.invariant (ap (λ (octets : Vec ℕ Global). octets.items) w.octets-is
          ∙ w.in_ok-extend_from_slice.ensures.items)
      | in_default w ↦ absurd
          (no_more (parts_of c.args.set.now.entries) c.loop-place.place (sym w.in_default.ensures.part)
          (omega (arith, c.loop-place-test.true, c.parts-place-end.ensures)))
    ]

pub returns : goal.returns
returns c =
    let parts = parts_of c.args.set.now.entries in
    let all : take c.loop-place.place parts ≡ parts =
    take_all c.loop-place.place parts (omega (arith, c.loop-place-test.false, c.parts-place-end.ensures)) in
    c.loop-place.invariant ∙ ap (λ (texts : List (List ℕ)). c.args.octets.now.items ++ concat texts) all
    ∙ ap (λ (behind : List ℕ). c.args.octets.now.items ++ behind) (concat-parts_of c.args.set.now.entries)
