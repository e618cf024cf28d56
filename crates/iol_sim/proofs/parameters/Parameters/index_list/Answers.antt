use Rattle.std.proofs.Common.{◌≡◌, ◌<◌, false, [], ◌∷◌, ◌++◌, List, take, length, ap, sym, ◌∙◌, subst, arith}
use Rattle.std.specs.Prelude.{All}
use Rattle.std.specs.Map.{keys_of}
use Rattle.std.proofs.lemmas.List.{take_more_set, take_all, length-set}
use Rattle.iol_types.specs.Key.{is_reserved}
use Rattle.iol_types.specs.declared.key.Key.{Key}
use Rattle.iol_sim.proofs.TallyLemmas.{keys-one_more, free-keys}
use Rattle.iol_sim.proofs.parameters.Parameters.index_list.Goals as goal

pub loop-place-preserved : goal.loop-place-preserved
loop-place-preserved c =
    let loop = c.loop-place in
    let there : loop.place < length loop.keys = omega (arith, loop.invariant.long, c.loop-place-test.true, c.len-place-end.ensures.bound) in
    record {
      listed = take_more_set loop.keys loop.place c.at.result.0 there
          ∙ ap (λ (keys : List Key). keys ++ c.at.result.0 ∷ []) loop.invariant.listed
          ∙ sym (keys-one_more c.args.self.now loop.place (c.at.result.0, c.at.result.1.now) c.at.ensures.entry);
      long = length-set loop.keys loop.place c.at.result.0 ∙ loop.invariant.long;
    }

pub write_index_list-requires-clause-free : goal.write_index_list-requires-clause-free
write_index_list-requires-clause-free c =
    let loop = c.loop-place in
    let self = c.args.self.now in
    let end : c.len.result ≡ loop.place = omega (
      arith,
      c.loop-place-test.false,
      loop.auto.place-end,
      c.len-place-end.ensures.count,
      c.len.ensures.count,
    ) in
    let whole : take loop.place self ≡ self = take_all loop.place self (omega (arith, end, c.len.ensures.count)) in
    let keys : take c.len.result loop.keys ≡ keys_of self = ap (λ n. take n loop.keys) end ∙ loop.invariant.listed ∙ ap keys_of whole in
    subst (All (λ (key : Key). is_reserved key ≡ false)) (sym keys) (free-keys self c.len.ensures.parameters.each)
