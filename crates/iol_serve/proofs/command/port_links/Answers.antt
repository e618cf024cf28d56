use Rattle.std.proofs.Common.{◌≡◌, ◌+◌, ◌<◌, ℕ, length, Option, Some, None, vec_len, rules, arith}
use Rattle.std.specs.Prelude.{◌↔◌, IsSome}
use Rattle.std.proofs.lemmas.Bool.{false≢true}
use Rattle.std.specs.Option.{option_to_list}
use Rattle.iol_serve.proofs.command.port_links.Goals as goal
use Rattle.iol_serve.proofs.command.port_links.Goals.{in-Some+in_ok-link_at+in_ok-push, in_default}

one_fewer : {A : Type 0} (popped : Option A) (before after place ports : ℕ) → before + place ≡ ports → place < ports
    → (IsSome popped ↔ (0 < before)) → after + length (option_to_list popped) ≡ before → after + (place + 1) ≡ ports
one_fewer (Some link) before after place ports all within is_some left = omega (arith, all, left)
one_fewer None before after place ports all within is_some left = absurd (false≢true (is_some.1 (omega (arith, all, within))))

-- one link is made for each simulated link that is taken
pub loop-place-preserved : goal.loop-place-preserved
loop-place-preserved g c = record {
  links = elim c.match-pop.branch [
    | in-Some+in_ok-link_at+in_ok-push w ↦ search rules
    | in_default w ↦ search rules
  ];
  simulated =
      one_fewer c.pop.result (vec_len c.loop-place.simulated) (vec_len c.pop.new.self) c.loop-place.place c.args.ports
      c.loop-place.invariant.simulated c.loop-place-test.true c.pop.ensures.variant c.pop.ensures.len;
}
