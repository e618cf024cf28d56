use Rattle.std.proofs.Common.{◌≡◌, ℕ, false, List, get_or, drop, sym, ap, ◌∙◌, arith}
use Rattle.std.proofs.lemmas.Grind.{common_steps}
use Rattle.iol_types.specs.Key.{is_reserved}
use Rattle.iol_types.specs.declared.key.Key.{Key}
use Rattle.iol_transfer.specs.List.{kept_with}
use Rattle.iol_transfer.proofs.Readings.{read_after, read_after-none, read_after-entry, begins_with_key-entry, key_in, take-drop_all}
use Rattle.iol_transfer.proofs.ReadKeys.{reading_of-keys}
use Rattle.iol_transfer.proofs.reading.read_index_list.Goals as goal

pub loop-rest-init : goal.loop-rest-init
loop-rest-init c = record {
  reads = read_after-none c.args.octets.now ∙ ap (λ keys. read_after keys c.args.octets.now) (sym c.new-keys.ensures.items);
  met = λ met. met;
}

pub loop-rest-preserved : goal.loop-rest-preserved
loop-rest-preserved c =
    let rest = c.loop-rest.rest.now in
    let key = λ (index : ℕ). let key : Key = record { index = index; subindex = get_or rest 2 0 } in key in
    let free : is_reserved (key_in rest) ≡ false =
    ap (λ (index : ℕ). is_reserved (key index)) (sym c.from_be_bytes-index.ensures) ∙ sym c.is_reserved.ensures.reserved
    ∙ c.if-is_reserved.false in
    let kept : c.keep_key.new.keys.items ≡ kept_with c.loop-rest.keys.items (key_in rest) =
    c.in_ok-keep_key.ensures.kept ∙ ap (λ (index : ℕ). kept_with c.loop-rest.keys.items (key index)) c.from_be_bytes-index.ensures in
    record {
      reads =
          c.loop-rest.invariant.reads ∙ read_after-entry c.loop-rest.keys.items rest c.in-len3-up.len_at_least free
          ∙ ap (λ (keys : List Key). read_after keys (drop 3 rest)) (sym kept)
          ∙ ap (λ (octets : List ℕ). read_after c.keep_key.new.keys.items octets) (sym (take-drop_all 3 rest));
      met = λ _. c.loop-rest.invariant.met (begins_with_key-entry rest c.in-len3-up.len_at_least free);
    }

pub returns-then-index-eq0-clause-read : goal.returns-then-index-eq0-clause-read
returns-then-index-eq0-clause-read c = grind (arith, common_steps)

pub returns-then-index-eq0-clause-keys : goal.returns-then-index-eq0-clause-keys
returns-then-index-eq0-clause-keys c =
    reading_of-keys c.args.octets.now _ _ (λ i. omega (arith, c.type_inv.octets i)) (returns-then-index-eq0-clause-read c)

pub returns-clause-read : goal.returns-clause-read
returns-clause-read c = grind (arith, common_steps)

pub returns-clause-keys : goal.returns-clause-keys
returns-clause-keys c = reading_of-keys c.args.octets.now _ _ (λ i. omega (arith, c.type_inv.octets i)) (returns-clause-read c)
