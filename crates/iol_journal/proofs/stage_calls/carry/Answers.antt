use Rattle.std.proofs.Common.{◌≡◌, ℕ, List, [], ◌∷◌, length, refl, sym, ◌∙◌, ap, subst, arith}
use Rattle.iol_types.specs.State.{State}
use Rattle.iol_disk.specs.Calls.{Call, Makes}
use Rattle.iol_journal.specs.Batches.{body_for, call_of}
use Rattle.iol_journal.specs.BegunParts.{log_of, commands_owed, IsBegun}
use Rattle.iol_journal.specs.Checkpoints.{target, first_of}
use Rattle.iol_layout.specs.Standings.{standing_at}
use Rattle.iol_layout.specs.Meaning.{Standing}
use Rattle.iol_journal.proofs.BegunCalls.{IsFirst, front_is, first_is, same_call}
use Rattle.iol_journal.proofs.stage_calls.carry.Given
use Rattle.iol_journal.proofs.stage_calls.carry.Goals as goal

first : (g : Given.Over) (c : goal.After-place-2-1 g) (number : ℕ) (state : State)
    → (is : IsBegun (g.D.SectorDisk.disk c.args.disk.now) (standing_at c.args.place.now number state) c.args.begun.now)
    → IsFirst (g.D.SectorDisk.disk c.args.disk.now) (standing_at c.args.place.now number state) c.args.begun.now is c.args.phase
    c.in-Some.first.now
first g c number state is =
    let front = front_is c.args.begun.now.owed.items c.in-Some.first.now c.in-Some.ensures.item.3.0 c.in-Some.ensures.item.1 in
    first_is (g.D.SectorDisk.disk c.args.disk.now) (standing_at c.args.place.now number state) c.args.begun.now is c.args.phase
    c.in-Some.first.now front.0 c.requires.stage front.1

pub make-requires-clause-whole : goal.make-requires-clause-whole
make-requires-clause-whole g c =
    let begun = c.requires.begun in
    let o = first g c begun.0 begun.1 begun.2 in
    omega (arith, ap (λ (os : List ℕ). length os) o.encoded.octets, o.fit.whole, o.encoded.sectors)

pub make-requires-clause-short : goal.make-requires-clause-short
make-requires-clause-short g c =
    let begun = c.requires.begun in
    let o = first g c begun.0 begun.1 begun.2 in
    omega (arith, o.fit.short, o.encoded.sectors, o.encoded.span)

pub returns : goal.returns
returns g c number state is =
    let d = g.D.SectorDisk.disk in
    let s = standing_at c.args.place.now number state in
    let b = c.args.begun.now in
    let t = target s (log_of b) in
    let front = front_is b.owed.items c.in-Some.first.now c.in-Some.ensures.item.3.0 c.in-Some.ensures.item.1 in
    let o = first_is (d c.args.disk.now) s b is c.args.phase c.in-Some.first.now front.0 c.requires.stage front.1 in
    let body : c.in-Some.first.now.body.octets.items ≡ body_for t (first_of (commands_owed b.owed.items)) =
    o.encoded.octets ∙ ap (body_for t) (sym o.is_first) in
    let there : Standing = record {
      layout = c.renewed.result;
      area = c.other.result;
      epoch = s.epoch;
      used = b.used;
      number = number;
      state = state;
    } in
    subst (λ (call : Call). Makes (call ∷ []) (d c.args.disk.now) (d c.make.new.disk) c.make.result)
    (ap (λ (os : List ℕ). call_of there os c.args.phase) body
    ∙ same_call there t (body_for t (first_of (commands_owed b.owed.items))) c.args.phase c.renewed.ensures c.other.ensures refl)
    (c.make.ensures.makes number state)
