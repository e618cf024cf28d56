use Rattle.std.proofs.Common.{◌≡◌, ℕ, List, ◌++◌, length, take, ◌∙◌, refl, ap, arith}
use Rattle.std.proofs.Math.Seq.{take-length}
use Rattle.std.proofs.lemmas.List.{length-map}
use Rattle.iol_types.specs.Command.{value_of}
use Rattle.iol_record.proofs.RecordLaws.{spells-command}
use Rattle.iol_layout.specs.Body.{records_of, values}
use Rattle.iol_layout.proofs.Bodies.{encodes-none, encodes-more, encodes-all, records-more, values-more}
use Rattle.iol_layout.proofs.body.records.Goals as goal

pub loop-command-init : goal.loop-command-init
loop-command-init c = rw c.new-octets.ensures.items (record { spelled = refl; encodes = encodes-none })

pub encode_command-requires : goal.encode_command-requires
encode_command-requires c = rw c.newest.ensures (spells-command (value_of c.command-item.result))

pub loop-command-preserved : goal.loop-command-preserved
loop-command-preserved c =
    let octets = c.loop-command.octets.items in
    let front = c.in_ok-record.record.items in
    let is = rw c.newest.ensures at c.in_ok-record.ensures in
    let items : c.extend_from_slice.new.self.items ≡ octets ++ front = c.in_ok-extend_from_slice.ensures.items
    ∙ ap (λ (more : List ℕ). octets ++ more) c.as_slice.ensures.value in
    rw (
      items,
      values-more c.args.commands.now c.loop-command.command-index c.command-item.result c.loop-command-test.true
          c.command-item.is,
    )
    (record {
      spelled = records-more octets front (values (take c.loop-command.command-index c.args.commands.now)) _
          c.loop-command.invariant.spelled is;
      encodes = encodes-more octets front (values (take c.loop-command.command-index c.args.commands.now)) _
          c.loop-command.invariant.encodes is;
    })

pub returns-clause-read : goal.returns-clause-read
returns-clause-read c =
    let index : c.loop-command.command-index ≡ length c.args.commands.now = omega arith in
    let all : values (take c.loop-command.command-index c.args.commands.now) ≡ values c.args.commands.now =
    ap (λ (n : ℕ). values (take n c.args.commands.now)) index ∙ ap values (take-length c.args.commands.now) in
    let encodes = rw all at c.loop-command.invariant.encodes in
    rw (← length-map c.args.commands.now value_of) (encodes-all c.loop-command.octets.items (values c.args.commands.now) encodes)

pub returns-clause-records : goal.returns-clause-records
returns-clause-records c =
    let index : c.loop-command.command-index ≡ length c.args.commands.now = omega arith in
    c.loop-command.invariant.spelled
    ∙ ap records_of (ap (λ (n : ℕ). values (take n c.args.commands.now)) index ∙ ap values (take-length c.args.commands.now))
