use Rattle.std.proofs.Common.{◌≡◌, ◌+◌, ◌*◌, ◌-◌, ◌++◌, List, ℕ, length, take, replicate, ◌∙◌, ap, sym, arith, length-append}
use Rattle.std.proofs.lemmas.List.{length-map}
use Rattle.iol_types.specs.Command.{value_of}
use Rattle.iol_disk.specs.declared.disk.TheConstants.{SECTOR_OCTETS}
use Rattle.iol_layout.specs.Body.{records_of, head_octets, body_octets, values}
use Rattle.iol_layout.specs.Octets.{sectors_reached}
use Rattle.iol_layout.specs.declared.body.TheConstants.{BODY_HEAD_OCTETS}
use Rattle.iol_layout.proofs.Bodies.{length-body}
use Rattle.iol_layout.proofs.Paddings.{padded-front}
use Rattle.iol_layout.proofs.body.EncodedBatch.of.Goals as goal

-- the number of commands and of octets of records that the head says
counted : (c : goal.After-drop-records-2) → length (values c.args.commands.now) ≡ length c.args.commands.now
counted c = length-map c.args.commands.now value_of

sized : (c : goal.After-drop-records-2) → length (records_of (values c.args.commands.now)) ≡ c.len-2.result
sized c = omega (arith, c.len-2.ensures, c.in_ok-records.records.ok, ap (λ (os : List ℕ). length os) c.in_ok-records.ensures.records)

-- what was pushed is the head and the records
pushed : (c : goal.After-drop-records-2)
    → c.extend_from_slice-2.new.self.items
    ≡ head_octets c.args.epoch c.args.first (length (values c.args.commands.now)) (length (records_of (values c.args.commands.now)))
    ++ records_of (values c.args.commands.now)
pushed c =
    let head = c.head_octets-head.result in
    let records = c.in_ok-records.records.items in
    let count = length (values c.args.commands.now) in
    let front : c.extend_from_slice.new.self.items ≡ head =
    c.in_ok-extend_from_slice.ensures.items ∙ ap (λ (body : List ℕ). body ++ head) c.in_ok-octets.ensures.items in
    let both : c.extend_from_slice-2.new.self.items ≡ head ++ records =
    c.in_ok-extend_from_slice-2.ensures.items ∙ ap (λ (body : List ℕ). body ++ c.as_slice.result.now) front
    ∙ ap (λ (more : List ℕ). head ++ more) c.as_slice.ensures.value in
    let counts : length c.args.commands.now ≡ count = sym (counted c) in
    let sizes : c.len.result ≡ length (records_of (values c.args.commands.now)) = omega (arith, sized c, c.len.ensures, c.len-2.ensures) in
    let told : head ≡ head_octets c.args.epoch c.args.first count (length (records_of (values c.args.commands.now))) =
    c.head_octets-head.ensures ∙ ap (λ (n : ℕ). head_octets c.args.epoch c.args.first n c.len.result) counts
    ∙ ap (λ (n : ℕ). head_octets c.args.epoch c.args.first count n) sizes in
    both ∙ ap (λ (h : List ℕ). h ++ records) told
    ∙ ap (λ (os : List ℕ). head_octets c.args.epoch c.args.first count (length (records_of (values c.args.commands.now))) ++ os)
    c.in_ok-records.ensures.records

-- the octets that were pushed, with zeros after them
spelled : (c : goal.After-drop-records-2) → c.resize.new.self.items ≡ body_octets c.args.epoch c.args.first (values c.args.commands.now)
unfolding body_octets
spelled c =
    let front = head_octets c.args.epoch c.args.first (length (values c.args.commands.now))
    (length (records_of (values c.args.commands.now))) ++ records_of (values c.args.commands.now) in
    let octets = SECTOR_OCTETS * c.div_ceil-sectors.result in
    let size : length front ≡ BODY_HEAD_OCTETS + c.len-2.result =
    length-append (head_octets c.args.epoch c.args.first (length (values c.args.commands.now))
    (length (records_of (values c.args.commands.now)))) (records_of (values c.args.commands.now))
    ∙ ap (λ (n : ℕ). BODY_HEAD_OCTETS + n) (sized c) in
    let reach : octets ≡ SECTOR_OCTETS * sectors_reached (length front) = omega (arith, c.div_ceil-sectors.ensures, size) in
    let long : c.extend_from_slice-2.new.self.len ≡ length front =
    omega (arith, ap (λ (os : List ℕ). length os) (pushed c), c.extend_from_slice-2.new.self.ok) in
    c.in_ok-resize.ensures.items
    ∙ ap (λ (body : List ℕ). take octets body ++ replicate {A = ℕ} (octets - c.extend_from_slice-2.new.self.len) 0) (pushed c)
    ∙ padded-front front octets c.extend_from_slice-2.new.self.len reach long

pub returns-clause-octets : goal.returns-clause-octets
returns-clause-octets c = spelled c

-- the number of sectors that were reached
reached : (c : goal.After-drop-records-2) → length (body_octets c.args.epoch c.args.first (values c.args.commands.now))
    ≡ SECTOR_OCTETS * c.div_ceil-sectors.result
reached c = omega (arith, length-body c.args.epoch c.args.first (values c.args.commands.now), c.div_ceil-sectors.ensures, sized c)

pub returns-clause-sectors : goal.returns-clause-sectors
returns-clause-sectors c = omega (arith, reached c, ap (λ (os : List ℕ). length os) (spelled c))

pub returns-clause-read : goal.returns-clause-read
returns-clause-read c = rw (counted c, ← c.in_ok-records.ensures.records) c.in_ok-records.ensures.read
