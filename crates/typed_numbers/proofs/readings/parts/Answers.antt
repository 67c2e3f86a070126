use Rattle.std.proofs.Common.{◌≤◌, arith, subst, sym}
use Rattle.typed_numbers.specs.Rules.{IsReadAs, simplest, shortest, rounded_up}
use Rattle.typed_numbers.proofs.Steps.{zero_read, one_read, simplest_is, none_is_simple, shortest_is, none_is_decimal, rounded_up_is}
use Rattle.typed_numbers.proofs.readings.parts.Goals as goal

pub returns-then-bits-eq0 : goal.returns-then-bits-eq0
returns-then-bits-eq0 c = subst (λ b. IsReadAs b 0 1) (sym c.if-bits-eq0.true) zero_read

pub returns-then-bits-eq-ONE : goal.returns-then-bits-eq-ONE
returns-then-bits-eq-ONE c = subst (λ b. IsReadAs b 1 1) (sym c.if-bits-eq-ONE.true) one_read

pub returns-in-Some : goal.returns-in-Some
returns-in-Some c =
    let x = c.of-x.result in
    let fine : 55 ≤ x.places = x.valid.fine in
    simplest (simplest_is c.args.bits x.places x.low x.middle x.high x.ends (omega arith) (omega arith) c.of-x.ensures c.in-Some.f.0 c.in-Some.f.1 c.in-Some.ensures.found)

pub returns-in-Some-shortest : goal.returns-in-Some-shortest
returns-in-Some-shortest c =
    let x = c.of-x.result in
    let fine : 55 ≤ x.places = x.valid.fine in
    shortest (none_is_simple c.args.bits x.places x.low x.middle x.high x.ends (omega arith) (omega arith) c.of-x.ensures (c.simplest.ensures.none c.in_default.is))
    (shortest_is c.args.bits x.places x.low x.middle x.high x.ends (omega arith) (omega arith) c.of-x.ensures
    c.in-Some-shortest.f.0 c.in-Some-shortest.f.1 c.in-Some-shortest.ensures.found)

pub returns : goal.returns
returns c =
    let x = c.of-x.result in
    let fine : 55 ≤ x.places = x.valid.fine in
    rounded_up (none_is_simple c.args.bits x.places x.low x.middle x.high x.ends (omega arith) (omega arith) c.of-x.ensures (c.simplest.ensures.none c.in_default.is))
    (none_is_decimal c.args.bits x.places x.low x.middle x.high x.ends (omega arith) (omega arith) c.of-x.ensures (c.shortest.ensures.none c.in_default-shortest.is))
    (rounded_up_is c.args.bits x.places x.low x.middle x.high x.ends (omega arith) (omega arith) c.of-x.ensures c.rounded_up.result c.rounded_up.ensures)
