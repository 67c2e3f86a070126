use Rattle.std.proofs.Common.{◌≡◌, sym, ap, ◌∙◌, length, arith}
use Rattle.case_model.specs.CaseFaults.{first_below}
use Rattle.case_model.proofs.FirstFaults.{found_at, found_at-item, first_of-below, below_none, below_answer, below_silence}
use Rattle.case_model.proofs.first_faults.first_fault.Goals as goal

pub loop-i-init : goal.loop-i-init
loop-i-init g c row found = below_none (found_at row c.args.items.now)

pub returns-then-is_some : goal.returns-then-is_some
returns-then-is_some g c row found =
    let xs = c.args.items.now in
    let i = c.loop-i.i in
    let x = c.index-items-i.result in
    below_answer (found_at row xs) i (length xs) c.test-fault.result c.loop-i-test.true (c.loop-i.invariant row found)
    (found _ i c.test-fault.result c.test-fault.ensures ∙ sym (found_at-item row xs i x c.loop-i-test.true c.index-items-i.is))
    (sym c.is_some.ensures ∙ c.if-is_some.true)
    ∙ sym (first_of-below row xs)

pub loop-i-preserved : goal.loop-i-preserved
loop-i-preserved g c row found =
    let xs = c.args.items.now in
    let i = c.loop-i.i in
    let x = c.index-items-i.result in
    below_silence (found_at row xs) i c.test-fault.result (c.loop-i.invariant row found)
    (found _ i c.test-fault.result c.test-fault.ensures ∙ sym (found_at-item row xs i x c.loop-i-test.true c.index-items-i.is))
    (sym c.is_some.ensures ∙ c.if-is_some.false)

pub returns : goal.returns
returns g c row found =
    let all : c.loop-i.i ≡ length c.args.items.now = omega arith in
    sym (c.loop-i.invariant row found) ∙ ap (first_below (found_at row c.args.items.now)) all ∙ sym (first_of-below row c.args.items.now)
