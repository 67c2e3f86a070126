use Rattle.std.proofs.Common.{◌≡◌, sym, ap, ◌∙◌, arith}
use Rattle.case_model.specs.CaseFaults.{first_below, row_sum}
use Rattle.case_model.proofs.FirstFaults.{below_none, below_answer, below_silence}
use Rattle.case_model.proofs.row_sums.first_row.Goals as goal

pub loop-i-init : goal.loop-i-init
loop-i-init c = below_none (row_sum c.args.count c.args.c c.args.table.now)

pub returns-then-is_some : goal.returns-then-is_some
returns-then-is_some c =
    below_answer (row_sum c.args.count c.args.c c.args.table.now) c.loop-i.i c.args.count c.row_sum-fault.result c.loop-i-test.true
    c.loop-i.invariant c.row_sum-fault.ensures (sym c.is_some.ensures ∙ c.if-is_some.true)

pub loop-i-preserved : goal.loop-i-preserved
loop-i-preserved c =
    below_silence (row_sum c.args.count c.args.c c.args.table.now) c.loop-i.i c.row_sum-fault.result c.loop-i.invariant c.row_sum-fault.ensures
    (sym c.is_some.ensures ∙ c.if-is_some.false)

pub returns : goal.returns
returns c =
    let all : c.loop-i.i ≡ c.args.count = omega arith in
    sym c.loop-i.invariant ∙ ap (first_below (row_sum c.args.count c.args.c c.args.table.now)) all
