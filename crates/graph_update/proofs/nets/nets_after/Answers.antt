use Rattle.std.proofs.Common.{rules, ◌≡◌, sym, refl, Err}
use Rattle.case_model.specs.CaseView.{content}
use Rattle.entangled.specs.CaseNetView.{case_state}
use Rattle.graph_update.specs.Updates.{of_opening}
use Rattle.graph_update.proofs.Runs.{opening_fault, reached_first, reached_next, undefined_next, next_live}
use Rattle.graph_update.proofs.nets.nets_after.Goals as goal

pub returns-in_err-nets-clause-fault : goal.returns-in_err-nets-clause-fault
returns-in_err-nets-clause-fault c =
    let e : c.from_residual.result ≡ Err (of_opening c.in_err-nets.field-0.0) = search rules in
    rw e (opening_fault (content c.args.case.now) c.args.removed.now c.in_err-nets.field-0.0 c.in_err-nets.ensures.opened)

pub loop-i-init : goal.loop-i-init
loop-i-init c = reached_first (content c.args.case.now) c.args.removed.now (case_state c.in_ok-nets.nets) c.in_ok-nets.ensures.opened

pub remove-requires : goal.remove-requires
remove-requires c = next_live (content c.args.case.now) c.args.removed.now c.loop-i.i _ (case_state c.loop-i.nets) c.args.case.now.valid c.requires
    c.loop-i-test.true refl c.loop-i.invariant

pub returns-in-Err-clause-fault : goal.returns-in-Err-clause-fault
returns-in-Err-clause-fault c = undefined_next (content c.args.case.now) c.args.removed.now c.loop-i.i _ (case_state c.loop-i.nets) c.in-Err.wide
    c.loop-i-test.true refl c.loop-i.invariant (sym c.in-Err.ensures.value)

pub loop-i-preserved : goal.loop-i-preserved
loop-i-preserved c = reached_next (content c.args.case.now) c.args.removed.now c.loop-i.i _ (case_state c.loop-i.nets) (case_state c.remove.new.self)
    c.loop-i-test.true refl c.loop-i.invariant (sym c.in_default.ensures.value)
