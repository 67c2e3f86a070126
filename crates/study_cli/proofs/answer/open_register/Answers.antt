use Rattle.std.proofs.Common.{ap, ◌∙◌, Err}
use Rattle.graph_io.specs.Causes.{Rose}
use Rattle.case_model.specs.CaseView.{content}
use Rattle.refusals.specs.WideRefusal.{wide_refusal}
use Rattle.refusals.specs.declared.wide.When.TheVariants.{Look as AfterLook}
use Rattle.study_cli.proofs.Answering.{bad_look_reported, wide_look_reported, rose_by}
use Rattle.study_cli.proofs.answer.open_register.Goals as goal

pub returns-in_ok-record_refusal-in-Err-BadLook-clause-ends : goal.returns-in_ok-record_refusal-in-Err-BadLook-clause-ends
returns-in_ok-record_refusal-in-Err-BadLook-clause-ends g c =
    let e = c.in-Err-BadLook in (
      bad_look_reported (content c.args.case.now) (g.K.Keeper.looks c.args.keeper.now)
          (Rose (g.K.Keeper.faults c.args.keeper.now) (g.K.Keeper.faults c.open.new.keeper)) e.field-0 e.n _ _ e.field-0-is e.ensures.fault
          c.in_ok-record_refusal-in-Err-BadLook.ensures,
      e.ensures.steady (λ f. cc (f, e.field-0-is)),
    )

pub returns-in_ok-wide_refusal-in-Err-Wide-clause-ends : goal.returns-in_ok-wide_refusal-in-Err-Wide-clause-ends
returns-in_ok-wide_refusal-in-Err-Wide-clause-ends g c =
    let e = c.in-Err-Wide in (
      wide_look_reported (content c.args.case.now) (g.K.Keeper.looks c.args.keeper.now)
          (Rose (g.K.Keeper.faults c.args.keeper.now) (g.K.Keeper.faults c.open.new.keeper)) e.field-0 e.n e.wide _ e.field-0-is e.ensures.fault
          (c.in_ok-wide_refusal-in-Err-Wide.ensures ∙ ap (λ ns. wide_refusal ns (AfterLook e.n) e.wide) c.names.ensures),
      e.ensures.steady (λ f. cc (f, e.field-0-is)),
    )

pub returns-in-Err-Fault-clause-ends : goal.returns-in-Err-Fault-clause-ends
returns-in-Err-Fault-clause-ends g c =
    let e = c.in-Err-Fault in
    let rose = rose_by (content c.args.case.now) (g.K.Keeper.looks c.args.keeper.now)
    (Rose (g.K.Keeper.faults c.args.keeper.now) (g.K.Keeper.faults c.open.new.keeper)) e.field-0 e.field-0-is e.ensures.fault in
    (rose.0, (rose.1, e.ensures.fault_asked (ap Err e.field-0-is)))
