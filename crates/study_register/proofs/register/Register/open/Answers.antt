use Rattle.std.proofs.Common.{◌≡◌, ap, ◌∙◌, subst₂, ◌++◌}
use Rattle.graph_io.specs.Causes.{Rose}
use Rattle.case_model.specs.CaseView.{content}
use Rattle.staged_levels.specs.StudyView.{study}
use Rattle.study_register.specs.Looking.{Follows}
use Rattle.study_register.specs.RegisterFaults.{IsFirstStop, IsRegisterFault}
use Rattle.study_register.specs.RegisterView.{of_loading}
use Rattle.study_register.proofs.RegisterSteps.{handed_on, opened_defined, stopped_fault, loading_fault}
use Rattle.study_register.proofs.register.Register.open.Goals as goal

pub returns-in_err-load-clause-fault : goal.returns-in_err-load-clause-fault
returns-in_err-load-clause-fault g c =
    let k = content c.args.case.now in
    let before = g.K.Keeper.faults c.args.keeper.now in
    let now = g.K.Keeper.faults c.load.new.self in
    let opened = opened_defined k (study c.in_ok-study.study) c.in_ok-study.ensures.study c.in_ok-study.ensures.start in
    handed_on _ (IsRegisterFault k (g.K.Keeper.looks c.args.keeper.now) (Rose before now))
    (of_loading c.in_err-load.field-0.0) c.from_residual-in_err-load.ensures.1
    (loading_fault k (g.K.Keeper.looks c.args.keeper.now) before now c.in_err-load.field-0.0 opened c.in_err-load.ensures.cause.cause)

pub returns-in_err-follow-clause-fault : goal.returns-in_err-follow-clause-fault
returns-in_err-follow-clause-fault g c =
    let k = content c.args.case.now in
    let kept = g.K.Keeper.looks c.args.keeper.now in
    let rose = Rose (g.K.Keeper.faults c.args.keeper.now) (g.K.Keeper.faults c.load.new.self) in
    let L = c.in_ok-load.ensures.loaded in
    let looks : c.as_slice.result.now ≡ L.0 = c.as_slice.ensures ∙ L.1 ∙ ap (λ xs. xs ++ L.0) c.new-looks.ensures in
    let opened = opened_defined k (study c.in_ok-study.study) c.in_ok-study.ensures.study c.in_ok-study.ensures.start in
    let first = subst₂ (λ s ls. IsFirstStop k s 1 ls c.in_err-follow.field-0.0) c.in_ok-study.ensures.start looks
    (c.in_err-follow.ensures.fault k c.in_ok-study.ensures.study) in
    handed_on _ (IsRegisterFault k kept rose) c.in_err-follow.field-0.0 c.from_residual-in_err-follow.ensures.1
    (stopped_fault k kept rose L.0 L.2 c.in_err-follow.field-0.0 (record { opened = opened; first = first }))

pub returns-clause-taken : goal.returns-clause-taken
returns-clause-taken g c =
    let k = content c.args.case.now in
    let L = c.in_ok-load.ensures.loaded in
    let looks : c.as_slice.result.now ≡ L.0 = c.as_slice.ensures ∙ L.1 ∙ ap (λ xs. xs ++ L.0) c.new-looks.ensures in (
      L.0,
      record {
        opened = opened_defined k (study c.in_ok-study.study) c.in_ok-study.ensures.study c.in_ok-study.ensures.start;
        follows = subst₂ (λ s ls. Follows k s ls (study c.follow.new.current).looks) c.in_ok-study.ensures.start looks
            (c.in_ok-follow.ensures.followed k c.in_ok-study.ensures.study);
      },
      L.2,
    )
