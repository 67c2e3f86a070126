use Rattle.std.proofs.Common.{refl, sym, subst, inr, Some, None, IfErr}
use Rattle.std.proofs.lemmas.Result.{err_from_is_err_and}
use Rattle.sequential.specs.TrialView.{trial}
use Rattle.sequential.specs.Choices.{IsLegalChoice}
use Rattle.sequential.specs.DecisionRuns.{IsStepFault}
use Rattle.sequential.specs.declared.priority.Priority.TheVariants.{Ratio}
use Rattle.sequential.proofs.ChoiceFacts.{ratio_choice}
use Rattle.sequential.proofs.TrialFacts.{next_trial, may_legal}
use Rattle.sequential.proofs.trial.Trial.reject_least_ratio.Goals as goal

pub returns-in-None-clause-step : goal.returns-in-None-clause-step
returns-in-None-clause-step c =
    let t = trial c.args.self.now in
    record {
      choice = λ k T. ratio_choice k t T None
          (subst (IsLegalChoice t) c.in-None.is c.in_ok-least_legal_ratio.ensures.choice) c.in_ok-least_legal_ratio.ensures.defined;
      same = refl;
      defined = c.in_ok-least_legal_ratio.ensures.defined;
    }

pub returns-in_ok-remove-in-Some-clause-step : goal.returns-in_ok-remove-in-Some-clause-step
returns-in_ok-remove-in-Some-clause-step c =
    let t = trial c.args.self.now in
    let x = c.in-Some.candidate in
    let L = subst (IsLegalChoice t) c.in-Some.is c.in_ok-least_legal_ratio.ensures.choice in
    record {
      step = record {
        choice = λ k T. ratio_choice k t T (Some x) L c.in_ok-least_legal_ratio.ensures.defined;
        legal = L.legal;
        weight = c.present_weight-weight.ensures;
        next = c.in_ok-remove-in-Some.ensures.next;
        defined = c.in_ok-least_legal_ratio.ensures.defined;
      };
      least = L.least;
    }

pub returns-in_err-remove-in-Some-clause-wide : goal.returns-in_err-remove-in-Some-clause-wide
returns-in_err-remove-in-Some-clause-wide c =
    let t = trial c.args.self.now in
    let told = err_from_is_err_and c.from_residual-in_err-remove-in-Some.result c.from_residual-in_err-remove-in-Some.ensures.1 in
    subst (λ r. IfErr r (IsStepFault Ratio t)) (sym told.1)
    (subst (IsStepFault Ratio t) (sym told.2)
    (inr (record {
      hypothesis = c.in-Some.candidate.hypothesis;
      choice = λ k T. ratio_choice k t T (Some c.in-Some.candidate)
          (subst (IsLegalChoice t) c.in-Some.is c.in_ok-least_legal_ratio.ensures.choice) c.in_ok-least_legal_ratio.ensures.defined;
      defined = c.in_ok-least_legal_ratio.ensures.defined;
      refused = c.in_err-remove-in-Some.ensures.wide;
    })))

pub returns-in_ok-remove-in-Some-clause-trial : goal.returns-in_ok-remove-in-Some-clause-trial
returns-in_ok-remove-in-Some-clause-trial c = λ k T.
    let t = trial c.args.self.now in
    let j = c.in-Some.candidate.hypothesis in
    let L = subst (IsLegalChoice t) c.in-Some.is c.in_ok-least_legal_ratio.ensures.choice in
    next_trial k t T j (trial c.remove.new.self) (may_legal k t T j L.legal) c.in_ok-remove-in-Some.ensures.next
