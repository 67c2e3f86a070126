use Rattle.std.proofs.Common.{◌≡◌, ℕ, List, [], ◌∷◌, map, sym, ap, ◌∙◌, ◌++◌, arith, false, true, subst}
use Rattle.fraction.specs.Tests.{is_zero}
use Rattle.field_core.specs.View.{terms}
use Rattle.case_model.proofs.Same.{terms_at-map}
use Rattle.edge_expression.proofs.PrintedTerms.{IsPrinted, nothing_printed, next_zero, next_some, begun_some, end_none, end_some}
use Rattle.edge_expression.proofs.printing.print_entry.Goals as goal
use Rattle.field_core.proofs.Results.{on_ok, on_err}

pub loop-power-init : goal.loop-power-init
loop-power-init c = nothing_printed c.args.out.now (map terms c.args.entry.now)

pub loop-power-preserved-then-is_zero : goal.loop-power-preserved-then-is_zero
loop-power-preserved-then-is_zero c =
    next_zero c.args.out.now c.loop-power.out c.loop-power.is_first c.loop-power.power (map terms c.args.entry.now) c.loop-power.invariant
    c.loop-power-test.true (ap is_zero (sym (ap terms c.coefficient-coefficient.ensures ∙ sym (terms_at-map c.args.entry.now c.loop-power.power)))
    ∙ sym c.is_zero.ensures ∙ c.if-is_zero.true)

pub loop-power-preserved : goal.loop-power-preserved
loop-power-preserved c =
    next_some c.args.out.now c.loop-power.out c.put_joined.new.out c.loop-power.is_first c.loop-power.power (terms c.coefficient-coefficient.result)
    (map terms c.args.entry.now) c.loop-power.invariant c.loop-power-test.true
    (ap terms c.coefficient-coefficient.ensures ∙ sym (terms_at-map c.args.entry.now c.loop-power.power)) (sym c.is_zero.ensures ∙ c.if-is_zero.false)
    c.in_ok-put_joined.ensures.put

pub returns-in_err-put_joined-clause-begun : goal.returns-in_err-put_joined-clause-begun
returns-in_err-put_joined-clause-begun c =
    on_err c.from_residual.result _
    (begun_some c.args.out.now c.loop-power.out c.put_joined.new.out c.loop-power.is_first c.loop-power.power (terms c.coefficient-coefficient.result)
    (map terms c.args.entry.now) c.loop-power.invariant c.loop-power-test.true
    (ap terms c.coefficient-coefficient.ensures ∙ sym (terms_at-map c.args.entry.now c.loop-power.power)) (sym c.is_zero.ensures ∙ c.if-is_zero.false)
    c.in_err-put_joined.ensures.begun)

pub returns-then-is_first-clause-printed : goal.returns-then-is_first-clause-printed
returns-then-is_first-clause-printed c =
    let e = map terms c.args.entry.now in
    let last : c.loop-power.power ≡ 5 = omega arith in
    let i = end_none c.args.out.now c.loop-power.out e
    (subst (λ n. IsPrinted c.args.out.now c.loop-power.out true n e) last
    (subst (λ f. IsPrinted c.args.out.now c.loop-power.out f c.loop-power.power e) c.if-is_first.true c.loop-power.invariant)) in
    on_ok c.push.result _ _ c.push.ensures.pushed
    (λ p. p ∙ ap (λ (x : List ℕ). x ++ 48 ∷ []) i.0 ∙ ap (λ (x : List ℕ). c.args.out.now ++ x) (sym i.1))

pub returns-clause-printed : goal.returns-clause-printed
returns-clause-printed c =
    let e = map terms c.args.entry.now in
    let last : c.loop-power.power ≡ 5 = omega arith in
    end_some c.args.out.now c.loop-power.out e
    (subst (λ n. IsPrinted c.args.out.now c.loop-power.out false n e) last
    (subst (λ f. IsPrinted c.args.out.now c.loop-power.out f c.loop-power.power e) c.if-is_first.false c.loop-power.invariant))
