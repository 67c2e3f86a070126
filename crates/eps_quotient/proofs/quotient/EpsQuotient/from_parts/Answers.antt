use Rattle.std.proofs.Common.{◌≡◌, ◌<◌, ◌≤◌, ◌∙◌, sym, ap, arith, lit≤, map, length, get_or, refl, Some}
use Rattle.std.proofs.lemmas.List.{length-map}
use Rattle.std.proofs.lemmas.Result.{err_from_is_err_and}
use Rattle.field_core.specs.declared.place.Op.TheVariants.{Add}
use Rattle.field_core.specs.Kind.{or_wide}
use Rattle.field_core.specs.View.{terms}
use Rattle.eps_quotient.specs.Polynomials.{sum_from, written_polynomial}
use Rattle.eps_quotient.specs.Quotients.{written_sum}
use Rattle.eps_quotient.specs.View.{quotient_parts}
use Rattle.eps_quotient.proofs.Constants.{polynomial_constant}
use Rattle.eps_quotient.proofs.TermLaws.{sum_end, sum_next, sum_stays, sum_stops, five_value, all_ratios, kept, refused}
use Rattle.eps_quotient.proofs.quotient.EpsQuotient.from_parts.Goals as goal
use Rattle.field_core.proofs.Wholes.{is_zero_true}

pub loop-power-init : goal.loop-power-init
loop-power-init c = ap (λ s. sum_from 0 s (map terms c.args.parts.now)) c.zero-sum.ensures

pub loop-power-preserved : goal.loop-power-preserved
loop-power-preserved c =
    let sum = quotient_parts c.loop-power.sum in
    let xs = c.args.parts.now in
    let room : c.loop-power.power < length xs = omega arith in
    sym (sum_next sum (quotient_parts c.in_ok-sum.sum) c.loop-power.power xs c.index-parts-power.result room
    (ap (written_sum sum) (sym c.term.ensures) ∙ kept _ _ c.in_ok-sum.ensures))
    ∙ c.loop-power.invariant

pub loop-power-preserved-then-is_zero : goal.loop-power-preserved-then-is_zero
loop-power-preserved-then-is_zero c =
    let sum = quotient_parts c.loop-power.sum in
    let xs = c.args.parts.now in
    let room : c.loop-power.power < length xs = omega arith in
    let none = is_zero_true _ (sym c.is_zero.ensures ∙ c.if-is_zero.true) in
    sym (sum_next sum sum c.loop-power.power xs c.index-parts-power.result room
    (sum_stays sum c.loop-power.power _ (omega arith) c.loop-power.sum.stored (get_or xs c.loop-power.power c.index-parts-power.result).valid none))
    ∙ c.loop-power.invariant

pub returns-in_err-sum-clause-written : goal.returns-in_err-sum-clause-written
returns-in_err-sum-clause-written c =
    let sum = quotient_parts c.loop-power.sum in
    let xs = c.args.parts.now in
    let room : c.loop-power.power < length xs = omega arith in
    let none = refused c.in_err-sum.field-0.0 _ c.in_err-sum.ensures in
    let stops = sum_stops sum c.loop-power.power xs c.index-parts-power.result room (ap (written_sum sum) (sym c.term.ensures) ∙ none) in
    let p = err_from_is_err_and c.from_residual.result c.from_residual.ensures.1 in
    rw (p.1, p.2) (c.in_err-sum.ensures ∙ ap (or_wide Add) (none ∙ sym stops ∙ c.loop-power.invariant))

found : (c : goal.After-loop-power) → written_polynomial (map terms c.args.parts.now) ≡ Some (quotient_parts c.loop-power.sum)
found c =
    let xs = c.args.parts.now in
    let all : length (map terms xs) ≤ c.loop-power.power = rw length-map (omega arith) in
    sym c.loop-power.invariant ∙ sum_end (quotient_parts c.loop-power.sum) c.loop-power.power (map terms xs) all

pub returns-clause-written : goal.returns-clause-written
returns-clause-written c = rw (found c) refl

pub returns-clause-value : goal.returns-clause-value
returns-clause-value c = five_value c.args.parts.now (quotient_parts c.loop-power.sum) c.type_inv.parts (found c)

pub returns-clause-constant : goal.returns-clause-constant
returns-clause-constant c =
    let xs = c.args.parts.now in
    polynomial_constant (map terms xs) (quotient_parts c.loop-power.sum) (rw (length-map, c.type_inv.parts) (lit≤ tt)) (all_ratios xs) (found c)
