use Rattle.std.proofs.Common.{◌≡◌, sym, ap, subst, ◌∙◌, ℕ, ◌<◌, ◌↔◌, Bool, List, length, get_or, IsTrue, arith}
use Rattle.std.proofs.lemmas.List.{get_or_default}
use Rattle.field_core.specs.Number.{Number}
use Rattle.field_core.specs.View.{terms}
use Rattle.field_core.specs.declared.place.Op.TheVariants.{Add}
use Rattle.field_core.specs.declared.ratio.Ratio.{Ratio}
use Rattle.fraction.specs.View.{number_of}
use Rattle.case_model.specs.Sums.{ratio_at, zero_ratio, number_at}
use Rattle.case_model.specs.ClosedTest.{Passes}
use Rattle.case_model.proofs.Wide.{some_from}
use Rattle.simes_test.proofs.set_test.member_passes.Goals as goal

-- the test of a p-value that is read from a list
read_passes : (ps : List Ratio) (j : ℕ) (x : Ratio) (u level : Number) (r : Bool) → j < length ps → x ≡ get_or ps j x → IsTrue r
    ↔ Passes (number_of x) u level → IsTrue r ↔ Passes (number_at ps j) u level
unfolding ratio_at
read_passes ps j x u level r b at test =
    let same : number_of x ≡ number_at ps j = ap number_of (at ∙ get_or_default ps j x zero_ratio b) in
    (λ t. subst (λ v. Passes v u level) same (test.0 t), λ h. test.1 (subst (λ v. Passes v u level) (sym same) h))

pub returns-in-Ok-clause-tested : goal.returns-in-Ok-clause-tested
returns-in-Ok-clause-tested c = record {
  sum = terms c.in-Ok.sum;
  is_sum = some_from Add (terms c.in-Ok.sum) _ c.in-Ok.ensures;
  answer = read_passes c.args.p_values.now c.args.j c.index-p_values-j.result (number_of c.in-Ok.sum) (number_of c.args.alpha.now) c.passes.result
      (omega (arith, c.requires.count, c.requires.j)) c.index-p_values-j.is c.passes.ensures;
}
