-- The test of a p-value says whether it passes.
use Rattle.std.proofs.Common.{◌≡◌, inl, inr, refl, sym, ap₂, ◌∙◌, Bool, true, false, not, ◌&&◌}
use Rattle.field_core.specs.Number.{Number}
use Rattle.field_core.specs.Arithmetic.{number_zero, ◌*ε◌}
use Rattle.field_core.specs.Order.{IsPositive, at_most}
use Rattle.field_core.specs.Laws.AtMostLaws.{positive_or_not, positive-not_at_most}
use Rattle.field_core.proofs.Live.{true_or_false, true_not_false}
use Rattle.case_model.specs.ClosedTest.{Passes}
use Rattle.case_model.specs.TextbookRules.{does_pass}

first_true : (a b : Bool) → (not a && b) ≡ true → a ≡ false
first_true true b h = absurd (cc)
first_true false b h = refl

second_true : (a b : Bool) → (not a && b) ≡ true → b ≡ true
second_true true b h = absurd (cc)
second_true false b h = h

pub pass_tested : (x u level : Number) → Passes x u level → does_pass x u level ≡ true
unfolding does_pass
pass_tested x u level h = elim (true_or_false (at_most u number_zero)) [
  | inl t ↦ absurd (positive-not_at_most u h.positive t)
  | inr f ↦ ap₂ (λ a b. not a && b) f h.small
]

pub tested_pass : (x u level : Number) → does_pass x u level ≡ true → Passes x u level
unfolding does_pass
tested_pass x u level h = record { positive = positive; small = second_true (at_most u number_zero) (at_most x (u *ε level)) h }
  where
    positive : IsPositive u
    positive = elim (positive_or_not u)
        [ inl q ↦ q | inr l ↦ absurd (true_not_false (sym l ∙ first_true (at_most u number_zero) (at_most x (u *ε level)) h)) ]
