use Rattle.std.proofs.Common.{◌≡◌, rules, refl, ap, ◌∙◌, ℤ, pos, negsuc, neg_ℤ, ◌<ℤ◌, unsigned_abs, arith}
use Rattle.std.proofs.lemmas.Int.{ints}
use Rattle.fraction.specs.Written.{opposite}
use Rattle.fraction.proofs.fraction.Fraction.abs.Goals as goal

turned : (n : ℤ) → n <ℤ pos 0 → neg_ℤ n ≡ pos (unsigned_abs n)
turned (pos n) low = absurd (omega (arith, ints))
turned (negsuc n) low = refl

pub returns-then-num-lt0 : goal.returns-then-num-lt0
unfolding opposite
returns-then-num-lt0 c =
    let low : c.num.result <ℤ pos 0 = search rules in
    rw (← c.self.view_is) (c.opposite.ensures ∙ ap (λ n. record { num = n; den = c.self.inside.ratio.den }) (turned _ (rw c.num.ensures at low)))
