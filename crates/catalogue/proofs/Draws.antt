-- Draws, one after the other.
use Rattle.std.proofs.Common.{◌≡◌, refl, ap, ◌∙◌, ℕ, suc, ◌+◌, ◌%◌, pos, arith}
use Rattle.catalogue.specs.Quotients.{quotient}
use Rattle.catalogue.specs.Samples.{next_number, drawn_from, number_after, draw, p_value_of, named_by}

number_more : (seed k : ℕ) → next_number (number_after seed k) ≡ number_after seed (suc k)
unfolding number_after
number_more seed k = refl

pub number_none : (seed : ℕ) → number_after seed 0 ≡ seed
unfolding number_after
number_none seed = refl

-- the number after one draw more
pub number_next : (seed k j x y : ℕ) → k + 1 ≡ j → x ≡ number_after seed k → y ≡ next_number x → y ≡ number_after seed j
number_next seed k j x y e h g = let f : suc k ≡ j = omega (arith, e) in g ∙ ap next_number h ∙ number_more seed k ∙ ap (number_after seed) f

-- what it gives
pub drawn_next : (seed k x y d : ℕ) → x ≡ number_after seed k → y ≡ next_number x → d ≡ drawn_from y → d ≡ draw seed k
drawn_next seed k x y d h g e = e ∙ ap drawn_from (number_next seed k (suc k) x y (omega arith) h g)

-- the p-value that a draw gives
pub p_value_next : (seed k x y d : ℕ) → x ≡ number_after seed k → y ≡ next_number x → d ≡ drawn_from y
    → quotient (pos (d % 1000000)) 100000000 ≡ p_value_of seed k
p_value_next seed k x y d h g e = ap (λ n. quotient (pos (n % 1000000)) 100000000) (drawn_next seed k x y d h g e)

-- the end that a draw names
pub end_next : (n i seed k x y r : ℕ) → x ≡ number_after seed k → y ≡ next_number x → r ≡ named_by n i (drawn_from y)
    → r ≡ named_by n i (draw seed k)
end_next n i seed k x y r h g e = e ∙ ap (named_by n i) (drawn_next seed k x y (drawn_from y) h g refl)
