-- The level of a stage doesn't fall as the weight grows, and in a table it is that of the last step that the weight reaches.
use Rattle.std.proofs.Common.{◌≡◌, ◌⊎◌, inl, inr, refl, sym, ap, ◌∙◌, ℕ, zero, suc, arith, true, false, List, [], ◌∷◌, Option}
use Rattle.std.proofs.Common.{Some, None}
use Rattle.std.specs.Bool.{then_some}
use Rattle.std.specs.List.{Contains}
use Rattle.std.specs.Option.{option_or, option_map_or}
use Rattle.field_core.specs.Number.{Number}
use Rattle.field_core.specs.Arithmetic.{number_zero}
use Rattle.field_core.specs.Order.{◌≤ε◌, at_most}
use Rattle.field_core.specs.Laws.AtMostLaws.{at_most_refl, at_most_trans, at_most_multiply, at_most_multiply_left}
use Rattle.field_core.proofs.Live.{true_or_false, true_not_false}
use Rattle.fraction.specs.View.{number_of}
use Rattle.case_model.specs.declared.spend.Spend.{Spend}
use Rattle.case_model.specs.declared.spend.Spend.TheVariants.{Shares, Table}
use Rattle.case_model.specs.declared.spend_step.SpendStep.{SpendStep}
use Rattle.case_model.specs.Spends.{stage_number, last_step, table_level, spend_level, IsRising, IsRisingSpend, IsLastStep}

-- ---- tables

-- the level after some steps, where the earlier ones gave `low`
reached : List SpendStep → ℕ → Number → Number → Number
reached ss t u low = option_map_or (λ s. stage_number s.levels t) (last_step ss u) low

reached_in : (s : SpendStep) (ss : List SpendStep) (t : ℕ) (u low : Number) → at_most (number_of s.from) u ≡ true
    → reached (s ∷ ss) t u low ≡ reached ss t u (stage_number s.levels t)
unfolding last_step reached
reached_in s ss t u low h = go (last_step ss u)
  where
    go : (o : Option SpendStep) → option_map_or (λ x. stage_number x.levels t) (option_or o (then_some (at_most (number_of s.from) u) s))
        low ≡ option_map_or (λ x. stage_number x.levels t) o (stage_number s.levels t)
    go None = rw h
    go (Some x) = refl

reached_out : (s : SpendStep) (ss : List SpendStep) (t : ℕ) (u low : Number) → at_most (number_of s.from) u ≡ false
    → reached (s ∷ ss) t u low ≡ reached ss t u low
unfolding last_step reached
reached_out s ss t u low h = go (last_step ss u)
  where
    go : (o : Option SpendStep) → option_map_or (λ x. stage_number x.levels t) (option_or o (then_some (at_most (number_of s.from) u) s))
        low ≡ option_map_or (λ x. stage_number x.levels t) o low
    go None = rw h
    go (Some x) = refl

-- a lower start
rising_from : (t : ℕ) (a b : Number) (ss : List SpendStep) → a ≤ε b → IsRising t b ss → IsRising t a ss
rising_from t a b [] h r = tt
rising_from t a b (s ∷ ss) h r = (at_most_trans a b (stage_number s.levels t) h r.0, r.1)

rising_next : (t : ℕ) (a : Number) (s : SpendStep) (ss : List SpendStep) → IsRising t a (s ∷ ss) → IsRising t a ss
rising_next t a s ss r = rising_from t a (stage_number s.levels t) ss r.0 r.1

reached_up : (ss : List SpendStep) (t : ℕ) (u v a b : Number) → u ≤ε v → a ≤ε b → IsRising t b ss → reached ss t u a ≤ε reached ss t v b
unfolding last_step reached
reached_up [] t u v a b h k r = k
reached_up (s ∷ ss) t u v a b h k r = elim (true_or_false (at_most (number_of s.from) u)) [
  | inl x ↦ in_order (reached_in s ss t u a x) (reached_in s ss t v b (at_most_trans (number_of s.from) u v x h))
      (reached_up ss t u v l l h (at_most_refl l) r.1)
  | inr x ↦ elim (true_or_false (at_most (number_of s.from) v)) [
    | inl y ↦ in_order (reached_out s ss t u a x) (reached_in s ss t v b y) (reached_up ss t u v a l h (at_most_trans a b l k r.0) r.1)
    | inr y ↦ in_order (reached_out s ss t u a x) (reached_out s ss t v b y) (reached_up ss t u v a b h k (rising_next t b s ss r))
  ]
]
  where
    l : Number
    l = stage_number s.levels t

    in_order : {x y z w : Number} → x ≡ y → z ≡ w → y ≤ε w → x ≤ε z
    in_order e f q = rw (e, f) q

-- ---- levels

-- the level of a spend doesn't fall as the weight grows
pub spend_level_up : (s : Spend) (alpha : Number) (t : ℕ) (u v : Number) → IsRisingSpend s t → number_zero ≤ε alpha → u ≤ε v
    → spend_level s alpha t u ≤ε spend_level s alpha t v
unfolding spend_level reached
spend_level_up (Shares fs) alpha t u v r n h = at_most_multiply _ _ alpha n (at_most_multiply_left u v (stage_number fs t) r h)
spend_level_up (Table ss) alpha t u v r n h = reached_up ss t u v number_zero number_zero h (at_most_refl number_zero) r

-- ---- the step that counts

-- a step that counts still counts with one more before it
last_in : (s : SpendStep) (ss : List SpendStep) (u : Number) (x : SpendStep) → last_step ss u ≡ Some x → last_step (s ∷ ss) u ≡ Some x
unfolding last_step
last_in s ss u x e = ap (λ o. option_or o (then_some (at_most (number_of s.from) u) s)) e

last_here : (s : SpendStep) (ss : List SpendStep) (u : Number) → last_step ss u ≡ None
    → last_step (s ∷ ss) u ≡ then_some (at_most (number_of s.from) u) s
unfolding last_step
last_here s ss u e = ap (λ o. option_or o (then_some (at_most (number_of s.from) u) s)) e

last_none : (u : Number) → last_step [] u ≡ None
unfolding last_step
last_none u = refl

some_or_none : {A : Type 0} (o : Option A) → ((x : A) × (o ≡ Some x)) ⊎ (o ≡ None)
some_or_none None = inr refl
some_or_none (Some x) = inl (x, refl)

-- where no step counts, the weight reaches none
none_reached : (ss : List SpendStep) (u : Number) → last_step ss u ≡ None → (x : SpendStep) → Contains ss x → ¬ (number_of x.from ≤ε u)
none_reached [] u h x (k, q, e) = absurd (omega (arith, q))
none_reached (s ∷ ss) u h x c = elim (some_or_none (last_step ss u)) [
  | inl y ↦ absurd (some_not_none y.0 (sym (last_in s ss u y.0 y.1) ∙ h))
  | inr none ↦ elim (true_or_false (at_most (number_of s.from) u)) [
    | inl t ↦ absurd (some_not_none s (sym (last_here s ss u none ∙ ap (λ b. then_some b s) t) ∙ h))
    | inr f ↦ at_place f (none_reached ss u none x) c
  ]
]
  where
    some_not_none : (y : SpendStep) → Path (Option SpendStep) (Some y) None → ⊥
    some_not_none y e = cc

    at_place : at_most (number_of s.from) u ≡ false → (Contains ss x → ¬ (number_of x.from ≤ε u)) → Contains (s ∷ ss) x
        → ¬ (number_of x.from ≤ε u)
    at_place f rest (zero, q, e) = λ t. true_not_false (sym t ∙ ap (λ y. at_most (number_of y.from) u) (sym e) ∙ f)
    at_place f rest (suc k, q, e) = rest (k, omega (arith, q), e)

pub last_reached : (ss : List SpendStep) (u : Number) (s : SpendStep) → last_step ss u ≡ Some s → IsLastStep ss u s
last_reached [] u s h = absurd (none_some (sym (last_none u) ∙ h))
  where
    none_some : Path (Option SpendStep) None (Some s) → ⊥
    none_some e = cc
last_reached (x ∷ xs) u s h = elim (some_or_none (last_step xs u)) [
  | inl y ↦
      let L = last_reached xs u s (y.1 ∙ sym (last_in x xs u y.0 y.1) ∙ h) in
      record { before = x ∷ L.before; behind = L.behind; steps = ap (λ ys. x ∷ ys) L.steps; reached = L.reached; above = L.above }
  | inr none ↦ elim (true_or_false (at_most (number_of x.from) u)) [
    | inl t ↦ here none t
    | inr f ↦ absurd (none_some (sym (last_here x xs u none ∙ ap (λ b. then_some b x) f) ∙ h))
  ]
]
  where
    none_some : Path (Option SpendStep) None (Some s) → ⊥
    none_some e = cc

    inside : Path (Option SpendStep) (Some x) (Some s) → x ≡ s
    inside e = cc

    here : last_step xs u ≡ None → at_most (number_of x.from) u ≡ true → IsLastStep (x ∷ xs) u s
    here none t =
        let e : x ≡ s = inside (sym (last_here x xs u none ∙ ap (λ b. then_some b x) t) ∙ h) in
        record {
          before = [];
          behind = xs;
          steps = ap (λ y. y ∷ xs) e;
          reached = ap (λ y. at_most (number_of y.from) u) (sym e)
              ∙ t;
          above = none_reached xs u none;
        }

-- ---- two steps

module _ (a b : SpendStep) (t : ℕ) (u : Number) where
  not_reached : (x : SpendStep) → ¬ (number_of x.from ≤ε u) → at_most (number_of x.from) u ≡ false
  not_reached x n = elim (true_or_false (at_most (number_of x.from) u)) [ inl h ↦ absurd (n h) | inr f ↦ f ]

  second_last : number_of b.from ≤ε u → last_step (b ∷ []) u ≡ Some b
  second_last h = last_here b [] u (last_none u) ∙ ap (λ x. then_some x b) h

  second_out : ¬ (number_of b.from ≤ε u) → last_step (b ∷ []) u ≡ None
  second_out n = last_here b [] u (last_none u) ∙ ap (λ x. then_some x b) (not_reached b n)

  level_of : (o : Option SpendStep) → last_step (a ∷ b ∷ []) u ≡ o
      → table_level (a ∷ b ∷ []) t u ≡ option_map_or (λ s. stage_number s.levels t) o number_zero
  level_of o e = ap (λ x. option_map_or (λ s. stage_number s.levels t) x number_zero) e

  pub at_second : number_of b.from ≤ε u → table_level (a ∷ b ∷ []) t u ≡ stage_number b.levels t
  at_second h = level_of (Some b) (last_in a (b ∷ []) u b (second_last h))

  pub at_first : number_of a.from ≤ε u → ¬ (number_of b.from ≤ε u) → table_level (a ∷ b ∷ []) t u ≡ stage_number a.levels t
  at_first h n = level_of (Some a) (last_here a (b ∷ []) u (second_out n) ∙ ap (λ x. then_some x a) h)

  pub below_both : ¬ (number_of a.from ≤ε u) → ¬ (number_of b.from ≤ε u) → table_level (a ∷ b ∷ []) t u ≡ number_zero
  below_both m n = level_of None (last_here a (b ∷ []) u (second_out n) ∙ ap (λ x. then_some x a) (not_reached a m))
