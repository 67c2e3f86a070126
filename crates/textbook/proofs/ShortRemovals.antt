-- The written removal of a hypothesis from a graph of short fractions is defined.
use Rattle.std.proofs.Common.{◌≡◌, ◌≢◌, inl, inr, refl, sym, ap, ◌∙◌, ℕ, zero, suc, ◌<◌, ◌^◌, ◌==◌, ◌||◌, not}
use Rattle.std.proofs.Common.{arith, Bool, true, false, if◌then◌else◌, List, [], ◌∷◌, ◌++◌, Option, Some, None, Result, Ok}
use Rattle.std.proofs.lemmas.Bool.Decides.{nat_tests}
use Rattle.field_core.specs.Kind.{Parts, is_zero}
use Rattle.field_core.specs.declared.place.Op.{Op}
use Rattle.field_core.specs.declared.place.Op.TheVariants.{Add, Sub, Mul, Div}
use Rattle.field_core.specs.declared.place.Place.{Place}
use Rattle.field_core.specs.declared.place.Place.TheVariants.{Weight, Loss, Edge}
use Rattle.field_core.specs.Steps.{at, each_below, joined_below, ◌>>=◌}
use Rattle.field_core.specs.Laws.Prefixes.{each_suc, joined_suc}
use Rattle.field_core.proofs.Live.{true_or_false}
use Rattle.fraction.specs.Plain.{plain, pair_of}
use Rattle.fraction.specs.Within.{IsWithin, limit_of}
use Rattle.fraction.proofs.ShortTerms.{parts_within}
use Rattle.removal.specs.StoredGraph.{StoredGraph, size, is_live, weight, edge}
use Rattle.removal.specs.WrittenRemoval.{is_gone, new_weight, divisor, new_edge, new_row, written_removal}

-- the parts of the weights of the hypotheses that are in are at most `w`, and those of the edges between them `e`
pub record AreWithin (w e : ℕ) (G : StoredGraph) : Type 0 where
  pub weights : (l : ℕ) → l < size G → is_live G l ≡ true → IsWithin w (pair_of (weight plain G l))
  pub edges : (l h : ℕ) → l < size G → h < size G → is_live G l ≡ true → is_live G h ≡ true → l ≢ h
      → IsWithin e (pair_of (edge plain G l h))

-- a removal on such numbers, and the levels after it, stay below 2^127
pub record Fit (w e : ℕ) : Type 0 where
  pub product : limit_of Mul w e < 2 ^ 127
  pub weight : limit_of Add w (limit_of Mul w e) < 2 ^ 127
  pub loss : limit_of Mul e e < 2 ^ 127
  pub divisor : limit_of Sub 1 (limit_of Mul e e) < 2 ^ 127
  pub edge : limit_of Add e (limit_of Mul e e) < 2 ^ 127
  pub quotient : limit_of Div (limit_of Add e (limit_of Mul e e)) (limit_of Sub 1 (limit_of Mul e e)) < 2 ^ 127
  pub share : limit_of Mul 1 w < 2 ^ 127
  pub level : limit_of Add 1 (limit_of Mul 1 w) < 2 ^ 127

-- ---- steps that are not refused

-- a result that isn't refused
abbrev pub IsDefined : {A E : Type 0} → Result A E → Type 0
IsDefined {A} {E} r = (x : A) × (r ≡ Ok x)

module _ {A B E : Type 0} where
  pub then_made : (r : Result A E) (f : A → Result B E) (x : A) → r ≡ Ok x → (r >>= f) ≡ f x
  then_made r f x e = ap (λ q. q >>= f) e

pub at_made : {A : Type 0} (p : Place) (op : Op) (r : Option A) (x : A) → r ≡ Some x → at p op r ≡ Ok x
at_made p op r x e = ap (λ q. at p op q) e

module _ {A E : Type 0} where
  pub each_defined : (n : ℕ) (f : ℕ → Result A E) → ((l : ℕ) → l < n → IsDefined (f l)) → IsDefined (each_below n f)
  unfolding each_below
  each_defined zero f d = ([], refl)
  each_defined (suc n) f d =
      let before = each_defined n f (λ l h. d l (omega (arith, h))) in
      let now = d n (omega arith) in
      (before.0 ++ now.0 ∷ [], each_suc n f ∙ then_made (each_below n f) _ before.0 before.1 ∙ then_made (f n) _ now.0 now.1)

  pub joined_defined : (n : ℕ) (f : ℕ → Result (List A) E) → ((l : ℕ) → l < n → IsDefined (f l)) → IsDefined (joined_below n f)
  unfolding joined_below
  joined_defined zero f d = ([], refl)
  joined_defined (suc n) f d =
      let before = joined_defined n f (λ l h. d l (omega (arith, h))) in
      let now = d n (omega arith) in
      (before.0 ++ now.0, joined_suc n f ∙ then_made (joined_below n f) _ before.0 before.1 ∙ then_made (f n) _ now.0 now.1)

-- ---- a removal

gone_false : (live same : Bool) → (not live || same) ≡ false → (live ≡ true) × (same ≡ false)
gone_false true same h = (refl, h)
gone_false false same h = absurd (cc)

differ : (k j : ℕ) → (k == j) ≡ false → k ≢ j
differ k j h = grind (arith, nat_tests)

one_within : IsWithin 1 (pair_of plain.one)
one_within = record { num = omega arith; den = omega arith }

module _ (G : StoredGraph) (j w e : ℕ) (fit : Fit w e) (S : AreWithin w e G) (below : j < size G) (live : is_live G j ≡ true) where
  stays : (l : ℕ) → is_gone G j l ≡ false → (is_live G l ≡ true) × (l ≢ j)
  unfolding is_gone
  stays l h = let g = gone_false (is_live G l) (l == j) h in (g.0, differ l j g.1)

  weight_defined : (l : ℕ) → l < size G → IsDefined (new_weight plain G j l)
  unfolding new_weight
  weight_defined l h = elim (true_or_false (is_gone G j l)) [
    | inl t ↦ (plain.zero, rw t refl)
    | inr f ↦
        let s = stays l f in
        let a = parts_within Mul (weight plain G j) (edge plain G j l) w e (S.weights j below live)
        (S.edges j l below h live s.0 (λ x. s.1 (sym x))) fit.product in
        let b = parts_within Add (weight plain G l) a.0 w (limit_of Mul w e) (S.weights l h s.0) a.2 fit.weight in (
          b.0,
          rw f (then_made (at (Weight l) Mul (plain.written Mul (weight plain G j) (edge plain G j l))) _ a.0 (at_made (Weight l) Mul _ a.0 a.1)
              ∙ at_made (Weight l) Add _ b.0 b.1),
        )
  ]

  -- the divisor is defined, and short where there is one
  abbrev ShortDivisor : ℕ → Option Parts → Type 0
  ShortDivisor l None = Unit {0}
  ShortDivisor l (Some d) = (is_gone G j l ≡ false) × IsWithin (limit_of Sub 1 (limit_of Mul e e)) (pair_of d)

  by_test : (l : ℕ) → is_gone G j l ≡ false → (b : Bool) (d : Parts) → IsWithin (limit_of Sub 1 (limit_of Mul e e)) (pair_of d)
      → ShortDivisor l (if b then None else Some d)
  by_test l f true d s = tt
  by_test l f false d s = (f, s)

  divisor_defined : (l : ℕ) → l < size G → (d : Option Parts) × (divisor plain G j l ≡ Ok d) × ShortDivisor l d
  unfolding divisor
  divisor_defined l h = elim (true_or_false (is_gone G j l)) [
    | inl t ↦ (None, rw t refl, tt)
    | inr f ↦
        let s = stays l f in
        let c = parts_within Mul (edge plain G l j) (edge plain G j l) e e (S.edges l j h below s.0 live s.1)
        (S.edges j l below h live s.0 (λ x. s.1 (sym x))) fit.loss in
        let d = parts_within Sub plain.one c.0 1 (limit_of Mul e e) one_within c.2 fit.divisor in (
          if is_zero d.0 then None else Some d.0,
          rw f (then_made (at (Loss l) Mul (plain.written Mul (edge plain G l j) (edge plain G j l))) _ c.0 (at_made (Loss l) Mul _ c.0 c.1)
              ∙ then_made (at (Loss l) Sub (plain.written Sub plain.one c.0)) _ d.0 (at_made (Loss l) Sub _ d.0 d.1)),
          by_test l f (is_zero d.0) d.0 d.2,
        )
  ]

  or_false : (a b : Bool) → (a || b) ≡ false → (a ≡ false) × (b ≡ false)
  or_false true b h = absurd (cc)
  or_false false b h = (refl, h)

  edge_defined : (l h : ℕ) → l < size G → h < size G → (d : Option Parts) → ShortDivisor l d → IsDefined (new_edge plain G j l d h)
  unfolding new_edge
  edge_defined l h p q None s = (plain.zero, refl)
  edge_defined l h p q (Some d) s = elim (true_or_false (is_gone G j h || h == l)) [
    | inl t ↦ (plain.zero, rw t refl)
    | inr f ↦
        let apart = or_false (is_gone G j h) (h == l) f in
        let one = stays l s.0 in
        let other = stays h apart.0 in
        let a = parts_within Mul (edge plain G l j) (edge plain G j h) e e (S.edges l j p below one.0 live one.1)
        (S.edges j h below q live other.0 (λ x. other.1 (sym x))) fit.loss in
        let b = parts_within Add (edge plain G l h) a.0 e (limit_of Mul e e) (S.edges l h p q one.0 other.0 (λ x. differ h l apart.1 (sym x))) a.2 fit.edge in
        let c = parts_within Div b.0 d (limit_of Add e (limit_of Mul e e)) (limit_of Sub 1 (limit_of Mul e e)) b.2 s.1 fit.quotient in (
          c.0,
          rw f (then_made (at (Edge l h) Mul (plain.written Mul (edge plain G l j) (edge plain G j h))) _ a.0 (at_made (Edge l h) Mul _ a.0 a.1)
              ∙ then_made (at (Edge l h) Add (plain.written Add (edge plain G l h) a.0)) _ b.0 (at_made (Edge l h) Add _ b.0 b.1)
              ∙ at_made (Edge l h) Div _ c.0 c.1),
        )
  ]

  row_defined : (l : ℕ) → l < size G → IsDefined (new_row plain G j l)
  unfolding new_row
  row_defined l h =
      let d = divisor_defined l h in
      let xs = each_defined (size G) (new_edge plain G j l d.0) (λ i q. edge_defined l i h q d.0 d.2) in
      (xs.0, then_made (divisor plain G j l) _ d.0 d.1 ∙ xs.1)

  pub removal_defined : IsDefined (written_removal plain G j)
  unfolding written_removal
  removal_defined =
      let ws = each_defined (size G) (new_weight plain G j) weight_defined in
      let es = joined_defined (size G) (new_row plain G j) row_defined in
      (_, then_made (each_below (size G) (new_weight plain G j)) _ ws.0 ws.1 ∙ then_made (joined_below (size G) (new_row plain G j)) _ es.0 es.1)
