use Rattle.std.proofs.Common.{◌≡◌, ◌⊎◌, inl, inr, sym, ◌∙◌, ap, ℕ, ◌+◌, ◌^◌, ◌<◌, ◌≤◌, true, false, List, get_or, min}
use Rattle.std.proofs.Common.{arith}
use Rattle.field_core.specs.NumberedSets.{members}
use Rattle.field_core.proofs.Positions.{at_or_below}
use Rattle.discovery_bound.proofs.bounds.least_before.Goals as goal
use Rattle.discovery_bound.proofs.bounds.least_before.Goals.{then-holds, else-holds}

abbrev IsAtMost : ℕ → ℕ → List ℕ → ℕ → Type 0
IsAtMost k set bounds least = (j o : ℕ) → j < k → members set j ≡ true → o + 2 ^ j ≡ set → least ≤ get_or bounds o 0

abbrev IsReached : ℕ → ℕ → List ℕ → ℕ → Type 0
IsReached m set bounds least = (least ≡ 16)
    ⊎ ((j : ℕ) × (o : ℕ) × (j < m) × (members set j ≡ true) × (o + 2 ^ j ≡ set) × (least ≡ get_or bounds o 0))

most_next : (k set : ℕ) (bounds : List ℕ) (least next o : ℕ) → o + 2 ^ k ≡ set → next ≤ least → next ≤ get_or bounds o 0
    → IsAtMost k set bounds least → IsAtMost (k + 1) set bounds next
most_next k set bounds least next o e a b h j q p t f = elim (at_or_below j k (omega arith)) [
  | inl same ↦
      let powers : 2 ^ j ≡ 2 ^ k = ap (λ i. 2 ^ i) same in
      let which : q ≡ o = omega (arith, e, f, powers) in
      rw which b
  | inr r ↦ let x = h j q r t f in omega (arith, x, a)
]

most_skip : (k set : ℕ) (bounds : List ℕ) (least : ℕ) → members set k ≡ false → IsAtMost k set bounds least → IsAtMost (k + 1) set bounds least
most_skip k set bounds least out h j q p t f = elim (at_or_below j k (omega arith)) [
  | inl same ↦ absurd (clash (sym t ∙ ap (members set) same ∙ out))
  | inr r ↦ h j q r t f
]
  where
    clash : true ≡ false → ⊥
    clash e = cc

reached_next : (m k set : ℕ) (bounds : List ℕ) (least next o : ℕ) → k < m → members set k ≡ true → o + 2 ^ k ≡ set → (next ≡ least)
    ⊎ (next ≡ get_or bounds o 0) → IsReached m set bounds least → IsReached m set bounds next
reached_next m k set bounds least next o p t e (inl f) (inl g) = inl (f ∙ g)
reached_next m k set bounds least next o p t e (inl f) (inr x) = inr (x.0, x.1, x.2, x.3, x.4, f ∙ x.5)
reached_next m k set bounds least next o p t e (inr f) h = inr (k, o, p, t, e, f)

is_min : (a b r : ℕ) → r ≡ min a b → (r ≤ a) × (r ≤ b)
is_min a b r e = (omega arith, omega arith)

is_either : (a b r : ℕ) → r ≡ min a b → (r ≡ a) ⊎ (r ≡ b)
is_either a b r e = grind arith

pub loop-k-preserved : goal.loop-k-preserved
loop-k-preserved c = elim c.if-holds.branch [
  | then-holds w ↦
      let e = w.least-is ∙ w.min-least.ensures in
      let b = is_min c.loop-k.least (get_or c.args.bounds.now w.dropped.result 0) c.if-holds.least e in
      record {
        least = most_next c.loop-k.k c.args.set c.args.bounds.now c.loop-k.least c.if-holds.least w.dropped.result w.dropped.ensures.number b.0
            b.1 c.loop-k.invariant.least;
        reached = reached_next c.args.m c.loop-k.k c.args.set c.args.bounds.now c.loop-k.least c.if-holds.least w.dropped.result c.loop-k-test.true
            (sym c.holds.ensures ∙ w.if-holds.true) w.dropped.ensures.number
            (is_either c.loop-k.least (get_or c.args.bounds.now w.dropped.result 0) c.if-holds.least e) c.loop-k.invariant.reached;
      }
  | else-holds w ↦ record {
    least = most_skip c.loop-k.k c.args.set c.args.bounds.now c.if-holds.least (sym c.holds.ensures ∙ w.if-holds.false)
        (rw w.least-is c.loop-k.invariant.least);
    reached = rw w.least-is c.loop-k.invariant.reached;
  }
]
