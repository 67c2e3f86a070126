use Rattle.std.proofs.Common.{◌≡◌, ◌⊎◌, inl, inr, sym, ◌∙◌, ap, subst, refl, ℕ, zero, suc, ◌+◌, ◌*◌, ◌^◌, ◌<◌, ◌≤◌}
use Rattle.std.proofs.Common.{◌%◌, Bool, List, [], ◌∷◌, ◌++◌, length, length-append, get_or, arith}
use Rattle.std.proofs.lemmas.Nat.{one_shl}
use Rattle.field_core.specs.NumberedSets.{members}
use Rattle.case_model.specs.SetAnswers.{SaysYes}
use Rattle.case_model.specs.DiscoveryBound.{IsBound}
use Rattle.case_model.specs.SetTableView.{answer_of}
use Rattle.discovery_bound.specs.BoundsView.{bound_of}
use Rattle.discovery_bound.specs.BoundLists.{AreBounds}
use Rattle.discovery_bound.proofs.bounds.Bounds.build.Goals as goal

sets_are : (m : ℕ) → m ≤ 16 → (1 * 2 ^ m) % 2 ^ 32 ≡ 2 ^ m
sets_are m p = one_shl m 32 (omega arith)

earlier : (xs : List ℕ) (x n : ℕ) → n < length xs → get_or (xs ++ x ∷ []) n 0 ≡ get_or xs n 0
earlier [] x n p = absurd (omega arith)
earlier (y ∷ ys) x zero p = refl
earlier (y ∷ ys) x (suc n) p = earlier ys x n (omega arith)

latest : (xs : List ℕ) (x n : ℕ) → n ≡ length xs → get_or (xs ++ x ∷ []) n 0 ≡ x
latest [] x n e = rw e
latest (y ∷ ys) x n e = rw e (latest ys x (length ys) refl)

one_more : (m : ℕ) (table : ℕ → Bool) (bounds : List ℕ) (set next : ℕ) → length bounds ≡ set → AreBounds m table bounds set
    → IsBound m (SaysYes m table) (members set) next
    → AreBounds m table (bounds ++ next ∷ []) (set + 1)
one_more m table bounds set next count each B n p = elim (at_or_below n set p) [
  | inl e ↦ rw (latest bounds next n (e ∙ sym count), e) B
  | inr q ↦ rw (earlier bounds next n (omega arith)) (each n q)
]
  where
    at_or_below : (i n : ℕ) → i < n + 1 → (i ≡ n) ⊎ (i < n)
    at_or_below i n p = grind arith

pub next_bound-bound-requires-clause-set : goal.next_bound-bound-requires-clause-set
next_bound-bound-requires-clause-set c = rw c.requires.table (omega (arith, sets_are c.args.m c.requires.few, c.loop-set-test.true))

pub next_bound-bound-requires-clause-count : goal.next_bound-bound-requires-clause-count
next_bound-bound-requires-clause-count c = ap length c.as_slice.ensures ∙ c.loop-set.invariant.count

pub next_bound-bound-requires-clause-bounds : goal.next_bound-bound-requires-clause-bounds
next_bound-bound-requires-clause-bounds c = rw c.as_slice.ensures c.loop-set.invariant.each

pub loop-set-preserved : goal.loop-set-preserved
loop-set-preserved c = record {
  count = ap length c.in_ok-push.ensures.pushed ∙ length-append _ _ ∙ ap (λ k. k + 1) c.loop-set.invariant.count;
  each = rw c.in_ok-push.ensures.pushed
      (one_more c.args.closed.now.size (answer_of c.args.closed.now) c.loop-set.bounds c.loop-set.set c.next_bound-bound.result c.loop-set.invariant.count
      c.loop-set.invariant.each c.next_bound-bound.ensures);
}

pub invariant_of-result : goal.invariant_of-result
invariant_of-result c = record {
  few = c.requires.few;
  room = omega (arith, sets_are c.args.m c.requires.few, c.loop-set.invariant.count, c.loop-set-test.false, c.loop-set.auto);
}

pub returns-clause-bounds : goal.returns-clause-bounds
unfolding bound_of
returns-clause-bounds c = λ n p.
    subst (λ k. IsBound k (SaysYes k (answer_of c.args.closed.now)) (members n) (get_or c.loop-set.bounds n 0)) c.requires.table
    (c.loop-set.invariant.each n (omega (arith, sets_are c.args.m c.requires.few, c.loop-set-test.false)))
