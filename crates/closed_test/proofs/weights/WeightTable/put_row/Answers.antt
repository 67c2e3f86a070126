use Rattle.std.proofs.Common.{◌≡◌, ◌≢◌, ◌⊎◌, inl, inr, sym, ap, ◌∙◌, ℕ, ◌+◌, ◌<◌, Bool, true, false, arith}
use Rattle.field_core.specs.declared.ratio.Ratio.{Ratio}
use Rattle.field_core.specs.Terms.{Terms}
use Rattle.field_core.specs.View.{terms}
use Rattle.field_core.proofs.Live.{true_not_false}
use Rattle.field_core.proofs.Positions.{at_or_below}
use Rattle.entangled.specs.CaseNetView.{case_state}
use Rattle.entangled.specs.CaseRun.{case_level, is_live_in_case}
use Rattle.closed_test.specs.WeightsView.{weight_at}
use Rattle.closed_test.proofs.weights.WeightTable.put_row.Goals as goal
use Rattle.closed_test.proofs.weights.WeightTable.put_row.Goals.{then-is_live, else-is_live}

module _ (before : ℕ → ℕ → Ratio) (set k : ℕ) (few : k < 16) (live : ℕ → Bool) (level : ℕ → Terms)
    (done : (j : ℕ) → j < k → live j ≡ true → terms (before set j) ≡ level j) where
  row_put : (now : ℕ → ℕ → Ratio) (w : Ratio) → now set k ≡ w → terms w ≡ level k
      → ((n j : ℕ) → j < 16 → (n ≢ set) ⊎ (j ≢ k) → now n j ≡ before n j)
      → (j : ℕ) → j < k + 1 → live j ≡ true → terms (now set j) ≡ level j
  row_put now w put is others j p l = elim (at_or_below j k (omega arith)) [
    | inl e ↦ ap (λ i. terms (now set i)) e ∙ ap terms put ∙ is ∙ ap level (sym e)
    | inr q ↦ ap terms (others set j (omega arith) (inr (λ e. absurd (omega (arith, e, q))))) ∙ done j q l
  ]

  row_skip : live k ≡ false → (j : ℕ) → j < k + 1 → live j ≡ true → terms (before set j) ≡ level j
  row_skip f j p l = elim (at_or_below j k (omega arith)) [
    | inl e ↦ absurd (true_not_false (sym l ∙ ap live e ∙ f))
    | inr q ↦ done j q l
  ]

pub loop-k-preserved : goal.loop-k-preserved
loop-k-preserved c =
    let few = c.args.self.now.few in
    elim c.if-is_live.branch [
      | then-is_live w ↦ record {
        size = ap (λ t. t.size) w.self-is ∙ w.put.ensures.size ∙ c.loop-k.invariant.size;
        row = λ j p l. ap (λ t. terms (weight_at t c.args.set j)) w.self-is
            ∙ row_put (weight_at c.loop-k.self) c.args.set c.loop-k.k (omega (arith, c.loop-k-test.true, few)) (is_live_in_case (case_state c.args.nets.now))
            (case_level (case_state c.args.nets.now)) c.loop-k.invariant.row
            (weight_at w.put.new.self) w.weight_limit.result w.put.ensures.put w.weight_limit.ensures.level w.put.ensures.others j p l;
        others = λ n j a h. ap (λ t. weight_at t n j) w.self-is ∙ w.put.ensures.others n j a (inl h) ∙ c.loop-k.invariant.others n j a h;
      }
      | else-is_live w ↦ record {
        size = ap (λ t. t.size) w.self-is ∙ c.loop-k.invariant.size;
        row = λ j p l. ap (λ t. terms (weight_at t c.args.set j)) w.self-is
            ∙ row_skip (weight_at c.loop-k.self) c.args.set c.loop-k.k (omega (arith, c.loop-k-test.true, few)) (is_live_in_case (case_state c.args.nets.now))
            (case_level (case_state c.args.nets.now)) c.loop-k.invariant.row (sym c.is_live.ensures ∙ w.if-is_live.false) j p l;
        others = λ n j a h. ap (λ t. weight_at t n j) w.self-is ∙ c.loop-k.invariant.others n j a h;
      }
    ]
