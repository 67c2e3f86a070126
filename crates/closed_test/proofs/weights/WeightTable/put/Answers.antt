use Rattle.std.proofs.Common.{◌≢◌, ◌⊎◌, inl, inr, ap, ◌∙◌, ℕ, ◌+◌, ◌*◌, ◌<◌, get_or, arith}
use Rattle.std.proofs.lemmas.List.{get_or-set_same, get_or-set_other}
use Rattle.case_model.specs.Sums.{ratio_at, zero_ratio}
use Rattle.closed_test.specs.WeightsView.{weight_at}
use Rattle.closed_test.proofs.weights.WeightTable.put.Goals as goal

apart : (n j s k : ℕ) → j < 16 → k < 16 → (n ≢ s) ⊎ (j ≢ k) → n * 16 + j ≢ s * 16 + k
apart n j s k a b (inl h) e = h (omega arith)
apart n j s k a b (inr h) e = h (omega arith)

pub returns-clause-put : goal.returns-clause-put
unfolding weight_at ratio_at
returns-clause-put c =
    let t = c.args.self.now in
    ap (λ ws. get_or ws (c.args.set * 16 + c.args.k) zero_ratio) c.set.ensures
    ∙ get_or-set_same t.weights (c.args.set * 16 + c.args.k) c.args.weight zero_ratio (omega (arith, t.room, c.requires.set, c.requires.k))

pub returns-clause-others : goal.returns-clause-others
unfolding weight_at ratio_at
returns-clause-others c = λ n j a h.
    let t = c.args.self.now in
    ap (λ ws. get_or ws (n * 16 + j) zero_ratio) c.set.ensures
    ∙ get_or-set_other t.weights (c.args.set * 16 + c.args.k) (n * 16 + j) c.args.weight zero_ratio (apart n j c.args.set c.args.k a c.requires.k h)
