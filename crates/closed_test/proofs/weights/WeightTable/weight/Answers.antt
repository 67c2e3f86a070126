use Rattle.std.proofs.Common.{ap, ◌∙◌, ◌+◌, ◌*◌, get_or, arith}
use Rattle.std.proofs.lemmas.List.{get_or_read}
use Rattle.case_model.specs.Sums.{ratio_at, zero_ratio}
use Rattle.closed_test.specs.WeightsView.{weight_at}
use Rattle.closed_test.proofs.weights.WeightTable.weight.Goals as goal

pub returns : goal.returns
unfolding weight_at ratio_at
returns c =
    let t = c.args.self.now in
    get_or_read t.weights (c.args.set * 16 + c.args.k) c.index-as_slice-set.result (omega (arith, t.room, c.requires.set, c.requires.k))
    (c.index-as_slice-set.is ∙ ap (λ ws. get_or ws (c.args.set * 16 + c.args.k) c.index-as_slice-set.result) c.as_slice.ensures) zero_ratio
