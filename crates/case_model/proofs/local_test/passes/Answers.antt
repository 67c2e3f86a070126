use Rattle.case_model.proofs.local_test.passes.Goals as goal

pub returns : goal.returns
returns c = c.passes_from.ensures c.args.p.now c.args.alpha.now c.requires.alpha c.least_weight.ensures
