use Rattle.std.proofs.Common.{◌≡◌, Ok, map, length}
use Rattle.field_core.specs.Steps.{each_below}
use Rattle.case_model.specs.CaseView.{content}
use Rattle.entangled.specs.Loading.{state_at}
use Rattle.entangled.proofs.loading.nets.Given as goal

abbrev pub invariant-loop-c : goal.invariant-loop-c
invariant-loop-c g l = each_below l.c (state_at g.N.ComponentNet.numbers (length (content l.case).names) (content l.case).components) ≡ Ok
    (map g.N.ComponentNet.state l.nets)
