use Rattle.std.proofs.Common.{◌≡◌, map, take}
use Rattle.case_model.specs.CaseView.{content}
use Rattle.entangled.proofs.loading.shares.Given as goal

abbrev pub invariant-loop-c : goal.invariant-loop-c
invariant-loop-c l = l.shares ≡ map (λ k. k.share) (take l.c (content l.case).components)
