use Rattle.std.proofs.Common.{◌≡◌, map, take}
use Rattle.evidence_check.specs.EvidenceParts.{numbers_at}
use Rattle.evidence.proofs.run.numbers.Given as goal

abbrev pub invariant-loop-r : goal.invariant-loop-r
invariant-loop-r g l = map g.F.Number.parts l.numbers ≡ map (numbers_at g.F.Number.kind (map g.F.Number.parts l.row)) (take l.r-index l.places)
