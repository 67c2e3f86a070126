use Rattle.std.proofs.Common.{◌∙◌, ap, map}
use Rattle.evidence_check.proofs.SumAnswers.{mapped_row}
use Rattle.evidence_check.proofs.flows.in_component.Goals as goal

pub returns : goal.returns
returns g c = ap (map g.F.Number.parts) c.row.ensures ∙ mapped_row g.F.Number.parts c.args.lists.now c.args.c
