use Rattle.std.proofs.Common.{◌≡◌, ◌<◌, [], map, length}
use Rattle.std.specs.List.{All}
use Rattle.text_lines.specs.Forms.{Many}
use Rattle.case_model.specs.CaseView.{content}
use Rattle.evidence_check.specs.DocumentLines.{step_line}
use Rattle.evidence_check.specs.Document.{numbers, step}
use Rattle.evidence_check.specs.EvidenceView.{hypotheses_of, step_parts}
use Rattle.evidence_check.specs.NumberReading.{case_frame}
use Rattle.evidence_check.proofs.ReadAnswers.{reads}
use Rattle.evidence_check.proofs.document.steps.Given as goal

abbrev pub invariant-loop-steps : goal.invariant-loop-steps
invariant-loop-steps g l =
    let T = case_frame g.F.CaseNumber.numbers (content l.case) in
    record {
      end : l.lines.end ≡ l.fn.lines.end;
      known : All (λ j. j < length (content l.case).names) (hypotheses_of l.steps);
      so_far : reads (Many (step_line T) (step T) []) l.fn.lines ≡ reads (Many (step_line T) (step T) (map (step_parts g.F.Number.parts) l.steps)) l.lines;
    }

abbrev pub decreases-loop-steps : goal.decreases-loop-steps
decreases-loop-steps g l = length l.lines.rows
