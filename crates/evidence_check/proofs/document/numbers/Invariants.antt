use Rattle.std.proofs.Common.{◌≡◌, drop, map}
use Rattle.text_lines.specs.Forms.{Line}
use Rattle.text_lines.specs.Kinds.{each_after}
use Rattle.case_model.specs.CaseView.{content}
use Rattle.evidence_check.specs.DocumentLines.{number_line}
use Rattle.evidence_check.specs.Document.{component_numbers, numbers}
use Rattle.evidence_check.specs.EvidenceView.{hypotheses_of}
use Rattle.evidence_check.specs.NumberReading.{case_frame}
use Rattle.evidence_check.proofs.ReadAnswers.{reads}
use Rattle.evidence_check.proofs.document.numbers.Given as goal

abbrev pub invariant-loop-e : goal.invariant-loop-e
invariant-loop-e g l =
    let T = case_frame g.F.CaseNumber.numbers (content l.case) in
    record {
      end : l.lines.end ≡ l.fn.lines.end;
      so_far : reads (component_numbers T l.quantity (hypotheses_of l.steps) l.c) l.fn.lines
          ≡ reads (each_after (λ j. Line (number_line T l.quantity l.c j)) (map g.F.Number.parts l.numbers) (drop l.e (hypotheses_of l.steps))) l.lines;
    }
