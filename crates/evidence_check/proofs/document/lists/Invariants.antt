use Rattle.std.proofs.Common.{◌≡◌, drop, map, length}
use Rattle.std.specs.List.{range_with_len}
use Rattle.text_lines.specs.Kinds.{each_after}
use Rattle.case_model.specs.CaseView.{content}
use Rattle.evidence_check.specs.Document.{component_numbers, numbers}
use Rattle.evidence_check.specs.EvidenceView.{hypotheses_of}
use Rattle.evidence_check.specs.NumberReading.{case_frame}
use Rattle.evidence_check.proofs.ReadAnswers.{reads}
use Rattle.evidence_check.proofs.document.lists.Given as goal

abbrev pub invariant-loop-c : goal.invariant-loop-c
invariant-loop-c g l =
    let T = case_frame g.F.CaseNumber.numbers (content l.case) in
    let js = hypotheses_of l.steps in
    record {
      end : l.lines.end ≡ l.fn.lines.end;
      so_far : reads (numbers T l.quantity js) l.fn.lines
          ≡ reads (each_after (component_numbers T l.quantity js) (map (map g.F.Number.parts) l.lists) (drop l.c (range_with_len 0 (length (content l.case).components)))) l.lines;
    }
