use Rattle.std.proofs.Common.{◌≡◌, map, length}
use Rattle.text_lines.specs.Kinds.{each_after, each_of}
use Rattle.case_model.specs.CaseView.{content}
use Rattle.evidence_check.specs.Document.{numbers, keep}
use Rattle.evidence_check.specs.Evidence.{others}
use Rattle.evidence_check.specs.EvidenceView.{hypotheses_of, keep_parts}
use Rattle.evidence_check.specs.NumberReading.{case_frame}
use Rattle.evidence_check.proofs.ReadAnswers.{reads}
use Rattle.std.proofs.Common.{◌-◌}
use Rattle.evidence_check.proofs.Others.{others_from}
use Rattle.evidence_check.proofs.document.keeps.Given as goal

abbrev pub invariant-loop-k : goal.invariant-loop-k
invariant-loop-k g l =
    let T = case_frame g.F.CaseNumber.numbers (content l.case) in
    let js = hypotheses_of l.steps in
    let m = length (content l.case).names in
    record {
      end : l.lines.end ≡ l.fn.lines.end;
      so_far : reads (each_of (keep T js) (others m js)) l.fn.lines
          ≡ reads (each_after (keep T js) (map (keep_parts g.F.Number.parts) l.keeps) (others_from js l.k (m - l.k))) l.lines;
    }
