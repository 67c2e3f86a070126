use Rattle.std.proofs.Common.{◌∙◌}
use Rattle.std.proofs.lemmas.Result.{IfOk-weaker}
use Rattle.case_model.specs.CaseView.{content}
use Rattle.evidence.proofs.WriterAnswers.{plain_text, eps_text}
use Rattle.evidence.proofs.EvidenceSaid.{said}
use Rattle.evidence.proofs.writer.write.Goals as goal

pub returns-in-Plain : goal.returns-in-Plain
returns-in-Plain c =
    let k = content c.args.case.now in
    let v = c.args.proof.now in
    let text = plain_text k v c.in-Plain.proof c.in-Plain.is c.requires in
    record {
      text = IfOk-weaker c.written.result _ _ (λ t e. e ∙ text) c.written.ensures;
      says = IfOk-weaker c.written.result _ _ (λ t e. said k v t (e ∙ text) c.args.case.now.valid c.requires) c.written.ensures;
    }

pub returns-in-Eps : goal.returns-in-Eps
returns-in-Eps c =
    let k = content c.args.case.now in
    let v = c.args.proof.now in
    let text = eps_text k v c.in-Eps.proof c.in-Eps.is c.requires in
    record {
      text = IfOk-weaker c.written-in-Eps.result _ _ (λ t e. e ∙ text) c.written-in-Eps.ensures;
      says = IfOk-weaker c.written-in-Eps.result _ _ (λ t e. said k v t (e ∙ text) c.args.case.now.valid c.requires) c.written-in-Eps.ensures;
    }
