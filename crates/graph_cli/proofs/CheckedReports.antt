-- Where `check` says yes, the closed test rejects what it lists.
use Rattle.std.proofs.Common.{◌≡◌, refl, sym, ap, subst, ◌∙◌, ℕ, List, Some, Ok, inl, inr}
use Rattle.answers.specs.declared.answer.Answer.{Answer}
use Rattle.answers.specs.declared.status.Status.{Status}
use Rattle.answers.specs.declared.status.Status.TheVariants as statuses
use Rattle.case_model.specs.Content.{Content, content_of}
use Rattle.case_model.specs.declared.inputs.Inputs.{Inputs}
use Rattle.case_model.specs.declared.inputs.Inputs.TheVariants.{Bare, Single as Values, Staged as Stages}
use Rattle.case_model.specs.Validity.{IsValidContent}
use Rattle.command_words.specs.Asked.{check}
use Rattle.command_words.specs.Words.{asked_in}
use Rattle.answers.proofs.Decided.{stage_decided}
use Rattle.evidence_check.specs.declared.evidence.Evidence.{Evidence}
use Rattle.evidence_check.specs.declared.verdict.Verdict.{Verdict}
use Rattle.evidence_check.specs.declared.verdict.Verdict.TheVariants.{Yes, No}
use Rattle.evidence_check.specs.EvidenceView.{version_of, steps_of, keeps_of, IsEvidenceFor}
use Rattle.evidence_check.specs.CaseCheck.{IsSingle, case_check, verdict_of}
use Rattle.evidence_check.specs.DocumentStatements.{SaysEvidence}
use Rattle.evidence_check.proofs.CaseChecked.{case_rejected, case_decides}
use Rattle.evidence_check.proofs.DocumentLaws.{readings_are_evidence}
use Rattle.evidence_check.proofs.CheckAnswers.{yes_is, of_case, evidence_stored, keeps_others}
use Rattle.report.specs.CheckReport.{check_report}
use Rattle.graph_cli.specs.Accepted.{IsOfKind, grammar}
use Rattle.graph_cli.specs.Check.{Said, said_of, listed_in, kept_in, answer_to, check_stage}
use Rattle.graph_cli.specs.Commands.{call_of, check_call, check_needs}
use Rattle.graph_cli.specs.declared.kind.InputKind.TheVariants.{Single}
use Rattle.graph_cli.specs.Laws.{ReportsEvidence, ChecksAreOfTheClosedTest}
use Rattle.graph_cli.proofs.CheckedOrders.{checked_order}
use Rattle.graph_cli.proofs.ClosedReports.{valid_said, not_done}

not_no : (s : Status) → s ≡ statuses.No → s ≡ statuses.Done → ⊥
not_no s e f = cc

single_values : (inputs : Inputs) → IsOfKind Single inputs → IsSingle inputs
single_values (Values ps) h = tt
single_values Bare h = absurd h
single_values (Stages stages) h = absurd h

-- done is only what the verdict yes is answered
done_says_yes : (c : Content) (said : Said) (verdict : Verdict) (a : Answer) → a ≡ answer_to c said verdict → a.status ≡ statuses.Done
    → (verdict ≡ Yes) × (a.text ≡ check_report c said.version (listed_in said) (kept_in said))
done_says_yes c said Yes a e z = (refl, ap (λ (x : Answer). x.text) e)
done_says_yes c said (No n reason) a e z = absurd (not_no a.status (ap (λ (x : Answer). x.status) e) z)

reported : (c : Content) (v : Evidence) (bytes printed : List ℕ) → IsValidContent c → IsSingle c.inputs → IsEvidenceFor c v → SaysEvidence c bytes v
    → verdict_of (case_check c (steps_of v) (keeps_of v)) ≡ Ok Yes
    → printed ≡ check_report c (version_of v) (listed_in (said_of v)) (kept_in (said_of v)) → ReportsEvidence c bytes printed
reported c v bytes printed V single fits says holds e = record {
  evidence = v;
  fits = fits;
  says = says;
  holds = holds;
  text_is = e;
  legal = checked_order c V single (steps_of v) (keeps_of v) (evidence_stored c v (of_case c v fits)) (yes_is _ holds);
  rejected = λ j. case_rejected c V single (steps_of v) (keeps_of v) (evidence_stored c v (of_case c v fits)) (yes_is _ holds) j;
  all = λ two j. case_decides c V single (steps_of v) (keeps_of v) (evidence_stored c v (of_case c v fits)) (yes_is _ holds) (keeps_others c (steps_of v) (keeps_of v) (fits.all two)) j;
  keeps = λ two. fits.all two;
}

pub checks_closed_test : ChecksAreOfTheClosedTest
unfolding call_of check_call check_needs check_stage
checks_closed_test words format file case proof a asks (inr h) z = absurd (not_done a.status h.0.cause (ap (λ (x : Answer). x.status) h.2) z)
checks_closed_test words format file case proof a asks (inl h) z =
    let command_is : h.0 ≡ check format file = (stage_decided (asked_in words)).one h.0 (check format file) h.1 asks in
    let gives = subst (λ command. (call_of command (Some case) (Some proof)).Gives a) command_is h.2 in
    let bytes_are = gives.1.1.0 in
    let read = gives.1.2.1 in
    let draft = read.0 in
    let content_is : gives.0 ≡ content_of draft = gives.1.2.2.2.1 ∙ (gives.1.2.2.1.1 ∙ read.2.1) in
    let single = subst (λ c. IsOfKind Single c.inputs) (sym gives.1.2.2.1.1) gives.1.2.2.1.0 in
    let proof_is = gives.2.1.0 in
    let said = gives.2.2.0 in
    let found = readings_are_evidence gives.0 gives.2.0 said gives.2.2.1 in
    let answered = done_says_yes gives.0 said gives.2.2.2.0 a gives.2.2.2.2 z in
    let verdict_is = gives.2.2.2.1 ∙ ap Ok answered.0 in
    record {
      draft = draft;
      says = subst (λ xs. (grammar format xs).Gives draft) bytes_are read.1;
      faultless = read.2.0;
      reports = subst (λ c. ReportsEvidence c proof a.text) content_is
          (reported gives.0 found.0 proof a.text (subst IsValidContent (sym content_is) (valid_said format _ draft read.1 read.2.0))
          (single_values gives.0.inputs (subst (λ (c : Content). IsOfKind Single c.inputs) (sym gives.1.2.2.2.1) single)) found.1
          (subst (λ xs. SaysEvidence gives.0 xs found.0) proof_is (gives.2.2.1 ∙ ap Ok found.2))
          (subst (λ (s : Said). verdict_of (case_check gives.0 s.steps s.keeps) ≡ Ok Yes) found.2 verdict_is)
          (answered.1 ∙ ap (λ (s : Said). check_report gives.0 s.version (listed_in s) (kept_in s)) found.2));
    }
