-- What `evidence` prints is confirmed by `check`.
use Rattle.std.proofs.Common.{◌≡◌, refl, sym, ap, subst, ◌∙◌, ℕ, ◌≤◌, List, length, Option, Some, inl, inr}
use Rattle.answers.proofs.Decided.{stage_decided}
use Rattle.answers.specs.declared.answer.Answer.{Answer}
use Rattle.answers.specs.declared.status.Status.TheVariants.{Done}
use Rattle.answers.specs.Lines.{done}
use Rattle.answers.specs.Stages.{IsAnswerOf, most_bytes}
use Rattle.case_model.specs.Content.{Content, content_of}
use Rattle.command_words.specs.Asked.{Encoding, on_case, check}
use Rattle.command_words.specs.declared.command.CaseTask.TheVariants.{Evidence as EvidenceTask}
use Rattle.command_words.specs.Words.{asked_in}
use Rattle.evidence_check.specs.declared.verdict.Verdict.TheVariants.{Yes}
use Rattle.evidence_check.specs.EvidenceView.{version_of, steps_of, keeps_of}
use Rattle.report.specs.CheckReport.{check_report}
use Rattle.sequential.specs.declared.priority.Priority.{Priority}
use Rattle.graph_cli.specs.Accepted.{case_in, accepted}
use Rattle.graph_cli.specs.Check.{said_of, check_stage}
use Rattle.graph_cli.specs.Commands.{needs_of, check_needs, case_call, check_call, call_of}
use Rattle.graph_cli.specs.Laws.{PrintsEvidence, stepped, retained}
use Rattle.graph_cli.specs.Outcome.{AskFor, outcome}
use Rattle.graph_cli.proofs.AcceptedCases.{case_decided}
use Rattle.graph_cli.proofs.ClosedReports.{not_done}
use Rattle.graph_cli.proofs.EvidenceReports.{evidence_closed_test}
use Rattle.graph_cli.proofs.OneAnswer.{has_one_answer}
use Rattle.printed.specs.Confirmed.{confirmation, EvidenceIsConfirmedByCheck}

-- `check` takes the case that `evidence` took
taken : (words : List (List ℕ)) (format : Encoding) (priority : Priority) (case : List ℕ) (proof : Option (List ℕ)) (a : Answer) (c : Content)
    → AskFor words (on_case format (EvidenceTask priority)) → IsAnswerOf (outcome words (Some case) proof) a → a.status ≡ Done
    → (case_in format case).Gives c → (accepted format check_needs (Some case)).Gives c
unfolding call_of case_call needs_of check_needs
taken words format priority case proof a c asks (inr h) z says = absurd (not_done a.status h.0.cause (ap (λ (x : Answer). x.status) h.2) z)
taken words format priority case proof a c asks (inl h) z says =
    let command_is : h.0 ≡ on_case format (EvidenceTask priority) = (stage_decided (asked_in words)).one h.0 (on_case format (EvidenceTask priority)) h.1 asks in
    let gives = subst (λ command. (call_of command (Some case) proof).Gives a) command_is h.2 in
    let bytes_are = gives.1.1.0 in
    let found : (case_in format case).Gives gives.1.2.0 = subst (λ xs. (case_in format xs).Gives gives.1.2.0) bytes_are gives.1.2.1 in
    let same : gives.0 ≡ c = gives.1.2.2.2.1 ∙ (gives.1.2.2.1.1 ∙ (case_decided format case).one gives.1.2.0 c found says) in
    subst (λ d. (accepted format check_needs (Some case)).Gives d) same gives.1

-- it answers yes, and lists and keeps what the evidence does
confirmed : (words : List (List ℕ)) (format : Encoding) (file : ℕ) (case text : List ℕ) (c : Content) → AskFor words (check format file)
    → (accepted format check_needs (Some case)).Gives c → length text ≤ most_bytes → (p : PrintsEvidence c text)
    → IsAnswerOf (outcome words (Some case) (Some text)) (confirmation c p.evidence)
unfolding call_of check_call check_stage
confirmed words format file case text c asks takes small p =
    let said = said_of p.evidence in
    let is : confirmation c p.evidence ≡ done (check_report c (version_of p.evidence) (stepped (steps_of p.evidence)) (retained (keeps_of p.evidence))) =
    ap (λ n. done (check_report c n (stepped (steps_of p.evidence)) (retained (keeps_of p.evidence)))) (sym p.version) in
    inl (check format file, asks, (c, takes, (text, (refl, small), (said, p.says, (Yes, p.holds, is)))))

pub evidence_confirmed : EvidenceIsConfirmedByCheck
evidence_confirmed words others format priority file case proof a asks h z small checks =
    let r = evidence_closed_test words format priority case proof a asks h z in
    let c = content_of r.draft in
    let takes = taken words format priority case proof a c asks h z (r.draft, r.says, (r.faultless, refl)) in
    let answer = confirmed others format file case a.text c checks takes small r.reports in
    record {
      draft = r.draft;
      says = r.says;
      faultless = r.faultless;
      reports = record {
        prints = r.reports;
        answered = answer;
        only = λ b k. has_one_answer others case a.text b (confirmation c r.reports.evidence) k answer;
      };
    }
