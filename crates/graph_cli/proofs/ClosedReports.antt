-- What is printed of a case that is accepted names exactly what the closed test rejects.
use Rattle.std.proofs.Common.{◌≡◌, refl, sym, ap, subst, ◌∙◌, ℕ, ◌==◌, true, List, [], ◌∷◌, Some, None, inl, inr, arith}
use Rattle.std.specs.Prelude.{◌↔◌, Option}
use Rattle.std.proofs.lemmas.Bool.Decides.{nat_tests}
use Rattle.std.specs.List.{list_any}
use Rattle.field_core.specs.Sets.{set_of, whole}
use Rattle.fraction.specs.View.{number_of}
use Rattle.answers.specs.declared.answer.Answer.{Answer}
use Rattle.answers.specs.Stages.{IsAnswerOf}
use Rattle.answers.specs.declared.cause.Cause.{Cause}
use Rattle.answers.specs.declared.status.Status.{Status}
use Rattle.answers.specs.declared.status.Status.TheVariants.{Done, Refused}
use Rattle.case_model.specs.CaseFaults.{case_fault}
use Rattle.case_model.proofs.DraftValidity.{valid_of}
use Rattle.case_model.specs.Content.{Content, ForSingle, content_of, entangled, IsRejectedIn}
use Rattle.case_model.specs.declared.draft.Draft.{Draft}
use Rattle.case_model.specs.LegalOrder.{IsLegalOrder, IsComplete}
use Rattle.case_model.specs.Sums.{number_at}
use Rattle.case_model.specs.Validity.{IsValidContent}
use Rattle.case_model.proofs.SingleInputs.{for_single}
use Rattle.case_model.proofs.ValidContents.{valid_content}
use Rattle.edge_text.proofs.Texts.{document_ends, document_arrivals}
use Rattle.case_csv.specs.Table.{cells_of}
use Rattle.case_csv.proofs.NoArrivals.{table_ends, no_arrivals}
use Rattle.case_json.proofs.Drafts.{says_ends, says_arrivals}
use Rattle.command_words.specs.Asked.{Encoding, text, csv, json, on_case}
use Rattle.command_words.specs.declared.command.CaseTask.{CaseTask}
use Rattle.command_words.specs.declared.command.CaseTask.TheVariants.{Test}
use Rattle.command_words.specs.Words.{asked_in}
use Rattle.answers.proofs.Decided.{stage_decided}
use Rattle.sequential.specs.declared.decision.StepLine.{StepLine}
use Rattle.sequential.specs.declared.decision.Decision.{Decision}
use Rattle.sequential.specs.Decisions.{hypotheses, IsDecision, IsDecisionWith}
use Rattle.sequential.specs.declared.priority.Priority.{Priority}
use Rattle.sequential.proofs.DecisionLaws.{decision_decides, priority_order}
use Rattle.adjusted_p.specs.declared.adjusted.Adjusted.{Adjusted}
use Rattle.adjusted_p.specs.AdjustedLists.{AreAdjusted}
use Rattle.report.specs.TestReport.{is_rejected, test_report}
use Rattle.graph_cli.specs.Accepted.{grammar}
use Rattle.graph_cli.specs.Commands.{call_of, case_call, on_case as answers_on_case}
use Rattle.graph_cli.specs.Test.{test_stage}
use Rattle.graph_cli.specs.Laws.{IsLegalOrderIn, IsCompleteIn, DecidesByTheClosedTest, ReportsClosedTest, ReportsCase, ReportsAreOfTheClosedTest}
use Rattle.graph_cli.specs.Outcome.{AskFor, outcome}

any_listed : (steps : List StepLine) (j : ℕ) → list_any (λ x. x.hypothesis == j) steps ≡ set_of (hypotheses steps) j
any_listed [] j = refl
any_listed (x ∷ xs) j = let e : (x.hypothesis == j) ≡ (j == x.hypothesis) = grind (arith, nat_tests) in rw (e, any_listed xs j) refl

named_listed : (steps : List StepLine) (j : ℕ) → is_rejected steps j ≡ set_of (hypotheses steps) j
unfolding is_rejected
named_listed steps j = any_listed steps j

-- what a format says without a fault has a valid content
pub valid_said : (format : Encoding) (bytes : List ℕ) (d : Draft) → (grammar format bytes).Gives d → case_fault d ≡ None → IsValidContent (content_of d)
valid_said text bytes d t = valid_of d (document_ends bytes d t) (document_arrivals bytes d t)
valid_said (csv alpha) bytes d t = valid_of d (table_ends (cells_of bytes) alpha d t) (no_arrivals (cells_of bytes) alpha d t)
valid_said json bytes d t = valid_of d (says_ends bytes d t) (says_arrivals bytes d t)

-- a refusal isn't done
pub not_done : (s : Status) (cause : Cause) → s ≡ Refused cause → s ≡ Done → ⊥
not_done s cause e f = cc

-- the steps of a decision are a legal order
legal_order : (c : Content) (priority : Priority) (d : Decision) → IsValidContent c → IsDecision c priority d → IsLegalOrderIn c (hypotheses d.steps)
legal_order c priority d v h =
    for_single (λ ps. IsDecisionWith c ps priority d)
    (λ i. ForSingle i (λ ps. IsLegalOrder (entangled c) (number_at ps) (number_of c.alpha) whole (hypotheses d.steps)))
    (λ ps D. (priority_order (entangled c) (number_at ps) (number_of c.alpha) priority (hypotheses d.steps) (valid_content c v) D.order).0) c.inputs h

-- after its steps no hypothesis is legal
complete_order : (c : Content) (priority : Priority) (d : Decision) → IsValidContent c → IsDecision c priority d → IsCompleteIn c (hypotheses d.steps)
complete_order c priority d v h =
    for_single (λ ps. IsDecisionWith c ps priority d)
    (λ i. ForSingle i (λ ps. IsComplete (entangled c) (number_at ps) (number_of c.alpha) whole (hypotheses d.steps)))
    (λ ps D. (priority_order (entangled c) (number_at ps) (number_of c.alpha) priority (hypotheses d.steps) (valid_content c v) D.order).1) c.inputs h

-- the line `rejected` of a decision on a case names exactly the hypotheses that the closed test rejects
names_rejected : (c : Content) (priority : Priority) (d : Decision) → IsValidContent c → IsDecision c priority d → (j : ℕ)
    → (is_rejected d.steps j ≡ true) ↔ IsRejectedIn c j
names_rejected c priority d v h j =
    let r = decision_decides c priority d v j h in
    (λ (x : is_rejected d.steps j ≡ true). r.0 (sym (named_listed d.steps j) ∙ x), λ x. named_listed d.steps j ∙ r.1 x)

pub by_the_closed_test : (c : Content) (priority : Priority) (d : Decision) → IsValidContent c → IsDecision c priority d
    → DecidesByTheClosedTest priority c d
by_the_closed_test c priority d v h = record {
  decides = h;
  legal = legal_order c priority d v h;
  complete = complete_order c priority d v h;
  named = names_rejected c priority d v h;
}

reported : (c : Content) (priority : Priority) (d : Decision) (xs : List Adjusted) (printed : List ℕ) → IsValidContent c → IsDecision c priority d
    → AreAdjusted c xs → printed ≡ test_report c d xs → ReportsClosedTest priority c printed
reported c priority d xs printed v h k e = record {
  decision = d;
  adjusted = xs;
  text_is = e;
  decided = by_the_closed_test c priority d v h;
  values = k;
}

-- What a task on a case answers with status 0 is of a draft without a fault, which the bytes say.
pub reports_case : (Reports : Content → List ℕ → Type 0) (words : List (List ℕ)) (format : Encoding) (task : CaseTask) (case : List ℕ)
    (proof : Option (List ℕ)) (a : Answer)
    → ((c : Content) → IsValidContent c → (answers_on_case task c).Gives a → Reports c a.text)
    → AskFor words (on_case format task) → IsAnswerOf (outcome words (Some case) proof) a → a.status ≡ Done → ReportsCase Reports format case a.text
unfolding call_of case_call
reports_case Reports words format task case proof a of_case asks (inr h) z = absurd (not_done a.status h.0.cause (ap (λ (x : Answer). x.status) h.2) z)
reports_case Reports words format task case proof a of_case asks (inl h) z =
    let command_is : h.0 ≡ on_case format task = (stage_decided (asked_in words)).one h.0 (on_case format task) h.1 asks in
    let gives = subst (λ command. (call_of command (Some case) proof).Gives a) command_is h.2 in
    let bytes_are = gives.1.1.0 in
    let read = gives.1.2.1 in
    let draft = read.0 in
    let content_is : gives.0 ≡ content_of draft = gives.1.2.2.2.1 ∙ (gives.1.2.2.1.1 ∙ read.2.1) in
    let valid = subst IsValidContent (sym content_is) (valid_said format _ draft read.1 read.2.0) in
    record {
      draft = draft;
      says = subst (λ xs. (grammar format xs).Gives draft) bytes_are read.1;
      faultless = read.2.0;
      reports = subst (λ c. Reports c a.text) content_is (of_case gives.0 valid gives.2);
    }

test_reports : (priority : Priority) (a : Answer) (c : Content) → IsValidContent c → (answers_on_case (Test priority) c).Gives a
    → ReportsClosedTest priority c a.text
unfolding answers_on_case test_stage
test_reports priority a c v g = reported c priority g.0 g.2.0 a.text v g.1.1 g.2.1.1 (ap (λ (x : Answer). x.text) g.2.2)

pub reports_closed_test : ReportsAreOfTheClosedTest
reports_closed_test words format priority case proof a asks h z =
    reports_case (ReportsClosedTest priority) words format (Test priority) case proof a (test_reports priority a) asks h z
