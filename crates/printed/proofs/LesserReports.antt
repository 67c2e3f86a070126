-- Where p-values fall, `test` rejects no less.
use Rattle.std.proofs.Common.{refl, subst, ℕ, List, Option, Some, ◌≡◌}
use Rattle.field_core.specs.Order.{◌≤ε◌}
use Rattle.field_core.specs.declared.ratio.Ratio.{Ratio}
use Rattle.answers.specs.declared.answer.Answer.{Answer}
use Rattle.answers.specs.declared.status.Status.TheVariants.{Done}
use Rattle.answers.specs.Stages.{IsAnswerOf}
use Rattle.case_model.specs.Content.{Content, content_of, entangled, IsRejectedIn}
use Rattle.case_model.specs.Sums.{number_at}
use Rattle.case_model.proofs.ClosedTestLaws.{rejected_below}
use Rattle.command_words.specs.Asked.{Encoding, on_case}
use Rattle.command_words.specs.declared.command.CaseTask.TheVariants.{Test}
use Rattle.sequential.specs.OtherPValues.{with_p}
use Rattle.sequential.specs.declared.priority.Priority.{Priority}
use Rattle.graph_cli.specs.Accepted.{case_in}
use Rattle.graph_cli.specs.Laws.{ReportsClosedTest}
use Rattle.graph_cli.specs.Outcome.{AskFor, outcome}
use Rattle.graph_cli.proofs.AcceptedCases.{case_decided}
use Rattle.graph_cli.proofs.ClosedReports.{reports_closed_test}
use Rattle.printed.specs.Lesser.{LesserPValuesRejectNoLess}

rejections_stay : (c : Content) (ps lesser : List Ratio) (j : ℕ) → ((k : ℕ) → number_at lesser k ≤ε number_at ps k) → IsRejectedIn (with_p c ps) j
    → IsRejectedIn (with_p c lesser) j
unfolding entangled
rejections_stay c ps lesser j below = rejected_below _ _ _ _ below j

-- the report of `test` on the case that bytes denote
report_on : (words : List (List ℕ)) (format : Encoding) (priority : Priority) (case : List ℕ) (proof : Option (List ℕ)) (a : Answer) (c : Content)
    → AskFor words (on_case format (Test priority)) → IsAnswerOf (outcome words (Some case) proof) a → a.status ≡ Done → (case_in format case).Gives c
    → ReportsClosedTest priority c a.text
report_on words format priority case proof a c asks h z says =
    let r = reports_closed_test words format priority case proof a asks h z in
    subst (λ x. ReportsClosedTest priority x a.text) ((case_decided format case).one (content_of r.draft) c (r.draft, r.says, (r.faultless, refl)) says) r.reports

pub reject_no_less : LesserPValuesRejectNoLess
reject_no_less words others format other_format priority other_priority case other proof other_proof a b c ps lesser asks h z ask k y says say below =
    let r = report_on words format priority case proof a (with_p c ps) asks h z says in
    let s = report_on others other_format other_priority other other_proof b (with_p c lesser) ask k y say in
    record {
      first = r;
      second = s;
      stays = λ j x. (s.decided.named j).1 (rejections_stay c ps lesser j below ((r.decided.named j).0 x));
    }
