-- What is printed of the looks at a case names exactly what the staged closed test rejects.
use Rattle.std.proofs.Common.{◌≡◌, refl, sym, ap, ◌∙◌, ℕ, ◌==◌, ◌||◌, Bool, true, false, List, [], ◌∷◌, ◌++◌, arith}
use Rattle.std.proofs.lemmas.Bool.Decides.{nat_tests}
use Rattle.std.specs.List.{list_any}
use Rattle.field_core.specs.Sets.{set_of}
use Rattle.answers.specs.declared.answer.Answer.{Answer}
use Rattle.case_model.specs.Content.{Content}
use Rattle.case_model.specs.Validity.{IsValidContent}
use Rattle.command_words.specs.declared.command.CaseTask.TheVariants.{Stages}
use Rattle.staged_levels.specs.declared.event.Settled.{Settled}
use Rattle.staged_levels.specs.Studies.{positions_of}
use Rattle.staged_levels.specs.Looks.{rejected_in}
use Rattle.staged_levels.proofs.LooksDecide.{looks_decide}
use Rattle.report.specs.StagesReport.{is_settled}
use Rattle.graph_cli.specs.Commands.{on_case}
use Rattle.graph_cli.specs.Stages.{stages_stage}
use Rattle.graph_cli.specs.Laws.{ReportsStagedTest, ReportsAreOfTheStagedTest}
use Rattle.graph_cli.proofs.ClosedReports.{reports_case}

pub or_again : (a b c : Bool) → ((a || b) || c) ≡ (a || (b || c))
or_again true b c = refl
or_again false b c = refl

look_listed : (look rest : List Settled) (j : ℕ) → (list_any (λ r. r.hypothesis == j) look || set_of (positions_of rest) j) ≡ set_of
    (positions_of (look ++ rest)) j
look_listed [] rest j = refl
look_listed (r ∷ look) rest j =
    let e : (r.hypothesis == j) ≡ (j == r.hypothesis) = grind (arith, nat_tests) in
    or_again (r.hypothesis == j) _ _
    ∙ (ap (λ b. b || (list_any (λ r. r.hypothesis == j) look || set_of (positions_of rest) j)) e
    ∙ ap (λ b. (j == r.hypothesis) || b) (look_listed look rest j))

settled_listed : (looks : List (List Settled)) (j : ℕ) → is_settled looks j ≡ set_of (positions_of (rejected_in looks)) j
unfolding is_settled
settled_listed [] j = refl
settled_listed (look ∷ looks) j = ap (λ b. list_any (λ r. r.hypothesis == j) look || b) (settled_listed looks j) ∙ look_listed look (rejected_in looks) j

stages_reports : (a : Answer) (c : Content) → IsValidContent c → (on_case Stages c).Gives a → ReportsStagedTest c a.text
unfolding on_case stages_stage
stages_reports a c v g = record {
  looks = g.0;
  text_is = ap (λ (x : Answer). x.text) g.2;
  are_looks = g.1;
  named = λ j. let d = looks_decide c g.0 j v g.1 in let e =
      settled_listed g.0 j in (λ (x : is_settled g.0 j ≡ true). d.0 (sym e ∙ x), λ x. e ∙ d.1 x);
}

pub reports_staged_test : ReportsAreOfTheStagedTest
reports_staged_test words format case proof a asks h z = reports_case ReportsStagedTest words format Stages case proof a (stages_reports a) asks h z
