use Rattle.std.proofs.Common.{sym, subst}
use Rattle.answers.specs.Stages.{seen_by}
use Rattle.answers.specs.Ways.{EndsIn, over_values}
use Rattle.case_model.specs.CaseView.{content}
use Rattle.command_words.specs.Asked.{encoding}
use Rattle.graph_cli.specs.Accepted.{case_in}
use Rattle.graph_cli.proofs.accepted.read_case.Goals as goal

pub returns-in-Text : goal.returns-in-Text
returns-in-Text c = subst (λ format. EndsIn (over_values (seen_by content (case_in (encoding format) c.args.bytes.now))) c.text_case.result)
    (sym c.in-Text.is) c.text_case.ensures

pub returns-in-Csv : goal.returns-in-Csv
returns-in-Csv c = subst (λ format. EndsIn (over_values (seen_by content (case_in (encoding format) c.args.bytes.now))) c.csv_case.result)
    (sym c.in-Csv.is) c.csv_case.ensures

pub returns-in-Json : goal.returns-in-Json
returns-in-Json c = subst (λ format. EndsIn (over_values (seen_by content (case_in (encoding format) c.args.bytes.now))) c.json_case.result)
    (sym c.in-Json.is) c.json_case.ensures
