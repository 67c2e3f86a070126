use Rattle.std.proofs.Common.{arith}
use Rattle.case_model.specs.CaseView.{content}
use Rattle.case_model.proofs.CaseFacts.{names_few}
use Rattle.study_cli.proofs.LookPlaces.{place_below}
use Rattle.study_cli.proofs.rules.look.Goals as goal

pub overflow_cast-result : goal.overflow_cast-result
overflow_cast-result c =
    let below = place_below c.in-Some.name.now (content c.args.case.now).names c.in-Some-position.hypothesis c.in-Some-position.ensures in
    let few = names_few c.args.case.now in
    omega (arith, below, few)
