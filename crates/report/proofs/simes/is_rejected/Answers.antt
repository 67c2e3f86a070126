use Rattle.std.proofs.Common.{ap, sym, ◌∙◌, length}
use Rattle.field_core.proofs.Members.{number_below}
use Rattle.case_model.specs.CaseView.{content}
use Rattle.case_model.specs.ClosedTest.{only}
use Rattle.case_model.specs.SetTableView.{answer_of}
use Rattle.report.proofs.FirstSets.{alone_number}
use Rattle.report.proofs.simes.is_rejected.Goals as goal

pub returns : goal.returns
returns c =
    let number = alone_number (length (content c.args.case.now).names) c.args.j c.requires.below in
    c.get.ensures ∙ ap (answer_of c.args.closed.now) (c.alone.ensures ∙ sym number)

pub get-requires : goal.get-requires
get-requires c =
    let size = length (content c.args.case.now).names in
    rw (c.alone.ensures, c.requires.size, sym (alone_number size c.args.j c.requires.below)) (number_below size (only c.args.j))
