use Rattle.std.proofs.Common.{◌≡◌, ap, sym, ◌∙◌, [], ◌++◌, true, false, append-nil, if◌then◌else◌}
use Rattle.field_core.specs.NumberedSets.{members}
use Rattle.case_model.specs.CaseView.{content}
use Rattle.closed_test.specs.WeightsView.{weight_at}
use Rattle.report.specs.WeightsReport.{member_weight}
use Rattle.report.proofs.weights.put_if_member.Goals as goal

pub returns-then-not-holds : goal.returns-then-not-holds
returns-then-not-holds c =
    let none : members c.args.set c.args.k ≡ false = sym c.holds.ensures ∙ c.if-not-holds.true in
    sym (ap (λ b. c.args.text.now ++ (if b then member_weight (content c.args.case.now) (weight_at c.args.table.now) c.args.set c.args.k else [])) none
    ∙ append-nil c.args.text.now)

pub returns : goal.returns
returns c =
    let member : members c.args.set c.args.k ≡ true = sym c.holds.ensures ∙ c.if-not-holds.false in
    rw member c.put_weight.ensures
