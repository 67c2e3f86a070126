use Rattle.std.proofs.Common.{◌≡◌, subst, length}
use Rattle.field_core.specs.Sets.{whole}
use Rattle.field_core.specs.Runs.{IsOrder}
use Rattle.case_model.specs.CaseView.{content}
use Rattle.entangled.specs.CaseNetView.{case_state}
use Rattle.entangled.proofs.CaseLevels.{case_sizes}
use Rattle.graph_update.proofs.updated.update.Goals as goal

pub text_of-requires : goal.text_of-requires
text_of-requires c =
    let k = content c.args.case.now in
    let order : IsOrder (length k.names) whole c.args.removed.now =
    subst (λ n. IsOrder n whole c.args.removed.now) c.size.ensures.count (c.are_positions.ensures.0 c.if-not-are_positions.false) in
    case_sizes k c.args.removed.now (case_state c.in_ok-nets.nets) c.args.case.now.valid order c.in_ok-nets.ensures.nets
