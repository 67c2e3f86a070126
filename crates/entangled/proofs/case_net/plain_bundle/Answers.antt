use Rattle.case_model.specs.CaseView.{content}
use Rattle.case_numbers.specs.Numbers.{in_fractions}
use Rattle.entangled.proofs.CaseLevels.{ready}
use Rattle.entangled.proofs.case_net.plain_bundle.Goals as goal

pub bundle-requires : goal.bundle-requires
bundle-requires c = ready (content c.args.case.now) c.args.case.now.valid in_fractions c.requires _ c.in_ok-nets.ensures
