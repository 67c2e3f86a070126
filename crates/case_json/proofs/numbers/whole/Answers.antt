use Rattle.std.specs.Int.{w128}
use Rattle.std.proofs.lemmas.Int.{to_z-of_z}
use Rattle.std.proofs.Common.{rules}
use Rattle.case_json.specs.WholeRatios.{whole_reduced}
use Rattle.case_json.proofs.WholeNumbers.{whole_is}
use Rattle.case_json.proofs.numbers.whole.Goals as goal

pub new-requires : goal.new-requires
new-requires c = rw (to_z-of_z w128 c.args.number c.ranges.number) (whole_reduced c.args.number c.requires)

pub returns : goal.returns
returns c = whole_is c.args.number _ c.requires (search rules)
