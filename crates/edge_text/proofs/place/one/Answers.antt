use Rattle.std.proofs.Common.{ap}
use Rattle.fraction.specs.Plain.{pair_of}
use Rattle.fraction.proofs.SameRatios.{same_ratio}
use Rattle.edge_text.specs.Grammar.{one}
use Rattle.edge_text.proofs.place.one.Goals as goal

pub returns : goal.returns
returns c = same_ratio c.one.result one (ap pair_of c.one.ensures)
