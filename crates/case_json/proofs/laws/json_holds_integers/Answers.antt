use Rattle.case_json.proofs.HeldIntegers.{held_integers}
use Rattle.case_json.proofs.laws.json_holds_integers.Goals as goal

pub returns : goal.returns
returns c = held_integers
