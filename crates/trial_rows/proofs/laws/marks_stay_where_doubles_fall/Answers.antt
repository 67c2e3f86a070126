use Rattle.trial_rows.proofs.LesserRows.{marks_stay}
use Rattle.trial_rows.proofs.laws.marks_stay_where_doubles_fall.Goals as goal

pub returns : goal.returns
returns c = marks_stay
