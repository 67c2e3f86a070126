use Rattle.printed.proofs.LesserReports.{reject_no_less}
use Rattle.printed.proofs.laws.lesser_p_values_reject_no_less.Goals as goal

pub returns : goal.returns
returns c = reject_no_less
