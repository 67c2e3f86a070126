use Rattle.edge_text.proofs.LinesSaid.{numbers_read, edges_read, stages_read}
use Rattle.edge_text.proofs.laws.lines_are_read.Goals as goal

pub returns-clause-numbers : goal.returns-clause-numbers
returns-clause-numbers c = numbers_read

pub returns-clause-edges : goal.returns-clause-edges
returns-clause-edges c = edges_read

pub returns-clause-stages : goal.returns-clause-stages
returns-clause-stages c = stages_read
