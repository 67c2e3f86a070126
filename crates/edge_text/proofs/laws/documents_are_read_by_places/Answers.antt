use Rattle.edge_text.proofs.FormPlaces.{forms_read}
use Rattle.edge_text.proofs.TextLaws.{says_lines, can_end}
use Rattle.edge_text.proofs.laws.documents_are_read_by_places.Goals as goal

pub returns-clause-said : goal.returns-clause-said
returns-clause-said c = says_lines

pub returns-clause-places : goal.returns-clause-places
returns-clause-places c = λ rows end. forms_read end rows

pub returns-clause-end : goal.returns-clause-end
returns-clause-end c = can_end
