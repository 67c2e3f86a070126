use Rattle.printed.proofs.CataloguePrinted.{catalogue_of_graphs}
use Rattle.printed.proofs.laws.catalogue_is_of_the_named_graphs.Goals as goal

pub returns : goal.returns
returns c = catalogue_of_graphs
