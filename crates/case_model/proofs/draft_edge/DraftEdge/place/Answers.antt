use Rattle.case_model.proofs.TablePlaces.{place_within}
use Rattle.case_model.proofs.draft_edge.DraftEdge.place.Goals as goal

pub returns-clause-within : goal.returns-clause-within
returns-clause-within c = place_within c.args.count c.args.self.now c.requires.ends
