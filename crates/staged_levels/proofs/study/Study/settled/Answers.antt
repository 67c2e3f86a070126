use Rattle.std.proofs.Common.{sym, subst}
use Rattle.case_model.specs.LegalOrder.{IsListed}
use Rattle.staged_levels.specs.Studies.{positions_of}
use Rattle.staged_levels.specs.StudyView.{study}
use Rattle.staged_levels.proofs.StudyFacts.{study_sound, study_complete}
use Rattle.staged_levels.proofs.study.Study.settled.Goals as goal

pub returns-clause-sound : goal.returns-clause-sound
unfolding study
returns-clause-sound c = λ k j T l. study_sound k (study c.args.self.now).looks T.study j
    (subst (λ rs. IsListed (positions_of rs) j) c.as_slice.ensures.value l)

pub returns-clause-complete : goal.returns-clause-complete
unfolding study
returns-clause-complete c = λ k j T none r. subst (λ rs. IsListed (positions_of rs) j) (sym c.as_slice.ensures.value)
    (study_complete k (study c.args.self.now).looks T.study none j r)
