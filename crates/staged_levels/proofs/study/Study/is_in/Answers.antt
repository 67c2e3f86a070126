use Rattle.staged_levels.specs.StudyView.{study}
use Rattle.staged_levels.proofs.AnyStudy.{within_state}
use Rattle.staged_levels.proofs.study.Study.is_in.Goals as goal

pub is_live-requires : goal.is_live-requires
unfolding study
is_live-requires c = within_state (study c.args.self.now) c.args.self.now.whole c.args.k c.requires
