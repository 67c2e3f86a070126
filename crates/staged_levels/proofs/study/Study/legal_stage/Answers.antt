use Rattle.std.proofs.Common.{sym, ◌∙◌}
use Rattle.staged_levels.specs.StudyView.{study}
use Rattle.staged_levels.proofs.StateFacts.{gone_not_legal}
use Rattle.staged_levels.proofs.study.Study.legal_stage.Goals as goal

pub returns-else-is_in-clause-none : goal.returns-else-is_in-clause-none
returns-else-is_in-clause-none c = λ e k T. gone_not_legal k (study c.args.self.now) T c.args.k c.requires (sym c.is_in.ensures ∙ c.if-is_in.false)
