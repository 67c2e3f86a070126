use Rattle.std.proofs.Common.{refl, sym, ◌∙◌}
use Rattle.staged_levels.specs.Studies.{positions_of}
use Rattle.staged_levels.specs.StudyView.{study}
use Rattle.entangled.proofs.CaseRuns.{after_next}
use Rattle.staged_levels.proofs.StateFacts.{gone_rejected, live_not_rejected, may_legal, next_study, next_rejection}
use Rattle.staged_levels.proofs.study.Study.reject.Goals as goal

pub returns-then-not-is_in-clause-fault : goal.returns-then-not-is_in-clause-fault
returns-then-not-is_in-clause-fault c =
    λ k T. (refl, gone_rejected k (study c.args.self.now) T c.args.k c.requires (sym c.is_in.ensures ∙ c.if-not-is_in.true))

pub returns-in-None-clause-fault : goal.returns-in-None-clause-fault
returns-in-None-clause-fault c =
    λ k T. (
      refl,
      live_not_rejected k (study c.args.self.now) T c.args.k c.requires (sym c.is_in.ensures ∙ c.if-not-is_in.false),
      c.in-None.ensures.none refl k T,
    )

pub returns-in-Ok-clause-study : goal.returns-in-Ok-clause-study
returns-in-Ok-clause-study c = λ k T. next_study k (study c.args.self.now) T c.args.k _ (study c.remove.new.self) c.in-Some.ensures.some c.in-Ok.ensures.next

pub returns-in-Ok-clause-call : goal.returns-in-Ok-clause-call
returns-in-Ok-clause-call c = λ k T. next_rejection k (study c.args.self.now) T c.args.k _ (study c.remove.new.self) c.in-Some.ensures.some
    c.in-Ok.ensures.next

pub returns-in-Err-clause-fault : goal.returns-in-Err-clause-fault
returns-in-Err-clause-fault c =
    λ k T. (
      may_legal k (study c.args.self.now) T c.args.k _ c.in-Some.ensures.some,
      after_next k (positions_of (study c.args.self.now).looks.rejected) (study c.args.self.now).state c.args.k T.state ∙ c.in-Err.ensures.wide,
    )
