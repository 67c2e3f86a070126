-- What a call with words does, from what the study that they ask for does.
use Rattle.std.proofs.Common.{◌≡◌, ◌⊎◌, inl, inr, sym, ◌∙◌, subst, ℕ, List, Result, Ok, Err}
use Rattle.std.specs.Prelude.{OnOk}
use Rattle.std.specs.declared.option.Option.{Option}
use Rattle.graph_io.specs.declared.keeper.Look.{Look}
use Rattle.answers.specs.declared.answer.Answer.{Answer}
use Rattle.answers.specs.declared.stop.Stop.{Stop}
use Rattle.answers.specs.declared.stop.Stop.TheVariants.{Refused, ReadFault, KeeperFault, NoMemory}
use Rattle.answers.specs.Ways.{Ways, EndsIn}
use Rattle.case_model.specs.Content.{Content}
use Rattle.case_model.specs.declared.inputs.Inputs.{Inputs}
use Rattle.case_model.specs.declared.inputs.Inputs.TheVariants.{Bare, Single as Values, Staged as Stages}
use Rattle.command_words.specs.Asked.{StudyAsked}
use Rattle.command_words.specs.Words.{study_in}
use Rattle.answers.proofs.Decided.{stage_decided}
use Rattle.graph_cli.specs.Accepted.{IsOfKind}
use Rattle.graph_cli.specs.Outcome.{AskStudy}
use Rattle.graph_cli.specs.declared.kind.InputKind.TheVariants.{Awaited}
use Rattle.staged_levels.specs.StudyAnswers.{IsStaged}
use Rattle.study_cli.specs.AnswerView.{HoldSome, IsLastFailed}
use Rattle.study_cli.specs.KeeperWays.{over_keeper}
use Rattle.study_cli.specs.StudyOutcome.{study_needs, case_of, study_call, study_outcome, HasStudyCase, HasStudyOpening, MayBeKept, ReadRose, KeeperRose, MayEnd}

module _ (words : List (List ℕ)) (case commands : Option (List ℕ)) (kept held : Option (List Look)) (before now : ℕ) (asked : StudyAsked) (asks : AskStudy words asked)
    (P Q R read_clean keeper_clean : Type 0) where
  -- the ways of the study that is requested
  abbrev Called : Ways Answer
  Called = over_keeper (study_call asked case commands kept) (MayBeKept asked case commands kept)
      (P ⊎ (HasStudyCase asked case × Q)) (HasStudyOpening asked case commands × R) read_clean keeper_clean kept held before now

  -- the ways of the call with these words
  abbrev Whole : Ways Answer
  Whole = over_keeper (study_outcome words case commands kept) (MayEnd words case commands kept)
      (ReadRose words case P Q) (KeeperRose words case commands R) read_clean keeper_clean kept held before now

  rose_by : P ⊎ (HasStudyCase asked case × Q) → ReadRose words case P Q
  rose_by (inl p) = inl ((asked, asks), p)
  rose_by (inr q) = inr ((asked, asks, q.0), q.1)

  may_end : HoldSome (MayBeKept asked case commands kept) kept held → HoldSome (MayEnd words case commands kept) kept held
  may_end h = record { more = h.more; may = inr (asked, asks, h.may); held_is = h.held_is }

  failed : HoldSome (λ more. MayBeKept asked case commands kept more × IsLastFailed before now more) kept held
      → HoldSome (λ more. MayEnd words case commands kept more × IsLastFailed before now more) kept held
  failed h = record { more = h.more; may = (inr (asked, asks, h.may.0), h.may.1); held_is = h.held_is }

  pub asked_ends : (result : Result Answer Stop) → EndsIn Called result → EndsIn Whole result
  asked_ends (Ok a) h = (record { more = h.0.more; given = (asked, asks, h.0.given); held_is = h.0.held_is; calls_are = h.0.calls_are }, h.1, h.2)
  asked_ends (Err (Refused r)) h = (inr (asked, asks, h.0), h.1, h.2, h.3)
  asked_ends (Err ReadFault) h = (rose_by h.0, h.1, h.2)
  asked_ends (Err KeeperFault) h = ((asked, asks, h.0.0, h.0.1), failed h.1, h.2)
  asked_ends (Err NoMemory) h = (may_end h.0, h.1, h.2)

awaited_staged : (inputs : Inputs) → IsOfKind Awaited inputs → IsStaged inputs
awaited_staged (Stages s) h = tt
awaited_staged Bare h = absurd h
awaited_staged (Values ps) h = absurd h

-- a case that a study can take has stages
pub case_is_staged : (asked : StudyAsked) (case : Option (List ℕ)) (c : Content) → (case_of asked case).Gives c → IsStaged c.inputs
unfolding study_needs
case_is_staged asked case c h = awaited_staged c.inputs (subst (λ (x : Content). IsOfKind Awaited x.inputs) (sym (h.2.2.2.1 ∙ h.2.2.1.1)) h.2.2.1.0)

-- words that aren't accepted ask a study for nothing
pub unasked : (words : List (List ℕ)) (asked : StudyAsked) (n : ℕ) → AskStudy words asked → study_in words ≡ Err n → ⊥
unasked words asked n a e = (stage_decided (study_in words)).not_both asked n a e

-- two facts that come with an answer, one by one
pub first_on : (result : Result Answer Stop) (P Q : Type 0) → OnOk result (P × Q) → OnOk result P
first_on (Ok a) P Q h = h.0
first_on (Err stop) P Q h = tt

pub second_on : (result : Result Answer Stop) (P Q : Type 0) → OnOk result (P × Q) → OnOk result Q
second_on (Ok a) P Q h = h.1
second_on (Err stop) P Q h = tt
