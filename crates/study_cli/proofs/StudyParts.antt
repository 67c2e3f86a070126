-- What a call of a study does, from what its parts do: the case, the commands, and then the kept looks and the replies.
use Rattle.std.proofs.Common.{◌≡◌, ◌⊎◌, inl, inr, refl, sym, ◌∙◌, ℕ, List, [], Result, Ok, Err}
use Rattle.std.specs.Prelude.{codes, ⊤}
use Rattle.std.specs.declared.option.Option.{Option}
use Rattle.graph_io.specs.declared.keeper.Look.{Look}
use Rattle.answers.specs.declared.answer.Answer.{Answer}
use Rattle.answers.specs.declared.refusal.Refusal.{Refusal}
use Rattle.answers.specs.declared.stop.Stop.{Stop}
use Rattle.answers.specs.declared.stop.Stop.TheVariants.{Refused, ReadFault, KeeperFault, NoMemory}
use Rattle.answers.specs.Stages.{on_bytes, within}
use Rattle.answers.specs.Ways.{Ways, StopsIn, EndsIn, over_values, over_source}
use Rattle.answers.proofs.Stopping.{value_stops, source_stops}
use Rattle.case_model.specs.Content.{Content}
use Rattle.command_words.specs.Asked.{StudyAsked}
use Rattle.study_cli.specs.declared.command.StudyCommand.{StudyCommand}
use Rattle.study_cli.specs.AnswerView.{HoldSome, IsLastFailed, MayKeep}
use Rattle.study_cli.specs.KeeperWays.{over_keeper}
use Rattle.study_cli.specs.StudyStages.{HasOpening, study_stage, on_looks}
use Rattle.study_cli.proofs.Looks.{with_none}
use Rattle.study_cli.specs.StudyOutcome.{case_of, commands_in, commands_from, study_call, HasStudyCase, HasStudyOpening, MayBeKept}

module _ (asked : StudyAsked) (case commands : Option (List ℕ)) (kept held : Option (List Look)) (before now : ℕ)
    (case_rose commands_rose keeper_rose case_clean commands_clean keeper_clean : Type 0) where
  -- the ways of the call
  abbrev Called : Ways Answer
  Called = over_keeper (study_call asked case commands kept) (MayBeKept asked case commands kept)
      (case_rose ⊎ (HasStudyCase asked case × commands_rose)) (HasStudyOpening asked case commands × keeper_rose)
      (case_clean × commands_clean) keeper_clean kept held before now

  -- nothing is kept before the keeper is asked
  none_kept : held ≡ kept → HoldSome (MayBeKept asked case commands kept) kept held
  none_kept e = record { more = []; may = inl refl; held_is = e ∙ sym (with_none kept) }

  pub case_stops : (stop : Stop) → held ≡ kept → commands_clean → keeper_clean → StopsIn (over_source (case_of asked case) case_rose case_clean) stop
      → StopsIn Called stop
  unfolding study_call
  case_stops stop e same idle h =
      source_stops _ Called.Refuses Called.read Called.keeper Called.memory case_rose case_clean stop (λ (r : Refusal) x k. (inl x, e, (k, same), idle)) (λ f. (inl f, e, idle))
      (λ k. (none_kept e, (k, same), idle)) h

  module _ (c : Content) (taken : (case_of asked case).Gives c) (clean : case_clean) (idle : keeper_clean) where
    pub bytes_stop : (stop : Stop) → held ≡ kept
        → StopsIn (over_source (on_bytes commands (within (codes "commands "))) commands_rose commands_clean) stop → StopsIn Called stop
    unfolding study_call
    bytes_stop stop e h =
        source_stops _ Called.Refuses Called.read Called.keeper Called.memory commands_rose commands_clean stop
        (λ (r : Refusal) x k. (inr (c, taken, inl (inl x)), e, (clean, k), idle)) (λ f. (inr ((c, taken), f), e, idle))
        (λ k. (none_kept e, (clean, k), idle)) h

    pub commands_stop : (bytes : List ℕ) → (on_bytes commands (within (codes "commands "))).Gives bytes → commands_clean → (stop : Stop) → held ≡ kept
        → StopsIn (over_values (commands_in c bytes)) stop → StopsIn Called stop
    unfolding study_call
    commands_stop bytes given same stop e h =
        value_stops _ Called.Refuses Called.read Called.keeper Called.memory stop (λ (r : Refusal) x. (inr (c, taken, inl (inr (bytes, given, x))), e, (clean, same), idle))
        (none_kept e, (clean, same), idle) h

  module _ (c : Content) (taken : (case_of asked case).Gives c) (list : List StudyCommand) (said : (commands_from c commands).Gives list)
      (clean : case_clean) (same : commands_clean) where
    -- the ways of the replies
    abbrev Replied : Ways Answer
    Replied = over_keeper (on_looks kept (study_stage c list)) (MayKeep c list kept) ⊥ (HasOpening c × keeper_rose) ⊤ keeper_clean kept held before now

    -- the looks that may be added by the replies
    may_keep : HoldSome (MayKeep c list kept) kept held → HoldSome (MayBeKept asked case commands kept) kept held
    may_keep h = record { more = h.more; may = inr (c, taken, list, said, h.may); held_is = h.held_is }

    failed : HoldSome (λ more. MayKeep c list kept more × IsLastFailed before now more) kept held
        → HoldSome (λ more. MayBeKept asked case commands kept more × IsLastFailed before now more) kept held
    failed h = record { more = h.more; may = (inr (c, taken, list, said, h.may.0), h.may.1); held_is = h.held_is }

    pub replies_end : (result : Result Answer Stop) → EndsIn Replied result → EndsIn Called result
    unfolding study_call
    replies_end (Ok a) h = (record { more = h.0.more; given = (c, taken, (list, said, h.0.given)); held_is = h.0.held_is; calls_are = h.0.calls_are }, (clean, same), h.2)
    replies_end (Err (Refused r)) h = (inr (c, taken, inr (list, said, h.0)), h.1, (clean, same), h.3)
    replies_end (Err ReadFault) h = absurd h.0
    replies_end (Err KeeperFault) h = (((c, taken, list, said, h.0.0), h.0.1), failed h.1, (clean, same))
    replies_end (Err NoMemory) h = (may_keep h.0, (clean, same), h.2)
