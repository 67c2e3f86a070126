-- Each study has an outcome.
use Rattle.std.proofs.Common.{◌⊎◌, inl, inr, refl, ap, ℕ, ◌+◌, arith, List, [], ◌∷◌, ◌++◌, length, Option, Some, None}
use Rattle.std.proofs.Common.{Ok}
use Rattle.std.specs.List.{AllByRecursion}
use Rattle.std.specs.Prelude.{codes}
use Rattle.field_core.specs.Answers.{told_as as result_told}
use Rattle.field_core.specs.declared.place.WideAt.{WideAt}
use Rattle.graph_io.specs.declared.keeper.Look.{Look}
use Rattle.answers.specs.Lines.{done, refused}
use Rattle.answers.specs.Stages.{Stage, Ends, stage_of, on_bytes, within, told_as}
use Rattle.answers.proofs.Decided.{stage_ends}
use Rattle.case_model.specs.Content.{Content}
use Rattle.case_model.specs.Validity.{IsValidContent}
use Rattle.command_words.specs.Asked.{StudyAsked}
use Rattle.command_words.specs.Words.{study_in}
use Rattle.refusals.specs.RecordRefusal.{record_refusal}
use Rattle.refusals.specs.UsageRefusal.{usage}
use Rattle.refusals.specs.WideRefusal.{wide_refusal}
use Rattle.refusals.specs.declared.wide.When.TheVariants.{Look as AfterLook}
use Rattle.report.specs.StudyReport.{Reply, taken, refused as refusing, shown, study_report}
use Rattle.staged_levels.specs.Looks.{IsDefined}
use Rattle.staged_levels.specs.Studies.{StudyState, start, IsStudyOf}
use Rattle.study_register.specs.RegisterFaults.{IsFirstStop, IsStopped}
use Rattle.study_register.specs.declared.fault.RegisterFault.{RegisterFault}
use Rattle.study_register.specs.declared.fault.RegisterFault.TheVariants.{BadLook, Wide, Fault, NoMemory}
use Rattle.study_register.proofs.EachEnd.{look_ends, follows_defined, each_opening_ends}
use Rattle.study_register.proofs.RegisterSteps.{first_not_fault}
use Rattle.study_register.proofs.TakenLooks.{taken_study, taken_is_study}
use Rattle.study_cli.specs.Commands.{commands_of}
use Rattle.study_cli.specs.CommandFaults.{on_line}
use Rattle.study_cli.specs.CommandLines.{IsBelow}
use Rattle.study_cli.specs.Replies.{taken_in, looks_taken, IsReply, AreReplies, IsBreak, IsFirstBreak}
use Rattle.study_cli.specs.StudyStages.{opened, answering, study_stage, on_looks}
use Rattle.study_cli.specs.declared.command.StudyCommand.{StudyCommand}
use Rattle.study_cli.specs.declared.command.StudyCommand.TheVariants.{Take, Show}
use Rattle.study_cli.proofs.CommandReads.{read_below}
use Rattle.study_cli.specs.StudyOutcome.{study_needs, commands_in, case_of, commands_from, study_call}
use Rattle.answers_exist.specs.Existence.{StudiesHaveAnOutcome}
use Rattle.answers_exist.proofs.AcceptedCases.{accepted_ends, accepted_taken}
use Rattle.answers_exist.proofs.Ends.{then_ends, told_ends, within_ends, bytes_end}

-- ---- commands

commands_end : (c : Content) (bytes : List ℕ) → Ends (commands_in c bytes)
commands_end c bytes = told_ends _ _ (stage_ends (commands_of c.names bytes))

-- what commands say of looks is of hypotheses of the case
commands_below : (c : Content) (bytes : List ℕ) (list : List StudyCommand) → (commands_in c bytes).Gives list
    → AllByRecursion (IsBelow (length c.names)) list
unfolding commands_of
commands_below c bytes list e = read_below c.names bytes (Ok list) (ap (result_told on_line) e)

no_memory : (c : Content) (ls : List Look) (s : StudyState) (n : ℕ) → ¬ IsFirstStop c s n ls NoMemory
no_memory c [] s n h = h
no_memory c (l ∷ ls) s n (inl h) = h
no_memory c (l ∷ ls) s n (inr h) = no_memory c ls h.0 (n + 1) h.2

-- ---- replies

module _ (c : Content) where
  -- a study whose removals are defined
  record IsOpen (s : StudyState) : Type 0 where
    study : IsStudyOf c s
    is_defined : IsDefined c s

  -- the reply to a command, or the look that it asks for stops part way
  reply_or_break : (n : ℕ) (s : StudyState) (x : StudyCommand) → IsOpen s → IsBelow (length c.names) x
      → ((r : Reply) × (new : StudyState) × IsReply c n s x r new × IsOpen new) ⊎ ((place : ℕ) × (w : WideAt) × IsBreak c s x place w)
  reply_or_break n s Show O b = inl (shown (length s.values) s.rejected, s, (refl, refl, refl), O)
  reply_or_break n s (Take l) O b = elim (look_ends c s O.study O.is_defined l) [
    | inl t ↦ inl (taken l t.1.0, t.0, (refl, t.1.1), record { study = taken_study c s t.0 l O.study t.1; is_defined = t.1.1.is_defined })
    | inr (inl (inl above)) ↦ absurd (omega (arith, above, b))
    | inr (inl (inr f)) ↦ inl (refusing n f.0, s, (refl, f.1, refl), O)
    | inr (inr w) ↦ inr (length s.values + 1, w.0, (refl, w.1))
  ]

  -- all commands are replied to, or one is the first that stops part way
  replies_or_break : (xs : List StudyCommand) (n : ℕ) (s : StudyState) → IsOpen s → AllByRecursion (IsBelow (length c.names)) xs
      → ((rs : List Reply) × (end : StudyState) × AreReplies c n s xs rs end)
      ⊎ ((looks : List Look) × (place : ℕ) × (w : WideAt) × IsFirstBreak c n s xs looks place w)
  replies_or_break [] n s O b = inl ([], s, refl)
  replies_or_break (x ∷ xs) n s O b = elim (reply_or_break n s x O b.0) [
    | inr k ↦ inr ([], k.0, k.1, inl (refl, k.2))
    | inl r ↦ elim (replies_or_break xs (n + 1) r.1 r.3 b.1) [
      | inl rs ↦ inl (r.0 ∷ rs.0, rs.1, (r.1, r.2, rs.2))
      | inr k ↦ inr (taken_in r.0 ++ k.0, k.1, k.2, inr (r.0, r.1, k.0, r.2, refl, k.3))
    ]
  ]

  answering_ends : (records : ℕ) (xs : List StudyCommand) (s : StudyState) → IsOpen s → AllByRecursion (IsBelow (length c.names)) xs
      → Ends (answering c records xs s)
  answering_ends records xs s O b = elim (replies_or_break xs 1 s O b) [
    | inl rs ↦ inl (
      record { answer = done (study_report c records rs.0); looks = looks_taken rs.0 },
      inl (record { replies = rs.0; end = rs.1; are = rs.2; answer_is = refl; looks_are = refl }),
    )
    | inr k ↦ inl (
      record { answer = refused (wide_refusal c.names (AfterLook k.1) k.2); looks = k.0 },
      inr (record { place = k.1; wide = k.2; first = k.3; answer_is = refl }),
    )
  ]

  -- ---- the opening

  stop_ends : (looks : List Look) (why : RegisterFault) → IsStopped c looks why → Ends (opened c looks)
  stop_ends looks (BadLook n l) h = inr (record_refusal n, (BadLook n l, h, refl))
  stop_ends looks (Wide n w) h = inr (wide_refusal c.names (AfterLook n) w, (Wide n w, inr h, refl))
  stop_ends looks Fault h = absurd (first_not_fault c looks start 1 h.first)
  stop_ends looks NoMemory h = absurd (no_memory c looks start 1 h.first)

  opened_ends : IsValidContent c → (looks : List Look) → Ends (opened c looks)
  opened_ends V looks = elim (each_opening_ends c looks V) [
    | inl s ↦ inl s
    | inr (inl f) ↦ stop_ends looks f.0 f.1
    | inr (inr w) ↦ inr (wide_refusal c.names (AfterLook 0) w.0, (Wide 0 w.0, inl (refl, w.1), refl))
  ]

  study_ends : IsValidContent c → (xs : List StudyCommand) → AllByRecursion (IsBelow (length c.names)) xs → (looks : List Look)
      → Ends (study_stage c xs looks)
  unfolding study_stage
  study_ends V xs b looks =
      then_ends (opened c looks) (answering c (length looks) xs) (opened_ends V looks)
      (λ s T. answering_ends (length looks) xs s
      (record { study = taken_is_study c V looks s T; is_defined = follows_defined c looks start s T.opened T.follows }) b)

-- ---- studies

-- a keeper that doesn't expose its looks may have had none
looks_end : {R A : Type 0} (kept : Option (List Look)) (s : List Look → Stage R A) → ((looks : List Look) → Ends (s looks)) → Ends (on_looks kept s)
looks_end (Some looks) s each = each looks
looks_end None s each = elim (each []) [ inl x ↦ inl (x.0, ([], x.1)) | inr r ↦ inr (r.0, ([], r.1)) ]

said_in : (c : Content) (source : Option (List ℕ)) (list : List StudyCommand) → (commands_from c source).Gives list
    → AllByRecursion (IsBelow (length c.names)) list
said_in c source list g = commands_below c g.0 list g.2

call_ends : (asked : StudyAsked) (case commands : Option (List ℕ)) (kept : Option (List Look)) → Ends (study_call asked case commands kept)
unfolding study_call
call_ends asked case commands kept =
    then_ends (case_of asked case) _ (accepted_ends asked.format study_needs case)
    (λ c g. let T = accepted_taken asked.format study_needs case c g in
    then_ends (commands_from c commands) _
    (then_ends (on_bytes commands (within (codes "commands "))) (commands_in c)
    (bytes_end commands (within (codes "commands ")) (λ bytes. within_ends (codes "commands ") bytes)) (λ bytes h. commands_end c bytes))
    (λ list h. looks_end kept (study_stage c list) (λ looks. study_ends c T.valid list (said_in c commands list h) looks)))

pub studies_have_an_outcome : StudiesHaveAnOutcome
studies_have_an_outcome words case commands kept =
    then_ends (told_as usage (stage_of (study_in words))) _ (told_ends usage (stage_of (study_in words)) (stage_ends (study_in words)))
    (λ asked g. call_ends asked case commands kept)
