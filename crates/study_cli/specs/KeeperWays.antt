-- The ways in which a call over a keeper may end: what it gives, its faults, and the looks that the keeper holds then.
use Rattle.std.specs.Prelude.{◌≡◌, ◌+◌, ℕ, List, Option, false, ⊤}
use Rattle.graph_io.specs.Causes.{Rose}
use Rattle.graph_io.specs.declared.keeper.Look.{Look}
use Rattle.answers.specs.declared.answer.Answer.{Answer}
use Rattle.answers.specs.declared.refusal.Refusal.{Refusal}
use Rattle.answers.specs.Devices.{Keeping}
use Rattle.answers.specs.Stages.{Stage}
use Rattle.answers.specs.Ways.{Ways}
use Rattle.case_model.specs.Content.{Content}
use Rattle.staged_levels.specs.StudyContents.{IsStudy}
use Rattle.study_register.specs.declared.register.Register.{Register}
use Rattle.study_register.specs.Looking.{AreTaken}
use Rattle.study_register.specs.RegisterFaults.{OnLooks}
use Rattle.study_register.specs.RegisterView.{study_in, looks_in, is_spent}
use Rattle.study_cli.specs.declared.command.StudyCommand.{StudyCommand}
use Rattle.study_cli.specs.AnswerView.{HoldSome, KeepWith, IsLastFailed, MayKeep}
use Rattle.study_cli.specs.StudyStages.{StudyEnd, HasOpening, opened, on_looks, study_stage}

-- The ways of a call that answers, over sources and a keeper. `May` says which looks may be added if the call stops by a fault of the keeper or is
-- out of memory. `read_rose` says that a source that is read had a fault, and `keeper_rose` that the keeper had one; `read_clean` and `keeper_clean`
-- say that their counts of faults stayed. `kept` and `held` are the looks that the keeper held and holds, if it exposes them; `before` and `now`
-- count its calls.
abbrev pub over_keeper : Stage Refusal StudyEnd → (List Look → Type 0) → (read_rose keeper_rose read_clean keeper_clean : Type 0)
    → (kept held : Option (List Look)) → (before now : ℕ) → Ways Answer
over_keeper s May read_rose keeper_rose read_clean keeper_clean kept held before now = record {
  Gives = λ a. KeepWith s.Gives kept held before now a × read_clean × keeper_clean;
  Refuses = λ r. s.Refuses r × (held ≡ kept) × read_clean × keeper_clean;
  read = read_rose × (held ≡ kept) × keeper_clean;
  keeper = keeper_rose × HoldSome (λ more. May more × IsLastFailed before now more) kept held × read_clean;
  memory = HoldSome May kept held × read_clean × keeper_clean;
}

-- The register has taken all looks that a keeper holds, and is at its beginning of further looks.
pub record IsOpened (c : Content) (kept : Option (List Look)) (r : Register) : Type 0 where
  pub study : IsStudy c (study_in r)
  pub taken : OnLooks kept (λ looks. AreTaken c looks (looks_in r))
  pub fresh : is_spent r ≡ false

-- The ways in which the looks of a keeper are taken. The keeper is asked only once the opening of the case is defined.
abbrev pub over_opening : Content → (keeper_rose keeper_clean : Type 0) → Option (List Look) → Ways Register
over_opening c keeper_rose keeper_clean kept = record {
  Gives = λ r. IsOpened c kept r × keeper_clean;
  Refuses = λ r. (on_looks kept (opened c)).Refuses r × keeper_clean;
  read = ⊥;
  keeper = HasOpening c × keeper_rose;
  memory = keeper_clean;
}

-- The ways in which the looks of a keeper are taken, by what it was and is. A call of it that failed was the only one.
abbrev pub opening_ways : Content → (old new : Keeping) → Ways Register
opening_ways c old new = over_opening c (Rose old.faults new.faults × (new.calls ≡ old.calls + 1)) (new.faults ≡ old.faults) old.looks

-- The ways in which commands are answered in a study of a case, by what its keeper was and is. No source is read.
abbrev pub answer_ways : Content → List StudyCommand → (old new : Keeping) → Ways Answer
answer_ways c commands old new = over_keeper (on_looks old.looks (study_stage c commands)) (MayKeep c commands old.looks)
    ⊥ (HasOpening c × Rose old.faults new.faults) ⊤ (new.faults ≡ old.faults) old.looks new.looks old.calls new.calls
