-- The file of the looks of a study.
use Rattle.std.proofs.Common.{◌≡◌, sym, ap, ◌∙◌, ℕ, List, Bor}
use Rattle.std.specs.Prelude.{IfSome, Err}
use Rattle.std.specs.Option.{option_map}
use Rattle.std.specs.declared.option.Option.{Option}
use Rattle.std.specs.declared.option.Option.TheVariants.{Some, None}
use Rattle.command_words.specs.Asked.{StudyAsked}
use Rattle.command_words.specs.Words.{study_in}
use Rattle.answers.proofs.Decided.{stage_decided}
use Rattle.graph_cli.specs.Outcome.{AskStudy}
use Rattle.study_cli.specs.StudyOutcome.{NamesStore}

module _ (words : List (List ℕ)) where
  pub path_of : (asked : StudyAsked) (store : Option (Bor (List ℕ))) → AskStudy words asked → asked.store ≡ option_map (λ path. path.now) store
      → IfSome store (λ path. NamesStore words path.now)
  path_of asked None asks e = tt
  path_of asked (Some path) asks e = (asked, asks, e)

  pub no_path : (asked : StudyAsked) (path : List ℕ) → AskStudy words asked → asked.store ≡ None → ¬ NamesStore words path
  no_path asked path asks e h =
      let k : None ≡ Some path = sym e ∙ ap (λ a. a.store) ((stage_decided (study_in words)).one asked h.0 asks h.1) ∙ h.2 in cc

  pub no_study : (n : ℕ) (path : List ℕ) → study_in words ≡ Err n → ¬ NamesStore words path
  no_study n path r h = (stage_decided (study_in words)).not_both h.0 n h.1 r
