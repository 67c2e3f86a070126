-- Faults of registers, from the faults of what they call.
use Rattle.std.proofs.Common.{◌≡◌, refl, ap, ◌∙◌, inl, inr, sym, subst, ℕ, ◌+◌, List, [], ◌∷◌, Option, Result, Ok, Err}
use Rattle.std.specs.Prelude.{IfSome, IfErr}
use Rattle.std.specs.Result.{IsErrAnd}
use Rattle.graph_io.specs.Causes.{Rose}
use Rattle.graph_io.specs.Keeping.{CausedBy}
use Rattle.graph_io.specs.declared.keeper.Look.{Look}
use Rattle.graph_io.specs.declared.keeper.KeeperFault.{KeeperFault}
use Rattle.graph_io.specs.declared.keeper.KeeperFault.TheVariants as keepers
use Rattle.case_model.specs.Content.{Content}
use Rattle.staged_levels.specs.Studies.{StudyState, start}
use Rattle.staged_levels.specs.StudyContents.{StudyContent, IsStudy}
use Rattle.staged_levels.specs.Looks.{IsDefined}
use Rattle.staged_levels.proofs.LookSteps.{study_defined}
use Rattle.study_register.specs.declared.fault.RegisterFault.{RegisterFault}
use Rattle.study_register.specs.declared.fault.RegisterFault.TheVariants.{BadLook, Wide, Fault, NoMemory}
use Rattle.study_register.specs.declared.fault.AddFault.{AddFault}
use Rattle.study_register.specs.Looking.{Takes}
use Rattle.study_register.specs.RegisterFaults.{IsFirstStop, IsStopped, IsRegisterFault, IsAddFault, Leaves, turns_by}
use Rattle.study_register.specs.RegisterView.{of_loading, of_appending}

-- a fault that is handed on
pub handed_on : {A E : Type 0} (r : Result A E) (Good : E → Type 0) (fault : E) → IsErrAnd r (λ e. e ≡ fault) → Good fault → IfErr r Good
handed_on (Ok x) Good fault e h = tt
handed_on (Err x) Good fault e h = subst Good (sym e) h

-- a study that was just opened is defined
pub opened_defined : (c : Content) (t : StudyContent) → IsStudy c t → t.looks ≡ start → IsDefined c start
opened_defined c t T e = subst (IsDefined c) e (study_defined c t T)

-- no look is the first to stop for a fault of the keeper
pub first_not_fault : (c : Content) (ls : List Look) (old : StudyState) (n : ℕ) → ¬ IsFirstStop c old n ls Fault
first_not_fault c [] old n h = h
first_not_fault c (l ∷ ls) old n (inl h) = h
first_not_fault c (l ∷ ls) old n (inr h) = first_not_fault c ls h.0 (n + 1) h.2

-- where one of the loaded looks can't be taken
pub stopped_fault : (c : Content) (kept : Option (List Look)) (rose : Type 0) (looks : List Look) → IfSome kept (λ told. told ≡ looks)
    → (why : RegisterFault) → IsStopped c looks why → IsRegisterFault c kept rose why
stopped_fault c kept rose looks told (BadLook n l) S = (looks, S, told)
stopped_fault c kept rose looks told (Wide n w) S = inr (looks, S, told)
stopped_fault c kept rose looks told Fault S = absurd (first_not_fault c looks start 1 S.first)
stopped_fault c kept rose looks told NoMemory S = tt

-- where the loading fails
pub loading_fault : (c : Content) (kept : Option (List Look)) (before now : ℕ) (why : KeeperFault) → IsDefined c start → CausedBy before now why
    → IsRegisterFault c kept (Rose before now) (of_loading why)
loading_fault c kept before now keepers.Fault D h = (D, h)
loading_fault c kept before now keepers.NoMemory D h = tt

appended_fault : (c : Content) (s t : StudyState) (l : Look) (before now : ℕ) (why : KeeperFault) → Takes c s l t → CausedBy before now why
    → IsAddFault c s l (Rose before now) (of_appending why)
appended_fault c s t l before now keepers.Fault T h = (t, T, h)
appended_fault c s t l before now keepers.NoMemory T h = (t, T)

-- where the appending fails
pub appending_fault : (c : Content) (s t : StudyState) (l : Look) (before now : ℕ) (why : KeeperFault) (end : AddFault) → end ≡ of_appending why
    → Takes c s l t → CausedBy before now why → IsAddFault c s l (Rose before now) end
appending_fault c s t l before now why end e T h = subst (IsAddFault c s l (Rose before now)) (sym e) (appended_fault c s t l before now why T h)

-- an appending that refuses was called
appended_turns : (why : KeeperFault) → turns_by (of_appending why) ≡ 1
appended_turns keepers.Fault = refl
appended_turns keepers.NoMemory = refl

pub appending_turns : (why : KeeperFault) (end : AddFault) → end ≡ of_appending why → turns_by end ≡ 1
appending_turns why end e = ap turns_by e ∙ appended_turns why

-- where an appending refuses, the look is taken
appended_leaves : (c : Content) (s t : StudyState) (l : Look) (why : KeeperFault) → Takes c s l t → Leaves c s l t (of_appending why)
appended_leaves c s t l keepers.Fault h = h
appended_leaves c s t l keepers.NoMemory h = h

pub appending_leaves : (c : Content) (s t : StudyState) (l : Look) (why : KeeperFault) (end : AddFault) → end ≡ of_appending why → Takes c s l t
    → Leaves c s l t end
appending_leaves c s t l why end e h = subst (Leaves c s l t) (sym e) (appended_leaves c s t l why h)
