-- The walk through the sets of a case in their order. (No public contract cites this.)
use Rattle.std.specs.Prelude.{◌≡◌, ◌<◌, ◌⊎◌, ℕ, List, ◌++◌, length, get_or, Ok, Err}
use Rattle.field_core.specs.declared.ratio.Ratio.{Ratio}
use Rattle.field_core.specs.declared.place.WideAt.{WideAt}
use Rattle.field_core.specs.View.{terms}
use Rattle.field_core.specs.Sets.{IsIn, whole}
use Rattle.field_core.specs.Runs.{left_after}
use Rattle.field_core.specs.OrderOfSets.{ComesBefore, IsAscending}
use Rattle.case_model.specs.Content.{Content}
use Rattle.entangled.specs.CaseRun.{CaseState, case_size, case_numbers, case_shares, case_level}
use Rattle.entangled.specs.CaseAfter.{case_after}
use Rattle.closed_test.specs.Paths.{number_without}

-- the run of the set that leaves out a list is defined
abbrev pub IsDefined : Content → List ℕ → Type 0
IsDefined c js = (s : CaseState) × (case_after c js ≡ Ok s)

-- the run of the set that leaves out a list is defined, and the row of the set has the levels of its members
pub record IsTabled (c : Content) (weight : ℕ → ℕ → Ratio) (js : List ℕ) : Type 0 where
  pub state : CaseState
  pub run : case_after c js ≡ Ok state
  pub row : (k : ℕ) → IsIn (length c.names) (left_after whole js) k → terms (weight (number_without (length c.names) js) k) ≡ case_level state k

-- this holds of all sets up to the one that leaves out `js`
abbrev pub AreTabledTo : Content → (ℕ → ℕ → Ratio) → List ℕ → Type 0
AreTabledTo c weight js = (xs : List ℕ) → IsAscending (length c.names) 0 xs → ComesBefore xs js ⊎ (xs ≡ js) → IsTabled c weight xs

-- this holds of all sets
abbrev pub AreAllTabled : Content → (ℕ → ℕ → Ratio) → Type 0
AreAllTabled c weight = (xs : List ℕ) → IsAscending (length c.names) 0 xs → IsTabled c weight xs

-- the set that leaves out `js` is the first, in the order of sets, whose run is undefined, at `w`
pub record IsFirstUndefined (c : Content) (js : List ℕ) (w : WideAt) : Type 0 where
  pub ascending : IsAscending (length c.names) 0 js
  pub undefined : case_after c js ≡ Err w
  pub before : (xs : List ℕ) → IsAscending (length c.names) 0 xs → ComesBefore xs js → IsDefined c xs

-- states are those after each beginning of a list, the empty one first
abbrev pub AreStatesAlong : Content → List ℕ → List CaseState → Type 0
AreStatesAlong c path states = (js ks : List ℕ) (d : CaseState) → path ≡ js ++ ks → case_after c js ≡ Ok (get_or states (length js) d)

-- two states are of the same numbers, with the same size and equal shares
pub record AreAlike (s t : CaseState) : Type 0 where
  pub numbers : case_numbers s ≡ case_numbers t
  pub size : case_size s ≡ case_size t
  pub shares : case_shares s ≡ case_shares t

-- each of the first `count` states is alike the first one in this way
abbrev pub AreLikeTheFirst : ℕ → List CaseState → Type 0
AreLikeTheFirst count states = (n : ℕ) (d : CaseState) → n < count → AreAlike (get_or states n d) (get_or states 0 d)
