-- The written runs of the sets of a case: the opening, and then the removals of the hypotheses that the set leaves out, ascending (this project's own).
use Rattle.std.specs.Prelude.{◌≡◌, ◌<◌, ◌^◌, ℕ, length, Result, Ok, Err}
use Rattle.field_core.specs.NumberedSets.{members}
use Rattle.field_core.specs.OrderOfSets.{left_out, ComesBefore}
use Rattle.field_core.specs.declared.place.WideAt.{WideAt}
use Rattle.case_model.specs.Content.{Content}
use Rattle.entangled.specs.CaseRun.{CaseState}
use Rattle.entangled.specs.CaseAfter.{case_after}

-- the run of the set of a number
abbrev pub set_run : Content → ℕ → Result CaseState WideAt
set_run c n = case_after c (left_out (length c.names) (members n))

-- of `m` hypotheses, the set of the first number comes before that of the second
abbrev pub IsEarlierSet : ℕ → ℕ → ℕ → Type 0
IsEarlierSet m o n = ComesBefore (left_out m (members o)) (left_out m (members n))

-- the run of a set is defined
abbrev pub IsRunDefined : Content → ℕ → Type 0
IsRunDefined c n = (s : CaseState) × (set_run c n ≡ Ok s)

-- the runs of all sets are defined
abbrev pub AreRunsDefined : Content → Type 0
AreRunsDefined c = (n : ℕ) → n < 2 ^ length c.names → IsRunDefined c n

-- the set of `n` is the first, in the order of sets, whose run is undefined, and `w` is the first undefined operation of this run
pub record IsFirstWideSet (c : Content) (n : ℕ) (w : WideAt) : Type 0 where
  pub below : n < 2 ^ length c.names
  pub wide : set_run c n ≡ Err w
  pub before : (o : ℕ) → o < 2 ^ length c.names → IsEarlierSet (length c.names) o n → IsRunDefined c o
