-- The laws of sets as numbers, of their sizes and of their order, as contracts name them.
use Rattle.std.specs.Prelude.{◌≡◌, ◌<◌, ◌≤◌, ◌+◌, ◌^◌, ◌⊎◌, ℕ, Bool, false, List, [], ◌∷◌}
use Rattle.field_core.specs.Sets.{IsIn, IsSubset, HaveSameMembers, whole, dropping, adding, size_of}
use Rattle.field_core.specs.Runs.{IsOrder, left_after}
use Rattle.field_core.specs.NumberedSets.{members, set_number}
use Rattle.field_core.specs.OrderOfSets.{left_out, ComesBefore, IsAscending, IsNextList, IsLastList}

-- Each set of `m` hypotheses has a number below 2^m, which denotes it.
abbrev pub SetsHaveNumbers : Type 0
SetsHaveNumbers = (m : ℕ) (I : ℕ → Bool) → (set_number m I < 2 ^ m) × HaveSameMembers m (members (set_number m I)) I

-- Each number below 2^m is that of the set that it denotes.
abbrev pub NumbersAreOfSets : Type 0
NumbersAreOfSets = (m n : ℕ) → n < 2 ^ m → set_number m (members n) ≡ n

-- Without one of its members a set has one member fewer.
abbrev pub DroppingTakesOne : Type 0
DroppingTakesOne = (m k : ℕ) (I : ℕ → Bool) → IsIn m I k → size_of m (dropping k I) + 1 ≡ size_of m I

-- With a hypothesis that it lacks, a set has one member more.
abbrev pub AddingGivesOne : Type 0
AddingGivesOne = (m k : ℕ) (I : ℕ → Bool) → k < m → I k ≡ false → size_of m (adding k I) ≡ size_of m I + 1

-- The set of all hypotheses has `m` members.
abbrev pub WholeHasAll : Type 0
WholeHasAll = (m : ℕ) → size_of m whole ≡ m

-- A subset has no more members than its set, and it has all of them or lacks one.
abbrev pub SubsetsAreSmaller : Type 0
SubsetsAreSmaller =
    (m : ℕ) (J I : ℕ → Bool) → IsSubset m J I
    → (size_of m J ≤ size_of m I) × (HaveSameMembers m J I ⊎ ((k : ℕ) × IsIn m I k × (J k ≡ false)))

-- What a set leaves out, removed one after another, leaves the set.
abbrev pub LeftOutLeavesTheSet : Type 0
LeftOutLeavesTheSet = (m : ℕ) (I : ℕ → Bool) → IsAscending m 0 (left_out m I) × IsOrder m whole (left_out m I)
    × HaveSameMembers m (left_after whole (left_out m I)) I

-- If the removals of an ascending list leave a set, the list is what the set leaves out.
abbrev pub AscendingListsAreLeftOut : Type 0
AscendingListsAreLeftOut = (m : ℕ) (js : List ℕ) (I : ℕ → Bool) → IsAscending m 0 js → HaveSameMembers m (left_after whole js) I
    → left_out m I ≡ js

-- Of two lists one comes before the other or they are the same, and no two of these hold.
abbrev pub ListsAreOrdered : Type 0
ListsAreOrdered = (js ks : List ℕ) → (ComesBefore js ks ⊎ (ComesBefore ks js ⊎ (js ≡ ks))) × ¬ (ComesBefore js ks × ComesBefore ks js)
    × ¬ ComesBefore js js

-- The sets of two hypotheses in their order: both, the second, none, the first.
abbrev pub SetsOfTwoInOrder : Type 0
SetsOfTwoInOrder = IsNextList 2 [] (0 ∷ []) × IsNextList 2 (0 ∷ []) (0 ∷ 1 ∷ []) × IsNextList 2 (0 ∷ 1 ∷ []) (1 ∷ []) × IsLastList 2 (1 ∷ [])
