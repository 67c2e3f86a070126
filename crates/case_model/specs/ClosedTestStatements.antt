-- The laws of the closed test and of legal orders, as contracts name them.
use Rattle.std.specs.Prelude.{◌≡◌, ◌<◌, ◌↔◌, ℕ, Bool, List}
use Rattle.field_core.specs.Number.{Number}
use Rattle.field_core.specs.Order.{◌≤ε◌}
use Rattle.field_core.specs.LimitParts.{IsUnit}
use Rattle.field_core.specs.Sets.{IsIn, IsSubset, whole}
use Rattle.case_model.specs.EntangledGraph.{EntangledGraph, IsValidEntangled}
use Rattle.case_model.specs.ClosedTest.{IsLocallyRejected, IsClosedRejected, IsRejected}
use Rattle.case_model.specs.LegalOrder.{IsListed, IsLegalOrder, IsComplete, IsFirstOrder, IsLastOrder, IsRatioOrder}

-- The closed test rejects a set with a member exactly if the local test rejects each set that contains this set.
abbrev pub SetsAreRejectedByTheirSupersets : Type 0
SetsAreRejectedByTheirSupersets =
    (E : EntangledGraph) (p : ℕ → Number) (level : Number) (S : ℕ → Bool) (j : ℕ) → IsIn E.hypotheses S j
    → IsClosedRejected E p level S ↔ ((I : ℕ → Bool) → IsSubset E.hypotheses S I → IsLocallyRejected E p level I)

-- The closed test rejects a hypothesis exactly if the local test rejects each set that the hypothesis is in.
abbrev pub HypothesesAreRejectedByTheirSets : Type 0
HypothesesAreRejectedByTheirSets =
    (E : EntangledGraph) (p : ℕ → Number) (level : Number) (j : ℕ) → j < E.hypotheses
    → IsRejected E p level j ↔ ((I : ℕ → Bool) → IsIn E.hypotheses I j → IsLocallyRejected E p level I)

-- The closed test rejects each hypothesis of a legal order.
abbrev pub LegalOrdersAreRejected : Type 0
LegalOrdersAreRejected =
    (E : EntangledGraph) (p : ℕ → Number) (level : Number) (js : List ℕ) (j : ℕ) → IsValidEntangled E → IsUnit level
    → IsLegalOrder E p level whole js → IsListed js j → IsRejected E p level j

-- If no hypothesis is legal once those of a list are removed, the list has each hypothesis that the closed test rejects.
abbrev pub CompleteListsHaveAllRejected : Type 0
CompleteListsHaveAllRejected =
    (E : EntangledGraph) (p : ℕ → Number) (level : Number) (js : List ℕ) (j : ℕ)
    → IsComplete E p level whole js → IsRejected E p level j → IsListed js j

-- So a complete legal order has exactly the hypotheses that the closed test rejects.
abbrev pub CompleteOrdersDecide : Type 0
CompleteOrdersDecide =
    (E : EntangledGraph) (p : ℕ → Number) (level : Number) (js : List ℕ) (j : ℕ) → IsValidEntangled E → IsUnit level
    → IsLegalOrder E p level whole js → IsComplete E p level whole js → IsListed js j ↔ IsRejected E p level j

-- Two complete legal orders have the same hypotheses.
abbrev pub CompleteOrdersAgree : Type 0
CompleteOrdersAgree =
    (E : EntangledGraph) (p : ℕ → Number) (level : Number) (js ks : List ℕ) (j : ℕ) → IsValidEntangled E → IsUnit level
    → IsLegalOrder E p level whole js → IsComplete E p level whole js → IsLegalOrder E p level whole ks → IsComplete E p level whole ks
    → IsListed js j ↔ IsListed ks j

-- The order of the priority `first` is a complete legal order.
abbrev pub FirstOrdersAreComplete : Type 0
FirstOrdersAreComplete =
    (E : EntangledGraph) (p : ℕ → Number) (level : Number) (I : ℕ → Bool) (js : List ℕ)
    → IsFirstOrder E p level I js → IsLegalOrder E p level I js × IsComplete E p level I js

-- The order of the priority `last` is a complete legal order.
abbrev pub LastOrdersAreComplete : Type 0
LastOrdersAreComplete =
    (E : EntangledGraph) (p : ℕ → Number) (level : Number) (I : ℕ → Bool) (js : List ℕ)
    → IsLastOrder E p level I js → IsLegalOrder E p level I js × IsComplete E p level I js

-- The order of the priority `ratio` is a complete legal order.
abbrev pub RatioOrdersAreComplete : Type 0
RatioOrdersAreComplete =
    (E : EntangledGraph) (p : ℕ → Number) (level : Number) (I : ℕ → Bool) (js : List ℕ) → IsValidEntangled E
    → IsRatioOrder E p level I js → IsLegalOrder E p level I js × IsComplete E p level I js

-- The priority `first` has one order at most.
abbrev pub FirstOrdersAreUnique : Type 0
FirstOrdersAreUnique = (E : EntangledGraph) (p : ℕ → Number) (level : Number) (I : ℕ → Bool) (js ks : List ℕ) → IsFirstOrder E p level I js
    → IsFirstOrder E p level I ks → js ≡ ks

-- The priority `last` has one order at most.
abbrev pub LastOrdersAreUnique : Type 0
LastOrdersAreUnique = (E : EntangledGraph) (p : ℕ → Number) (level : Number) (I : ℕ → Bool) (js ks : List ℕ) → IsLastOrder E p level I js
    → IsLastOrder E p level I ks → js ≡ ks

-- The priority `ratio` has one order at most.
abbrev pub RatioOrdersAreUnique : Type 0
RatioOrdersAreUnique = (E : EntangledGraph) (p : ℕ → Number) (level : Number) (I : ℕ → Bool) (js ks : List ℕ) → IsRatioOrder E p level I js
    → IsRatioOrder E p level I ks → js ≡ ks

-- From each set on, the priority `first` has an order.
abbrev pub FirstOrdersExist : Type 0
FirstOrdersExist = (E : EntangledGraph) (p : ℕ → Number) (level : Number) (I : ℕ → Bool) → IsValidEntangled E → (js : List ℕ)
    × IsFirstOrder E p level I js

-- From each set on, the priority `last` has an order.
abbrev pub LastOrdersExist : Type 0
LastOrdersExist = (E : EntangledGraph) (p : ℕ → Number) (level : Number) (I : ℕ → Bool) → IsValidEntangled E → (js : List ℕ)
    × IsLastOrder E p level I js

-- From each set on, the priority `ratio` has an order.
abbrev pub RatioOrdersExist : Type 0
RatioOrdersExist = (E : EntangledGraph) (p : ℕ → Number) (level : Number) (I : ℕ → Bool) → IsValidEntangled E → (js : List ℕ)
    × IsRatioOrder E p level I js

-- What the closed test rejects at a level, it rejects at each greater one.
abbrev pub RejectionsStayAtGreaterLevels : Type 0
RejectionsStayAtGreaterLevels = (E : EntangledGraph) (p : ℕ → Number) (level higher : Number) (j : ℕ) → level ≤ε higher
    → IsRejected E p level j → IsRejected E p higher j

-- What the closed test rejects, it rejects too where p-values are lesser and none is greater.
abbrev pub RejectionsStayAtLesserPValues : Type 0
RejectionsStayAtLesserPValues = (E : EntangledGraph) (p lesser : ℕ → Number) (level : Number) (j : ℕ) → ((k : ℕ) → lesser k ≤ε p k)
    → IsRejected E p level j → IsRejected E lesser level j
