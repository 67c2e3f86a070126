-- The limit of what flows bring.
use Rattle.std.proofs.Common.{◌≡◌, ap, ℕ, List}
use Rattle.field_core.specs.declared.place.Place.TheVariants.{Level}
use Rattle.field_core.specs.Kind.{Parts, Kind, ok_map}
use Rattle.field_core.specs.LimitParts.{limit_terms}
use Rattle.fraction.specs.Plain.{single}
use Rattle.evidence_check.specs.EvidenceParts.{numbers_at}
use Rattle.evidence_check.specs.WrittenCheck.{Loaded, brought_sum, level_limit}

pub limit_is : (K : Kind) (L : Loaded) (js : List ℕ) (xs ys : List Parts) (same : xs ≡ ys) (k c : ℕ)
    → ok_map (λ x. single (limit_terms x)) (brought_sum K L js (Level k) (numbers_at K xs) k c) ≡ level_limit K L js (numbers_at K ys) k c
unfolding level_limit
limit_is K L js xs ys e k c = ap (λ ys. ok_map (λ x. single (limit_terms x)) (brought_sum K L js (Level k) (numbers_at K ys) k c)) e
