-- What an option holds.
use Rattle.std.proofs.Common.{◌≡◌, ◌⊎◌, inl, inr, refl, Option, Some, None}

pub given_or_none : {A : Type 0} (o : Option A) → ((x : A) × (o ≡ Some x)) ⊎ (o ≡ None)
given_or_none (Some x) = inl (x, refl)
given_or_none None = inr refl

pub not_given : {A : Type 0} (o : Option A) (x : A) → o ≡ Some x → ¬ (o ≡ None)
not_given o x e h = cc
