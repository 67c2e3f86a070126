-- Levels, as they are written down.
use Rattle.std.proofs.Common.{◌≡◌, refl, ℕ, List, length, Result, Ok, Err}
use Rattle.field_core.specs.declared.place.Place.TheVariants.{Level}
use Rattle.field_core.specs.Kind.{Parts, Kind, ok_map}
use Rattle.field_core.specs.Steps.{◌>>=◌, each_below}
use Rattle.fraction.specs.Plain.{plain}
use Rattle.case_model.specs.Content.{Content}
use Rattle.case_numbers.specs.Numbers.{Numbers}
use Rattle.evidence_check.specs.EvidenceParts.{numbers_at}
use Rattle.evidence_check.specs.declared.event.CheckEvent.{CheckEvent}
use Rattle.evidence_check.specs.WrittenCheck.{added, shared_sum, level_by}
use Rattle.evidence_check.specs.CaseCheck.{share_in, loaded_case}

module _ (K : Kind) (n : Numbers) (c : Content) (k : ℕ) where
  pub shared_is : (limits : List Parts) → added plain (λ c. c) (Level k) plain.zero (share_in c) (numbers_at plain limits)
      (length c.components) ≡ shared_sum (loaded_case K n c) k limits
  unfolding shared_sum loaded_case
  shared_is limits = refl

  module _ (f : ℕ → Result Parts CheckEvent) where
    level_is : level_by (loaded_case K n c) k f ≡ (each_below (length c.components) f >>= shared_sum (loaded_case K n c) k)
    unfolding level_by loaded_case
    level_is = refl

    module _ {U : Type 0} (xs : List Parts) (r : Result U CheckEvent) (filled : ok_map (λ _. xs) r ≡ each_below (length c.components) f) where
      pub level_refused : (e : CheckEvent) → r ≡ Err e → level_by (loaded_case K n c) k f ≡ Err e
      level_refused e h = rw (level_is, ← filled, h) refl

      pub level_found : (u : U) → r ≡ Ok u → level_by (loaded_case K n c) k f ≡ shared_sum (loaded_case K n c) k xs
      level_found u h = rw (level_is, ← filled, h) refl
