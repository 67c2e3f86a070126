-- The written run of a case, removal by removal.
use Rattle.std.proofs.Common.{◌≡◌, refl, ap, ◌∙◌, ℕ, List, [], ◌∷◌, ◌++◌, Result, Ok, Err}
use Rattle.field_core.specs.declared.place.WideAt.{WideAt}
use Rattle.case_model.specs.Content.{Content}
use Rattle.field_core.specs.Steps.{◌>>=◌}
use Rattle.removal.specs.InTurn.{removed_in_turn}
use Rattle.entangled.specs.CaseRun.{CaseState, case_opening, case_removal}
use Rattle.entangled.specs.CaseAfter.{case_after}
use Rattle.field_core.specs.Laws.Prefixes.{ok_same}

pub last_step : (r : Result CaseState WideAt) → (r >>= λ x. Ok x) ≡ r
last_step (Ok x) = refl
last_step (Err e) = refl

-- a step that continues to a good end, and on from there
pub goes_on : (r : Result CaseState WideAt) (f g : CaseState → Result CaseState WideAt) (t : CaseState) (end : Result CaseState WideAt)
    → ((u : CaseState) → f u ≡ Ok t → g u ≡ end) → (r >>= f) ≡ Ok t → (r >>= g) ≡ end
goes_on (Ok u) f g t end step e = step u e
goes_on (Err w) f g t end step e = absurd (cc)

turns_more : (js ks : List ℕ) (s t : CaseState) → removed_in_turn case_removal s js ≡ Ok t
    → removed_in_turn case_removal s (js ++ ks) ≡ removed_in_turn case_removal t ks
unfolding removed_in_turn
turns_more [] ks s t h = ap (λ x. removed_in_turn case_removal x ks) (ok_same (Ok s) s t refl h)
turns_more (i ∷ js) ks s t h = goes_on (case_removal s i) (λ u. removed_in_turn case_removal u js) (λ u. removed_in_turn case_removal u (js ++ ks)) t
    (removed_in_turn case_removal t ks) (λ u e. turns_more js ks u t e) h

-- the removals of more
pub after_more : (c : Content) (js ks : List ℕ) (s : CaseState) → case_after c js ≡ Ok s → case_after c (js ++ ks) ≡ removed_in_turn case_removal s ks
unfolding case_after
after_more c js ks s h = goes_on (case_opening c) (λ u. removed_in_turn case_removal u js) (λ u. removed_in_turn case_removal u (js ++ ks)) s
    (removed_in_turn case_removal s ks) (λ u e. turns_more js ks u s e) h

one_turn : (s : CaseState) (j : ℕ) → removed_in_turn case_removal s (j ∷ []) ≡ case_removal s j
unfolding removed_in_turn
one_turn s j = last_step (case_removal s j)

-- the removal of one more
pub after_next : (c : Content) (js : List ℕ) (s : CaseState) (j : ℕ) → case_after c js ≡ Ok s → case_after c (js ++ j ∷ []) ≡ case_removal s j
after_next c js s j h = after_more c js (j ∷ []) s h ∙ one_turn s j

pub after_opening : (c : Content) (s : CaseState) → case_opening c ≡ Ok s → case_after c [] ≡ Ok s
unfolding case_after removed_in_turn
after_opening c s h = last_step (case_opening c) ∙ h
