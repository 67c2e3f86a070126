-- The opening of a case, which begins the run of each set.
use Rattle.std.proofs.Common.{◌≡◌, refl, sym, ap, ◌∙◌, ℕ, ◌<◌, List, [], ◌∷◌, ◌++◌, length, get_or, Ok, Err}
use Rattle.field_core.specs.declared.place.WideAt.{WideAt}
use Rattle.case_model.specs.Content.{Content}
use Rattle.removal.specs.InTurn.{removed_in_turn}
use Rattle.entangled.specs.CaseRun.{CaseState, case_opening, case_size, case_numbers, case_shares}
use Rattle.entangled.specs.CaseAfter.{case_after}
use Rattle.entangled.proofs.CaseRuns.{last_step}
use Rattle.closed_test.specs.Walks.{IsFirstUndefined, AreStatesAlong, AreLikeTheFirst}
use Rattle.field_core.specs.Laws.Prefixes.{ok_same}

-- the run of the set of all is the opening
pub only_opened : (c : Content) → case_after c [] ≡ case_opening c
unfolding case_after removed_in_turn
only_opened c = last_step (case_opening c)

-- a refused opening is a fault of the set of all, which is the first
pub wide_opening : (c : Content) (w : WideAt) → case_opening c ≡ Err w → IsFirstUndefined c [] w
wide_opening c w h = record { ascending = tt; undefined = only_opened c ∙ h; before = λ xs a b. absurd b }

nothing_before : (js ks : List ℕ) → [] ≡ js ++ ks → js ≡ []
nothing_before [] ks e = refl
nothing_before (j ∷ js) ks e = absurd (cc)

-- nets that are opened are those after nothing is removed
pub opened_along : (c : Content) (states : List CaseState) (count : ℕ) → 0 < count
    → ((n : ℕ) (d : CaseState) → n < count → case_opening c ≡ Ok (get_or states n d)) → AreStatesAlong c [] states
opened_along c states count some each js ks d e =
    let f = nothing_before js ks e in
    ap (case_after c) f ∙ only_opened c ∙ each 0 d some ∙ ap (λ xs. Ok (get_or states (length xs) d)) (sym f)

pub opened_alike : (c : Content) (states : List CaseState) (count : ℕ) → 0 < count
    → ((n : ℕ) (d : CaseState) → n < count → case_opening c ≡ Ok (get_or states n d)) → AreLikeTheFirst count states
opened_alike c states count some each n d h =
    let e = ok_same (case_opening c) (get_or states n d) (get_or states 0 d) (each n d h) (each 0 d some) in
    record { numbers = ap case_numbers e; size = ap case_size e; shares = ap case_shares e }
