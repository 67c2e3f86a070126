-- The whole check: all steps, and then all keeps.
use Rattle.std.proofs.Common.{◌≡◌, refl, sym, ap, subst, ◌∙◌, ℕ, zero, suc, ◌+◌, ◌<◌, inl, inr, List, [], ◌∷◌, ◌++◌, length, get_or, map}
use Rattle.std.proofs.Common.{arith}
use Rattle.std.specs.List.{All}
use Rattle.std.proofs.lemmas.List.{length-map}
use Rattle.field_core.specs.Sets.{whole}
use Rattle.field_core.specs.Runs.{IsOrder}
use Rattle.field_core.specs.Kind.{Parts, Kind}
use Rattle.field_core.specs.Exact.{IsExact}
use Rattle.case_model.specs.EntangledGraph.{EntangledGraph, IsValidEntangled}
use Rattle.case_model.proofs.RejectionOrders.{not_listed_left}
use Rattle.case_model.proofs.LegalSteps.{removals_next}
use Rattle.evidence_check.specs.Evidence.{listed, IsGoodStep, AreGoodSteps, IsGoodKeep, MeetsConditions}
use Rattle.evidence_check.specs.EvidenceParts.{StepParts, KeepParts, part_at, step_values, keep_values}
use Rattle.evidence_check.specs.BrokenConditions.{IsBrokenAmongSteps, IsBrokenAmongKeeps, IsBrokenBy}
use Rattle.evidence_check.specs.CheckSteps.{numbered}
use Rattle.evidence_check.specs.declared.verdict.Reason.{Reason}
use Rattle.evidence_check.specs.WrittenCheck.{Loaded, step_check, keep_check, steps_check, keeps_check, written_check}
use Rattle.evidence_check.specs.CheckStatements.{IsLoaded, AreStoredSteps, evidence_values}
use Rattle.evidence_check.proofs.Tells.{TellsAt, tells_bind_at, tells_ok_at, tells_if_at, numbered_tells}
use Rattle.evidence_check.proofs.CheckedSteps.{step_tells}
use Rattle.evidence_check.proofs.CheckedKeeps.{keep_tells}

append_none : (js : List ℕ) → js ++ [] ≡ js
append_none [] = refl
append_none (j ∷ js) = ap (λ ks. j ∷ ks) (append_none js)

append_more : (js : List ℕ) (j : ℕ) (ks : List ℕ) → (js ++ (j ∷ [])) ++ ks ≡ js ++ (j ∷ ks)
append_more [] j ks = refl
append_more (i ∷ js) j ks = ap (λ ls. i ∷ ls) (append_more js j ks)

pub all_first : {A : Type 0} (P : A → Type 0) (x : A) (xs : List A) → All P (x ∷ xs) → P x
all_first P x xs h = h 0 x (omega arith)

pub all_rest : {A : Type 0} (P : A → Type 0) (x : A) (xs : List A) → All P (x ∷ xs) → All P xs
all_rest P x xs h = λ i d p. h (suc i) d (omega arith)

all_none : {A : Type 0} (P : A → Type 0) → All P []
all_none P = λ i d p. absurd (omega arith)

all_both : {A : Type 0} (P : A → Type 0) (x : A) (xs : List A) → P x → All P xs → All P (x ∷ xs)
all_both P x xs h g = at
  where
    at : (i : ℕ) (d : _) → i < length (x ∷ xs) → P (get_or (x ∷ xs) i d)
    at zero d p = h
    at (suc i) d p = g i d (omega arith)

module _ (K : Kind) (IsStored : Parts → Type 0) (X : IsExact K IsStored) (L : Loaded) (E : EntangledGraph) (V : IsValidEntangled E)
    (D : IsLoaded IsStored L E) where
  abbrev BadSteps : List ℕ → List StepParts → ℕ → Reason → Type 0
  BadSteps js ss = IsBrokenAmongSteps E L.p L.alpha js (map (step_values K) ss)

  abbrev BadKeeps : List ℕ → ℕ → List KeepParts → ℕ → Reason → Type 0
  BadKeeps js m xs = IsBrokenAmongKeeps E L.p L.alpha js m (map (keep_values K) xs)

  abbrev GoodSteps : List ℕ → List StepParts → Type 0
  GoodSteps js ss = AreGoodSteps E L.p L.alpha js (map (step_values K) ss)

  abbrev GoodKeeps : List ℕ → List KeepParts → Type 0
  GoodKeeps js xs = All (IsGoodKeep E L.p L.alpha js) (map (keep_values K) xs)

  -- the hypotheses of all steps, which are distinct
  pub record After (js : List ℕ) (ss : List StepParts) (ks : List ℕ) : Type 0 where
    pub good : GoodSteps js ss
    pub order : IsOrder E.hypotheses whole ks
    pub is : ks ≡ js ++ listed (map (step_values K) ss)

  pub steps_tell : (ss : List StepParts) (js : List ℕ) → IsOrder E.hypotheses whole js → All (λ s. s.hypothesis < E.hypotheses) ss
      → All (λ s. (c e : ℕ) → IsStored (part_at K s.flows c e)) ss → TellsAt (steps_check K L js ss) (After js ss) (BadSteps js ss)
  unfolding steps_check
  steps_tell [] js o B S = tells_ok_at js _ _ (record { good = tt; order = o; is = sym (append_none js) })
  steps_tell (s ∷ ss) js o B S =
      let T = step_tells K IsStored X L E V D js o s (all_first (λ s. s.hypothesis < E.hypotheses) s ss B)
      (all_first (λ s. (c e : ℕ) → IsStored (part_at K s.flows c e)) s ss S) in
      tells_bind_at (numbered (length js + 1) (step_check K L js s)) _ (λ _. IsGoodStep E L.p L.alpha js (step_values K s)) (After js (s ∷ ss))
      (BadSteps js (s ∷ ss))
      (numbered_tells (length js + 1) (step_check K L js s) _ (BadSteps js (s ∷ ss))
      (record { ok = T.ok; bad = λ reason h. inl (refl, T.bad reason h) }))
      (λ _ G. tells_if_at (steps_check K L (js ++ s.hypothesis ∷ []) ss) _ _ _ _
      (λ ks A. record { good = (G, A.good); order = A.order; is = A.is ∙ append_more js s.hypothesis (listed (map (step_values K) ss)) })
      (λ n reason b. inr (G, b))
      (steps_tell ss (js ++ s.hypothesis ∷ [])
      (removals_next E.hypotheses js s.hypothesis whole o (record { below = G.below; member = not_listed_left js whole s.hypothesis refl G.new }))
      (all_rest (λ s. s.hypothesis < E.hypotheses) s ss B) (all_rest (λ s. (c e : ℕ) → IsStored (part_at K s.flows c e)) s ss S)))

  keeps_tell : (xs : List KeepParts) (js : List ℕ) (m : ℕ) → IsOrder E.hypotheses whole js → All (λ x. x.hypothesis < E.hypotheses) xs
      → All (λ x. (c e : ℕ) → IsStored (part_at K x.exits c e)) xs → TellsAt (keeps_check K L js m xs) (λ _. GoodKeeps js xs) (BadKeeps js m xs)
  unfolding keeps_check
  keeps_tell [] js m o B S = tells_ok_at tt _ _ (all_none _)
  keeps_tell (x ∷ xs) js m o B S =
      let P = IsGoodKeep E L.p L.alpha js in
      let T = keep_tells K IsStored X L E V D js o x (all_first (λ x. x.hypothesis < E.hypotheses) x xs B)
      (all_first (λ x. (c e : ℕ) → IsStored (part_at K x.exits c e)) x xs S) in
      tells_bind_at (numbered (m + 1) (keep_check K L js x)) _ (λ _. P (keep_values K x)) (λ _. GoodKeeps js (x ∷ xs)) (BadKeeps js m (x ∷ xs))
      (numbered_tells (m + 1) (keep_check K L js x) _ (BadKeeps js m (x ∷ xs)) (record { ok = T.ok; bad = λ reason h. inl (refl, T.bad reason h) }))
      (λ _ G. tells_if_at (keeps_check K L js (m + 1) xs) _ _ _ _
      (λ _ A. all_both P (keep_values K x) (map (keep_values K) xs) G A)
      (λ n reason b. inr (G, b))
      (keeps_tell xs js (m + 1) o (all_rest (λ x. x.hypothesis < E.hypotheses) x xs B)
      (all_rest (λ x. (c e : ℕ) → IsStored (part_at K x.exits c e)) x xs S)))

  pub check_tells : (steps : List StepParts) (keeps : List KeepParts) → AreStoredSteps K IsStored E.hypotheses steps keeps
      → TellsAt (written_check K L steps keeps) (λ _. MeetsConditions E L.p L.alpha (evidence_values K steps keeps))
      (IsBrokenBy E L.p L.alpha (evidence_values K steps keeps))
  unfolding written_check
  check_tells steps keeps S =
      let Meets = MeetsConditions E L.p L.alpha (evidence_values K steps keeps) in
      let Bad : ℕ → Reason → Type 0 = IsBrokenBy E L.p L.alpha (evidence_values K steps keeps) in
      tells_bind_at (steps_check K L [] steps) (λ js. keeps_check K L js (length steps) keeps) (After [] steps) (λ _. Meets) Bad
      (tells_if_at (steps_check K L [] steps) _ _ _ _ (λ _ g. g) (λ n reason b. inl b) (steps_tell steps [] tt S.steps_below S.steps_stored))
      (λ js A. tells_if_at (keeps_check K L js (length steps) keeps) _ _ _ _
      (λ _ G. record { steps = A.good; keeps = subst (λ ks. GoodKeeps ks keeps) A.is G })
      (λ n reason b. inr (
        A.good,
        subst (λ m. IsBrokenAmongKeeps E L.p L.alpha (listed (map (step_values K) steps)) m (map (keep_values K) keeps) n reason)
            (sym (length-map steps (step_values K)))
            (subst (λ ks. IsBrokenAmongKeeps E L.p L.alpha ks (length steps) (map (keep_values K) keeps) n reason) A.is b),
      ))
      (keeps_tell keeps js (length steps) A.order S.keeps_below S.keeps_stored))
