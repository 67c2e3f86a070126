-- The loop of a run, step by step.
use Rattle.std.proofs.Common.{◌≡◌, ◌⊎◌, inl, inr, add-one, refl, sym, ap, ◌∙◌, ℕ, ◌+◌, ◌<◌, ◌≤◌, ◌==◌, Bool}
use Rattle.std.proofs.Common.{true, false, not, List, [], ◌∷◌, ◌++◌, Result, Ok, Err, length, get_or, take, drop, arith}
use Rattle.std.proofs.lemmas.List.{take_more, append_assoc}
use Rattle.std.proofs.lemmas.Bool.Decides.{nat_tests}
use Rattle.evidence_check.proofs.StepsAnswers.{drop_here, drop_end}
use Rattle.field_core.specs.declared.place.Wide.{Wide}
use Rattle.field_core.specs.Kind.{Kind, ok_map}
use Rattle.field_core.specs.Steps.{◌>>=◌}
use Rattle.removal.specs.StoredGraph.{StoredGraph}
use Rattle.evidence_check.specs.EvidenceParts.{StepParts}
use Rattle.evidence.specs.FlowRun.{WideStep, RunState, FlowRun, has_some, recorded, flow_step, flow_run}

-- ---- a place of an order

pub drop_at : (js : List ℕ) (s : ℕ) → s < length js → drop s js ≡ get_or js s 0 ∷ drop (s + 1) js
drop_at js s p = drop_here js s 0 p ∙ ap (λ n. get_or js s 0 ∷ drop n js) (sym (add-one s))

-- whether there is more after a place
pub more_behind : (js : List ℕ) (n : ℕ) → n ≤ length js → has_some (drop n js) ≡ not (n == length js)
more_behind js n p = elim (ended n (length js) p) [
  | inl e ↦ ap has_some (ap (λ k. drop k js) e ∙ drop_end js (length js) refl) ∙ sym (ap not (same_numbers n (length js) e))
  | inr q ↦ ap has_some (drop_here js n 0 q) ∙ sym (ap not (other_numbers n (length js) q))
]
  where
    ended : (n m : ℕ) → n ≤ m → (n ≡ m) ⊎ (n < m)
    ended n m p = grind arith

    same_numbers : (n m : ℕ) → n ≡ m → (n == m) ≡ true
    same_numbers n m e = grind (arith, nat_tests)

    other_numbers : (n m : ℕ) → n < m → (n == m) ≡ false
    other_numbers n m q = grind (arith, nat_tests)

-- ---- the run

-- steps in front of those of a run
abbrev pub in_front : List StepParts → FlowRun → FlowRun
in_front xs r = record { steps = xs ++ r.steps; tables = r.tables }

in_front_more : {E : Type 0} (xs : List StepParts) (x : StepParts) (r : Result FlowRun E)
    → ok_map (in_front xs) (r >>= λ rest. Ok (record { steps = x ∷ rest.steps; tables = rest.tables })) ≡ ok_map (in_front (xs ++ x ∷ [])) r
in_front_more xs x (Ok r) = ap (λ ss. Ok (record { steps = ss; tables = r.tables })) (sym (append_assoc xs (x ∷ []) r.steps))
in_front_more xs x (Err e) = refl

module _ {S : Type 0} (K : Kind) (graph : S → StoredGraph) (removal : S → ℕ → Result S Wide) (is_kept : Bool) where
  run_cons : (earlier : List ℕ) (j : ℕ) (js : List ℕ) (s : RunState S) → flow_run K graph removal is_kept earlier (j ∷ js) s
      ≡ (flow_step K graph removal is_kept earlier j (not (has_some js)) s >>= λ t. flow_run K graph removal is_kept
      (earlier ++ j ∷ []) js t >>= λ rest. Ok (record { steps = recorded K s.tables earlier j ∷ rest.steps; tables = rest.tables }))
  unfolding flow_run
  run_cons earlier j js s = refl

  run_nil : (earlier : List ℕ) (s : RunState S) → flow_run K graph removal is_kept earlier [] s ≡ Ok (record { steps = []; tables = s.tables })
  unfolding flow_run
  run_nil earlier s = refl

  module _ (js : List ℕ) where
    -- before the step at a place, after these steps
    abbrev pub rest_from : ℕ → List StepParts → RunState S → Result FlowRun WideStep
    rest_from n xs s = ok_map (in_front xs) (flow_run K graph removal is_kept (take n js) (drop n js) s)

    module _ (n : ℕ) (p : n < length js) (xs : List StepParts) (s : RunState S) (is_last : Bool) (l : is_last ≡ (n + 1 == length js)) where
      last_is : not (has_some (drop (n + 1) js)) ≡ is_last
      last_is = ap not (more_behind js (n + 1) (omega arith)) ∙ not_not (n + 1 == length js) ∙ sym l
        where
          not_not : (b : Bool) → not (not b) ≡ b
          not_not true = refl
          not_not false = refl

      here : rest_from n xs s ≡ ok_map (in_front xs)
          (flow_step K graph removal is_kept (take n js) (get_or js n 0) is_last s >>= λ t. flow_run K graph removal is_kept
          (take n js ++ get_or js n 0 ∷ []) (drop (n + 1) js) t
          >>= λ rest. Ok (record { steps = recorded K s.tables (take n js) (get_or js n 0) ∷ rest.steps; tables = rest.tables }))
      here = rw (drop_at js n p, run_cons (take n js) (get_or js n 0) (drop (n + 1) js) s, last_is) refl

      -- a step that is done
      pub step_done : (x : StepParts) (t : RunState S) → x ≡ recorded K s.tables (take n js) (get_or js n 0)
          → flow_step K graph removal is_kept (take n js) (get_or js n 0) is_last s ≡ Ok t
          → rest_from n xs s ≡ rest_from (n + 1) (xs ++ x ∷ []) t
      step_done x t e h =
          here
          ∙ ap (λ r. ok_map (in_front xs)
          (r >>= λ t. flow_run K graph removal is_kept (take n js ++ get_or js n 0 ∷ []) (drop (n + 1) js) t >>= λ rest. Ok
          (record { steps = recorded K s.tables (take n js) (get_or js n 0) ∷ rest.steps; tables = rest.tables }))) h
          ∙ in_front_more xs (recorded K s.tables (take n js) (get_or js n 0))
          (flow_run K graph removal is_kept (take n js ++ get_or js n 0 ∷ []) (drop (n + 1) js) t)
          ∙ ap (λ y. ok_map (in_front (xs ++ y ∷ [])) (flow_run K graph removal is_kept (take n js ++ get_or js n 0 ∷ []) (drop (n + 1) js) t)) (sym e)
          ∙ ap (λ ks. ok_map (in_front (xs ++ x ∷ [])) (flow_run K graph removal is_kept ks (drop (n + 1) js) t)) (sym (take_more js n 0 p))

      -- a step that is refused ends the run
      pub step_refused : (w : WideStep) → flow_step K graph removal is_kept (take n js) (get_or js n 0) is_last s ≡ Err w → rest_from n xs s ≡ Err w
      step_refused w h =
          here
          ∙ ap (λ r. ok_map (in_front xs)
          (r >>= λ t. flow_run K graph removal is_kept (take n js ++ get_or js n 0 ∷ []) (drop (n + 1) js) t >>= λ rest. Ok
          (record { steps = recorded K s.tables (take n js) (get_or js n 0) ∷ rest.steps; tables = rest.tables }))) h

    -- nothing is left after the last step
    pub run_done : (n : ℕ) (xs : List StepParts) (s : RunState S) → n ≡ length js → rest_from n xs s ≡ Ok (record { steps = xs; tables = s.tables })
    run_done n xs s e = rw (ap (λ k. drop k js) e ∙ drop_end js (length js) refl, run_nil (take n js) s)
        (ap (λ ss. Ok (record { steps = ss; tables = s.tables })) (none_behind xs))
      where
        none_behind : (ss : List StepParts) → ss ++ [] ≡ ss
        none_behind [] = refl
        none_behind (s ∷ ss) = ap (λ ts. s ∷ ts) (none_behind ss)

    pub run_starts : (s : RunState S) → rest_from 0 [] s ≡ flow_run K graph removal is_kept [] js s
    run_starts s = as_it_is (flow_run K graph removal is_kept [] js s)
      where
        as_it_is : (r : Result FlowRun WideStep) → ok_map (in_front []) r ≡ r
        as_it_is (Ok r) = refl
        as_it_is (Err e) = refl
