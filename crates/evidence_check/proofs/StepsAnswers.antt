-- Steps and keeps are checked one after the other.
use Rattle.std.proofs.Common.{◌≡◌, refl, sym, ap, ap₂, subst, ◌∙◌, ℕ, zero, suc, ◌+◌, ◌<◌, false, List, [], ◌∷◌, ◌++◌, map}
use Rattle.std.proofs.Common.{take, drop, length, get_or, Result, Ok, Err, add-one, arith}
use Rattle.std.proofs.lemmas.List.{map-append, length-map, get_or-map}
use Rattle.std.specs.List.{All}
use Rattle.std.proofs.Math.Seq.{take-suc}
use Rattle.field_core.specs.Kind.{Parts, Kind}
use Rattle.field_core.specs.Sets.{whole, set_of}
use Rattle.field_core.specs.Runs.{IsOrder}
use Rattle.field_core.specs.Steps.{◌>>=◌}
use Rattle.case_model.proofs.RejectionOrders.{not_listed_left}
use Rattle.case_model.proofs.LegalSteps.{removals_next}
use Rattle.case_model.proofs.NoFaults.{not_true}
use Rattle.evidence_check.specs.declared.evidence.ProofStep.{ProofStep}
use Rattle.evidence_check.specs.declared.evidence.KeepProof.{KeepProof}
use Rattle.evidence_check.specs.declared.event.CheckEvent.{CheckEvent}
use Rattle.evidence_check.specs.declared.event.CheckEventAt.{CheckEventAt}
use Rattle.evidence_check.specs.EvidenceView.{hypotheses_of, step_parts, keep_parts}
use Rattle.evidence_check.specs.CheckSteps.{numbered}
use Rattle.evidence_check.specs.WrittenCheck.{Loaded, step_check, keep_check, steps_check, keeps_check}
use Rattle.evidence_check.proofs.ExitAnswers.{require_met}
use Rattle.evidence_check.proofs.StepAnswers.{step_new}

-- from a place on
pub drop_here : {A : Type 0} (xs : List A) (i : ℕ) (d : A) → i < length xs → drop i xs ≡ get_or xs i d ∷ drop (suc i) xs
drop_here [] i d p = absurd (omega arith)
drop_here (x ∷ xs) zero d p = refl
drop_here (x ∷ xs) (suc i) d p = drop_here xs i d (omega arith)

pub drop_end : {A : Type 0} (xs : List A) (i : ℕ) → i ≡ length xs → drop i xs ≡ []
drop_end [] zero e = refl
drop_end [] (suc i) e = refl
drop_end (x ∷ xs) zero e = absurd (omega arith)
drop_end (x ∷ xs) (suc i) e = drop_end xs i (omega arith)

pub take_end : {A : Type 0} (xs : List A) (i : ℕ) → i ≡ length xs → take i xs ≡ xs
take_end [] zero e = refl
take_end [] (suc i) e = refl
take_end (x ∷ xs) zero e = absurd (omega arith)
take_end (x ∷ xs) (suc i) e = ap (λ ys. x ∷ ys) (take_end xs i (omega arith))

pub take_count : {A : Type 0} (xs : List A) (i : ℕ) → i < length xs → length (take i xs) ≡ i
take_count [] i p = absurd (omega arith)
take_count (x ∷ xs) zero p = refl
take_count (x ∷ xs) (suc i) p = ap suc (take_count xs i (omega arith))

module _ {F : Type 0} (parts : F → Parts) (K : Kind) (L : Loaded) (m : ℕ) (steps : List (ProofStep F)) where
  -- this number of steps were checked
  pub record Checked (i : ℕ) : Type 0 where
    pub ahead : steps_check K L [] (map (step_parts parts) steps) ≡ steps_check K L (hypotheses_of (take i steps)) (map (step_parts parts) (drop i steps))
    pub order : IsOrder m whole (hypotheses_of (take i steps))

  pub steps_start : Checked 0
  steps_start = record { ahead = refl; order = tt }

  module _ (i : ℕ) (s : ProofStep F) (p : i < length steps) (h : s ≡ get_or steps i s) (C : Checked i) where
    here : drop i steps ≡ s ∷ drop (suc i) steps
    here = drop_here steps i s p ∙ ap (λ s. s ∷ drop (suc i) steps) (sym h)

    pub step_known : All (λ s. s.hypothesis < m) (map (step_parts parts) steps) → s.hypothesis < m
    step_known all = subst (λ s. s.hypothesis < m) (sym (ap (step_parts parts) h))
        (subst (λ s. s.hypothesis < m) (get_or-map (step_parts parts) steps i s (step_parts parts s) p)
        (all i (step_parts parts s) (subst (λ n. i < n) (sym (length-map steps (step_parts parts))) p)))

    many : length (hypotheses_of (take i steps)) ≡ i
    many = length-map (take i steps) (λ s. s.hypothesis) ∙ take_count steps i p

    ahead_is : steps_check K L []
        (map (step_parts parts) steps) ≡ (numbered (i + 1) (step_check K L (hypotheses_of (take i steps)) (step_parts parts s)) >>= λ _. steps_check K L
        (hypotheses_of (take i steps) ++ s.hypothesis ∷ []) (map (step_parts parts) (drop (suc i) steps)))
    unfolding steps_check
    ahead_is = C.ahead ∙ ap (λ ss. steps_check K L (hypotheses_of (take i steps)) (map (step_parts parts) ss)) here
        ∙ ap (λ n. numbered (n + 1) (step_check K L (hypotheses_of (take i steps)) (step_parts parts s)) >>= λ _. steps_check K L
        (hypotheses_of (take i steps) ++ s.hypothesis ∷ []) (map (step_parts parts) (drop (suc i) steps))) many

    pub steps_stop : (e : CheckEventAt) → numbered (i + 1) (step_check K L (hypotheses_of (take i steps)) (step_parts parts s)) ≡ Err e
        → steps_check K L [] (map (step_parts parts) steps) ≡ Err e
    steps_stop e w = rw (ahead_is, w) refl

    one_more : hypotheses_of (take (suc i) steps) ≡ hypotheses_of (take i steps) ++ s.hypothesis ∷ []
    one_more = ap hypotheses_of (take-suc steps i s p) ∙ map-append (λ s. s.hypothesis) (take i steps) (get_or steps i s ∷ [])
        ∙ ap (λ s. hypotheses_of (take i steps) ++ s.hypothesis ∷ []) (sym h)

    done : (r : Result (Unit {0}) CheckEvent) (u : Unit {0}) → numbered (i + 1) r ≡ Ok u → r ≡ Ok tt
    unfolding numbered
    done (Ok v) u w = refl
    done (Err e) u w = absurd (cc)

    pub steps_next : (u : Unit {0}) → s.hypothesis < m → numbered (i + 1) (step_check K L (hypotheses_of (take i steps)) (step_parts parts s)) ≡ Ok u
        → Checked (i + 1)
    steps_next u below w = subst Checked (sym (add-one i)) (record {
      ahead = rw (ahead_is, w) (ap (λ js. steps_check K L js (map (step_parts parts) (drop (suc i) steps))) (sym one_more));
      order = subst (IsOrder m whole) (sym one_more)
          (removals_next m (hypotheses_of (take i steps)) s.hypothesis whole C.order
          (record { below = below; member = not_listed_left (hypotheses_of (take i steps)) whole s.hypothesis refl new }));
    })
      where
        new : set_of (hypotheses_of (take i steps)) s.hypothesis ≡ false
        new = not_true _ (require_met _ _ _ (step_new K L (hypotheses_of (take i steps)) (step_parts parts s) tt (done _ u w)))

  pub steps_end : (i : ℕ) → i ≡ length steps → Checked i → steps_check K L [] (map (step_parts parts) steps) ≡ Ok (hypotheses_of steps)
  unfolding steps_check
  steps_end i e C = C.ahead ∙ ap₂ (λ ts ds. steps_check K L (hypotheses_of ts) (map (step_parts parts) ds)) (take_end steps i e) (drop_end steps i e)

  pub order_end : (i : ℕ) → i ≡ length steps → Checked i → IsOrder m whole (hypotheses_of steps)
  order_end i e C = subst (λ ts. IsOrder m whole (hypotheses_of ts)) (take_end steps i e) C.order

module _ {F : Type 0} (parts : F → Parts) (K : Kind) (L : Loaded) (js : List ℕ) (m n : ℕ) (keeps : List (KeepProof F)) where
  -- this number of keeps was checked
  pub record Kept (i : ℕ) : Type 0 where
    pub ahead : keeps_check K L js n (map (keep_parts parts) keeps) ≡ keeps_check K L js (n + i) (map (keep_parts parts) (drop i keeps))

  pub keeps_start : Kept 0
  keeps_start = record { ahead = ap (λ k. keeps_check K L js k (map (keep_parts parts) keeps)) (zero_more n) }
    where
      zero_more : (n : ℕ) → n ≡ n + 0
      zero_more n = omega arith

  module _ (i : ℕ) (x : KeepProof F) (p : i < length keeps) (h : x ≡ get_or keeps i x) (C : Kept i) where
    keep_here : drop i keeps ≡ x ∷ drop (suc i) keeps
    keep_here = drop_here keeps i x p ∙ ap (λ x. x ∷ drop (suc i) keeps) (sym h)

    pub keep_known : All (λ x. x.hypothesis < m) (map (keep_parts parts) keeps) → x.hypothesis < m
    keep_known all = subst (λ x. x.hypothesis < m) (sym (ap (keep_parts parts) h))
        (subst (λ x. x.hypothesis < m) (get_or-map (keep_parts parts) keeps i x (keep_parts parts x) p)
        (all i (keep_parts parts x) (subst (λ n. i < n) (sym (length-map keeps (keep_parts parts))) p)))

    kept_is : keeps_check K L js n
        (map (keep_parts parts) keeps) ≡ (numbered (n + i + 1) (keep_check K L js (keep_parts parts x)) >>= λ _. keeps_check K L js (n + i + 1)
        (map (keep_parts parts) (drop (suc i) keeps)))
    unfolding keeps_check
    kept_is = C.ahead ∙ ap (λ xs. keeps_check K L js (n + i) (map (keep_parts parts) xs)) keep_here

    pub keeps_stop : (e : CheckEventAt) → numbered (n + i + 1) (keep_check K L js (keep_parts parts x)) ≡ Err e
        → keeps_check K L js n (map (keep_parts parts) keeps) ≡ Err e
    keeps_stop e w = rw (kept_is, w) refl

    more : (n i : ℕ) → n + i + 1 ≡ n + suc i
    more n i = omega arith

    pub keeps_next : (u : Unit {0}) → numbered (n + i + 1) (keep_check K L js (keep_parts parts x)) ≡ Ok u → Kept (i + 1)
    keeps_next u w = subst Kept (sym (add-one i)) (record {
      ahead = rw (kept_is, w) (ap (λ k. keeps_check K L js k (map (keep_parts parts) (drop (suc i) keeps))) (more n i));
    })

  pub keeps_end : (i : ℕ) → i ≡ length keeps → Kept i → keeps_check K L js n (map (keep_parts parts) keeps) ≡ Ok tt
  unfolding keeps_check
  keeps_end i e C = C.ahead ∙ ap (λ ds. keeps_check K L js (n + i) (map (keep_parts parts) ds)) (drop_end keeps i e)
