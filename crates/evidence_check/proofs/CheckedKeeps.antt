-- The written check of a keep by value.
use Rattle.std.proofs.Common.{◌≡◌, refl, sym, subst, ◌∙◌, ℕ, ◌<◌, true, false, not, List, length, Ok}
use Rattle.std.specs.Ordering.{is_le}
use Rattle.std.specs.declared.cmp.Ordering.{Ordering}
use Rattle.field_core.specs.declared.place.Place.TheVariants.{Level, Exit}
use Rattle.field_core.specs.Number.{Number}
use Rattle.field_core.specs.Arithmetic.{number_zero, number_one}
use Rattle.field_core.specs.Order.{◌≤ε◌}
use Rattle.field_core.specs.Field.{not_less}
use Rattle.field_core.specs.Limit.{limit}
use Rattle.field_core.specs.LimitParts.{IsUnit, limit_terms}
use Rattle.field_core.specs.Sets.{whole}
use Rattle.field_core.specs.Runs.{IsOrder}
use Rattle.field_core.specs.Kind.{Parts, Kind, sign_of}
use Rattle.field_core.specs.Exact.{IsExact, Gives, value_of}
use Rattle.fraction.specs.Plain.{single, IsFraction}
use Rattle.case_model.specs.EntangledGraph.{EntangledGraph, IsValidEntangled}
use Rattle.case_model.specs.ClosedTest.{Passes}
use Rattle.case_model.specs.TextbookRules.{does_pass}
use Rattle.case_model.proofs.PassTests.{pass_tested, tested_pass}
use Rattle.case_model.proofs.NoFaults.{not_true, not_false}
use Rattle.evidence_check.specs.Evidence.{at_place, leaving, allowed, shared, IsGoodKeep}
use Rattle.evidence_check.specs.EvidenceParts.{KeepParts, part_at, keep_values}
use Rattle.evidence_check.specs.CheckSteps.{require, written_at, all_below}
use Rattle.evidence_check.specs.BrokenConditions.{IsBrokenKeep}
use Rattle.evidence_check.specs.declared.verdict.Reason.{Reason}
use Rattle.evidence_check.specs.declared.verdict.Reason.TheVariants.{NegativeExit, ShortExit, AboveOne, Legal}
use Rattle.evidence_check.specs.WrittenCheck.{Loaded, level_by, leaving_sum, exit_check, allowed_sum, allowed_limit, keep_check}
use Rattle.evidence_check.specs.CheckStatements.{IsLoaded}
use Rattle.evidence_check.proofs.Duals.{allowed_low}
use Rattle.evidence_check.proofs.Tells.{Tells, tells_bind, tells_ok, require_tells, written_tells, all_tells}
use Rattle.evidence_check.proofs.WrittenSums.{true_false, sign_tells, compared}
use Rattle.evidence_check.proofs.CheckedSums.{limit_gives, level_tells, leave_tells, allow_tells}
use Rattle.evidence_check.proofs.CheckedSteps.{within, back}

module _ (K : Kind) (IsStored : Parts → Type 0) (X : IsExact K IsStored) (L : Loaded) (E : EntangledGraph) (V : IsValidEntangled E)
    (D : IsLoaded IsStored L E) (js : List ℕ) (o : IsOrder E.hypotheses whole js) where
  in_graph : (c : ℕ) → c < L.components → c < E.components
  in_graph = within K IsStored X L E V D

  -- ---- exits

  module _ (c : ℕ) (q : c < E.components) (k : ℕ) (K_in : k < E.hypotheses) (h : ℕ → Parts) (v : ℕ → Number)
      (H : (e : ℕ) → Gives IsStored (h e) (v e)) where
    abbrev ExitFits : ℕ → Type 0
    ExitFits r = (number_zero ≤ε v r) × (leaving (E.graph c) js v k (at_place js r) ≤ε v r)

    -- `Bad` holds of the reason whose condition an exit breaks
    exit_tells : (Bad : Reason → Type 0) (r : ℕ) → r < length js → (¬ (number_zero ≤ε v r) → Bad (NegativeExit c r))
        → (¬ (leaving (E.graph c) js v k (at_place js r) ≤ε v r) → Bad (ShortExit c r)) → Tells (exit_check K L js h k c r) (λ _. ExitFits r) Bad
    unfolding exit_check
    exit_tells Bad r p low short =
        let place = Exit (at_place js r) k in
        tells_bind (require (not_less (sign_of (h r))) (NegativeExit c r)) _ (λ _. number_zero ≤ε v r) _ Bad
        (sign_tells K IsStored X (h r) (v r) (NegativeExit c r) Bad (H r) low)
        (λ _ nonneg. tells_bind (leaving_sum K L js h k c r) _ (λ x. Gives IsStored x (leaving (E.graph c) js v k (at_place js r))) _ Bad
        (leave_tells K IsStored X L E V D js o c q k K_in h v H r Bad p)
        (λ sum S. tells_bind (written_at c place (K.compare sum (h r))) _ (λ order. K.compare sum (h r) ≡ Ok order) _ Bad
        (written_tells c place (K.compare sum (h r)) Bad)
        (λ order e.
        let t = compared K IsStored X sum (h r) (leaving (E.graph c) js v k (at_place js r)) (v r) order S (H r) e in
        require_tells (is_le order) (ShortExit c r) (ExitFits r) Bad (λ g. (nonneg, sym t ∙ g)) (λ g. short (λ f. true_false _ f (sym t ∙ g))))))

    -- the limit of what exits allow, which is at most 1
    limit_tells : (Bad : Reason → Type 0) → ((r : ℕ) → r < length js → number_zero ≤ε v r)
        → (¬ (allowed (E.graph c) js v k ≤ε number_one) → Bad (AboveOne c))
        → Tells (allowed_limit K L js h k c) (λ x. Gives IsFraction x (limit (allowed (E.graph c) js v k)) × (allowed (E.graph c) js v k ≤ε number_one)) Bad
    unfolding allowed_limit
    limit_tells Bad low above_one =
        let above = allowed_low E.hypotheses (E.graph c) (V.graph c q) js o v k K_in low in
        tells_bind (allowed_sum K L js h k c) _ (λ x. Gives IsStored x (allowed (E.graph c) js v k)) _ Bad
        (allow_tells K IsStored X L E V D js o c q k K_in h v H Bad)
        (λ sum S. tells_bind (written_at c (Level k) (K.compare sum K.one)) _ (λ order. K.compare sum K.one ≡ Ok order) _ Bad
        (written_tells c (Level k) (K.compare sum K.one) Bad)
        (λ order e.
        let t = compared K IsStored X sum K.one (allowed (E.graph c) js v k) number_one order S (record { stored = X.one_stored; value = X.one_value }) e in
        tells_bind (require (is_le order) (AboveOne c)) (λ _. Ok (single (limit_terms sum))) (λ _. allowed (E.graph c) js v k ≤ε number_one) _ Bad
        (require_tells (is_le order) (AboveOne c) (allowed (E.graph c) js v k ≤ε number_one) Bad (λ g. sym t ∙ g)
        (λ g. above_one (λ f. true_false _ f (sym t ∙ g))))
        (λ _ high. tells_ok (single (limit_terms sum)) _ _ (limit_gives K IsStored X sum _ S (record { low = above; high = high }), high))))

    -- what exits allow that isn't above 1 is from 0 to 1
    pub allowed_unit : ((r : ℕ) → r < length js → number_zero ≤ε v r) → (sum : Parts) (by : Ordering) → allowed_sum K L js h k c ≡ Ok sum
        → written_at c (Level k) (K.compare sum K.one) ≡ Ok by → is_le by ≡ true → IsUnit (value_of sum)
    allowed_unit low sum by s w le =
        let S = (allow_tells K IsStored X L E V D js o c q k K_in h v H (λ _. Unit {0})).ok sum s in
        let e = (written_tells c (Level k) (K.compare sum K.one) (λ _. Unit {0})).ok by w in
        let t = compared K IsStored X sum K.one (allowed (E.graph c) js v k) number_one by S (record { stored = X.one_stored; value = X.one_value }) e in
        subst IsUnit (sym S.value) (record { low = allowed_low E.hypotheses (E.graph c) (V.graph c q) js o v k K_in low; high = sym t ∙ le })

  -- ---- a keep

  module _ (x : KeepParts) (x_in : x.hypothesis < E.hypotheses) (H : (c e : ℕ) → IsStored (part_at K x.exits c e)) where
    abbrev value : ℕ → ℕ → Number
    value c e = value_of (part_at K x.exits c e)

    H_gives : (c e : ℕ) → Gives IsStored (part_at K x.exits c e) (value c e)
    H_gives c e = record { stored = H c e; value = refl }

    abbrev Good : Type 0
    Good = IsGoodKeep E L.p L.alpha js (keep_values K x)

    abbrev Bad : Reason → Type 0
    Bad = IsBrokenKeep E L.p L.alpha js (keep_values K x)

    abbrev allowing : ℕ → Number
    allowing c = allowed (E.graph c) js (λ e. value_of (part_at K x.exits c e)) x.hypothesis

    abbrev AllExits : Type 0
    AllExits = (c : ℕ) → c < L.components → (r : ℕ) → r < length js → (number_zero ≤ε value c r)
        × (leaving (E.graph c) js (λ e. value_of (part_at K x.exits c e)) x.hypothesis (at_place js r) ≤ε value c r)

    pub all_exits_tell : Tells (all_below L.components (λ c. all_below (length js) (exit_check K L js (part_at K x.exits c) x.hypothesis c))) (λ _. AllExits)
        Bad
    all_exits_tell =
        all_tells L.components (λ c. all_below (length js) (exit_check K L js (part_at K x.exits c) x.hypothesis c))
        (λ c. (r : ℕ) → r < length js → (number_zero ≤ε value c r)
        × (leaving (E.graph c) js (λ e. value_of (part_at K x.exits c e)) x.hypothesis (at_place js r) ≤ε value c r)) Bad
        (λ c q. all_tells (length js) (exit_check K L js (part_at K x.exits c) x.hypothesis c)
        (ExitFits c (in_graph c q) x.hypothesis x_in (part_at K x.exits c) (value c) (H_gives c)) Bad
        (λ r p. exit_tells c (in_graph c q) x.hypothesis x_in (part_at K x.exits c) (value c) (H_gives c) Bad r p
        (λ b. (in_graph c q, p, b)) (λ b. (in_graph c q, p, b))))

    abbrev AllBounded : Type 0
    AllBounded = (c : ℕ) → c < L.components → allowing c ≤ε number_one

    pub allowing_tells : AllExits → Tells (level_by L x.hypothesis (λ c. allowed_limit K L js (part_at K x.exits c) x.hypothesis c))
        (λ t. Gives IsFraction t (shared E allowing) × AllBounded) Bad
    allowing_tells exits =
        level_tells K IsStored X L E V D x.hypothesis (λ c. allowed_limit K L js (part_at K x.exits c) x.hypothesis c) (λ c. limit (allowing c))
        (λ c. allowing c ≤ε number_one) Bad
        (λ c q. limit_tells c (in_graph c q) x.hypothesis x_in (part_at K x.exits c) (value c) (H_gives c) Bad (λ r p. (exits c q r p).0)
        (λ b. (in_graph c q, b)))

    made : AllExits → AllBounded → (level : Parts) → Gives IsFraction level (shared E allowing)
        → does_pass (L.p x.hypothesis) (value_of level) L.alpha ≡ false → Good
    made exits bounded level T fails = record {
      below = x_in;
      exits = λ c q. let r = back K IsStored X L E V D c q in
          record { nonneg = λ e p. (exits c r e p).0; above = λ e p. (exits c r e p).1; bounded = bounded c r };
      fails = subst (λ u. ¬ Passes (L.p x.hypothesis) u L.alpha) T.value (λ passes. true_false _ (pass_tested _ _ _ passes) fails);
    }

    pub keep_tells : Tells (keep_check K L js x) (λ _. Good) Bad
    unfolding keep_check
    keep_tells =
        tells_bind (all_below L.components (λ c. all_below (length js) (exit_check K L js (part_at K x.exits c) x.hypothesis c))) _ (λ _. AllExits) _ Bad
        all_exits_tell
        (λ _ exits. tells_bind (level_by L x.hypothesis (λ c. allowed_limit K L js (part_at K x.exits c) x.hypothesis c)) _
        (λ t. Gives IsFraction t (shared E allowing) × AllBounded) _ Bad
        (allowing_tells exits)
        (λ level T. require_tells (not (does_pass (L.p x.hypothesis) (value_of level) L.alpha)) Legal Good Bad
        (λ h. made exits T.1 level T.0 (not_true _ h))
        (λ h. subst (λ u. Passes (L.p x.hypothesis) u L.alpha) T.0.value (tested_pass _ _ _ (not_false _ h)))))
