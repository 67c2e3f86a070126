-- Calls on a study, one after another.
use Rattle.std.proofs.Common.{◌≡◌, refl, sym, ap, ◌∙◌, subst, ℕ, Bool, true, false, List, [], ◌∷◌, ◌++◌, ◌↔◌}
use Rattle.std.proofs.lemmas.List.{append_assoc, append-nil}
use Rattle.case_model.specs.Content.{Content}
use Rattle.case_model.specs.LegalOrder.{IsListed, IsFirst}
use Rattle.case_model.specs.StagedCase.{IsStagedLegalIn, IsStagedRejectedIn}
use Rattle.staged_levels.specs.declared.event.Settled.{Settled}
use Rattle.staged_levels.specs.Studies.{StudyState, start, positions_of, remaining, IsStudyOf, IsSettled}
use Rattle.staged_levels.specs.StudyCalls.{StudyCall, arrive, reject, settle, Answered, IsRejection, AreFirstRejections, Settles, IsCall, AreCalls}
use Rattle.staged_levels.specs.StudyCalls.{AreCallsFromOpening, arrival_in, arrivals_in}
use Rattle.staged_levels.proofs.StudyFacts.{arrival_leaves, rejection_leaves, study_decides}

-- ---- studies stay studies

first_leave : (c : Content) (old new : StudyState) (ks : List ℕ) → IsStudyOf c old → AreFirstRejections c old ks new → IsStudyOf c new
first_leave c old new [] S e = subst (IsStudyOf c) (sym e) S
first_leave c old new (k ∷ ks) S h = let n = h.1.1 in first_leave c h.1.0 new ks (rejection_leaves c old S h.1.0 n.line n.line_is n.values n.rejected) h.1.2

call_leaves : (c : Content) (old new : StudyState) (e : StudyCall) (b : Bool) → IsStudyOf c old → IsCall c old e b new → IsStudyOf c new
call_leaves c old new (arrive a) true S h = arrival_leaves c old S new a h.may h.values h.rejected
call_leaves c old new (arrive a) false S h = subst (IsStudyOf c) (sym h) S
call_leaves c old new (reject k) true S h = rejection_leaves c old S new h.line h.line_is h.values h.rejected
call_leaves c old new (reject k) false S h = subst (IsStudyOf c) (sym h) S
call_leaves c old new settle true S h = first_leave c old new h.hypotheses S h.rejections
call_leaves c old new settle false S h = first_leave c old new h.0 S h.1

pub calls_leave : (c : Content) (old new : StudyState) (es : List Answered) → IsStudyOf c old → AreCalls c old es new → IsStudyOf c new
calls_leave c old new [] S e = subst (IsStudyOf c) (sym e) S
calls_leave c old new (e ∷ es) S h = calls_leave c h.0 new es (call_leaves c old h.0 e.call e.accepted S h.1) h.2

-- ---- what calls append

-- some more rejections
Appends : StudyState → StudyState → Type 0
Appends old new = (more : List Settled) × (new.rejected ≡ old.rejected ++ more)

none : (old new : StudyState) → new.rejected ≡ old.rejected → Appends old new
unfolding Appends
none old new e = ([], e ∙ sym (append-nil old.rejected))

then : (old mid new : StudyState) → Appends old mid → Appends mid new → Appends old new
unfolding Appends
then old mid new g h = (g.0 ++ h.0, h.1 ∙ ap (λ rs. rs ++ h.0) g.1 ∙ append_assoc old.rejected g.0 h.0)

one : (c : Content) (old new : StudyState) (k : ℕ) → IsRejection c old k new → Appends old new
unfolding Appends
one c old new k h = (h.line ∷ [], h.rejected)

first_append : (c : Content) (old new : StudyState) (ks : List ℕ) → AreFirstRejections c old ks new → Appends old new
first_append c old new [] e = none old new (ap (λ s. s.rejected) e)
first_append c old new (k ∷ ks) h = then old h.1.0 new (one c old h.1.0 k h.1.1) (first_append c h.1.0 new ks h.1.2)

call_appends : (c : Content) (old new : StudyState) (e : StudyCall) (b : Bool) → IsCall c old e b new → Appends old new
call_appends c old new (arrive a) true h = none old new h.rejected
call_appends c old new (arrive a) false h = none old new (ap (λ s. s.rejected) h)
call_appends c old new (reject k) true h = one c old new k h
call_appends c old new (reject k) false h = none old new (ap (λ s. s.rejected) h)
call_appends c old new settle true h = first_append c old new h.hypotheses h.rejections
call_appends c old new settle false h = first_append c old new h.0 h.1

pub settle_appends : (c : Content) (old new : StudyState) → Settles c old new → (more : List Settled) × (new.rejected ≡ old.rejected ++ more)
unfolding Appends
settle_appends c old new h = first_append c old new h.hypotheses h.rejections

calls_append : (c : Content) (old new : StudyState) (es : List Answered) → AreCalls c old es new → Appends old new
calls_append c old new [] e = none old new (ap (λ s. s.rejected) e)
calls_append c old new (e ∷ es) h = then old h.0 new (call_appends c old h.0 e.call e.accepted h.1) (calls_append c h.0 new es h.2)

pub rejections_stay : (c : Content) (old new : StudyState) (es : List Answered) → AreCalls c old es new → (more : List Settled)
    × (new.rejected ≡ old.rejected ++ more)
unfolding Appends
rejections_stay c old new es h = calls_append c old new es h

-- ---- which values have arrived

pub first_keep : (c : Content) (old new : StudyState) (ks : List ℕ) → AreFirstRejections c old ks new → new.values ≡ old.values
first_keep c old new [] e = ap (λ s. s.values) e
first_keep c old new (k ∷ ks) h = first_keep c h.1.0 new ks h.1.2 ∙ h.1.1.values

kept : (old new : StudyState) → new.values ≡ old.values → new.values ≡ old.values ++ []
kept old new e = e ∙ sym (append-nil old.values)

call_values : (c : Content) (old new : StudyState) (e : StudyCall) (b : Bool) → IsCall c old e b new → new.values ≡ old.values ++ arrival_in e b
call_values c old new (arrive a) true h = h.values
call_values c old new (arrive a) false h = kept old new (ap (λ s. s.values) h)
call_values c old new (reject k) true h = kept old new h.values
call_values c old new (reject k) false h = kept old new (ap (λ s. s.values) h)
call_values c old new settle true h = kept old new (first_keep c old new h.hypotheses h.rejections)
call_values c old new settle false h = kept old new (first_keep c old new h.0 h.1)

calls_values : (c : Content) (old new : StudyState) (es : List Answered) → AreCalls c old es new → new.values ≡ old.values ++ arrivals_in es
calls_values c old new [] h = kept old new (ap (λ s. s.values) h)
calls_values c old new (e ∷ es) h =
    calls_values c h.0 new es h.2 ∙ ap (λ vs. vs ++ arrivals_in es) (call_values c old h.0 e.call e.accepted h.1)
    ∙ append_assoc old.values (arrival_in e.call e.accepted) (arrivals_in es)

-- ---- from the opening on

pub values_accepted : (c : Content) (es : List Answered) (s : StudyState) → AreCallsFromOpening c es s → s.values ≡ arrivals_in es
values_accepted c es s h = calls_values c start s es h.calls

pub settling_decides : (c : Content) (es : List Answered) (s : StudyState) (j : ℕ) → AreCallsFromOpening c es s → IsSettled c s
    → IsListed (positions_of s.rejected) j ↔ IsStagedRejectedIn c (arrivals_in es) j
settling_decides c es s j h settled =
    subst (λ vs. IsListed (positions_of s.rejected) j ↔ IsStagedRejectedIn c vs j) (values_accepted c es s h)
    (study_decides c s (calls_leave c start s es h.opened h.calls) settled j)

-- ---- settling

-- one more of the first rejections
pub first_next : (c : Content) (old mid new : StudyState) (ks : List ℕ) (k : ℕ) → AreFirstRejections c old ks mid
    → IsFirst (IsStagedLegalIn c mid.values) (remaining mid) k → IsRejection c mid k new → AreFirstRejections c old (ks ++ (k ∷ [])) new
first_next c old mid new [] k e f r =
    subst (λ s. IsFirst (IsStagedLegalIn c s.values) (remaining s) k × ((n : StudyState) × IsRejection c s k n × (new ≡ n))) e (f, (new, r, refl))
first_next c old mid new (i ∷ ks) k h f r = (h.0, (h.1.0, h.1.1, first_next c h.1.0 mid new ks k h.1.2 f r))
