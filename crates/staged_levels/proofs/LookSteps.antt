-- Looks, one by one.
use Rattle.std.proofs.Common.{◌≡◌, inl, inr, refl, sym, ap, ◌∙◌, subst, subst₂, ℕ, zero, suc, ◌+◌, ◌<◌, ◌≤◌, arith, List, []}
use Rattle.std.proofs.Common.{◌∷◌, ◌++◌, length, take, drop, get_or, Result, Ok, Err}
use Rattle.std.proofs.lemmas.List.{length-take-le}
use Rattle.std.proofs.Math.Logic.{∥∥₁_elim}
use Rattle.std.proofs.Props.{props}
use Rattle.staged_levels.specs.declared.case_looks.LooksFault.{LooksFault}
use Rattle.staged_levels.specs.declared.case_looks.LooksFault.TheVariants.{Opening, Arriving, NoMemory}
use Rattle.std.specs.Prelude.{IfErr}
use Rattle.std.specs.Result.{IsErrAnd}
use Rattle.field_core.specs.declared.place.WideAt.{WideAt}
use Rattle.case_model.specs.declared.draft_stages.Arrival.{Arrival}
use Rattle.case_model.specs.Content.{Content}
use Rattle.staged_levels.specs.declared.event.Settled.{Settled}
use Rattle.staged_levels.specs.declared.event.StepFault.{StepFault}
use Rattle.staged_levels.specs.declared.event.StepFault.TheVariants.{Known, StageRange, PRange, Rejected, NotLegal, Wide}
use Rattle.staged_levels.specs.Studies.{StudyState, start, MayArrive}
use Rattle.staged_levels.specs.StudyAnswers.{IsArriveFault}
use Rattle.staged_levels.specs.StudyContents.{StudyContent, IsStudy, IsSomeStudy}
use Rattle.staged_levels.specs.Looks.{arrivals_of, IsDefined, IsLook, IsWideLook, LooksLead, IsFirstWideLook, IsLookFault, IsLooksFault}
use Rattle.staged_levels.proofs.Calls.{first_keep}

-- an arrival that may come isn't refused
pub fault_not_may : (c : Content) (s : StudyState) (a : Arrival) (fault : StepFault) → MayArrive c s.values a → ¬ IsArriveFault c s a fault
fault_not_may c s a (StageRange t) m f = f.1 m.stage
fault_not_may c s a (Known i t) m f = m.unknown f.3
fault_not_may c s a PRange m f = f.2 m.p
fault_not_may c s a (Rejected i) m f = f
fault_not_may c s a (NotLegal i) m f = f
fault_not_may c s a (Wide w) m f = f

pub never_refused : (t : StudyContent) → IsSomeStudy t → (a : Arrival) (fault : StepFault)
    → ((c : Content) → IsStudy c t → MayArrive c t.looks.values a) → ((c : Content) → IsStudy c t → IsArriveFault c t.looks a fault) → ⊥
never_refused t T a fault may f = ∥∥₁_elim T (λ x y. absurd x)
    (λ h. fault_not_may h.content t.looks a fault (may h.content h.is_study) (f h.content h.is_study))

-- a study is in a state that is defined
pub study_defined : (c : Content) (t : StudyContent) → IsStudy c t → IsDefined c t.looks
study_defined c t T = record { state = t.state; state_is = T.state }

-- what is after the first items
behind : (xs ys : List Settled) → drop (length xs) (xs ++ ys) ≡ ys
behind [] ys = refl
behind (x ∷ xs) ys = behind xs ys

-- the rejections that are added are those after it the earlier ones
pub added_are : (old new more : List Settled) → new ≡ old ++ more → new ≡ old ++ drop (length old) new
added_are old new more e = e ∙ ap (λ ys. old ++ ys) (sym (behind old more) ∙ ap (drop (length old)) (sym e))

-- ---- one look more

pub lead_next : (c : Content) (old s t : StudyState) (arrivals : List Arrival) (looks : List (List Settled)) (a : Arrival) (added : List Settled)
    → LooksLead c old arrivals looks s → IsLook c s a added t → LooksLead c old (arrivals ++ (a ∷ [])) (looks ++ (added ∷ [])) t
lead_next c old s t [] [] a added h k = (t, subst (λ o. IsLook c o a added t) h k, refl)
lead_next c old s t [] (l ∷ looks) a added h k = absurd h
lead_next c old s t (b ∷ arrivals) [] a added h k = absurd h
lead_next c old s t (b ∷ arrivals) (l ∷ looks) a added h k = (h.0, h.1, lead_next c h.0 s t arrivals looks a added h.2 k)

-- a look that stops part way after some that don't
pub lead_wide : (c : Content) (old s : StudyState) (arrivals : List Arrival) (looks : List (List Settled)) (i : ℕ) (a : Arrival) (more : List Arrival)
    (w : WideAt) → LooksLead c old arrivals looks s → IsWideLook c s a w → IsFirstWideLook c old i (arrivals ++ (a ∷ more)) (i + length arrivals) w
lead_wide c old s [] [] i a more w h k = inl (omega arith, subst (λ o. IsWideLook c o a w) h k)
lead_wide c old s [] (l ∷ looks) i a more w h k = absurd h
lead_wide c old s (b ∷ arrivals) [] i a more w h k = absurd h
lead_wide c old s (b ∷ arrivals) (l ∷ looks) i a more w h k =
    let n : (i + 1) + length arrivals ≡ i + length (b ∷ arrivals) = omega arith in
    inr (l, h.0, h.1, subst (λ m. IsFirstWideLook c h.0 (i + 1) (arrivals ++ (a ∷ more)) m w) n (lead_wide c h.0 s arrivals looks (i + 1) a more w h.2 k))

-- the values after a look
pub look_values : (c : Content) (old new : StudyState) (a : Arrival) (added : List Settled) → IsLook c old a added new
    → new.values ≡ old.values ++ (a ∷ [])
look_values c old new a added h = first_keep c h.arrived new h.settles.hypotheses h.settles.rejections ∙ h.arrival.values

-- a list is what is before a place, the item there, and what is after
pub split_at : (xs : List Arrival) (i : ℕ) (x : Arrival) → i < length xs → take i xs ++ (get_or xs i x ∷ drop (i + 1) xs) ≡ xs
split_at [] i x h = absurd (omega (arith, h))
split_at (y ∷ ys) zero x h = refl
split_at (y ∷ ys) (suc i) x h =
    let e : suc i + 1 ≡ suc (i + 1) = omega arith in
    ap (λ n. y ∷ (take i ys ++ (get_or ys i x ∷ drop n (y ∷ ys)))) e ∙ ap (λ zs. y ∷ zs) (split_at ys i x (omega (arith, h)))

-- what may arrive in a study by one case may by each case of which it is a study
pub may_other : (c d : Content) (t : StudyContent) (a : Arrival) → IsStudy c t → IsStudy d t → MayArrive c t.looks.values a
    → MayArrive d t.looks.values a
may_other c d t a T U m = record {
  below = subst (λ n. a.hypothesis < n) (T.size ∙ sym U.size) m.below;
  stage = record { first = m.stage.first; last = subst (λ n. a.stage ≤ n) (T.count ∙ sym U.count) m.stage.last };
  unknown = m.unknown;
  p = m.p;
}

-- more rejections aren't fewer
at_most_is_fact : (a b : ℕ) → IsProp (a ≤ b)
at_most_is_fact a b = hlevel props

longer : (old more : List Settled) → length old ≤ length (old ++ more)
longer [] more = omega arith
longer (x ∷ xs) more = let r = longer xs more in omega (arith, r)

pub grown : (t : StudyContent) → IsSomeStudy t → (new : StudyState)
    → ((c : Content) → IsStudy c t → (more : List Settled) × (new.rejected ≡ t.looks.rejected ++ more))
    → length t.looks.rejected ≤ length new.rejected
grown t T new grows = ∥∥₁_elim T (at_most_is_fact _ _)
    (λ h. let m = grows h.content h.is_study in subst (λ rs. length t.looks.rejected ≤ length rs) (sym m.1) (longer t.looks.rejected m.0))

-- where a look stops part way, those at the case do
pub look_fault : (c : Content) (s : StudyState) (xs : List Arrival) (looks : List (List Settled)) (i : ℕ) (a : Arrival) (fault : LooksFault)
    → IsDefined c start → xs ≡ arrivals_of c.inputs → i < length xs → get_or xs i a ≡ a → LooksLead c start (take i xs) looks s
    → IsLookFault c s a (i + 1) fault → IsLooksFault c fault
look_fault c s xs looks i a (Opening w) D e h here lead f = absurd f
look_fault c s xs looks i a NoMemory D e h here lead f = tt
look_fault c s xs looks i a (Arriving n w) D e h here lead f =
    let whole : take i xs ++ (a ∷ drop (i + 1) xs) ≡ arrivals_of c.inputs = ap (λ y. take i xs ++ (y ∷ drop (i + 1) xs)) (sym here) ∙ split_at xs i a h
    ∙ e in
    let shorter : length (take i xs) ≡ i = length-take-le i xs (omega (arith, h)) in
    let number : 1 + length (take i xs) ≡ n = let q = f.0 in omega (arith, shorter, q) in
    record {
      opened = D;
      first = subst₂ (λ ys m. IsFirstWideLook c start 1 ys m w) whole number
          (lead_wide c start s (take i xs) looks 1 a (drop (i + 1) xs) w lead f.1);
    }

-- a fault that is handed on
pub handed_on : {A : Type 0} (r : Result A LooksFault) (Good : LooksFault → Type 0) (fault : LooksFault) → IsErrAnd r (λ e. e ≡ fault) → Good fault
    → IfErr r Good
handed_on (Ok x) Good fault e h = tt
handed_on (Err x) Good fault e h = subst Good (sym e) h
