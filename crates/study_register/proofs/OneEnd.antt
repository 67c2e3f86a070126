-- A look is taken, refused or stops part way, and only one of these; so a list of looks has one end.
use Rattle.std.proofs.Common.{◌≡◌, inl, inr, refl, sym, ap, ap₂, ◌∙◌, subst, ℕ, ◌+◌, arith, List, [], ◌∷◌}
use Rattle.graph_io.specs.declared.keeper.Look.{Look}
use Rattle.case_model.specs.Content.{Content}
use Rattle.case_model.specs.declared.draft_stages.Arrival.{Arrival}
use Rattle.staged_levels.specs.declared.event.StepFault.{StepFault}
use Rattle.staged_levels.specs.declared.event.StepFault.TheVariants.{Known, StageRange, PRange, Rejected, NotLegal, Wide as StepWide}
use Rattle.staged_levels.specs.Studies.{StudyState, start, MayArrive}
use Rattle.staged_levels.specs.StudyAnswers.{IsArriveFault}
use Rattle.staged_levels.proofs.LookLaws.{look_unique, look_not_wide, wide_look_unique, not_opened, one_opening}
use Rattle.staged_levels.proofs.LookSteps.{fault_not_may}
use Rattle.study_register.specs.declared.fault.RegisterFault.{RegisterFault}
use Rattle.study_register.specs.declared.fault.RegisterFault.TheVariants.{BadLook, Wide, Fault, NoMemory}
use Rattle.study_register.specs.Looking.{arrival_of, Takes, Follows}
use Rattle.study_register.specs.RegisterFaults.{IsBadLook, IsStopAt, IsFirstStop}
use Rattle.study_register.specs.RegisterStatements.{ReopeningsAgree, TakenLooksAreNotStopped, StopsAreUnique, WideOpeningsTakeNothing, LooksHaveOneEnd}

-- an arrival is refused for one reason
refusal_unique : (c : Content) (s : StudyState) (a : Arrival) (f g : StepFault) → IsArriveFault c s a f → IsArriveFault c s a g → f ≡ g
refusal_unique c s a (StageRange t) (StageRange u) h k = ap StageRange (h.0 ∙ sym k.0)
refusal_unique c s a (StageRange t) (Known i u) h k = absurd (h.1 k.2)
refusal_unique c s a (StageRange t) PRange h k = absurd (h.1 k.0)
refusal_unique c s a (StageRange t) (Rejected i) h k = absurd k
refusal_unique c s a (StageRange t) (NotLegal i) h k = absurd k
refusal_unique c s a (StageRange t) (StepWide w) h k = absurd k
refusal_unique c s a (Known i t) (StageRange u) h k = absurd (k.1 h.2)
refusal_unique c s a (Known i t) (Known j u) h k = ap₂ Known (h.0 ∙ sym k.0) (h.1 ∙ sym k.1)
refusal_unique c s a (Known i t) PRange h k = absurd (k.1 h.3)
refusal_unique c s a (Known i t) (Rejected j) h k = absurd k
refusal_unique c s a (Known i t) (NotLegal j) h k = absurd k
refusal_unique c s a (Known i t) (StepWide w) h k = absurd k
refusal_unique c s a PRange (StageRange u) h k = absurd (k.1 h.0)
refusal_unique c s a PRange (Known j u) h k = absurd (h.1 k.3)
refusal_unique c s a PRange PRange h k = refl
refusal_unique c s a PRange (Rejected j) h k = absurd k
refusal_unique c s a PRange (NotLegal j) h k = absurd k
refusal_unique c s a PRange (StepWide w) h k = absurd k
refusal_unique c s a (Rejected i) g h k = absurd h
refusal_unique c s a (NotLegal i) g h k = absurd h
refusal_unique c s a (StepWide w) g h k = absurd h

module _ (c : Content) where
  takes_unique : (s t u : StudyState) (l : Look) → Takes c s l t → Takes c s l u → t ≡ u
  takes_unique s t u l h k = (look_unique c s t u (arrival_of l) h.0 k.0 h.1 k.1).0

  -- what may arrive isn't bad
  not_bad : (s : StudyState) (l : Look) → MayArrive c s.values (arrival_of l) → ¬ IsBadLook c s l
  not_bad s l m (inl b) = let below = m.below in omega (arith, b, below)
  not_bad s l m (inr f) = fault_not_may c s (arrival_of l) f.0 m f.1

  taken_not_stopped_at : (s t : StudyState) (n : ℕ) (l : Look) (why : RegisterFault) → Takes c s l t → ¬ IsStopAt c s n l why
  taken_not_stopped_at s t n l (BadLook m b) h S = not_bad s l h.1.arrival.may S.2
  taken_not_stopped_at s t n l (Wide m w) h S = look_not_wide c s t (arrival_of l) h.0 w h.1 S.1
  taken_not_stopped_at s t n l Fault h S = S
  taken_not_stopped_at s t n l NoMemory h S = S

  stop_unique : (s : StudyState) (n : ℕ) (l : Look) (f g : RegisterFault) → IsStopAt c s n l f → IsStopAt c s n l g → f ≡ g
  stop_unique s n l (BadLook m b) (BadLook o d) h k = ap₂ BadLook (h.0 ∙ sym k.0) (h.1 ∙ sym k.1)
  stop_unique s n l (BadLook m b) (Wide o w) h k = absurd (not_bad s l k.1.arrival.may h.2)
  stop_unique s n l (BadLook m b) Fault h k = absurd k
  stop_unique s n l (BadLook m b) NoMemory h k = absurd k
  stop_unique s n l (Wide m v) (BadLook o d) h k = absurd (not_bad s l h.1.arrival.may k.2)
  stop_unique s n l (Wide m v) (Wide o w) h k = ap₂ Wide (h.0 ∙ sym k.0) (wide_look_unique c s (arrival_of l) v w h.1 k.1)
  stop_unique s n l (Wide m v) Fault h k = absurd k
  stop_unique s n l (Wide m v) NoMemory h k = absurd k
  stop_unique s n l Fault g h k = absurd h
  stop_unique s n l NoMemory g h k = absurd h

  -- ---- lists of looks

  follows_unique : (ls : List Look) (old s t : StudyState) → Follows c old ls s → Follows c old ls t → s ≡ t
  follows_unique [] old s t h k = h ∙ sym k
  follows_unique (l ∷ ls) old s t h k =
      let mids : h.0 ≡ k.0 = takes_unique old h.0 k.0 l h.1 k.1 in
      follows_unique ls k.0 s t (subst (λ m. Follows c m ls s) mids h.2) k.2

  followed_not_stopped : (ls : List Look) (old s : StudyState) (n : ℕ) (why : RegisterFault) → Follows c old ls s → ¬ IsFirstStop c old n ls why
  followed_not_stopped [] old s n why h S = S
  followed_not_stopped (l ∷ ls) old s n why h (inl S) = taken_not_stopped_at old h.0 n l why h.1 S
  followed_not_stopped (l ∷ ls) old s n why h (inr S) =
      let mids : h.0 ≡ S.0 = takes_unique old h.0 S.0 l h.1 S.1 in
      followed_not_stopped ls S.0 s (n + 1) why (subst (λ m. Follows c m ls s) mids h.2) S.2

  first_stop_unique : (ls : List Look) (old : StudyState) (n : ℕ) (f g : RegisterFault) → IsFirstStop c old n ls f → IsFirstStop c old n ls g → f ≡ g
  first_stop_unique [] old n f g h k = absurd h
  first_stop_unique (l ∷ ls) old n f g (inl h) (inl k) = stop_unique old n l f g h k
  first_stop_unique (l ∷ ls) old n f g (inl h) (inr k) = absurd (taken_not_stopped_at old k.0 n l f k.1 h)
  first_stop_unique (l ∷ ls) old n f g (inr h) (inl k) = absurd (taken_not_stopped_at old h.0 n l g h.1 k)
  first_stop_unique (l ∷ ls) old n f g (inr h) (inr k) =
      let mids : h.0 ≡ k.0 = takes_unique old h.0 k.0 l h.1 k.1 in
      first_stop_unique ls k.0 (n + 1) f g (subst (λ m. IsFirstStop c m (n + 1) ls f) mids h.2) k.2

-- ---- the laws

pub reopenings_agree : ReopeningsAgree
reopenings_agree c looks s t S T = follows_unique c looks start s t S.follows T.follows

pub taken_not_stopped : TakenLooksAreNotStopped
taken_not_stopped c looks s why T S = followed_not_stopped c looks start s 1 why T.follows S.first

pub stops_unique : StopsAreUnique
stops_unique c looks f g S T = first_stop_unique c looks start 1 f g S.first T.first

pub wide_openings : WideOpeningsTakeNothing
wide_openings c w e = record {
  unique = λ v h. one_opening c v w h e;
  taken = λ looks s T. not_opened c w e T.opened;
  stopped = λ looks why S. not_opened c w e S.opened;
}

pub looks_have_one_end : LooksHaveOneEnd
looks_have_one_end c s l = record {
  state = λ t u h k. takes_unique c s t u l h k;
  refusal = λ f g h k. refusal_unique c s (arrival_of l) f g h k;
  place = λ v w h k. wide_look_unique c s (arrival_of l) v w h k;
  not_refused = λ t f h k. fault_not_may c s (arrival_of l) f h.1.arrival.may k;
  not_broken = λ t w h k. look_not_wide c s t (arrival_of l) h.0 w h.1 k;
  not_both = λ f w h k. fault_not_may c s (arrival_of l) f k.arrival.may h;
  taken_below = λ t h. h.1.arrival.may.below;
  broken_below = λ w h. h.arrival.may.below;
}
