-- A case has its looks, or one place where they stop part way, and not both.
use Rattle.std.proofs.Common.{◌≡◌, ◌⊎◌, inl, inr, refl, sym, ap, ap₂, ◌∙◌, subst, ℕ, ◌+◌, List, [], ◌∷◌, ◌++◌, Ok}
use Rattle.std.proofs.Common.{Err}
use Rattle.std.proofs.lemmas.List.{append_assoc, append-nil, map_push}
use Rattle.field_core.specs.declared.place.WideAt.{WideAt}
use Rattle.field_core.specs.Steps.{◌>>=◌}
use Rattle.removal.specs.InTurn.{removed_in_turn}
use Rattle.case_model.specs.declared.draft_stages.Arrival.{Arrival}
use Rattle.case_model.specs.Content.{Content}
use Rattle.case_model.specs.StagedCase.{IsStagedLegalIn}
use Rattle.case_model.proofs.RejectionOrders.{first_unique}
use Rattle.entangled.specs.CaseRun.{CaseState, case_opening, case_removal}
use Rattle.entangled.specs.CaseAfter.{case_after}
use Rattle.entangled.proofs.CaseRuns.{after_next, after_more}
use Rattle.staged_levels.specs.declared.event.Settled.{Settled}
use Rattle.staged_levels.specs.Studies.{StudyState, start, positions_of, remaining, IsSettled}
use Rattle.staged_levels.specs.StudyCalls.{IsArrival, IsRejection, AreFirstRejections, Settles}
use Rattle.staged_levels.specs.StudyAnswers.{IsWideSettling}
use Rattle.staged_levels.specs.Looks.{IsDefined, IsLook, IsWideLook, LooksLead, AreLooks, IsFirstWideLook, BreaksOff}
use Rattle.staged_levels.proofs.Settlings.{rejection_unique, settling_unique}
use Rattle.field_core.proofs.Results.{one_fault}

-- ---- removals in turn

-- what begins with a removal that is undefined isn't defined
refused_stops : (c : Content) (js : List ℕ) (j : ℕ) (rest : List ℕ) (s t : CaseState) (w : WideAt) → case_after c js ≡ Ok s
    → case_after c (js ++ (j ∷ [])) ≡ Err w → ¬ (case_after c (js ++ (j ∷ rest)) ≡ Ok t)
unfolding removed_in_turn
refused_stops c js j rest s t w h e k =
    let removal : case_removal s j ≡ Err w = sym (after_next c js s j h) ∙ e in
    let a = after_more c js (j ∷ rest) s h in
    let b : removed_in_turn case_removal s (j ∷ rest) ≡ Err w = ap (λ r. r >>= λ u. removed_in_turn case_removal u rest) removal in
    cc

-- ---- rejections one after another

-- the rejected ones are those of before and these
first_positions : (c : Content) (old new : StudyState) (ks : List ℕ) → AreFirstRejections c old ks new
    → positions_of new.rejected ≡ positions_of old.rejected ++ ks
first_positions c old new [] e = ap (λ s. positions_of s.rejected) e ∙ sym (append-nil (positions_of old.rejected))
first_positions c old new (k ∷ ks) h =
    let n = h.1.1 in
    let one : positions_of h.1.0.rejected ≡ positions_of old.rejected ++ (k ∷ []) = ap positions_of n.rejected
    ∙ map_push (λ r. r.hypothesis) old.rejected n.line ∙ ap (λ j. positions_of old.rejected ++ (j ∷ [])) n.hypothesis in
    first_positions c h.1.0 new ks h.1.2 ∙ ap (λ js. js ++ ks) one ∙ append_assoc (positions_of old.rejected) (k ∷ []) ks

module _ (c : Content) where
  -- of two such lists of rejections one continues from the other
  one_goes_on : (old s t : StudyState) (js ks : List ℕ) → AreFirstRejections c old js s → AreFirstRejections c old ks t
      → ((more : List ℕ) × AreFirstRejections c s more t) ⊎ ((more : List ℕ) × AreFirstRejections c t more s)
  one_goes_on old s t [] ks h g = inl (ks, subst (λ o. AreFirstRejections c o ks t) (sym h) g)
  one_goes_on old s t (j ∷ js) [] h g = inr (j ∷ js, subst (λ o. AreFirstRejections c o (j ∷ js) s) (sym g) h)
  one_goes_on old s t (j ∷ js) (k ∷ ks) h g =
      let same : k ≡ j = first_unique (IsStagedLegalIn c old.values) (remaining old) k j g.0 h.0 in
      let mids : g.1.0 ≡ h.1.0 = rejection_unique c old g.1.0 h.1.0 j (subst (λ i. IsRejection c old i g.1.0) same g.1.1) h.1.1 in
      one_goes_on h.1.0 s t js ks h.1.2 (subst (λ m. AreFirstRejections c m ks t) mids g.1.2)

  -- past a removal that is undefined none continue
  not_past : (s t : StudyState) (w : WideAt) (k : ℕ) (ks : List ℕ) → IsDefined c s → IsWideSettling c s w → AreFirstRejections c s (k ∷ ks) t
      → ¬ IsDefined c t
  not_past s t w k ks D W h E =
      let same : W.next ≡ k = first_unique (IsStagedLegalIn c s.values) (remaining s) W.next k W.is_first h.0 in
      let wide : case_after c (positions_of s.rejected ++ (k ∷ [])) ≡ Err w =
      subst (λ j. case_after c (positions_of s.rejected ++ (j ∷ [])) ≡ Err w) same W.wide in
      refused_stops c (positions_of s.rejected) k ks D.state E.state w D.state_is wide
      (ap (case_after c) (sym (first_positions c s t (k ∷ ks) h)) ∙ E.state_is)

  -- a settling that is defined doesn't stop part way
  not_broken : (old s t : StudyState) (w : WideAt) (js ks : List ℕ) → AreFirstRejections c old js s → IsDefined c s → IsWideSettling c s w
      → AreFirstRejections c old ks t → IsDefined c t → ¬ IsSettled c t
  not_broken old s t w js ks h D W g E settled = elim (one_goes_on old s t js ks h g) [
    | inl m ↦ forth m.0 m.1
    | inr m ↦ back m.0 m.1
  ]
    where
      forth : (more : List ℕ) → AreFirstRejections c s more t → ⊥
      forth [] e = subst (IsSettled c) e settled W.next W.is_first.allowed
      forth (k ∷ more) m = not_past s t w k more D W m E

      back : (more : List ℕ) → AreFirstRejections c t more s → ⊥
      back [] e = subst (IsSettled c) (sym e) settled W.next W.is_first.allowed
      back (k ∷ more) m = settled k m.0.allowed

  -- it stops part way at one place
  one_break : (old s t : StudyState) (v w : WideAt) (js ks : List ℕ) → AreFirstRejections c old js s → IsDefined c s → IsWideSettling c s v
      → AreFirstRejections c old ks t → IsDefined c t → IsWideSettling c t w → v ≡ w
  one_break old s t v w js ks h D V g E W = elim (one_goes_on old s t js ks h g) [
    | inl m ↦ forth m.0 m.1
    | inr m ↦ back m.0 m.1
  ]
    where
      here : (s t : StudyState) (v w : WideAt) → IsWideSettling c s v → IsWideSettling c t w → t ≡ s → v ≡ w
      here s t v w V W e =
          let U : IsWideSettling c s w = subst (λ o. IsWideSettling c o w) e W in
          let same : U.next ≡ V.next = first_unique (IsStagedLegalIn c s.values) (remaining s) U.next V.next U.is_first V.is_first in
          one_fault (case_after c (positions_of s.rejected ++ (V.next ∷ []))) v w V.wide
          (subst (λ j. case_after c (positions_of s.rejected ++ (j ∷ [])) ≡ Err w) same U.wide)

      forth : (more : List ℕ) → AreFirstRejections c s more t → v ≡ w
      forth [] e = here s t v w V W e
      forth (k ∷ more) m = absurd (not_past s t v k more D V m E)

      back : (more : List ℕ) → AreFirstRejections c t more s → v ≡ w
      back [] e = sym (here t s w v W V e)
      back (k ∷ more) m = absurd (not_past t s w k more E W m D)

  -- ---- looks

  arrival_unique : (old s t : StudyState) (a : Arrival) → IsArrival c old a s → IsArrival c old a t → s ≡ t
  arrival_unique old s t a h g = ap₂ (λ vs rs. record { values = vs; rejected = rs }) (h.values ∙ sym g.values) (h.rejected ∙ sym g.rejected)

  pub added_same : (rs xs ys : List Settled) → rs ++ xs ≡ rs ++ ys → xs ≡ ys
  added_same [] xs ys e = e
  added_same (r ∷ rs) xs ys e = added_same rs xs ys (cc)

  pub look_unique : (old s t : StudyState) (a : Arrival) (xs ys : List Settled) → IsLook c old a xs s → IsLook c old a ys t → (s ≡ t) × (xs ≡ ys)
  look_unique old s t a xs ys h g =
      let arrived : g.arrived ≡ h.arrived = arrival_unique old g.arrived h.arrived a g.arrival h.arrival in
      let ends : s ≡ t = settling_unique c h.arrived s t h.settles (subst (λ m. Settles c m t) arrived g.settles) in
      (ends, added_same old.rejected xs ys (sym h.rejected ∙ ap (λ m. m.rejected) ends ∙ g.rejected))

  pub look_not_wide : (old s : StudyState) (a : Arrival) (xs : List Settled) (w : WideAt) → IsLook c old a xs s → ¬ IsWideLook c old a w
  look_not_wide old s a xs w h W =
      let arrived : h.arrived ≡ W.arrived = arrival_unique old h.arrived W.arrived a h.arrival W.arrival in
      let settles : Settles c W.arrived s = subst (λ m. Settles c m s) arrived h.settles in
      not_broken W.arrived W.stop s w W.rejected settles.hypotheses W.rejections W.is_defined W.wide settles.rejections h.is_defined settles.settled

  pub wide_look_unique : (old : StudyState) (a : Arrival) (v w : WideAt) → IsWideLook c old a v → IsWideLook c old a w → v ≡ w
  wide_look_unique old a v w V W =
      let arrived : W.arrived ≡ V.arrived = arrival_unique old W.arrived V.arrived a W.arrival V.arrival in
      one_break V.arrived V.stop W.stop v w V.rejected W.rejected V.rejections V.is_defined V.wide
      (subst (λ m. AreFirstRejections c m W.rejected W.stop) arrived W.rejections) W.is_defined W.wide

  leads_unique : (old s t : StudyState) (arrivals : List Arrival) (xs ys : List (List Settled)) → LooksLead c old arrivals xs s
      → LooksLead c old arrivals ys t → xs ≡ ys
  leads_unique old s t [] [] [] h g = refl
  leads_unique old s t [] [] (y ∷ ys) h g = absurd g
  leads_unique old s t [] (x ∷ xs) ys h g = absurd h
  leads_unique old s t (a ∷ more) [] ys h g = absurd h
  leads_unique old s t (a ∷ more) (x ∷ xs) [] h g = absurd g
  leads_unique old s t (a ∷ more) (x ∷ xs) (y ∷ ys) h g =
      let u = look_unique old h.0 g.0 a x y h.1 g.1 in
      ap₂ (λ l ls. l ∷ ls) u.1 (leads_unique h.0 s t more xs ys h.2 (subst (λ m. LooksLead c m more ys t) (sym u.0) g.2))

  lead_not_wide : (old s : StudyState) (arrivals : List Arrival) (xs : List (List Settled)) (i n : ℕ) (w : WideAt) → LooksLead c old arrivals xs s
      → ¬ IsFirstWideLook c old i arrivals n w
  lead_not_wide old s [] xs i n w h W = W
  lead_not_wide old s (a ∷ more) [] i n w h W = h
  lead_not_wide old s (a ∷ more) (x ∷ xs) i n w h (inl W) = look_not_wide old h.0 a x w h.1 W.1
  lead_not_wide old s (a ∷ more) (x ∷ xs) i n w h (inr W) =
      let u = look_unique old h.0 W.1 a x W.0 h.1 W.2 in
      lead_not_wide h.0 s more xs (i + 1) n w h.2 (subst (λ m. IsFirstWideLook c m (i + 1) more n w) (sym u.0) W.3)

  first_wide_unique : (old : StudyState) (arrivals : List Arrival) (i n m : ℕ) (v w : WideAt) → IsFirstWideLook c old i arrivals n v
      → IsFirstWideLook c old i arrivals m w → (n ≡ m) × (v ≡ w)
  first_wide_unique old [] i n m v w V W = absurd V
  first_wide_unique old (a ∷ more) i n m v w (inl V) (inl W) = (V.0 ∙ sym W.0, wide_look_unique old a v w V.1 W.1)
  first_wide_unique old (a ∷ more) i n m v w (inl V) (inr W) = absurd (look_not_wide old W.1 a W.0 v W.2 V.1)
  first_wide_unique old (a ∷ more) i n m v w (inr V) (inl W) = absurd (look_not_wide old V.1 a V.0 w V.2 W.1)
  first_wide_unique old (a ∷ more) i n m v w (inr V) (inr W) =
      let u = look_unique old V.1 W.1 a V.0 W.0 V.2 W.2 in
      first_wide_unique V.1 more (i + 1) n m v w V.3 (subst (λ o. IsFirstWideLook c o (i + 1) more m w) (sym u.0) W.3)

  -- ---- the looks at a case

  pub looks_unique : (xs ys : List (List Settled)) → AreLooks c xs → AreLooks c ys → xs ≡ ys
  looks_unique xs ys h g = leads_unique start h.end g.end _ xs ys h.lead g.lead

  pub looks_not_broken : (xs : List (List Settled)) (n : ℕ) (w : WideAt) → AreLooks c xs → ¬ BreaksOff c n w
  looks_not_broken xs n w h W = lead_not_wide start h.end _ xs 1 n w h.lead W.first

  pub breaks_unique : (n m : ℕ) (v w : WideAt) → BreaksOff c n v → BreaksOff c m w → (n ≡ m) × (v ≡ w)
  breaks_unique n m v w V W = first_wide_unique start _ 1 n m v w V.first W.first

  opening_wide : (w : WideAt) (s : CaseState) (js : List ℕ) → case_opening c ≡ Err w → ¬ (case_after c js ≡ Ok s)
  unfolding case_after
  opening_wide w s js e h = let a : (case_opening c >>= λ u. removed_in_turn case_removal u js) ≡ Err w =
      ap (λ r. r >>= λ u. removed_in_turn case_removal u js) e in cc

  -- a case that isn't opened has no looks, nor a place where they stop part way
  pub not_opened : (w : WideAt) → case_opening c ≡ Err w → ¬ IsDefined c start
  not_opened w e D = opening_wide w D.state [] e D.state_is

  pub one_opening : (v w : WideAt) → case_opening c ≡ Err v → case_opening c ≡ Err w → v ≡ w
  one_opening v w = one_fault (case_opening c) v w
