-- The steps of a loop over looks.
use Rattle.std.proofs.Common.{◌≡◌, inl, inr, sym, ap, ◌∙◌, subst, subst₂, ℕ, ◌+◌, ◌<◌, arith, List, [], ◌∷◌, ◌++◌, length}
use Rattle.std.proofs.Common.{take, drop, get_or}
use Rattle.std.proofs.lemmas.List.{take_more, take-append-drop, append_assoc, length-take-le}
use Rattle.graph_io.specs.declared.keeper.Look.{Look}
use Rattle.case_model.specs.Content.{Content}
use Rattle.staged_levels.specs.Studies.{StudyState}
use Rattle.study_register.specs.declared.fault.RegisterFault.{RegisterFault}
use Rattle.study_register.specs.Looking.{Follows}
use Rattle.study_register.specs.RegisterFaults.{IsStopAt, IsFirstStop}

-- the first looks and the next one
pub next_look : (ls : List Look) (i : ℕ) (l : Look) → i < length ls → l ≡ get_or ls i l → take (i + 1) ls ≡ take i ls ++ l ∷ []
next_look ls i l h e = take_more ls i l h ∙ ap (λ x. take i ls ++ x ∷ []) (sym e)

-- looks in three parts
pub parted : (ls : List Look) (i : ℕ) (l : Look) → i < length ls → l ≡ get_or ls i l → take i ls ++ l ∷ drop (i + 1) ls ≡ ls
parted ls i l h e = sym (append_assoc (take i ls) (l ∷ []) (drop (i + 1) ls)) ∙ ap (λ xs. xs ++ drop (i + 1) ls) (sym (next_look ls i l h e))
    ∙ take-append-drop (i + 1) ls

-- the place of a look
pub place_of : (ls : List Look) (i : ℕ) → i < length ls → i + 1 ≡ 1 + length (take i ls)
place_of ls i h = let e = length-take-le i ls (omega (arith, h)) in omega (arith, e)

-- the first look that can't be taken, after others that are taken
pub stops_on : (c : Content) (ls : List Look) (old mid : StudyState) (n : ℕ) (l : Look) (after : List Look) (why : RegisterFault) → Follows c old ls mid
    → IsStopAt c mid (n + length ls) l why → IsFirstStop c old n (ls ++ l ∷ after) why
stops_on c [] old mid n l after why h S = let e : n + 0 ≡ n = omega arith in inl (subst₂ (λ s m. IsStopAt c s m l why) h e S)
stops_on c (x ∷ ls) old mid n l after why h S =
    let e : n + length (x ∷ ls) ≡ n + 1 + length ls = omega arith in
    inr (h.0, h.1, stops_on c ls h.0 mid (n + 1) l after why h.2 (subst (λ m. IsStopAt c mid m l why) e S))
