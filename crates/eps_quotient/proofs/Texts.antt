-- Texts are cut at their first slash, and lists are what is inside their brackets.
use Rattle.std.proofs.Common.{◌≡◌, ◌≢◌, ℕ, suc, ◌==◌, Bool, true, false, List, [], ◌∷◌, ◌++◌, refl, ◌∙◌, ap, arith, Option, Some, None, if◌then◌else◌}
use Rattle.std.specs.List.{All}
use Rattle.std.proofs.lemmas.Bool.{eqb-true, eq-eqb}
use Rattle.std.specs.Prelude.{option_map}
use Rattle.eps_quotient.specs.Texts.{cut, closed, inside}

-- ---- a byte

-- none of the bytes is this one
abbrev pub IsFree : ℕ → List ℕ → Type 0
IsFree byte text = All (λ b. (b == byte) ≡ false) text

-- a text without the byte isn't cut
pub cut_none : (byte : ℕ) (text : List ℕ) → IsFree byte text → cut byte text ≡ None
cut_none byte [] free = refl
cut_none byte (b ∷ bs) free =
    let apart : (b == byte) ≡ false = free 0 0 (omega arith) in
    ap (λ t. if t then Some ([], bs) else option_map (λ x. (b ∷ x.0, x.1)) (cut byte bs)) apart
    ∙ ap (option_map (λ x. (b ∷ x.0, x.1))) (cut_none byte bs (λ k d l. free (suc k) d (omega arith)))

cut_first : (byte : ℕ) (over under : List ℕ) → IsFree byte over → cut byte (over ++ byte ∷ under) ≡ Some (over, under)
cut_first byte [] under free = ap (λ t. if t then Some ([], under) else option_map (λ x. (byte ∷ x.0, x.1)) (cut byte under)) (eq-eqb byte byte refl)
cut_first byte (b ∷ bs) under free =
    let apart : (b == byte) ≡ false = free 0 0 (omega arith) in
    ap (λ t. if t then Some ([], bs ++ byte ∷ under) else option_map (λ x. (b ∷ x.0, x.1)) (cut byte (bs ++ byte ∷ under))) apart
    ∙ ap (option_map (λ x. (b ∷ x.0, x.1))) (cut_first byte bs under (λ k d l. free (suc k) d (omega arith)))

-- a text is cut at the first of these bytes
pub cut_at : (byte : ℕ) (text over under : List ℕ) → text ≡ over ++ byte ∷ under → IsFree byte over → cut byte text ≡ Some (over, under)
cut_at byte text over under e free = ap (cut byte) e ∙ cut_first byte over under free

-- ---- brackets

closed_some : (inner : List ℕ) → closed (inner ++ 93 ∷ []) ≡ Some inner
closed_some [] = refl
closed_some (b ∷ []) = refl
closed_some (b ∷ c ∷ bs) = ap (option_map (λ inner. b ∷ inner)) (closed_some (c ∷ bs))

pub inside_found : (text inner : List ℕ) → text ≡ 91 ∷ inner ++ 93 ∷ [] → inside text ≡ Some inner
inside_found text inner e = ap inside e ∙ closed_some inner

closed_by : (b : ℕ) (inner : List ℕ) (t : Bool) → (b == 93) ≡ t → Path (Option (List ℕ)) (if t then Some [] else None) (Some inner)
    → b ∷ [] ≡ inner ++ 93 ∷ []
closed_by b [] true e h = ap (λ b. b ∷ []) (eqb-true b 93 e)
closed_by b (c ∷ inner) true e h = absurd (cc)
closed_by b inner false e h = absurd (cc)

closed_more : (b : ℕ) (t inner : List ℕ) (r : Option (List ℕ)) → ((i : List ℕ) → r ≡ Some i → t ≡ i ++ 93 ∷ [])
    → option_map (λ i. b ∷ i) r ≡ Some inner → b ∷ t ≡ inner ++ 93 ∷ []
closed_more b t inner None h e = absurd (cc)
closed_more b t inner (Some i) h e =
    let s : b ∷ i ≡ inner = cc in
    ap (λ t. b ∷ t) (h i refl) ∙ ap (λ i. i ++ 93 ∷ []) s

closed_is : (t inner : List ℕ) → closed t ≡ Some inner → t ≡ inner ++ 93 ∷ []
closed_is [] inner e = absurd (cc)
closed_is (b ∷ []) inner e = closed_by b inner (b == 93) refl e
closed_is (b ∷ c ∷ bs) inner e = closed_more b (c ∷ bs) inner (closed (c ∷ bs)) (λ i h. closed_is (c ∷ bs) i h) e

inside_by : (b : ℕ) (bs inner : List ℕ) (t : Bool) → (b == 91) ≡ t → (if t then closed bs else None) ≡ Some inner
    → b ∷ bs ≡ 91 ∷ inner ++ 93 ∷ []
inside_by b bs inner true e h = ap (λ b. b ∷ bs) (eqb-true b 91 e) ∙ ap (λ t. 91 ∷ t) (closed_is bs inner h)
inside_by b bs inner false e h = absurd (cc)

inside_is : (text inner : List ℕ) → inside text ≡ Some inner → text ≡ 91 ∷ inner ++ 93 ∷ []
inside_is [] inner e = absurd (cc)
inside_is (b ∷ bs) inner e = inside_by b bs inner (b == 91) refl e

pub inside_none : (text : List ℕ) → ((inner : List ℕ) → text ≢ 91 ∷ inner ++ 93 ∷ []) → inside text ≡ None
inside_none text other = by (inside text) refl
  where
    by : (r : Option (List ℕ)) → inside text ≡ r → r ≡ None
    by None e = refl
    by (Some inner) e = absurd (other inner (inside_is text inner e))
