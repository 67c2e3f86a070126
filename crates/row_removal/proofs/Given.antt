-- The numbers that rows are gathered from.
use Rattle.std.proofs.Common.{◌≡◌, ◌≢◌, refl, sym, ap, subst, ◌∙◌, ℕ, zero, suc, ◌+◌, ◌*◌, ◌<◌, inl, inr, List, []}
use Rattle.std.proofs.Common.{◌∷◌, map, get_or, length, ℤ, pos, ◌<ℤ◌, ◌*ℤ◌, int_div, Option, Some, None, Result, Ok, Err, IfSome, IfOk}
use Rattle.std.proofs.Common.{add-one, arith}
use Rattle.std.proofs.lemmas.List.{length-map, get_or-map}
use Rattle.field_core.proofs.RemovalLaws.{same_or_not}
use Rattle.field_core.specs.declared.place.Op.TheVariants.{Mul}
use Rattle.field_core.specs.declared.place.Place.{Place}
use Rattle.field_core.specs.declared.place.Wide.{Wide}
use Rattle.field_core.specs.Sized.{sized, gcd_of}
use Rattle.field_core.specs.Steps.{at, ◌>>=◌}
use Rattle.removal.specs.StoredGraph.{StoredGraph, IsSquare, size, weight, all_live}
use Rattle.removal.specs.ByValue.{AreStored}
use Rattle.removal.specs.Laws.Seen.{edge_apart, edge_itself}
use Rattle.removal.proofs.Opening.{size-all_live}
use Rattle.eps_poly.specs.Polynomials.{IsConstant}
use Rattle.eps_quotient.specs.Lowering.{zero_quotient}
use Rattle.eps_quotient.specs.Quotients.{quotients}
use Rattle.eps_quotient.specs.Stored.{IsQuotient}
use Rattle.eps_quotient.specs.View.{quotient_parts}
use Rattle.eps_quotient.specs.Laws.Exact.{zero_stored}
use Rattle.eps_quotient.specs.declared.quotient.EpsQuotient.{EpsQuotient}
use Rattle.row_removal.specs.Gathering.{HasConstants, given, with_denominator, common_below}
use Rattle.row_removal.specs.GivenView.{graph_given}
use Rattle.row_removal.specs.Laws.GatheringLaws.{next_is}
use Rattle.field_core.proofs.Sized.{sized_says}
use Rattle.field_core.proofs.Positions.{at_or_below}

module _ (ws es : List EpsQuotient) where
  pub size_given : size (graph_given ws es) ≡ length ws
  size_given = size-all_live (map quotient_parts ws) (map quotient_parts es) ∙ length-map ws quotient_parts

  pub weight_given : (k : ℕ) (x : EpsQuotient) → k < length ws → x ≡ get_or ws k x → quotient_parts x ≡ given (graph_given ws es) None k
  unfolding given weight all_live
  weight_given k x h e = ap quotient_parts e ∙ sym (get_or-map quotient_parts ws k x zero_quotient h)

  pub edge_given : (l k : ℕ) (x : EpsQuotient) → l ≢ k → l * length ws + k < length es → x ≡ get_or es (l * length ws + k) x
      → quotient_parts x ≡ given (graph_given ws es) (Some l) k
  unfolding given all_live
  edge_given l k x q h e =
      ap quotient_parts e ∙ sym
      (edge_apart quotients (graph_given ws es) l k q ∙ ap (λ m. get_or (map quotient_parts es) (l * m + k) zero_quotient) size_given
      ∙ get_or-map quotient_parts es (l * length ws + k) x zero_quotient h)

  -- all that is given is what the quotients store
  given_parts : (xs : List EpsQuotient) (k : ℕ) → IsQuotient (get_or (map quotient_parts xs) k zero_quotient)
  given_parts [] zero = zero_stored
  given_parts [] (suc k) = zero_stored
  given_parts (x ∷ xs) zero = x.stored
  given_parts (x ∷ xs) (suc k) = given_parts xs k

  pub given_stored : IsSquare (length ws) (length ws) (length es) → AreStored quotients IsQuotient (graph_given ws es)
  unfolding weight all_live
  given_stored S = record {
    square = rw (size_given, length-map ws quotient_parts, length-map es quotient_parts) S;
    weights = λ k i. given_parts ws k;
    edges = λ l k i h. elim (same_or_not l k) [
      | inl e ↦ rw (e, edge_itself quotients (graph_given ws es) k) zero_stored
      | inr n ↦ subst IsQuotient (sym (edge_apart quotients (graph_given ws es) l k n)) (given_parts es (l * size (graph_given ws es) + k))
    ];
  }

pub loop_given : (G : StoredGraph) (k : ℕ) → given G (Some k) k ≡ zero_quotient
unfolding given
loop_given G k = edge_itself quotients G k

pub constant_given : (G : StoredGraph) (row : Option ℕ) (k : ℕ) → HasConstants G → IfSome row (λ l. l < size G) → k < size G
    → IsConstant (given G row k).denominator
unfolding given
constant_given G None k C h i = C.weights k i
constant_given G (Some l) k C h i = C.edges l k h i

-- a common denominator is positive
pub positive_next : (place : Place) (c d : ℤ) → pos 0 <ℤ c → pos 0 <ℤ d
    → IfOk (at place Mul (sized (int_div c (gcd_of c d) *ℤ d))) (λ e. pos 0 <ℤ e)
positive_next place c d h i = go (sized (int_div c (gcd_of c d) *ℤ d)) refl
  where
    go : (r : Option ℤ) → sized (int_div c (gcd_of c d) *ℤ d) ≡ r → IfOk (at place Mul r) (λ e. pos 0 <ℤ e)
    go None e = tt
    go (Some x) e = subst (λ z. pos 0 <ℤ z) (sym (sized_says _ x e).0) (next_is c d h i).positive

module _ (G : StoredGraph) (row : Option ℕ) where
  common_suc : (n : ℕ) → common_below G row (suc n) ≡ (common_below G row n >>= (λ c. with_denominator G row n c))
  unfolding common_below
  common_suc n = refl

  pub common_start : common_below G row 0 ≡ Ok (pos 1)
  unfolding common_below
  common_start = refl

  pub common_next : (n : ℕ) (b c : ℤ) → common_below G row n ≡ Ok b → Ok c ≡ with_denominator G row n b → common_below G row (n + 1) ≡ Ok c
  common_next n b c h e = rw (add-one, common_suc n, h, ← e) refl

  fault : (n k : ℕ) (b : ℤ) (w : Wide) → k < n → common_below G row k ≡ Ok b → with_denominator G row k b ≡ Err w
      → common_below G row n ≡ Err w
  fault zero k b w h e f = absurd (omega arith)
  fault (suc n) k b w h e f = elim (at_or_below k n h) [
    | inl q ↦ let e' = rw q at e in let f' = rw q at f in rw (common_suc n, e', f') refl
    | inr q ↦ rw (common_suc n, fault n k b w q e f) refl
  ]

  pub common_fault : (r : Result ℤ Wide) (n k : ℕ) (b : ℤ) (w : Wide) → r ≡ Err w → k < n → common_below G row k ≡ Ok b
      → Err w ≡ with_denominator G row k b → r ≡ common_below G row n
  common_fault r n k b w g h e f = g ∙ sym (fault n k b w h e (sym f))

-- the numbers of rows, as they are given
pub ruleset numbers_given = (size_given, weight_given, edge_given, loop_given)
