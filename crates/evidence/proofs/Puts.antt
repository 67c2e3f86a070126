-- Lists with numbers put at positions.
use Rattle.std.proofs.Common.{◌≡◌, ◌≢◌, inl, inr, refl, sym, ap, subst, ◌∙◌, ℕ, ◌<◌, true, false, List, [], ◌∷◌, ◌++◌}
use Rattle.std.proofs.Common.{◌+◌, suc, Result, Ok, Err, length, get_or, set, take, drop, length-set, arith}
use Rattle.std.proofs.Math.Seq.{split_at}
use Rattle.field_core.specs.Steps.{◌>>=◌}
use Rattle.std.proofs.lemmas.List.{get_or-set_same, get_or-set_other, take_more}
use Rattle.std.proofs.lemmas.Bool.Decides.{nat_tests}
use Rattle.field_core.specs.Sets.{set_of}
use Rattle.field_core.proofs.Live.{true_or_false}
use Rattle.field_core.specs.Laws.Prefixes.{bind_ok, ok_same}
use Rattle.evidence.specs.FlowTables.{put_each}

not_here : (i r : ℕ) (rs : List ℕ) → set_of (i ∷ rs) r ≡ false → r ≢ i
not_here i r rs h = grind (arith, nat_tests)

not_later : (i r : ℕ) (rs : List ℕ) → set_of (i ∷ rs) r ≡ false → set_of rs r ≡ false
not_later i r rs h = grind (arith, nat_tests)

here_not_later : (i r : ℕ) (rs : List ℕ) → set_of (i ∷ rs) r ≡ true → set_of rs r ≡ false → r ≡ i
here_not_later i r rs h g = grind (arith, nat_tests)

module _ {A E : Type 0} (f : ℕ → Result A E) where
  put_none : (xs ys : List A) → put_each f [] xs ≡ Ok ys → ys ≡ xs
  unfolding put_each
  put_none xs ys h = ok_same (Ok ys) ys xs refl (sym h)

  put_more : (r : ℕ) (rs : List ℕ) (xs ys : List A) → put_each f (r ∷ rs) xs ≡ Ok ys → (x : A)
      × ((f r ≡ Ok x) × (put_each f rs (set xs r x) ≡ Ok ys))
  unfolding put_each
  put_more r rs xs ys h = bind_ok (f r) (λ x. put_each f rs (set xs r x)) ys h

  -- the same number as before
  pub put_length : (rs : List ℕ) (xs ys : List A) → put_each f rs xs ≡ Ok ys → length ys ≡ length xs
  put_length [] xs ys h = ap length (put_none xs ys h)
  put_length (r ∷ rs) xs ys h = let a = put_more r rs xs ys h in put_length rs (set xs r a.0) ys a.1.1 ∙ length-set xs r a.0

  -- at the others nothing changes
  pub put_other : (rs : List ℕ) (xs ys : List A) (d : A) (r : ℕ) → put_each f rs xs ≡ Ok ys → set_of rs r ≡ false
      → get_or ys r d ≡ get_or xs r d
  put_other [] xs ys d r h g = ap (λ zs. get_or zs r d) (put_none xs ys h)
  put_other (i ∷ rs) xs ys d r h g =
      let a = put_more i rs xs ys h in
      put_other rs (set xs i a.0) ys d r a.1.1 (not_later i r rs g) ∙ get_or-set_other xs i r a.0 d (not_here i r rs g)

  -- at the positions there is what `f` gives
  pub put_at : (rs : List ℕ) (xs ys : List A) (d : A) (r : ℕ) → put_each f rs xs ≡ Ok ys → r < length xs → set_of rs r ≡ true
      → f r ≡ Ok (get_or ys r d)
  put_at [] xs ys d r h p g = absurd (cc)
  put_at (i ∷ rs) xs ys d r h p g =
      let a = put_more i rs xs ys h in
      elim (true_or_false (set_of rs r)) [
        | inl l ↦ put_at rs (set xs i a.0) ys d r a.1.1 (subst (λ n. r < n) (sym (length-set xs i a.0)) p) l
        | inr n ↦
            let e : r ≡ i = here_not_later i r rs g n in
            ap f e ∙ a.1.0 ∙ ap Ok (sym
            (put_other rs (set xs i a.0) ys d r a.1.1 n ∙ ap (λ k. get_or (set xs i a.0) k d) e
            ∙ get_or-set_same xs i a.0 d (subst (λ k. k < length xs) e p)))
      ]

-- ---- one position after another

module _ {A E : Type 0} (f : ℕ → Result A E) where
  pub put_nil : (xs : List A) → put_each f [] xs ≡ Ok xs
  unfolding put_each
  put_nil xs = refl

  put_cons : (r : ℕ) (rs : List ℕ) (xs : List A) → put_each f (r ∷ rs) xs ≡ (f r >>= λ x. put_each f rs (set xs r x))
  unfolding put_each
  put_cons r rs xs = refl

  -- the first positions, and then the others
  put_front : (rs ks : List ℕ) (xs ys : List A) → put_each f rs xs ≡ Ok ys → put_each f (rs ++ ks) xs ≡ put_each f ks ys
  put_front [] ks xs ys h = ap (put_each f ks) (sym (put_none f xs ys h))
  put_front (r ∷ rs) ks xs ys h =
      let a = put_more f r rs xs ys h in
      put_cons r (rs ++ ks) xs ∙ ap (λ q. q >>= λ x. put_each f (rs ++ ks) (set xs r x)) a.1.0 ∙ put_front rs ks (set xs r a.0) ys a.1.1

  -- what is refused on the way is refused in the end
  pub put_refused : (rs ks : List ℕ) (xs : List A) (w : E) → put_each f rs xs ≡ Err w → put_each f (rs ++ ks) xs ≡ Err w
  put_refused [] ks xs w h = absurd (cc (put_nil xs))
  put_refused (r ∷ rs) ks xs w h = on (f r) refl (sym (put_cons r rs xs) ∙ h) (λ x g. put_refused rs ks (set xs r x) w g)
    where
      on : (q : Result A E) → f r ≡ q → (f r >>= λ x. put_each f rs (set xs r x)) ≡ Err w
          → ((x : A) → put_each f rs (set xs r x) ≡ Err w → put_each f (rs ++ ks) (set xs r x) ≡ Err w) → put_each f (r ∷ rs ++ ks) xs ≡ Err w
      on (Ok x) e g later =
          put_cons r (rs ++ ks) xs ∙ ap (λ q. q >>= λ x. put_each f (rs ++ ks) (set xs r x)) e
          ∙ later x (sym (ap (λ q. q >>= λ x. put_each f rs (set xs r x)) e) ∙ g)
      on (Err v) e g later =
          put_cons r (rs ++ ks) xs ∙ ap (λ q. q >>= λ x. put_each f (rs ++ ks) (set xs r x)) e
          ∙ sym (ap (λ q. q >>= λ x. put_each f rs (set xs r x)) e) ∙ g

  -- one more
  pub put_then : (rs ks : List ℕ) (r : ℕ) (xs ys : List A) (x : A) → put_each f rs xs ≡ Ok ys → f r ≡ Ok x
      → put_each f (rs ++ r ∷ ks) xs ≡ put_each f ks (set ys r x)
  put_then rs ks r xs ys x h g = put_front rs (r ∷ ks) xs ys h ∙ put_cons r ks ys ∙ ap (λ q. q >>= λ x. put_each f ks (set ys r x)) g

  pub put_then_refused : (rs ks : List ℕ) (r : ℕ) (xs ys : List A) (w : E) → put_each f rs xs ≡ Ok ys → f r ≡ Err w
      → put_each f (rs ++ r ∷ ks) xs ≡ Err w
  put_then_refused rs ks r xs ys w h g = put_front rs (r ∷ ks) xs ys h ∙ put_cons r ks ys ∙ ap (λ q. q >>= λ x. put_each f ks (set ys r x)) g

  -- the first position alone, and one more of a list of positions
  pub put_next : (rs : List ℕ) (n r : ℕ) (xs ys : List A) (x : A) → n < length rs → r ≡ get_or rs n 0 → put_each f (take n rs) xs ≡ Ok ys
      → f r ≡ Ok x → put_each f (take (n + 1) rs) xs ≡ Ok (set ys r x)
  put_next rs n r xs ys x p q h g =
      ap (λ ks. put_each f ks xs) (take_more rs n 0 p ∙ ap (λ k. take n rs ++ k ∷ []) (sym q)) ∙ put_then (take n rs) [] r xs ys x h g
      ∙ put_nil (set ys r x)

  pub put_stops : (rs : List ℕ) (n r : ℕ) (xs ys : List A) (w : E) → n < length rs → r ≡ get_or rs n 0 → put_each f (take n rs) xs ≡ Ok ys
      → f r ≡ Err w → put_each f rs xs ≡ Err w
  put_stops rs n r xs ys w p q h g =
      ap (λ ks. put_each f ks xs) (split_at rs n 0 p ∙ ap (λ k. take n rs ++ k ∷ drop (suc n) rs) (sym q))
      ∙ put_then_refused (take n rs) (drop (suc n) rs) r xs ys w h g
