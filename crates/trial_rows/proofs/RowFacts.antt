-- Rows within lists of places.
use Rattle.std.proofs.Common.{◌≡◌, refl, sym, ap, ◌∙◌, subst, inl, inr, ℕ, suc, ◌+◌, ◌*◌, ◌<◌, ◌≤◌, List, length, get_or, set, arith, rules}
use Rattle.std.proofs.Math.Nat.{mul-le-mul_right}
use Rattle.std.specs.List.{between}
use Rattle.std.proofs.lemmas.Bool.{cases_eq}
use Rattle.std.proofs.lemmas.List.{places, get_or-set_same, get_or-set_other}
use Rattle.std.proofs.lemmas.List.Edits.{get_or-between}
use borrow.Rule.Slice.PartMut.{put_mid}
use Rattle.case_model.specs.Content.{Content}
use Rattle.trial_rows.specs.Rows.{IsMark, IsRowTested, decided, unread, wide, in_row}
use Rattle.typed_numbers.specs.Readings.{reading_of}

-- what a row gives is by its own places
pub same_row : (c : Content) (doubles doubles' marks marks' : ℕ → ℕ) (status : ℕ) → ((j : ℕ) → j < length c.names → doubles' j ≡ doubles j)
    → ((j : ℕ) → j < length c.names → marks' j ≡ marks j) → IsRowTested c doubles marks status → IsRowTested c doubles' marks' status
same_row c doubles doubles' marks marks' status b m (decided e ps r run each) =
    decided e ps (record { count = r.count; each = λ j h. ap reading_of (b j h) ∙ r.each j h }) run (λ j h. subst (IsMark _) (sym (m j h)) (each j h))
same_row c doubles doubles' marks marks' status b m (unread e r none) =
    unread e (record { place = r.place; below = r.below; unread = ap reading_of (b r.place r.below) ∙ r.unread }) (λ j h. m j h ∙ none j h)
same_row c doubles doubles' marks marks' status b m (wide e ps r step at w none) =
    wide e ps (record { count = r.count; each = λ j h. ap reading_of (b j h) ∙ r.each j h }) step at w (λ j h. m j h ∙ none j h)

-- ---- places of rows

-- a row ends within all rows
pub row_within : (m row rows n : ℕ) → row < rows → n ≡ rows * m → row * m + m ≤ n
row_within m row rows n h e = let p : suc row * m ≤ rows * m = mul-le-mul_right m h in omega (arith, p)

-- what is before a part that is written stays
before_part : (xs ys : List ℕ) (a k i : ℕ) → i < a → a ≤ length xs → get_or (put_mid a k xs ys) i 0 ≡ get_or xs i 0
before_part xs ys a k i h g = search (rules, places)

-- what is in a part that is written
pub in_part : (xs ys : List ℕ) (a k j : ℕ) → j < length ys → a ≤ length xs → get_or (put_mid a k xs ys) (a + j) 0 ≡ get_or ys j 0
in_part xs ys a k j h g = search (rules, places)

-- what is in rows before a row that is written stays
pub earlier_row : (xs ys : List ℕ) (m n row k j : ℕ) → k < row → j < m → row * m ≤ length xs → in_row m (put_mid (row * m) n xs ys) k j ≡ in_row m xs k j
earlier_row xs ys m n row k j h g l = before_part xs ys (row * m) n (k * m + j) (let p = row_within m k row (row * m) h refl in omega (arith, p)) l

-- ---- one row more

module _ (c : Content) (doubles marks part statuses : List ℕ) (row status n : ℕ) where
  pub one_more_row : row < length statuses → length doubles ≡ length statuses * length c.names → length marks ≡ length doubles
      → length part ≡ length c.names
      → ((k : ℕ) → k < row → IsRowTested c (in_row (length c.names) doubles k) (in_row (length c.names) marks k) (get_or statuses k 0))
      → IsRowTested c (λ j. get_or (between (row * length c.names) (row * length c.names + length c.names) doubles) j 0) (λ j. get_or part j 0) status
      → (k : ℕ) → k < row + 1 → IsRowTested c (in_row (length c.names) doubles k)
      (in_row (length c.names) (put_mid (row * length c.names) n marks part) k) (get_or (set statuses row status) k 0)
  one_more_row within d m many before here k h =
      let size = length c.names in
      let ends : row * size + size ≤ length doubles = row_within size row (length statuses) (length doubles) within d in
      let room : row * size ≤ length marks = omega (arith, ends, m) in
      elim (cases_eq k row) [
        | inl e ↦
            subst (λ k. IsRowTested c (in_row size doubles k) (in_row size (put_mid (row * size) n marks part) k) (get_or (set statuses row status) k 0)) (sym e)
            (subst (IsRowTested c (in_row size doubles row) (in_row size (put_mid (row * size) n marks part) row)) (sym (get_or-set_same statuses row status 0 within))
            (same_row c _ (in_row size doubles row) _ (in_row size (put_mid (row * size) n marks part) row) status
            (λ j g. sym (get_or-between doubles (row * size) (row * size + size) j 0 (omega arith)))
            (λ j g. in_part marks part (row * size) n j (omega (arith, many)) room) here))
        | inr f ↦
            let earlier : k < row = grind arith in
            subst (IsRowTested c (in_row size doubles k) (in_row size (put_mid (row * size) n marks part) k)) (sym (get_or-set_other statuses row k status 0 f))
            (same_row c (in_row size doubles k) (in_row size doubles k) (in_row size marks k) (in_row size (put_mid (row * size) n marks part) k) _
            (λ j g. refl) (λ j g. earlier_row marks part size n row k j earlier g room) (before k earlier))
      ]
