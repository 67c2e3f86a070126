-- The levels that a text says.
use Rattle.std.proofs.Common.{◌≡◌, refl, sym, ap, ap₂, ◌∙◌, inl, inr, ℕ, zero, suc, ◌+◌, ◌<◌, Bool, true, List, [], ◌∷◌, ◌++◌, length, add-one, arith}
use Rattle.std.specs.List.{flat_map, range_with_len}
use Rattle.eps_quotient.proofs.LimitOfNorm.{same_lowest}
use Rattle.field_core.specs.Runs.{left_after}
use Rattle.field_core.specs.Sets.{IsIn, HaveSameMembers, whole}
use Rattle.field_core.specs.Terms.{Terms}
use Rattle.field_core.proofs.Live.{true_or_false}
use Rattle.fraction.specs.Spelling.{spelling}
use Rattle.text_lines.specs.Spelling.{text_of}
use Rattle.case_model.specs.Content.{Content, entangled}
use Rattle.case_model.specs.Validity.{IsValidContent}
use Rattle.case_model.proofs.IntersectionLaws.{intersection_unique, intersection_same}
use Rattle.entangled.specs.CaseRun.{CaseState, is_live_in_case, case_level}
use Rattle.entangled.proofs.CaseLevels.{case_levels, case_live, case_lowest}
use Rattle.graph_update.specs.UpdateText.{Words, level_words, level_lines, levels_lines, components_lines, update_lines, update_text, end_words}
use Rattle.graph_update.specs.Updates.{IsUpdate}
use Rattle.graph_update.specs.UpdateLaws.{UpdatesSayWeights, LevelsAgreeInEveryOrder}
use Rattle.graph_update.proofs.Lines.{flat_map-more}
use Rattle.graph_update.proofs.TextSteps.{level_removed, level_put}

-- the same lines at each place
same_lines : {A : Type 0} (f g : ℕ → List A) (n : ℕ) → ((k : ℕ) → k < n → f k ≡ g k) → flat_map f (range_with_len 0 n) ≡ flat_map g (range_with_len 0 n)
same_lines f g zero h = refl
same_lines f g (suc n) h =
    ap (λ m. flat_map f (range_with_len 0 m)) (sym (add-one n)) ∙ flat_map-more f n
    ∙ ap₂ (λ xs ys. xs ++ ys) (same_lines f g n (λ k p. h k (omega arith))) (h n (omega arith))
    ∙ sym (flat_map-more g n) ∙ ap (λ m. flat_map g (range_with_len 0 m)) (add-one n)

module _ (names : List (List ℕ)) where
  same_level : (I J : ℕ → Bool) (a b : ℕ → Terms) (k : ℕ) → I k ≡ J k → (I k ≡ true → a k ≡ b k) → level_lines names I a k ≡ level_lines names J b k
  same_level I J a b k e h = elim (true_or_false (I k)) [
    | inl t ↦ level_put names I a k t ∙ ap (λ x. level_words names k (spelling x) ∷ []) (h t) ∙ sym (level_put names J b k (sym e ∙ t))
    | inr f ↦ level_removed names I a k f ∙ sym (level_removed names J b k (sym e ∙ f))
  ]

  pub same_levels : (I J : ℕ → Bool) (a b : ℕ → Terms) → HaveSameMembers (length names) I J → ((k : ℕ) → IsIn (length names) I k → a k ≡ b k)
      → levels_lines names I a ≡ levels_lines names J b
  unfolding levels_lines
  same_levels I J a b same h = same_lines (level_lines names I a) (level_lines names J b) (length names)
      (λ k p. same_level I J a b k (same k p) (λ t. h k (record { below = p; member = t })))

  text_is_of : (s : CaseState) (text : List ℕ) (lines : List Words) → text ≡ update_text names s → levels_lines names (is_live_in_case s) (case_level s) ≡ lines
      → text ≡ text_of (components_lines names s ++ lines ++ end_words ∷ [])
  unfolding update_text update_lines
  text_is_of s text lines e h = e ∙ ap (λ xs. text_of (components_lines names s ++ xs ++ end_words ∷ [])) h

-- the text with the levels of what is left
left_text : (c : Content) (js text : List ℕ) → IsValidContent c → (U : IsUpdate c js text)
    → text ≡ text_of (components_lines c.names U.state ++ levels_lines c.names (left_after whole js) (case_level U.state) ++ end_words ∷ [])
left_text c js text V U = text_is_of c.names U.state text _ U.text_is
    (same_levels c.names (is_live_in_case U.state) (left_after whole js) (case_level U.state) (case_level U.state)
    (λ k p. case_live c js U.state k V U.positions U.reached p) (λ k p. refl))

pub says_weights : UpdatesSayWeights
says_weights = λ c js text V U. record {
  components = components_lines c.names U.state;
  level = case_level U.state;
  text_is = left_text c js text V U;
  lowest = λ k p. case_lowest c js U.state k V U.positions U.reached;
  weights = λ k p. case_levels c js U.state k V U.positions U.reached p;
}

-- the level of what remains is the same in both
one_level : (c : Content) (js ks : List ℕ) (text other : List ℕ) (V : IsValidContent c) (U : IsUpdate c js text) (W : IsUpdate c ks other)
    → HaveSameMembers (length c.names) (left_after whole js) (left_after whole ks) → (k : ℕ) → IsIn (length c.names) (left_after whole ks) k
    → case_level W.state k ≡ case_level U.state k
unfolding entangled
one_level c js ks text other V U W same k p =
    let q : IsIn (length c.names) (left_after whole js) k = record { below = p.below; member = same k p.below ∙ p.member } in
    same_lowest _ _ (case_lowest c ks W.state k V W.positions W.reached) (case_lowest c js U.state k V U.positions U.reached)
    (intersection_unique (entangled c) (left_after whole ks) k _ _ (case_levels c ks W.state k V W.positions W.reached p)
    (intersection_same (entangled c) (left_after whole js) (left_after whole ks) k _ same (case_levels c js U.state k V U.positions U.reached q)))

pub levels_agree : LevelsAgreeInEveryOrder
levels_agree = λ c js ks text other V U W same. record {
  components = components_lines c.names U.state;
  others = components_lines c.names W.state;
  set = left_after whole js;
  level = case_level U.state;
  text_is = left_text c js text V U;
  other_is = text_is_of c.names W.state other _ W.text_is
      (same_levels c.names (is_live_in_case W.state) (left_after whole ks) (case_level W.state) (case_level U.state)
      (λ k p. case_live c ks W.state k V W.positions W.reached p)
      (λ k p. one_level c js ks text other V U W same k (record { below = p.below; member = sym (case_live c ks W.state k V W.positions W.reached p.below) ∙ p.member }))
      ∙ same_levels c.names (left_after whole ks) (left_after whole js) (case_level U.state) (case_level U.state) (λ k p. sym (same k p)) (λ k p. refl));
}
