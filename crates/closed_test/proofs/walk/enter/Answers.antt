use Rattle.std.proofs.Common.{◌≡◌, refl, sym, ap, ◌∙◌, ℕ, zero, suc, ◌+◌, ◌<◌, List, [], ◌∷◌, ◌++◌, length, map, set, get_or}
use Rattle.std.proofs.Common.{Result, arith}
use Rattle.std.proofs.lemmas.List.{get_or-map}
use Rattle.field_core.specs.Kind.{ok_map}
use Rattle.field_core.specs.declared.place.WideAt.{WideAt}
use Rattle.entangled.specs.declared.case_net.CaseNet.{CaseNet}
use Rattle.entangled.specs.CaseNetView.{case_state}
use Rattle.entangled.specs.CaseRun.{CaseState, case_removal, case_numbers, case_size, case_shares, is_live_in_case}
use Rattle.closed_test.proofs.walk.enter.Goals as goal

module _ {X : Type 0} (state : X → CaseState) where
  lower_at : (lower upper : List X) (depth : ℕ) (x : X) (d : CaseState) → depth < length lower
      → get_or (map state (lower ++ upper)) depth d ≡ state (get_or lower depth x)
  lower_at [] upper depth x d h = absurd (omega arith)
  lower_at (y ∷ ys) upper zero x d h = refl
  lower_at (y ∷ ys) upper (suc n) x d h = lower_at ys upper n x d (omega arith)

  upper_at : (lower upper : List X) (depth : ℕ) (x : X) (d : CaseState) → length lower ≡ depth → 0 < length upper
      → get_or (map state (lower ++ set upper 0 x)) depth d ≡ state x
  upper_at [] [] n x d e h = absurd (omega arith)
  upper_at [] (u ∷ us) n x d e h = rw (sym e)
  upper_at (y ∷ ys) upper zero x d e h = absurd (omega arith)
  upper_at (y ∷ ys) upper (suc n) x d e h = upper_at ys upper n x d (omega arith) h

  entered : (nets lower upper : List X) (depth j : ℕ) (net from : X) (r : Result (Unit {0}) WideAt) (d : CaseState) → nets ≡ lower ++ upper
      → length lower ≡ depth + 1 → 0 < length upper
      → ok_map (λ x. state net) r ≡ case_removal (state (get_or lower depth from)) j
      → ok_map (λ x. get_or (map state (lower ++ set upper 0 net)) (suc depth) d) r ≡ case_removal (get_or (map state nets) depth d) j
  entered nets lower upper depth j net from r d was front back value =
      ap (λ s. ok_map (λ x. s) r) (upper_at lower upper (suc depth) net d (omega arith) back) ∙ value
      ∙ ap (λ s. case_removal s j) (sym (lower_at lower upper depth from d (omega arith)) ∙ ap (λ xs. get_or (map state xs) depth d) (sym was))

module _ {A : Type 0} (f : CaseState → A) where
  first_above : (lower upper : List CaseNet) (depth : ℕ) (x : CaseNet) (d : CaseState) → length lower ≡ depth → 0 < length upper
      → get_or (map case_state (lower ++ upper)) depth d ≡ case_state (get_or upper 0 x)
  first_above [] [] n x d e h = absurd (omega arith)
  first_above [] (u ∷ us) n x d e h = rw (sym e)
  first_above (y ∷ ys) upper zero x d e h = absurd (omega arith)
  first_above (y ∷ ys) upper (suc n) x d e h = first_above ys upper n x d (omega arith) h

  both : (nets lower upper : List CaseNet) (depth : ℕ) (x y : CaseNet) → nets ≡ lower ++ upper → length lower ≡ depth + 1 → 0 < length upper
      → ((d : CaseState) → f (get_or (map case_state nets) (suc depth) d) ≡ f (get_or (map case_state nets) depth d))
      → f (case_state (get_or upper 0 x)) ≡ f (case_state (get_or lower depth y))
  both nets lower upper depth x y was front back same =
      let d = case_state x in
      ap f (sym (first_above lower upper (suc depth) x d (omega arith) back)) ∙ ap (λ xs. f (get_or (map case_state xs) (suc depth) d)) (sym was) ∙ same d
      ∙ ap (λ xs. f (get_or (map case_state xs) depth d)) was ∙ ap f (lower_at case_state lower upper depth y d (omega arith))

pub set_and_remove-requires-clause-numbers : goal.set_and_remove-requires-clause-numbers
set_and_remove-requires-clause-numbers c =
    let p = c.split_at_mut-lower in
    both case_numbers c.args.nets.now p.result.0.now p.result.1.now c.args.depth c.index-upper-0.result c.index-lower-depth.result p.ensures.value
    p.ensures.front_len (omega (arith, p.ensures.back_len, c.requires.depth)) c.requires.numbers

pub set_and_remove-requires-clause-size : goal.set_and_remove-requires-clause-size
set_and_remove-requires-clause-size c =
    let p = c.split_at_mut-lower in
    both case_size c.args.nets.now p.result.0.now p.result.1.now c.args.depth c.index-upper-0.result c.index-lower-depth.result p.ensures.value
    p.ensures.front_len (omega (arith, p.ensures.back_len, c.requires.depth)) c.requires.size

pub set_and_remove-requires-clause-shares : goal.set_and_remove-requires-clause-shares
set_and_remove-requires-clause-shares c =
    let p = c.split_at_mut-lower in
    both case_shares c.args.nets.now p.result.0.now p.result.1.now c.args.depth c.index-upper-0.result c.index-lower-depth.result p.ensures.value
    p.ensures.front_len (omega (arith, p.ensures.back_len, c.requires.depth)) c.requires.shares

pub set_and_remove-requires-clause-live : goal.set_and_remove-requires-clause-live
set_and_remove-requires-clause-live c =
    let x = c.index-lower-depth.result in
    let s = case_state in
    let e = c.split_at_mut-lower.ensures.by_index.0 c.args.depth x (omega arith) in
    ap (λ y. is_live_in_case (s y) c.args.j) e ∙ ap (λ t. is_live_in_case t c.args.j)
    (sym (get_or-map s c.args.nets.now c.args.depth x (s x) (omega (arith, c.requires.depth)))) ∙ c.requires.live (s x)

pub returns-clause-value : goal.returns-clause-value
returns-clause-value c = λ d.
    let p = c.split_at_mut-lower in
    entered case_state c.args.nets.now p.result.0.now p.result.1.now c.args.depth c.args.j _ c.index-lower-depth.result c.set_and_remove.result d
    p.ensures.value p.ensures.front_len (omega (arith, p.ensures.back_len, c.requires.depth)) c.set_and_remove.ensures
