use Rattle.std.proofs.Common.{◌≡◌, inl, inr, refl, sym, ap, subst, ◌∙◌, ℕ, suc, ◌+◌, ◌<◌, ◌≤◌, List, [], ◌∷◌, ◌++◌}
use Rattle.std.proofs.Common.{append_assoc, arith}
use Rattle.field_core.specs.OrderOfSets.{ComesBefore, IsAscending, IsListStep, IsLastList}
use Rattle.field_core.proofs.NextLists.{first_step, child_step, sibling_step, last_one, ascending_last, ascending_two, ends_with_two}
use Rattle.closed_test.proofs.SetLists.{before_behind}
use Rattle.closed_test.proofs.path.Path.step.Goals as goal

module _ (m : ℕ) (old : List ℕ) (a : IsAscending m 0 old) where
  last_below : (js : List ℕ) (l : ℕ) → old ≡ js ++ l ∷ [] → l < m
  last_below js l e = ascending_last m 0 l js (subst (IsAscending m 0) e a)

  start : (js new : List ℕ) → old ≡ [] → js ≡ [] → 0 < m → new ≡ js ++ 0 ∷ [] → IsListStep m old new 0
  start js new e g h f = rw (e, f, g) (first_step m h)

  child : (js now new : List ℕ) (l : ℕ) → old ≡ js ++ l ∷ [] → l + 1 < m → now ≡ js ++ l ∷ [] → new ≡ now ++ (l + 1) ∷ []
      → IsListStep m old new (l + 1)
  child js now new l e h g f =
      let next : l + 1 ≡ suc l = omega arith in
      rw (e, f, g, next) (child_step m l js (subst (IsAscending m 0) e a) (omega arith))

  one_left : (js : List ℕ) (l : ℕ) → old ≡ js ++ l ∷ [] → js ≡ [] → m ≤ l + 1 → IsLastList m old
  one_left js l e f h = subst (IsLastList m) (sym (e ∙ ap (λ xs. xs ++ l ∷ []) f)) (last_one m l (last_below js l e) (omega arith))

  before_below : (ys js : List ℕ) (k l : ℕ) → old ≡ ys ++ l ∷ [] → ys ≡ js ++ k ∷ [] → (k < l) × (l < m)
  before_below ys js k l e f = ascending_two m 0 k l js (subst (IsAscending m 0) (ends_with_two old ys js k l e f) a)

  sibling : (ys js new : List ℕ) (k l : ℕ) → old ≡ ys ++ l ∷ [] → ys ≡ js ++ k ∷ [] → m ≤ l + 1 → new ≡ js ++ (k + 1) ∷ []
      → IsListStep m old new (k + 1)
  sibling ys js new k l e f h g =
      let next : k + 1 ≡ suc k = omega arith in
      let both = ends_with_two old ys js k l e f in
      let below = before_below ys js k l e f in
      rw (both, g, next) (sibling_step m k l js (subst (IsAscending m 0) both a) (omega (arith, below.0, below.1)) (omega arith))

  ascending_at : (n l : ℕ) (new : List ℕ) → n ≡ m → IsListStep m old new l → IsAscending n 0 new
  ascending_at n l new e s = subst (λ k. IsAscending k 0 new) (sym e) s.next.ascending

pub overflow_add-last : goal.overflow_add-last
overflow_add-last c = let p = c.args.self.now in let b =
    last_below p.size p.left.items c.requires.ascending c.take_back.new.self.left.items c.in-Some.last c.in-Some.ensures.left in omega (arith, b, p.few)

pub leave_out-requires-then-last-self-2-clause-after : goal.leave_out-requires-then-last-self-2-clause-after
leave_out-requires-then-last-self-2-clause-after c =
    let p = c.args.self.now in
    let now = c.leave_out-then-last-self.new.self in
    ascending_at p.size p.left.items c.requires.ascending now.size (c.in-Some.last + 1) (now.left.items ++ (c.in-Some.last + 1) ∷ [])
    (c.leave_out-then-last-self.ensures.size ∙ c.in-Some.ensures.size)
    (child p.size p.left.items c.requires.ascending c.take_back.new.self.left.items now.left.items
    (now.left.items ++ (c.in-Some.last + 1) ∷ []) c.in-Some.last c.in-Some.ensures.left
    (omega (arith, c.if-last-self.true, c.in-Some.ensures.size)) c.leave_out-then-last-self.ensures.left refl)

pub returns-then-last-self-clause-step : goal.returns-then-last-self-clause-step
returns-then-last-self-clause-step c =
    let p = c.args.self.now in
    child p.size p.left.items c.requires.ascending c.take_back.new.self.left.items c.leave_out-then-last-self.new.self.left.items
    c.leave_out-then-last-self-2.new.self.left.items c.in-Some.last c.in-Some.ensures.left
    (omega (arith, c.if-last-self.true, c.in-Some.ensures.size)) c.leave_out-then-last-self.ensures.left c.leave_out-then-last-self-2.ensures.left

pub overflow_add-before : goal.overflow_add-before
overflow_add-before c =
    let p = c.args.self.now in
    let b = before_below p.size p.left.items c.requires.ascending c.take_back.new.self.left.items c.take_back-in-Some.new.self.left.items
    c.in-Some-take_back.before c.in-Some.last c.in-Some.ensures.left c.in-Some-take_back.ensures.left in
    omega (arith, b.0, b.1, p.few)

pub leave_out-requires-in-Some-take_back-clause-after : goal.leave_out-requires-in-Some-take_back-clause-after
leave_out-requires-in-Some-take_back-clause-after c =
    let p = c.args.self.now in
    let now = c.take_back-in-Some.new.self in
    ascending_at p.size p.left.items c.requires.ascending now.size (c.in-Some-take_back.before + 1) (now.left.items ++ (c.in-Some-take_back.before + 1) ∷ [])
    (c.in-Some-take_back.ensures.size ∙ c.in-Some.ensures.size)
    (sibling p.size p.left.items c.requires.ascending c.take_back.new.self.left.items now.left.items
    (now.left.items ++ (c.in-Some-take_back.before + 1) ∷ []) c.in-Some-take_back.before c.in-Some.last c.in-Some.ensures.left
    c.in-Some-take_back.ensures.left (omega (arith, c.if-last-self.false, c.in-Some.ensures.size)) refl)

pub overflow_add-result-in-Some-take_back : goal.overflow_add-result-in-Some-take_back
overflow_add-result-in-Some-take_back c =
    let p = c.args.self.now in
    let b = before_below p.size p.left.items c.requires.ascending c.take_back.new.self.left.items c.take_back-in-Some.new.self.left.items
    c.in-Some-take_back.before c.in-Some.last c.in-Some.ensures.left c.in-Some-take_back.ensures.left in
    omega (arith, b.0, b.1, p.few)

pub returns-in-None-clause-step : goal.returns-in-None-clause-step
returns-in-None-clause-step c = let p = c.args.self.now in start p.size p.left.items c.requires.ascending c.take_back.new.self.left.items _
    c.in-None.ensures.left c.in-None.ensures.none p.some c.leave_out.ensures.left

pub returns-in-None-take_back-clause-step : goal.returns-in-None-take_back-clause-step
returns-in-None-take_back-clause-step c =
    let p = c.args.self.now in
    one_left p.size p.left.items c.requires.ascending c.take_back.new.self.left.items c.in-Some.last c.in-Some.ensures.left c.in-None-take_back.ensures.left
    (omega (arith, c.if-last-self.false, c.in-Some.ensures.size))

pub returns-in-Some-take_back-clause-step : goal.returns-in-Some-take_back-clause-step
returns-in-Some-take_back-clause-step c =
    let p = c.args.self.now in
    sibling p.size p.left.items c.requires.ascending c.take_back.new.self.left.items c.take_back-in-Some.new.self.left.items
    c.leave_out-in-Some-take_back.new.self.left.items c.in-Some-take_back.before c.in-Some.last c.in-Some.ensures.left c.in-Some-take_back.ensures.left
    (omega (arith, c.if-last-self.false, c.in-Some.ensures.size)) c.leave_out-in-Some-take_back.ensures.left

-- ---- the next set comes later

start_later : (old js new : List ℕ) → old ≡ [] → js ≡ [] → new ≡ js ++ 0 ∷ [] → ComesBefore old new
start_later old js new e g f = rw (e, f, g) tt

child_later : (old js now new : List ℕ) (l : ℕ) → old ≡ js ++ l ∷ [] → now ≡ js ++ l ∷ [] → new ≡ now ++ (l + 1) ∷ []
    → ComesBefore old new
child_later old js now new l e g f = rw (e, f, g, append_assoc js (l ∷ []) ((l + 1) ∷ []))
    (before_behind js (l ∷ []) (l ∷ (l + 1) ∷ []) (inr (refl, tt)))

sibling_later : (old ys js new : List ℕ) (k l : ℕ) → old ≡ ys ++ l ∷ [] → ys ≡ js ++ k ∷ [] → new ≡ js ++ (k + 1) ∷ []
    → ComesBefore old new
sibling_later old ys js new k l e f g = rw (ends_with_two old ys js k l e f, g) (before_behind js (k ∷ l ∷ []) ((k + 1) ∷ []) (inl (omega arith)))

pub returns-in-None-clause-later : goal.returns-in-None-clause-later
returns-in-None-clause-later c = let p = c.args.self.now in start_later p.left.items c.take_back.new.self.left.items _ c.in-None.ensures.left
    c.in-None.ensures.none c.leave_out.ensures.left

pub returns-then-last-self-clause-later : goal.returns-then-last-self-clause-later
returns-then-last-self-clause-later c =
    let p = c.args.self.now in
    child_later p.left.items c.take_back.new.self.left.items c.leave_out-then-last-self.new.self.left.items c.leave_out-then-last-self-2.new.self.left.items
    c.in-Some.last c.in-Some.ensures.left c.leave_out-then-last-self.ensures.left c.leave_out-then-last-self-2.ensures.left

pub returns-in-Some-take_back-clause-later : goal.returns-in-Some-take_back-clause-later
returns-in-Some-take_back-clause-later c =
    let p = c.args.self.now in
    sibling_later p.left.items c.take_back.new.self.left.items c.take_back-in-Some.new.self.left.items c.leave_out-in-Some-take_back.new.self.left.items
    c.in-Some-take_back.before c.in-Some.last c.in-Some.ensures.left c.in-Some-take_back.ensures.left c.leave_out-in-Some-take_back.ensures.left
