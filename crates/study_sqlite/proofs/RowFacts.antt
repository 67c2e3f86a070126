-- Rows and the looks of rows.
use Rattle.std.proofs.Common.{◌≡◌, ◌<◌, ◌+◌, ℕ, suc, ℤ, pos, List, [], ◌∷◌, ◌++◌, length, take, drop, get_or, append_assoc, arith}
use Rattle.std.proofs.Common.{refl, sym, ap, ap₂, subst, ◌∙◌}
use Rattle.std.proofs.lemmas.List.{take-append-drop, take_more, length-take-le}
use Rattle.graph_io.specs.declared.keeper.Look.{Look}
use Rattle.study_sqlite.specs.declared.row.LookRow.{LookRow}
use Rattle.study_sqlite.specs.Rows.{IsRow, IsRowOf, AreRows, IsOfNone, IsFirstBad}
use Rattle.study_sqlite.specs.Statements.{IsShownAs}
use Rattle.std.specs.List.{AllZip}
use Rattle.sqlite.specs.Order.{Row}
use Rattle.study_sqlite.proofs.PrintedRatios.{one_ratio}

-- ---- one look

same_look : (first second : Look) → first.hypothesis ≡ second.hypothesis → first.stage ≡ second.stage → first.p ≡ second.p → first ≡ second
same_look first second e f g = λ i. record { hypothesis = e i; stage = f i; p = g i }

pub one_look : (hypothesis stage : ℤ) (p : List ℕ) (first second : Look)
    → IsRow hypothesis stage p first → IsRow hypothesis stage p second → first ≡ second
one_look hypothesis stage p first second h k =
    let e : pos first.hypothesis ≡ pos second.hypothesis = sym h.hypothesis_is ∙ k.hypothesis_is in
    let f : pos first.stage ≡ pos second.stage = sym h.stage_is ∙ k.stage_is in
    same_look first second (cc) (cc) (one_ratio first.p second.p p h.p_is k.p_is)

-- ---- one list of looks

pub rows_more : (rows : List LookRow) (looks : List Look) (row : LookRow) (look : Look)
    → AreRows rows looks → IsRowOf row look → AreRows (rows ++ row ∷ []) (looks ++ look ∷ [])
rows_more [] [] row look h k = (k, tt)
rows_more [] (l ∷ ls) row look h k = absurd h
rows_more (r ∷ rs) [] row look h k = absurd h
rows_more (r ∷ rs) (l ∷ ls) row look h k = (h.0, rows_more rs ls row look h.1 k)

pub one_reading : (rows : List LookRow) (first second : List Look) → AreRows rows first → AreRows rows second → first ≡ second
one_reading [] [] [] h k = refl
one_reading [] [] (m ∷ ms) h k = absurd k
one_reading [] (l ∷ ls) second h k = absurd h
one_reading (r ∷ rs) [] second h k = absurd h
one_reading (r ∷ rs) (l ∷ ls) [] h k = absurd k
one_reading (r ∷ rs) (l ∷ ls) (m ∷ ms) h k =
    ap₂ (λ (a : Look) (b : List Look). a ∷ b) (one_look r.hypothesis r.stage r.p l m h.0 k.0) (one_reading rs ls ms h.1 k.1)

-- ---- one first bad row

bad_among : (before after : List LookRow) (row : LookRow) (looks : List Look) → AreRows (before ++ row ∷ after) looks → ¬ IsOfNone row
bad_among [] after row [] h bad = h
bad_among [] after row (l ∷ ls) h bad = bad l h.0
bad_among (b ∷ bs) after row [] h bad = h
bad_among (b ∷ bs) after row (l ∷ ls) h bad = bad_among bs after row ls h.1 bad

pub read_or_bad : (rows : List LookRow) (looks : List Look) (place : ℕ) → AreRows rows looks → ¬ IsFirstBad rows place
read_or_bad rows looks place h bad = bad_among bad.before bad.after bad.row looks (subst (λ rs. AreRows rs looks) bad.rows_are h) bad.bad

good_first : (row : LookRow) (rows : List LookRow) (looks : List Look) → AreRows (row ∷ rows) looks → ¬ IsOfNone row
good_first row rows [] h bad = h
good_first row rows (l ∷ ls) h bad = bad l h.0

good_rest : (row : LookRow) (rows : List LookRow) (looks : List Look) → AreRows (row ∷ rows) looks → (more : List Look) × AreRows rows more
good_rest row rows [] h = absurd h
good_rest row rows (l ∷ ls) h = (ls, h.1)

same_place : (b c after other : List LookRow) (row bad : LookRow) (looks more : List Look) → b ++ row ∷ after ≡ c ++ bad ∷ other
    → AreRows b looks → AreRows c more → IsOfNone row → IsOfNone bad → length b ≡ length c
same_place [] [] after other row bad looks more e h k p q = refl
same_place [] (y ∷ c) after other row bad looks more e h k p q =
    let same : row ≡ y = cc in absurd (good_first y c more k (subst IsOfNone same p))
same_place (x ∷ b) [] after other row bad looks more e h k p q =
    let same : bad ≡ x = cc in absurd (good_first x b looks h (subst IsOfNone same q))
same_place (x ∷ b) (y ∷ c) after other row bad looks more e h k p q =
    let rest : b ++ row ∷ after ≡ c ++ bad ∷ other = cc in
    let left = good_rest x b looks h in
    let right = good_rest y c more k in
    ap suc (same_place b c after other row bad left.0 right.0 rest left.1 right.1 p q)

pub one_place : (rows : List LookRow) (first second : ℕ) → IsFirstBad rows first → IsFirstBad rows second → first ≡ second
one_place rows first second h k =
    let same = same_place h.before k.before h.after k.after h.row k.row h.looks k.looks (sym h.rows_are ∙ k.rows_are) h.good k.good h.bad k.bad in
    h.place_is ∙ ap (λ n. n + 1) same ∙ sym k.place_is

-- ---- reading on

-- the row at a place, that of no look, where those before it are read
pub first_bad : (rows : List LookRow) (at : ℕ) (row d : LookRow) (looks : List Look) → at < length rows → row ≡ get_or rows at d
    → AreRows (take at rows) looks → IsOfNone row → IsFirstBad rows (at + 1)
first_bad rows at row d looks less is good bad = record {
  before = take at rows;
  row = row;
  after = drop (at + 1) rows;
  looks = looks;
  rows_are =
      sym (take-append-drop (at + 1) rows)
      ∙ ap (λ xs. xs ++ drop (at + 1) rows) (take_more rows at d less ∙ ap (λ r. take at rows ++ r ∷ []) (sym is))
      ∙ append_assoc (take at rows) (row ∷ []) (drop (at + 1) rows);
  place_is = ap (λ n. n + 1) (sym (length-take-le at rows (omega (arith, less))));
  good = good;
  bad = bad;
}

-- one row more is read
pub read_more : (rows : List LookRow) (at : ℕ) (row d : LookRow) (looks more : List Look) (look : Look) → at < length rows → row ≡ get_or rows at d
    → AreRows (take at rows) looks → IsRowOf row look → more ≡ looks ++ look ∷ [] → AreRows (take (at + 1) rows) more
read_more rows at row d looks more look less is good found pushed =
    let taken : take at rows ++ row ∷ [] ≡ take (at + 1) rows = ap (λ r. take at rows ++ r ∷ []) is ∙ sym (take_more rows at d less) in
    let all : AreRows (take (at + 1) rows) (looks ++ look ∷ []) =
    subst (λ rs. AreRows rs (looks ++ look ∷ [])) taken (rows_more (take at rows) looks row look good found) in
    subst (λ ls. AreRows (take (at + 1) rows) ls) (sym pushed) all

-- ---- rows of an answer

answer_more : (answer : List Row) (rows : List LookRow) (shown : Row) (row : LookRow)
    → AllZip IsShownAs answer rows → IsShownAs shown row → AllZip IsShownAs (answer ++ shown ∷ []) (rows ++ row ∷ [])
answer_more [] [] shown row h k = (k, tt)
answer_more [] (r ∷ rs) shown row h k = absurd h
answer_more (a ∷ all) [] shown row h k = absurd h
answer_more (a ∷ all) (r ∷ rs) shown row h k = (h.0, answer_more all rs shown row h.1 k)

-- one row more of an answer is shown
pub shown_more : (answer : List Row) (at : ℕ) (shown d : Row) (rows more : List LookRow) (row : LookRow)
    → at < length answer → shown ≡ get_or answer at d → AllZip IsShownAs (take at answer) rows → IsShownAs shown row
    → more ≡ rows ++ row ∷ [] → AllZip IsShownAs (take (at + 1) answer) more
shown_more answer at shown d rows more row less is good found pushed =
    let taken : take at answer ++ shown ∷ [] ≡ take (at + 1) answer = ap (λ r. take at answer ++ r ∷ []) is ∙ sym (take_more answer at d less) in
    let all : AllZip IsShownAs (take (at + 1) answer) (rows ++ row ∷ []) =
    subst (λ rs. AllZip IsShownAs rs (rows ++ row ∷ [])) taken (answer_more (take at answer) rows shown row good found) in
    subst (λ ls. AllZip IsShownAs (take (at + 1) answer) ls) (sym pushed) all
