-- Answers: where they came from, and how a fault is handed on.
use Rattle.std.proofs.Common.{◌≡◌, Option, Some, None, Result, Ok, Err, OnOk, OnErr, refl, ap}
use Rattle.field_core.specs.Answers.{and_then, mapped, told_as}
use Rattle.field_core.specs.Kind.{or_wide}
use Rattle.field_core.specs.Sized.{◌>>=◌}
use Rattle.field_core.specs.Laws.Prefixes.{bind_ok}
use Rattle.field_core.specs.declared.place.Op.{Op}

-- what comes after an answer came after a value
pub came_from : {A B E : Type 0} (r : Result A E) (next : A → Result B E) (b : B) → and_then r next ≡ Ok b → (a : A) × (r ≡ Ok a) × (next a ≡ Ok b)
came_from r next b e = let a = bind_ok r next b e in (a.0, a.1.0, a.1.1)

pub made_of : {A B E : Type 0} (f : A → B) (r : Result A E) (b : B) → mapped f r ≡ Ok b → (a : A) × (r ≡ Ok a) × (b ≡ f a)
made_of f (Ok a) b e = (a, refl, cc)
made_of f (Err g) b e = absurd (cc e)

pub same_value : {A E : Type 0} (x y : A) → ◌≡◌ {A = Result A E} (Ok x) (Ok y) → x ≡ y
same_value x y e = cc

pub value_told : {A E F : Type 0} (tell : E → F) (r : Result A E) (a : A) → told_as tell r ≡ Ok a → r ≡ Ok a
value_told tell (Ok b) a e = ap Ok (same_value b a e)
value_told tell (Err fault) a e = absurd (cc e)

pub some_of_wide : {A : Type 0} (op : Op) (r : Option A) (x : A) → or_wide op r ≡ Ok x → r ≡ Some x
some_of_wide op (Some y) x h = cc
some_of_wide op None x h = absurd (cc)

pub same_fault : {A E : Type 0} (e f : E) → ◌≡◌ {A = Result A E} (Err e) (Err f) → e ≡ f
same_fault e f h = cc

-- a fault is handed on
pub handed : {A B E : Type 0} (r : Result A E) (next : A → Result B E) (e : E) → r ≡ Err e → and_then r next ≡ Err e
handed (Ok a) next e h = absurd (cc h)
handed (Err f) next e h = ap Err (same_fault f e h)

pub one_fault : {A E : Type 0} (r : Result A E) (e f : E) → r ≡ Err e → r ≡ Err f → e ≡ f
one_fault r e f h k = cc

pub on_ok : {A E : Type 0} (r : Result A E) (P Q : Type 0) → OnOk r P → (P → Q) → OnOk r Q
on_ok (Ok x) P Q p f = f p
on_ok (Err e) P Q p f = tt

pub on_err : {A E : Type 0} (r : Result A E) (P : Type 0) → P → OnErr r P
on_err (Ok x) P p = tt
on_err (Err e) P p = p

-- ---- what may be missing

pub same_some : {A : Type 0} (x y : A) → Some x ≡ Some y → x ≡ y
same_some x y e = cc

pub one_some : {A : Type 0} (o : Option A) (x y : A) → o ≡ Some x → o ≡ Some y → x ≡ y
one_some o x y h k = cc

-- what comes after something that may be missing came after a value
pub bind_some : {A B : Type 0} (o : Option A) (next : A → Option B) (b : B) → (o >>= next) ≡ Some b → (a : A) × (o ≡ Some a) × (next a ≡ Some b)
bind_some (Some a) next b e = (a, refl, e)
bind_some None next b e = cc
