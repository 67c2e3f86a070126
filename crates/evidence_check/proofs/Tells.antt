-- What a check that may end early says.
use Rattle.std.proofs.Common.{◌≡◌, ◌⊎◌, inl, inr, refl, sym, ap, subst, ◌∙◌, ℕ, zero, suc, ◌+◌, ◌<◌, Bool, true, false, List, []}
use Rattle.std.proofs.Common.{◌∷◌, ◌++◌, Result, Ok, Err, length, length-append, get_or, arith}
use Rattle.std.proofs.Math.ListN.{get_or-append}
use Rattle.std.proofs.Math.Seq.{get_or-append_seam}
use Rattle.field_core.specs.declared.place.TooWide.{TooWide}
use Rattle.field_core.specs.declared.place.Place.{Place}
use Rattle.field_core.specs.Kind.{ok_map}
use Rattle.field_core.specs.Steps.{◌>>=◌, each_below}
use Rattle.evidence_check.specs.CheckSteps.{require, written_at, numbered, all_below}
use Rattle.evidence_check.specs.declared.event.CheckEventAt.{CheckEventAt}
use Rattle.evidence_check.specs.declared.verdict.Reason.{Reason}
use Rattle.evidence_check.specs.declared.event.CheckEvent.{CheckEvent}
use Rattle.evidence_check.specs.declared.event.CheckEvent.TheVariants.{Broken}

-- Where it goes through, the good holds of what it gives, and where it finds a broken condition, the bad holds of its reason.
pub record Tells {A : Type 0} (r : Result A CheckEvent) (Good : A → Type 0) (Bad : Reason → Type 0) : Type 0 where
  pub ok : (x : A) → r ≡ Ok x → Good x
  pub bad : (reason : Reason) → r ≡ Err (Broken reason) → Bad reason

-- the same with a number
pub record TellsAt {A : Type 0} (r : Result A CheckEventAt) (Good : A → Type 0) (Bad : ℕ → Reason → Type 0) : Type 0 where
  pub ok : (x : A) → r ≡ Ok x → Good x
  pub bad : (n : ℕ) (reason : Reason) → r ≡ Err (record { number = n; event = Broken reason }) → Bad n reason

pub tells_bind : {A B : Type 0} (r : Result A CheckEvent) (f : A → Result B CheckEvent)
    (Good : A → Type 0) (Then : B → Type 0) (Bad : Reason → Type 0) → Tells r Good Bad
    → ((x : A) → Good x → Tells (f x) Then Bad) → Tells (r >>= f) Then Bad
tells_bind (Ok x) f Good Then Bad T then = then x (T.ok x refl)
tells_bind (Err e) f Good Then Bad T then = record { ok = λ x h. absurd (cc); bad = λ reason h. T.bad reason (let g : e ≡ Broken reason = cc in ap Err g) }

pub tells_bind_at : {A B : Type 0} (r : Result A CheckEventAt) (f : A → Result B CheckEventAt) (Good : A → Type 0) (Then : B → Type 0)
    (Bad : ℕ → Reason → Type 0) → TellsAt r Good Bad → ((x : A) → Good x → TellsAt (f x) Then Bad) → TellsAt (r >>= f) Then Bad
tells_bind_at (Ok x) f Good Then Bad T then = then x (T.ok x refl)
tells_bind_at (Err e) f Good Then Bad T then =
    record { ok = λ x h. absurd (cc); bad = λ n reason h. T.bad n reason (let g : e ≡ record { number = n; event = Broken reason } = cc in ap Err g) }

pub tells_ok : {A : Type 0} (x : A) (Good : A → Type 0) (Bad : Reason → Type 0) → Good x → Tells (Ok x) Good Bad
tells_ok x Good Bad g = record { ok = λ y h. let e : x ≡ y = cc in subst Good e g; bad = λ reason h. absurd (cc) }

pub tells_ok_at : {A : Type 0} (x : A) (Good : A → Type 0) (Bad : ℕ → Reason → Type 0) → Good x → TellsAt (Ok x) Good Bad
tells_ok_at x Good Bad g = record { ok = λ y h. let e : x ≡ y = cc in subst Good e g; bad = λ n reason h. absurd (cc) }

pub tells_if : {A : Type 0} (r : Result A CheckEvent) (Good More : A → Type 0) (Bad : Reason → Type 0) → ((x : A) → Good x → More x)
    → Tells r Good Bad → Tells r More Bad
tells_if r Good More Bad g T = record { ok = λ x h. g x (T.ok x h); bad = T.bad }

pub tells_if_at : {A : Type 0} (r : Result A CheckEventAt) (Good More : A → Type 0) (Bad Worse : ℕ → Reason → Type 0)
    → ((x : A) → Good x → More x) → ((n : ℕ) (reason : Reason) → Bad n reason → Worse n reason)
    → TellsAt r Good Bad → TellsAt r More Worse
tells_if_at r Good More Bad Worse g b T = record { ok = λ x h. g x (T.ok x h); bad = λ n reason h. b n reason (T.bad n reason h) }

pub require_tells : (b : Bool) (why : Reason) (P : Type 0) (Bad : Reason → Type 0) → (b ≡ true → P) → (b ≡ false → Bad why)
    → Tells (require b why) (λ _. P) Bad
unfolding require
require_tells true why P Bad met unmet = record { ok = λ x h. met refl; bad = λ r h. absurd (cc) }
require_tells false why P Bad met unmet = record { ok = λ x h. absurd (cc); bad = λ r h. let e : why ≡ r = cc in subst Bad e (unmet refl) }

pub written_tells : {A : Type 0} (c : ℕ) (place : Place) (r : Result A TooWide) (Bad : Reason → Type 0)
    → Tells (written_at c place r) (λ x. r ≡ Ok x) Bad
unfolding written_at
written_tells c place (Ok x) Bad = record { ok = λ y h. let e : x ≡ y = cc in ap Ok e; bad = λ r h. absurd (cc) }
written_tells c place (Err e) Bad = record { ok = λ x h. absurd (cc); bad = λ r h. absurd (cc) }

pub numbered_tells : {A : Type 0} (n : ℕ) (r : Result A CheckEvent) (Good : A → Type 0) (Bad : ℕ → Reason → Type 0)
    → Tells r Good (Bad n) → TellsAt (numbered n r) Good Bad
unfolding numbered
numbered_tells n (Ok x) Good Bad T = record { ok = λ y h. let e : x ≡ y = cc in subst Good e (T.ok x refl); bad = λ k r h. absurd (cc) }
numbered_tells n (Err e) Good Bad T =
    record {
      ok = λ x h. absurd (cc);
      bad = λ k reason h.
          let f : Path CheckEventAt (record { number = n; event = e }) (record { number = k; event = Broken reason }) = cc in
          subst (λ i. Bad i reason) (ap (λ a. a.number) f) (T.bad reason (ap (λ a. Err a.event) f));
    }

last : (i n : ℕ) → i < suc n → (i ≡ n) ⊎ (i < n)
last i n h = grind arith

pub all_tells : (n : ℕ) (f : ℕ → Result (Unit {0}) CheckEvent) (P : ℕ → Type 0) (Bad : Reason → Type 0)
    → ((i : ℕ) → i < n → Tells (f i) (λ _. P i) Bad)
    → Tells (all_below n f) (λ _. (i : ℕ) → i < n → P i) Bad
unfolding all_below
all_tells zero f P Bad each = tells_ok tt _ _ (λ i p. absurd (omega arith))
all_tells (suc n) f P Bad each =
    tells_bind (all_below n f) (λ _. f n) (λ _. (i : ℕ) → i < n → P i) (λ _. (i : ℕ) → i < suc n → P i) Bad
    (all_tells n f P Bad (λ i p. each i (omega arith)))
    (λ _ before. tells_if (f n) _ _ _ (λ _ g i p. elim (last i n p) [ inl e ↦ subst P (sym e) g | inr q ↦ before i q ]) (each n (omega arith)))

-- the requested number, each with what is said of its place
pub record AreEach {A : Type 0} (n : ℕ) (P : ℕ → A → Type 0) (xs : List A) : Type 0 where
  pub count : length xs ≡ n
  pub each : (i : ℕ) (d : A) → i < n → P i (get_or xs i d)

each_next : {A : Type 0} (n : ℕ) (P : ℕ → A → Type 0) (xs : List A) (x : A) → AreEach n P xs → P n x → AreEach (suc n) P (xs ++ x ∷ [])
each_next n P xs x E g = record {
  count = length-append xs (x ∷ []) ∙ one_more (length xs) n E.count;
  each = λ i d p. elim (last i n p) [
    | inl e ↦ subst (λ k. P k (get_or (xs ++ x ∷ []) i d)) (sym e) (subst (P n) (sym (seam i d e)) g)
    | inr q ↦ subst (P i) (sym (get_or-append xs (x ∷ []) d i (subst (λ k. i < k) (sym E.count) q))) (E.each i d q)
  ];
}
  where
    one_more : (l n : ℕ) → l ≡ n → l + 1 ≡ suc n
    one_more l n e = omega arith

    seam : (i : ℕ) (d : _) → i ≡ n → get_or (xs ++ x ∷ []) i d ≡ x
    seam i d e = ap (λ k. get_or (xs ++ x ∷ []) k d) (e ∙ sym E.count) ∙ get_or-append_seam xs x [] d

pub each_tells : {A : Type 0} (n : ℕ) (f : ℕ → Result A CheckEvent) (P : ℕ → A → Type 0) (Bad : Reason → Type 0)
    → ((i : ℕ) → i < n → Tells (f i) (P i) Bad) → Tells (each_below n f) (AreEach n P) Bad
unfolding each_below
each_tells zero f P Bad each = tells_ok [] _ _ (record { count = refl; each = λ i d p. absurd (omega arith) })
each_tells (suc n) f P Bad each =
    tells_bind (each_below n f) (λ xs. f n >>= λ x. Ok (xs ++ x ∷ [])) (AreEach n P) (AreEach (suc n) P) Bad
    (each_tells n f P Bad (λ i p. each i (omega arith)))
    (λ xs E. tells_bind (f n) (λ x. Ok (xs ++ x ∷ [])) (P n) (AreEach (suc n) P) Bad (each n (omega arith))
    (λ x g. tells_ok (xs ++ x ∷ []) _ _ (each_next n P xs x E g)))

-- what is given, seen through `g`
pub tells_map : {A B : Type 0} (g : A → B) (r : Result A CheckEvent) (Good : A → Type 0) (More : B → Type 0) (Bad : Reason → Type 0)
    → ((x : A) → Good x → More (g x)) → Tells r Good Bad → Tells (ok_map g r) More Bad
tells_map g (Ok x) Good More Bad then T = tells_ok (g x) More Bad (then x (T.ok x refl))
tells_map g (Err e) Good More Bad then T = record { ok = λ y h. absurd (cc); bad = λ reason h. T.bad reason (let f : e ≡ Broken reason = cc in ap Err f) }
