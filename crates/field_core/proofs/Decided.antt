-- What each text either is or fails to be, as a function: for numerals, expressions and any other grammar with one value and one fault a text.
use Rattle.std.proofs.Common.{◌≡◌, ◌⊎◌, inl, inr, ℕ, List, Result, Ok, Err, ap, subst}
use Rattle.field_core.proofs.Results.{same_value, same_fault}

module _ {A Fault : Type 0} (Is : List ℕ → A → Type 0) (Fails : List ℕ → Fault → Type 0)
    (one : (text : List ℕ) (x y : A) → Is text x → Is text y → x ≡ y)
    (one_fault : (text : List ℕ) (f g : Fault) → Fails text f → Fails text g → f ≡ g)
    (apart : (text : List ℕ) (x : A) (f : Fault) → Is text x → ¬ Fails text f) where
  abbrev pub value_by : (text : List ℕ) → ((x : A) × Is text x) ⊎ ((f : Fault) × Fails text f) → Result A Fault
  value_by text (inl v) = Ok v.0
  value_by text (inr f) = Err f.0

  pub is_value : (text : List ℕ) (x : A) (r : ((x : A) × Is text x) ⊎ ((f : Fault) × Fails text f)) → Is text x → value_by text r ≡ Ok x
  is_value text x (inl v) h = ap Ok (one text v.0 x v.1 h)
  is_value text x (inr f) h = absurd (apart text x f.0 h f.1)

  pub is_fault : (text : List ℕ) (f : Fault) (r : ((x : A) × Is text x) ⊎ ((f : Fault) × Fails text f)) → Fails text f → value_by text r ≡ Err f
  is_fault text f (inl v) h = absurd (apart text v.0 f v.1 h)
  is_fault text f (inr g) h = ap Err (one_fault text g.0 f g.1 h)

  pub value_is : (text : List ℕ) (x : A) (r : ((x : A) × Is text x) ⊎ ((f : Fault) × Fails text f)) → value_by text r ≡ Ok x → Is text x
  value_is text x (inl v) e = subst (Is text) (same_value v.0 x e) v.1
  value_is text x (inr f) e = absurd (let k : ◌≡◌ {A = Result A Fault} (Err f.0) (Ok x) = e in cc)

  pub fault_is : (text : List ℕ) (f : Fault) (r : ((x : A) × Is text x) ⊎ ((f : Fault) × Fails text f)) → value_by text r ≡ Err f → Fails text f
  fault_is text f (inl v) e = absurd (let k : ◌≡◌ {A = Result A Fault} (Ok v.0) (Err f) = e in cc)
  fault_is text f (inr g) e = subst (Fails text) (same_fault g.0 f e) g.1
