-- What a document says, with numbers of a type.
use Rattle.std.proofs.Common.{◌≡◌, refl, ap₂, List, [], ◌∷◌, map}
use Rattle.std.specs.List.{All}
use Rattle.std.proofs.lemmas.List.Elements.{All-head, All-tail}
use Rattle.field_core.specs.Kind.{Parts}
use Rattle.evidence_check.specs.declared.evidence.ProofStep.{ProofStep}
use Rattle.evidence_check.specs.declared.evidence.KeepProof.{KeepProof}
use Rattle.evidence_check.specs.declared.evidence.Steps.{Steps}
use Rattle.evidence_check.specs.EvidenceParts.{StepParts, KeepParts}
use Rattle.evidence_check.specs.EvidenceView.{step_parts, keep_parts}
use Rattle.evidence_check.specs.Document.{Said}
use Rattle.evidence_check.specs.ReadView.{said_in}

module _ {F : Type 0} (parts : F → Parts) where
  -- a number of the type
  abbrev pub Typed : Parts → Type 0
  Typed x = (y : F) × (parts y ≡ x)

  numbers_typed : (xs : List Parts) → All Typed xs → (ys : List F) × (map parts ys ≡ xs)
  numbers_typed [] h = ([], refl)
  numbers_typed (x ∷ xs) h =
      let y = All-head Typed x xs h in
      let ys = numbers_typed xs (All-tail Typed x xs h) in
      (y.0 ∷ ys.0, ap₂ (λ z zs. z ∷ zs) y.1 ys.1)

  lists_typed : (lists : List (List Parts)) → All (All Typed) lists → (ys : List (List F)) × (map (map parts) ys ≡ lists)
  lists_typed [] h = ([], refl)
  lists_typed (xs ∷ lists) h =
      let y = numbers_typed xs (All-head (All Typed) xs lists h) in
      let ys = lists_typed lists (All-tail (All Typed) xs lists h) in
      (y.0 ∷ ys.0, ap₂ (λ z zs. z ∷ zs) y.1 ys.1)

  steps_typed : (ss : List StepParts) → All (λ s. All (All Typed) s.flows) ss → (ys : List (ProofStep F)) × (map (step_parts parts) ys ≡ ss)
  steps_typed [] h = ([], refl)
  steps_typed (s ∷ ss) h =
      let y = lists_typed s.flows (All-head (λ s. All (All Typed) s.flows) s ss h) in
      let ys = steps_typed ss (All-tail (λ s. All (All Typed) s.flows) s ss h) in
      (record { hypothesis = s.hypothesis; flows = y.0 } ∷ ys.0, ap₂ (λ fs zs. record { hypothesis = s.hypothesis; flows = fs } ∷ zs) y.1 ys.1)

  keeps_typed : (xs : List KeepParts) → All (λ x. All (All Typed) x.exits) xs → (ys : List (KeepProof F)) × (map (keep_parts parts) ys ≡ xs)
  keeps_typed [] h = ([], refl)
  keeps_typed (x ∷ xs) h =
      let y = lists_typed x.exits (All-head (λ x. All (All Typed) x.exits) x xs h) in
      let ys = keeps_typed xs (All-tail (λ x. All (All Typed) x.exits) x xs h) in
      (record { hypothesis = x.hypothesis; exits = y.0 } ∷ ys.0, ap₂ (λ es zs. record { hypothesis = x.hypothesis; exits = es } ∷ zs) y.1 ys.1)

  pub said_typed : (said : Said) → All (λ s. All (All Typed) s.flows) said.steps → All (λ x. All (All Typed) x.exits) said.keeps
      → (v : Steps F) × (said_in parts v ≡ said)
  said_typed said h k =
      let ss = steps_typed said.steps h in
      let xs = keeps_typed said.keeps k in (
        record { version = said.version; steps = ss.0; keeps = xs.0 },
        ap₂ (λ ss xs. record { version = said.version; steps = ss; keeps = xs }) ss.1 xs.1,
      )
