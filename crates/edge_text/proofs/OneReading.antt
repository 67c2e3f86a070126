-- A text has one reading.
use Rattle.std.proofs.Common.{◌≡◌, Option, Some, None, refl, sym, ap, ◌∙◌}
use Rattle.case_model.specs.declared.fault.CaseFault.{CaseFault}
use Rattle.case_model.specs.CaseFaults.{case_fault}
use Rattle.case_model.specs.Content.{content_of}
use Rattle.case_model.specs.declared.draft.Draft.{Draft}
use Rattle.edge_text.specs.declared.fault.TextFault.TheVariants as faults
use Rattle.edge_text.specs.Reading.{IsTextFault}
use Rattle.edge_text.specs.TextStatements.{TextsHaveOneCase, TextsHaveOneRefusal, FaultsArentRefusals, CasesHaveNoFault}
use Rattle.edge_text.proofs.TextLaws.{one_draft, not_both}

pub one_case : TextsHaveOneCase
one_case bytes c d h k = h.content_is ∙ ap content_of (one_draft bytes h.draft k.draft h.says k.says) ∙ sym k.content_is

same_fault : (a b : CaseFault) → Some a ≡ Some b → a ≡ b
same_fault a b e = cc

pub one_refusal : TextsHaveOneRefusal
one_refusal bytes r s h k =
    let same = one_draft bytes h.draft k.draft h.says k.says in
    (same_fault r.fault s.fault (sym h.fault_is ∙ ap case_fault same ∙ k.fault_is), h.names_are ∙ ap (λ (d : Draft). d.names) same ∙ sym k.names_are)

pub fault_or_refusal : FaultsArentRefusals
fault_or_refusal bytes n kind refused f r = not_both bytes r.draft n kind r.says f

some_fault : (o p : Option CaseFault) (fault : CaseFault) → o ≡ p → o ≡ None → p ≡ Some fault → ⊥
some_fault o p fault e h k = let absent : None ≡ Some fault = sym h ∙ e ∙ k in cc

pub no_fault : CasesHaveNoFault
unfolding IsTextFault
no_fault bytes c (faults.Line n kind) h f = absurd (not_both bytes h.draft n kind h.says f)
no_fault bytes c (faults.Case refused) h f = absurd
    (some_fault (case_fault h.draft) (case_fault f.draft) refused.fault (ap case_fault (one_draft bytes h.draft f.draft h.says f.says)) h.faultless f.fault_is)
no_fault bytes c faults.NoMemory h f = refl
