-- What holds of canonical texts.
use Rattle.std.specs.Prelude.{◌≡◌}
use Rattle.case_model.specs.declared.case.Case.{Case}
use Rattle.case_model.specs.CaseView.{content}
use Rattle.edge_text.specs.CanonicalText.{canonical_text}
use Rattle.edge_text.specs.Reading.{IsCaseOf}

-- the canonical text of a case denotes that case
abbrev pub CanonicalTextsReadBack : Type 0
CanonicalTextsReadBack = (case : Case) → IsCaseOf (canonical_text (content case)) case

-- cases of one canonical text have one content
abbrev pub CanonicalTextsTellCasesApart : Type 0
CanonicalTextsTellCasesApart = (a b : Case) → canonical_text (content a) ≡ canonical_text (content b) → content a ≡ content b

-- the case that a canonical text denotes has that canonical text
abbrev pub CanonicalTextsAreCanonical : Type 0
CanonicalTextsAreCanonical = (a b : Case) → IsCaseOf (canonical_text (content a)) b → canonical_text (content b) ≡ canonical_text (content a)
