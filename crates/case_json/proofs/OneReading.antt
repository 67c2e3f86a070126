-- Bytes have one value, and denote one case.
use Rattle.std.proofs.Common.{◌∙◌, sym, ap}
use Rattle.case_model.specs.Content.{content_of}
use Rattle.serde_json.specs.Read.{read}
use Rattle.field_core.proofs.Results.{same_value, one_some}
use Rattle.case_json.specs.Document.{document_of}
use Rattle.case_json.specs.JsonStatements.{JsonSaysOneCase}

pub one_case : JsonSaysOneCase
one_case bytes a b h k =
    let same = one_some (read bytes) h.says.0 k.says.0 h.says.1.1 k.says.1.1 in
    let draft = same_value h.draft k.draft (sym h.says.2 ∙ ap document_of same ∙ k.says.2) in
    h.content_is ∙ ap content_of draft ∙ sym k.content_is
