-- The text of evidence says it.
use Rattle.std.proofs.Common.{◌≡◌, refl, ap₂, ◌∙◌, ap, ℕ, ◌+◌, List, [], ◌∷◌}
use Rattle.std.specs.List.{AllByRecursion}
use Rattle.text_lines.specs.Lines.{rows_of, end_of}
use Rattle.text_lines.specs.Words.{words_of}
use Rattle.text_lines.specs.Spelling.{line_spelt, text_of, IsLine, numbered}
use Rattle.text_lines.specs.Forms.{words_seen}
use Rattle.text_lines.proofs.Spelt.{rows_of_text, words_of_line}
use Rattle.text_lines.proofs.FormReads.{reading_as}
use Rattle.text_lines.proofs.Written.{lines_in}
use Rattle.case_numbers.specs.Numbers.{numbers_of}
use Rattle.evidence_check.specs.EvidenceView.{version_of, steps_of, keeps_of}
use Rattle.evidence_check.specs.DocumentLines.{Words, kinds}
use Rattle.evidence_check.specs.Document.{document}
use Rattle.evidence_check.specs.EvidenceLines.{evidence_lines}
use Rattle.evidence_check.specs.NumberReading.{case_frame}
use Rattle.evidence_check.specs.DocumentStatements.{case_reading, said_of, evidence_text, CasesHaveFrames, EvidenceTextsSayIt}
use Rattle.evidence_check.proofs.WrittenLines.{lines_say}

line_back : (line : Words) → IsLine line → words_of (line_spelt line) ≡ line
line_back [] h = absurd h
line_back (word ∷ words) h = words_of_line (word ∷ words) (h.1, h.2)

numbered_back : (n : ℕ) (lines : List Words) → AllByRecursion IsLine lines → lines_in (words_seen (numbered n lines)) ≡ lines
numbered_back n [] h = refl
numbered_back n (line ∷ lines) h = ap₂ (λ x xs. x ∷ xs) (line_back line h.0) (numbered_back (n + 1) lines h.1)

lines_back : (lines : List Words) → AllByRecursion IsLine lines → lines_in (words_seen (rows_of (text_of lines))) ≡ lines
lines_back lines h = ap (λ rows. lines_in (words_seen rows)) (rows_of_text lines h) ∙ numbered_back 0 lines h

pub frame_is : CasesHaveFrames
frame_is n c = record { name = λ j p. refl; position = λ name. refl; components = refl; others_are = λ js. refl; numbers = λ text. refl }

pub text_says : EvidenceTextsSayIt
unfolding case_reading
text_says c v h p l =
    let T = case_frame (numbers_of c) c in
    let bytes = evidence_text c v in
    (reading_as kinds (document T) (words_seen (rows_of bytes)) (end_of bytes) (said_of v)).1
    (lines_say (numbers_of c) c T (version_of v) (steps_of v) (keeps_of v) (frame_is (numbers_of c) c)
    (record { version = h.version; size = h.size; none = h.none; all = h.all }) p (words_seen (rows_of bytes))
    (lines_back (evidence_lines T (version_of v) (steps_of v) (keeps_of v)) l))
