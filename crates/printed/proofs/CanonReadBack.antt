-- What `canon` prints is read as the case that was read, and as no other.
use Rattle.std.proofs.Common.{◌≡◌, refl, sym, ap, subst, ◌∙◌, ℕ, List, Option, Some, true}
use Rattle.answers.specs.declared.answer.Answer.{Answer}
use Rattle.answers.specs.declared.status.Status.TheVariants.{Done}
use Rattle.answers.specs.Stages.{IsAnswerOf}
use Rattle.case_csv.proofs.SheetCases.{sheets_read_back}
use Rattle.case_csv.specs.Sheet.{sheet_text}
use Rattle.case_csv.specs.Table.{cells_of}
use Rattle.case_json.proofs.WrittenCases.{reads_back}
use Rattle.case_json.specs.Written.{json_text}
use Rattle.case_model.specs.Content.{Content, content_of, has_coefficients}
use Rattle.case_model.specs.Validity.{IsValidContent}
use Rattle.case_model.specs.declared.draft.Draft.{Draft}
use Rattle.command_words.specs.Asked.{Encoding, text, csv, json, on_case}
use Rattle.command_words.specs.declared.command.CaseTask.TheVariants.{Canon}
use Rattle.command_words.specs.declared.format.Format.{Format}
use Rattle.command_words.specs.declared.format.Format.TheVariants.{Text, Csv, Json}
use Rattle.edge_text.proofs.CanonicalCases.{canonical_reads_back}
use Rattle.edge_text.specs.CanonicalText.{canonical_text}
use Rattle.graph_cli.proofs.AcceptedCases.{case_decided}
use Rattle.graph_cli.proofs.ClosedReports.{valid_said, reports_case}
use Rattle.graph_cli.specs.Accepted.{grammar, case_in}
use Rattle.graph_cli.specs.Canon.{canon_stage, sheet_stage}
use Rattle.graph_cli.specs.Commands.{on_case as answers_on_case}
use Rattle.graph_cli.specs.Laws.{ReportsCase}
use Rattle.graph_cli.specs.Outcome.{AskFor, outcome}
use Rattle.printed.specs.Canon.{read_again, IsReadAs, CanonIsReadAsTheCase, LevelsAgree, CanonTellsCasesApart}
use Rattle.printed.proofs.WholeDrafts.{IsWhole, whole_content}
use Rattle.printed.proofs.WholeJson.{json_whole}
use Rattle.printed.proofs.WholeTexts.{text_whole, sheet_draft_whole}

-- ---- what is read

-- what bytes say has edges with a coefficient for each power
draft_whole : (format : Encoding) (bytes : List ℕ) (d : Draft) → (grammar format bytes).Gives d → IsWhole d
draft_whole text bytes d h = text_whole bytes d h
draft_whole (csv alpha) bytes d h = sheet_draft_whole (cells_of bytes) alpha d h
draft_whole json bytes d h = json_whole bytes d h

-- ---- what is printed

-- the text of a case in a format
abbrev text_in : Format → Content → List ℕ
text_in Text c = canonical_text c
text_in Csv c = sheet_text c
text_in Json c = json_text c

text_is : (to : Format) (c : Content) (a : Answer) → (canon_stage to c).Gives a → a.text ≡ text_in to c
unfolding canon_stage sheet_stage
text_is Text c a g = ap (λ (x : Answer). x.text) g
text_is Csv c a g = ap (λ (x : Answer). x.text) g.1
text_is Json c a g = ap (λ (x : Answer). x.text) g

module _ (c : Content) (v : IsValidContent c) (h : has_coefficients c.components ≡ true) where
  pub text_read : (case_in text (canonical_text c)).Gives c
  text_read =
      let k = canonical_reads_back (record { names = c.names; alpha = c.alpha; components = c.components; inputs = c.inputs; valid = v; coefficients = h }) in
      (k.draft, k.says, (k.faultless, k.content_is))

  canon_read : (to : Format) (a : Answer) → (canon_stage to c).Gives a → (case_in (read_again to c) (text_in to c)).Gives c
  unfolding canon_stage sheet_stage
  canon_read Text a g = text_read
  canon_read Csv a g =
      let k = sheets_read_back (record { names = c.names; alpha = c.alpha; components = c.components; inputs = c.inputs; valid = v; coefficients = h }) g.0 in
      (k.draft, k.says, (k.faultless, k.content_is))
  canon_read Json a g =
      let k = reads_back (record { names = c.names; alpha = c.alpha; components = c.components; inputs = c.inputs; valid = v; coefficients = h }) in
      (k.draft, k.says, (k.faultless, k.content_is))

-- a text that is read as a case is read as no other
pub read_as : (to : Format) (c : Content) (printed : List ℕ) → (case_in (read_again to c) printed).Gives c → IsReadAs to c printed
read_as to c printed g = record { reads = g; only = λ d k. (case_decided (read_again to c) printed).one d c k g }

-- ---- the laws

-- the bytes say a case, and this is its text
abbrev Prints : Format → Answer → Content → List ℕ → Type 0
Prints to a c printed = (canon_stage to c).Gives a

prints_case : (words : List (List ℕ)) (format : Encoding) (to : Format) (bytes : List ℕ) (proof : Option (List ℕ)) (a : Answer)
    → AskFor words (on_case format (Canon to)) → IsAnswerOf (outcome words (Some bytes) proof) a → a.status ≡ Done
    → ReportsCase (Prints to a) format bytes a.text
unfolding answers_on_case
prints_case words format to bytes proof a asks h z = reports_case (Prints to a) words format (Canon to) bytes proof a (λ c v g. g) asks h z

printed_read : (format : Encoding) (to : Format) (bytes : List ℕ) (a : Answer) (r : ReportsCase (Prints to a) format bytes a.text)
    → IsReadAs to (content_of r.draft) a.text
printed_read format to bytes a r =
    let c = content_of r.draft in
    let valid = valid_said format bytes r.draft r.says r.faultless in
    let whole = whole_content r.draft (draft_whole format bytes r.draft r.says) in
    read_as to c a.text (subst (λ t. (case_in (read_again to c) t).Gives c) (sym (text_is to c a r.reports)) (canon_read c valid whole to a r.reports))

pub canon_reads_back : CanonIsReadAsTheCase
canon_reads_back words format to bytes proof a asks h z =
    let r = prints_case words format to bytes proof a asks h z in
    record { draft = r.draft; says = r.says; faultless = r.faultless; reports = printed_read format to bytes a r }

same_reading : (to : Format) (c d : Content) → LevelsAgree to c d → read_again to c ≡ read_again to d
same_reading Text c d e = refl
same_reading Csv c d e = ap csv e
same_reading Json c d e = refl

-- the case that bytes say is that of the draft which they say
said_case : (format : Encoding) (bytes : List ℕ) (to : Format) (a : Answer) (c : Content) (r : ReportsCase (Prints to a) format bytes a.text)
    → (case_in format bytes).Gives c → content_of r.draft ≡ c
said_case format bytes to a c r g = (case_decided format bytes).one (content_of r.draft) c (r.draft, r.says, (r.faultless, refl)) g

pub canon_apart : CanonTellsCasesApart
canon_apart words others format other_format to bytes other proof other_proof a b c d asks other_asks h k z y g f =
    let r = prints_case words format to bytes proof a asks h z in
    let s = prints_case others other_format to other other_proof b other_asks k y in
    let one = said_case format bytes to a c r g in
    let two = said_case other_format other to b d s f in
    let first = subst (λ x. (case_in (read_again to x) a.text).Gives x) one (printed_read format to bytes a r).reads in
    let second = subst (λ x. (case_in (read_again to x) b.text).Gives x) two (printed_read other_format to other b s).reads in
    let printed = text_is to (content_of r.draft) a r.reports in
    let printed_also = text_is to (content_of s.draft) b s.reports in
    record {
      same_text = λ e. printed ∙ ap (text_in to) (one ∙ e ∙ sym two) ∙ sym printed_also;
      same_case = λ levels e. (case_decided (read_again to d) b.text).one c d
          (subst (λ t. (case_in (read_again to d) t).Gives c) e (subst (λ format. (case_in format a.text).Gives c) (same_reading to c d levels) first)) second;
    }
