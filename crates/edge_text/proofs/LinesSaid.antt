-- What a line is read as is what it says by its relation, both ways.
use Rattle.std.proofs.Common.{◌≡◌, ℕ, Bool, true, false, List, Option, Some, None, Result, Ok, refl, ap, ◌∙◌, if◌then◌else◌}
use Rattle.std.specs.Prelude.{codes}
use Rattle.std.specs.Option.{option_map}
use Rattle.std.specs.Str.{bytes_eq}
use Rattle.std.proofs.lemmas.Slice.Eq.{bytes_eq-Decides}
use Rattle.case_model.specs.declared.draft_edge.DraftEdge.{DraftEdge}
use Rattle.case_model.specs.declared.draft_stages.Arrival.{Arrival}
use Rattle.case_model.specs.declared.spend_step.SpendStep.{SpendStep}
use Rattle.text_lines.specs.Kinds.{keyed_line}
use Rattle.text_lines.specs.Words.{words_of, words_after}
use Rattle.text_lines.proofs.Keywords.{keyword_found}
use Rattle.edge_text.specs.declared.fault.LineKind.{LineKind}
use Rattle.edge_text.specs.Document.{edge_line, if_named, if_step, further_line}
use Rattle.edge_text.specs.DocumentStatements.{IsReadAs, LinesOfNumbersAreRead, EdgesAreRead, LinesOfStagesAreRead}
use Rattle.edge_text.specs.Grammar.{Words, IsLineOf, IsEdgeLine, IsTableLine, IsArriveLine}
use Rattle.edge_text.specs.WordReading.{number, numbers, given, edge, count, shares, first_step, step_of, step_words, arrival}
use Rattle.edge_text.proofs.Leaves.{number_said, number_is, names_said, names_are, numbers_said, numbers_are, given_said, given_are, edge_said, edge_is, count_said, count_is}
use Rattle.edge_text.proofs.Leaves.{shares_said, shares_are, first_said, first_is, arrival_said, arrival_is}
use Rattle.edge_text.proofs.LinesTaken.{step_says, further_words}

pub line_said : {A : Type 0} {Are : Words → A → Type 0} (keyword : List ℕ) (says : Words → Result A LineKind)
    (leaf : (words : Words) (x : A) → Are words x → says words ≡ Ok x) (line : List ℕ) (x : A)
    → IsLineOf keyword line (λ words. Are words x) → keyed_line keyword says line ≡ Some (Ok x)
line_said keyword says leaf line x h =
    let same : bytes_eq keyword keyword ≡ true = (bytes_eq-Decides keyword keyword).1 refl in
    ap (λ ws. option_map says (words_after keyword ws)) h.words ∙ rw same (ap Some (leaf h.behind x h.are))

pub line_is : {A : Type 0} {Are : Words → A → Type 0} (keyword : List ℕ) (says : Words → Result A LineKind)
    (leaf : (words : Words) (x : A) → says words ≡ Ok x → Are words x) (line : List ℕ) (x : A)
    → keyed_line keyword says line ≡ Some (Ok x) → IsLineOf keyword line (λ words. Are words x)
line_is {A} {Are} keyword says leaf line x e = by (words_after keyword (words_of line)) refl e
  where
    by : (o : Option Words) → o ≡ words_after keyword (words_of line) → ◌≡◌ {A = Option (Result A LineKind)} (option_map says o) (Some (Ok x))
        → IsLineOf keyword line (λ words. Are words x)
    by (Some words) k q =
        let s : says words ≡ Ok x = cc in record { behind = words; words = keyword_found keyword (words_of line) words k; are = leaf words x s }
    by None k q = absurd (cc)

-- both ways
both_ways : {A : Type 0} {Are : Words → A → Type 0} (keyword : List ℕ) (says : Words → Result A LineKind)
    → ((words : Words) (x : A) → Are words x → says words ≡ Ok x) → ((words : Words) (x : A) → says words ≡ Ok x → Are words x)
    → IsReadAs (keyed_line keyword says) (λ line x. IsLineOf keyword line (λ words. Are words x))
both_ways keyword says said is line x = ((λ e. line_is keyword says is line x e), (λ h. line_said keyword says said line x h))

pub edge_line_is : (names : Words) (line : List ℕ) (e : DraftEdge) → edge_line names line ≡ Some (Ok e) → IsEdgeLine names line e
edge_line_is names line e q = line_is (codes "edge") (edge names line) (edge_is names line) line e q

pub arrive_line_is : (names : Words) (line : List ℕ) (a : Arrival) → keyed_line (codes "arrive") (arrival names) line ≡ Some (Ok a) → IsArriveLine names line a
arrive_line_is names line a q = line_is (codes "arrive") (arrival names) (arrival_is names) line a q

-- ---- further steps of a table

further_said : (name line : List ℕ) (t : SpendStep) → IsTableLine name line t → further_line name line ≡ Some (Ok t)
further_said name line t h =
    let same : bytes_eq (codes "table") (codes "table") ≡ true = refl in
    ap (λ ws. if_step name (words_after (codes "table") ws)) h.words ∙ further_words name h.behind t (first_said name h.behind t h.are)

further_is : (name line : List ℕ) (t : SpendStep) → further_line name line ≡ Some (Ok t) → IsTableLine name line t
further_is name line t e = by (words_after (codes "table") (words_of line)) refl e
  where
    chosen : (words : Words) (w : List ℕ × List ℕ × Words) (b : Bool) → step_words words ≡ Some w → bytes_eq w.0 name ≡ b
        → ◌≡◌ {A = Option (Result SpendStep LineKind)} (if b then Some (step_of w.1 w.2) else None) (Some (Ok t)) → first_step name words ≡ Ok t
    chosen words w true f n q = step_says name words t (record { parts = w; found = f; named = n; says = let k : step_of w.1 w.2 ≡ Ok t = cc in k })
    chosen words w false f n q = absurd (cc)

    named : (words : Words) (o : Option (List ℕ × List ℕ × Words)) → step_words words ≡ o → if_named name o ≡ Some (Ok t) → first_step name words ≡ Ok t
    named words (Some w) f q = chosen words w (bytes_eq w.0 name) f refl q
    named words None f q = absurd (cc)

    by : (o : Option Words) → o ≡ words_after (codes "table") (words_of line) → if_step name o ≡ Some (Ok t) → IsTableLine name line t
    by (Some words) k q = record {
      behind = words;
      words = keyword_found (codes "table") (words_of line) words k;
      are = first_is name words t (named words (step_words words) refl q);
    }
    by None k q = absurd (cc)

-- ---- each kind of line

pub numbers_read : LinesOfNumbersAreRead
numbers_read = record {
  alpha = both_ways (codes "alpha") number number_said number_is;
  names = both_ways (codes "hypotheses") (λ words. Ok words) names_said names_are;
  p = λ line p. (
    (λ e. let h = line_is (codes "p") given given_are line p e in (h.are.0, record { behind = h.behind; words = h.words; are = h.are.1 }, h.are.2)),
    (λ h. line_said (codes "p") given given_said line p (record { behind = h.1.behind; words = h.1.words; are = (h.0, h.1.are, h.2) })),
  );
  share = both_ways (codes "component") number number_said number_is;
  weights = both_ways (codes "weights") numbers numbers_said numbers_are;
}

pub edges_read : EdgesAreRead
edges_read names line e = ((λ q. edge_line_is names line e q), (λ h. line_said (codes "edge") (edge names line) (edge_said names line) line e h))

pub stages_read : LinesOfStagesAreRead
stages_read names name = record {
  count = both_ways (codes "stages") count count_said count_is;
  spend = both_ways (codes "spend") (shares name) (shares_said name) (shares_are name);
  table = both_ways (codes "table") (first_step name) (first_said name) (first_is name);
  further = λ line t. ((λ e. further_is name line t e), (λ h. further_said name line t h));
  arrive = both_ways (codes "arrive") (arrival names) (arrival_said names) (arrival_is names);
}
