-- Lines of commands, read one by one.
use Rattle.std.proofs.Common.{◌≡◌, ◌⊎◌, ℕ, inl, inr, List, [], ◌∷◌, ◌++◌, length, Option, Some, None, Result, Ok, Err, refl, sym, ap, ap₂, subst, ◌∙◌}
use Rattle.std.specs.List.{AllByRecursion}
use Rattle.std.specs.Option.{option_map}
use Rattle.std.specs.Prelude.{IfOk, codes}
use Rattle.field_core.specs.Answers.{IsUnless, told_as}
use Rattle.field_core.proofs.Results.{made_of, same_value, same_fault}
use Rattle.text_lines.specs.Faults.{FaultAt}
use Rattle.text_lines.specs.Forms.{Say, Seen, AreMany, Is, reading, texts_seen}
use Rattle.text_lines.specs.Kinds.{either_of, expected, more_lines}
use Rattle.text_lines.specs.Lines.{Row, rows_of, texts_in, end_of}
use Rattle.text_lines.specs.Words.{words_of, words_after}
use Rattle.text_lines.proofs.FormFaults.{faults_end, none_is_fault}
use Rattle.text_lines.proofs.FormLines.{lines_step, lines_taken, lines_can}
use Rattle.text_lines.proofs.FormReads.{reading_as}
use Rattle.edge_text.specs.Document.{kinds}
use Rattle.edge_text.specs.Grammar.{Words}
use Rattle.edge_text.specs.WordReading.{arrival}
use Rattle.edge_text.specs.declared.fault.LineKind.{LineKind}
use Rattle.edge_text.specs.declared.fault.LineKind.TheVariants.{WordCount}
use Rattle.text_lines.proofs.Written.{lines_in}
use Rattle.edge_text.proofs.FormSpells.{spells_lines, spelt_document}
use Rattle.edge_text.proofs.Leaves.{arrival_is}
use Rattle.study_cli.specs.declared.command.StudyCommand.{StudyCommand}
use Rattle.study_cli.specs.declared.command.StudyCommand.TheVariants.{Show}
use Rattle.study_cli.specs.declared.fault.CommandsFault.{CommandsFault}
use Rattle.study_cli.specs.declared.fault.CommandsFault.TheVariants.{Line, NoMemory}
use Rattle.study_cli.specs.CommandFaults.{IsFirstFault, on_line}
use Rattle.study_cli.specs.CommandLines.{IsCommandLine, AreCommandLines, AreCommands, IsBelow}
use Rattle.study_cli.specs.CommandStatements.{CommandsAreOfLines, IsFirstBadLine, FaultsAreBadLines, FaultsAreFirst}
use Rattle.study_cli.specs.Commands.{taking, look, show, command, commands, commands_of}
use Rattle.study_cli.proofs.LookPlaces.{place_below}

some_result : {A : Type 0} (x y : Result A LineKind) → ◌≡◌ {A = Option (Result A LineKind)} (Some x) (Some y) → x ≡ y
some_result x y e = cc

module _ (names : Words) where
  -- ---- all lines

  many_are : (before cs : List StudyCommand) (rows : List Row) (rest : List (Seen (List ℕ))) → rest ≡ []
      → AreMany (command names) (λ ys a. Is {L = List ℕ} {K = LineKind} (Say a)) before (texts_seen rows) cs rest → AreCommandLines names (texts_in rows) cs
  many_are before [] [] rest e m = tt
  many_are before [] (row ∷ rows) rest e m = absurd (let k : rest ≡ texts_seen (row ∷ rows) = m.0 in cc)
  many_are before (c ∷ cs) [] rest e m = absurd (let k : [] ≡ m.3.row ∷ m.1 = m.3.rows_are in cc)
  many_are before (c ∷ cs) (row ∷ rows) rest e m =
      let seen : record { number = row.number; line = row.text } ∷ texts_seen rows ≡ m.3.row ∷ m.1 = m.3.rows_are in
      let first : record { number = row.number; line = row.text } ≡ m.3.row = cc in
      let others : texts_seen rows ≡ m.1 = cc in
      let says : command names row.text ≡ Some (Ok m.0) = ap (λ (s : Seen (List ℕ)). command names s.line) first ∙ m.3.says in (
        says ∙ ap (λ a. Some (Ok a)) (sym m.4.0),
        many_are (before ++ c ∷ []) cs rows rest e
            (subst (λ rs. AreMany (command names) (λ ys a. Is {L = List ℕ} {K = LineKind} (Say a)) (before ++ c ∷ []) rs cs rest) (m.4.1 ∙ sym others) m.5),
      )

  seen_texts : (rows : List Row) → lines_in (texts_seen rows) ≡ texts_in rows
  seen_texts [] = refl
  seen_texts (row ∷ rows) = ap (λ (ls : Words). row.text ∷ ls) (seen_texts rows)

  -- ---- the first fault

  -- what is read after some commands
  abbrev After : List StudyCommand → List Row → ℕ → Result (List StudyCommand) (FaultAt LineKind)
  After before rows end = reading kinds (more_lines (command names) before) (texts_seen rows) end

  expected_said : (line : List ℕ) (c : StudyCommand) → expected kinds (command names line) ≡ Ok c → command names line ≡ Some (Ok c)
  expected_said line c e = by (command names line) e
    where
      by : (o : Option (Result StudyCommand LineKind)) → expected kinds o ≡ Ok c → o ≡ Some (Ok c)
      by (Some r) q = ap Some q
      by None q = absurd (cc)

  one_more : (row : Row) (rows : List Row) (number : ℕ) (kind : LineKind) (c : StudyCommand) → command names row.text ≡ Some (Ok c)
      → IsFirstBadLine names rows number kind → IsFirstBadLine names (row ∷ rows) number kind
  one_more row rows number kind c e b = record {
    before = row ∷ b.before;
    row = b.row;
    after = b.after;
    rows_are = ap (λ rs. row ∷ rs) b.rows_are;
    number_is = b.number_is;
    said = c ∷ b.said;
    commands = (e, b.commands);
    bad = b.bad;
  }

  bad_line : (before : List StudyCommand) (rows : List Row) (end number : ℕ) (kind : LineKind) → After before rows end ≡ Err (record { line = number; kind = kind })
      → IsFirstBadLine names rows number kind
  bad_line before [] end number kind e = absurd (let k : ◌≡◌ {A = Result (List StudyCommand) (FaultAt LineKind)} (Ok before) (Err (record { line = number; kind = kind })) = e in cc)
  bad_line before (row ∷ rows) end number kind e = by (expected kinds (command names row.text)) refl (λ c k. bad_line (before ++ c ∷ []) rows end number kind k)
    where
      by : (r : Result StudyCommand LineKind) → expected kinds (command names row.text) ≡ r
          → ((c : StudyCommand) → After (before ++ c ∷ []) rows end ≡ Err (record { line = number; kind = kind }) → IsFirstBadLine names rows number kind)
          → IsFirstBadLine names (row ∷ rows) number kind
      by (Ok c) q later =
          let next = lines_taken kinds (command names) before (record { number = row.number; line = row.text }) (texts_seen rows) end c q in
          one_more row rows number kind c (expected_said row.text c q) (later c (sym next ∙ e))
      by (Err k) q later =
          let step = lines_step kinds (command names) before (record { number = row.number; line = row.text }) (texts_seen rows) end in
          let fault : ◌≡◌ {A = Result (List StudyCommand) (FaultAt LineKind)} (Err (record { line = row.number; kind = k })) (Err (record { line = number; kind = kind })) =
          sym (step ∙ (rw q refl)) ∙ e in
          let same = same_fault (record { line = row.number; kind = k }) (record { line = number; kind = kind }) fault in record {
            before = [];
            row = row;
            after = rows;
            rows_are = refl;
            number_is = sym (ap (λ f. f.line) same);
            said = [];
            commands = tt;
            bad = q ∙ ap Err (ap (λ f. f.kind) same);
          }

  line_bad : (before : List StudyCommand) (first : List Row) (row : Row) (after : List Row) (said : List StudyCommand) (end : ℕ) (kind : LineKind)
      → AreCommandLines names (texts_in first) said → expected kinds (command names row.text) ≡ Err kind
      → After before (first ++ row ∷ after) end ≡ Err (record { line = row.number; kind = kind })
  line_bad before [] row after said end kind h bad =
      lines_step kinds (command names) before (record { number = row.number; line = row.text }) (texts_seen after) end ∙ (rw bad refl)
  line_bad before (x ∷ xs) row after [] end kind h bad = absurd h
  line_bad before (x ∷ xs) row after (c ∷ said) end kind h bad =
      lines_taken kinds (command names) before (record { number = x.number; line = x.text }) (texts_seen (xs ++ row ∷ after)) end c (ap (expected kinds) h.0)
      ∙ line_bad (before ++ c ∷ []) xs row after said end kind h.1 bad

  -- ---- looks

  look_below : (words : Words) (c : StudyCommand) → look names words ≡ Ok c → IsBelow (length names) c
  look_below words c e =
      let a = made_of taking (arrival names words) c e in
      let is = arrival_is names words a.0 a.1 in
      subst (IsBelow (length names)) (sym a.2) (place_below is.name names a.0.hypothesis (sym is.name_is))

  below : (line : List ℕ) (c : StudyCommand) → IsCommandLine names line c → IsBelow (length names) c
  below line c e = by (words_after (codes "look") (words_of line)) (words_after (codes "show") (words_of line)) e
    where
      by : (looks shows : Option Words) → either_of (option_map (look names) looks) (option_map show shows) ≡ Some (Ok c) → IsBelow (length names) c
      by (Some words) shows q = look_below words c (some_result (look names words) (Ok c) q)
      by None (Some []) q = subst (IsBelow (length names)) (same_value Show c (some_result (Ok Show) (Ok c) q)) tt
      by None (Some (word ∷ words)) q =
          absurd (let k : ◌≡◌ {A = Result StudyCommand LineKind} (Err WordCount) (Ok c) = some_result (Err WordCount) (Ok c) q in cc)
      by None None q = absurd (cc)

  all_below : (lines : Words) (cs : List StudyCommand) → AreCommandLines names lines cs → AllByRecursion (IsBelow (length names)) cs
  all_below [] [] h = tt
  all_below [] (c ∷ cs) h = absurd h
  all_below (line ∷ lines) [] h = absurd h
  all_below (line ∷ lines) (c ∷ cs) h = (below line c h.0, all_below lines cs h.1)

pub commands_of_lines : CommandsAreOfLines
unfolding commands_of
commands_of_lines names bytes cs =
    let rows = rows_of bytes in
    let read = reading_as kinds (commands names) (texts_seen rows) (end_of bytes) cs in (
      (λ e.
          let d = read.0 e in
          subst (AreCommandLines names (texts_in rows)) (sym d.1) (many_are names [] d.0 rows [] refl d.2)),
      (λ h. read.1 (spelt_document (commands names) (texts_in rows) cs (texts_seen rows)
          (spells_lines (command names) [] (texts_in rows) cs [] h tt) (seen_texts names rows))),
    )

pub faults_of_lines : FaultsAreBadLines
unfolding commands_of
faults_of_lines names bytes number kind = (
  (λ e. bad_line names [] (rows_of bytes) (end_of bytes) number kind e),
  (λ b. ap (λ rs. reading kinds (commands names) (texts_seen rs) (end_of bytes)) b.rows_are
      ∙ line_bad names [] b.before b.row b.after b.said (end_of bytes) kind b.commands b.bad
      ∙ ap (λ n. Err (record { line = n; kind = kind })) (sym b.number_is)),
)

pub faults_first : FaultsAreFirst
faults_first names bytes = (
  faults_end kinds (commands names) (texts_seen (rows_of bytes)) (end_of bytes) (lines_can kinds (command names) []),
  none_is_fault kinds (commands names) (texts_seen (rows_of bytes)) (end_of bytes) (lines_can kinds (command names) []),
)

-- ---- the reader's loop

told_value : (r : Result StudyCommand LineKind) (number : ℕ) (x : StudyCommand) → Ok x ≡ told_as (Line number) r → r ≡ Ok x
told_value (Ok y) number x e = ap Ok (sym (same_value x y e))
told_value (Err k) number x e = absurd (cc e)

-- a line is taken, and its command is said
pub line_taken : (names : Words) (cs : List StudyCommand) (row : Row) (rows : List Row) (end : ℕ) (c : StudyCommand)
    → Ok c ≡ told_as (Line row.number) (expected kinds (command names row.text))
    → reading kinds (more_lines (command names) cs) (texts_seen (row ∷ rows)) end ≡ reading kinds (more_lines (command names) (cs ++ c ∷ [])) (texts_seen rows) end
line_taken names cs row rows end c e =
    lines_taken kinds (command names) cs (record { number = row.number; line = row.text }) (texts_seen rows) end c (told_value _ row.number c e)

value_told : (r : Result (List StudyCommand) (FaultAt LineKind)) (cs : List StudyCommand) → told_as on_line r ≡ Ok cs → r ≡ Ok cs
value_told (Ok ds) cs e = ap Ok (same_value ds cs e)
value_told (Err f) cs e = absurd (cc e)

pub commands_found : (names : Words) (bytes : List ℕ) (cs : List StudyCommand) → told_as on_line (commands_of names bytes) ≡ Ok cs → AreCommands names bytes cs
commands_found names bytes cs e = value_told (commands_of names bytes) cs e

fault_told : (r : Result (List StudyCommand) (FaultAt LineKind)) (number : ℕ) (kind : LineKind) → told_as on_line r ≡ Err (Line number kind)
    → r ≡ Err (record { line = number; kind = kind })
fault_told (Ok ds) number kind e = absurd (cc e)
fault_told (Err f) number kind e =
    let same : Line f.line f.kind ≡ Line number kind = same_fault (Line f.line f.kind) (Line number kind) e in
    let line : f.line ≡ number = cc in
    let why : f.kind ≡ kind = cc in
    ap₂ (λ l k. Err (record { line = l; kind = k })) line why

pub commands_refused : (names : Words) (bytes : List ℕ) (number : ℕ) (kind : LineKind)
    → (Line number kind ≡ NoMemory) ⊎ (told_as on_line (commands_of names bytes) ≡ Err (Line number kind)) → IsFirstFault names bytes number kind
commands_refused names bytes number kind (inl e) = absurd (cc e)
commands_refused names bytes number kind (inr e) = fault_told (commands_of names bytes) number kind e

pub read_below : (names : Words) (bytes : List ℕ) (r : Result (List StudyCommand) CommandsFault) → IsUnless NoMemory r (told_as on_line (commands_of names bytes))
    → IfOk r (AllByRecursion (IsBelow (length names)))
read_below names bytes (Ok cs) h =
    let said = commands_found names bytes cs h in
    all_below names (texts_in (rows_of bytes)) cs ((commands_of_lines names bytes cs).0 said)
read_below names bytes (Err fault) h = tt
