-- Texts of lines, line by line.
use Rattle.std.proofs.Common.{◌≡◌, refl, sym, ap, ap₂, ◌∙◌, ℕ, ◌+◌, ◌/◌, ◌%◌, ◌<◌, ◌≤◌, ◌&&◌, Bool, true, false}
use Rattle.std.proofs.Common.{if◌then◌else◌, List, [], ◌∷◌, ◌++◌, length, map, get_or, drop, append_assoc, append-nil}
use Rattle.std.specs.List.{flat_map, list_all}
use Rattle.std.proofs.Math.ListN.{drop_of_length-le}
use Rattle.std.proofs.lemmas.Grind.{flat_map-append}
use Rattle.std.proofs.lemmas.List.{drop_more}
use Rattle.field_core.specs.declared.ratio.Ratio.{Ratio}
use Rattle.case_model.specs.declared.draft_stages.Arrival.{Arrival}
use Rattle.case_model.specs.declared.spend.Spend.{Spend}
use Rattle.case_model.specs.Draft.{arrives_among, is_p_value, is_stage}
use Rattle.case_model.specs.declared.component.Component.{Component}
use Rattle.case_model.specs.Content.{Content, is_arrival}
use Rattle.case_model.proofs.Holding.{both}
use Rattle.case_model.specs.Entries.{is_zero_entry}
use Rattle.text_lines.specs.Spelling.{text_of}
use Rattle.edge_text.specs.Grammar.{Words}
use Rattle.edge_text.specs.CanonicalText.{alpha_words, names_words, share_words, weights_words, edge_words, edge_lines, table_lines, share_lines}
use Rattle.edge_text.specs.CanonicalText.{block_lines, blocks_lines, spend_lines, spends_lines, p_lines, late_lines, canonical_lines, canonical_text}
use Rattle.edge_text.specs.View.{line_of}

pub text_none : text_of [] ≡ []
unfolding text_of
text_none = refl

pub text_cons : (words : Words) (lines : List Words) → text_of (words ∷ lines) ≡ line_of words ++ text_of lines
unfolding text_of
text_cons words lines = refl

pub text_append : (xs ys : List Words) → text_of (xs ++ ys) ≡ text_of xs ++ text_of ys
unfolding text_of
text_append xs ys = flat_map-append line_of xs ys

pub text_one : (words : Words) → text_of (words ∷ []) ≡ line_of words
text_one words = text_cons words [] ∙ ap (λ t. line_of words ++ t) text_none ∙ append-nil (line_of words)

-- ---- one item more

-- what is put in front of a rest
pub moved : (start text new part rest whole : List ℕ) → text ++ whole ≡ start → whole ≡ part ++ rest → new ≡ text ++ part
    → new ++ rest ≡ start
moved start text new part rest whole e w n = ap (λ t. t ++ rest) n ∙ append_assoc text part rest ∙ ap (λ t. text ++ t) (sym w) ∙ e

-- the item at a place is this one
pub drop_item : {A : Type 0} (xs : List A) (n : ℕ) (x : A) → n < length xs → x ≡ get_or xs n x → drop n xs ≡ x ∷ drop (n + 1) xs
drop_item xs n x h e = drop_more xs n x h ∙ ap (λ y. y ∷ drop (n + 1) xs) (sym e)

pub line_next : {A : Type 0} (f : A → Words) (xs : List A) (n : ℕ) (x : A) (start text new : List ℕ) → n < length xs → x ≡ get_or xs n x
    → text ++ text_of (map f (drop n xs)) ≡ start → new ≡ text ++ line_of (f x) → new ++ text_of (map f (drop (n + 1) xs)) ≡ start
line_next f xs n x start text new h i e p =
    moved start text new (line_of (f x)) (text_of (map f (drop (n + 1) xs))) (text_of (map f (drop n xs))) e
    (ap (λ ys. text_of (map f ys)) (drop_item xs n x h i) ∙ text_cons (f x) (map f (drop (n + 1) xs))) p

pub lines_next : {A : Type 0} (f : A → List Words) (xs : List A) (n : ℕ) (x : A) (start text new : List ℕ) → n < length xs → x ≡ get_or xs n x
    → text ++ text_of (flat_map f (drop n xs)) ≡ start → new ≡ text ++ text_of (f x) → new ++ text_of (flat_map f (drop (n + 1) xs)) ≡ start
lines_next f xs n x start text new h i e p =
    moved start text new (text_of (f x)) (text_of (flat_map f (drop (n + 1) xs))) (text_of (flat_map f (drop n xs))) e
    (ap (λ ys. text_of (flat_map f ys)) (drop_item xs n x h i) ∙ text_append (f x) (flat_map f (drop (n + 1) xs))) p

pub edge_next : (names : List (List ℕ)) (table : List (List Ratio)) (n : ℕ) (x : List Ratio) (start text new : List ℕ) → n < length table
    → x ≡ get_or table n x
    → text ++ text_of (table_lines names n (drop n table)) ≡ start → new ≡ text ++ text_of (edge_lines names n x)
    → new ++ text_of (table_lines names (n + 1) (drop (n + 1) table)) ≡ start
edge_next names table n x start text new h i e p =
    moved start text new (text_of (edge_lines names n x)) (text_of (table_lines names (n + 1) (drop (n + 1) table)))
    (text_of (table_lines names n (drop n table))) e
    (ap (λ ys. text_of (table_lines names n ys)) (drop_item table n x h i)
    ∙ text_append (edge_lines names n x) (table_lines names (n + 1) (drop (n + 1) table))) p

pub spend_next : (names : List (List ℕ)) (spends : List Spend) (n : ℕ) (name : List ℕ) (spend : Spend) (start text new : List ℕ)
    → n < length names → n < length spends
    → name ≡ get_or names n name → spend ≡ get_or spends n spend
    → text ++ text_of (spends_lines (drop n names) (drop n spends)) ≡ start → new ≡ text ++ text_of (spend_lines name spend)
    → new ++ text_of (spends_lines (drop (n + 1) names) (drop (n + 1) spends)) ≡ start
spend_next names spends n name spend start text new h k i j e p =
    moved start text new (text_of (spend_lines name spend)) (text_of (spends_lines (drop (n + 1) names) (drop (n + 1) spends)))
    (text_of (spends_lines (drop n names) (drop n spends))) e
    (ap₂ (λ xs ys. text_of (spends_lines xs ys)) (drop_item names n name h i) (drop_item spends n spend k j)
    ∙ text_append (spend_lines name spend) (spends_lines (drop (n + 1) names) (drop (n + 1) spends))) p

-- ---- no item more

pub ended : (text rest start : List ℕ) → rest ≡ [] → text ++ rest ≡ start → text ≡ start
ended text rest start n e = sym (append-nil text) ∙ ap (λ r. text ++ r) (sym n) ∙ e

pub lines_end : {A : Type 0} (f : List A → List Words) → f [] ≡ [] → (xs : List A) (n : ℕ) (start text : List ℕ) → length xs ≤ n
    → text ++ text_of (f (drop n xs)) ≡ start → text ≡ start
lines_end f z xs n start text h e = ended text (text_of (f (drop n xs))) start
    (ap (λ ys. text_of (f ys)) (drop_of_length-le xs h) ∙ ap text_of z ∙ text_none) e

pub spends_end : (names : List (List ℕ)) (spends : List Spend) (n : ℕ) (start text : List ℕ) → length names ≤ n
    → text ++ text_of (spends_lines (drop n names) (drop n spends)) ≡ start → text ≡ start
spends_end names spends n start text h e = lines_end (λ xs. spends_lines xs (drop n spends)) refl names n start text h e

-- ---- arrivals of hypotheses

pub known : (m count : ℕ) (arrivals : List Arrival) → list_all (is_arrival m count) arrivals ≡ true → list_all (arrives_among m) arrivals ≡ true
known m count [] h = refl
known m count (a ∷ more) h =
    let w = both (is_arrival m count a) (list_all (is_arrival m count) more) h in
    let u = both (arrives_among m a && is_stage count a.stage) (is_p_value a.p) w.left in
    let v = both (arrives_among m a) (is_stage count a.stage) u.left in
    ap₂ (λ x y. x && y) v.left (known m count more w.right)

-- three pieces of a text
pub three : (start text new a b c : List ℕ) → text ≡ (start ++ a) ++ b → new ≡ text ++ c → new ≡ start ++ (a ++ (b ++ c))
three start text new a b c e n = n ∙ ap (λ t. t ++ c) e ∙ append_assoc (start ++ a) b c ∙ append_assoc start a (b ++ c)

-- ---- lines that may be left out

pub nothing : (text : List ℕ) → text ≡ text ++ text_of []
nothing text = sym (append-nil text) ∙ ap (λ t. text ++ t) (sym text_none)

pub edge_none : (names : List (List ℕ)) (place : ℕ) (entry : List Ratio) (text : List ℕ) → is_zero_entry entry ≡ true
    → text ≡ text ++ text_of (edge_lines names place entry)
unfolding edge_lines
edge_none names place entry text e =
    nothing text ∙ ap (λ b. text ++ text_of (if b then [] else edge_words names (place / length names) (place % length names) entry ∷ [])) (sym e)

pub edge_some : (names : List (List ℕ)) (place : ℕ) (entry : List Ratio) → is_zero_entry entry ≡ false
    → line_of (edge_words names (place / length names) (place % length names) entry) ≡ text_of (edge_lines names place entry)
unfolding edge_lines
edge_some names place entry e =
    let words = edge_words names (place / length names) (place % length names) entry in
    sym (text_one words) ∙ ap (λ b. text_of (if b then [] else words ∷ [])) (sym e)

pub share_none : (alone : Bool) (share : Ratio) (text : List ℕ) → alone ≡ true → text ≡ text ++ text_of (share_lines alone share)
share_none alone share text e = nothing text ∙ ap (λ b. text ++ text_of (share_lines b share)) (sym e)

pub share_some : (alone : Bool) (share : Ratio) → alone ≡ false → line_of (share_words share) ≡ text_of (share_lines alone share)
share_some alone share e = sym (text_one (share_words share)) ∙ ap (λ b. text_of (share_lines b share)) (sym e)

-- ---- components and cases

pub block_text : (names : List (List ℕ)) (alone : Bool) (k : Component)
    → text_of (block_lines names alone k) ≡ text_of
    (share_lines alone k.share) ++ (line_of (weights_words k.weights) ++ text_of (table_lines names 0 k.edges))
unfolding block_lines
block_text names alone k =
    text_append (share_lines alone k.share) (weights_words k.weights ∷ table_lines names 0 k.edges)
    ∙ ap (λ t. text_of (share_lines alone k.share) ++ t) (text_cons (weights_words k.weights) (table_lines names 0 k.edges))

pub whole_text : (c : Content) (t0 t1 t2 t3 t4 t5 : List ℕ) → t0 ≡ [] → t1 ≡ t0 ++ line_of (alpha_words c.alpha)
    → t2 ≡ t1 ++ line_of (names_words c.names)
    → t3 ≡ t2 ++ text_of (p_lines c.inputs) → t4 ≡ t3 ++ text_of (blocks_lines c.names c.components)
    → t5 ≡ t4 ++ text_of (late_lines c.names c.inputs)
    → t5 ≡ canonical_text c
unfolding canonical_text canonical_lines
whole_text c t0 t1 t2 t3 t4 t5 e0 e1 e2 e3 e4 e5 =
    let a = line_of (alpha_words c.alpha) in
    let n = line_of (names_words c.names) in
    let p = text_of (p_lines c.inputs) in
    let b = text_of (blocks_lines c.names c.components) in
    let l = text_of (late_lines c.names c.inputs) in
    let first : t1 ≡ a = e1 ∙ ap (λ t. t ++ a) e0 in
    let second : t2 ≡ a ++ n = e2 ∙ ap (λ t. t ++ n) first in
    let third : t3 ≡ (a ++ n) ++ p = e3 ∙ ap (λ t. t ++ p) second in
    let fourth : t4 ≡ (a ++ n) ++ (p ++ b) = e4 ∙ ap (λ t. t ++ b) third ∙ append_assoc (a ++ n) p b in
    let fifth : t5 ≡ (a ++ n) ++ (p ++ (b ++ l)) = e5 ∙ ap (λ t. t ++ l) fourth ∙ append_assoc (a ++ n) (p ++ b) l
    ∙ ap (λ t. (a ++ n) ++ t) (append_assoc p b l) in
    let rest : text_of (p_lines c.inputs ++ (blocks_lines c.names c.components ++ late_lines c.names c.inputs)) ≡ p ++ (b ++ l) =
    text_append (p_lines c.inputs) (blocks_lines c.names c.components ++ late_lines c.names c.inputs)
    ∙ ap (λ t. p ++ t) (text_append (blocks_lines c.names c.components) (late_lines c.names c.inputs)) in
    fifth ∙ append_assoc a n (p ++ (b ++ l)) ∙ ap (λ t. a ++ (n ++ t)) (sym rest)
    ∙ ap (λ t. a ++ t) (sym (text_cons (names_words c.names) (p_lines c.inputs ++ (blocks_lines c.names c.components ++ late_lines c.names c.inputs))))
    ∙ sym (text_cons (alpha_words c.alpha) (names_words c.names ∷ p_lines c.inputs ++ (blocks_lines c.names c.components ++ late_lines c.names c.inputs)))
