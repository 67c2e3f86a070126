-- The run of a case is the run of its bundle.
use Rattle.std.proofs.Common.{◌≡◌, refl, sym, ap, ◌∙◌, ℕ, List, [], ◌∷◌, length, map, Result, Ok, Err}
use Rattle.field_core.specs.Kind.{Kind, ok_map}
use Rattle.field_core.specs.Steps.{◌>>=◌}
use Rattle.field_core.specs.Laws.Prefixes.{bind_ok, ok_same}
use Rattle.field_core.specs.declared.place.Wide.{Wide}
use Rattle.field_core.specs.declared.place.WideAt.{WideAt}
use Rattle.case_model.specs.Content.{Content}
use Rattle.case_numbers.specs.Numbers.{Numbers, numbers_of, kind_of}
use Rattle.removal.specs.StoredGraph.{StoredGraph}
use Rattle.removal.specs.InTurn.{removed_in_turn}
use Rattle.removal.proofs.WeightsLeft.{turn_end, turn_none, turn_on, turn_first}
use Rattle.entangled.specs.Bundled.{Bundled, removed, removed_together, written_levels}
use Rattle.entangled.specs.BundleRun.{opened_after}
use Rattle.entangled.specs.States.{state_in, graph_in, removal_in}
use Rattle.entangled.specs.Loading.{loaded_states}
use Rattle.entangled.specs.CaseRun.{CaseState, state_of, opening_in, case_opening, case_numbers, case_shares, case_removal}
use Rattle.entangled.specs.CaseAfter.{case_after}

-- what a good result was seen from
mapped_ok : {A B E : Type 0} (f : A → B) (r : Result A E) (y : B) → ok_map f r ≡ Ok y → (x : A) × ((r ≡ Ok x) × (f x ≡ y))
mapped_ok f (Ok x) y h = (x, (refl, cc))
mapped_ok f (Err e) y h = absurd (cc)

module _ (n : Numbers) where
  -- the written removal of these numbers
  abbrev step : Bundled (state_in n) → ℕ → Result (Bundled (state_in n)) WideAt
  step = removed (kind_of n) (graph_in n) (removal_in n)

  one_step : (b : Bundled (state_in n)) (j : ℕ) (s : CaseState) → case_removal (state_of n b) j ≡ Ok s → (d : Bundled (state_in n))
      × ((step b j ≡ Ok d) × (state_of n d ≡ s))
  unfolding case_removal
  one_step b j s h = mapped_ok (state_of n) (step b j) s h

  in_turn : (js : List ℕ) (b : Bundled (state_in n)) (s : CaseState) → removed_in_turn case_removal (state_of n b) js ≡ Ok s
      → (d : Bundled (state_in n)) × ((removed_in_turn step b js ≡ Ok d) × (state_of n d ≡ s))
  in_turn [] b s h = (b, (turn_end step b, turn_none case_removal (state_of n b) s h))
  in_turn (j ∷ js) b s h =
      let r = turn_first case_removal (state_of n b) s j js h in
      let d = one_step b j r.0 r.1.0 in
      let rest = in_turn js d.0 s (ap (λ t. removed_in_turn case_removal t js) d.1.1 ∙ r.1.1) in
      (rest.0, (turn_on step b d.0 rest.0 j js d.1.0 rest.1.0, rest.1.1))

-- no removal changes the numbers and the shares
shares_stay : {S : Type 0} (K : Kind) (graph : S → StoredGraph) (removal : S → ℕ → Result S Wide) (b d : Bundled S) (j : ℕ)
    → removed K graph removal b j ≡ Ok d → d.shares ≡ b.shares
unfolding removed
shares_stay K graph removal b d j h =
    let a = bind_ok (removed_together removal b.states j) _ d h in
    let l = bind_ok (written_levels K graph a.0 b.shares) _ d a.1.1 in
    let same : record { states = a.0; shares = b.shares; levels = l.0 } ≡ d = ok_same (Ok d) _ d (sym l.1.1) refl in
    ap (λ d. d.shares) (sym same)

pub numbers_stay : (s t : CaseState) (j : ℕ) → case_removal s j ≡ Ok t → case_numbers t ≡ case_numbers s
numbers_stay (state_of n b) t j h = ap case_numbers (sym (one_step n b j t h).1.1)

pub case_shares_stay : (s t : CaseState) (j : ℕ) → case_removal s j ≡ Ok t → case_shares t ≡ case_shares s
case_shares_stay (state_of n b) t j h =
    let d = one_step n b j t h in
    ap case_shares (sym d.1.1) ∙ shares_stay (kind_of n) (graph_in n) (removal_in n) b d.0 j d.1.0

-- the run of the bundle of a case
pub record IsRunOf (c : Content) (js : List ℕ) (s : CaseState) : Type 0 where
  pub states : List (state_in (numbers_of c))
  pub loaded : loaded_states (numbers_of c) (length c.names) c.components ≡ Ok states
  pub last : Bundled (state_in (numbers_of c))
  pub run : opened_after (kind_of (numbers_of c)) (graph_in (numbers_of c)) (removal_in (numbers_of c)) states (map (λ k. k.share) c.components) js ≡ Ok last
  pub is : state_of (numbers_of c) last ≡ s

start : (c : Content) (s : CaseState) → case_opening c ≡ Ok s → (b : Bundled (state_in (numbers_of c)))
    × ((opening_in (numbers_of c) c ≡ Ok b) × (state_of (numbers_of c) b ≡ s))
unfolding case_opening
start c s h = mapped_ok (state_of (numbers_of c)) (opening_in (numbers_of c) c) s h

pub is_run : (c : Content) (js : List ℕ) (s : CaseState) → case_after c js ≡ Ok s → IsRunOf c js s
unfolding case_after opening_in opened_after
is_run c js s h =
    let n = numbers_of c in
    let a = bind_ok (case_opening c) _ s h in
    let b = start c a.0 a.1.0 in
    let loaded = bind_ok (loaded_states n (length c.names) c.components) _ b.0 b.1.0 in
    let rest = in_turn n js b.0 s (ap (λ t. removed_in_turn case_removal t js) b.1.1 ∙ a.1.1) in
    record {
      states = loaded.0;
      loaded = loaded.1.0;
      last = rest.0;
      run = ap (λ r. r >>= (λ b. removed_in_turn (step n) b js)) loaded.1.1 ∙ rest.1.0;
      is = rest.1.1;
    }
