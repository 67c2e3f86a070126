-- The states of a flow run.
use Rattle.std.proofs.Common.{◌≡◌, ◌≢◌, inl, inr, refl, sym, ap, subst, ◌∙◌, ℕ, zero, suc, ◌<◌, Bool, true, false, not, List, []}
use Rattle.std.proofs.Common.{Result, Ok, get_or, set, length-set, replicate, arith}
use Rattle.std.proofs.lemmas.List.{get_or-set_same, get_or-set_other, get_or-replicate, length-replicate}
use Rattle.std.proofs.lemmas.List.FromFn.{get_or-map-range_with_len}
use Rattle.field_core.specs.declared.place.Wide.{Wide}
use Rattle.field_core.specs.Number.{Number}
use Rattle.field_core.specs.NumberField.{number_field}
use Rattle.field_core.specs.Laws.NumberFieldLaws.{field_zero, field_one}
use Rattle.field_core.specs.Graph.{Graph, IsValid}
use Rattle.field_core.specs.Removal.{without}
use Rattle.field_core.specs.Sums.{unit}
use Rattle.field_core.specs.Sets.{IsIn, dropping, whole, set_of}
use Rattle.field_core.specs.Flows.{into}
use Rattle.field_core.specs.Runs.{through, Flows, Exits}
use Rattle.field_core.proofs.FieldLaws.{ring, add_zero}
use Rattle.field_core.proofs.Orders.{le_add}
use Rattle.field_core.proofs.SumLaws.{unit_same, unit_other, unit_nonneg}
use Rattle.field_core.proofs.Dots.{dot_zero, zero_dot, unit_dot}
use Rattle.field_core.proofs.Settled.{flow_after, rows_after, exits_after}
use Rattle.field_core.proofs.FlowSteps.{flows_step}
use Rattle.field_core.proofs.ExitSteps.{exits_step}
use Rattle.field_core.proofs.RemovalLaws.{same_or_not}
use Rattle.field_core.specs.Kind.{Parts, Kind}
use Rattle.field_core.specs.Exact.{IsExact, value_of}
use Rattle.field_core.specs.Steps.{each_below}
use Rattle.removal.specs.StoredGraph.{StoredGraph, size}
use Rattle.field_core.specs.Laws.Prefixes.{bind_ok, ok_same, each_get}
use Rattle.evidence_check.specs.EvidenceParts.{numbers_at}
use Rattle.evidence.specs.FlowTables.{Tables, row, first_tables, if_wanted, new_flows, new_visits, new_exits, new_tables}
use Rattle.evidence.proofs.TableSteps.{HasRow, Shows, flows_hold, visits_hold, exits_hold}

-- what is wanted is written, and what isn't stays
wanted : {A E : Type 0} (old x : A) (r : Result A E) → if_wanted true old r ≡ Ok x → r ≡ Ok x
wanted old x r h = h

module _ (K : Kind) (IsStored : Parts → Type 0) (X : IsExact K IsStored) (m : ℕ) where
  -- the tables hold flows and what each remaining hypothesis sends, by value
  pub record HoldFlows (A : Graph Number) (I : ℕ → Bool) (now : Graph Number) (t : Tables) : Type 0 where
    pub y : ℕ → Number
    pub z : ℕ → ℕ → Number
    pub flows : Flows number_field m A I now y z
    pub through : HasRow K IsStored X m t.flows y
    pub sent : (l : ℕ) → IsIn m I l → HasRow K IsStored X m (row t.visits l) (z l)

  -- the tables hold exits to each remaining hypothesis, by value
  pub record HoldExits (A : Graph Number) (I : ℕ → Bool) (now : Graph Number) (t : Tables) : Type 0 where
    pub H : ℕ → ℕ → Number
    pub exits : Exits number_field m A I now H
    pub into : (k : ℕ) → IsIn m I k → HasRow K IsStored X m (row t.exits k) (H k)

  -- ---- the opening

  exits_start : (A : Graph Number) → IsValid number_field m A → Exits number_field m A whole A (λ _ _. number_field.𝟘)
  unfolding through
  exits_start A V = record {
    nonneg = λ k r _. number_field.le_refl number_field.𝟘;
    elsewhere = λ k r _. refl;
    solves = λ k r _ e. absurd (cc);
    weight = λ k p. rw (dot_zero number_field m A.weight) (sym (add_zero number_field (A.weight k)));
    edge = λ l k p q h. rw (through, dot_zero number_field m (A.edge l), V.no_loop l p.below) (simp ring);
  }

  flows_start : (A : Graph Number) → IsValid number_field m A → Flows number_field m A whole A (λ _. number_field.𝟘) (unit number_field)
  flows_start A V = record {
    flow = record {
      nonneg = λ r _. number_field.le_refl number_field.𝟘;
      within = λ r p. rw (zero_dot number_field m (into number_field A r), add_zero number_field (A.weight r)) (V.weight_nonneg r p);
    };
    elsewhere = λ r _. refl;
    weight = λ l p. rw (zero_dot number_field m (into number_field A l)) (sym (add_zero number_field (A.weight l)));
    row_flow = λ l p. record {
      nonneg = λ r _. unit_nonneg number_field l r;
      within = λ r q. rw (unit_dot number_field m (into number_field A r) l p.below) (le_add number_field _ _ (V.edge_nonneg l r p.below q));
    };
    row_elsewhere = λ l r _ h. unit_other number_field l r h;
    edge = λ l k p q h. sym (unit_dot number_field m (into number_field A k) l p.below);
  }

  zeros : (n r : ℕ) → get_or (replicate n K.zero) r K.zero ≡ K.zero
  zeros zero zero = refl
  zeros zero (suc r) = refl
  zeros (suc n) zero = refl
  zeros (suc n) (suc r) = zeros n r

  zero_row : HasRow K IsStored X m (replicate m K.zero) (λ _. number_field.𝟘)
  unfolding numbers_at
  zero_row = record {
    count = length-replicate m K.zero;
    stored = λ r. subst IsStored (sym (zeros m r)) X.zero_stored;
    value = λ r. ap value_of (zeros m r) ∙ X.zero_value ∙ sym field_zero;
  }

  unit_row : (l : ℕ) → l < m → HasRow K IsStored X m (set (replicate m K.zero) l K.one) (unit number_field l)
  unfolding numbers_at
  unit_row l p = record {
    count = length-set (replicate m K.zero) l K.one ∙ length-replicate m K.zero;
    stored = λ r. elim (same_or_not r l) [
      | inl e ↦ subst IsStored (sym (here r e)) X.one_stored
      | inr n ↦ subst IsStored (sym (elsewhere r n)) X.zero_stored
    ];
    value = λ r. elim (same_or_not r l) [
      | inl e ↦ ap value_of (here r e) ∙ X.one_value ∙ sym field_one ∙ sym (ap (unit number_field l) e ∙ unit_same number_field l)
      | inr n ↦ ap value_of (elsewhere r n) ∙ X.zero_value ∙ sym field_zero ∙ sym (unit_other number_field l r (λ e. n (sym e)))
    ];
  }
    where
      here : (r : ℕ) → r ≡ l → get_or (set (replicate m K.zero) l K.one) r K.zero ≡ K.one
      here r e = ap (λ i. get_or (set (replicate m K.zero) l K.one) i K.zero) e
          ∙ get_or-set_same (replicate m K.zero) l K.one K.zero (subst (λ n. l < n) (sym (length-replicate m K.zero)) p)

      elsewhere : (r : ℕ) → r ≢ l → get_or (set (replicate m K.zero) l K.one) r K.zero ≡ K.zero
      elsewhere r n = get_or-set_other (replicate m K.zero) l r K.one K.zero n ∙ zeros m r

  pub first_flows : (A : Graph Number) → IsValid number_field m A → HoldFlows A whole A (first_tables K m)
  unfolding first_tables
  first_flows A V = record {
    y = λ _. number_field.𝟘;
    z = unit number_field;
    flows = flows_start A V;
    through = zero_row;
    sent = λ l p. subst (λ xs. HasRow K IsStored X m xs (unit number_field l))
        (sym (get_or-map-range_with_len (λ l. set (replicate m K.zero) l K.one) 0 m l l [] p.below (omega arith))) (unit_row l p.below);
  }

  pub first_exits : (A : Graph Number) → IsValid number_field m A → HoldExits A whole A (first_tables K m)
  unfolding first_tables
  first_exits A V = record {
    H = λ _ _. number_field.𝟘;
    exits = exits_start A V;
    into = λ k p. subst (λ xs. HasRow K IsStored X m xs (λ _. number_field.𝟘)) (sym (get_or-replicate m k (replicate m K.zero) [] p.below)) zero_row;
  }

  -- ---- one step

  module _ (G : StoredGraph) (t u : Tables) (earlier : List ℕ) (j : ℕ) where
    -- what a step that isn't refused did
    pub record StepsTo (is_last is_kept : Bool) : Type 0 where
      pub flows : if_wanted (not is_last) t.flows (new_flows K G j earlier t.visits t.flows) ≡ Ok u.flows
      pub visits : if_wanted (not is_last) t.visits (each_below (size G) (new_visits K G j earlier t.visits)) ≡ Ok u.visits
      pub exits : if_wanted is_kept t.exits (each_below (size G) (new_exits K G j earlier t.exits)) ≡ Ok u.exits

    pub steps_to : (is_last is_kept : Bool) → new_tables K G j earlier t is_last is_kept ≡ Ok u → StepsTo is_last is_kept
    unfolding new_tables
    steps_to is_last is_kept h =
        let a = bind_ok (if_wanted (not is_last) t.flows (new_flows K G j earlier t.visits t.flows)) _ u h in
        let b = bind_ok (if_wanted (not is_last) t.visits (each_below (size G) (new_visits K G j earlier t.visits))) _ u a.1.1 in
        let c = bind_ok (if_wanted is_kept t.exits (each_below (size G) (new_exits K G j earlier t.exits))) _ u b.1.1 in
        let e : record { flows = a.0; visits = b.0; exits = c.0 } ≡ u = ok_same (Ok u) _ u (sym c.1.1) refl in
        record {
          flows = a.1.0 ∙ ap (λ v. Ok v.flows) e;
          visits = b.1.0 ∙ ap (λ v. Ok v.visits) e;
          exits = c.1.0 ∙ ap (λ v. Ok v.exits) e;
        }

    module _ (A : Graph Number) (I : ℕ → Bool) (now : Graph Number) (S : Shows K IsStored X m I now G) (V : IsValid number_field m now) (J : IsIn m I j)
        (below : (r : ℕ) → set_of earlier r ≡ true → r < m) (gone : (r : ℕ) → set_of earlier r ≡ true → I r ≡ false)
        (rest_in : (r : ℕ) → set_of earlier r ≡ false → I r ≡ true) where
      row_given : (f : ℕ → Result (List Parts) Wide) (xs : List (List Parts)) (l : ℕ) → each_below (size G) f ≡ Ok xs → l < m
          → f l ≡ Ok (row xs l)
      row_given f xs l h p = each_get (size G) f xs h [] l (subst (λ n. l < n) (sym S.same_size) p)

      pub flows_go_on : (is_kept : Bool) → StepsTo false is_kept → HoldFlows A I now t → HoldFlows A (dropping j I) (without number_field now j) u
      flows_go_on is_kept T F = record {
        y = flow_after number_field F.y F.z now j;
        z = rows_after number_field F.z now j;
        flows = flows_step number_field m A I now F.y F.z F.flows V j J;
        through = flows_hold K IsStored X m I now G S t earlier j J below gone rest_in A F.y F.z F.flows F.through F.sent u.flows T.flows;
        sent = λ l L. visits_hold K IsStored X m I now G S t earlier j J below gone rest_in A F.y F.z F.flows F.through F.sent l L (row u.visits l)
            (row_given (new_visits K G j earlier t.visits) u.visits l T.visits L.below);
      }

      pub exits_go_on : (is_last : Bool) → StepsTo is_last true → HoldExits A I now t → HoldExits A (dropping j I) (without number_field now j) u
      exits_go_on is_last T F = record {
        H = exits_after number_field F.H now j;
        exits = exits_step number_field m A I now F.H F.exits V j J;
        into = λ k L. exits_hold K IsStored X m I now G S t earlier j J below gone rest_in A F.H F.exits F.into k L (row u.exits k)
            (row_given (new_exits K G j earlier t.exits) u.exits k T.exits L.below);
      }
