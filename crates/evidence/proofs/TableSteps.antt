-- By value, the written tables follow the flows and exits of the graph.
use Rattle.std.proofs.Common.{◌≡◌, ◌≢◌, ◌⊎◌, inl, inr, refl, sym, ap, ap₂, subst, ◌∙◌, ℕ, zero, suc, ◌<◌, Bool, true, false}
use Rattle.std.proofs.Common.{List, [], ◌∷◌, ◌++◌, Option, Some, None, Result, Ok, length, get_or, set, length-set, map, arith}
use Rattle.std.proofs.lemmas.List.{get_or-set_same, get_or-set_other, length-map}
use Rattle.std.proofs.lemmas.Bool.Decides.{nat_tests}
use Rattle.field_core.specs.declared.place.Op.TheVariants.{Add, Mul, Div}
use Rattle.field_core.specs.declared.place.Wide.{Wide}
use Rattle.field_core.specs.Number.{Number}
use Rattle.field_core.specs.Arithmetic.{number_zero, number_one, ◌+ε◌, ◌-ε◌, ◌*ε◌, ◌/ε◌}
use Rattle.field_core.specs.NumberField.{number_field}
use Rattle.field_core.specs.Graph.{Graph}
use Rattle.field_core.specs.Sets.{IsIn, dropping, set_of}
use Rattle.field_core.specs.Sums.{unit}
use Rattle.field_core.specs.Runs.{Flows, Exits}
use Rattle.field_core.proofs.Settled.{flow_after, rows_after, exits_after}
use Rattle.field_core.proofs.Live.{true_or_false, live_before, live_other, dropping_other}
use Rattle.field_core.proofs.RemovalLaws.{same_or_not}
use Rattle.field_core.proofs.Agreement.{left_over_written}
use Rattle.field_core.proofs.SumLaws.{unit_same, unit_other}
use Rattle.field_core.specs.Laws.Order.{number_multiply_zero, number_zero_multiply, number_laws}
use Rattle.field_core.specs.Laws.NumberLaws.{number_add_zero}
use Rattle.field_core.specs.Kind.{Parts, Kind}
use Rattle.field_core.specs.Exact.{IsExact, value_of}
use Rattle.field_core.specs.Steps.{◌>>=◌}
use Rattle.removal.specs.StoredGraph.{StoredGraph, size, is_live, weight, edge}
use Rattle.removal.specs.ByValue.{graph_of, AreStored}
use Rattle.removal.specs.WrittenRemoval.{is_gone, divisor}
use Rattle.field_core.specs.Laws.Prefixes.{bind_ok, ok_same, step_ok, at_ok}
use Rattle.field_core.specs.Exact.{Gives}
use Rattle.removal.specs.Laws.WrittenValues.{divide_zero, rest, DivisorIs, divisor_value}
use Rattle.removal.specs.Laws.Seen.{weight_in, edge_in, stays_live}
use Rattle.evidence_check.specs.EvidenceParts.{numbers_at}
use Rattle.evidence.specs.FlowTables.{Tables, row, put_each, new_flow, new_flows, new_visit, new_visits_by, new_visits, new_exit, new_exits}
use Rattle.evidence.proofs.Puts.{put_length, put_other, put_at}

module _ (K : Kind) (IsStored : Parts → Type 0) (X : IsExact K IsStored) (m : ℕ) where
  -- a list of `m` stored numbers with these values
  pub record HasRow (xs : List Parts) (v : ℕ → Number) : Type 0 where
    pub count : length xs ≡ m
    pub stored : (r : ℕ) → IsStored (numbers_at K xs r)
    pub value : (r : ℕ) → value_of (numbers_at K xs r) ≡ v r

  -- the graph of a component with the members of `I` remaining, by value
  pub record Shows (I : ℕ → Bool) (now : Graph Number) (G : StoredGraph) : Type 0 where
    pub same_size : size G ≡ m
    pub live : (i : ℕ) → i < m → is_live G i ≡ I i
    pub value : graph_of K G ≡ now
    pub stored : AreStored K IsStored G

  pub row_put : (f : ℕ → Result Parts Wide) (rs : List ℕ) (xs ys : List Parts) (v w : ℕ → Number) → HasRow xs v → put_each f rs xs ≡ Ok ys
      → ((r : ℕ) → set_of rs r ≡ true → r < m) → ((r : ℕ) (x : Parts) → set_of rs r ≡ true → f r ≡ Ok x → Gives IsStored x (w r))
      → ((r : ℕ) → set_of rs r ≡ false → v r ≡ w r) → HasRow ys w
  unfolding numbers_at
  row_put f rs xs ys v w H e below gives same = record {
    count = put_length f rs xs ys e ∙ H.count;
    stored = λ r. elim (true_or_false (set_of rs r)) [
      | inl h ↦ (gives r _ h (put_at f rs xs ys K.zero r e (subst (λ n. r < n) (sym H.count) (below r h)) h)).stored
      | inr h ↦ subst IsStored (sym (put_other f rs xs ys K.zero r e h)) (H.stored r)
    ];
    value = λ r. elim (true_or_false (set_of rs r)) [
      | inl h ↦ (gives r _ h (put_at f rs xs ys K.zero r e (subst (λ n. r < n) (sym H.count) (below r h)) h)).value
      | inr h ↦ ap value_of (put_other f rs xs ys K.zero r e h) ∙ H.value r ∙ same r h
    ];
  }

  module _ (I : ℕ → Bool) (now : Graph Number) (G : StoredGraph) (S : Shows I now G) where
    weight_now : (k : ℕ) → IsIn m I k → Gives IsStored (weight K G k) (now.weight k)
    weight_now k p = record {
      stored = S.stored.weights k (subst (λ n. k < n) (sym S.same_size) p.below);
      value = sym (weight_in K G k (S.live k p.below ∙ p.member)) ∙ ap (λ A. A.weight k) S.value;
    }

    edge_now : (l k : ℕ) → IsIn m I l → IsIn m I k → l ≢ k → Gives IsStored (edge K G l k) (now.edge l k)
    edge_now l k p q n = record {
      stored = S.stored.edges l k (subst (λ n. l < n) (sym S.same_size) p.below) (subst (λ n. k < n) (sym S.same_size) q.below);
      value = sym (edge_in K G l k (S.live l p.below ∙ p.member) (S.live k q.below ∙ q.member) n) ∙ ap (λ A. A.edge l k) S.value;
    }

    stays : (j l : ℕ) → IsIn m (dropping j I) l → is_gone G j l ≡ false
    stays j l p = stays_live G j l (dropping_other j (is_live G) l (live_other j I p) ∙ S.live l p.below ∙ (live_before j I p).member)

    module _ (t : Tables) (earlier : List ℕ) (j : ℕ) (J : IsIn m I j) (below : (r : ℕ) → set_of earlier r ≡ true → r < m)
        (gone : (r : ℕ) → set_of earlier r ≡ true → I r ≡ false) (rest_in : (r : ℕ) → set_of earlier r ≡ false → I r ≡ true) where
      -- ---- lists of hypotheses with a few more

      more_true : (rs ks : List ℕ) (r : ℕ) → set_of (rs ++ ks) r ≡ true → (set_of rs r ≡ true) ⊎ (set_of ks r ≡ true)
      more_true [] ks r h = inr h
      more_true (i ∷ rs) ks r h = elim (same_or_not r i) [
        | inl e ↦ inl (grind (arith, nat_tests))
        | inr n ↦ elim (more_true rs ks r (grind (arith, nat_tests))) [ inl a ↦ inl (grind (arith, nat_tests)) | inr a ↦ inr a ]
      ]

      left_false : (rs ks : List ℕ) (r : ℕ) → set_of (rs ++ ks) r ≡ false → set_of rs r ≡ false
      left_false [] ks r h = refl
      left_false (i ∷ rs) ks r h = let a : set_of (rs ++ ks) r ≡ false = grind (arith, nat_tests) in let b =
          left_false rs ks r a in grind (arith, nat_tests)

      right_false : (rs ks : List ℕ) (r : ℕ) → set_of (rs ++ ks) r ≡ false → set_of ks r ≡ false
      right_false [] ks r h = h
      right_false (i ∷ rs) ks r h = right_false rs ks r (grind (arith, nat_tests))

      one_true : (i r : ℕ) → set_of (i ∷ []) r ≡ true → r ≡ i
      one_true i r h = grind (arith, nat_tests)

      one_false : (i r : ℕ) (rs : List ℕ) → set_of (i ∷ rs) r ≡ false → i ≢ r
      one_false i r rs h = grind (arith, nat_tests)

      two_true : (i l r : ℕ) → set_of (i ∷ l ∷ []) r ≡ true → (r ≡ i) ⊎ (r ≡ l)
      two_true i l r h = grind (arith, nat_tests)

      -- ---- flows

      module _ (A : Graph Number) (y : ℕ → Number) (z : ℕ → ℕ → Number) (F : Flows number_field m A I now y z) (Y : HasRow t.flows y)
          (Z : (l : ℕ) → IsIn m I l → HasRow (row t.visits l) (z l)) where
        flow_after_is : (r : ℕ) → flow_after number_field y z now j r ≡ y r +ε now.weight j *ε z j r
        unfolding flow_after number_field
        flow_after_is r = refl

        new_flow_gives : (r : ℕ) (x : Parts) → new_flow K G j (row t.visits j) t.flows r ≡ Ok x → Gives IsStored x (flow_after number_field y z now j r)
        unfolding new_flow
        new_flow_gives r x h =
            let a = step_ok _ _ _ _ x h in
            let b = at_ok _ _ _ x a.1.1 in
            let w = weight_now j J in
            let V = Z j J in
            let s = X.stored Mul _ _ a.0 w.stored (V.stored r) tt a.1.0 in
            record {
              stored = X.stored Add _ _ x (Y.stored r) s tt b;
              value = X.exact Add _ _ x (Y.stored r) s tt b ∙ ap₂ ◌+ε◌ (Y.value r)
                  (X.exact Mul _ _ a.0 w.stored (V.stored r) tt a.1.0 ∙ ap₂ ◌*ε◌ w.value (V.value r)) ∙ sym (flow_after_is r);
            }

        zero_row : (l r : ℕ) → I r ≡ true → l ≢ r → z l r ≡ number_zero
        unfolding number_field
        zero_row l r h n = F.row_elsewhere l r h n

        pub flows_hold : (ys : List Parts) → new_flows K G j earlier t.visits t.flows ≡ Ok ys → HasRow ys (flow_after number_field y z now j)
        unfolding new_flows
        flows_hold ys h = row_put (new_flow K G j (row t.visits j) t.flows) (earlier ++ j ∷ []) t.flows ys y (flow_after number_field y z now j) Y h
            (λ r l. elim (more_true earlier (j ∷ []) r l) [ inl a ↦ below r a | inr a ↦ subst (λ i. i < m) (sym (one_true j r a)) J.below ])
            (λ r x _ e. new_flow_gives r x e)
            (λ r n. sym (flow_after_is r ∙ ap (λ v. y r +ε now.weight j *ε v)
            (zero_row j r (rest_in r (left_false earlier (j ∷ []) r n)) (one_false j r [] (right_false earlier (j ∷ []) r n)))
            ∙ ap (λ v. y r +ε v) (number_multiply_zero _) ∙ number_add_zero (y r)))

        -- ---- visits

        rows_after_is : (l r : ℕ) → rows_after number_field z now j l r ≡ (z l r +ε now.edge l j *ε z j r) /ε
            (number_one -ε now.edge l j *ε now.edge j l)
        unfolding rows_after number_field ◌/ε◌ ◌-ε◌
        rows_after_is l r = ap (λ d. number_field.◌⊗◌ (number_field.◌⊕◌ (z l r) (number_field.◌⊗◌ (now.edge l j) (z j r)))
            (number_field.invert d)) (left_over_written number_field now j l)

        module _ (l : ℕ) (L : IsIn m (dropping j I) l) where
          was : IsIn m I l
          was = live_before j I L

          other : l ≢ j
          other = live_other j I L

          lj : Gives IsStored (edge K G l j) (now.edge l j)
          lj = edge_now l j was J other

          jl : Gives IsStored (edge K G j l) (now.edge j l)
          jl = edge_now j l J was (λ e. other (sym e))

          rest_is : rest K IsStored X G j l ≡ number_one -ε now.edge l j *ε now.edge j l
          rest_is = ap (λ v. number_one -ε v) (ap₂ ◌*ε◌ lj.value jl.value)

          new_visit_gives : (d : Parts) (r : ℕ) (x : Parts) → DivisorIs K IsStored X G j l (Some d)
              → new_visit K G j (row t.visits j) (row t.visits l) l d r ≡ Ok x → Gives IsStored x (rows_after number_field z now j l r)
          unfolding new_visit
          new_visit_gives d r x D h =
              let a = step_ok _ _ _ _ x h in
              let b = step_ok _ _ _ _ x a.1.1 in
              let c = at_ok _ _ _ x b.1.1 in
              let U = Z j J in
              let V = Z l was in
              let s = X.stored Mul _ _ a.0 lj.stored (U.stored r) tt a.1.0 in
              let u = X.stored Add _ _ b.0 (V.stored r) s tt b.1.0 in
              record {
                stored = X.stored Div _ _ x u D.0.stored D.1 c;
                value = X.exact Div _ _ x u D.0.stored D.1 c ∙ ap₂ ◌/ε◌
                    (X.exact Add _ _ b.0 (V.stored r) s tt b.1.0 ∙ ap₂ ◌+ε◌ (V.value r)
                    (X.exact Mul _ _ a.0 lj.stored (U.stored r) tt a.1.0 ∙ ap₂ ◌*ε◌ lj.value (U.value r))) (D.0.value ∙ rest_is)
                    ∙ sym (rows_after_is l r);
              }

          nothing : (r : ℕ) → set_of (earlier ++ j ∷ l ∷ []) r ≡ false → z l r ≡ rows_after number_field z now j l r
          nothing r n =
              let I_r = rest_in r (left_false earlier (j ∷ l ∷ []) r n) in
              let q = right_false earlier (j ∷ l ∷ []) r n in
              let n_j : j ≢ r = one_false j r (l ∷ []) q in
              let n_l : l ≢ r = one_false l r [] (right_false (j ∷ []) (l ∷ []) r q) in
              zero_row l r I_r n_l ∙ sym
              (rows_after_is l r ∙ ap (λ v. v /ε (number_one -ε now.edge l j *ε now.edge j l))
              (ap₂ ◌+ε◌ (zero_row l r I_r n_l) (ap (λ v. now.edge l j *ε v) (zero_row j r I_r n_j) ∙ number_multiply_zero _)
              ∙ number_add_zero number_zero) ∙ zero_over _)
            where
              zero_over : (x : Number) → number_zero /ε x ≡ number_zero
              zero_over x = simp number_laws

          visits_by : (d : Option Parts) (zs : List Parts) → DivisorIs K IsStored X G j l d → new_visits_by K G j earlier t.visits l d ≡ Ok zs
              → HasRow zs (rows_after number_field z now j l)
          unfolding new_visits_by numbers_at
          visits_by None zs D h =
              let e : map (λ x. K.zero) (row t.visits l) ≡ zs = ok_same (Ok zs) _ zs (sym h) refl in
              subst (λ xs. HasRow xs (rows_after number_field z now j l)) e (record {
                count = length-map (row t.visits l) (λ x. K.zero) ∙ (Z l was).count;
                stored = λ r. subst IsStored (sym (zeros (row t.visits l) r)) X.zero_stored;
                value = λ r. ap value_of (zeros (row t.visits l) r) ∙ X.zero_value
                    ∙ sym (rows_after_is l r ∙ ap (λ v. (z l r +ε now.edge l j *ε z j r) /ε v) (sym rest_is ∙ D) ∙ divide_zero _);
              })
            where
              zeros : (xs : List Parts) (r : ℕ) → get_or (map (λ x. K.zero) xs) r K.zero ≡ K.zero
              zeros [] zero = refl
              zeros [] (suc r) = refl
              zeros (x ∷ xs) zero = refl
              zeros (x ∷ xs) (suc r) = zeros xs r
          visits_by (Some d) zs D h = row_put (new_visit K G j (row t.visits j) (row t.visits l) l d) (earlier ++ j ∷ l ∷ []) (row t.visits l) zs (z l)
              (rows_after number_field z now j l) (Z l was) h
              (λ r i. elim (more_true earlier (j ∷ l ∷ []) r i) [
                | inl a ↦ below r a
                | inr a ↦ elim (two_true j l r a)
                    [ inl e ↦ subst (λ i. i < m) (sym e) J.below | inr e ↦ subst (λ i. i < m) (sym e) L.below ]
              ])
              (λ r x _ e. new_visit_gives d r x D e)
              nothing

          visits_is : new_visits K G j earlier t.visits l ≡ (divisor K G j l >>= new_visits_by K G j earlier t.visits l)
          unfolding new_visits
          visits_is = rw (stays j l L) refl

          pub visits_hold : (zs : List Parts) → new_visits K G j earlier t.visits l ≡ Ok zs → HasRow zs (rows_after number_field z now j l)
          visits_hold zs h =
              let a = bind_ok (divisor K G j l) (new_visits_by K G j earlier t.visits l) zs (sym visits_is ∙ h) in
              visits_by a.0 zs (divisor_value K IsStored X G j l a.0 (stays j l L) lj.stored jl.stored a.1.0) a.1.1

      -- ---- exits

      module _ (A : Graph Number) (H : ℕ → ℕ → Number) (F : Exits number_field m A I now H)
          (W : (k : ℕ) → IsIn m I k → HasRow (row t.exits k) (H k)) (k : ℕ) (L : IsIn m (dropping j I) k) where
        kept_in : IsIn m I k
        kept_in = live_before j I L

        jk : Gives IsStored (edge K G j k) (now.edge j k)
        jk = edge_now j k J kept_in (λ e. live_other j I L (sym e))

        exits_after_is : (r : ℕ) → exits_after number_field H now j k r ≡ H k r +ε (H j r +ε unit number_field j r) *ε now.edge j k
        unfolding exits_after number_field
        exits_after_is r = refl

        unit_off : (r : ℕ) → j ≢ r → unit number_field j r ≡ number_zero
        unfolding number_field
        unit_off r n = unit_other number_field j r n

        unit_on : unit number_field j j ≡ number_one
        unfolding number_field
        unit_on = unit_same number_field j

        no_exit : (i r : ℕ) → I r ≡ true → H i r ≡ number_zero
        unfolding number_field
        no_exit i r h = F.elsewhere i r h

        new_exit_gives : (r : ℕ) (x : Parts) → j ≢ r → new_exit K G j (row t.exits j) (row t.exits k) k r ≡ Ok x
            → Gives IsStored x (exits_after number_field H now j k r)
        unfolding new_exit
        new_exit_gives r x n h =
            let a = step_ok _ _ _ _ x h in
            let b = at_ok _ _ _ x a.1.1 in
            let U = W j J in
            let V = W k kept_in in
            let s = X.stored Mul _ _ a.0 (U.stored r) jk.stored tt a.1.0 in
            record {
              stored = X.stored Add _ _ x (V.stored r) s tt b;
              value = X.exact Add _ _ x (V.stored r) s tt b ∙ ap₂ ◌+ε◌ (V.value r)
                  (X.exact Mul _ _ a.0 (U.stored r) jk.stored tt a.1.0 ∙ ap₂ ◌*ε◌ (U.value r) jk.value)
                  ∙ sym (exits_after_is r ∙ ap (λ u. H k r +ε (H j r +ε u) *ε now.edge j k) (unit_off r n)
                  ∙ ap (λ u. H k r +ε u *ε now.edge j k) (number_add_zero (H j r)));
            }

        -- the exits from the hypotheses of the earlier steps, and nothing elsewhere
        earlier_exits : ℕ → Number
        earlier_exits r = H k r +ε H j r *ε now.edge j k

        earlier_is : (r : ℕ) → j ≢ r → earlier_exits r ≡ exits_after number_field H now j k r
        unfolding earlier_exits
        earlier_is r n = sym (exits_after_is r ∙ ap (λ u. H k r +ε (H j r +ε u) *ε now.edge j k) (unit_off r n)
            ∙ ap (λ u. H k r +ε u *ε now.edge j k) (number_add_zero (H j r)))

        apart : (r : ℕ) → set_of earlier r ≡ true → j ≢ r
        apart r h e = absurd (cc (gone r h, J.member, ap I e))

        written_row : (xs : List Parts) → put_each (new_exit K G j (row t.exits j) (row t.exits k) k) earlier (row t.exits k) ≡ Ok xs
            → HasRow xs earlier_exits
        unfolding earlier_exits
        written_row xs h = row_put (new_exit K G j (row t.exits j) (row t.exits k) k) earlier (row t.exits k) xs (H k) earlier_exits (W k kept_in) h below
            (λ r x l e. let g = new_exit_gives r x (apart r l) e in record { stored = g.stored; value = g.value ∙ sym (earlier_is r (apart r l)) })
            (λ r n. sym (ap (λ v. H k r +ε v *ε now.edge j k) (no_exit j r (rest_in r n)) ∙ ap (λ v. H k r +ε v) (number_zero_multiply _)
            ∙ number_add_zero (H k r)))

        exits_is : new_exits K G j earlier t.exits
            k ≡ (put_each (new_exit K G j (row t.exits j) (row t.exits k) k) earlier (row t.exits k) >>= (λ xs. Ok (set xs j (edge K G j k))))
        unfolding new_exits
        exits_is = rw (stays j k L) refl

        own : exits_after number_field H now j k j ≡ now.edge j k
        own =
            exits_after_is j ∙ ap₂ ◌+ε◌ (no_exit k j J.member) (ap (λ v. v *ε now.edge j k) (ap₂ ◌+ε◌ (no_exit j j J.member) unit_on))
            ∙ simp number_laws

        with_edge : (xs : List Parts) → HasRow xs earlier_exits → HasRow (set xs j (edge K G j k)) (exits_after number_field H now j k)
        unfolding numbers_at
        with_edge xs R = record {
          count = length-set xs j (edge K G j k) ∙ R.count;
          stored = λ r. elim (same_or_not r j) [
            | inl e ↦ subst IsStored (sym
                (ap (λ i. get_or (set xs j (edge K G j k)) i K.zero) e
                ∙ get_or-set_same xs j (edge K G j k) K.zero (subst (λ n. j < n) (sym R.count) J.below))) jk.stored
            | inr n ↦ subst IsStored (sym (get_or-set_other xs j r (edge K G j k) K.zero n)) (R.stored r)
          ];
          value = λ r. elim (same_or_not r j) [
            | inl e ↦ ap value_of (ap (λ i. get_or (set xs j (edge K G j k)) i K.zero) e
                ∙ get_or-set_same xs j (edge K G j k) K.zero (subst (λ n. j < n) (sym R.count) J.below)) ∙ jk.value
                ∙ sym (ap (exits_after number_field H now j k) e ∙ own)
            | inr n ↦ ap value_of (get_or-set_other xs j r (edge K G j k) K.zero n) ∙ R.value r ∙ earlier_is r (λ e. n (sym e))
          ];
        }

        pub exits_hold : (ys : List Parts) → new_exits K G j earlier t.exits k ≡ Ok ys → HasRow ys (exits_after number_field H now j k)
        exits_hold ys h =
            let a = bind_ok (put_each (new_exit K G j (row t.exits j) (row t.exits k) k) earlier (row t.exits k)) (λ xs. Ok (set xs j (edge K G j k))) ys
            (sym exits_is ∙ h) in
            let e : set a.0 j (edge K G j k) ≡ ys = ok_same (Ok ys) _ ys (sym a.1.1) refl in
            subst (λ zs. HasRow zs (exits_after number_field H now j k)) e (with_edge a.0 (written_row a.0 a.1.0))
