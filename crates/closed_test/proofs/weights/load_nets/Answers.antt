use Rattle.std.proofs.Common.{◌≡◌, inl, inr, sym, ap, ◌∙◌, ℕ, suc, ◌+◌, ◌<◌, List, [], ◌∷◌, ◌++◌, length, map, get_or, Ok}
use Rattle.std.proofs.Common.{Result, arith}
use Rattle.std.proofs.lemmas.List.{map-append, length-map, get_or_push, get_or_append_left, length-append}
use Rattle.field_core.proofs.Positions.{at_or_below}
use Rattle.field_core.specs.declared.place.WideAt.{WideAt}
use Rattle.case_model.specs.CaseView.{content}
use Rattle.entangled.specs.declared.case_net.CaseNet.{CaseNet}
use Rattle.entangled.specs.CaseNetView.{case_state}
use Rattle.entangled.specs.CaseRun.{CaseState, case_opening}
use Rattle.closed_test.proofs.weights.load_nets.Goals as goal

opened_next : (o : Result CaseState WideAt) (nets : List CaseNet) (net : CaseNet) (count : ℕ) → length nets ≡ count → o ≡ Ok (case_state net)
    → ((n : ℕ) (d : CaseState) → n < count → o ≡ Ok (get_or (map case_state nets) n d))
    → (n : ℕ) (d : CaseState) → n < suc count → o ≡ Ok (get_or (map case_state (nets ++ net ∷ [])) n d)
opened_next o nets net count len opened each n d p = rw (map-append case_state nets (net ∷ [])) (elim (at_or_below n count p) [
  | inl e ↦ opened ∙ ap Ok (sym (get_or_push (map case_state nets) (case_state net) d n (length-map nets case_state ∙ len ∙ sym e)))
  | inr q ↦ each n d q ∙ ap Ok
      (sym (get_or_append_left (map case_state nets) (case_state net ∷ []) d n (omega (arith, length-map nets case_state, len, q))))
])

pub push_reserved-requires : goal.push_reserved-requires
push_reserved-requires c = omega (arith, c.loop.invariant.count, c.loop.invariant.room, c.loop-test.true, c.loop.nets.ok.0)

pub loop-preserved : goal.loop-preserved
loop-preserved c =
    let more = c.push_reserved.ensures.items in
    record {
      count = ap length more ∙ length-append c.loop.nets.items (c.in_ok-net.net ∷ []) ∙ ap (λ n. n + 1) c.loop.invariant.count;
      room = omega (arith, c.loop.invariant.room, c.push_reserved.ensures.capacity);
      opened = λ n d p. opened_next (case_opening (content c.args.case.now)) c.loop.nets.items c.in_ok-net.net c.loop.counter c.loop.invariant.count
          c.in_ok-net.ensures.opened c.loop.invariant.opened n d (omega (arith, p)) ∙ ap (λ xs. Ok (get_or (map case_state xs) n d)) (sym more);
    }
