use Rattle.std.proofs.Common.{◌≡◌, ◌∙◌, refl, ap, List, ℤ, Some, arith}
use Rattle.std.proofs.lemmas.List.{with_items_is}
use Rattle.eps_poly.specs.ExactQuotients.{exact_quotient}
use Rattle.row_removal.specs.StoredRow.{StoredRow}
use Rattle.row_removal.specs.Clearing.{map_all, quotient_row}
use Rattle.row_removal.proofs.row.Row.write_quotient_row.Goals as goal

made : (by : List ℤ) (r : StoredRow) (d : List ℤ) (ns : List (List ℤ)) → Some d ≡ exact_quotient r.denominator by
    → Some ns ≡ map_all (λ p. exact_quotient p by) r.numerators → Some (record { numerators = ns; denominator = d }) ≡ quotient_row by r
unfolding quotient_row
made by r d ns e f = rw (← e, ← f) refl

pub returns-clause-value : goal.returns-clause-value
returns-clause-value c =
    let items = with_items_is c.next.inside.numerators c.write_quotients.new.quotients
    (omega (arith, c.write_quotients.auto.quotients, c.deref_mut.ensures.len)) in
    rw (items, ← c.self.view_is) (made c.args.by.now _ c.put_quotient.new.self c.write_quotients.new.quotients c.in_ok-put_quotient.ensures
    (c.in_ok-write_quotients.ensures ∙ ap (map_all (λ p. exact_quotient p c.args.by.now)) c.deref.ensures.value))
