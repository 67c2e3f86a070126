use Rattle.std.proofs.Common.{◌≡◌, sym, ap, ◌∙◌, inl, inr, not, true}
use Rattle.field_core.proofs.Live.{true_or_false, true_not_false}
use Rattle.case_model.proofs.RejectionOrders.{listed_or_not}
use Rattle.sequential.specs.TrialView.{trial}
use Rattle.sequential.proofs.AnyTrial.{any_live, any_gone}
use Rattle.sequential.proofs.trial.Trial.is_rejected.Goals as goal

pub returns : goal.returns
unfolding trial
returns c =
    let t = trial c.args.self.now in (
      λ h. elim (listed_or_not t.rejected c.args.k) [
        | inl l ↦ l
        | inr n ↦ absurd (let e : c.is_in.result ≡ true = c.is_in.ensures ∙ any_live t c.args.self.now.whole c.args.k c.requires (λ l. true_not_false (sym l ∙ n)) in
            let f : not true ≡ true = ap not (sym e) ∙ h in cc)
      ],
      λ l. elim (true_or_false c.is_in.result) [
        | inl e ↦ absurd (any_gone t c.args.self.now.whole c.args.k c.requires l (sym c.is_in.ensures ∙ e))
        | inr f ↦ ap not f
      ],
    )
