use Rattle.std.proofs.Common.{rules, ◌≡◌, refl, ◌++◌, ◌+◌, ◌<◌, ◌∙◌, sym, ℕ, List, [], ◌∷◌, length, take, get_or, zero, suc}
use Rattle.std.proofs.Common.{arith, add-one, append_assoc, append-nil}
use Rattle.std.proofs.Output.{has_written_append, has_written_of_eq}
use Rattle.refusals.specs.WideRefusal.{names_of_members, name_if_member}
use Rattle.refusals.proofs.wide.MembersDisplay.fmt.Goals.{then-is_member+in_ok-write, else-is_member}
use Rattle.refusals.proofs.wide.MembersDisplay.fmt.Goals as goal

-- the names of one more member
members_more : (n k : ℕ) (names : List (List ℕ)) (i m : ℕ) (name : List ℕ) → i < length names → m ≡ k + i → name ≡ get_or names i name →
    names_of_members n k (take (i + 1) names) ≡ names_of_members n k (take i names) ++ name_if_member n m name
members_more n k [] i m name below at is = elim below [ ]
members_more n k (first ∷ names) zero m name below at is =
    let here : m ≡ k = omega arith in
    let it : name ≡ first = is in
    rw (here, it, append-nil) refl
members_more n k (first ∷ names) (suc i) m name below at is =
    let rest = rw (add-one i) at (members_more n (k + 1) names i m name (omega arith) (omega arith) is) in
    rw (add-one (suc i), rest) (simp append_assoc)

pub loop-k-preserved : goal.loop-k-preserved
loop-k-preserved g c plain =
    let set = c.args.self.now.set in
    let more = members_more set 0 c.args.self.now.names.0.now c.loop-k.k c.loop-k.k c.name-item.result (omega arith) (omega arith) c.name-item.is in
    elim c.if-is_member.branch [
      | then-is_member+in_ok-write w ↦
          let member = sym c.is_member.ensures ∙ w.if-is_member.true in
          rw w.f-is (has_written_of_eq _ _ _ _ _ (sym (rw member at more)) (has_written_append _ _ _ _ _ _ (c.loop-k.invariant plain) (search rules)))
      | else-is_member w ↦
          let none = sym c.is_member.ensures ∙ w.if-is_member.false in
          rw (w.f-is, more, none, append-nil) (c.loop-k.invariant plain)
    ]
