-- Values and troubles that are handed on.
use Rattle.std.proofs.Common.{◌≡◌, refl, sym, subst, inl, inr, ℕ, List, Result, Ok, Err}
use Rattle.std.specs.Result.{IsErrAnd}
use Rattle.answers.specs.declared.answer.Answer.{Answer}
use Rattle.answers.specs.declared.refusal.Refusal.{Refusal}
use Rattle.answers.specs.declared.stop.Stop.{Stop}
use Rattle.answers.specs.Stages.{Stage, told_as}
use Rattle.answers.specs.Ways.{StopsIn, EndsIn, over_values}
use Rattle.answers.proofs.Stopping.{StopsBy}
use Rattle.graph_cli.specs.Troubles.{IfRefused, Meets, StopsAt, HandsOn, line_of}
use Rattle.graph_cli.specs.declared.no_answer.NoAnswer.{NoAnswer}
use Rattle.graph_cli.specs.declared.no_answer.NoAnswer.TheVariants.{Refused, NoMemory}
use Rattle.graph_cli.specs.declared.trouble.Trouble.{Trouble}

-- a reason to give no value, handed on
pub err_on : {A : Type 0} (s : Stage Trouble A) (r : Result A NoAnswer) (none : NoAnswer) → IsErrAnd r (λ e. e ≡ none) → IfRefused none s.Refuses → Meets s r
err_on s (Ok x) none h k = absurd h
err_on s (Err e) none h k = subst (λ z. IfRefused z s.Refuses) (sym h) k

if_refused : (P Q : Trouble → Type 0) (none : NoAnswer) → ((t : Trouble) → P t → Q t) → IfRefused none P → IfRefused none Q
if_refused P Q (Refused t) f h = f t h
if_refused P Q NoMemory f h = tt

-- the reason of a part, handed on as one of the whole, which refuses what the part refuses
pub part_err_on : {A : Type 0} (P : Trouble → Type 0) (s : Stage Trouble A) (r : Result A NoAnswer) (none : NoAnswer) → IsErrAnd r (λ e. e ≡ none)
    → ((t : Trouble) → P t → s.Refuses t) → IfRefused none P → Meets s r
part_err_on P s r none e f h = err_on s r none e (if_refused P s.Refuses none f h)

-- what a command meets, its troubles reported by lines, is how the call ends
pub reported_ends : (names : List (List ℕ)) (s : Stage Trouble Answer) (given : Result Answer NoAnswer) (result : Result Answer Stop) → Meets s given
    → HandsOn names given result → EndsIn (over_values (told_as (line_of names) s)) result
reported_ends names s (Ok a) (Ok b) h t = subst s.Gives (sym t) h
reported_ends names s (Ok a) (Err stop) h t = absurd t
reported_ends names s (Err none) (Ok b) h t = absurd t
reported_ends names s (Err (Refused x)) (Err stop) h (inl t) = subst (StopsIn (over_values (told_as (line_of names) s))) (sym t) tt
reported_ends names s (Err (Refused x)) (Err stop) h (inr t) = subst (StopsIn (over_values (told_as (line_of names) s))) (sym t) (x, h, refl)
reported_ends names s (Err NoMemory) (Err stop) h t = subst (StopsIn (over_values (told_as (line_of names) s))) (sym t) tt

-- a trouble that a step over values meets is how the call stops
pub trouble_stops : {A : Type 0} (names : List (List ℕ)) (s : Stage Trouble A) (P : Refusal → Type 0) (read keeper memory : Type 0) (x : Trouble) (stop : Stop)
    → s.Refuses x → StopsAt names x stop → ((r : Refusal) → (told_as (line_of names) s).Refuses r → P r) → memory → StopsBy P read keeper memory stop
trouble_stops names s P read keeper memory x stop h (inl t) refuses none = subst (StopsBy P read keeper memory) (sym t) none
trouble_stops names s P read keeper memory x stop h (inr t) refuses none =
    subst (StopsBy P read keeper memory) (sym t) (refuses (line_of names x) (x, h, refl))
