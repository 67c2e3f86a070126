-- Places of an order in which hypotheses are removed.
use Rattle.std.proofs.Common.{ℕ, zero, suc, ◌<◌, Bool, List, [], ◌∷◌, length, get_or, take, arith}
use Rattle.field_core.specs.Sets.{IsIn, dropping}
use Rattle.field_core.specs.Runs.{IsOrder, left_after}

-- the first of an order
pub order_take : (m : ℕ) (js : List ℕ) (I : ℕ → Bool) (s : ℕ) → IsOrder m I js → IsOrder m I (take s js)
order_take m js I zero o = tt
order_take m [] I (suc s) o = tt
order_take m (j ∷ js) I (suc s) o = (o.0, order_take m js (dropping j I) s o.1)

-- the one at a place is among those that are left before it
pub order_at : (m : ℕ) (js : List ℕ) (I : ℕ → Bool) (s : ℕ) → IsOrder m I js → s < length js → IsIn m (left_after I (take s js)) (get_or js s 0)
order_at m [] I s o p = absurd (omega arith)
order_at m (j ∷ js) I zero o p = o.0
order_at m (j ∷ js) I (suc s) o p = order_at m js (dropping j I) s o.1 (omega arith)
