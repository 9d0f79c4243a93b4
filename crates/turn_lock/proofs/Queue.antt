-- Where a seat stands in the queue, as tickets are drawn and turns end.
use Rattle.std.proofs.Common.{◌≢◌, ℕ, suc, ◌<◌, ◌≤◌, List, arith}
use Rattle.turn_lock.specs.declared.rule.Stage.{Stage}
use Rattle.turn_lock.specs.declared.rule.Stage.TheVariants.{Idle, Waiting, Serving, Joined}
use Rattle.turn_lock.specs.Logs.{IsPrefix}
use Rattle.turn_lock.specs.Views.{held}
use Rattle.turn_lock.specs.Rule.{HasTicket, IsServing, InQueue}

module _ {E : Type 0} where
  -- a ticket was drawn, and its turn hasn't ended
  pub between : (d e t : ℕ) (log seen : List E) (n : ℕ) (v : Stage E) → InQueue d e log seen n v → HasTicket v t → (e ≤ t) × (t < d)
  between d e t log seen n Idle k has = absurd has
  between d e t log seen n (Waiting u) k has = let a = k.0 in let b = k.1 in (omega arith, omega arith)
  between d e t log seen n (Serving u) k has = let a = k.0 in let b = k.1 in (omega arith, omega arith)
  between d e t log seen n (Joined told) k has = absurd has

  -- more tickets are drawn
  pub later : (d d' e : ℕ) (log seen : List E) (n : ℕ) → d ≤ d' → (v : Stage E) → InQueue d e log seen n v → InQueue d' e log seen n v
  later d d' e log seen n le Idle k = tt
  later d d' e log seen n le (Waiting t) k = let a = k.1 in (k.0, omega arith, k.2)
  later d d' e log seen n le (Serving t) k = let a = k.1 in (k.0, omega arith, k.2, k.3)
  later d d' e log seen n le (Joined told) k = k

  -- a turn ends that isn't the seat's own
  pub past : (d e : ℕ) (log log' seen : List E) (n : ℕ) (v : Stage E) → ((told : List E) → IsPrefix told log → IsPrefix told log')
      → InQueue d e log seen n v → (HasTicket v e → ⊥) → InQueue d (suc e) log' seen n v
  past d e log log' seen n Idle grows k other = tt
  past d e log log' seen n (Waiting t) grows k other = let a = k.0 in let b : t ≢ e = other in (omega arith, k.1, k.2)
  past d e log log' seen n (Serving t) grows k other = absurd (other k.0)
  past d e log log' seen n (Joined told) grows k other = grows told k

  pub serving_has : (d e : ℕ) (log seen : List E) (n : ℕ) (v : Stage E) → IsServing v → InQueue d e log seen n v → HasTicket v e
  serving_has d e log seen n Idle is k = is
  serving_has d e log seen n (Waiting t) is k = absurd is
  serving_has d e log seen n (Serving t) is k = k.0
  serving_has d e log seen n (Joined told) is k = is

  pub serving_role : (d e : ℕ) (log seen : List E) (n : ℕ) (v : Stage E) → IsServing v → InQueue d e log seen n v → 0 < n
  serving_role d e log seen n Idle is k = absurd is
  serving_role d e log seen n (Waiting t) is k = absurd is
  serving_role d e log seen n (Serving t) is k = k.2
  serving_role d e log seen n (Joined told) is k = absurd is

  -- who holds a ticket has a role
  pub ticket_role : (d e : ℕ) (log seen : List E) (n : ℕ) (v : Stage E) → InQueue d e log seen n v → held v ≤ n
  ticket_role d e log seen n Idle k = omega arith
  ticket_role d e log seen n (Waiting t) k = let a = k.2 in omega arith
  ticket_role d e log seen n (Serving t) k = let a = k.2 in omega arith
  ticket_role d e log seen n (Joined told) k = omega arith
