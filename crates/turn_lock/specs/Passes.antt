-- What a lock and a pass mean, what a call asks of its pass, and what the calls of the lock say.
use Rattle.std.specs.Prelude.{◌≡◌, ℕ, zero, suc, ◌<◌, ◌≤◌, List, [], ◌∷◌, ◌++◌, Option}
use Rattle.atomic_table.specs.Seated.{TableId}
use Rattle.turn_lock.specs.declared.rule.Moves.{Moves}
use Rattle.turn_lock.specs.Logs.{moves_of, IsMove}
use Rattle.turn_lock.specs.Views.{times, adds, no_moves}
use Rattle.turn_lock.specs.Rule.{AreExact}

-- a lock: which one it is, and how many roles it has
pub record LockFacts : Type 0 where
  pub id : TableId
  pub seats : ℕ

abbrev pub lock_facts : TableId → ℕ → LockFacts
lock_facts id seats = record { id = id; seats = seats }

-- a pass: its lock, the prefix of the log that it has seen, and its roles with the moves that each has made
pub record PassFacts (E : Type 0) : Type 0 where
  pub lock : TableId
  pub seen : List E
  pub made : List (Moves E)

module _ {E : Type 0} where
  abbrev pub pass_facts : TableId → List E → List (Moves E) → PassFacts E
  pass_facts lock seen made = record { lock = lock; seen = seen; made = made }

  -- the passes of n roles from k on, none of which has made or seen anything
  abbrev pub new_passes : TableId → ℕ → ℕ → List (PassFacts E)
  new_passes lock k zero = []
  new_passes lock k (suc n) = pass_facts lock [] (no_moves k ∷ []) ∷ new_passes lock (suc k) n

  -- the role is the pass's first, and what this role has made allows the operation
  abbrev pub MayCall : ℕ → (List E → Type 0) → List (Moves E) → Type 0
  MayCall r may [] = ⊥
  MayCall r may (m ∷ ms) = (m.role ≡ r) × may m.entries

  -- after these moves and whatever the first operation is answered and adds, the second may be played
  abbrev pub MayFollow : {Op Reply : Type 0} → (List E → Op → Type 0) → (List E → Op → Reply → List E → Type 0) → (first second : Op) → List E → Type 0
  MayFollow {Op} {Reply} may answers first second mine =
      (before added : List E) (reply : Reply) → answers before first reply added → may (mine ++ added) second

  -- two moves of the role, each with its answer
  abbrev pub PlayedBoth : (E → Option ℕ) → ℕ → (first second : List E → List E → Type 0) → (old new : List E) → Type 0
  PlayedBoth begins r first second old new = (one : List E) × (two : List E) × (new ≡ (old ++ one) ++ two) × IsMove begins r one × IsMove begins r two
      × first old one × second (old ++ one) two

  -- The call has its answer at one place of the log: after all that the pass had seen, and what came between. Its own entries
  -- are next, one move of the role or none. The pass has seen the log up to them, and of each of its roles just the moves that
  -- it has made are there.
  abbrev pub Called : (E → Option ℕ) → ℕ → (List E → List E → Type 0) → PassFacts E → PassFacts E → Type 0
  Called begins r answers old new = (between : List E) × (added : List E) × (new.seen ≡ (old.seen ++ between) ++ added)
      × answers (old.seen ++ between) added × IsMove begins r added × (new.made ≡ adds added old.made) × AreExact begins new.seen new.made

  -- The call has its answer where the pass has seen all of the log: nothing came between.
  abbrev pub CalledNext : (E → Option ℕ) → ℕ → (List E → List E → Type 0) → PassFacts E → PassFacts E → Type 0
  CalledNext begins r answers old new = (added : List E) × (new.seen ≡ old.seen ++ added)
      × answers old.seen added × IsMove begins r added × (new.made ≡ adds added old.made) × AreExact begins new.seen new.made

  -- two calls, the second at once after the first
  abbrev pub CalledBoth : (E → Option ℕ) → ℕ → (first second : List E → List E → Type 0) → PassFacts E → PassFacts E → Type 0
  CalledBoth begins r first second old new = (middle : PassFacts E) × (middle.lock ≡ old.lock)
      × Called begins r first old middle × CalledNext begins r second middle new

  -- The log is all that the pass has seen. Of each of the pass's roles it has just the moves that are listed, the pass has each
  -- role of the lock once, and no other role has made a move.
  abbrev pub Closes : (E → Option ℕ) → ℕ → PassFacts E → List E → Type 0
  Closes begins seats p log = (log ≡ p.seen) × AreExact begins log p.made × ((r : ℕ) → r < seats → times r p.made ≡ 1)
      × ((r : ℕ) → seats ≤ r → moves_of begins r log ≡ [])
