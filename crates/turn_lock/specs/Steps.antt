-- What each step of the lock tells its seat.
use Rattle.std.specs.Prelude.{◌≡◌, ◌≢◌, ℕ, ◌%◌, ◌<◌, List, [], ◌∷◌, length, drop, Option}
use Rattle.atomic_table.specs.Table.{Me, Step}
use Rattle.turn_lock.specs.declared.rule.View.{View}
use Rattle.turn_lock.specs.declared.rule.Moves.{Moves}
use Rattle.turn_lock.specs.declared.rule.Stage.{Stage}
use Rattle.turn_lock.specs.declared.rule.Stage.TheVariants.{Idle, Waiting, Serving, Joined}
use Rattle.turn_lock.specs.Logs.{IsPrefix, longer}
use Rattle.turn_lock.specs.Views.{view, times, waits, serves, adds, settled}
use Rattle.turn_lock.specs.Rule.{word_range, AreExact}

-- a seat: its view, and the state where it has it
abbrev pub Seated : Type 0 → Type 0 → Type 0
Seated S E = Me S (View E)

module _ {S E : Type 0} where
  -- the seat with this view has drawn the ticket whose word is n
  abbrev pub HasDrawn : View E → ℕ → Seated S E → Type 0
  HasDrawn v n m = (t : ℕ) × (t % word_range ≡ n) × (m ≡ (waits t v, []))

  abbrev pub Draws : Step S → Seated S E → ℕ → Seated S E → Type 0
  Draws st m n m' = HasDrawn m.0 n m'

  abbrev pub Stays : Step S → Seated S E → ℕ → Seated S E → Type 0
  Stays st m n m' = m' ≡ m

  abbrev pub SettlesAt : Seated S E → Stage E → Seated S E → Type 0
  SettlesAt m Idle m' = Unit {0}
  SettlesAt m (Waiting t) m' = Unit {0}
  SettlesAt m (Serving t) m' = Unit {0}
  SettlesAt m (Joined told) m' = (m' ≡ (settled told m.0, m.1)) × (length m.0.made < 4294967296)
      × IsPrefix m.0.seen (longer m.0.seen told) × IsPrefix told (longer m.0.seen told)

  abbrev pub Settles : Step S → Seated S E → ℕ → Seated S E → Type 0
  Settles st m n m' = SettlesAt m m.0.stage m'

-- the first of these roles isn't among the others
abbrev pub FirstOnce : {E : Type 0} → List (Moves E) → Type 0
FirstOnce [] = Unit {0}
FirstOnce (m ∷ ms) = times m.role ms ≡ 0

module _ {S E : Type 0} (entries : S → List E) where
  -- the view after a turn that left the state x
  abbrev pub after_turn : View E → S → View E
  after_turn v x = view Idle (entries x) (adds (drop (length v.seen) (entries x)) v.made)

module _ {S E : Type 0} (entries : S → List E) (begins : E → Option ℕ) where
  -- it is the turn of the seat that had this view, and it has the state
  abbrev pub InTurn : View E → Seated S E → Type 0
  InTurn v m = (t : ℕ) × (x : S) × (m ≡ (serves t v (entries x), (0, x) ∷ [])) × IsPrefix v.seen (entries x)
      × AreExact begins (entries x) v.made

  -- its turn has come exactly where its own ticket is found
  abbrev pub PollsAt : View E → Stage E → ℕ → Seated S E → Type 0
  PollsAt v Idle n m = Unit {0}
  PollsAt v (Waiting t) n m = (n ≡ t % word_range → InTurn v m) × (n ≢ t % word_range → m ≡ (v, []))
  PollsAt v (Serving t) n m = Unit {0}
  PollsAt v (Joined told) n m = Unit {0}

  abbrev pub Polls : Step S → Seated S E → ℕ → Seated S E → Type 0
  Polls st m n m' = PollsAt m.0 m.0.stage n m'

  abbrev pub EndsWith : View E → List (ℕ × S) → Seated S E → Type 0
  EndsWith v [] m' = Unit {0}
  EndsWith v (c ∷ cs) m' = (m' ≡ (after_turn entries v c.1, [])) × AreExact begins (entries c.1) (after_turn entries v c.1).made
      × FirstOnce v.made

  abbrev pub Ends : Step S → Seated S E → ℕ → Seated S E → Type 0
  Ends st m n m' = EndsWith m.0 m.1 m'
