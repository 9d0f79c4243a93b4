-- What a call of the turn lock says in the words of a desk.
use Rattle.std.proofs.Common.{◌≡◌, ℕ, ◌≤◌, true, List, [], ◌∷◌, ◌++◌, refl, sym, ap, ◌∙◌, subst, subst₂, Option, Some, None}
use Rattle.std.specs.Prelude.{reverse}
use Rattle.std.proofs.lemmas.List.{reverse-reverse, reverse-append, append-nil}
use Rattle.nd_base.specs.Parts.{Parts}
use Rattle.flow_journal.specs.declared.entry.Entry.{Entry}
use Rattle.flow_journal.specs.Setting.{Setting}
use Rattle.flow_journal.specs.Histories.{is_history}
use Rattle.flow_journal.specs.Hands.{hand}
use Rattle.board_rules.specs.declared.told.Told.{Told}
use Rattle.board_rules.specs.declared.answers.Load.{Load}
use Rattle.board_rules.specs.declared.answers.Load.TheVariants.{Loaded}
use Rattle.board_rules.specs.declared.answers.Take.{Take}
use Rattle.board_rules.specs.declared.answers.Take.TheVariants.{Job}
use Rattle.board_rules.specs.declared.answers.Save.{Save}
use Rattle.board_rules.specs.declared.answers.Save.TheVariants.{Piece}
use Rattle.board_rules.specs.States.{BoardState, past, lent_to}
use Rattle.flow_journal.specs.MoveLists.{begun_by}
use Rattle.board_rules.specs.Movers.{moves_by, IsMoveOf}
use Rattle.board_rules.specs.InHand.{granted_size, OfSome}
use Rattle.board_rules.specs.Feeding.{HasRoom}
use Rattle.board_rules.specs.Working.{LendsJob}
use Rattle.board_rules.specs.Saving.{LendsPiece}
use Rattle.board_rules.specs.Runs.{Frames}
use Rattle.board_rules.proofs.Moves.{moves-tell, GoOn}
use Rattle.turn_lock.specs.declared.rule.Moves.{Moves}
use Rattle.turn_lock.specs.Logs.{GoesOn, IsMove, moves_of}
use Rattle.turn_lock.specs.Rule.{AreExact}
use Rattle.turn_lock.specs.Views.{adds}
use Rattle.turn_lock.specs.Passes.{PassFacts, MayCall}
use Rattle.turn_lock.specs.Passes as lock
use Rattle.flow_roles.specs.declared.last.Said.{Said}
use Rattle.flow_roles.specs.declared.operation.DeskOp.{DeskOp}
use Rattle.flow_roles.specs.declared.operation.DeskOp.TheVariants as op
use Rattle.flow_roles.specs.declared.operation.DeskReply.{DeskReply}
use Rattle.flow_roles.specs.declared.operation.DeskReply.TheVariants as reply
use Rattle.flow_roles.specs.Passes.{Pass, Called, CalledBoth, only_drain_saves}
use Rattle.flow_roles.specs.Operations.{role_of, begins_of, Replies, Lends, IsPlayed}
use Rattle.flow_roles.specs.TurnPasses.{HasOneRole, role_in, moves_in, known_by}
use Rattle.flow_roles.proofs.Reversed.{moves_reversed}

-- A MOVE, THE OTHER WAY ROUND

after-snoc : (b : BoardState) (t : Told) → GoOn b → begun_by t.entry ≡ None → GoOn (b ++ t ∷ [])
after-snoc [] t g h = (h, tt)
after-snoc (u ∷ b) t g h = (g.0, after-snoc b t g.1 h)

after-reversed : (es : List Told) → GoesOn begins_of es → GoOn (reverse es)
after-reversed [] g = tt
after-reversed (e ∷ es) g = subst (λ (b : BoardState). GoOn b) (sym (reverse-append (e ∷ []) es)) (after-snoc (reverse es) e (after-reversed es g.1) g.0)

move-from : (r : ℕ) (b : BoardState) (t : Told) → GoOn b → begun_by t.entry ≡ Some r → IsMoveOf r (b ++ t ∷ [])
move-from r [] t g h = h
move-from r (u ∷ []) t g h = (g.0, h)
move-from r (u ∷ w ∷ b) t g h = (g.0, move-from r (w ∷ b) t g.1 h)

pub move-back : (r : ℕ) (added : List Told) → IsMove begins_of r added → IsMoveOf r (reverse added)
move-back r [] m = tt
move-back r (e ∷ es) m = subst (λ (b : BoardState). IsMoveOf r b) (sym (reverse-append (e ∷ []) es)) (move-from r (reverse es) e (after-reversed es m.1) m.0)

-- the moves of a role in the lock's log
pub moves-back : (r : ℕ) (log mine : List Told) → moves_of begins_of r log ≡ mine → moves_by r (reverse log) ≡ reverse mine
moves-back r log mine is =
    sym (moves_reversed r (reverse log)) ∙ ap (λ (xs : List Told). reverse xs) (ap (λ (xs : List Told). moves_of begins_of r xs) (reverse-reverse log) ∙ is)

-- A CALL

pub may-call : (may : List Told → Type 0) (r : ℕ) (made : List (Moves Told)) → HasOneRole made → role_in made ≡ r → may (moves_in made) → MayCall r may made
may-call may r [] one is h = absurd one
may-call may r (m ∷ []) one is h = (is, h)
may-call may r (m ∷ n ∷ ms) one is h = absurd one

-- nothing came between
next-called : (r : ℕ) (answers : List Told → List Told → Type 0) (old new : PassFacts Told) → lock.CalledNext begins_of r answers old new
    → lock.Called begins_of r answers old new
next-called r answers old new c = (
  [],
  c.0,
  c.1 ∙ ap (λ (xs : List Told). xs ++ c.0) (sym (append-nil old.seen)),
  subst (λ (xs : List Told). answers xs c.0) (sym (append-nil old.seen)) c.2,
  c.3,
  c.4,
  c.5,
)

-- the role's moves grow by what the call adds
one-more : (added : List Told) (made : List (Moves Told)) → HasOneRole made
    → HasOneRole (adds added made) × (role_in (adds added made) ≡ role_in made)
    × (reverse (moves_in (adds added made)) ≡ reverse added ++ reverse (moves_in made))
one-more added [] one = absurd one
one-more added (m ∷ []) one = (tt, refl, reverse-append m.entries added)
one-more added (m ∷ n ∷ ms) one = absurd one

-- of its one role the pass has made just these moves
pub exact-one : (log : List Told) (made : List (Moves Told)) → HasOneRole made → AreExact begins_of log made
    → moves_by (role_in made) (reverse log) ≡ reverse (moves_in made)
exact-one log [] one a = absurd one
exact-one log (m ∷ []) one a = moves-back m.role log m.entries a.0
exact-one log (m ∷ n ∷ ms) one a = absurd one

module _ {F B O : Type 0} (fs : Frames F B) (s : Setting) where
  pub calls-one : (o : DeskOp F) (answer : DeskReply F B O) (old new : PassFacts Told) → HasOneRole old.made
      → lock.Called begins_of (role_of o) (λ before added. IsPlayed fs s before o answer added) old new → HasOneRole new.made
  calls-one o answer old new one c = subst (λ (ms : List (Moves Told)). HasOneRole ms) (sym c.5) (one-more c.1 old.made one).0

  pub called : (o : DeskOp F) (answer : DeskReply F B O) (before : Said) (answers : Said → Said) (old new : PassFacts Told)
      → HasOneRole old.made → role_in old.made ≡ role_of o
      → lock.Called begins_of (role_of o) (λ log added. IsPlayed fs s log o answer added) old new
      → Called s (λ b d. Replies fs s b o answer d) answers (known_by old before) (known_by new (answers before))
  called o answer before answers old new one is c =
      let more = one-more c.1 old.made one in
      let apart : reverse (old.seen ++ c.0) ≡ reverse c.0 ++ reverse old.seen = reverse-append old.seen c.0 in
      let back : reverse ((old.seen ++ c.0) ++ c.1) ≡ reverse new.seen = ap (λ (xs : List Told). reverse xs) (sym c.2) in
      record {
        between = reverse c.0;
        added = reverse c.1;
        seen = sym back ∙ (reverse-append (old.seen ++ c.0) c.1 ∙ ap (λ (xs : List Told). reverse c.1 ++ xs) apart);
        answer = subst₂ (λ (b d : BoardState). Replies fs s b o answer d) apart back c.3.replies;
        move = subst (λ (r : ℕ). IsMoveOf r (reverse c.1)) (sym is) (move-back (role_of o) c.1 c.4);
        made = ap (λ (ms : List (Moves Told)). reverse (moves_in ms)) c.5 ∙ more.2;
        exact =
            ap (λ (r : ℕ). moves_by r (reverse new.seen)) (sym (ap (λ (ms : List (Moves Told)). role_in ms) c.5 ∙ more.1))
            ∙ exact-one new.seen new.made (subst (λ (ms : List (Moves Told)). HasOneRole ms) (sym c.5) more.0) c.6;
        role = ap (λ (ms : List (Moves Told)). role_in ms) c.5 ∙ more.1;
        said = refl;
        legal = subst (λ (b : BoardState). is_history s (past b) ≡ true) back c.3.legal;
        drained = subst (λ (b : BoardState). only_drain_saves s (past b) ≡ true) back c.3.drained;
      }

-- WHAT IS HANDED OUT, BY THE ROLE'S OWN MOVES

module _ (r : ℕ) (b made : BoardState) (is : moves_by r b ≡ made) where
  hand-made : hand r (past b) ≡ hand r (past made)
  hand-made = sym (moves-tell b r).0 ∙ ap (λ (x : BoardState). hand r (past x)) is

  lent-made : lent_to r b ≡ lent_to r made
  lent-made = sym (moves-tell b r).1 ∙ ap (λ (x : BoardState). lent_to r x) is

  room-made : {B : Type 0} (bytes_of : B → ℕ) (s : Setting) (a : Load B) → HasRoom bytes_of s r a b → HasRoom bytes_of s r a made
  room-made bytes_of s (Loaded k blank) h = (h.0, h.1 ∙ ap (λ (o : Option Entry). granted_size o) hand-made)
  room-made bytes_of s _ h = tt

  blank-made : {B : Type 0} (need : ℕ) (bytes_of : B → ℕ) (blank : Option B)
      → OfSome (λ (x : B). (need ≤ bytes_of x) × (bytes_of x ≡ granted_size (hand r (past b)))) blank
      → OfSome (λ (x : B). (need ≤ bytes_of x) × (bytes_of x ≡ granted_size (hand r (past made)))) blank
  blank-made need bytes_of None h = tt
  blank-made need bytes_of (Some x) h = (h.0, h.1 ∙ ap (λ (o : Option Entry). granted_size o) hand-made)

  job-made : {F B O : Type 0} (parts : F → Option Parts) (bytes_of : B → ℕ) (s : Setting) (v : ℕ) (a : Take F B O)
      → LendsJob {F = F} {B = B} {O = O} parts bytes_of s r v a b
      → LendsJob {F = F} {B = B} {O = O} parts bytes_of s r v a made
  job-made parts bytes_of s v (Job w input blank) h = (sym lent-made ∙ h.0, blank-made (s.need v) bytes_of blank h.1)
  job-made parts bytes_of s v _ h = tt

  piece-made : {F : Type 0} (parts : F → Option Parts) (a : Save F) → LendsPiece parts r a b → LendsPiece parts r a made
  piece-made parts (Piece input group place of) h = sym lent-made ∙ h
  piece-made parts _ h = tt

pub lends-made : {F B O : Type 0} (fs : Frames F B) (s : Setting) (o : DeskOp F) (answer : DeskReply F B O) (b made : BoardState)
    → moves_by (role_of o) b ≡ made
    → Lends fs s o answer b → Lends fs s o answer made
lends-made fs s (op.Load r tick) (reply.Load a) b made is h = room-made r b made is fs.bytes_of s a h
lends-made {F} {B} {O} fs s (op.Take r v) (reply.Take a) b made is h = job-made r b made is {F = F} {B = B} {O = O} fs.parts fs.bytes_of s v a h
lends-made fs s (op.Save r v) (reply.Save a) b made is h = piece-made r b made is fs.parts a h
lends-made fs s _ _ b made is h = tt

pub called-lends : {F B O : Type 0} (fs : Frames F B) (s : Setting) (o : DeskOp F) (answer : DeskReply F B O) (old new : PassFacts Told) → HasOneRole old.made
    → role_in old.made ≡ role_of o → lock.Called begins_of (role_of o) (λ before added. IsPlayed fs s before o answer added) old new
    → Lends fs s o answer (reverse (moves_in new.made))
called-lends fs s o answer old new one is c =
    let more = one-more c.1 old.made one in
    let ours = subst (λ (ms : List (Moves Told)). HasOneRole ms) (sym c.5) more.0 in
    let role_ : role_in new.made ≡ role_of o = ap (λ (ms : List (Moves Told)). role_in ms) c.5 ∙ (more.1 ∙ is) in
    let exact_ = subst (λ (r : ℕ). moves_by r (reverse new.seen) ≡ reverse (moves_in new.made)) role_ (exact-one new.seen new.made ours c.6) in
    let back : reverse ((old.seen ++ c.0) ++ c.1) ≡ reverse new.seen = ap (λ (xs : List Told). reverse xs) (sym c.2) in
    lends-made fs s o answer (reverse new.seen) (reverse (moves_in new.made)) exact_ (subst (λ (b : BoardState). Lends fs s o answer b) back c.3.lends)

-- TWO CALLS IN ONE TURN

module _ {F B O : Type 0} (fs : Frames F B) (s : Setting) (one two : DeskOp F) (a b : DeskReply F B O) (old new : PassFacts Told) (ours : HasOneRole old.made)
    (by_one : role_in old.made ≡ role_of one) (by_two : role_in old.made ≡ role_of two)
    (c : lock.CalledBoth begins_of (role_of one) (λ log added. IsPlayed fs s log one a added) (λ log added. IsPlayed fs s log two b added) old new) where
  -- what the pass has seen and made between them
  abbrev between : PassFacts Told
  between = c.0

  between-ours : HasOneRole between.made
  between-ours = calls-one fs s one a old between ours c.2

  between-role : role_in between.made ≡ role_of two
  between-role = ap (λ (ms : List (Moves Told)). role_in ms) c.2.5 ∙ ((one-more c.2.1 old.made ours).1 ∙ by_two)

  second-called : lock.Called begins_of (role_of two) (λ log added. IsPlayed fs s log two b added) between new
  second-called =
      subst (λ (r : ℕ). lock.Called begins_of r (λ log added. IsPlayed fs s log two b added) between new) (sym by_one ∙ by_two)
      (next-called (role_of one) (λ log added. IsPlayed fs s log two b added) between new c.3)

  pub both-ours : HasOneRole new.made
  both-ours = calls-one fs s two b between new between-ours second-called

  pub both-called : (before after : Said) (first second : Said → Said) → after ≡ second (first before)
      → CalledBoth s (λ x y. Replies fs s x one a y) (λ x y. Replies fs s x two b y) first second (known_by old before) (known_by new after)
  both-called before after first second is =
      record {
        middle = known_by between (first before);
        first = called fs s one a before first old between ours by_one c.2;
        second =
            subst (λ (said : Said). Called s (λ x y. Replies fs s x two b y) second (known_by between (first before)) (known_by new said)) (sym is)
            (called fs s two b (first before) second between new between-ours between-role second-called);
      }

  pub both-lend : Lends fs s two b (reverse (moves_in new.made))
  both-lend = called-lends fs s two b between new between-ours between-role second-called

-- the pass keeps what was answered
pub told-last : (s : Setting) (gives : BoardState → BoardState → Type 0) (answers : Said → Said) (old : Pass) (new : PassFacts Told) (before after : Said)
    → after ≡ answers before → Called s gives answers old (known_by new (answers before)) → Called s gives answers old (known_by new after)
told-last s gives answers old new before after is c = subst (λ (x : Said). Called s gives answers old (known_by new x)) (sym is) c
