-- What an operation asks, and what it adds.
use Rattle.std.proofs.Common.{◌≡◌, ℕ, ◌<◌, ◌≤◌, true, [], ◌∷◌, ◌++◌, refl, sym, ◌∙◌, subst, subst₂, arith, Option, Some, None}
use Rattle.std.specs.Prelude.{IsTrue}
use Rattle.std.specs.List.{list_all}
use Rattle.std.proofs.lemmas.Bool.{and_parts, and_from, false≢true, eqb-true, eq-eqb}
use Rattle.nd_base.specs.Parts.{Parts}
use Rattle.flow_journal.specs.declared.entry.Entry.{Entry}
use Rattle.flow_journal.specs.declared.entry.Entry.TheVariants.{Save}
use Rattle.flow_journal.specs.Setting.{Setting, last_role}
use Rattle.flow_journal.specs.Histories.{is_history}
use Rattle.board_rules.specs.declared.answers.Done.{Done}
use Rattle.board_rules.specs.States.{BoardState, past}
use Rattle.board_rules.specs.Movers.{moves_by, IsMoveOf}
use Rattle.board_rules.specs.InHand.{is_load_of, is_job_on, is_piece_on, granted_size, IsWholeOf, OfSome}
use Rattle.board_rules.specs.Feeding.{MayIssue}
use Rattle.board_rules.specs.Working.{IsResult, MayPut}
use Rattle.board_rules.specs.Saving.{MaySaved}
use Rattle.board_rules.specs.Runs.{Frames, Call, Loads, Issues, Takes, Puts, Settles, Saves as SavesOne, Saveds, Closes, Leaves, Asks, May, Gives, caller}
use Rattle.board_rules.specs.Runs.{saver}
use Rattle.board_rules.specs.RunLaws.{BringsAll, IsAddedBy, saves_as}
use Rattle.board_rules.specs.Storage.{HasAllStorage}
use Rattle.board_rules.proofs.Moves.{moves-tell}
use Rattle.board_rules.proofs.Callers.{calls-add}
use Rattle.board_rules.proofs.Legal.{runs-legal}
use Rattle.board_rules.proofs.Storage.{calls-keep}
use Rattle.flow_roles.specs.declared.operation.DeskOp.{DeskOp}
use Rattle.flow_roles.specs.declared.operation.DeskOp.TheVariants as op
use Rattle.flow_roles.specs.declared.operation.DeskReply.TheVariants as reply
use Rattle.flow_roles.specs.Passes.{saved_by_drain, only_drain_saves}
use Rattle.flow_roles.specs.Operations.{role_of, MayPlay, RepliesAreMoves, MovesAllow}

-- WHAT A ROLE'S MOVES ALLOW

below : (r n : ℕ) → r < n → r ≤ n
below r n h = omega arith

at_end : (r n : ℕ) → r ≡ n → r ≤ n
at_end r n h = omega arith

issue-allowed : {F B : Type 0} (fs : Frames F B) (b : BoardState) (r : ℕ) (f : F) → MayIssue fs.name_of fs.parts (moves_by r b) r f
    → MayIssue fs.name_of fs.parts b r f
issue-allowed fs b r f h =
    subst (λ (o : Option Entry). IsTrue (is_load_of (fs.name_of f) o) → IsWholeOf (granted_size o) (fs.parts f)) (moves-tell b r).0 h

put-allowed : {F B : Type 0} (fs : Frames F B) (s : Setting) (b : BoardState) (r : ℕ) (done : Done F)
    → MayPut fs.name_of fs.parts fs.measure_at s (moves_by r b) r done → MayPut fs.name_of fs.parts fs.measure_at s b r done
put-allowed fs s b r done h =
    subst₂ (λ (o : Option Entry) (lent : Option Parts). IsTrue (is_job_on done.node (fs.name_of done.input) o)
    → IsResult fs.name_of fs.measure_at s done × (fs.parts done.input ≡ lent) × OfSome (λ f. IsWholeOf (granted_size o) (fs.parts f)) done.made)
    (moves-tell b r).0 (moves-tell b r).1 h

saved-allowed : {F B : Type 0} (fs : Frames F B) (b : BoardState) (r : ℕ) (f : F) → MaySaved fs.name_of fs.parts (moves_by r b) r f
    → MaySaved fs.name_of fs.parts b r f
saved-allowed fs b r f h =
    subst₂ (λ (o : Option Entry) (lent : Option Parts). IsTrue (is_piece_on (fs.name_of f) o) → fs.parts f ≡ lent) (moves-tell b r).0 (moves-tell b r).1 h

pub moves_allow : {F B : Type 0} → MovesAllow F B
moves_allow fs s b (op.Load r tick) h = h
moves_allow fs s b (op.Issue r f) h = (h.0, issue-allowed fs b r f h.1)
moves_allow fs s b (op.Take r v) h = h
moves_allow fs s b (op.Put r done) h = (h.0, h.1, put-allowed fs s b r done h.2)
moves_allow fs s b (op.Settle r v) h = h
moves_allow fs s b (op.Close r) h = h
moves_allow fs s b (op.Leave r) h = h
moves_allow fs s b (op.Save r v) h = h
moves_allow fs s b (op.Saved r f) h = (h.0, saved-allowed fs b r f h.1)
moves_allow fs s b (op.Progress r) h = h

-- whose role is one of the run
pub role-most : {F B : Type 0} (fs : Frames F B) (s : Setting) (made : BoardState) (o : DeskOp F) → MayPlay fs s made o → role_of o ≤ last_role s
role-most fs s made (op.Load r tick) h = below r (last_role s) h
role-most fs s made (op.Issue r f) h = below r (last_role s) h.0
role-most fs s made (op.Take r v) h = below r (last_role s) h.0
role-most fs s made (op.Put r done) h = below r (last_role s) h.0
role-most fs s made (op.Settle r v) h = below r (last_role s) h.0
role-most fs s made (op.Close r) h = below r (last_role s) h
role-most fs s made (op.Leave r) h = below r (last_role s) h
role-most fs s made (op.Save r v) h = at_end r (last_role s) h.0
role-most fs s made (op.Saved r f) h = at_end r (last_role s) h.0
role-most fs s made (op.Progress r) h = h

-- the same of an operation that is known to be one of these
pub issue_by : {F B : Type 0} (fs : Frames F B) (s : Setting) (b : BoardState) (o : DeskOp F) (r : ℕ) (f : F) → o ≡ op.Issue r f
    → MayPlay fs s (moves_by (role_of o) b) o → MayIssue fs.name_of fs.parts b r f
issue_by fs s b o r f is h = issue-allowed fs b r f (subst (λ (p : DeskOp _). MayPlay fs s (moves_by (role_of p) b) p) is h).1

pub put_by : {F B : Type 0} (fs : Frames F B) (s : Setting) (b : BoardState) (o : DeskOp F) (r : ℕ) (done : Done F) → o ≡ op.Put r done
    → MayPlay fs s (moves_by (role_of o) b) o → MayPut fs.name_of fs.parts fs.measure_at s b r done
put_by fs s b o r done is h = put-allowed fs s b r done (subst (λ (p : DeskOp _). MayPlay fs s (moves_by (role_of p) b) p) is h).2

pub saved_by : {F B : Type 0} (fs : Frames F B) (s : Setting) (b : BoardState) (o : DeskOp F) (r : ℕ) (f : F) → o ≡ op.Saved r f
    → MayPlay fs s (moves_by (role_of o) b) o → MaySaved fs.name_of fs.parts b r f
saved_by fs s b o r f is h = saved-allowed fs b r f (subst (λ (p : DeskOp _). MayPlay fs s (moves_by (role_of p) b) p) is h).1

-- WHAT AN OPERATION ADDS

-- the call is of the role, or nobody's; what saves is the drain
IsOf : {F B O : Type 0} → Setting → ℕ → Call F B O → Type 0
IsOf s r call = OfSome (λ q. q ≡ r) (caller call) × OfSome (λ q. q ≡ last_role s) (saver call)

saved-by-one : (s : Setting) (q : Option ℕ) (e : Entry) → OfSome (λ r. r ≡ last_role s) q → saves_as q e ≡ true → saved_by_drain s e ≡ true
saved-by-one s (Some r) (Save p v m k g) h i = eq-eqb p (last_role s) (eqb-true p r i ∙ h)
saved-by-one s None (Save p v m k g) h i = absurd (false≢true i)
saved-by-one s q _ h i = refl

drained-by : (s : Setting) (q : Option ℕ) (added old : BoardState) → OfSome (λ r. r ≡ last_role s) q → list_all (saves_as q) (past added) ≡ true
    → only_drain_saves s (past old) ≡ true → only_drain_saves s (past (added ++ old)) ≡ true
drained-by s q [] old h i d = d
drained-by s q (t ∷ added) old h i d =
    let p = and_parts (saves_as q t.entry) (list_all (saves_as q) (past added)) i in
    and_from _ _ (saved-by-one s q t.entry h p.0) (drained-by s q added old h p.1 d)

move-of : (o : Option ℕ) (r : ℕ) (added : BoardState) → OfSome (λ q. q ≡ r) o → IsAddedBy o added → IsMoveOf r added
move-of (Some q) r added h i = subst (λ (p : ℕ). IsMoveOf p added) h i
move-of None r added h i = subst (λ (a : BoardState). IsMoveOf r a) (sym i) tt

call-moves : {F B O : Type 0} (fs : Frames F B) (s : Setting) (old new : BoardState) (call : Call F B O) (r : ℕ) → IsOf s r call → BringsAll fs old call
    → May fs s old call → Gives fs s old call new
    → ((added : BoardState) × (new ≡ added ++ old) × IsMoveOf r added)
    × (s.pooled ≡ true → is_history s (past old) ≡ true → is_history s (past new) ≡ true)
    × (only_drain_saves s (past old) ≡ true → only_drain_saves s (past new) ≡ true)
    × (HasAllStorage fs.parts old → HasAllStorage fs.parts new)
unfolding IsOf
call-moves fs s old new call r of all may c =
    let a = calls-add fs s old new call c in (
      (a.0, a.1, move-of (caller call) r a.0 of.0 a.2),
      λ pooled h. runs-legal fs s old new (call ∷ []) pooled h (may, (new, c, refl)),
      λ d. subst (λ (b : BoardState). only_drain_saves s (past b) ≡ true) (sym a.1) (drained-by s (saver call) a.0 old of.1 a.3 d),
      λ h. calls-keep fs s old new call c all h,
    )

pub replies_are_moves : {F B O : Type 0} → RepliesAreMoves F B O
unfolding IsOf
replies_are_moves {F} {B} {O} fs s old new (op.Load r tick) (reply.Load answer) m c =
    call-moves {O = O} fs s old new (Loads r tick answer) r (refl, tt) tt (below r (last_role s) m) c
replies_are_moves {F} {B} {O} fs s old new (op.Issue r f) (reply.Issue answer) m c =
    call-moves {O = O} fs s old new (Issues r f answer) r (refl, tt) tt (below r (last_role s) m.0, m.1) c
replies_are_moves {F} {B} {O} fs s old new (op.Take r v) (reply.Take answer) m c =
    call-moves {O = O} fs s old new (Takes r v answer) r (refl, tt) tt (below r (last_role s) m.0, m.1) c
replies_are_moves {F} {B} {O} fs s old new (op.Put r done) (reply.Put answer) m c =
    call-moves {O = O} fs s old new (Puts r done answer) r (refl, tt) tt (below r (last_role s) m.0, m.1, m.2) c
replies_are_moves {F} {B} {O} fs s old new (op.Settle r v) (reply.Settle answer) m c =
    call-moves {O = O} fs s old new (Settles r v answer) r (refl, tt) tt (below r (last_role s) m.0, m.1) c
replies_are_moves {F} {B} {O} fs s old new (op.Close r) (reply.Close answer) m c =
    call-moves {O = O} fs s old new (Closes r answer) r (refl, tt) tt (below r (last_role s) m) c
replies_are_moves {F} {B} {O} fs s old new (op.Leave r) reply.Leave m c = call-moves {O = O} fs s old new (Leaves r) r (refl, tt) tt (below r (last_role s) m) c
replies_are_moves {F} {B} {O} fs s old new (op.Save r v) (reply.Save answer) m c =
    call-moves {O = O} fs s old new (SavesOne r v answer) r (refl, m.0) tt (at_end r (last_role s) m.0, m.1) c
replies_are_moves {F} {B} {O} fs s old new (op.Saved r f) (reply.Saved answer) m c =
    call-moves {O = O} fs s old new (Saveds r f answer) r (refl, tt) tt (at_end r (last_role s) m.0, m.1) c
replies_are_moves {F} {B} {O} fs s old new (op.Progress r) (reply.Progress answer) m c = call-moves {O = O} fs s old new (Asks answer) r (tt, tt) tt tt c
replies_are_moves {F} {B} {O} fs s old new _ _ m c = absurd c
