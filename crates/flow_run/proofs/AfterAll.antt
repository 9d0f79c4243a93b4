-- What comes once all roles have ended, as moves one after the other.
use Rattle.std.proofs.Common.{◌≡◌, ℕ, ◌≤◌, true, false, List, [], ◌∷◌, ◌++◌, length, refl, sym, ap, ◌∙◌, subst, arith}
use Rattle.std.specs.List.{list_all}
use Rattle.std.proofs.lemmas.Bool.{and_parts, false≢true}
use Rattle.nd_base.specs.declared.frame.FrameName.{FrameName}
use Rattle.flow_journal.specs.declared.entry.Entry.{Entry}
use Rattle.flow_journal.specs.declared.entry.Entry.TheVariants.{Load, LoadRefused, Issue, Take, TakeBlock, PoolDrop, Put, Settle, Save, Saved, Close, Leave}
use Rattle.flow_journal.specs.declared.entry.Entry.TheVariants.{Reclaim}
use Rattle.flow_journal.specs.Setting.{Setting, last_role}
use Rattle.flow_journal.specs.Pasts.{Past}
use Rattle.flow_journal.specs.Following.{calls_for}
use Rattle.board_rules.specs.declared.answers.Left.{Left}
use Rattle.board_rules.specs.States.{BoardState, past}
use Rattle.flow_journal.specs.MoveLists.{begun_by, is_some_of}
use Rattle.board_rules.specs.Moving.{with_all}
use Rattle.flow_drain.specs.Drains.{is_load, DrainMoves, taken_back}
use Rattle.flow_roles.specs.RoleMoves.{saver_logs}
use Rattle.flow_run.specs.Ticks.{is_after, AfterMoves}
use Rattle.flow_run.proofs.Movers.{after-on, after-drain, after-back}
use Rattle.flow_run.proofs.OwnMoves.{SavesOn}

-- an entry that saves is a move by itself
pub record Alone (s : Setting) (e : Entry) : Type 0 where
  pub after : is_after s e ≡ true
  pub no_load : is_load e ≡ false
  pub none : (P : Past) → calls_for s P e ≡ []

saves-alone : (s : Setting) (e : Entry) → is_some_of (last_role s) (begun_by e) ≡ true → saver_logs e ≡ true → Alone s e
saves-alone s (Save r v m k g) ours logs = record { after = ours; no_load = refl; none = λ P. refl }
saves-alone s (Saved r v m k) ours logs = record { after = ours; no_load = refl; none = λ P. refl }
saves-alone s (Load r k b n f g x) ours logs = absurd (false≢true logs)
saves-alone s (LoadRefused r k n z) ours logs = absurd (false≢true logs)
saves-alone s (Issue r k) ours logs = absurd (false≢true logs)
saves-alone s (Take r v m k) ours logs = absurd (false≢true logs)
saves-alone s (TakeBlock f x r v m k b n g) ours logs = absurd (false≢true logs)
saves-alone s (PoolDrop r v m k n z) ours logs = absurd (false≢true logs)
saves-alone s (Put r v m k f) ours logs = absurd (false≢true logs)
saves-alone s (Settle r v) ours logs = absurd (false≢true logs)
saves-alone s (Close r) ours logs = absurd (false≢true logs)
saves-alone s (Leave r) ours logs = absurd (false≢true logs)
saves-alone s (Reclaim r) ours logs = absurd (false≢true logs)
saves-alone s _ ours logs = absurd (false≢true ours)

after-all-saves : (s : Setting) (tick : ℕ) (added b : BoardState) → list_all (λ (e : Entry). is_some_of (last_role s) (begun_by e)) (past added) ≡ true
    → list_all saver_logs (past added) ≡ true
    → AfterMoves s tick b (added ++ b)
after-all-saves s tick [] b ours logs = AfterMoves.none b refl
after-all-saves s tick (t ∷ added) b ours logs =
    let o = and_parts (is_some_of (last_role s) (begun_by t.entry)) (list_all (λ (e : Entry). is_some_of (last_role s) (begun_by e)) (past added)) ours in
    let l = and_parts (saver_logs t.entry) (list_all saver_logs (past added)) logs in
    let one = saves-alone s t.entry o.0 l.0 in
    let here : BoardState = added ++ b in
    AfterMoves.more here (t ∷ here) t 0 (after-all-saves s tick added b o.1 l.1) one.after (λ load. absurd (false≢true (sym one.no_load ∙ load)))
    (sym (ap (λ (ds : List Entry). with_all s 0 3 ds (t ∷ here)) (one.none (past here))))

pub after-saves : (s : Setting) (tick : ℕ) (old new : BoardState) → SavesOn s old new → AfterMoves s tick old new
after-saves s tick old new h = subst (λ (b : BoardState). AfterMoves s tick old b) (sym h.whole) (after-all-saves s tick h.added old h.ours h.logs)

-- all that comes after the roles
pub after-all : {F B O : Type 0} (name_of : F → FrameName) (s : Setting) (tick : ℕ) (ends : List (Left F B O)) (joined ready done ended : BoardState)
    → length ends ≤ last_role s
    → SavesOn s joined ready → DrainMoves s tick (taken_back name_of s 0 ends ready) done → SavesOn s done ended → AfterMoves s tick joined ended
after-all {F} {B} {O} name_of s tick ends joined ready done ended few first drain rest =
    let mid : BoardState = taken_back {F = F} {B = B} {O = O} name_of s 0 ends ready in
    after-on s tick joined ready ended (after-saves s tick joined ready first)
    (after-on s tick ready mid ended (after-back name_of s tick 0 ends ready (omega (arith, few)))
    (after-on s tick mid done ended (after-drain s tick mid done drain) (after-saves s tick done ended rest)))
