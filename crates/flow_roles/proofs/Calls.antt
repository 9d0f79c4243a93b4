-- What a call of a desk leaves of a pass.
use Rattle.std.proofs.Common.{◌≡◌, ℕ, ◌≤◌, arith, Bool, true, false, [], ◌∷◌, ◌++◌, refl, sym, ap, ◌∙◌, subst, Option, Some, None, inl, inr}
use Rattle.std.specs.Prelude.{if◌then◌else◌}
use Rattle.std.specs.List.{list_all, list_any}
use Rattle.std.proofs.lemmas.Bool.{and_parts, and_from, cases_Bool}
use Rattle.std.proofs.lemmas.List.{append_assoc, append_cancel_left}
use Rattle.nd_base.specs.Parts.{Parts}
use Rattle.edge_traits.specs.Memory.{one_more}
use Rattle.flow_journal.specs.declared.entry.Entry.{Entry}
use Rattle.flow_journal.specs.declared.entry.Entry.TheVariants.{Load, LoadRefused, Issue, Take, TakeBlock, PoolDrop, Put, Settle, Save, Saved, Close, Leave}
use Rattle.flow_journal.specs.declared.entry.Entry.TheVariants.{Reclaim}
use Rattle.flow_journal.specs.Setting.{Setting}
use Rattle.flow_journal.specs.Pasts.{Past}
use Rattle.flow_journal.specs.Hands.{takes_up, hand}
use Rattle.flow_journal.specs.Histories.{is_legal}
use Rattle.flow_journal.specs.EntryLaws.{lets_go}
use Rattle.flow_journal.proofs.Changes.{hand_laws}
use Rattle.board_rules.specs.declared.told.Told.{Told}
use Rattle.board_rules.specs.States.{BoardState, past, lent_to}
use Rattle.flow_journal.specs.MoveLists.{begun_by}
use Rattle.board_rules.specs.Movers.{moves_by, IsMoveOf}
use Rattle.board_rules.specs.Moving.{moved_at}
use Rattle.board_rules.proofs.Moves.{followers, one-move, moves-added, moves-tell, GoOn}
use Rattle.flow_roles.specs.declared.last.Said.{Said}
use Rattle.flow_roles.specs.Lasts.{is_gone, IsActive}
use Rattle.flow_roles.specs.Passes.{Pass, Called}

-- WHAT FOLLOWS THE FIRST ENTRY OF A MOVE

-- an entry that begins no move changes no hand
quiet : (r : ℕ) (e : Entry) → begun_by e ≡ None → (takes_up r e ≡ false) × (lets_go r e ≡ false)
quiet r (Load q k b n f g x) h = cc
quiet r (LoadRefused q k n z) h = cc
quiet r (Issue q k) h = cc
quiet r (Take q v m k) h = cc
quiet r (TakeBlock f x q v m k b n g) h = cc
quiet r (PoolDrop q v m k n z) h = cc
quiet r (Put q v m k f) h = cc
quiet r (Settle q v) h = cc
quiet r (Save q v m k g) h = cc
quiet r (Saved q v m k) h = cc
quiet r (Close q) h = cc
quiet r (Leave q) h = cc
quiet r (Reclaim q) h = cc
quiet r _ h = (refl, refl)

-- and so it is with what comes after the first entry of a move
pub from-move : (r : ℕ) (more : BoardState) (t : Told) → IsMoveOf r (more ++ t ∷ []) → GoOn more
from-move r [] t h = tt
from-move r (u ∷ []) t h = (h.0, tt)
from-move r (u ∷ w ∷ more) t h = (h.0, from-move r (w ∷ more) t h.1)

hand-on : (r : ℕ) (more b : BoardState) → GoOn more → hand r (past (more ++ b)) ≡ hand r (past b)
hand-on r [] b g = refl
hand-on r (u ∷ more) b g =
    let q = quiet r u.entry g.0 in
    hand_laws.others r u.entry (past (more ++ b)) q.0 q.1 ∙ hand-on r more b g.1

lent-on : (r : ℕ) (more b : BoardState) → GoOn more → lent_to r (more ++ b) ≡ lent_to r b
lent-on r [] b g = refl
lent-on r (u ∷ more) b g = rw (quiet r u.entry g.0).0 (lent-on r more b g.1)

logs-on : (logs : Entry → Bool) (more b : BoardState) → ((e : Entry) → begun_by e ≡ None → logs e ≡ true) → GoOn more → list_all logs (past b) ≡ true
    → list_all logs (past (more ++ b)) ≡ true
logs-on logs [] b q g h = h
logs-on logs (u ∷ more) b q g h = and_from _ _ (q u.entry g.0) (logs-on logs more b q g.1 h)

any-on : (p : Entry → Bool) (more b : BoardState) → list_any p (past b) ≡ true → list_any p (past (more ++ b)) ≡ true
any-on p [] b h = h
any-on p (u ∷ more) b h =
    elim (cases_Bool (p u.entry)) [
      | inl yes_ ↦ rw yes_ refl
      | inr no_ ↦ rw no_ (any-on p more b h)
    ]

legal-on : (s : Setting) (more b : BoardState) → is_legal s (past (more ++ b)) ≡ true → is_legal s (past b) ≡ true
legal-on s [] b h = h
legal-on s (u ∷ more) b h = legal-on s more b (and_parts (is_legal s (past (more ++ b))) _ h).0

-- what a move with no condition on its entries says
pub all-true : (P : Past) → list_all (λ (e : Entry). true) P ≡ true
all-true [] = refl
all-true (e ∷ P) = all-true P

-- A CALL

-- the part that a role is lent after an entry
abbrev pub lent_then : ℕ → Told → Option Parts → Option Parts
lent_then r t lent = if takes_up r t.entry then t.lent else lent

-- what a pass says after a move that begins with this entry, where the log was this before
pub record Moved (s : Setting) (logs : Entry → Bool) (r : ℕ) (t : Told) (b : BoardState) (old new : Pass) : Type 0 where
  pub moves : list_all logs (past new.made) ≡ true
  pub hand : hand r (past new.made) ≡ hand r (t.entry ∷ past b)
  pub lent : lent_to r new.made ≡ lent_then r t (lent_to r old.made)
  pub legal : is_legal s (t.entry ∷ past b) ≡ true
  pub seen : (p : Entry → Bool) → p t.entry ≡ true → list_any p (past new.seen) ≡ true

module _ (s : Setting) (gives : BoardState → BoardState → Type 0) (answers : Said → Said) (old new : Pass) (r : ℕ) (is : old.role ≡ r)
    (c : Called s gives answers old new) where
  -- the log before the call
  abbrev pub here : BoardState
  here = c.between ++ old.seen

  exactly : moves_by r new.seen ≡ new.made
  exactly = subst (λ (q : ℕ). moves_by q new.seen ≡ new.made) is c.exact

  -- of the role's moves there are just those that the pass had made
  before : moves_by r here ≡ old.made
  before =
      append_cancel_left c.added (moves_by r here) old.made
      (sym (moves-added c.added here r (subst (λ (q : ℕ). IsMoveOf q c.added) is c.move)).0
      ∙ (ap (λ (b : BoardState). moves_by r b) (sym c.seen) ∙ (exactly ∙ c.made)))

  pub hand-before : hand r (past here) ≡ hand r (past old.made)
  hand-before = sym (moves-tell here r).0 ∙ ap (λ (b : BoardState). hand r (past b)) before

  pub hand-after : hand r (past new.seen) ≡ hand r (past new.made)
  hand-after = sym (moves-tell new.seen r).0 ∙ ap (λ (b : BoardState). hand r (past b)) exactly

  pub role-after : new.role ≡ r
  role-after = c.role ∙ is

  -- no call was answered NotYours, and neither was this one
  pub still-owned : (answers old.said).owned ≡ old.said.owned → old.said.owned ≡ true → new.said.owned ≡ true
  still-owned mine all = ap (λ (said : Said). said.owned) c.said ∙ (mine ∙ all)

  -- and it goes on
  pub still-active : (answers old.said).wanted ≡ old.said.wanted → is_gone (answers old.said).last ≡ false → IsActive old.said → IsActive new.said
  still-active had stays active = (
    ap (λ (said : Said). said.wanted) c.said ∙ (had ∙ active.0),
    ap (λ (said : Said). is_gone said.last) c.said ∙ stays,
  )

  -- a call for which there was no memory
  pub wanted-once : (answers old.said).wanted ≡ one_more old.said.wanted → IsActive old.said → new.said.wanted ≤ 1
  wanted-once wants active =
      let one : new.said.wanted ≡ one_more old.said.wanted = ap (λ (said : Said). said.wanted) c.said ∙ wants in
      let none : old.said.wanted ≡ 0 = active.0 in
      omega (arith, one, none)

  -- a call that changed nothing
  pub unmoved : new.seen ≡ here → new.made ≡ old.made
  unmoved h = sym exactly ∙ (ap (λ (b : BoardState). moves_by r b) h ∙ before)

  -- a call that made a move
  pub moved : (logs : Entry → Bool) (tick : ℕ) (t : Told) → new.seen ≡ moved_at s tick t here → begun_by t.entry ≡ Some r
      → ((e : Entry) → begun_by e ≡ None → logs e ≡ true) → logs t.entry ≡ true → list_all logs (past old.made) ≡ true → Moved s logs r t here old new
  moved logs tick t h first quiet_ here_ rest =
      let f = followers s tick t here in
      let one = one-move r f.more t f.go first in
      let after = from-move r f.more t one in
      let seen_ : new.seen ≡ f.more ++ t ∷ here = h ∙ f.whole in
      let whole : new.seen ≡ (f.more ++ t ∷ []) ++ here = seen_ ∙ sym (append_assoc f.more (t ∷ []) here) in
      let made_ : new.made ≡ f.more ++ t ∷ old.made =
      sym exactly ∙ (ap (λ (b : BoardState). moves_by r b) whole ∙ ((moves-added (f.more ++ t ∷ []) here r one).0
      ∙ (ap (λ (b : BoardState). (f.more ++ t ∷ []) ++ b) before ∙ append_assoc f.more (t ∷ []) old.made))) in
      let legal_ : is_legal s (past (f.more ++ t ∷ here)) ≡ true =
      subst (λ (b : BoardState). is_legal s (past b) ≡ true) seen_ (and_parts (is_legal s (past new.seen)) _ c.legal).0 in
      record {
        moves =
            subst (λ (b : BoardState). list_all logs (past b) ≡ true) (sym made_) (logs-on logs f.more (t ∷ old.made) quiet_ after (and_from _ _ here_ rest));
        hand =
            ap (λ (b : BoardState). hand r (past b)) (sym exactly)
            ∙ ((moves-tell new.seen r).0 ∙ (ap (λ (b : BoardState). hand r (past b)) seen_ ∙ hand-on r f.more (t ∷ here) after));
        lent = ap (λ (b : BoardState). lent_to r b) made_ ∙ lent-on r f.more (t ∷ old.made) after;
        legal = legal-on s f.more (t ∷ here) legal_;
        seen = λ p yes_. subst (λ (b : BoardState). list_any p (past b) ≡ true) (sym seen_) (any-on p f.more (t ∷ here) (rw yes_ refl));
      }
