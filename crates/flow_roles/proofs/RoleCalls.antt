-- What leaving and waiting leave of a pass.
use Rattle.std.proofs.Common.{◌≡◌, ℕ, ◌≤◌, arith, Bool, true, false, [], ◌∷◌, refl, sym, ap, ◌∙◌, subst, Option, None, inl, inr}
use Rattle.std.specs.List.{list_all}
use Rattle.std.proofs.lemmas.Bool.{cases_Bool, false≢true}
use Rattle.nd_base.specs.Parts.{Parts}
use Rattle.nd_base.specs.declared.frame.FrameName.{FrameName}
use Rattle.flow_journal.specs.declared.entry.Entry.{Entry}
use Rattle.flow_journal.specs.declared.entry.Entry.TheVariants.{Load, LoadRefused, Issue, Take, TakeBlock, PoolDrop, Put, Settle, Save, Saved, Close, Leave}
use Rattle.flow_journal.specs.declared.entry.Entry.TheVariants.{Reclaim}
use Rattle.flow_journal.specs.Setting.{Setting}
use Rattle.flow_journal.specs.Pasts.{Past}
use Rattle.flow_journal.specs.Hands.{hand}
use Rattle.flow_journal.specs.Ended.{leaves_as, leaves, has_left, has_left_any}
use Rattle.board_rules.specs.declared.answers.Left.{Left}
use Rattle.board_rules.specs.States.{BoardState, past, plain, lent_to}
use Rattle.flow_journal.specs.MoveLists.{begun_by}
use Rattle.board_rules.specs.Leaving.{LeaveGives}
use Rattle.flow_roles.specs.declared.last.Last.{Last}
use Rattle.flow_roles.specs.declared.last.Last.TheVariants.{Gone}
use Rattle.flow_roles.specs.declared.last.Said.{Said}
use Rattle.flow_roles.specs.Lasts.{said_leave, IsActive, HasWanted}
use Rattle.flow_roles.specs.Passes.{Pass, Called}
use Rattle.flow_roles.specs.RoleMoves.{feeder_logs, worker_logs, IsFresh, HasNothing}
use Rattle.flow_roles.specs.declared.role_end.Round.{Round}
use Rattle.flow_roles.specs.declared.role_end.Round.TheVariants.{End}
use Rattle.board_rules.specs.InHand.{IsOfHand}
use Rattle.flow_roles.specs.RoleEnds.{HasEnded, HasGone}
use Rattle.flow_roles.proofs.Calls.{here, unmoved, moved, hand-before, role-after}

pub feeder-quiet : (e : Entry) → begun_by e ≡ None → feeder_logs e ≡ true
feeder-quiet (Take q v m k) h = cc
feeder-quiet (TakeBlock f x q v m k b n g) h = cc
feeder-quiet (PoolDrop q v m k n z) h = cc
feeder-quiet (Put q v m k f) h = cc
feeder-quiet (Settle q v) h = cc
feeder-quiet (Save q v m k g) h = cc
feeder-quiet (Saved q v m k) h = cc
feeder-quiet (Reclaim q) h = cc
feeder-quiet _ h = refl

pub worker-quiet : (v : ℕ) (e : Entry) → begun_by e ≡ None → worker_logs v e ≡ true
worker-quiet v (Load q k b n f g x) h = cc
worker-quiet v (LoadRefused q k n z) h = cc
worker-quiet v (Issue q k) h = cc
worker-quiet v (Take q w m k) h = cc
worker-quiet v (TakeBlock f x q w m k b n g) h = cc
worker-quiet v (PoolDrop q w m k n z) h = cc
worker-quiet v (Put q w m k f) h = cc
worker-quiet v (Settle q w) h = cc
worker-quiet v (Save q w m k g) h = cc
worker-quiet v (Saved q w m k) h = cc
worker-quiet v (Close q) h = cc
worker-quiet v (Reclaim q) h = cc
worker-quiet v _ h = refl

-- before its first call a role has nothing in hand
pub fresh-nothing : (logs : Entry → Bool) (r : ℕ) (p : Pass) → IsFresh r p → HasNothing logs r p
fresh-nothing logs r p f =
    record {
      role = f.role;
      moves = subst (λ (b : BoardState). list_all logs (past b) ≡ true) (sym f.made) refl;
      free = ap (λ (b : BoardState). hand r (past b)) f.made;
    }

-- and no call was answered NotYours
pub fresh-owned : (r : ℕ) (p : Pass) → IsFresh r p → p.said.owned ≡ true
fresh-owned r p f = ap (λ (said : Said). said.owned) f.said

-- and there was memory for each
pub fresh-active : (r : ℕ) (p : Pass) → IsFresh r p → IsActive p.said
fresh-active r p f = subst (λ (said : Said). IsActive said) (sym f.said) (refl, refl)

pub none-few : (said : Said) → IsActive said → said.wanted ≤ 1
none-few said active = let none : said.wanted ≡ 0 = active.0 in omega (arith, none)

-- a role at which memory was wanting once, if at all, and that then leaves
left-wanting : (old new : Said) → new ≡ said_leave old → old.wanted ≤ 1 → HasWanted new
left-wanting old new is few = subst (λ (said : Said). HasWanted said) (sym is) (few, λ some. refl)

-- one at which memory was never wanting
never-wanting : (said : Said) → said.wanted ≡ 0 → HasWanted said
never-wanting said none = (omega (arith, none), λ some. absurd (omega (arith, none, some)))

-- a call that changed nothing
pub kept : (logs : Entry → Bool) (r : ℕ) (old new : Pass) → new.role ≡ r → new.made ≡ old.made → HasNothing logs r old → HasNothing logs r new
kept logs r old new role same n =
    record {
      role = role;
      moves = subst (λ (b : BoardState). list_all logs (past b) ≡ true) (sym same) n.moves;
      free = ap (λ (b : BoardState). hand r (past b)) same ∙ n.free;
    }

one-left : (r : ℕ) (e : Entry) → leaves_as r e ≡ true → leaves e ≡ true
one-left r (Leave q) h = refl
one-left r _ h = absurd (false≢true h)

pub some-left : (r : ℕ) (P : Past) → has_left r P ≡ true → has_left_any P ≡ true
some-left r [] h = absurd (false≢true h)
some-left r (e ∷ P) h =
    elim (cases_Bool (leaves_as r e)) [
      | inl here_ ↦ rw (one-left r e here_) refl
      | inr away ↦ elim (cases_Bool (leaves e)) [
        | inl other ↦ rw other refl
        | inr none_ ↦ rw none_ (some-left r P (rw away at h))
      ]
    ]

module _ {F B O : Type 0} (name_of : F → FrameName) (parts : F → Option Parts)
    (bytes_of : B → ℕ) (s : Setting) (logs : Entry → Bool) (ends : Last → Past → Bool → Bool)
    (r : ℕ) (old new : Pass) (left : Left F B O) where
  -- a role that leaves has in hand what it had
  pub leave-ends : old.role ≡ r → ((e : Entry) → begun_by e ≡ None → logs e ≡ true) → logs (Leave r) ≡ true
      → ((P : Past) → has_left_any P ≡ true → ends Gone P true ≡ true) → list_all logs (past old.made) ≡ true
      → IsOfHand name_of parts bytes_of (lent_to r old.made) (hand r (past old.made)) left.input left.made left.blank → old.said.wanted ≤ 1
      → Called s (λ x y. LeaveGives s x r y) said_leave old new → HasEnded name_of parts bytes_of logs ends r new left true
  leave-ends role quiet_ leaves_ gone rest of few c =
      let g = λ (x y : BoardState). LeaveGives s x r y in
      let b = here s g said_leave old new r role c in
      elim (cases_Bool (has_left r (past b))) [
        | inl left_ ↦
            let same : new.seen ≡ b = c.answer ∙ rw left_ refl in
            let made_ = unmoved s g said_leave old new r role c same in
            record {
              role = role-after s g said_leave old new r role c;
              moves = subst (λ (a : BoardState). list_all logs (past a) ≡ true) (sym made_) rest;
              last =
                  ap (λ (said : Said). ends said.last (past new.seen) true) c.said
                  ∙ gone (past new.seen) (ap (λ (a : BoardState). has_left_any (past a)) same ∙ some-left r (past b) left_);
              wanted = left-wanting old.said new.said c.said few;
              handed =
                  subst (λ (a : BoardState). IsOfHand name_of parts bytes_of (lent_to r a) (hand r (past a)) left.input left.made left.blank) (sym made_) of;
            }
        | inr stays ↦
            let m = moved s g said_leave old new r role c logs 0 (plain (Leave r)) (c.answer ∙ rw stays refl) refl quiet_ leaves_ rest in
            record {
              role = role-after s g said_leave old new r role c;
              moves = m.moves;
              last = ap (λ (said : Said). ends said.last (past new.seen) true) c.said ∙ gone (past new.seen) (m.seen leaves refl);
              wanted = left-wanting old.said new.said c.said few;
              handed =
                  subst (λ (o : Option Entry). IsOfHand name_of parts bytes_of (lent_to r new.made) o left.input left.made left.blank)
                  (sym (m.hand ∙ hand-before s g said_leave old new r role c))
                  (subst (λ (o : Option Parts). IsOfHand name_of parts bytes_of o (hand r (past old.made)) left.input left.made left.blank) (sym m.lent) of);
            }
      ]

  -- a role that goes without a hand
  pub ends-free : new.role ≡ r → list_all logs (past new.made) ≡ true → hand r (past new.made) ≡ None → (want : Bool)
      → ends new.said.last (past new.seen) want ≡ true → new.said.wanted ≡ 0
      → left ≡ record { input = None; made = None; blank = None } → HasEnded name_of parts bytes_of logs ends r new left want
  ends-free role rest free want last_ never none_ =
      record {
        role = role;
        moves = rest;
        last = last_;
        wanted = never-wanting new.said never;
        handed = subst (λ (o : Option Entry). IsOfHand name_of parts bytes_of (lent_to r new.made) o left.input left.made left.blank) (sym free)
            (subst (λ (l : Left F B O). IsOfHand name_of parts bytes_of (lent_to r new.made) None l.input l.made l.blank) (sym none_) (refl, refl, refl));
      }

  -- a role without a hand that leaves
  pub leave-free : HasNothing logs r old → ((e : Entry) → begun_by e ≡ None → logs e ≡ true) → logs (Leave r) ≡ true
      → ((P : Past) → has_left_any P ≡ true → ends Gone P true ≡ true) → left ≡ record { input = None; made = None; blank = None } → old.said.wanted ≤ 1
      → Called s (λ x y. LeaveGives s x r y) said_leave old new → HasEnded name_of parts bytes_of logs ends r new left true
  leave-free n quiet_ leaves_ gone none_ few c =
      leave-ends n.role quiet_ leaves_ gone n.moves
      (subst (λ (o : Option Entry). IsOfHand name_of parts bytes_of (lent_to r old.made) o left.input left.made left.blank) (sym n.free)
      (subst (λ (l : Left F B O). IsOfHand name_of parts bytes_of (lent_to r old.made) None l.input l.made l.blank) (sym none_) (refl, refl, refl)))
      few c

module _ {F N B O : Type 0} (name_of : F → FrameName) (parts : F → Option Parts)
    (bytes_of : B → ℕ) (asked : N → Pass → Type 0) (s : Setting) (logs : Entry → Bool) (ends : Last → Past → Bool → Bool)
    (r : ℕ) (p : Pass) (round : Round F N B O) where
  pub gone-free : round ≡ End (record { input = None; made = None; blank = None }) false → HasNothing logs r p → ends p.said.last (past p.seen) false ≡ true
      → p.said.wanted ≡ 0 → HasGone name_of parts bytes_of asked logs ends r p round
  gone-free is n last_ never =
      subst (λ (x : Round F N B O). HasGone name_of parts bytes_of asked logs ends r p x) (sym is)
      (ends-free {F = F} {B = B} {O = O} name_of parts bytes_of s logs ends r p p
      (record { input = None; made = None; blank = None }) n.role n.moves n.free false last_ never refl)
