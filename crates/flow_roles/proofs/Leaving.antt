-- The calls at a desk where another role has left.
use Rattle.std.proofs.Common.{◌≡◌, ℕ, ◌≤◌, true, false, eqb, leb, [], ◌∷◌, refl, sym, subst, arith, inl, inr}
use Rattle.std.proofs.lemmas.Bool.{cases_Bool, eqb-true, eqb-false, eq-eqb, ne_eqb, le-leb}
use Rattle.flow_journal.specs.declared.entry.Entry.TheVariants.{Leave}
use Rattle.flow_journal.specs.Setting.{Setting, last_role}
use Rattle.flow_journal.specs.Histories.{is_history}
use Rattle.board_rules.specs.States.{BoardState, past, plain}
use Rattle.board_rules.specs.Movers.{moves_by}
use Rattle.flow_roles.specs.declared.last.Said.{Said}
use Rattle.flow_roles.specs.declared.left_desk.LeftPass.{LeftPass}
use Rattle.flow_roles.specs.declared.left_desk.Stage.{Stage}
use Rattle.flow_roles.specs.declared.left_desk.Stage.TheVariants.{New, Told, Gone}
use Rattle.flow_roles.specs.Passes.{Called}
use Rattle.flow_roles.specs.declared.operation.DeskOp.{DeskOp}
use Rattle.flow_roles.specs.declared.operation.DeskOp.TheVariants as op
use Rattle.flow_roles.specs.Operations.{role_of}
use Rattle.flow_roles.specs.Leaving.{other_role, other_left, seen_at, pass_at, told_by, stage_after}

other-isnt : (s : Setting) (r : ℕ) → eqb (other_role s r) r ≡ false
other-isnt s r =
    elim (cases_Bool (eqb r (last_role s))) [
      | inl is ↦ let here : r ≡ last_role s = eqb-true r (last_role s) is in rw is (ne_eqb 0 r (λ e. omega arith))
      | inr no_ ↦ rw no_ (ne_eqb (last_role s) r (λ e. eqb-false r (last_role s) no_ (sym e)))
    ]

other-is-role : (s : Setting) (r : ℕ) → leb (other_role s r) (last_role s) ≡ true
other-is-role s r =
    elim (cases_Bool (eqb r (last_role s))) [
      | inl is ↦ rw is (le-leb 0 (last_role s) (omega arith))
      | inr no_ ↦ rw no_ (le-leb (last_role s) (last_role s) (omega arith))
    ]

told-legal : (s : Setting) (r : ℕ) → is_history s (past (other_left s r)) ≡ true
told-legal s r = rw (other-is-role s r) refl

gone-legal : (s : Setting) (r : ℕ) → r ≤ last_role s → is_history s (past (plain (Leave r) ∷ other_left s r)) ≡ true
gone-legal s r h = rw (other-is-role s r, le-leb r (last_role s) h, other-isnt s r) refl

told-moves : (s : Setting) (r : ℕ) → moves_by r (other_left s r) ≡ []
told-moves s r = rw (other-isnt s r) refl

gone-moves : (s : Setting) (r : ℕ) → moves_by r (plain (Leave r) ∷ other_left s r) ≡ plain (Leave r) ∷ []
gone-moves s r = rw (eq-eqb r r refl, other-isnt s r) refl

-- a call that adds nothing
told-called : (s : Setting) (gives : BoardState → BoardState → Type 0) (answers : Said → Said) (before : Said) (r : ℕ) (stage : Stage)
    → r ≤ last_role s → gives (seen_at s r (told_by stage)) (seen_at s r (told_by stage))
    → Called s gives answers (pass_at s r stage before) (pass_at s r (told_by stage) (answers before))
told-called s gives answers before r New h g =
    record {
      between = other_left s r;
      added = [];
      seen = refl;
      answer = g;
      move = tt;
      made = refl;
      exact = told-moves s r;
      role = refl;
      said = refl;
      legal = told-legal s r;
      drained = refl;
    }
told-called s gives answers before r Told h g =
    record {
      between = [];
      added = [];
      seen = refl;
      answer = g;
      move = tt;
      made = refl;
      exact = told-moves s r;
      role = refl;
      said = refl;
      legal = told-legal s r;
      drained = refl;
    }
told-called s gives answers before r Gone h g =
    record {
      between = [];
      added = [];
      seen = refl;
      answer = g;
      move = tt;
      made = refl;
      exact = gone-moves s r;
      role = refl;
      said = refl;
      legal = gone-legal s r h;
      drained = refl;
    }

-- a leave
gone-called : (s : Setting) (gives : BoardState → BoardState → Type 0) (answers : Said → Said) (before : Said) (r : ℕ) (stage : Stage)
    → r ≤ last_role s → gives (seen_at s r (told_by stage)) (seen_at s r Gone)
    → Called s gives answers (pass_at s r stage before) (pass_at s r Gone (answers before))
gone-called s gives answers before r New h g =
    record {
      between = other_left s r;
      added = plain (Leave r) ∷ [];
      seen = refl;
      answer = g;
      move = refl;
      made = refl;
      exact = gone-moves s r;
      role = refl;
      said = refl;
      legal = gone-legal s r h;
      drained = refl;
    }
gone-called s gives answers before r Told h g =
    record {
      between = [];
      added = plain (Leave r) ∷ [];
      seen = refl;
      answer = g;
      move = refl;
      made = refl;
      exact = gone-moves s r;
      role = refl;
      said = refl;
      legal = gone-legal s r h;
      drained = refl;
    }
gone-called s gives answers before r Gone h g =
    record {
      between = [];
      added = [];
      seen = refl;
      answer = g;
      move = tt;
      made = refl;
      exact = gone-moves s r;
      role = refl;
      said = refl;
      legal = gone-legal s r h;
      drained = refl;
    }

left-called : {F : Type 0} (s : Setting) (gives : BoardState → BoardState → Type 0) (answers : Said → Said) (o : DeskOp F) (before : Said) (stage : Stage)
    → role_of o ≤ last_role s → gives (seen_at s (role_of o) (told_by stage)) (seen_at s (role_of o) (stage_after o stage))
    → Called s gives answers (pass_at s (role_of o) stage before) (pass_at s (role_of o) (stage_after o stage) (answers before))
left-called s gives answers (op.Leave r) before stage h g = gone-called s gives answers before r stage h g
left-called s gives answers _ before stage h g = told-called s gives answers before _ stage h g

-- BY THE PASSES

pub by-call : {F : Type 0} (s : Setting) (gives : BoardState → BoardState → Type 0) (answers : Said → Said) (o : DeskOp F) (p : LeftPass) (stage : Stage)
    (said : Said) → p.role ≡ role_of o → role_of o ≤ last_role s → stage ≡ stage_after o p.stage → said ≡ answers p.said
    → gives (seen_at s (role_of o) (told_by p.stage)) (seen_at s (role_of o) (stage_after o p.stage))
    → Called s gives answers (pass_at s p.role p.stage p.said) (pass_at s p.role stage said)
by-call s gives answers o p stage said role h e says g =
    subst (λ (w : Said). Called s gives answers (pass_at s p.role p.stage p.said) (pass_at s p.role stage w)) (sym says)
    (subst (λ (w : Stage). Called s gives answers (pass_at s p.role p.stage p.said) (pass_at s p.role w (answers p.said))) (sym e)
    (subst (λ (w : ℕ). Called s gives answers (pass_at s w p.stage p.said) (pass_at s w (stage_after o p.stage) (answers p.said))) (sym role)
    (left-called s gives answers o p.said p.stage h g)))
