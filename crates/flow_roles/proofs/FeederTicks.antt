-- The feeder was handed one tick for each of its loads, and the newest one for the last. Where it made no leave, there was memory for each.
use Rattle.std.proofs.Common.{◌≡◌, ℕ, ◌-◌, ◌^◌, suc, true, false, List, [], ◌∷◌, length, get_or, ap, sym, subst, ◌∙◌, refl, arith, Option, Result, Ok, Err}
use Rattle.std.proofs.Common.{inl, inr}
use Rattle.std.specs.Prelude.{min}
use Rattle.std.proofs.lemmas.Bool.{cases_Bool, false≢true, true≢false}
use Rattle.edge_traits.specs.Memory.{one_more}
use Rattle.flow_journal.specs.declared.entry.Entry.{Entry}
use Rattle.flow_journal.specs.declared.entry.Entry.TheVariants.{Leave}
use Rattle.flow_journal.specs.Setting.{Setting}
use Rattle.flow_journal.specs.Ended.{leaves_as, has_left}
use Rattle.flow_journal.specs.MoveLists.{begun_by, is_some_of}
use Rattle.board_rules.specs.declared.answers.Load.{Load}
use Rattle.board_rules.specs.declared.answers.NotYours.{NotYours}
use Rattle.board_rules.specs.States.{BoardState, past, plain}
use Rattle.board_rules.specs.Movers.{first_some, mover, moves_by}
use Rattle.board_rules.specs.Leaving.{LeaveGives}
use Rattle.flow_roles.specs.declared.last.Said.{Said}
use Rattle.flow_roles.specs.Lasts.{load_had_memory, said_load, said_given, said_leave, fresh_said}
use Rattle.flow_roles.specs.Passes.{Pass, Called}
use Rattle.flow_roles.specs.RoleMoves.{IsFresh}
use Rattle.flow_roles.proofs.Calls.{here, moved, all-true}
use Rattle.flow_roles.specs.FeederTicks.{Feeds, none, loads, issues, closes, leaves, stays_away}

pub one-more : (a n : ℕ) → a ≡ min n (2 ^ 64 - 1) → one_more a ≡ min (suc n) (2 ^ 64 - 1)
one-more a n is = omega (arith, is)

given-loads : {F E : Type 0} (a : Result E (NotYours F)) (said : Said) → (said_given a said).loads ≡ said.loads
given-loads (Ok done) said = refl
given-loads (Err e) said = refl

given-tick : {F E : Type 0} (a : Result E (NotYours F)) (said : Said) → (said_given a said).tick ≡ said.tick
given-tick (Ok done) said = refl
given-tick (Err e) said = refl

loads-of : (p q : Said) → p ≡ q → p.loads ≡ q.loads
loads-of p q is = ap (λ (said : Said). said.loads) is

tick-of : (p q : Said) → p ≡ q → p.tick ≡ q.tick
tick-of p q is = ap (λ (said : Said). said.tick) is

-- up to the greatest `u64`
as-many : (s : Setting) (first last : Pass) (ticks : List ℕ) → first.said ≡ fresh_said → Feeds s first ticks last
    → last.said.loads ≡ min (length ticks) (2 ^ 64 - 1)
as-many s first last ticks fresh none = loads-of _ _ fresh
as-many s first last ticks fresh (loads before p q tick a f active free had c) =
    loads-of _ _ c.said ∙ one-more p.said.loads (length before) (as-many s first p before fresh f)
as-many s first last ticks fresh (issues ts p q f a by active c) = loads-of _ _ c.said ∙ (given-loads a p.said ∙ as-many s first p ticks fresh by)
as-many s first last ticks fresh (closes ts p q a by active c) = loads-of _ _ c.said ∙ as-many s first p ticks fresh by
as-many s first last ticks fresh (leaves before p wants q tick a f active free had c left) =
    loads-of _ _ left.said ∙ (loads-of _ _ c.said ∙ one-more p.said.loads (length before) (as-many s first p before fresh f))
as-many s first last ticks fresh (stays_away q left) = loads-of _ _ left.said ∙ loads-of _ _ fresh

newest : (s : Setting) (first last : Pass) (ticks : List ℕ) → first.said ≡ fresh_said → Feeds s first ticks last → last.said.tick ≡ get_or ticks 0 0
newest s first last ticks fresh none = tick-of _ _ fresh
newest s first last ticks fresh (loads before p q tick a f active free had c) = tick-of _ _ c.said
newest s first last ticks fresh (issues ts p q f a by active c) = tick-of _ _ c.said ∙ (given-tick a p.said ∙ newest s first p ticks fresh by)
newest s first last ticks fresh (closes ts p q a by active c) = tick-of _ _ c.said ∙ newest s first p ticks fresh by
newest s first last ticks fresh (leaves before p wants q tick a f active free had c left) = tick-of _ _ left.said ∙ tick-of _ _ c.said
newest s first last ticks fresh (stays_away q left) = tick-of _ _ left.said ∙ tick-of _ _ fresh

-- A ROLE'S OWN LEAVE

own-begins : (r : ℕ) (e : Entry) (o : Option ℕ) → leaves_as r e ≡ true → is_some_of r (first_some (begun_by e) o) ≡ true
own-begins r (Leave q) o h = h
own-begins r _ o h = absurd (false≢true h)

own-leave : (r : ℕ) (b : BoardState) → has_left r (past b) ≡ true → has_left r (past (moves_by r b)) ≡ true
own-leave r [] h = absurd (false≢true h)
own-leave r (t ∷ b) h =
    elim (cases_Bool (leaves_as r t.entry)) [
      | inl here_ ↦ rw (own-begins r t.entry (mover b) here_, here_) refl
      | inr away ↦
          let rest = own-leave r b (rw away at h) in
          elim (cases_Bool (is_some_of r (first_some (begun_by t.entry) (mover b)))) [
            | inl mine ↦ rw (mine, away) rest
            | inr other ↦ rw other rest
          ]
    ]

-- a role that leaves has its leave among its moves
left-made : (s : Setting) (old new : Pass) → old.role ≡ 0 → Called s (λ b c. LeaveGives s b 0 c) said_leave old new → has_left 0 (past new.made) ≡ true
left-made s old new role c =
    let g = λ (b d : BoardState). LeaveGives s b 0 d in
    let b = here s g said_leave old new 0 role c in
    let seen : has_left 0 (past new.seen) ≡ true = elim (cases_Bool (has_left 0 (past b))) [
      | inl left ↦ let same : new.seen ≡ b = c.answer ∙ rw left refl in ap (λ (d : BoardState). has_left 0 (past d)) same ∙ left
      | inr stays ↦
          let m =
          moved s g said_leave old new 0 role c (λ (e : Entry). true) 0 (plain (Leave 0)) (c.answer ∙ rw stays refl) refl (λ e h. refl) refl
          (all-true (past old.made)) in
          m.seen (leaves_as 0) refl
    ] in
    ap (λ (d : BoardState). has_left 0 (past d)) (sym (subst (λ (r : ℕ). moves_by r new.seen ≡ new.made) role c.exact)) ∙ own-leave 0 new.seen seen

feeds-role : (s : Setting) (first last : Pass) (ticks : List ℕ) → first.role ≡ 0 → Feeds s first ticks last → last.role ≡ 0
feeds-role s first last ticks role none = role
feeds-role s first last ticks role (loads before p q tick a f active free had c) = c.role ∙ feeds-role s first p before role f
feeds-role s first last ticks role (issues ts p q f a by active c) = c.role ∙ feeds-role s first p ticks role by
feeds-role s first last ticks role (closes ts p q a by active c) = c.role ∙ feeds-role s first p ticks role by
feeds-role s first last ticks role (leaves before p wants q tick a f active free had c left) = left.role ∙ (c.role ∙ feeds-role s first p before role f)
feeds-role s first last ticks role (stays_away q left) = left.role ∙ role

wanted-of : (p q : Said) → p ≡ q → p.wanted ≡ q.wanted
wanted-of p q is = ap (λ (said : Said). said.wanted) is

given-wanted : {F E : Type 0} (a : Result E (NotYours F)) (said : Said) → (said_given a said).wanted ≡ said.wanted
given-wanted (Ok done) said = refl
given-wanted (Err e) said = refl

load-wanted : {B : Type 0} (a : Load B) (tick : ℕ) (said : Said) → load_had_memory a ≡ true → (said_load a tick said).wanted ≡ said.wanted
load-wanted a tick said had = rw had refl

none-wanted : (s : Setting) (first last : Pass) (ticks : List ℕ) → IsFresh 0 first → Feeds s first ticks last → has_left 0 (past last.made) ≡ false
    → last.said.wanted ≡ 0
none-wanted s first last ticks fresh none stays = wanted-of _ _ fresh.said
none-wanted s first last ticks fresh (loads before p q tick a f active free had c) stays =
    wanted-of _ _ c.said ∙ (load-wanted a tick p.said had ∙ active.0)
none-wanted s first last ticks fresh (issues ts p q f a by active c) stays = wanted-of _ _ c.said ∙ (given-wanted a p.said ∙ active.0)
none-wanted s first last ticks fresh (closes ts p q a by active c) stays = wanted-of _ _ c.said ∙ active.0
none-wanted s first last ticks fresh (leaves before p wants q tick a f active free had c left) stays =
    let role = c.role ∙ feeds-role s first p before fresh.role f in
    absurd (true≢false (sym (left-made s wants last role left) ∙ stays))
none-wanted s first last ticks fresh (stays_away q left) stays = wanted-of _ _ left.said ∙ wanted-of _ _ fresh.said

pub loads-are-ticks : (s : Setting) (first last : Pass) (ticks : List ℕ) → IsFresh 0 first → Feeds s first ticks last
    → (last.said.loads ≡ min (length ticks) (2 ^ 64 - 1)) × (last.said.tick ≡ get_or ticks 0 0)
    × (has_left 0 (past last.made) ≡ false → last.said.wanted ≡ 0)
loads-are-ticks s first last ticks fresh f = (
  as-many s first last ticks fresh.said f,
  newest s first last ticks fresh.said f,
  none-wanted s first last ticks fresh f,
)
