use Rattle.std.proofs.Common.{◌≡◌, ◌<◌, ◌∙◌, ◌==◌, ℕ, List, Some, false, length, map, find, ap, sym, arith}
use Rattle.std.specs.Prelude.{slice_get}
use Rattle.std.proofs.lemmas.Bool.{eqb-true, eqb-false}
use Rattle.std.proofs.lemmas.Option.{slice_get-get_or}
use Rattle.flow_journal.specs.Setting.{Setting, node}
use Rattle.flow_journal.specs.Pasts.{Past}
use Rattle.flow_journal.specs.Queued.{queued}
use Rattle.flow_journal.specs.Turns.{dealt_to, round_from}
use Rattle.board_rules.specs.RunMeasures.{run_setting}
use Rattle.board_rules.specs.States.{past}
use Rattle.scatter_rule.specs.declared.Choice.{Choice}
use Rattle.scatter_rule.specs.declared.Choice.TheVariants.{Give, AllFull}
use Rattle.scatter_rule.specs.Rounds.{has_room, in_turn, choice}
use Rattle.scatter_rule.proofs.Children.{chosen, chosen-first, given-within}
use Rattle.flow_emit.proofs.InTurn.{none-in-turn, taken-one}
use Rattle.flow_emit.proofs.emission.first_in_turn.Goals as goal

some : (n : ℕ) → false ≡ (n == 0) → 0 < n
some n h = omega (arith, eqb-false n 0 (sym h))

-- the child of this choice is the first in turn
chosen-child : (s : Setting) (P : Past) (cs counts sizes : List ℕ) (turn : ℕ) (r made : Choice) (x : ℕ) → counts ≡ map (λ v. length (queued v P)) cs
    → sizes ≡ map (λ v. (node s v).queue) cs → turn < length cs → r ≡ choice (find (has_room counts sizes) (in_turn turn (length counts))) → r ≡ made
    → chosen cs turn made ≡ Some x → Some x ≡ slice_get (dealt_to s P (round_from turn cs)) 0
chosen-child s P cs counts sizes turn r made x many takes lt is so there =
    let first = chosen-first (λ v. length (queued v P)) (λ v. (node s v).queue) cs counts sizes turn r many takes lt is in
    sym (taken-one _ ∙ (first ∙ (ap (chosen cs turn) so ∙ there)))

pub returns-then-is_empty : goal.returns-then-is_empty
returns-then-is_empty g c =
    let s = run_setting g.F.Of.Run.graph g.F.Of.Run.stack in
    let cs = c.args.children.now in
    sym (none-in-turn s (past c.args.course.now.told) c.args.turn cs (eqb-true (length cs) 0 (sym c.if-is_empty.ensures)))

pub bounds-children-place : goal.bounds-children-place
bounds-children-place g c =
    let P = past c.args.course.now.told in
    let cs = c.args.children.now in
    let lt = c.requires.turn (some (length cs) c.if-is_empty.ensures) in
    let counts = c.queues_of-queues.ensures.queued in
    given-within (λ v. length (queued v P)) cs _ _ c.args.turn c.in-Give.place _ counts lt c.next_child.ensures c.in-Give.is

pub offset_bounds-children-place : goal.offset_bounds-children-place
offset_bounds-children-place g c =
    let P = past c.args.course.now.told in
    let cs = c.args.children.now in
    let lt = c.requires.turn (some (length cs) c.if-is_empty.ensures) in
    let counts = c.queues_of-queues.ensures.queued in
    let within = given-within (λ v. length (queued v P)) cs _ _ c.args.turn c.in-Give.place _ counts lt c.next_child.ensures c.in-Give.is in
    omega (arith, c.requires.few, within)

pub returns-in-Give : goal.returns-in-Give
returns-in-Give g c =
    let s = run_setting g.F.Of.Run.graph g.F.Of.Run.stack in
    let P = past c.args.course.now.told in
    let cs = c.args.children.now in
    let place = c.in-Give.place in
    let lt = c.requires.turn (some (length cs) c.if-is_empty.ensures) in
    let q = c.queues_of-queues.ensures in
    let within = given-within (λ v. length (queued v P)) cs _ _ c.args.turn place _ q.queued lt c.next_child.ensures c.in-Give.is in
    chosen-child s P cs _ _ c.args.turn _ (Give place) _ q.queued q.sizes lt c.next_child.ensures c.in-Give.is (slice_get-get_or cs place 0 within)

pub returns-in-AllFull : goal.returns-in-AllFull
returns-in-AllFull g c =
    let s = run_setting g.F.Of.Run.graph g.F.Of.Run.stack in
    let P = past c.args.course.now.told in
    let cs = c.args.children.now in
    let turn = c.args.turn in
    let lt = c.requires.turn (some (length cs) c.if-is_empty.ensures) in
    let q = c.queues_of-queues.ensures in
    chosen-child s P cs _ _ turn _ AllFull _ q.queued q.sizes lt c.next_child.ensures c.in-AllFull.is (slice_get-get_or cs turn 0 lt)
