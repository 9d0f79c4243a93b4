use Rattle.std.proofs.Common.{◌≡◌, ◌∙◌, ap, sym, refl, length, map, Some, ◌%◌}
use Rattle.std.specs.Prelude.{slice_get}
use Rattle.flow_journal.specs.declared.entry.Entry.TheVariants.{Accept}
use Rattle.flow_journal.specs.Following.{offer}
use Rattle.flow_journal.specs.Setting.{children}
use Rattle.flow_journal.specs.Turns.{offered_to, place_after}
use Rattle.board_rules.specs.RunMeasures.{run_setting}
use Rattle.flow_emit.specs.Emissions.{before_emission}
use Rattle.flow_emit.proofs.Offering.{offered-room, offered-full}
use Rattle.flow_emit.proofs.InTurn.{child-offered, dealt-legal, turned-after}
use Rattle.flow_emit.proofs.emission.deal.Goals as goal
use Rattle.run_course.proofs.Before.{legal-before}

pub next_in_turn-requires-clause-legal : goal.next_in_turn-requires-clause-legal
next_in_turn-requires-clause-legal g c =
    let s = run_setting g.F.Of.Run.graph g.F.Of.Run.stack in
    let told = c.args.course.now.told in
    legal-before s 0 1 (map (offer c.args.name) (offered_to s (before_emission told) c.args.from)) told c.requires.legal

pub has_room-requires : goal.has_room-requires
has_room-requires g c =
    let s = run_setting g.F.Of.Run.graph g.F.Of.Run.stack in
    let child = c.in-Some.child in
    let told = c.args.course.now.told in
    let P0 = before_emission told in
    let first : Some child ≡ slice_get (offered_to s P0 c.args.from) 0 = sym c.in-Some.is ∙ c.next_in_turn.ensures in
    child-offered s c.args.from P0 child c.requires.deals first

pub deal_to-requires-clause-legal : goal.deal_to-requires-clause-legal
deal_to-requires-clause-legal g c =
    let s = run_setting g.F.Of.Run.graph g.F.Of.Run.stack in
    let child = c.in-Some.child in
    let told = c.args.course.now.told in
    let P0 = before_emission told in
    let first : Some child ≡ slice_get (offered_to s P0 c.args.from) 0 = sym c.in-Some.is ∙ c.next_in_turn.ensures in
    dealt-legal s c.args.from c.args.name told P0 child _ c.requires.deals first
    (offered-room s told c.args.name child (sym c.has_room.ensures ∙ c.if-has_room.true)) c.requires.legal

pub deal_to-requires-clause-turn : goal.deal_to-requires-clause-turn
deal_to-requires-clause-turn g c =
    let s = run_setting g.F.Of.Run.graph g.F.Of.Run.stack in
    let child = c.in-Some.child in
    let told = c.args.course.now.told in
    let P0 = before_emission told in
    let first : Some child ≡ slice_get (offered_to s P0 c.args.from) 0 = sym c.in-Some.is ∙ c.next_in_turn.ensures in
    let kids : c.children.result.now ≡ children s c.args.from = c.children.ensures.children in
    (turned-after s c.args.from c.args.name told child c.place_after-turn.result (Accept child c.args.name.maker c.args.name.index) c.requires.from refl
    (c.place_after-turn.ensures ∙ ap (λ cs. place_after (Some child) cs % length cs) kids))

pub deal_full-requires-clause-legal : goal.deal_full-requires-clause-legal
deal_full-requires-clause-legal g c =
    let s = run_setting g.F.Of.Run.graph g.F.Of.Run.stack in
    let child = c.in-Some.child in
    let told = c.args.course.now.told in
    let P0 = before_emission told in
    let first : Some child ≡ slice_get (offered_to s P0 c.args.from) 0 = sym c.in-Some.is ∙ c.next_in_turn.ensures in
    dealt-legal s c.args.from c.args.name told P0 child _ c.requires.deals first
    (offered-full s told c.args.name child (sym c.has_room.ensures ∙ c.if-has_room.false)) c.requires.legal
