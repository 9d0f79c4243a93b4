use Rattle.std.proofs.Common.{rules, ◌≡◌, ◌≢◌, ℕ, ◌-◌, ◌≤◌, List, [], get_or, ap, sym, subst, ◌∙◌, arith}
use Rattle.std.proofs.lemmas.List.{get_or_default}
use Rattle.chain_plain.specs.Content.{IsContent}
use Rattle.chain_plain.specs.ContentBytes.{frame-content, content-of-maker}
use Rattle.chain_plain.specs.ContentLaws.{frame}
use Rattle.chain_plain.specs.Nodes.{maker_at}
use Rattle.plain_saver.specs.declared.node_rooms.Room.{Room}
use Rattle.plain_saver.specs.Rooms.{own_room, rooms_of}
use Rattle.plain_saver.proofs.Places.{frame-region, region-within, room-content}
use Rattle.plain_saver.proofs.rooms.Rooms.samples.Goals as goal

pub returns-in-0 : goal.returns-in-0
returns-in-0 c =
    let g = c.args.plan.now.graph in
    let s = c.args.stack.now in
    let k = c.args.index in
    let driver : maker_at g.nodes c.args.node ≡ 0 = sym c.made_by.ensures.number ∙ c.in-0.is in
    content-of-maker g s c.args.node k c.frame.result.now c.requires.graph
    (subst (λ (m : ℕ). IsContent g s (frame m k) c.frame.result.now) (sym driver)
    (frame-content g s k c.frame.result.now c.made_by.ensures.stack c.requires.frame c.frame.ensures.samples c.frame.ensures.size))

pub returns-in_default : goal.returns-in_default
returns-in_default c =
    let g = c.args.plan.now.graph in
    let s = c.args.stack.now in
    let k = c.args.index in
    let rooms = c.args.self.now in
    let m = c.made_by.result.now.node in
    let apart : m ≢ 0 = search rules in
    let first : 1 ≤ m = omega (arith, apart) in
    let has = frame-region g rooms c.args.node m k c.made_by.ensures.number apart c.requires.here in
    let read : c.index.result.now ≡ rooms_of rooms m =
    c.index.ensures ∙ ap (λ (os : List (List Room)). get_or os (m - 1) c.index.result.now) c.self.view_is
    ∙ get_or_default rooms (m - 1) c.index.result.now [] (region-within rooms m k has) in
    let held =
    room-content g s rooms m k c.bytes.result.now first c.requires.cut has
    (λ room at. c.bytes.ensures room (ap (λ (own : List Room). own_room own k) read ∙ at)) in
    content-of-maker g s c.args.node k c.bytes.result.now c.requires.graph
    (subst (λ (w : ℕ). IsContent g s (frame w k) c.bytes.result.now) c.made_by.ensures.number held)
