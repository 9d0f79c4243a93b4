use Rattle.std.proofs.Common.{◌≡◌, ◌<◌, ◌∙◌, ◌+◌, ap, sym, subst, refl, length, ℕ, arith}
use Rattle.flow_journal.specs.Setting.{children}
use Rattle.board_rules.specs.RunMeasures.{run_setting}
use Rattle.flow_emit.specs.Emissions.{OffersMade}
use Rattle.run_course.proofs.Children.{child-node}
use Rattle.flow_emit.proofs.Offering.{next-legal, offered-room, offered-full, one-more}
use Rattle.flow_emit.proofs.emission.offer_all.Goals.{then-has_room, else-has_room}
use Rattle.flow_emit.proofs.emission.offer_all.Goals as goal

pub has_room-requires : goal.has_room-requires
has_room-requires g c =
    let s = run_setting g.F.Of.Run.graph g.F.Of.Run.stack in
    let kids : c.children.result.now ≡ children s c.args.from = c.children.ensures.children in
    let end : c.children-place-end.result.now ≡ children s c.args.from = c.children-place-end.ensures.children in
    let lt : c.loop-place.place < length c.children.result.now = omega (arith, c.loop-place-test.true, ap (length {A = ℕ}) kids, ap (length {A = ℕ}) end) in
    child-node s c.args.from c.loop-place.place _ c.children.result.now kids lt

pub accept-requires-clause-legal : goal.accept-requires-clause-legal
accept-requires-clause-legal g c =
    let s = run_setting g.F.Of.Run.graph g.F.Of.Run.stack in
    let kids : c.children.result.now ≡ children s c.args.from = c.children.ensures.children in
    let end : c.children-place-end.result.now ≡ children s c.args.from = c.children-place-end.ensures.children in
    let lt : c.loop-place.place < length c.children.result.now = omega (arith, c.loop-place-test.true, ap (length {A = ℕ}) kids, ap (length {A = ℕ}) end) in
    next-legal s c.args.from c.args.name c.loop-place.place _ c.children.result.now c.args.course.now c.loop-place.course _ kids lt c.loop-place.invariant
    c.requires.legal (offered-room s c.loop-place.course.told c.args.name _ (sym c.has_room.ensures ∙ c.if-has_room.true))

pub fill-requires-clause-legal : goal.fill-requires-clause-legal
fill-requires-clause-legal g c =
    let s = run_setting g.F.Of.Run.graph g.F.Of.Run.stack in
    let kids : c.children.result.now ≡ children s c.args.from = c.children.ensures.children in
    let end : c.children-place-end.result.now ≡ children s c.args.from = c.children-place-end.ensures.children in
    let lt : c.loop-place.place < length c.children.result.now = omega (arith, c.loop-place-test.true, ap (length {A = ℕ}) kids, ap (length {A = ℕ}) end) in
    next-legal s c.args.from c.args.name c.loop-place.place _ c.children.result.now c.args.course.now c.loop-place.course _ kids lt c.loop-place.invariant
    c.requires.legal (offered-full s c.loop-place.course.told c.args.name _ (sym c.has_room.ensures ∙ c.if-has_room.false))

pub loop-place-preserved : goal.loop-place-preserved
loop-place-preserved g c =
    let s = run_setting g.F.Of.Run.graph g.F.Of.Run.stack in
    let kids : c.children.result.now ≡ children s c.args.from = c.children.ensures.children in
    let end : c.children-place-end.result.now ≡ children s c.args.from = c.children-place-end.ensures.children in
    let lt : c.loop-place.place < length c.children.result.now = omega (arith, c.loop-place-test.true, ap (length {A = ℕ}) kids, ap (length {A = ℕ}) end) in
    elim c.if-has_room.branch [
      | then-has_room w ↦ subst (OffersMade s c.args.from c.args.name (c.loop-place.place + 1) c.args.course.now) (sym (w.course-is ∙ w.accept.ensures))
          (one-more s c.args.from c.args.name c.loop-place.place _ c.children.result.now c.args.course.now c.loop-place.course _ kids lt c.loop-place.invariant
          (offered-room s c.loop-place.course.told c.args.name _ (sym c.has_room.ensures ∙ w.if-has_room.true)) (λ u. refl))
      | else-has_room w ↦ subst (OffersMade s c.args.from c.args.name (c.loop-place.place + 1) c.args.course.now) (sym (w.course-is ∙ w.fill.ensures))
          (one-more s c.args.from c.args.name c.loop-place.place _ c.children.result.now c.args.course.now c.loop-place.course _ kids lt c.loop-place.invariant
          (offered-full s c.loop-place.course.told c.args.name _ (sym c.has_room.ensures ∙ w.if-has_room.false)) (λ u. refl))
    ]
