use Rattle.std.proofs.Common.{◌≡◌, ◌≤◌, None, Some, [], List, length, length-set, ap, sym, refl, subst, ◌∙◌, arith}
use Rattle.chain_plain.proofs.Rules.{roi-rule}
use Rattle.chain_plain.specs.Content.{IsContent}
use Rattle.chain_plain.specs.ContentBytes.{input-of, region-need, region-content}
use Rattle.chain_plain.specs.ContentLaws.{frame}
use Rattle.plain_saver.specs.declared.node_rooms.Room.{Room}
use Rattle.plain_saver.specs.Rooms.{HasFrame, AreCut, KeepsFrames, rooms_of, with_own, with_room}
use Rattle.plain_saver.proofs.Nodes.{node-between, maker-apart, region-makes}
use Rattle.plain_saver.proofs.Places.{cut-room, cut-without, frame-stays, frame-written, frames-kept, own-frame, rooms-still}
use Rattle.plain_saver.proofs.rooms.Rooms.cut_region.Goals as goal

pub make-requires : goal.make-requires
make-requires c =
    let between = node-between c.args.plan.now.graph c.args.name.maker c.args.rule.now c.requires.graph (sym c.requires.rule) in
    (between.0, omega (arith, between.1, c.requires.size))

pub returns-in_err-make-clause-cut : goal.returns-in_err-make-clause-cut
returns-in_err-make-clause-cut c = c.in_err-make.ensures.cut c.args.plan.now.graph c.args.stack.now c.requires.cut

pub returns-in_err-make-clause-kept : goal.returns-in_err-make-clause-kept
returns-in_err-make-clause-kept c = c.in_err-make.ensures.kept c.args.plan.now.graph c.args.name.index

pub take-requires-clause-node : goal.take-requires-clause-node
take-requires-clause-node c =
    let between = node-between c.args.plan.now.graph c.args.name.maker c.args.rule.now c.requires.graph (sym c.requires.rule) in
    (between.0, omega (arith, between.1, c.in_ok-make.ensures.size, c.requires.size))

pub returns-in_err-storage-clause-cut : goal.returns-in_err-storage-clause-cut
returns-in_err-storage-clause-cut c =
    subst (AreCut c.args.plan.now.graph c.args.stack.now) (sym c.in_err-storage.ensures.err)
    (c.in_ok-make.ensures.cut c.args.plan.now.graph c.args.stack.now c.requires.cut)

pub returns-in_err-storage-clause-kept : goal.returns-in_err-storage-clause-kept
returns-in_err-storage-clause-kept c =
    subst (KeepsFrames c.args.plan.now.graph c.args.name.index c.args.self.now) (sym c.in_err-storage.ensures.err)
    (c.in_ok-make.ensures.kept c.args.plan.now.graph c.args.name.index)

pub samples-samples-requires-clause-cut : goal.samples-samples-requires-clause-cut
samples-samples-requires-clause-cut c =
    let g = c.args.plan.now.graph in
    let v = c.args.name.maker in
    let made = c.make.new.self in
    let between = node-between g v c.args.rule.now c.requires.graph (sym c.requires.rule) in
    let within : v ≤ length made = omega (arith, between.1, c.in_ok-make.ensures.size, c.requires.size) in
    subst (AreCut g c.args.stack.now) (sym c.in_ok-storage.ensures.room)
    (cut-without g made v between.0 c.args.stack.now within (c.in_ok-make.ensures.cut g c.args.stack.now c.requires.cut) c.args.name.index)

pub samples-samples-requires-clause-here : goal.samples-samples-requires-clause-here
samples-samples-requires-clause-here c =
    let g = c.args.plan.now.graph in
    let v = c.args.name.maker in
    let k = c.args.name.index in
    let n = c.args.rule.now in
    let made = c.make.new.self in
    let between = node-between g v n c.requires.graph (sym c.requires.rule) in
    subst (λ (rooms : List (List Room)). HasFrame g rooms n.input k) (sym c.in_ok-storage.ensures.room)
    (frame-stays g made v between.0 n.input k (with_own (rooms_of made v) k (record { index = None; bytes = [] }))
    (maker-apart g v n c.requires.graph (sym c.requires.rule)) (c.in_ok-make.ensures.kept g k n.input c.requires.input))

pub region_in-bytes-requires-clause-rule : goal.region_in-bytes-requires-clause-rule
region_in-bytes-requires-clause-rule c =
    roi-rule c.args.plan.now.graph c.args.name.maker c.args.rule.now c.args.roi.now c.requires.graph c.requires.rule c.requires.kind

pub region_in-bytes-requires-clause-samples : goal.region_in-bytes-requires-clause-samples
region_in-bytes-requires-clause-samples c =
    let n = c.args.rule.now in
    let i =
    input-of c.args.plan.now.graph c.args.stack.now n c.made_by-from.result.now (frame n.input c.args.name.index) c.samples-samples.result.now
    c.requires.graph c.made_by-from.ensures.stack c.made_by-from.ensures.shape refl c.samples-samples.ensures in
    i.size

pub region_in-bytes-requires-clause-size : goal.region_in-bytes-requires-clause-size
region_in-bytes-requires-clause-size c =
    c.in_ok-storage.ensures.size
    ∙ region-need c.args.plan.now.graph c.args.stack.now c.args.name.maker c.args.rule.now c.args.roi.now c.made_by-from.result.now c.made_by-to.result.now
    c.requires.graph c.requires.rule c.requires.kind c.made_by-from.ensures.shape c.made_by-to.ensures.shape

pub put-requires-clause-node : goal.put-requires-clause-node
put-requires-clause-node c =
    let between = node-between c.args.plan.now.graph c.args.name.maker c.args.rule.now c.requires.graph (sym c.requires.rule) in
    let still : length c.take.new.self ≡ length c.make.new.self = ap length c.in_ok-storage.ensures.room ∙ length-set c.make.new.self _ _ in
    (between.0, omega (arith, between.1, still, c.in_ok-make.ensures.size, c.requires.size))

pub put-requires-clause-some : goal.put-requires-clause-some
put-requires-clause-some c =
    let g = c.args.plan.now.graph in
    let v = c.args.name.maker in
    let k = c.args.name.index in
    let made = c.make.new.self in
    let some = c.in_ok-make.ensures.some in
    let between = node-between g v c.args.rule.now c.requires.graph (sym c.requires.rule) in
    let within : v ≤ length made = omega (arith, between.1, c.in_ok-make.ensures.size, c.requires.size) in
    let still = rooms-still g made v between.0 within k some (record { index = None; bytes = [] }) in
    subst (λ (rooms : List (List Room)). 1 ≤ length (rooms_of rooms v)) (sym c.in_ok-storage.ensures.room) (omega (arith, some, still))

pub returns-clause-size : goal.returns-clause-size
returns-clause-size c =
    ap length c.put.ensures ∙ length-set c.take.new.self _ _ ∙ ap length c.in_ok-storage.ensures.room ∙ length-set c.make.new.self _ _
    ∙ c.in_ok-make.ensures.size

pub returns-clause-cut : goal.returns-clause-cut
returns-clause-cut c =
    let g = c.args.plan.now.graph in
    let s = c.args.stack.now in
    let v = c.args.name.maker in
    let n = c.args.rule.now in
    let k = c.args.name.index in
    let from = c.made_by-from.result.now in
    let bytes = c.region_in-bytes.result.items in
    let made = c.make.new.self in
    let between = node-between g v n c.requires.graph (sym c.requires.rule) in
    let within : v ≤ length made = omega (arith, between.1, c.in_ok-make.ensures.size, c.requires.size) in
    let still : length c.take.new.self ≡ length made = ap length c.in_ok-storage.ensures.room ∙ length-set made _ _ in
    let there : v ≤ length c.take.new.self = omega (arith, within, still) in
    let i =
    input-of g s n from (frame n.input k) c.samples-samples.result.now
    c.requires.graph c.made_by-from.ensures.stack c.made_by-from.ensures.shape refl c.samples-samples.ensures in
    let size_ =
    c.region_in-bytes.ensures.size ∙ (c.in_ok-storage.ensures.size
    ∙ region-need g s v n c.args.roi.now from c.made_by-to.result.now c.requires.graph c.requires.rule c.requires.kind c.made_by-from.ensures.shape
    c.made_by-to.ensures.shape) in
    let held : IsContent g s (frame v k) bytes =
    region-content g s v n c.args.roi.now from (frame n.input k) c.samples-samples.result.now bytes c.requires.graph c.requires.rule c.requires.kind i size_
    c.region_in-bytes.ensures.samples in
    let emptied : AreCut g s c.take.new.self =
    subst (AreCut g s) (sym c.in_ok-storage.ensures.room) (cut-without g made v between.0 s within (c.in_ok-make.ensures.cut g s c.requires.cut) k) in
    subst (AreCut g s) (sym c.put.ensures)
    (cut-room g c.take.new.self v between.0 s there emptied k (record { index = Some k; bytes = bytes }) (own-frame g s v k bytes held))

pub returns-clause-ok : goal.returns-clause-ok
returns-clause-ok c =
    let g = c.args.plan.now.graph in
    let v = c.args.name.maker in
    let n = c.args.rule.now in
    let k = c.args.name.index in
    let none : Room = record { index = None; bytes = [] } in
    let room : Room = record { index = Some k; bytes = c.region_in-bytes.result.items } in
    let made = c.make.new.self in
    let some = c.in_ok-make.ensures.some in
    let between = node-between g v n c.requires.graph (sym c.requires.rule) in
    let within : v ≤ length made = omega (arith, between.1, c.in_ok-make.ensures.size, c.requires.size) in
    let still : length (with_room made v k none) ≡ length made = length-set made _ _ in
    let same = rooms-still g made v between.0 within k some none in
    subst (λ (rooms : List (List Room)). HasFrame g rooms v k)
    (sym (c.put.ensures ∙ ap (λ (rooms : List (List Room)). with_room rooms v k room) c.in_ok-storage.ensures.room))
    (frame-written g (with_room made v k none) v between.0 (omega (arith, within, still)) k (omega (arith, some, same)) room
    (region-makes g v n c.args.roi.now c.requires.graph (sym c.requires.rule) c.requires.kind) refl)

pub returns-clause-kept : goal.returns-clause-kept
returns-clause-kept c = λ w here.
    let g = c.args.plan.now.graph in
    let v = c.args.name.maker in
    let k = c.args.name.index in
    let none : Room = record { index = None; bytes = [] } in
    let room : Room = record { index = Some k; bytes = c.region_in-bytes.result.items } in
    let made = c.make.new.self in
    let between = node-between g v c.args.rule.now c.requires.graph (sym c.requires.rule) in
    let within : v ≤ length made = omega (arith, between.1, c.in_ok-make.ensures.size, c.requires.size) in
    subst (KeepsFrames g k made) (sym (c.put.ensures ∙ ap (λ (rooms : List (List Room)). with_room rooms v k room) c.in_ok-storage.ensures.room))
    (frames-kept g made v k none room between.0 within c.in_ok-make.ensures.some refl) w (c.in_ok-make.ensures.kept g k w here)
