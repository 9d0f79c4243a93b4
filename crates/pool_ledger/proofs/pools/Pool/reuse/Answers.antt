use Rattle.std.proofs.Common.{◌<◌, ◌^◌, ap, sym, ◌∙◌, subst, arith, rules}
use Rattle.pool_ledger.specs.Keys.{Keys, IsRising, without_key}
use Rattle.pool_ledger.specs.Ledger.{with_refs}
use Rattle.pool_ledger.specs.Inside.{key_of}
use Rattle.pool_ledger.specs.declared.pools.Slot.{Slot}
use Rattle.pool_ledger.proofs.Picks.{key_here, slot_here}
use Rattle.pool_ledger.proofs.Sound.{All-set, held_fits, ledger-recount}
use Rattle.pool_ledger.proofs.Changes.{reuse_takes, open_some}
use Rattle.pool_ledger.proofs.pools.Pool.reuse.Goals as goal

pub remove-requires : goal.remove-requires
remove-requires c = rw c.key_of.ensures
    (key_here c.self.inside c.args.self.now c.args.number c.args.size c.self.view_is c.self.invariant (search rules) c.requires)

pub index_mut-requires : goal.index_mut-requires
index_mut-requires c =
    let h = slot_here c.self.inside c.args.self.now c.args.number c.args.size c.self.view_is c.self.invariant (search rules) c.requires in
    let i = h.inside in
    search rules

pub overflow_add-self : goal.overflow_add-self
overflow_add-self c =
    let s = c.self.invariant in
    let fits = held_fits c.self.inside.slots.items c.self.inside.room s.in_range s.slots_fit s.room_fits in
    let small : c.args.size < 2 ^ 32 = search rules in
    omega (arith, s.held_is, c.from.ensures)

pub invariant_of-self : goal.invariant_of-self
invariant_of-self c =
    let s = c.self.invariant in
    let small : c.args.size < 2 ^ 32 = search rules in
    let h = slot_here c.self.inside c.args.self.now c.args.number c.args.size c.self.view_is s (search rules) c.requires in
    let new : Slot = record { size = c.args.size; count = 1 } in
    let takes = reuse_takes c.self.inside.slots.items c.args.number new h.inside (sym h.sized) h.shown (λ e. absurd (omega arith))
    (subst IsRising s.free_keys c.remove.ensures.rising) in
    record {
      slots_fit = omega (arith, s.slots_fit, takes.long);
      slots_room = s.slots_room;
      room_fits = s.room_fits;
      in_range = All-set c.self.inside.slots.items c.args.number new s.in_range (small, λ e. absurd (open_some _ h.shown (h.sized ∙ e)));
      free_keys = ap (λ (k : Keys). k.keys) c.remove.ensures.taken ∙ ap (λ key. without_key key c.self.inside.free.keys) c.key_of.ensures
          ∙ ap (without_key (key_of c.args.size c.args.number)) s.free_keys ∙ sym takes.free;
      free_room = omega (arith, ap (λ (k : Keys). k.room) c.remove.ensures.taken, s.free_room);
      unused_keys = s.unused_keys ∙ sym takes.unused;
      unused_room = s.unused_room;
      unnamed_fit = omega (arith, s.unnamed_fit, takes.known);
      unnamed_room = s.unnamed_room;
      standing_is = s.standing_is ∙ sym takes.standing;
      held_is = omega (arith, s.held_is, takes.held, c.from.ensures);
    }

pub returns : goal.returns
returns c =
    let s = c.self.invariant in
    let h = slot_here c.self.inside c.args.self.now c.args.number c.args.size c.self.view_is s (search rules) c.requires in
    let new : Slot = record { size = c.args.size; count = 1 } in
    ledger-recount c.self.inside c.args.number new h.inside (sym h.sized) (λ e. open_some _ h.shown (h.sized ∙ e))
    ∙ ap (with_refs c.args.number 1) c.self.view_is
