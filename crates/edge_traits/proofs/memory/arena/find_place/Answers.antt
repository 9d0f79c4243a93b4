use Rattle.std.proofs.Common.{◌≡◌, ◌≢◌, ◌+◌, ◌-◌, ◌≤◌, take, drop, get_or, arith, sym, ap, subst, refl, ◌∙◌, ℕ, add-one, add_assoc, true, false}
use Rattle.std.proofs.lemmas.Slice.Eq.{bytes_eq-Decides}
use Rattle.edge_traits.specs.declared.memory.arena.Extent.{Extent}
use Rattle.edge_traits.proofs.Arenas.{SearchedTo-next, found_here, ends_within}
use Rattle.edge_traits.proofs.memory.arena.find_place.Goals as goal

pub overflow_add-end : goal.overflow_add-end
overflow_add-end c =
    let none : Extent = record { name = 0; bytes = 0 } in
    let e : Extent = get_or c.args.extents.now c.loop-index.index none in
    let ends : c.loop-index.start + (e.name + e.bytes) ≤ _ =
    ends_within c.args.extents.now c.args.storage.now c.args.name.now c.loop-index.index c.loop-index.start e none c.loop-index-test.true refl c.requires
    c.loop-index.invariant in
    search arith

pub returns-then-eq-clause-found : goal.returns-then-eq-clause-found
returns-then-eq-clause-found c =
    let none : Extent = record { name = 0; bytes = 0 } in
    let e : Extent = get_or c.args.extents.now c.loop-index.index none in
    let count : c.loop-index.start + e.name - c.loop-index.start ≡ e.name = omega arith in
    let tested = (bytes_eq-Decides (take (c.loop-index.start + e.name - c.loop-index.start) (drop c.loop-index.start c.args.storage.now))
    c.args.name.now).0 (sym c.eq.ensures ∙ c.if-eq.true) in
    found_here c.args.extents.now c.args.storage.now c.args.name.now c.loop-index.index c.loop-index.start e none c.loop-index-test.true refl
    (subst (λ (k : ℕ). take k (drop c.loop-index.start c.args.storage.now) ≡ c.args.name.now) count tested) c.loop-index.invariant

pub returns-then-eq-clause-ends : goal.returns-then-eq-clause-ends
returns-then-eq-clause-ends c =
    let none : Extent = record { name = 0; bytes = 0 } in
    ends_within c.args.extents.now c.args.storage.now c.args.name.now c.loop-index.index c.loop-index.start
    (get_or c.args.extents.now c.loop-index.index none) none c.loop-index-test.true refl c.requires c.loop-index.invariant

pub loop-index-preserved : goal.loop-index-preserved
loop-index-preserved c =
    let none : Extent = record { name = 0; bytes = 0 } in
    let e : Extent = get_or c.args.extents.now c.loop-index.index none in
    let count : c.loop-index.start + e.name - c.loop-index.start ≡ e.name = omega arith in
    let other : take e.name (drop c.loop-index.start c.args.storage.now) ≢ c.args.name.now =
    λ same. (let found : true ≡ false =
    sym ((bytes_eq-Decides (take (c.loop-index.start + e.name - c.loop-index.start) (drop c.loop-index.start c.args.storage.now)) c.args.name.now).1
    (ap (λ k. take k (drop c.loop-index.start c.args.storage.now)) count ∙ same)) ∙ sym c.eq.ensures ∙ c.if-eq.false in cc) in
    rw (add-one, add_assoc)
    (SearchedTo-next c.args.extents.now c.args.storage.now c.args.name.now c.loop-index.index c.loop-index.start e none c.loop-index-test.true refl other
    c.loop-index.invariant)
