use Rattle.std.proofs.Common.{◌≡◌, ◌<◌, ◌∙◌, ◌+◌, ℕ, List, length, map, take, set, get_or, sym, arith}
use Rattle.std.proofs.lemmas.List.{length-set, map_more, take_more_set}
use Rattle.flow_journal.specs.Setting.{node}
use Rattle.flow_journal.specs.Queued.{queued}
use Rattle.board_rules.specs.RunMeasures.{run_setting}
use Rattle.board_rules.specs.States.{past}
use Rattle.flow_emit.proofs.emission.queues_of.Goals as goal

-- one more place is filled
filled : (f : ℕ → ℕ) (xs vs : List ℕ) (i x : ℕ) → i < length xs → i < length vs → take i xs ≡ map f (take i vs) → x ≡ f (get_or vs i 0)
    → take (i + 1) (set xs i x) ≡ map f (take (i + 1) vs)
filled f xs vs i x within lt so is = take_more_set xs i x within ∙ (rw (so, is) (sym (map_more f vs i 0 lt)))

pub loop-place-preserved : goal.loop-place-preserved
loop-place-preserved g c =
    let s = run_setting g.F.Of.Run.graph g.F.Of.Run.stack in
    let P = past c.args.course.now.told in
    let vs = c.args.nodes.now in
    let place = c.loop-place.place in
    let (queued_many, sizes_many, counts, takes) = c.loop-place.invariant in
    let lt : place < length vs = omega (arith, c.loop-place-test.true) in (
      length-set _ _ _ ∙ queued_many,
      length-set _ _ _ ∙ sizes_many,
      filled (λ v. length (queued v P)) _ vs place _ (omega (arith, queued_many, lt, c.requires.few)) lt counts c.queued_at.ensures,
      filled (λ v. (node s v).queue) _ vs place _ (omega (arith, sizes_many, lt, c.requires.few)) lt takes c.queue_of.ensures,
    )
