use Rattle.std.proofs.Common.{rules, ◌≡◌, ℕ, ◌+◌, ◌*◌, ◌/◌, ◌≤◌, List, ◌++◌, length, take, drop, ℤ, refl, ap, sym, subst, ◌∙◌, arith}
use Rattle.std.proofs.Math.Nat.{div-le_self}
use Rattle.nd_base.specs.declared.array.SampleType.{SampleType}
use Rattle.nd_base.specs.declared.graph.StatsRule.{StatsRule}
use Rattle.nd_base.specs.Samples.{width, samples_of}
use Rattle.nd_stats.specs.declared.histogram.Ends.{Ends}
use Rattle.nd_stats.specs.Samples.{placed}
use Rattle.nd_stats.specs.Running.{IsCounted, HaveCountRooms}
use Rattle.nd_stats.proofs.Counts.{can_count, counted_both}
use Rattle.lane_kernels.proofs.Slices.{side_counts}
use Rattle.nd_stats.proofs.Parts.{both_sides}
use Rattle.nd_stats.proofs.histogram.count_piece.Goals as goal

-- the halves of a piece
halves : (rule : StatsRule) (kind : SampleType) (from : ℕ) (bytes : List ℕ) (v w : ℕ) (first second : List ℕ) (a b : Ends) (counts more : List ℤ)
    → v ≡ width kind → w ≡ width kind → first ≡ take (length bytes / v / 2 * w) bytes → second ≡ drop (length bytes / v / 2 * w) bytes
    → length bytes / width kind ≤ 67108864 → IsCounted rule (placed from (samples_of kind first)) a counts
    → IsCounted rule (placed (from + length first / width kind) (samples_of kind second)) b more
    → HaveCountRooms rule a counts × HaveCountRooms rule b more
    × (placed from (samples_of kind bytes) ≡ placed from (samples_of kind first) ++ placed (from + length first / width kind) (samples_of kind second))
halves rule kind from bytes v w first second a b counts more ev ew one two few is_one is_two =
    let all = length bytes / width kind in
    let front : first ≡ take (all / 2 * width kind) bytes = one ∙ ap (λ n. take (length bytes / n / 2 * w) bytes) ev ∙ ap (λ n. take (all / 2 * n) bytes) ew in
    let back : second ≡ drop (all / 2 * width kind) bytes = two ∙ ap (λ n. drop (length bytes / n / 2 * w) bytes) ev ∙ ap (λ n. drop (all / 2 * n) bytes) ew in
    let within : all / 2 ≤ all = div-le_self all 2 in
    let sides = side_counts kind (all / 2) bytes first second within front back in (
      can_count rule kind from (length first / width kind) first a counts is_one (omega (arith, few, sides.1, within)),
      can_count rule kind (from + length first / width kind) (length second / width kind) second b more is_two (omega (arith, few, sides.2)),
      both_sides kind from (all / 2) bytes first second within front back,
    )

pub add_each-requires-clause-room : goal.add_each-requires-clause-room
add_each-requires-clause-room c =
    (halves c.args.rule.now c.args.kind c.args.from c.args.samples.now c.width.result c.width-2.result _ _ _ _ _ _
    c.width.ensures c.width-2.ensures c.split_at.ensures.front c.split_at.ensures.back c.requires.few c.count_turns.ensures.first c.count_turns.ensures.second).0.room

pub add_each-requires-clause-more : goal.add_each-requires-clause-more
add_each-requires-clause-more c =
    (halves c.args.rule.now c.args.kind c.args.from c.args.samples.now c.width.result c.width-2.result _ _ _ _ _ _
    c.width.ensures c.width-2.ensures c.split_at.ensures.front c.split_at.ensures.back c.requires.few c.count_turns.ensures.first c.count_turns.ensures.second).1.room

pub overflow_add-result : goal.overflow_add-result
overflow_add-result c =
    let rooms = halves c.args.rule.now c.args.kind c.args.from c.args.samples.now c.width.result c.width-2.result _ _ _ _ _ _
    c.width.ensures c.width-2.ensures c.split_at.ensures.front c.split_at.ensures.back c.requires.few c.count_turns.ensures.first c.count_turns.ensures.second in
    let one = rooms.0.below in
    let two = rooms.1.below in
    search rules

pub overflow_add-result-2 : goal.overflow_add-result-2
overflow_add-result-2 c =
    let rooms = halves c.args.rule.now c.args.kind c.args.from c.args.samples.now c.width.result c.width-2.result _ _ _ _ _ _
    c.width.ensures c.width-2.ensures c.split_at.ensures.front c.split_at.ensures.back c.requires.few c.count_turns.ensures.first c.count_turns.ensures.second in
    let one = rooms.0.above in
    let two = rooms.1.above in
    search rules

pub returns : goal.returns
returns c =
    let rooms = halves c.args.rule.now c.args.kind c.args.from c.args.samples.now c.width.result c.width-2.result _ _ _ _ _ _
    c.width.ensures c.width-2.ensures c.split_at.ensures.front c.split_at.ensures.back c.requires.few c.count_turns.ensures.first c.count_turns.ensures.second in
    let one = c.count_turns.result.0 in
    let two = c.count_turns.result.1 in
    let both : Ends = record { below = one.below + two.below; above = one.above + two.above } in
    subst (λ xs. IsCounted c.args.rule.now xs both c.add_each.new.sums) (sym rooms.2)
    (counted_both c.args.rule.now _ _ one two both _ _ _ c.count_turns.ensures.first c.count_turns.ensures.second refl c.add_each.ensures refl)
