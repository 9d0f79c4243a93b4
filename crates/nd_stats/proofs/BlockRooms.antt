-- The numbers of a block have room for as much again.
use Rattle.std.proofs.Common.{◌≡◌, ℕ, ◌+◌, ◌<◌, ◌≤◌, ◌^◌, List, get_or, drop, Fits, w8, sym, subst, arith, ℤ, sum_by}
use Rattle.std.proofs.lemmas.List.{get_or-drop}
use Rattle.nd_base.specs.declared.array.Dim.{Dim}
use Rattle.nd_base.specs.declared.array.SampleType.{SampleType}
use Rattle.nd_base.specs.declared.graph.StatsRule.{StatsRule}
use Rattle.nd_base.specs.Samples.{numbers}
use Rattle.nd_stats.specs.declared.border.Edge.{Edge}
use Rattle.nd_stats.specs.declared.tally.Moments.{Moments}
use Rattle.nd_stats.specs.Samples.{placed, sum_of}
use Rattle.nd_stats.specs.Measured.{square, is_on_border}
use Rattle.nd_stats.specs.Tallies.{HasRoom}
use Rattle.nd_stats.specs.Running.{IsFrame, AreMoments, HaveMomentRooms, IsEdge, HaveEdgeRooms}
use Rattle.nd_stats.proofs.Bounds.{value_room, squares_room, where_room}
use Rattle.nd_stats.proofs.MomentLines.{moment_rooms}
use Rattle.nd_stats.proofs.Rooms.{count_room}
use Rattle.nd_stats.proofs.Parts.{parts_small}
use Rattle.nd_stats.proofs.Pieces.{length-piece}

-- bytes behind others
pub fit_behind : (at : ℕ) (bytes : List ℕ) → ((i : ℕ) → Fits w8 (get_or bytes i 0)) → (i : ℕ) → Fits w8 (get_or (drop at bytes) i 0)
fit_behind at bytes fit i = subst (Fits w8) (sym (get_or-drop at bytes i 0)) (fit (at + i))

module _ (kind : SampleType) (p n : ℕ) (bytes : List ℕ) (fit : (i : ℕ) → Fits w8 (get_or bytes i 0)) (few : n ≤ 67108864) where
  pub block_total : (v : ℤ) → v ≡ sum_of (λ t. t.value) (placed p (numbers kind n bytes)) → HasRoom v
  block_total v e =
      subst HasRoom (sym e) (value_room (placed p (numbers kind n bytes)) (parts_small kind p n bytes fit) (let long = length-piece kind p n bytes in
      omega (arith, long, few)))

  pub block_squares : (v : ℕ) → v ≡ sum_by (λ t. square t.value) (placed p (numbers kind n bytes)) → v < 2 ^ 100
  block_squares v e =
      subst (λ k. k < 2 ^ 100) (sym e) (squares_room (placed p (numbers kind n bytes)) (parts_small kind p n bytes fit)
      (let long = length-piece kind p n bytes in omega (arith, long, few)))

  pub block_moments : (rule : StatsRule) (dims : List Dim) (m : Moments) → IsFrame rule dims → AreMoments rule dims (placed p (numbers kind n bytes)) m
      → HaveMomentRooms m
  block_moments rule dims m frame are =
      moment_rooms rule dims (placed p (numbers kind n bytes)) m frame are (parts_small kind p n bytes fit) (let long = length-piece kind p n bytes in
      omega (arith, long, few))

  pub block_edge : (rule : StatsRule) (dims : List Dim) (e : Edge) → IsEdge rule dims (placed p (numbers kind n bytes)) e → HaveEdgeRooms e
  block_edge rule dims e is =
      let xs = placed p (numbers kind n bytes) in
      let long = length-piece kind p n bytes in
      record {
        count = count_room (is_on_border rule dims) xs e.count is.count (omega (arith, long, few));
        sum = subst HasRoom (sym is.sum) (where_room (is_on_border rule dims) xs (parts_small kind p n bytes fit) (omega (arith, long, few)));
      }
