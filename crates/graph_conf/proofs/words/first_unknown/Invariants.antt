use Rattle.std.proofs.Common.{◌≡◌, map}
use Rattle.std.specs.List.Sorted.{IsStrictlySortedBy}
use Rattle.std.specs.Map.{keys_of}
use Rattle.std.specs.String.{string_cmp}
use Rattle.toml.specs.View.{members_view}
use Rattle.graph_conf.specs.Keys.{first_unknown}
use Rattle.graph_conf.proofs.words.first_unknown.Given as goal

abbrev pub invariant-loop-key : goal.invariant-loop-key
invariant-loop-key l =
    (goal.iterator-loop-key).can_next l.key-iterator ×
    (goal.iterator-loop-key).is_finite l.key-iterator ×
    (first_unknown (map (λ k. k.now) l.known) (members_view l.key-iterator) ≡ first_unknown (map (λ k. k.now) l.known) (members_view l.table.entries))
    × IsStrictlySortedBy string_cmp (keys_of l.key-iterator)
