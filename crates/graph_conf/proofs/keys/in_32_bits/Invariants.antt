use Rattle.std.proofs.Common.{◌≡◌, pos, negsuc, not, take, drop}
use Rattle.std.specs.Prelude.{find}
use Rattle.graph_conf.specs.Keys.{is_within}
use Rattle.graph_conf.proofs.keys.in_32_bits.Given as goal

-- the numbers so far, none of them out of range
abbrev pub invariant-loop-number : goal.invariant-loop-number
invariant-loop-number l = record {
  kept : l.kept.items ≡ take l.number-index l.list;
  left : find (λ v. not (is_within (negsuc 2147483647) (pos 2147483647) v)) (drop l.number-index l.list)
      ≡ find (λ v. not (is_within (negsuc 2147483647) (pos 2147483647) v)) l.list;
}
