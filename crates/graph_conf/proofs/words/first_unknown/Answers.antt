use Rattle.std.proofs.Common.{◌≡◌, List, Less, ◌∷◌, map, true, false, Some, string_bytes, ap, sym, ◌∙◌, arith}
use Rattle.std.specs.List.{AllByRecursion, list_any}
use Rattle.std.specs.List.Sorted.{IsStrictlySortedBy}
use Rattle.std.specs.Map.{keys_of}
use Rattle.std.specs.String.{string_cmp}
use Rattle.std.specs.Str.{bytes_eq}
use Rattle.std.proofs.lemmas.Grind.{common_steps}
use Rattle.toml.proofs.Views.{Entry}
use Rattle.toml.specs.View.{members_view}
use Rattle.graph_conf.specs.Keys.{first_unknown}
use Rattle.graph_conf.proofs.Known.{past_known, at_unknown}
use Rattle.graph_conf.proofs.words.first_unknown.Goals as goal

rising : (e : Entry) (rest : List Entry) → IsStrictlySortedBy string_cmp (keys_of (e ∷ rest))
    → AllByRecursion (λ y. string_cmp e.0 y ≡ Less) (keys_of rest) × IsStrictlySortedBy string_cmp (keys_of rest)
unfolding IsStrictlySortedBy
rising e rest h = h

pub returns-then-not-is_known : goal.returns-then-not-is_known
returns-then-not-is_known c =
    let (can, finite, same, sorted) = c.loop-key.invariant in
    let known = c.args.known.now in
    let e : Entry = (c.in-Some.key.now, c.in-Some.field-0-1.now) in
    let iter : c.loop-key.key-iterator ≡ e ∷ c.next.new.self = grind (arith, common_steps) in
    let missing : list_any (λ k. bytes_eq (string_bytes e.0) k.now) known ≡ false = grind (arith, common_steps) in
    let name : c.deref-then-not-is_known.result.now ≡ string_bytes e.0 = grind (arith, common_steps) in
    let above = rising e c.next.new.self (rw iter at sorted) in
    ap Some name ∙ sym (at_unknown known e c.next.new.self missing above.0)
    ∙ sym (ap (λ es. first_unknown (map (λ k. k.now) known) (members_view es)) iter) ∙ same

pub loop-key-preserved : goal.loop-key-preserved
loop-key-preserved c =
    let (can, finite, same, sorted) = c.loop-key.invariant in
    let known = c.args.known.now in
    let e : Entry = (c.in-Some.key.now, c.in-Some.field-0-1.now) in
    let iter : c.loop-key.key-iterator ≡ e ∷ c.next.new.self = grind (arith, common_steps) in
    let present : list_any (λ k. bytes_eq (string_bytes e.0) k.now) known ≡ true = grind (arith, common_steps) in (
      tt,
      tt,
      sym (past_known known e c.next.new.self present) ∙ sym (ap (λ es. first_unknown (map (λ k. k.now) known) (members_view es)) iter) ∙ same,
      (rising e c.next.new.self (rw iter at sorted)).1,
    )
