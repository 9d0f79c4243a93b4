use Rattle.std.proofs.Common.{◌≡◌, ◌++◌, List, [], ◌∷◌, map, refl, ap, ◌∙◌, string_bytes}
use Rattle.std.specs.List.{flat_map}
use Rattle.std.proofs.lemmas.Iterator.{YieldsList-from_slice, YieldsList-from_zip}
use Rattle.std.proofs.lemmas.Iterator.Consumers.{YieldsList-end}
use Rattle.std.proofs.lemmas.List.{flat_map_more}
use Rattle.run_report.specs.Text.{node_line}
use Rattle.run_report.proofs.text.push_nodes.Goals as goal

flat-map : {X Y A : Type 0} (f : Y → List A) (v : X → Y) (xs : List X) → flat_map (λ x. f (v x)) xs ≡ flat_map f (map v xs)
flat-map f v [] = refl
flat-map f v (x ∷ xs) = ap (λ ys. f (v x) ++ ys) (flat-map f v xs)

pub loop-rule-preserved : goal.loop-rule-preserved
loop-rule-preserved c =
    c.in_ok-push_node.ensures
    ∙ ap (λ ys. ys ++ node_line c.text.result.now c.in-Some.count.now) c.loop-rule.invariant
    ∙ ap (λ n. (string_bytes c.args.text.now ++ flat_map (λ n. node_line n.0.now.name n.1.now) c.loop-rule.yielded) ++ node_line n c.in-Some.count.now)
    c.text.ensures
    ∙ flat_map_more (λ n. node_line n.0.now.name n.1.now) (string_bytes c.args.text.now) c.loop-rule.yielded (c.in-Some.rule, c.in-Some.count)

pub returns : goal.returns
returns c =
    let t =
    YieldsList-end (YieldsList-from_zip (YieldsList-from_slice c.args.rules.now cc) (YieldsList-from_slice c.args.counts.now cc)) c.loop-rule.yielded
    c.loop-rule.rule-iterator c.loop-rule.yielded_by c.next.result c.next.new.self c.in-None.is c.next.ensures.steps in
    c.loop-rule.invariant
    ∙ ap (λ ys. string_bytes c.args.text.now ++ ys) (flat-map (λ n. node_line n.0.name n.1) (λ n. (n.0.now, n.1.now)) c.loop-rule.yielded
    ∙ ap (flat_map (λ n. node_line n.0.name n.1)) t.0)
