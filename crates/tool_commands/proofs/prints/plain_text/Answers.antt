use Rattle.std.proofs.Common.{◌≡◌, ◌++◌, ◌+◌, ◌<◌, length, get_or, ap, sym, ◌∙◌, append_assoc, arith}
use Rattle.std.specs.List.{flat_map, range_with_len}
use Rattle.chain_plain.specs.PlainRun.{passed}
use Rattle.tool_commands.specs.PlainText.{out_line, node_line}
use Rattle.tool_commands.specs.Printed.{frames_line}
use Rattle.tool_commands.proofs.EachNode.{each_more, node_line-at}
use Rattle.tool_commands.proofs.prints.plain_text.Goals as goal

pub loop-place-preserved : goal.loop-place-preserved
loop-place-preserved c =
    let g = c.args.plan.now.graph in
    let s = c.args.stack.now in
    let place = c.loop-place.place in
    let node = c.index-nodes-place.result in
    let count = c.len-count.result in
    let frames = frames_line (length s.arrays) in
    let lines = flat_map (node_line g s) (range_with_len 1 place) in
    let within : place < length g.nodes = omega (arith, c.loop-place-test.true, ap length c.as_slice-nodes.ensures) in
    let is : node ≡ get_or g.nodes place node = c.index-nodes-place.is ∙ ap (λ ns. get_or ns place node) c.as_slice-nodes.ensures in
    let name : c.text.result.now ≡ node.name = c.text.ensures ∙ ap (λ m. m.name) (sym c.index-nodes-place.is) in
    let number : count ≡ length (passed g s (place + 1)) = c.len-count.ensures ∙ c.in_ok-passed.field-0.ok.0 ∙ ap length c.in_ok-passed.ensures.value in
    let line : out_line c.text.result.now count ≡ node_line g s (place + 1) =
    ap (λ n. out_line n count) name ∙ ap (out_line node.name) number ∙ sym (node_line-at g s place node within is) in
    c.in_ok-push_line.ensures ∙ ap (λ t. t ++ out_line c.text.result.now count) c.loop-place.invariant
    ∙ append_assoc frames lines (out_line c.text.result.now count)
    ∙ ap (λ b. frames ++ b) (ap (λ b. lines ++ b) line ∙ sym (each_more (node_line g s) place))
