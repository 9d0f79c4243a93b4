-- The text of a legal log is short: few lines, and few long ones.
use Rattle.std.proofs.Common.{◌≡◌, ℕ, ◌+◌, ◌*◌, ◌≤◌, true, ltb, List, [], ◌∷◌, ◌++◌, length, reverse, All, ap, ◌∙◌, refl, arith}
use Rattle.std.proofs.Common.{length-append, map, Some, None, fold, inl, inr}
use Rattle.std.proofs.lemmas.Bool.{ltb-false, cases_Bool}
use Rattle.std.proofs.lemmas.List.{reverse-append, length-map}
use Rattle.std.proofs.lemmas.List.Elements.{All-pop}
use Rattle.nd_base.specs.Array.{Array, StackValue}
use Rattle.nd_base.specs.GraphRules.{IsGraph}
use Rattle.nd_base.specs.Stacks.{IsStack}
use Rattle.nd_base.specs.declared.graph.Graph.{Graph}
use Rattle.nd_base.specs.declared.graph.NodeRule.{NodeRule}
use Rattle.nd_base.specs.declared.plan.Maker.{Maker}
use Rattle.graph_conf.specs.Loads as loads
use Rattle.graph_conf.specs.Loads.{limit_fault}
use Rattle.graph_conf.specs.declared.load.LimitFault.TheVariants.{Load}
use Rattle.flow_journal.specs.Setting.{Setting, Node}
use Rattle.flow_journal.specs.Pasts.{Past}
use Rattle.flow_journal.specs.Histories.{is_legal}
use Rattle.flow_journal.specs.RunSetting.{setting_of, node_of}
use Rattle.flow_journal.specs.Spelling.{line, text_of}
use Rattle.flow_journal.specs.TextFaults.{Fits}
use Rattle.flow_journal.specs.LengthLaws.{arrivals, threads}
use Rattle.flow_journal.proofs.EntryCounts.{count, count-cons}
use Rattle.flow_journal.proofs.Lengths.{length_laws}
use Rattle.flow_journal.proofs.Texts.{text_of-more}
use Rattle.log_lengths.specs.TextLengths.{LogTextsAreShort}
use Rattle.log_lengths.proofs.LineLengths.{is_long, line-short}
use Rattle.log_lengths.proofs.LongLines.{long-few}

text-short : (P : Past) → All Fits (reverse P) → length (text_of (reverse P)) ≤ 76 * length P + 46 * count is_long P
text-short [] fit = omega arith
text-short (e ∷ P) fit =
    let back : reverse (e ∷ P) ≡ reverse P ++ e ∷ [] = reverse-append (e ∷ []) P in
    let both = All-pop Fits (reverse (e ∷ P)) (reverse P) (Some e) back fit in
    let more : text_of (reverse (e ∷ P)) ≡ text_of (reverse P) ++ line e = ap text_of back ∙ text_of-more (reverse P) e in
    omega (
      arith,
      text-short P both.0,
      line-short e both.1,
      ap length more,
      length-append (text_of (reverse P)) (line e),
      count-cons is_long e P,
    )

threads-from : (k : ℕ) (ns : List NodeRule) → fold (λ a (n : Node). a + n.threads) k (map node_of ns) ≡ fold (λ a (n : NodeRule). a + n.threads) k ns
threads-from k [] = refl
threads-from k (n ∷ ns) = threads-from (k + n.threads) ns

pub text-within : (g : Graph) (makers : List Maker) (stack : StackValue) (P : Past) → IsGraph g → IsStack stack → loads.arrivals g stack ≤ 1048576
    → is_legal (setting_of g makers stack.arrays) P ≡ true → All Fits (reverse P) → length (text_of (reverse P)) ≤ 536870912
text-within g makers stack P graph sound within legal fit =
    let s : Setting = setting_of g makers stack.arrays in
    let frames : length s.ids ≡ length stack.arrays = length-map stack.arrays (λ (a : Array). a.id) in
    let nodes : length s.nodes ≡ length g.nodes = length-map g.nodes node_of in
    let all : threads s ≤ 64 = omega (arith, threads-from 0 g.nodes, graph.threads) in
    let few_nodes : length s.nodes ≤ 32 = omega (arith, nodes, graph.few) in
    let few : arrivals s ≤ 1048576 = rw (frames, nodes) within in
    omega (
      arith,
      text-short P fit,
      length_laws.within_limits s P few_nodes all legal,
      long-few s P legal,
      few,
      frames,
      sound.few_frames,
    )

few-arrivals : (g : Graph) (stack : StackValue) → limit_fault g stack ≡ None → loads.arrivals g stack ≤ 1048576
few-arrivals g stack none =
    elim (cases_Bool (ltb 1048576 (loads.arrivals g stack))) [
      | inl more ↦ let some : Some (Load (loads.arrivals g stack)) ≡ None = rw more at none in absurd (cc)
      | inr few ↦ omega (arith, ltb-false 1048576 (loads.arrivals g stack) few)
    ]

pub texts-short : LogTextsAreShort
texts-short g makers stack P graph sound within legal fit = text-within g makers stack P graph sound (few-arrivals g stack within) legal fit
