-- What went out of a node for good, and when that is the one-thread result of what it accepted.
use Rattle.std.specs.Prelude.{◌≡◌, ℕ, true, List, map, if◌then◌else◌}
use Rattle.std.specs.List.{flat_map}
use Rattle.std.specs.List.Sorted.{IsPermutation}
use Rattle.nd_base.specs.Array.{Array}
use Rattle.nd_base.specs.declared.frame.FrameName.{FrameName}
use Rattle.nd_base.specs.declared.graph.NodeRule.{NodeRule}
use Rattle.nd_base.specs.GraphRules.{rule_at}
use Rattle.chain_plain.specs.Content.{content}
use Rattle.chain_plain.specs.OneThread.{listed, outputs, OneThread, measures_of, files_of, one_thread}
use Rattle.flow_journal.specs.Setting.{Setting, node}
use Rattle.flow_journal.specs.Pasts.{Past}
use Rattle.flow_journal.specs.Unsaved.{standing_saves, is_file}
use Rattle.flow_journal.specs.Accepted.{emitted}
use Rattle.flow_journal.specs.Histories.{is_history}
use Rattle.flow_journal.specs.Finished.{is_finished}

-- the log of a run that came to its end
pub record IsFinishedRun (s : Setting) (P : Past) : Type 0 where
  pub legal : is_history s P ≡ true
  pub finished : is_finished s P ≡ true

-- what went out: at a file node what was saved, and at another what it emitted
abbrev pub put_out : Setting → ℕ → Past → List FrameName
put_out s v P = if is_file (node s v).work then standing_saves v P else emitted v P

abbrev pub indices : List FrameName → List ℕ
indices xs = map (λ a. a.index) xs

-- the arrays that these frames hold
abbrev pub contents : List NodeRule → List Array → List FrameName → List Array
contents nodes arrays xs = flat_map (λ a. listed (content nodes arrays a)) xs

-- these arrays, as they go out of node v, with the measures or files that it makes of them
abbrev pub outcome : List NodeRule → ℕ → List Array → OneThread
outcome nodes v xs = record { arrays = xs; measures = measures_of (rule_at nodes v) xs; files = files_of (rule_at nodes v) xs }

-- these frames are the one-thread result of node v on the accepted ones, in its order: by their positions, and by what they hold
-- and what is made of it
pub record AreInOrder (nodes : List NodeRule) (arrays : List Array) (v : ℕ) (taken out : List FrameName) : Type 0 where
  pub positions : indices out ≡ outputs nodes arrays v (indices taken)
  pub result : outcome nodes v (contents nodes arrays out) ≡ one_thread nodes arrays v (indices taken)

-- or in another order
pub record AreInSomeOrder (nodes : List NodeRule) (arrays : List Array) (v : ℕ) (taken out : List FrameName) : Type 0 where
  pub positions : IsPermutation (outputs nodes arrays v (indices taken)) (indices out)
  pub arrays_are : IsPermutation (one_thread nodes arrays v (indices taken)).arrays (contents nodes arrays out)
