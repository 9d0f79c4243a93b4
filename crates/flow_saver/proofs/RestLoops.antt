-- The loops over what is left to save.
use Rattle.std.proofs.Common.{◌≡◌, ◌≢◌, ℕ, Bool, true, false, List, [], length, map, refl, sym, ap, subst, ◌∙◌, Option, Some, None}
use Rattle.std.specs.Prelude.{slice_get, if◌then◌else◌}
use Rattle.std.specs.Option.{option_map}
use Rattle.std.proofs.lemmas.List.{length-map}
use Rattle.std.proofs.lemmas.Option.{slice_get-map, same_Some}
use Rattle.nd_base.specs.Array.{StackValue}
use Rattle.nd_base.specs.GraphRules.{IsGraph, rule_at}
use Rattle.nd_base.specs.declared.graph.Graph.{Graph}
use Rattle.nd_base.specs.declared.graph.Kind.{Kind}
use Rattle.nd_base.specs.declared.graph.Kind.TheVariants.{Roi, Stats, Circular, File, Scatter}
use Rattle.nd_base.specs.declared.graph.NodeRule.{NodeRule}
use Rattle.chain_plain.specs.Plans.{makers_of}
use Rattle.edge_traits.specs.Files.{Files}
use Rattle.flow_journal.specs.Setting.{Setting, node}
use Rattle.flow_journal.specs.Pasts.{Past, minus}
use Rattle.flow_journal.specs.Puts.{puts}
use Rattle.flow_journal.specs.Finished.{is_finished}
use Rattle.flow_journal.specs.Unsaved.{unsaved, standing_saves, is_file}
use Rattle.board_rules.specs.RunMeasures.{run_setting}
use Rattle.run_laws.proofs.Runs.{known}
use Rattle.flow_roles.proofs.Named.{node-rule}
use Rattle.flow_drain.specs.Drains.{IsDrained}
use Rattle.graph_files.specs.NodeFiles.{NodeFile}
use Rattle.graph_files.specs.OpenFiles.{closed, file_nodes}
use Rattle.graph_files.specs.OpenFileLaws.{file_nodes-apart}
use Rattle.flow_saver.specs.Saver.{CountsStep}
use Rattle.flow_saver.proofs.Counting.{counts-then}
use Rattle.flow_saver.proofs.Groups.{open-files-of}
use Rattle.flow_saver.proofs.Resting.{finished-by}

-- WHICH NODES

-- the same files, whatever is open
pub same-files : (xs ys : List NodeFile) (k : ℕ) (x : NodeFile) → map closed ys ≡ map closed xs → slice_get xs k ≡ Some x
    → (y : NodeFile) × (slice_get ys k ≡ Some y) × (closed y ≡ closed x)
same-files xs ys k x same at =
    of-closed ys k (closed x) (ap (λ (zs : List NodeFile). slice_get zs k) same ∙ slice_get-map closed xs k ∙ ap (option_map closed) at)
  where
    of-closed : (zs : List NodeFile) (j : ℕ) (w : NodeFile) → slice_get (map closed zs) j ≡ Some w → (z : NodeFile) × (slice_get zs j ≡ Some z) × (closed z ≡ w)
    of-closed zs j w h = by (slice_get zs j) refl (sym (slice_get-map closed zs j) ∙ h)
      where
        by : (o : Option NodeFile) → slice_get zs j ≡ o → option_map closed o ≡ Some w → (z : NodeFile) × (slice_get zs j ≡ Some z) × (closed z ≡ w)
        by None is made = let none_ : None ≡ Some w = made in absurd (cc)
        by (Some z) is made = (z, is, same_Some (closed z) w made)

pub same-count : (xs ys : List NodeFile) → map closed ys ≡ map closed xs → length ys ≡ length xs
same-count xs ys same = sym (length-map ys closed) ∙ ap (λ (zs : List NodeFile). length zs) same ∙ length-map xs closed

module _ (g : Graph) (stack : StackValue) (sound : IsGraph g) (prefix : List ℕ) (xs : List NodeFile) (nodes : map closed xs ≡ file_nodes g stack prefix) where
  abbrev s : Setting
  s = run_setting g stack

  in-graph : (j : ℕ) (x : NodeFile) → slice_get xs j ≡ Some x → slice_get (file_nodes g stack prefix) j ≡ Some (closed x)
  in-graph j x at = ap (λ (ys : List NodeFile). slice_get ys j) (sym nodes) ∙ slice_get-map closed xs j ∙ ap (option_map closed) at

  -- earlier nodes are other nodes
  pub nodes-differ : (j k : ℕ) (x y : NodeFile) → slice_get xs j ≡ Some x → slice_get xs k ≡ Some y → j ≢ k → x.node ≢ y.node
  nodes-differ j k x y hx hy ne = (file_nodes-apart g stack prefix sound j k (closed x) (closed y) (in-graph j x hx) (in-graph k y hy) ne).0

  none-unsaved : (P : Past) (v : ℕ) → is_file (node s v).work ≡ false → unsaved s v P ≡ []
  none-unsaved P v h = ap (λ (f : Bool). if f then minus (puts v P) (standing_saves v P) else []) h

  by-kind : (P : Past) → ((k : ℕ) (x : NodeFile) → slice_get xs k ≡ Some x → unsaved s x.node P ≡ []) → (v : ℕ) (n : NodeRule) → rule_at g.nodes v ≡ Some n
      → (c : Kind) → n.kind ≡ c → unsaved s v P ≡ []
  by-kind P each v n rule (File r) kind =
      let f = open-files-of g stack prefix xs nodes v n r rule kind in subst (λ (w : ℕ). unsaved s w P ≡ []) f.node (each f.at f.files f.listed)
  by-kind P each v n rule (Roi r) kind = none-unsaved P v (ap is_file (known g (makers_of g.nodes stack.shape) stack.arrays v n (Roi r) rule kind).work)
  by-kind P each v n rule (Stats r) kind = none-unsaved P v (ap is_file (known g (makers_of g.nodes stack.shape) stack.arrays v n (Stats r) rule kind).work)
  by-kind P each v n rule (Circular r) kind =
      none-unsaved P v (ap is_file (known g (makers_of g.nodes stack.shape) stack.arrays v n (Circular r) rule kind).work)
  by-kind P each v n rule Scatter kind = none-unsaved P v (ap is_file (known g (makers_of g.nodes stack.shape) stack.arrays v n Scatter rule kind).work)

  -- where nothing is left at any file node, the run is finished
  pub rest-finished : (P : Past) → IsDrained s P → ((k : ℕ) (x : NodeFile) → slice_get xs k ≡ Some x → unsaved s x.node P ≡ []) → is_finished s P ≡ true
  rest-finished P drained each = finished-by s P drained (λ v here. let n = node-rule g stack v here in by-kind P each v n.0 n.1 n.0.kind refl)

-- COUNTS

pub step-first : (fault : Bool) (count : ℕ) (held : Option Files) → CountsStep fault fault count count held held
step-first true count held = (refl, refl, refl)
step-first false count held = refl

pub step-then : (old mid new : Bool) (first before now : ℕ) (then_held held held_now : Option Files) → CountsStep old mid first before then_held held
    → CountsStep mid new before now held held_now → CountsStep old new first now then_held held_now
step-then true mid new first before now then_held held held_now h step = after mid h.0 step
  where
    after : (m : Bool) → m ≡ true → CountsStep m new before now held held_now → CountsStep true new first now then_held held_now
    after true is st = (st.0, st.1 ∙ h.1, st.2 ∙ h.2)
    after false is st = let clash : false ≡ true = is in absurd (cc)
step-then false mid new first before now then_held held held_now h step = counts-then mid new first before now held held_now h step
