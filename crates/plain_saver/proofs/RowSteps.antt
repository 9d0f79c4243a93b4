-- What one row more at a statistics node does to what stands, and a write of those that are kept back.
use Rattle.std.proofs.Common.{◌≡◌, ◌≢◌, inl, inr, ℕ, ◌-◌, ◌%◌, ◌≤◌, true, List, [], ◌∷◌, ◌++◌, Option, None, Some, length, sym, ap, subst, ◌∙◌}
use Rattle.std.specs.Prelude.{is_some, slice_get}
use Rattle.std.proofs.lemmas.List.{append-nil, append_assoc, length-set}
use Rattle.std.proofs.lemmas.Option.{same_Some}
use Rattle.nd_base.specs.Array.{Array, StackValue}
use Rattle.nd_base.specs.GraphRules.{IsGraph, rule_at}
use Rattle.nd_base.specs.declared.graph.Graph.{Graph}
use Rattle.nd_base.specs.declared.graph.Kind.TheVariants.{Stats, File}
use Rattle.nd_base.specs.declared.graph.NodeRule.{NodeRule}
use Rattle.nd_base.specs.declared.graph.StatsRule.{StatsRule}
use Rattle.edge_traits.specs.Files.{Files, HasFile, with_more}
use Rattle.edge_traits.specs.FileLaws.{file_at-with_more_same}
use Rattle.chain_plain.specs.Content.{content}
use Rattle.chain_plain.specs.ContentLaws.{frame}
use Rattle.chain_plain.specs.OneThread.{arrays_out}
use Rattle.chain_plain.specs.PlainRun.{passed}
use Rattle.graph_files.specs.NodeFiles.{NodeFile, name_of, first_count, group_file, IsChangedAt, AreWritten, HasNumrecs}
use Rattle.graph_files.specs.NodeFileLaws.{cases_eq, changed-HasBytes, changed-more, changed-file_at, changed-told}
use Rattle.graph_files.specs.OutFiles.{stats_name}
use Rattle.graph_files.specs.NameLaws.{stats_names-differ}
use Rattle.plain_saver.specs.declared.passes.Pass.{Pass}
use Rattle.plain_saver.specs.Passes.{pass_at, with_one_gone, is_next}
use Rattle.plain_saver.specs.Texts.{HasFront, text_at, with_text}
use Rattle.plain_saver.specs.Saved.{written, rows_of, group_size, IsGrouped, IsSaved}
use Rattle.plain_saver.proofs.FileNodes.{file-of, group-apart_stats, one-node}
use Rattle.plain_saver.proofs.Pushed.{node-place}
use Rattle.plain_saver.proofs.AtNodes.{node-same, node-other}
use Rattle.plain_saver.proofs.StatsRows.{rows_of-append, arrays_out-one}
use Rattle.plain_saver.proofs.Gone.{pass_at-other, passes-more, written-more, written-other}

-- more bytes at the end of a name
HasFile-more : (t : Option Files) (q bytes text : List ℕ) → HasFile t q bytes → HasFile (with_more t q text) q (bytes ++ text)
HasFile-more None q bytes text has = tt
HasFile-more (Some m) q bytes text has = file_at-with_more_same (Some m) q text bytes has

-- one kind has one rule
stats-same : (p q : StatsRule) → Stats p ≡ Stats q → p ≡ q
stats-same p q e = cc

module _ (g : Graph) (s : StackValue) (prefix : List ℕ) (before t : Option Files) (ps : List Pass) (ts : List (List ℕ)) (xs : List NodeFile)
    (sound : IsGraph g) (saved : IsSaved g s prefix before ps ts xs t) (v : ℕ) (n : NodeRule) (r : StatsRule) (rule : rule_at g.nodes v ≡ Some n)
    (kind : n.kind ≡ Stats r) where
  abbrev name : List ℕ
  name = stats_name prefix n.name

  at-place : (1 ≤ v) × (v ≤ length g.nodes)
  at-place = node-place g v n rule

  -- so it has a text
  has-text : v ≤ length ts
  has-text = subst (λ (k : ℕ). v ≤ k) (sym saved.kept) at-place.1

  apart-node : (j : ℕ) (x : NodeFile) → slice_get xs j ≡ Some x → x.node ≢ v
  apart-node j x h e =
      let f = file-of g s prefix sound xs saved.nodes j x h in
      let both : Some f.rule ≡ Some n = sym f.at ∙ ap (rule_at g.nodes) e ∙ rule in
      let kinds : File f.file ≡ Stats r = sym f.kind ∙ ap (λ (m : NodeRule). m.kind) (same_Some f.rule n both) ∙ kind in
      absurd (cc)

  -- a front at this node is one at the node of its number and rule
  front-here : (u : Option Files) (qs : List Pass) (us : List (List ℕ)) → HasFront u name (text_at us v) (rows_of r (written g s qs v))
      → (w : ℕ) (m : NodeRule) (q : StatsRule) → rule_at g.nodes w ≡ Some m → m.kind ≡ Stats q → w ≡ v
      → HasFront u (stats_name prefix m.name) (text_at us w) (rows_of q (written g s qs w))
  front-here u qs us has w m q at_w kind_w here =
      let rules : m ≡ n = same_Some m n (sym at_w ∙ ap (rule_at g.nodes) here ∙ rule) in
      let same : q ≡ r = stats-same q r (sym kind_w ∙ ap (λ (z : NodeRule). z.kind) rules ∙ kind) in
      subst (λ (z : NodeRule). HasFront u (stats_name prefix z.name) (text_at us w) (rows_of q (written g s qs w))) (sym rules)
      (subst (λ (z : StatsRule). HasFront u name (text_at us w) (rows_of z (written g s qs w))) (sym same)
      (subst (λ (z : ℕ). HasFront u name (text_at us z) (rows_of r (written g s qs z))) (sym here) has))

  -- ONE ROW MORE IS KEPT BACK

  module _ (k : ℕ) (next : is_next ps v k ≡ true) (a : Array) (made : content g.nodes s.arrays (frame v k) ≡ Some a) (text : List ℕ)
      (is_row : text ≡ rows_of r (arrays_out g.nodes s.arrays v (k ∷ []))) where
    abbrev more : List (List ℕ)
    more = with_text ts v (text_at ts v ++ text)

    grouped-still : (j : ℕ) (x : NodeFile) → slice_get xs j ≡ Some x → IsGrouped g s (with_one_gone ps v) x t
    grouped-still j x h =
        let old = saved.groups j x h in
        let still : pass_at (with_one_gone ps v) x.node ≡ pass_at ps x.node = pass_at-other ps v x.node at-place.0 (apart-node j x h) in
        record {
          written =
              subst (λ (zs : List Array). AreWritten x zs t) (sym (written-other g s ps v at-place.0 at-place.1 saved.passes x.node (apart-node j x h)))
              old.written;
          numrecs =
              subst (λ (p : Pass). HasNumrecs (first_count x.late (Some (group_size x.count (length (passed g s x.node)) p.gone))) x.current) (sym still)
              old.numrecs;
          between = subst (λ (p : Pass). p.gone % x.count ≡ 0 → x.current ≡ None) (sym still) old.between;
        }

    rows-more : rows_of r (written g s (with_one_gone ps v) v) ≡ rows_of r (written g s ps v) ++ text
    rows-more =
        ap (rows_of r) (written-more g s ps v at-place.0 at-place.1 saved.passes k next a made)
        ∙ rows_of-append r (written g s ps v) (a ∷ [])
        ∙ ap (λ (zs : List ℕ). rows_of r (written g s ps v) ++ zs) (sym (is_row ∙ ap (rows_of r) (arrays_out-one g.nodes s.arrays v k a made)))

    front-more : HasFront t name (text_at more v) (rows_of r (written g s (with_one_gone ps v) v))
    front-more =
        let h = saved.rows v n r rule kind in (
          h.0,
          rows-more ∙ ap (λ (zs : List ℕ). zs ++ text) h.1 ∙ append_assoc h.0 (text_at ts v) text
              ∙ ap (λ (zs : List ℕ). h.0 ++ zs) (sym (node-same ts v (text_at ts v ++ text) [] at-place.0 has-text)),
          h.2,
        )

    rows-then : (w : ℕ) (m : NodeRule) (q : StatsRule) → rule_at g.nodes w ≡ Some m → m.kind ≡ Stats q
        → HasFront t (stats_name prefix m.name) (text_at more w) (rows_of q (written g s (with_one_gone ps v) w))
    rows-then w m q at_w kind_w =
        elim (cases_eq w v) [
          | inl here ↦ front-here t (with_one_gone ps v) more front-more w m q at_w kind_w here
          | inr ne ↦
              subst (λ (zs : List Array). HasFront t (stats_name prefix m.name) (text_at more w) (rows_of q zs))
              (sym (written-other g s ps v at-place.0 at-place.1 saved.passes w ne))
              (subst (λ (zs : List ℕ). HasFront t (stats_name prefix m.name) zs (rows_of q (written g s ps w)))
              (sym (node-other ts v (text_at ts v ++ text) [] at-place.0 w (node-place g w m at_w).0 ne)) (saved.rows w m q at_w kind_w))
        ]

    pub saved-row : IsSaved g s prefix before (with_one_gone ps v) more xs t
    saved-row = record {
      told = saved.told;
      passes = passes-more g s ps v at-place.0 at-place.1 saved.passes k next;
      kept = length-set ts (v - 1) (text_at ts v ++ text) ∙ saved.kept;
      nodes = saved.nodes;
      groups = grouped-still;
      rows = rows-then;
      others = λ q away none.
          saved.others q (λ j x i h named. away j x i h (subst (λ (zs : List Array). is_some (group_file x zs i) ≡ true)
          (sym (written-other g s ps v at-place.0 at-place.1 saved.passes x.node (apart-node j x h))) named)) none;
    }

  -- WHAT IS KEPT BACK IS WRITTEN

  module _ (u : Option Files) (added : u ≡ with_more t name (text_at ts v)) where
    changed : IsChangedAt t name u
    changed = changed-more t u name (text_at ts v) added

    grouped-put : (j : ℕ) (x : NodeFile) → slice_get xs j ≡ Some x → IsGrouped g s ps x u
    grouped-put j x h =
        let old = saved.groups j x h in
        record {
          written = record {
            begun = old.written.begun;
            each = λ i. changed-HasBytes t u name (name_of x i) (group_file x (written g s ps x.node) i) changed
                (group-apart_stats g s prefix sound xs saved.nodes j x h i n.name) (old.written.each i);
          };
          numrecs = old.numrecs;
          between = old.between;
        }

    front-put : HasFront u name (text_at (with_text ts v []) v) (rows_of r (written g s ps v))
    front-put =
        let h = saved.rows v n r rule kind in (
          h.0 ++ text_at ts v,
          h.1 ∙ sym (append-nil (h.0 ++ text_at ts v))
              ∙ ap (λ (zs : List ℕ). (h.0 ++ text_at ts v) ++ zs) (sym (node-same ts v [] [] at-place.0 has-text)),
          subst (λ (w : Option Files). HasFile w name (h.0 ++ text_at ts v)) (sym added) (HasFile-more t name h.0 (text_at ts v) h.2),
        )

    rows-put : (w : ℕ) (m : NodeRule) (q : StatsRule) → rule_at g.nodes w ≡ Some m → m.kind ≡ Stats q
        → HasFront u (stats_name prefix m.name) (text_at (with_text ts v []) w) (rows_of q (written g s ps w))
    rows-put w m q at_w kind_w =
        elim (cases_eq w v) [
          | inl here ↦ front-here u ps (with_text ts v []) front-put w m q at_w kind_w here
          | inr ne ↦
              let h = saved.rows w m q at_w kind_w in
              let names : stats_name prefix m.name ≢ name = λ e. ne (one-node g sound w v m n at_w rule (stats_names-differ prefix m.name n.name e)) in (
                h.0,
                h.1 ∙ ap (λ (zs : List ℕ). h.0 ++ zs) (sym (node-other ts v [] [] at-place.0 w (node-place g w m at_w).0 ne)),
                changed-HasBytes t u name (stats_name prefix m.name) (Some h.0) changed names h.2,
              )
        ]

    pub saved-put : IsSaved g s prefix before ps (with_text ts v []) xs u
    saved-put = record {
      told = changed-told t u name changed ∙ saved.told;
      passes = saved.passes;
      kept = length-set ts (v - 1) [] ∙ saved.kept;
      nodes = saved.nodes;
      groups = grouped-put;
      rows = rows-put;
      others = λ q away none. changed-file_at t u name q changed (λ e. none v n r rule kind e) ∙ saved.others q away none;
    }
