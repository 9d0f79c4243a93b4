-- What is left of a plain run's files where their end failed.
use Rattle.std.proofs.Common.{◌≡◌, ◌≢◌, ◌⊎◌, inl, inr, ℕ, zero, suc, ◌+◌, ◌/◌, ◌<◌, ◌≤◌, true, false, List, [], ◌∷◌, ◌++◌, length, refl, sym, ap, subst, ◌∙◌, Option, Some}
use Rattle.std.proofs.Common.{None}
use Rattle.std.specs.Prelude.{slice_get, IsSome, is_some}
use Rattle.std.proofs.lemmas.List.{append-nil}
use Rattle.std.proofs.lemmas.Option.{same_Some}
use Rattle.nd_base.specs.Array.{Array, StackValue}
use Rattle.nd_base.specs.GraphRules.{IsGraph, rule_at}
use Rattle.nd_base.specs.declared.graph.Graph.{Graph}
use Rattle.nd_base.specs.declared.graph.Kind.TheVariants.{Stats}
use Rattle.nd_base.specs.declared.graph.NodeRule.{NodeRule}
use Rattle.nd_base.specs.declared.graph.StatsRule.{StatsRule}
use Rattle.edge_traits.specs.Files.{Files, file_at}
use Rattle.cdf_write.specs.Layout.{layout}
use Rattle.nd_stack.specs.KeptStacks.{IsKeptStack}
use Rattle.file_out.specs.Streams.{Stream}
use Rattle.chain_plain.specs.PlainRun.{passed}
use Rattle.graph_files.specs.EndedFiles.{AllEndStops, ended_to, open_group}
use Rattle.graph_files.specs.Groups.{group_of, whole_file, file_of, HasBytes}
use Rattle.graph_files.specs.Interrupted as interrupted
use Rattle.graph_files.specs.Interrupted.{IsCountOf, IsBegunAs, AreInterrupted}
use Rattle.graph_files.specs.NodeFiles.{NodeFile, EndTorn, first_count, group_file, name_of, open_at}
use Rattle.graph_files.specs.NodeFileLaws.{cases_eq, open-here}
use Rattle.graph_files.specs.OpenFiles.{closed, AllWrittenBut}
use Rattle.graph_files.specs.OpenFileLaws.{nodes-ordered}
use Rattle.graph_files.specs.OutFiles.{plain_files, stats_name}
use Rattle.graph_files.specs.TornGroups.{AreTornGroups}
use Rattle.graph_files.proofs.BegunBytes.{begun-torn, file-some, whole-is, whole-long}
use Rattle.graph_files.proofs.Ends.{closed-file, ended-at}
use Rattle.graph_files.proofs.Torn.{told-file}
use Rattle.graph_files.proofs.TornEnds.{names-end}
use Rattle.graph_files.proofs.TornGroups.{torn-groups}
use Rattle.plain_saver.specs.Passes.{pass_at}
use Rattle.plain_saver.specs.Saved.{IsSaved, AreLeftFrom, written, rows_of, group_size}
use Rattle.plain_saver.specs.TornRuns.{IsTornRun}
use Rattle.plain_saver.specs.declared.passes.Pass.{Pass}
use Rattle.plain_saver.proofs.FileNodes.{FileOf, file-of, files-of-rule, apart, group-apart_stats, in-graph}
use Rattle.plain_saver.proofs.Fronts.{group-sized, count-of, has-numrecs, split}
use Rattle.plain_saver.proofs.Interrupted.{same-file, saved-group, saved-long, saved-row, saved-away}
use Rattle.graph_files.proofs.PlainNames.{all_out, rows_file}
use Rattle.plain_saver.proofs.Standing.{begun-of, standing-by, standing-then, StandsIn, stands-in, IsFilledGroup, group_record, interrupted-by}
use Rattle.plain_saver.proofs.Ended.{written-all_file}
use Rattle.plain_saver.proofs.TornSaved.{count-here}

-- where a node's files among those that have ended so far come from
ended-get : (n : ℕ) (xs : List NodeFile) (j : ℕ) (y : NodeFile) → slice_get (ended_to n xs) j ≡ Some y
    → (x : NodeFile) × (slice_get xs j ≡ Some x) × ((y ≡ x) ⊎ (y ≡ closed x))
ended-get zero [] j y h = let none_ : None ≡ Some y = h in absurd (cc)
ended-get (suc n) [] j y h = let none_ : None ≡ Some y = h in absurd (cc)
ended-get zero (x ∷ xs) j y h = (y, h, inl refl)
ended-get (suc n) (x ∷ xs) zero y h = (x, refl, inr (sym (same_Some (closed x) y h)))
ended-get (suc n) (x ∷ xs) (suc j) y h = ended-get n xs j y h

module _ (g : Graph) (s : StackValue) (prefix : List ℕ) (sound : IsGraph g) (kept : IsKeptStack s) (before : Option Files) (ps : List Pass)
    (xs : List NodeFile) (t : Option Files) {ts : List (List ℕ)} (h : IsSaved g s prefix before ps ts xs t)
    (left : AreLeftFrom g ps xs (length s.arrays) (length s.arrays)) where
  abbrev W : ℕ → List Array
  W v = written g s ps v

  abbrev gone : ℕ → ℕ
  gone v = (pass_at ps v).gone

  -- which node the files are of
  file : (k : ℕ) (x : NodeFile) → slice_get xs k ≡ Some x → FileOf g s prefix x
  file k x at = file-of g s prefix sound xs h.nodes k x at

  module _ (now : Option Files) (e : AllEndStops t xs W t now) where
    abbrev node : NodeFile
    node = e.node

    abbrev torn : ℕ
    torn = open_group node W

    abbrev but : AllWrittenBut t (ended_to (e.at + 1) xs) W node torn now
    but = e.stops.0

    -- the shelf tells its files as before
    told-now : is_some now ≡ is_some before
    told-now = but.told ∙ h.told

    -- which node the shelf failed at
    has-node : FileOf g s prefix node
    has-node = file e.at node e.listed

    -- names of other nodes are off the torn one
    off-node : (j i : ℕ) (x : NodeFile) → slice_get xs j ≡ Some x → (j ≢ e.at) ⊎ (i ≢ torn) → (x.node ≢ node.node) ⊎ (i ≢ torn)
    off-node j i x at (inl ne) = inl (apart g s prefix sound xs h.nodes j e.at x node at e.listed ne).0
    off-node j i x at (inr ne) = inr ne

    -- a name other than the torn one
    off-name : (j i : ℕ) (x : NodeFile) → slice_get xs j ≡ Some x → IsFilledGroup g s x i → (j ≢ e.at) ⊎ (i ≢ torn)
        → StandsIn (name_of node torn) before now (group_record g s x i)
    off-name j i x at some off =
        let all = written-all_file g s prefix sound kept before ps xs t h left j x at in
        let final = layout x.shape (group_of x.count i (all_out g s x.node)) in
        stands-in (name_of node torn) before now (group_record g s x i) (standing-by x.late final (name_of x i) before now told-now (λ told.
        elim (ended-at (e.at + 1) xs j x at) [
          | inl ended ↦
              interrupted.Whole (told-file now (name_of x i) final told (subst (HasBytes now (name_of x i))
              (closed-file x (W x.node) i ∙ ap (λ (zs : List Array). whole_file x.shape (group_of x.count i zs)) all
              ∙ whole-is x.shape (group_of x.count i (all_out g s x.node)) some) (but.each j (closed x) i ended.1 (off-node j i x at off))))
          | inr open_ ↦
              let some_ : 1 ≤ length (group_of x.count i (W x.node)) = subst (λ (zs : List Array). 1 ≤ length (group_of x.count i zs)) (sym all) some in
              standing-then x.late final (file_at before (name_of x i)) (file_at t (name_of x i)) (file_at now (name_of x i))
              (same-file now t (name_of x i) (group_file x (W x.node) i) told (sym but.told ∙ told) (but.each j x i open_.1 (off-node j i x at off))
              ((h.groups j x at).written.each i)
              (λ none. absurd (file-some (open_at x (length (W x.node)) i) x.shape (group_of x.count i (W x.node)) some_ none)))
              (saved-group g s prefix sound kept before ps xs t h j i x at some)
        ]))

    -- and the torn one
    torn-by : (o : Option Stream) → node.current ≡ o → IsFilledGroup g s node torn → EndTorn o node torn (group_of node.count torn (W node.node)) t now
        → StandsIn (name_of node torn) before now (group_record g s node torn)
    torn-by None is some torn_ = absurd torn_
    torn-by (Some o) is some torn_ =
        let zs = group_of node.count torn (W node.node) in
        let full = group_of node.count torn (all_out g s node.node) in
        let size = group_size node.count (length (passed g s node.node)) (gone node.node) in
        let first = has-numrecs (first_count node.late (Some size)) node.current o (h.groups e.at node e.listed).numrecs is in
        let count : IsCountOf node.late (length full) o.numrecs =
        subst (λ (n : ℕ). IsCountOf node.late n o.numrecs)
        (sym (group-sized g s prefix kept ps h.passes node.count torn node.node has-node.rule has-node.at refl)) (count-of node.late size o.numrecs first) in
        let all = written-all_file g s prefix sound kept before ps xs t h left e.at node e.listed in
        let whole : full ≡ (zs ++ []) ++ [] = ap (group_of node.count torn) (sym all) ∙ sym (append-nil zs) ∙ sym (append-nil (zs ++ [])) in
        let was : IsBegunAs node.late (layout node.shape full) (file_at before (name_of node torn)) (file_at t (name_of node torn)) =
        begun-of node.late (layout node.shape full) (file_at before (name_of node torn)) (file_at t (name_of node torn))
        (saved-group g s prefix sound kept before ps xs t h e.at torn node e.listed some) in (
          (λ away. absurd (away refl)),
          begun-torn node.shape zs [] [] full whole (file_at before (name_of node torn)) true (length zs) node.late o.numrecs (file_at t (name_of node torn))
              (file_at now (name_of node torn)) (λ all_. refl) count
              (λ same. subst (IsBegunAs node.late (layout node.shape full) (file_at before (name_of node torn))) (sym same) was) torn_,
        )

    -- at this node
    in-node : (i : ℕ) → IsFilledGroup g s node i → StandsIn (name_of node torn) before now (group_record g s node i)
    in-node i some =
        elim (cases_eq i torn) [
          | inl here ↦
              subst (λ (w : ℕ). StandsIn (name_of node torn) before now (group_record g s node w)) (sym here)
              (torn-by node.current refl (subst (IsFilledGroup g s node) here some) e.stops.1)
          | inr ne ↦ off-name e.at i node e.listed some (inr ne)
        ]

    -- at each node
    end-group : (j i : ℕ) (x : NodeFile) → slice_get xs j ≡ Some x → IsFilledGroup g s x i → StandsIn (name_of node torn) before now (group_record g s x i)
    end-group j i x at some =
        elim (cases_eq j e.at) [
          | inr ne ↦ off-name j i x at some (inl ne)
          | inl here ↦
              let same : x ≡ node = same_Some x node (sym at ∙ ap (slice_get xs) here ∙ e.listed) in
              subst (λ (w : NodeFile). StandsIn (name_of node torn) before now (group_record g s w i)) (sym same)
              (in-node i (subst (λ (w : NodeFile). IsFilledGroup g s w i) same some))
        ]

    -- the group of the torn name has an array
    torn-named : (o : Option Stream) → node.current ≡ o → EndTorn o node torn (group_of node.count torn (W node.node)) t now → IsFilledGroup g s node torn
    torn-named None is torn_ = absurd torn_
    torn-named (Some o) is torn_ =
        saved-long g s prefix sound kept before ps xs t h e.at torn node e.listed
        (ap (λ (w : Option (List ℕ)). is_some w)
        (ap (λ (w : Option Stream). file_of w node.shape (group_of node.count torn (W node.node))) (open-here node (length (W node.node)) torn refl ∙ is)))

    -- what the files that have ended and the others name is named at the beginning
    named-before : (j i : ℕ) (y : NodeFile) → slice_get (ended_to (e.at + 1) xs) j ≡ Some y
        → (x : NodeFile) × (slice_get xs j ≡ Some x) × (name_of y i ≡ name_of x i) × (IsSome (group_file y (W y.node) i) → IsFilledGroup g s x i)
    named-before j i y at =
        let o = ended-get (e.at + 1) xs j y at in
        let x = o.0 in (
          x,
          o.1,
          elim o.2 [ inl same ↦ ap (λ (w : NodeFile). name_of w i) same | inr same ↦ ap (λ (w : NodeFile). name_of w i) same ],
          elim o.2 [
            | inl same ↦ (λ named. saved-long g s prefix sound kept before ps xs t h j i x o.1
                (subst (λ (w : NodeFile). IsSome (group_file w (W w.node) i)) same named))
            | inr same ↦ (λ named.
                subst (λ (zs : List Array). 1 ≤ length (group_of x.count i zs)) (written-all_file g s prefix sound kept before ps xs t h left j x o.1)
                (whole-long x.shape (group_of x.count i (W x.node)) (subst (λ (w : Option (List ℕ)). IsSome w) (closed-file x (W x.node) i)
                (subst (λ (w : NodeFile). IsSome (group_file w (W w.node) i)) same named))))
          ],
        )

    -- a statistics file has what it had
    end-stats : (name : List ℕ) → file_at now (stats_name prefix name) ≡ file_at t (stats_name prefix name)
    end-stats name =
        but.others (stats_name prefix name) (λ same. group-apart_stats g s prefix sound xs h.nodes e.at node e.listed torn name (sym same))
        (λ j y i at named same. let o = named-before j i y at in group-apart_stats g s prefix sound xs h.nodes j o.0 o.1 i name (sym (same ∙ o.2)))

    -- which stands
    end-row : (v : ℕ) (n : NodeRule) (r : StatsRule) → rule_at g.nodes v ≡ Some n → n.kind ≡ Stats r
        → StandsIn (name_of node torn) before now (rows_file g s prefix v n r)
    end-row v n r rule kind =
        stands-in (name_of node torn) before now (rows_file g s prefix v n r)
        (standing-then false (rows_of r (all_out g s v)) (file_at before (stats_name prefix n.name)) (file_at t (stats_name prefix n.name))
        (file_at now (stats_name prefix n.name)) (end-stats n.name) (saved-row g s prefix sound kept before ps xs t h v n r rule kind))

    -- WHAT WAS WRITTEN OF EACH GROUP

    -- the files come in the order of their nodes
    ordered : (j k : ℕ) (x y : NodeFile) → slice_get xs j ≡ Some x → slice_get xs k ≡ Some y → j < k → x.node < y.node
    ordered j k x y at_x at_y less =
        nodes-ordered g s prefix 1 g.nodes j k (closed x) (closed y) (in-graph g s prefix sound xs h.nodes j x at_x)
        (in-graph g s prefix sound xs h.nodes k y at_y) less

    -- the number in the header of an open file
    count : (j i : ℕ) (x : NodeFile) (o : Stream) → slice_get xs j ≡ Some x → x.current ≡ Some o → i ≡ length (W x.node) / x.count
        → IsCountOf x.late (length (group_of x.count i (all_out g s x.node))) o.numrecs
    count j i x o at open_ here =
        count-here g s prefix sound kept before ps xs t h j x at i o.numrecs here (has-numrecs _ x.current o (h.groups j x at).numrecs open_)

    end-groups : AreTornGroups g s prefix (λ v. all_out g s v) W before now
    end-groups =
        torn-groups g s prefix xs (files-of-rule g s prefix sound xs h.nodes) (λ v. all_out g s v) W before now node.node torn [] true
        (names-end xs (λ v. all_out g s v) W before t t now e but.told (λ j x at. (file j x at).some) (λ j x at. (h.groups j x at).written)
        (λ j x at. written-all_file g s prefix sound kept before ps xs t h left j x at) count (λ v. split g s prefix kept ps h.passes v) ordered)

    interrupted-end : AreInterrupted before (plain_files g s prefix) now
    interrupted-end =
        interrupted-by g s prefix sound xs h.nodes before now told-now (name_of node torn) end-group end-row
        (λ q away rows.
        but.others q (away e.at torn node e.listed (torn-named node.current refl e.stops.1))
        (λ j y i at named. let o = named-before j i y at in (λ same. away j i o.0 o.1 (o.3 named) (same ∙ o.2)))
        ∙ saved-away g s prefix sound kept before ps xs t h q away rows)

    -- an end that failed, after every array went out of its node
    pub torn-end : IsTornRun g s prefix before now
    torn-end = record { files = interrupted-end; groups = (W, end-groups) }
