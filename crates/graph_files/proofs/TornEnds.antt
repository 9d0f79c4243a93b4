-- What the names of a graph's groups have where the shelf failed at the end of a file.
use Rattle.std.proofs.Common.{◌≡◌, ◌≢◌, ◌⊎◌, inl, inr, ℕ, ◌+◌, ◌/◌, ◌<◌, ◌≤◌, true, List, [], ◌++◌, length, refl, sym, ap, subst, ◌∙◌, arith, Option, Some, None}
use Rattle.std.specs.Prelude.{slice_get, is_some}
use Rattle.std.proofs.lemmas.Bool.{cases_lt}
use Rattle.std.proofs.lemmas.List.{append-nil}
use Rattle.std.proofs.lemmas.Option.{same_Some}
use Rattle.nd_base.specs.Array.{Array}
use Rattle.edge_traits.specs.Files.{Files, HasFile, file_at}
use Rattle.cdf_write.specs.Layout.{layout}
use Rattle.file_out.specs.Streams.{Stream, begun_file}
use Rattle.graph_files.specs.EndedFiles.{AllEndStops, ended_to, open_group}
use Rattle.graph_files.specs.Groups.{group_of, file_of, HasBytes}
use Rattle.graph_files.specs.Interrupted.{IsCountOf}
use Rattle.graph_files.specs.NodeFiles.{NodeFile, AreWritten, EndTorn, IsTorn, group_file, name_of}
use Rattle.graph_files.specs.NodeFileLaws.{cases_eq, open-here}
use Rattle.graph_files.specs.OpenFiles.{closed}
use Rattle.graph_files.specs.TornGroups.{IsTornName, IsTornAt}
use Rattle.graph_files.proofs.BegunBytes.{full-file, short-file, group-has, whole-is}
use Rattle.graph_files.proofs.Ends.{closed-file, ended-at}
use Rattle.graph_files.proofs.Torn.{told-file, torn-at}
use Rattle.graph_files.proofs.TornGroups.{NamesHave}

module _ (xs : List NodeFile) (final W : ℕ → List Array) (before first t now : Option Files) (e : AllEndStops first xs W t now)
    (told : is_some now ≡ is_some t)
    (some : (j : ℕ) (x : NodeFile) → slice_get xs j ≡ Some x → 1 ≤ x.count)
    (written : (j : ℕ) (x : NodeFile) → slice_get xs j ≡ Some x → AreWritten x (W x.node) t)
    (all : (j : ℕ) (x : NodeFile) → slice_get xs j ≡ Some x → W x.node ≡ final x.node)
    (count : (j i : ℕ) (x : NodeFile) (f : Stream) → slice_get xs j ≡ Some x → x.current ≡ Some f → i ≡ length (W x.node) / x.count
    → IsCountOf x.late (length (group_of x.count i (final x.node))) f.numrecs)
    (fronts : (v : ℕ) → (rest : List Array) × (final v ≡ W v ++ rest))
    (ordered : (j k : ℕ) (x y : NodeFile) → slice_get xs j ≡ Some x → slice_get xs k ≡ Some y → j < k → x.node < y.node) where
  abbrev node : NodeFile
  node = e.node

  abbrev torn : ℕ
  torn = open_group node W

  -- the files of the torn name's node
  node-here : (j : ℕ) (x : NodeFile) → slice_get xs j ≡ Some x → x.node ≡ node.node → x ≡ node
  node-here j x at same =
      elim (cases_eq j e.at) [
        | inl here ↦ same_Some x node (sym at ∙ ap (slice_get xs) here ∙ e.listed)
        | inr ne ↦ elim (cases_lt j e.at) [
          | inl less ↦ absurd (omega (arith, same, ordered j e.at x node at e.listed less))
          | inr more ↦ absurd (omega (arith, same, ordered e.at j node x e.listed at (omega (arith, more, ne))))
        ]
      ]

  -- a file that has ended
  closed-has : (j i : ℕ) (x : NodeFile) → slice_get (ended_to (e.at + 1) xs) j ≡ Some (closed x) → (x.node ≢ node.node) ⊎ (i ≢ torn)
      → 1 ≤ length (group_of x.count i (W x.node)) → HasFile now (name_of x i) (layout x.shape (group_of x.count i (W x.node)))
  closed-has j i x ended off some_ =
      subst (HasBytes now (name_of x i)) (closed-file x (W x.node) i ∙ whole-is x.shape (group_of x.count i (W x.node)) some_)
      (e.stops.0.each j (closed x) i ended off)

  whole-by : (j i : ℕ) (x : NodeFile) → slice_get xs j ≡ Some x → (x.node ≢ node.node) ⊎ (i ≢ torn) → length (group_of x.count i (W x.node)) ≡ x.count
      → HasFile now (name_of x i) (layout x.shape (group_of x.count i (W x.node)))
  whole-by j i x at off full =
      elim (ended-at (e.at + 1) xs j x at) [
        | inl ended ↦ closed-has j i x ended.1 off (omega (arith, full, some j x at))
        | inr open_ ↦
            subst (HasBytes now (name_of x i)) (full-file x (W x.node) i (some j x at) full (group-has x (W x.node) (some j x at) (written j x at).begun i))
            (e.stops.0.each j x i open_.1 off)
      ]

  ended-by : (j i : ℕ) (x : NodeFile) → slice_get xs j ≡ Some x → (x.node ≢ node.node) ⊎ (i ≢ torn) → x.node ≤ node.node
      → 1 ≤ length (group_of x.count i (W x.node)) → HasFile now (name_of x i) (layout x.shape (group_of x.count i (W x.node)))
  ended-by j i x at off low some_ =
      elim (ended-at (e.at + 1) xs j x at) [
        | inl ended ↦ closed-has j i x ended.1 off some_
        | inr open_ ↦ absurd (omega (arith, low, ordered e.at j node x e.listed at (omega (arith, open_.0))))
      ]

  begun-by : (j i : ℕ) (x : NodeFile) → slice_get xs j ≡ Some x → (x.node ≢ node.node) ⊎ (i ≢ torn) → node.node < x.node
      → 1 ≤ length (group_of x.count i (W x.node)) → length (group_of x.count i (W x.node)) < x.count
      → (numrecs : Option ℕ) × IsCountOf x.late (length (group_of x.count i (final x.node))) numrecs
      × HasFile now (name_of x i) (begun_file x.shape numrecs (group_of x.count i (W x.node)))
  begun-by j i x at off behind some_ short =
      elim (ended-at (e.at + 1) xs j x at) [
        | inl ended ↦ elim (cases_eq j e.at) [
          | inl here ↦
              let same : x ≡ node = same_Some x node (sym at ∙ ap (slice_get xs) here ∙ e.listed) in
              absurd (omega (arith, behind, ap (λ (z : NodeFile). z.node) same))
          | inr ne ↦ absurd (omega (arith, behind, ordered j e.at x node at e.listed (omega (arith, ended.0, ne))))
        ]
        | inr open_ ↦
            let o = short-file x (W x.node) i some_ short (group-has x (W x.node) (some j x at) (written j x at).begun i) in
            (o.0.numrecs, count j i x o.0 at o.1 o.2, subst (HasBytes now (name_of x i)) o.3 (e.stops.0.each j x i open_.1 off))
      ]

  -- the torn name
  torn-name : is_some now ≡ true → (o : Option Stream) → node.current ≡ o → EndTorn o node torn (group_of node.count torn (W node.node)) t now
      → IsTornName node.late node.shape (group_of node.count torn (final node.node)) (group_of node.count torn (W node.node)) []
      (file_at before (name_of node torn)) (file_at now (name_of node torn))
  torn-name told_ None is torn_ = absurd torn_
  torn-name told_ (Some f) is torn_ =
      let zs = group_of node.count torn (W node.node) in
      let same : group_of node.count torn (final node.node) ≡ zs = ap (group_of node.count torn) (sym (all e.at node e.listed)) in
      let made : group_file node (W node.node) torn ≡ Some (begun_file node.shape f.numrecs zs) =
      ap (λ (w : Option Stream). file_of w node.shape zs) (open-here node (length (W node.node)) torn refl ∙ is) in
      let has = subst (HasBytes t (name_of node torn)) made ((written e.at node e.listed).each torn) in
      record {
        rest = [];
        next = same ∙ sym (append-nil zs) ∙ sym (append-nil (zs ++ []));
        numrecs = f.numrecs;
        count = count e.at torn node f e.listed is refl;
        begun = true;
        was = file_at t (name_of node torn);
        stood = told-file t (name_of node torn) (begun_file node.shape f.numrecs zs) (sym told ∙ told_) has;
        torn =
            subst (λ (ws : List Array). IsTorn true (length ws) (file_at t (name_of node torn)) node.shape f.numrecs zs [] (file_at now (name_of node torn)))
            (sym same) torn_;
      }

  pub names-end : NamesHave xs final W before now node.node torn [] true
  names-end = record {
    first = fronts;
    place = λ j x at same. ap (λ (z : NodeFile). open_group z W) (sym (node-here j x at same));
    none = λ yes. refl;
    all = λ yes j x at. all j x at;
    torn = λ j x at same.
        subst (λ (w : NodeFile). IsTornAt w.late w.shape (group_of w.count torn (final w.node)) (group_of w.count torn (W w.node)) [] before now
        (name_of w torn)) (sym (node-here j x at same))
        (torn-at node.late node.shape (group_of node.count torn (final node.node)) (group_of node.count torn (W node.node)) [] before now
        (name_of node torn) (λ told_. torn-name told_ node.current refl e.stops.1));
    untouched = λ j i x at off filled empty_.
        absurd (omega (arith, filled, ap (λ (zs : List Array). length zs) (ap (group_of x.count i) (sym (all j x at)) ∙ empty_)));
    whole = λ j i x at off full. whole-by j i x at off full;
    ended = λ yes j i x at off low some_. ended-by j i x at off low some_;
    begun = λ j i x at off behind some_ short. begun-by j i x at off (behind refl) some_ short;
  }
