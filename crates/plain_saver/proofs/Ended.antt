-- The end of a plain run's files, once every array has gone out of its node.
use Rattle.std.proofs.Common.{◌≡◌, inl, inr, ℕ, ◌%◌, ◌<◌, ◌≤◌, Bool, true, false, List, [], ◌∷◌, ◌++◌, length, drop, refl, sym, ap, subst, ◌∙◌, arith}
use Rattle.std.proofs.Common.{Option, Some, None}
use Rattle.std.specs.Prelude.{All, slice_get, is_some}
use Rattle.std.proofs.Common.{length-drop}
use Rattle.std.proofs.Math.Nat.{mod-lt}
use Rattle.std.proofs.lemmas.Bool.{false≢true}
use Rattle.std.proofs.lemmas.List.{take_all, append-nil}
use Rattle.std.proofs.lemmas.List.Elements.{All-head, All-drop}
use Rattle.std.proofs.lemmas.Nat.{div-add-mod'}
use Rattle.std.proofs.lemmas.Option.{same_Some}
use Rattle.nd_base.specs.Array.{Array, StackValue}
use Rattle.nd_base.specs.GraphRules.{IsGraph, rule_at}
use Rattle.nd_base.specs.declared.graph.Graph.{Graph}
use Rattle.nd_base.specs.declared.graph.Kind.TheVariants.{Stats}
use Rattle.nd_base.specs.declared.graph.NodeRule.{NodeRule}
use Rattle.nd_base.specs.declared.graph.StatsRule.{StatsRule}
use Rattle.edge_traits.specs.Files.{Files, HasFile, file_at}
use Rattle.cdf_write.specs.Layout.{layout}
use Rattle.nd_stack.specs.KeptStacks.{IsKeptStack}
use Rattle.file_out.specs.Streams.{Stream}
use Rattle.chain_plain.specs.OneThread.{arrays_out}
use Rattle.chain_plain.specs.PassedLaws.{passed-frames}
use Rattle.chain_plain.specs.PlainRun.{passed}
use Rattle.graph_files.specs.EndedFiles.{AllEnded}
use Rattle.graph_files.specs.Groups.{group_of, whole_file, HasBytes}
use Rattle.graph_files.specs.NodeFiles.{NodeFile, HasNumrecs, IsFilled, IsOpenAfter, first_count, name_of}
use Rattle.graph_files.specs.NodeFileLaws.{cases_eq}
use Rattle.graph_files.specs.OutFiles.{plain_files, stats_name, with_files}
use Rattle.plain_saver.specs.Passes.{AreFrom, pass_at}
use Rattle.plain_saver.specs.Texts.{text_at, AreEmptyTo}
use Rattle.plain_saver.proofs.Pushed.{node-place}
use Rattle.plain_saver.specs.Saved.{IsSaved, IsNoRows, AreLeftFrom, written, rows_of, group_size}
use Rattle.plain_saver.specs.declared.passes.Pass.{Pass}
use Rattle.plain_saver.proofs.FileNodes.{FileOf, file-of, group-apart_stats}
use Rattle.plain_saver.proofs.Fronts.{length-written}
use Rattle.plain_saver.proofs.Interrupted.{saved-away}
use Rattle.graph_files.proofs.BegunBytes.{whole-is, whole-long}
use Rattle.graph_files.proofs.PlainNames.{all_out, rule-place, with_files-all}
use Rattle.plain_saver.proofs.Standing.{IsFilledGroup, IsNoName, each-file, no-name, no-rows}

-- positions that are all frames, and none of them below the number of frames, are none
none-left : (n : ℕ) (ks : List ℕ) → All (λ p. n ≤ p) ks → All (λ p. p < n) ks → length ks ≡ 0
none-left n [] low high = refl
none-left n (k ∷ ks) low high = absurd (omega (arith, All-head (λ p. n ≤ p) k ks low, All-head (λ p. p < n) k ks high))

-- a file that another shelf has
moved-file : (now t : Option Files) (q bytes : List ℕ) → is_some now ≡ is_some t → file_at now q ≡ file_at t q → HasFile t q bytes → HasFile now q bytes
moved-file None t q bytes told same has = tt
moved-file (Some m) None q bytes told same has = absurd (false≢true (sym told))
moved-file (Some m) (Some l) q bytes told same has = same ∙ has

-- the number of records that a header says
numrecs-is : (late : Bool) (n m : ℕ) → first_count late (Some n) ≡ Some m → m ≡ n
numrecs-is true n m is = let none_ : None ≡ Some m = is in absurd (cc)
numrecs-is false n m is = same_Some m n (sym is)

module _ (g : Graph) (s : StackValue) (prefix : List ℕ) (sound : IsGraph g) (kept : IsKeptStack s) (before : Option Files) (ps : List Pass)
    (xs : List NodeFile) (t : Option Files) {ts : List (List ℕ)} (h : IsSaved g s prefix before ps ts xs t)
    (left : AreLeftFrom g ps xs (length s.arrays) (length s.arrays)) where
  abbrev W : ℕ → List Array
  W v = written g s ps v

  abbrev gone : ℕ → ℕ
  gone v = (pass_at ps v).gone

  -- which node the files are of
  file : (k : ℕ) (x : NodeFile) → slice_get xs k ≡ Some x → FileOf g s prefix x
  file k x at = file-of g s prefix sound xs h.nodes k x at

  -- ALL HAVE GONE

  -- no position is left at a node
  all-gone : (v : ℕ) (n : NodeRule) → rule_at g.nodes v ≡ Some n → AreFrom ps v (length s.arrays) → gone v ≡ length (passed g s v)
  all-gone v n at from =
      let p = rule-place g v n at in
      let ks = passed g s v in
      let low : All (λ k. length s.arrays ≤ k) (drop (gone v) ks) =
      subst (λ (xs : List ℕ). All (λ k. length s.arrays ≤ k) (drop (gone v) xs)) (h.passes.positions v p.0 p.1) from in
      let high = All-drop (λ k. k < length s.arrays) (gone v) ks (passed-frames g s v) in
      omega (arith, none-left (length s.arrays) (drop (gone v) ks) low high, length-drop (gone v) ks, h.passes.gone v p.0 p.1)

  -- at a file node
  pub all-gone_file : (k : ℕ) (x : NodeFile) → slice_get xs k ≡ Some x → gone x.node ≡ length (passed g s x.node)
  all-gone_file k x at = let f = file k x at in all-gone x.node f.rule f.at (left.groups k x at)

  -- and at a statistics node
  pub all-gone_row : (v : ℕ) (n : NodeRule) (r : StatsRule) → rule_at g.nodes v ≡ Some n → n.kind ≡ Stats r → gone v ≡ length (passed g s v)
  all-gone_row v n r rule kind = all-gone v n rule (left.rows v n r rule kind)

  -- all that goes out of a node is written
  written-whole : (v : ℕ) → gone v ≡ length (passed g s v) → W v ≡ all_out g s v
  written-whole v all = ap (arrays_out g.nodes s.arrays v) (take_all (gone v) (passed g s v) (omega (arith, all)))

  -- so all were written
  pub written-all_file : (k : ℕ) (x : NodeFile) → slice_get xs k ≡ Some x → W x.node ≡ all_out g s x.node
  written-all_file k x at = written-whole x.node (all-gone_file k x at)

  -- at a statistics node too
  pub written-all_row : (v : ℕ) (n : NodeRule) (r : StatsRule) → rule_at g.nodes v ≡ Some n → n.kind ≡ Stats r → W v ≡ all_out g s v
  written-all_row v n r rule kind = written-whole v (all-gone_row v n r rule kind)

  -- and each open file has a row, and as many as its header says
  pub filled : (k : ℕ) (x : NodeFile) → slice_get xs k ≡ Some x → IsFilled x.current
  filled k x at = filled-by x.current refl (h.groups k x at).written.begun (h.groups k x at).numrecs
    where
      -- which node the files are of
      f : FileOf g s prefix x
      f = file k x at

      -- an open file has a row
      between : (o : Stream) → x.current ≡ Some o → 1 ≤ gone x.node % x.count
      between o is =
          elim (cases_eq (gone x.node % x.count) 0) [
            | inl none ↦ let clash : Some o ≡ None = sym is ∙ (h.groups k x at).between none in absurd (cc)
            | inr some ↦ omega (arith, some)
          ]

      -- by what is open
      filled-by : (o : Option Stream) → x.current ≡ o → IsOpenAfter x (length (W x.node)) o
          → HasNumrecs (first_count x.late (Some (group_size x.count (length (passed g s x.node)) (gone x.node)))) o → IsFilled o
      filled-by None is begun numrecs = tt
      filled-by (Some o) is begun numrecs =
          let long = length-written g s prefix kept ps h.passes x.node f.rule f.at in
          let rows : o.count ≡ gone x.node % x.count = ap (λ (d : Stream). d.count) begun ∙ ap (λ (n : ℕ). n % x.count) long in
          let all = all-gone_file k x at in
          let parts = div-add-mod' (gone x.node) x.count in
          let less = mod-lt (gone x.node) (let e : 0 < x.count = omega (arith, f.some) in e) in (
            omega (arith, rows, between o is),
            (λ m some.
                let same = numrecs-is x.late (group_size x.count (length (passed g s x.node)) (gone x.node)) m (sym numrecs ∙ some) in
                omega (arith, same, rows, all, parts, less)),
          )

  -- THE WHOLE RUN

  module _ (now : Option Files) (ended : AllEnded t xs W now) (empty : AreEmptyTo g ts (length g.nodes)) where
    -- each group that has an array has its file
    ended-group : (k i : ℕ) (x : NodeFile) → slice_get xs k ≡ Some x → IsFilledGroup g s x i
        → HasFile now (name_of x i) (layout x.shape (group_of x.count i (all_out g s x.node)))
    ended-group k i x at some =
        subst (HasBytes now (name_of x i))
        (ap (λ (zs : List Array). whole_file x.shape (group_of x.count i zs)) (written-all_file k x at)
        ∙ whole-is x.shape (group_of x.count i (all_out g s x.node)) some) (ended.each k x at i)

    -- a statistics file has what it had
    ended-stats : (name : List ℕ) → file_at now (stats_name prefix name) ≡ file_at t (stats_name prefix name)
    ended-stats name = ended.others (stats_name prefix name) (λ k x i at named e. group-apart_stats g s prefix sound xs h.nodes k x at i name (sym e))

    -- which is the rows of all arrays
    ended-row : (v : ℕ) (n : NodeRule) (r : StatsRule) → rule_at g.nodes v ≡ Some n → n.kind ≡ Stats r
        → HasFile now (stats_name prefix n.name) (rows_of r (all_out g s v))
    ended-row v n r rule kind =
        let has = h.rows v n r rule kind in
        let none : text_at ts v ≡ [] = empty v n r (node-place g v n rule).1 rule kind in
        let whole : has.0 ≡ rows_of r (all_out g s v) =
        sym (has.1 ∙ ap (λ (b : List ℕ). has.0 ++ b) none ∙ append-nil has.0) ∙ ap (rows_of r) (written-all_row v n r rule kind) in
        moved-file now t (stats_name prefix n.name) (rows_of r (all_out g s v)) ended.told (ended-stats n.name)
        (subst (HasFile t (stats_name prefix n.name)) whole has.2)

    -- every other name is as before
    ended-away : (q : List ℕ) → IsNoName g s xs q → IsNoRows g prefix q → file_at now q ≡ file_at before q
    ended-away q away rows =
        ended.others q (λ k x i at named.
        away k i x at (subst (λ (zs : List Array). 1 ≤ length (group_of x.count i zs)) (written-all_file k x at)
        (whole-long x.shape (group_of x.count i (W x.node)) named)))
        ∙ saved-away g s prefix sound kept before ps xs t h q away rows

    -- all files have ended: the shelf is the one with the plain run's files
    pub saved-ended : now ≡ with_files before (plain_files g s prefix)
    saved-ended =
        with_files-all (plain_files g s prefix) before now (ended.told ∙ h.told)
        (each-file g s prefix sound xs h.nodes (λ f. HasFile now f.name f.bytes) ended-group ended-row)
        (λ q away. ended-away q (no-name g s prefix sound xs h.nodes q away) (no-rows g s prefix sound xs h.nodes q away))
