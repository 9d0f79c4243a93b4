-- What is left of a plain run's files where a write of the next array at a file node stopped.
use Rattle.std.proofs.Common.{◌≡◌, ◌≢◌, ◌⊎◌, inl, inr, ℕ, ◌*◌, ◌/◌, ◌%◌, ◌^◌, ◌<◌, true, false, List, [], ◌∷◌, ◌++◌, length, drop, map, set, refl, sym, ap, subst, ◌∙◌}
use Rattle.std.proofs.Common.{arith, Option, None, Some}
use Rattle.std.specs.Prelude.{slice_get, IsSome, is_some}
use Rattle.std.proofs.Common.{length-append, length-take}
use Rattle.std.proofs.lemmas.Option.{same_Some}
use Rattle.nd_base.specs.Array.{Array, StackValue}
use Rattle.nd_base.specs.GraphRules.{IsGraph}
use Rattle.nd_base.specs.declared.graph.Graph.{Graph}
use Rattle.edge_traits.specs.Files.{Files, file_at}
use Rattle.cdf_write.specs.Layout.{layout}
use Rattle.nd_stack.specs.KeptStacks.{IsKeptStack}
use Rattle.file_out.specs.declared.fault.SaveFault.{SaveFault}
use Rattle.file_out.specs.declared.fault.SaveFault.TheVariants.{Failed, OutOfMemory}
use Rattle.file_out.specs.Streams.{Stream, begun_file}
use Rattle.chain_plain.specs.Content.{content}
use Rattle.chain_plain.specs.ContentLaws.{frame}
use Rattle.chain_plain.specs.OneThread.{arrays_out, listed}
use Rattle.chain_plain.specs.PlainRun.{passed}
use Rattle.graph_files.specs.Groups.{group_of, whole_file, file_of, HasBytes}
use Rattle.graph_files.specs.GroupLaws.{group-more, length-group}
use Rattle.graph_files.specs.Interrupted.{IsBegunAs, AreInterrupted}
use Rattle.graph_files.specs.NodeFiles.{NodeFile, IsPlaceAfter, IsTorn, first_count, group_file, name_of}
use Rattle.graph_files.specs.NodeFileLaws.{cases_eq, empty, groups-differ, none-is, open-elsewhere, open-here, written-but}
use Rattle.graph_files.specs.OpenFiles.{closed, file_nodes, AllWrittenBut, IsElsewhere}
use Rattle.graph_files.specs.InTurn.{TurnStops}
use Rattle.graph_files.specs.OpenFileLaws.{get-set_same, get-set_other, all-but}
use Rattle.graph_files.specs.OutFiles.{plain_files, stats_name}
use Rattle.graph_files.specs.TornGroups.{HasStood, IsTornName, IsTornAt, AreTornGroups}
use Rattle.graph_files.proofs.BegunBytes.{begun-torn, group-front, none-behind}
use Rattle.graph_files.proofs.Torn.{told-file, torn-at, torn-sized}
use Rattle.graph_files.proofs.Writes.{next-place}
use Rattle.plain_saver.specs.Passes.{pass_at, is_next}
use Rattle.plain_saver.specs.Saved.{IsSaved, written, rows_of, group_size}
use Rattle.plain_saver.specs.TornRuns.{IsTornRun}
use Rattle.plain_saver.specs.declared.passes.Pass.{Pass}
use Rattle.plain_saver.proofs.FileNodes.{FileOf, file-of, apart, closed-set, group-apart_stats, one-index, stats-elsewhere, none-elsewhere}
use Rattle.plain_saver.proofs.Fronts.{length-written, written-few, next-out, group-low, has-numrecs}
use Rattle.graph_files.proofs.PlainNames.{all_out, rows_file}
use Rattle.plain_saver.proofs.Standing.{begun-of, standing-by, standing-then, StandsIn, stands-in, IsFilledGroup, group_record, IsNoName, interrupted-by}
use Rattle.plain_saver.proofs.Interrupted.{same-file, saved-fresh, saved-group, saved-long, saved-row, saved-away, saved-written}
use Rattle.plain_saver.proofs.TornSaved.{count-here, groups-have, torn-saved}

module _ (g : Graph) (s : StackValue) (prefix : List ℕ) (sound : IsGraph g) (kept : IsKeptStack s) (before : Option Files) (ps : List Pass)
    (xs : List NodeFile) (t : Option Files) {ts : List (List ℕ)} (h : IsSaved g s prefix before ps ts xs t) where
  abbrev W : ℕ → List Array
  W v = written g s ps v

  abbrev gone : ℕ → ℕ
  gone v = (pass_at ps v).gone

  abbrev size : NodeFile → ℕ
  size x = group_size x.count (length (passed g s x.node)) (gone x.node)

  -- which node the files are of
  file : (k : ℕ) (x : NodeFile) → slice_get xs k ≡ Some x → FileOf g s prefix x
  file k x at = file-of g s prefix sound xs h.nodes k x at

  -- the arrays that are written are few
  few : (x : NodeFile) → length (W x.node) < 2 ^ 64
  few x = written-few g s prefix kept ps h.passes x.node

  -- so a group that has an array has a small number
  low : (x : NodeFile) (i : ℕ) → FileOf g s prefix x → IsFilledGroup g s x i → i < 2 ^ 64
  low x i f filled = group-low g s prefix kept ps h.passes x.count i x.node f.some filled

  -- as many arrays are written as have gone
  long-written : (x : NodeFile) (f : FileOf g s prefix x) → length (W x.node) ≡ gone x.node
  long-written x f = length-written g s prefix kept ps h.passes x.node f.rule f.at

  module _ (at k : ℕ) (x : NodeFile) (is : slice_get xs at ≡ Some x) (next : is_next ps x.node k ≡ true) (a : Array)
      (holds : content g.nodes s.arrays (frame x.node k) ≡ Some a) where
    abbrev G : ℕ
    G = gone x.node / x.count

    -- which node this is
    here : FileOf g s prefix x
    here = file at x is

    -- the group that the array goes to
    group-here : length (W x.node) / x.count ≡ G
    group-here = ap (λ (n : ℕ). n / x.count) (long-written x here)

    -- the group that the array goes to, and its place there
    pub place : IsPlaceAfter x.count (W x.node) G (gone x.node % x.count)
    place =
        subst (λ (n : ℕ). IsPlaceAfter x.count (W x.node) (n / x.count) (n % x.count)) (long-written x here) (next-place x.count (W x.node) here.some)

    -- the group in the end begins with what was written and the piece
    piece-front : (more : List Array) × (group_of x.count G (all_out g s x.node) ≡ (group_of x.count G (W x.node) ++ a ∷ []) ++ more)
    piece-front =
        let r = next-out g s prefix kept ps h.passes x.node k here.rule here.at next in
        let one : arrays_out g.nodes s.arrays x.node (k ∷ []) ≡ a ∷ [] = ap (λ (o : Option Array). listed o ++ []) holds in
        let front = group-front x.count G (W x.node ++ a ∷ []) r.0 in (
          front.0,
          ap (group_of x.count G) (r.1 ∙ ap (λ (zs : List Array). (W x.node ++ zs) ++ r.0) one) ∙ front.1
              ∙ ap (λ (zs : List Array). zs ++ front.0) (group-more x.count (W x.node) a G (gone x.node % x.count) place),
        )

    -- so that group has an array in the end
    filled-here : IsFilledGroup g s x G
    filled-here =
        let p = piece-front in
        omega (
          arith,
          ap length p.1,
          length-append (group_of x.count G (W x.node) ++ a ∷ []) p.0,
          length-append (group_of x.count G (W x.node)) (a ∷ []),
        )

    -- and a small number
    small : G < 2 ^ 64
    small = low x G here filled-here

    -- another group has what it had, whatever is open
    same-but : (o : Option Stream) (i : ℕ) → i ≢ G → group_file (record x { current = o }) (W x.node) i ≡ group_file x (W x.node) i
    same-but o i ne =
        let away : i ≢ length (W x.node) / x.count = λ e. ne (e ∙ group-here) in
        ap (λ (w : Option Stream). file_of w x.shape (group_of x.count i (W x.node)))
        (open-elsewhere (record x { current = o }) (length (W x.node)) i away ∙ sym (open-elsewhere x (length (W x.node)) i away))

    module _ (o : Option Stream) (now : Option Files) (but : AllWrittenBut t (set xs at (record x { current = o })) W x G now) where
      abbrev z : NodeFile
      z = record x { current = o }

      abbrev ys : List NodeFile
      ys = set xs at z

      -- these are the files of the same nodes
      nodes : map closed ys ≡ file_nodes g s prefix
      nodes = closed-set xs at x z is refl ∙ h.nodes

      -- the shelf tells its files as before
      told-now : is_some now ≡ is_some before
      told-now = but.told ∙ h.told

      -- a name of another node
      off-node : (j i : ℕ) (y : NodeFile) → slice_get xs j ≡ Some y → j ≢ at → i < 2 ^ 64 → is_some now ≡ true
          → file_at now (name_of y i) ≡ file_at t (name_of y i)
      off-node j i y was ne smaller told =
          let r = apart g s prefix sound xs h.nodes j at y x was is ne in
          let still : slice_get ys j ≡ Some y = get-set_other xs at j z ne ∙ was in
          same-file now t (name_of y i) (group_file y (W y.node) i) told (sym but.told ∙ told) (but.each j y i still (inl r.0))
          ((h.groups j y was).written.each i)
          (λ none. but.others (name_of y i) (r.1 i G smaller small) (none-elsewhere g s prefix sound ys nodes W (λ l w listed. few w) j y still i smaller none))

      -- one of another group
      same-group : (i : ℕ) → i ≢ G → group_file z (W x.node) i ≡ group_file x (W x.node) i
      same-group i ne = same-but o i ne

      -- which has what it had
      off-group : (i : ℕ) → i ≢ G → i < 2 ^ 64 → is_some now ≡ true → file_at now (name_of x i) ≡ file_at t (name_of x i)
      off-group i ne smaller told =
          let still : slice_get ys at ≡ Some z = get-set_same xs at x z is in
          same-file now t (name_of x i) (group_file x (W x.node) i) told (sym but.told ∙ told)
          (subst (HasBytes now (name_of x i)) (same-group i ne) (but.each at z i still (inr ne))) ((h.groups at x is).written.each i)
          (λ none. but.others (name_of x i) (λ e. ne (groups-differ x i G smaller small e))
          (none-elsewhere g s prefix sound ys nodes W (λ l w listed. few w) at z still i smaller (same-group i ne ∙ none)))

      -- a statistics file has what it had
      off-stats : (name : List ℕ) → file_at now (stats_name prefix name) ≡ file_at t (stats_name prefix name)
      off-stats name =
          but.others (stats_name prefix name) (λ e. group-apart_stats g s prefix sound xs h.nodes at x is G name (sym e))
          (stats-elsewhere g s prefix sound ys nodes W name)

      -- a name of this node that stands is one of a group that has an array in the end
      long-here : (i : ℕ) → IsSome (group_file z (W x.node) i) → IsFilledGroup g s x i
      long-here i named =
          elim (cases_eq i G) [
            | inl e ↦ subst (IsFilledGroup g s x) (sym e) filled-here
            | inr ne ↦ saved-long g s prefix sound kept before ps xs t h at i x is (subst (λ (w : Option (List ℕ)). IsSome w) (same-group i ne) named)
          ]

      -- a name that is that of no group is none of these
      off-others : (q : List ℕ) → IsNoName g s xs q → IsElsewhere ys W q
      off-others q away j y i listed_y named =
          elim (cases_eq j at) [
            | inr ne ↦
                let was : slice_get xs j ≡ Some y = sym (get-set_other xs at j z ne) ∙ listed_y in
                away j i y was (saved-long g s prefix sound kept before ps xs t h j i y was named)
            | inl e ↦
                let same : y ≡ z = same_Some y z (sym listed_y ∙ ap (slice_get ys) e ∙ get-set_same xs at x z is) in
                let named_ : IsSome (group_file z (W x.node) i) = subst (λ (w : NodeFile). IsSome (group_file w (W w.node) i)) same named in
                (λ eq. away at i x is (long-here i named_) (eq ∙ ap (λ (w : NodeFile). name_of w i) same))
          ]

      -- all by what stands under the name of the group
      interrupted-but : (torn : List ℕ) → StandsIn torn before now (group_record g s x G) → AreInterrupted before (plain_files g s prefix) now
      interrupted-but torn at_group =
          interrupted-by g s prefix sound xs h.nodes before now told-now torn groups
          (λ v n r rule kind. stands-in torn before now (rows_file g s prefix v n r)
          (standing-then false (rows_of r (all_out g s v)) (file_at before (stats_name prefix n.name)) (file_at t (stats_name prefix n.name))
          (file_at now (stats_name prefix n.name)) (off-stats n.name) (saved-row g s prefix sound kept before ps xs t h v n r rule kind)))
          (λ q away rows. but.others q (away at G x is filled-here) (off-others q away) ∙ saved-away g s prefix sound kept before ps xs t h q away rows)
        where
          -- by what stood before
          from-saved : (j i : ℕ) (y : NodeFile) → slice_get xs j ≡ Some y → IsFilledGroup g s y i
              → (is_some now ≡ true → file_at now (name_of y i) ≡ file_at t (name_of y i)) → StandsIn torn before now (group_record g s y i)
          from-saved j i y was filled same =
              let final = layout y.shape (group_of y.count i (all_out g s y.node)) in
              stands-in torn before now (group_record g s y i) (standing-by y.late final (name_of y i) before now told-now (λ told.
              standing-then y.late final (file_at before (name_of y i)) (file_at t (name_of y i)) (file_at now (name_of y i)) (same told)
              (saved-group g s prefix sound kept before ps xs t h j i y was filled)))

          -- at this node
          in-node : (i : ℕ) → IsFilledGroup g s x i → StandsIn torn before now (group_record g s x i)
          in-node i filled =
              elim (cases_eq i G) [
                | inl e ↦ subst (λ (w : ℕ). StandsIn torn before now (group_record g s x w)) (sym e) at_group
                | inr ne ↦ from-saved at i x is filled (λ told. off-group i ne (low x i here filled) told)
              ]

          -- at each node
          groups : (j i : ℕ) (y : NodeFile) → slice_get xs j ≡ Some y → IsFilledGroup g s y i → StandsIn torn before now (group_record g s y i)
          groups j i y was filled =
              elim (cases_eq j at) [
                | inr ne ↦ from-saved j i y was filled (λ told. off-node j i y was ne (low y i (file j y was) filled) told)
                | inl e ↦
                    let same : y ≡ x = same_Some y x (sym was ∙ ap (slice_get xs) e ∙ is) in
                    subst (λ (w : NodeFile). StandsIn torn before now (group_record g s w i)) (sym same)
                    (in-node i (subst (λ (w : NodeFile). IsFilledGroup g s w i) same filled))
              ]

      -- each other group has what was written of it
      has-but : (j i : ℕ) (y : NodeFile) → slice_get xs j ≡ Some y → (y.node ≢ x.node) ⊎ (i ≢ G) → HasBytes now (name_of y i) (group_file y (W y.node) i)
      has-but j i y was off =
          elim (cases_eq j at) [
            | inr ne ↦ but.each j y i (get-set_other xs at j z ne ∙ was) (inl (apart g s prefix sound xs h.nodes j at y x was is ne).0)
            | inl e ↦
                let same : y ≡ x = same_Some y x (sym was ∙ ap (slice_get xs) e ∙ is) in
                let ne : i ≢ G = elim off [ inl other ↦ absurd (other (ap (λ (w : NodeFile). w.node) same)) | inr far ↦ far ] in
                subst (λ (w : NodeFile). HasBytes now (name_of w i) (group_file w (W w.node) i)) (sym same)
                (subst (HasBytes now (name_of x i)) (same-group i ne) (but.each at z i (get-set_same xs at x z is) (inr ne)))
          ]

      still-but : (j i : ℕ) (y : NodeFile) → slice_get xs j ≡ Some y → (y.node ≢ x.node) ⊎ (i ≢ G) → IsFilledGroup g s y i
          → group_file y (W y.node) i ≡ None → file_at now (name_of y i) ≡ file_at before (name_of y i)
      still-but j i y was off filled none =
          let smaller = low y i (file j y was) filled in
          let kept_ : file_at now (name_of y i) ≡ file_at t (name_of y i) = elim (cases_eq j at) [
            | inr ne ↦
                let r = apart g s prefix sound xs h.nodes j at y x was is ne in
                let there : slice_get ys j ≡ Some y = get-set_other xs at j z ne ∙ was in
                but.others (name_of y i) (r.1 i G smaller small)
                (none-elsewhere g s prefix sound ys nodes W (λ l w listed_w. few w) j y there i smaller none)
            | inl e ↦
                let same : y ≡ x = same_Some y x (sym was ∙ ap (slice_get xs) e ∙ is) in
                let ne : i ≢ G = elim off [ inl other ↦ absurd (other (ap (λ (w : NodeFile). w.node) same)) | inr far ↦ far ] in
                let none_ : group_file z (W x.node) i ≡ None =
                same-group i ne ∙ subst (λ (w : NodeFile). group_file w (W w.node) i ≡ None) same none in
                subst (λ (w : NodeFile). file_at now (name_of w i) ≡ file_at t (name_of w i)) (sym same)
                (but.others (name_of x i) (λ eq. ne (groups-differ x i G smaller small eq))
                (none-elsewhere g s prefix sound ys nodes W (λ l w listed_w. few w) at z (get-set_same xs at x z is) i smaller none_))
          ] in
          kept_ ∙ saved-fresh g s prefix sound kept before ps xs t h j i y was filled none

      -- the files of this node
      node-here : (j : ℕ) (y : NodeFile) → slice_get xs j ≡ Some y → y.node ≡ x.node → y ≡ x
      node-here j y was node = same_Some y x (sym was ∙ ap (slice_get xs) (one-index g s prefix sound xs h.nodes j at y x was is node) ∙ is)

      -- all groups by what the torn name has
      groups-but : (zs : List Array)
          → (is_some now ≡ true → IsTornName x.late x.shape (group_of x.count G (all_out g s x.node)) (group_of x.count G (W x.node)) zs
          (file_at before (name_of x G)) (file_at now (name_of x G)))
          → AreTornGroups g s prefix (λ v. all_out g s v) W before now
      groups-but zs named =
          groups-have g s prefix sound kept before ps xs t h now x.node G zs has-but still-but
          (λ j y was node. sym group-here ∙ ap (λ (w : NodeFile). length (W w.node) / w.count) (sym (node-here j y was node)))
          (λ j y was node.
          subst (λ (w : NodeFile). IsTornAt w.late w.shape (group_of w.count G (all_out g s w.node)) (group_of w.count G (W w.node)) zs before now (name_of w G))
          (sym (node-here j y was node))
          (torn-at x.late x.shape (group_of x.count G (all_out g s x.node)) (group_of x.count G (W x.node)) zs before now (name_of x G) named))

    -- what the group's name had
    file-here : (o : Option Stream) → x.current ≡ o → group_file x (W x.node) G ≡ file_of o x.shape (group_of x.count G (W x.node))
    file-here o open_ =
        ap (λ (w : Option Stream). file_of w x.shape (group_of x.count G (W x.node))) (open-here x (length (W x.node)) G (sym group-here) ∙ open_)

    stood-by : is_some t ≡ true → (o : Option Stream) → x.current ≡ o
        → HasStood (is_some o) x.shape (first_count x.late (Some (size x))) (group_of x.count G (W x.node)) (file_at before (name_of x G))
        (file_at t (name_of x G))
    stood-by told None open_ =
        let long = length-group x.count (W x.node) G (gone x.node % x.count) place in
        let first = none-is x (W x.node) G (gone x.node % x.count) t place (h.groups at x is).written open_ in
        let empty_ : group_of x.count G (W x.node) ≡ [] = empty (group_of x.count G (W x.node)) (long ∙ first) in
        (empty_, saved-fresh g s prefix sound kept before ps xs t h at G x is filled-here (file-here None open_ ∙ ap (whole_file x.shape) empty_))
    stood-by told (Some f) open_ =
        let zs = group_of x.count G (W x.node) in
        let has = subst (HasBytes t (name_of x G)) (file-here (Some f) open_) ((h.groups at x is).written.each G) in
        let same : f.numrecs ≡ first_count x.late (Some (size x)) = has-numrecs _ x.current f (h.groups at x is).numrecs open_ in
        told-file t (name_of x G) (begun_file x.shape f.numrecs zs) told has ∙ ap (λ (m : Option ℕ). Some (begun_file x.shape m zs)) same

    -- a fault of the shelf on the group's name, while the rows of these were written
    interrupted-rows : (zs rest : List Array) → group_of x.count G (all_out g s x.node) ≡ (group_of x.count G (W x.node) ++ zs) ++ rest
        → (now : Option Files)
        → AllWrittenBut t (set xs at (record x { current = None })) W x G now
        → IsTorn (is_some x.current) x.count (file_at t (name_of x G)) x.shape (first_count x.late (Some (size x))) (group_of x.count G (W x.node)) zs
        (file_at now (name_of x G))
        → AreInterrupted before (plain_files g s prefix) now
    interrupted-rows zs rest parts now but torn =
        let full = group_of x.count G (all_out g s x.node) in
        let count = count-here g s prefix sound kept before ps xs t h at x is G (first_count x.late (Some (size x))) (sym group-here) refl in
        let was : IsBegunAs x.late (layout x.shape full) (file_at before (name_of x G)) (file_at t (name_of x G)) =
        begun-of x.late (layout x.shape full) (file_at before (name_of x G)) (file_at t (name_of x G))
        (saved-group g s prefix sound kept before ps xs t h at G x is filled-here) in
        interrupted-but None now but (name_of x G) (
          (λ away. absurd (away refl)),
          begun-torn x.shape (group_of x.count G (W x.node)) zs rest full parts (file_at before (name_of x G)) (is_some x.current) x.count x.late
              (first_count x.late (Some (size x))) (file_at t (name_of x G)) (file_at now (name_of x G))
              (none-behind x.count G (all_out g s x.node) (group_of x.count G (W x.node) ++ zs) rest parts) count
              (λ same. subst (IsBegunAs x.late (layout x.shape full) (file_at before (name_of x G))) (sym same) was) torn,
        )

    -- a write of the rows of the next arrays that stopped
    pub torn-turns : (fault : SaveFault) (zs rest : List Array) → group_of x.count G (all_out g s x.node) ≡ (group_of x.count G (W x.node) ++ zs) ++ rest
        → (o : Option Stream) (now : Option Files) → TurnStops fault x (Some (size x)) G (gone x.node % x.count) zs o t now
        → IsTornRun g s prefix before now
    torn-turns OutOfMemory zs rest parts o now stops =
        subst (IsTornRun g s prefix before) (sym stops.1) (torn-saved g s prefix sound kept before ps xs t h)
    torn-turns Failed zs rest parts o now stops =
        let full = group_of x.count G (all_out g s x.node) in
        let numrecs = first_count x.late (Some (size x)) in
        let written_ = (h.groups at x is).written in
        let torn = stops.2 (W x.node) place written_ in
        let but =
        all-but xs at x None is (apart g s prefix sound xs h.nodes) G small t t now W (saved-written g s prefix sound kept before ps xs t h) stops.1
        (written-but x (W x.node) G (gone x.node % x.count) t now place small written_ stops.1)
        (λ i ne named. subst (λ (w : Option (List ℕ)). IsSome w) (sym (same-but None i ne)) named) in
        record {
          files = interrupted-rows zs rest parts now but torn;
          groups = (
            W,
            groups-but None now but zs (λ told. record {
              rest = rest;
              next = parts;
              numrecs = numrecs;
              count = count-here g s prefix sound kept before ps xs t h at x is G numrecs (sym group-here) refl;
              begun = is_some x.current;
              was = file_at t (name_of x G);
              stood = stood-by (sym but.told ∙ told) x.current refl;
              torn =
                  torn-sized (is_some x.current) x.count (length full) (file_at t (name_of x G)) (file_at now (name_of x G)) x.shape numrecs
                  (group_of x.count G (W x.node)) zs (omega (arith, length-take x.count (drop (G * x.count) (all_out g s x.node)))) torn;
            }),
          );
        }
