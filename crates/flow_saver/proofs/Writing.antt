-- What a piece's write leaves, before it is given back.
use Rattle.std.proofs.Common.{◌≡◌, ◌≢◌, ℕ, ◌+◌, ◌*◌, ◌/◌, ◌%◌, ◌^◌, ◌<◌, ◌≤◌, Bool, true, false, eqb, List, [], ◌∷◌, ◌++◌, length, map, set, refl, sym, ap}
use Rattle.std.proofs.Common.{subst, ◌∙◌, arith, inl, inr, Option, Some, None}
use Rattle.std.specs.Prelude.{slice_get, if◌then◌else◌, IsSome}
use Rattle.std.proofs.Math.Seq.{map-set_same}
use Rattle.std.proofs.lemmas.Nat.{div-mul-add, mod-mul-add}
use Rattle.std.proofs.lemmas.Bool.{cases_Bool, true≢false, eq-eqb, ne_eqb, eqb-true, eqb-false}
use Rattle.std.proofs.lemmas.Option.{slice_get-map, get_or_from_slice_get, same_Some}
use Rattle.std.proofs.lemmas.List.{length-append}
use Rattle.std.proofs.lemmas.List.Concat.{flat_map-append}
use Rattle.nd_base.specs.Array.{Array, StackValue}
use Rattle.nd_base.specs.GraphRules.{IsGraph}
use Rattle.nd_base.specs.declared.frame.FrameName.{FrameName}
use Rattle.nd_base.specs.declared.graph.Graph.{Graph}
use Rattle.edge_traits.specs.Files.{Files}
use Rattle.frame_store.specs.Sealed.{Sealed}
use Rattle.chain_plain.specs.Content.{content}
use Rattle.chain_plain.specs.OneThread.{listed}
use Rattle.file_out.specs.declared.fault.SaveFault.TheVariants.{Failed, OutOfMemory}
use Rattle.file_out.specs.Streams.{Stream}
use Rattle.flow_journal.specs.declared.entry.Entry.{Entry}
use Rattle.flow_journal.specs.declared.entry.Entry.TheVariants as entry
use Rattle.run_laws.specs.Results.{contents}
use Rattle.board_rules.specs.States.{past}
use Rattle.flow_roles.specs.Passes.{Pass}
use Rattle.graph_files.specs.NodeFiles.{NodeFile, AreWritten, HasNumrecs, IsOpenAfter, first_count, group_file}
use Rattle.graph_files.specs.OpenFiles.{AllWritten, AllStops, closed, file_nodes, with_array}
use Rattle.graph_files.specs.OpenFileLaws.{file_nodes-apart, get-set_same, get-set_other}
use Rattle.graph_files.specs.NodeFileLaws.{cases_eq}
use Rattle.flow_saver.specs.GivenBack.{given_back, written_by}
use Rattle.flow_saver.specs.Pieces.{content_of, IsDuePiece}
use Rattle.flow_saver.specs.declared.piece.DuePiece.{DuePiece}
use Rattle.flow_saver.specs.Saver.{Start, IsToGiveBack, HasUnsaved, AreSaved, AreBegunSo, IsFirstCount, HaveRowsBut}
use Rattle.flow_saver.proofs.Due.{of_file}

-- LISTS OF ARRAYS

pub contents-more : (g : Graph) (stack : StackValue) (xs : List FrameName) (a : FrameName) (b : Array) → content_of g stack a ≡ Some b
    → contents g.nodes stack.arrays (xs ++ a ∷ []) ≡ contents g.nodes stack.arrays xs ++ b ∷ []
contents-more g stack xs a b is =
    flat_map-append (λ (n : FrameName). listed (content g.nodes stack.arrays n)) xs (a ∷ [])
    ∙ ap (λ (o : Option Array). contents g.nodes stack.arrays xs ++ (listed o ++ [])) is

-- the same arrays, said otherwise
pub all-same : (before : Option Files) (xs : List NodeFile) (f h : ℕ → List Array) (held : Option Files) → ((v : ℕ) → f v ≡ h v)
    → AllWritten before xs f held → AllWritten before xs h held
all-same before xs f h held same all = record {
  told = all.told;
  each = λ k x at. subst (λ (zs : List Array). AreWritten x zs held) (same x.node) (all.each k x at);
  few = λ k x at. subst (λ (zs : List Array). length zs < 2 ^ 64) (same x.node) (all.few k x at);
  others = λ q away. all.others q (λ k x i at named. away k x i at (subst (λ (zs : List Array). IsSome (group_file x zs i)) (same x.node) named));
}

numrecs-is : (numrecs : Option ℕ) (o : Option Stream) (f : Stream) → o ≡ Some f → HasNumrecs numrecs o → f.numrecs ≡ numrecs
numrecs-is numrecs None f is h = let none_ : None ≡ Some f = is in absurd (cc)
numrecs-is numrecs (Some e) f is h = ap (λ (k : Stream). k.numrecs) (same_Some f e (sym is)) ∙ h

-- a file that is open after so many arrays has that many rows of its group
open-row : (y : NodeFile) (n : ℕ) (o : Option Stream) (f : Stream) → o ≡ Some f → IsOpenAfter y n o → 1 ≤ n % y.count → 1 ≤ f.count
open-row y n None f is begun some = let none_ : None ≡ Some f = is in absurd (cc)
open-row y n (Some e) f is begun some =
    let rows : e.count ≡ n % y.count = ap (λ (d : Stream). d.count) begun in
    let same : e.count ≡ f.count = ap (λ (d : Stream). d.count) (same_Some e f is) in omega (arith, rows, same, some)

module _ (g : Graph) (stack : StackValue) (sound : IsGraph g) (start : Start) (r : ℕ) (p : Pass) (xs : List NodeFile)
    (fault : Bool) (held : Option Files) (due : DuePiece Sealed)
    (st : HasUnsaved g stack start r p xs fault held due) (a : Array) (holds : content_of g stack due.piece.name ≡ Some a) where
  abbrev x : NodeFile
  x = st.node

  abbrev name : FrameName
  name = due.piece.name

  abbrev back : Entry
  back = entry.Saved r x.node name.maker name.index

  abbrev were : ℕ → List Array
  were = written_by g stack (past p.made)

  abbrev now : ℕ → List Array
  now = written_by g stack (back ∷ past p.made)

  -- the node has one array more, and no other
  now-is : (v : ℕ) → now v ≡ with_array were x.node a v
  now-is v =
      elim (cases_Bool (eqb x.node v)) [
        | inl here_ ↦
            let same : x.node ≡ v = eqb-true x.node v here_ in
            ap (λ (b : Bool). contents g.nodes stack.arrays (if b then given_back v (past p.made) ++ name ∷ [] else given_back v (past p.made))) here_
            ∙ contents-more g stack (given_back v (past p.made)) name a holds
            ∙ sym (ap (λ (b : Bool). if b then were v ++ a ∷ [] else were v) (eq-eqb v x.node (sym same)))
        | inr away ↦
            let apart : v ≢ x.node = λ e. eqb-false x.node v away (sym e) in
            ap (λ (b : Bool). contents g.nodes stack.arrays (if b then given_back v (past p.made) ++ name ∷ [] else given_back v (past p.made))) away
            ∙ sym (ap (λ (b : Bool). if b then were v ++ a ∷ [] else were v) (ne_eqb v x.node apart))
      ]

  now-whole : (v : ℕ) → length (now v) ≡ length (given_back v (back ∷ past p.made))
  now-whole v =
      elim (cases_Bool (eqb x.node v)) [
        | inl here_ ↦
            ap (λ (b : Bool). length (contents g.nodes stack.arrays (if b then given_back v (past p.made) ++ name ∷ [] else given_back v (past p.made)))) here_
            ∙ ap length (contents-more g stack (given_back v (past p.made)) name a holds)
            ∙ length-append (were v) (a ∷ []) ∙ ap (λ n. n + 1) (st.whole v) ∙ sym (length-append (given_back v (past p.made)) (name ∷ []))
            ∙ sym (ap (λ (b : Bool). length (if b then given_back v (past p.made) ++ name ∷ [] else given_back v (past p.made))) here_)
        | inr away ↦
            ap (λ (b : Bool). length (contents g.nodes stack.arrays (if b then given_back v (past p.made) ++ name ∷ [] else given_back v (past p.made)))) away
            ∙ st.whole v ∙ sym (ap (λ (b : Bool). length (if b then given_back v (past p.made) ++ name ∷ [] else given_back v (past p.made))) away)
      ]

  -- it can be given back once the files are so
  pub to-give-back : (ys : List NodeFile) (torn : Bool) (stands : Option Files) → map closed ys ≡ file_nodes g stack start.prefix
      → (torn ≡ false → HaveRowsBut None ys)
      → AreSaved g stack start.held (back ∷ past p.made) (past p.seen) ys torn stands → IsToGiveBack g stack start r p ys torn stands due.piece
  to-give-back ys torn stands nodes rows saved = record {
    role = st.role;
    moves = st.moves;
    node = x.node;
    group = due.group;
    hand = st.hand;
    lent = st.lent;
    alike = st.alike;
    whole = now-whole;
    nodes = nodes;
    rows = rows;
    saved = saved;
  }

  -- the next array of its node's files
  pub due-piece : fault ≡ false → IsDuePiece g stack x name due.group due.place due.of held
  due-piece fine =
      let saved = subst (λ (b : Bool). AreSaved g stack start.held (past p.made) (past p.seen) xs b held) fine st.saved in
      record {
        written = (were x.node, st.place, saved.0.each due.at x st.listed);
        room = st.room;
        sized = st.sized;
        numrecs = st.numrecs fine;
        shape = (of_file g stack start.prefix xs due.at x sound st.nodes st.listed).shape;
        maker = st.maker;
      }

  -- the same files, one of them open otherwise
  module _ (ys : List NodeFile) (o : Option Stream) (set_ : ys ≡ set xs due.at (record x { current = o }))
      (numrecs : HasNumrecs (first_count x.late due.of) o) where
    pub nodes-kept : map closed ys ≡ file_nodes g stack start.prefix
    nodes-kept =
        ap (map closed) set_
        ∙ map-set_same closed xs due.at (record x { current = o }) x (ap closed (sym (get_or_from_slice_get xs due.at x x st.listed))) ∙ st.nodes

    apart-nodes : (j : ℕ) (y : NodeFile) → slice_get xs j ≡ Some y → j ≢ due.at → y.node ≢ x.node
    apart-nodes j y is ne =
        let one =
        λ (i : ℕ) (z : NodeFile) (h : slice_get xs i ≡ Some z). ap (λ (zs : List NodeFile). slice_get zs i) (sym st.nodes) ∙ slice_get-map closed xs i
        ∙ ap (λ (w : Option NodeFile). some_closed w) h in
        (file_nodes-apart g stack start.prefix sound j due.at (closed y) (closed x) (one j y is) (one due.at x st.listed) ne).0
      where
        some_closed : Option NodeFile → Option NodeFile
        some_closed None = None
        some_closed (Some z) = Some (closed z)

    this : (y : NodeFile) (j : ℕ) → j ≡ due.at → slice_get ys j ≡ Some y → record x { current = o } ≡ y
    this y j here_ is =
        same_Some (record x { current = o }) y (sym (get-set_same xs due.at x (record x { current = o }) st.listed)
        ∙ ap (slice_get (set xs due.at (record x { current = o }))) (sym here_) ∙ ap (λ (zs : List NodeFile). slice_get zs j) (sym set_) ∙ is)

    other : (y : NodeFile) (j : ℕ) → j ≢ due.at → slice_get ys j ≡ Some y → slice_get xs j ≡ Some y
    other y j ne is = sym (get-set_other xs due.at j (record x { current = o }) ne) ∙ ap (λ (zs : List NodeFile). slice_get zs j) (sym set_) ∙ is

    pub begun-then : (saved : AreSaved g stack start.held (past p.made) (past p.seen) xs false held) (then_ : ℕ → List Array)
        → ((v : ℕ) → v ≢ x.node → then_ v ≡ were v)
        → ((f : Stream) → o ≡ Some f → length (then_ x.node) / x.count ≡ due.group) → AreBegunSo (past p.seen) then_ ys
    begun-then saved then_ still mine j y f is current_ =
        elim (cases_eq j due.at) [
          | inl here_ ↦
              let same : record x { current = o } ≡ y = this y j here_ is in
              let open_ : o ≡ Some f = ap (λ (z : NodeFile). z.current) same ∙ current_ in
              let of_file_ : IsFirstCount (past p.seen) x.node x.count (length (then_ x.node) / x.count) x.late f.numrecs =
              subst (λ (n : Option ℕ). IsFirstCount (past p.seen) x.node x.count (length (then_ x.node) / x.count) x.late n)
              (sym (numrecs-is (first_count x.late due.of) o f open_ numrecs))
              (subst (λ (i : ℕ). IsFirstCount (past p.seen) x.node x.count i x.late (first_count x.late due.of)) (sym (mine f open_)) st.first) in
              subst (λ (z : NodeFile). IsFirstCount (past p.seen) z.node z.count (length (then_ z.node) / z.count) z.late f.numrecs) same of_file_
          | inr ne ↦
              let old : slice_get xs j ≡ Some y = other y j ne is in
              subst (λ (zs : List Array). IsFirstCount (past p.seen) y.node y.count (length zs / y.count) y.late f.numrecs)
              (sym (still y.node (apart-nodes j y old ne))) (saved.1 j y f old current_)
        ]

    still-now : (v : ℕ) → v ≢ x.node → now v ≡ were v
    still-now v apart = now-is v ∙ ap (λ (b : Bool). if b then were v ++ a ∷ [] else were v) (ne_eqb v x.node apart)

    long : length (now x.node) ≡ due.group * x.count + (due.place + 1)
    long =
        ap length (now-is x.node ∙ ap (λ (b : Bool). if b then were x.node ++ a ∷ [] else were x.node) (eq-eqb x.node x.node refl))
        ∙ length-append (were x.node) (a ∷ []) ∙ omega (arith, st.place.all)

    -- what is still open got a row
    row-of : (stands : Option Files) → AllWritten start.held ys now stands → (f : Stream) → o ≡ Some f → due.place + 1 < x.count → 1 ≤ f.count
    row-of stands all f open_ more =
        let at_ : slice_get ys due.at ≡ Some (record x { current = o }) =
        ap (λ (zs : List NodeFile). slice_get zs due.at) set_ ∙ get-set_same xs due.at x (record x { current = o }) st.listed in
        let begun = (all.each due.at (record x { current = o }) at_).begun in
        open-row (record x { current = o }) (length (now x.node)) o f open_ begun
        (omega (arith, ap (λ n. n % x.count) long, mod-mul-add due.group x.count (due.place + 1) more))

    -- written
    pub wrote : fault ≡ false → (stands : Option Files) → AllWritten start.held ys (with_array were x.node a) stands
        → (due.place + 1 ≡ x.count → (y : NodeFile) → slice_get ys due.at ≡ Some y → y.current ≡ None)
        → IsToGiveBack g stack start r p ys false stands due.piece
    wrote fine stands all ended =
        let saved = subst (λ (b : Bool). AreSaved g stack start.held (past p.made) (past p.seen) xs b held) fine st.saved in
        let all_ : AllWritten start.held ys now stands = all-same start.held ys (with_array were x.node a) now stands (λ v. sym (now-is v)) all in
        let more = λ (f : Stream) (open_ : o ≡ Some f).
        let within : due.place + 1 < x.count = elim (cases_eq (due.place + 1) x.count) [
          | inl last ↦
              let none_ : o ≡ None =
              ended last (record x { current = o })
              (ap (λ (zs : List NodeFile). slice_get zs due.at) set_ ∙ get-set_same xs due.at x (record x { current = o }) st.listed) in
              let clash : Some f ≡ None = sym open_ ∙ none_ in absurd (cc)
          | inr off ↦ omega (arith, st.place.within, off)
        ] in within in
        let mine = λ (f : Stream) (open_ : o ≡ Some f). ap (λ n. n / x.count) long ∙ div-mul-add due.group x.count (due.place + 1) (more f open_) in
        let rows : HaveRowsBut None ys = λ j y f off is current_. elim (cases_eq j due.at) [
          | inl here_ ↦ let open_ : o ≡ Some f = ap (λ (z : NodeFile). z.current) (this y j here_ is) ∙ current_ in row-of stands all_ f open_ (more f open_)
          | inr ne ↦ st.rows fine j y f (λ e. ne (sym (same_Some due.at j e))) (other y j ne is) current_
        ] in
        to-give-back ys false stands nodes-kept (λ b. rows) (all_, begun-then saved now still-now mine)

    -- the shelf failed
    pub tore : fault ≡ false → (stands : Option Files) → AllStops Failed start.held x ys were due.group (first_count x.late due.of) a held stands
        → IsToGiveBack g stack start r p ys true stands due.piece
    tore fine stands stops =
        let saved = subst (λ (b : Bool). AreSaved g stack start.held (past p.made) (past p.seen) xs b held) fine st.saved in
        to-give-back ys true stands nodes-kept (λ clash. absurd (true≢false clash))
        (record {
          later = [];
          front = past p.made;
          role = r;
          name = name;
          node = x;
          whole = refl;
          files = xs;
          then_held = held;
          written = saved.0;
          begun = saved.1;
          at = due.at;
          listed = st.listed;
          rows = st.rows fine;
          nodes = nodes-kept ∙ sym st.nodes;
          others = λ j ne. ap (λ (zs : List NodeFile). slice_get zs j) set_ ∙ get-set_other xs due.at j (record x { current = o }) ne;
          array = a;
          holds = holds;
          group = due.group;
          place = due.place;
          place_is = st.place;
          numrecs = first_count x.late due.of;
          first = st.first;
          stops = stops;
        })

    -- memory was wanting
    pub wanted : fault ≡ false → (stands : Option Files) → AllStops OutOfMemory start.held x ys were due.group (first_count x.late due.of) a held stands
        → HasUnsaved g stack start r p ys false stands due
    wanted fine stands all =
        let saved = subst (λ (b : Bool). AreSaved g stack start.held (past p.made) (past p.seen) xs b held) fine st.saved in
        let mine = λ (f : Stream) (open_ : o ≡ Some f). ap (λ n. n / x.count) st.place.all ∙ div-mul-add due.group x.count due.place st.place.within in
        let y = record x { current = o } in
        record {
          role = st.role;
          moves = st.moves;
          node = y;
          listed = ap (λ (zs : List NodeFile). slice_get zs due.at) set_ ∙ get-set_same xs due.at x y st.listed;
          hand = st.hand;
          lent = st.lent;
          maker = st.maker;
          place = st.place;
          few = st.few;
          room = st.room;
          sized = st.sized;
          first = st.first;
          numrecs = λ b. numrecs;
          alike = st.alike;
          whole = st.whole;
          nodes = nodes-kept;
          rows = λ b j z f off is current_. elim (cases_eq j due.at) [
            | inl here_ ↦ absurd (off (ap Some (sym here_)))
            | inr ne ↦ st.rows fine j z f off (other z j ne is) current_
          ];
          saved = (all, begun-then saved were (λ v apart. refl) mine);
        }

  -- nothing is written any more
  pub skipped : fault ≡ true → IsToGiveBack g stack start r p xs true held due.piece
  skipped torn =
      let was = subst (λ (b : Bool). AreSaved g stack start.held (past p.made) (past p.seen) xs b held) torn st.saved in
      to-give-back xs true held st.nodes (λ clash. absurd (true≢false clash))
      (record {
        later = back ∷ was.later;
        front = was.front;
        role = was.role;
        name = was.name;
        node = was.node;
        whole = ap (λ P. back ∷ P) was.whole;
        files = was.files;
        then_held = was.then_held;
        written = was.written;
        begun = was.begun;
        at = was.at;
        listed = was.listed;
        rows = was.rows;
        nodes = was.nodes;
        others = was.others;
        array = was.array;
        holds = was.holds;
        group = was.group;
        place = was.place;
        place_is = was.place_is;
        numrecs = was.numrecs;
        first = was.first;
        stops = was.stops;
      })
