-- One save, from what its calls say.
use Rattle.std.proofs.Common.{◌≡◌, ℕ, zero, suc, ◌+◌, ◌^◌, ◌<◌, ◌≤◌, Bool, true, false, List, [], ◌∷◌, ◌++◌, length, set, refl, sym, ap, subst, ◌∙◌, arith}
use Rattle.std.proofs.Common.{Option, Some, None}
use Rattle.std.specs.Prelude.{slice_get, IsSomeAnd, is_none, IsTrue}
use Rattle.std.proofs.lemmas.Bool.{false≢true}
use Rattle.std.proofs.lemmas.Option.{same_Some, slice_get_within}
use Rattle.nd_base.specs.Array.{Array, StackValue}
use Rattle.nd_base.specs.GraphRules.{IsGraph}
use Rattle.nd_base.specs.declared.frame.FrameName.{FrameName}
use Rattle.nd_base.specs.declared.graph.Graph.{Graph}
use Rattle.edge_traits.specs.Files.{Files}
use Rattle.chain_plain.specs.Content.{AreSamples, IsContent}
use Rattle.frame_store.specs.Sealed.{Sealed}
use Rattle.file_out.specs.declared.fault.SaveFault.{SaveFault}
use Rattle.file_out.specs.declared.fault.SaveFault.TheVariants.{Failed, OutOfMemory}
use Rattle.flow_journal.specs.Setting.{Setting, last_role, is_node}
use Rattle.flow_journal.specs.Hands.{is_free}
use Rattle.board_rules.specs.declared.answers.Save.TheVariants.{Busy, NotYet, Piece}
use Rattle.board_rules.specs.States.{BoardState, past}
use Rattle.board_rules.specs.RunMeasures.{run_setting}
use Rattle.board_rules.specs.Saving.{SaveGives}
use Rattle.flow_roles.specs.declared.last.Said.{Said}
use Rattle.flow_roles.specs.Passes.{Pass, Called}
use Rattle.flow_roles.specs.Feeder.{name_of, parts_of}
use Rattle.flow_roles.proofs.Calls.{hand-before}
use Rattle.graph_files.specs.NodeFiles.{NodeFile, IsPlaceAfter, first_count}
use Rattle.graph_files.specs.OpenFiles.{AllWritten, AllStops, IsReopened, with_array}
use Rattle.flow_saver.specs.GivenBack.{written_by}
use Rattle.flow_saver.specs.Pieces.{content_of, IsDuePiece}
use Rattle.flow_saver.specs.Saver.{Start, IsSaving, IsToGiveBack, HasUnsaved, AreSaved}
use Rattle.flow_saver.proofs.Answers.{busy-held, not_yet-still}
use Rattle.flow_saver.proofs.Due.{of_file}
use Rattle.flow_saver.specs.declared.piece.DuePiece.{DuePiece}
use Rattle.flow_saver.proofs.Steps.{saving-still, in-hand}
use Rattle.flow_saver.proofs.Writing.{due-piece, wrote, tore, wanted, skipped}

pub item : {X : Type 0} (xs : List X) (k : ℕ) → k < length xs → (x : X) × (slice_get xs k ≡ Some x)
item [] k h = absurd (omega (arith, h))
item (x ∷ xs) zero h = (x, refl)
item (x ∷ xs) (suc k) h = item xs k (omega (arith, h))

some-and : (P : Array → Type 0) (o : Option Array) → IsSomeAnd o P → (a : Array) × (o ≡ Some a)
some-and P None h = absurd h
some-and P (Some a) h = (a, refl)

pub content-some : (g : Graph) (stack : StackValue) (name : FrameName) (bytes : List ℕ) → IsContent g stack name bytes
    → (a : Array) × (content_of g stack name ≡ Some a)
content-some g stack name bytes h = some-and (λ a. AreSamples a bytes) (content_of g stack name) h

pub length-put : {X : Type 0} (xs : List X) (k : ℕ) (y : X) → length (set xs k y) ≡ length xs
length-put [] k y = refl
length-put (x ∷ xs) zero y = refl
length-put (x ∷ xs) (suc k) y = ap suc (length-put xs k y)

module _ (g : Graph) (stack : StackValue) (sound : IsGraph g) (start : Start) (r : ℕ) (drain : r ≡ last_role (run_setting g stack))
    (p q : Pass) (xs : List NodeFile) (fault : Bool) (held : Option Files) (answers : Said → Said)
    (st : IsSaving g stack start r p xs fault held)
    (k : ℕ) (v : ℕ) (node : (x : NodeFile) → slice_get xs k ≡ Some x → v ≡ x.node) (within : k < length xs) where
  abbrev s : Setting
  s = run_setting g stack

  pub one-node : IsTrue (is_node s v)
  one-node =
      let i = item xs k within in
      subst (λ (w : ℕ). is_node s w ≡ true) (sym (node i.0 i.1)) (of_file g stack start.prefix xs k i.0 sound st.nodes i.1).number

  pub one-busy : Called s (λ old new. SaveGives name_of parts_of s old r v Busy new) answers p q → ⊥
  one-busy c =
      let gives : BoardState → BoardState → Type 0 = λ old new. SaveGives name_of parts_of s old r v Busy new in
      let free : is_free r (past (c.between ++ p.seen)) ≡ true = ap is_none (hand-before s gives answers p q r st.role c ∙ st.free) in
      false≢true (sym (busy-held s (c.between ++ p.seen) q.seen r v c.answer) ∙ free)

  pub one-nothing : Called s (λ old new. SaveGives name_of parts_of s old r v NotYet new) answers p q → IsSaving g stack start r q xs fault held
  one-nothing c =
      let gives : BoardState → BoardState → Type 0 = λ old new. SaveGives name_of parts_of s old r v NotYet new in
      saving-still g stack start r gives answers p q xs fault held st c (not_yet-still s (c.between ++ p.seen) q.seen r v c.answer)

  -- a piece that was handed out is in hand
  pub one-taken : length stack.arrays ≤ 65536 → (input : Sealed) (group place : ℕ) (of : Option ℕ)
      → Called s (λ old new. SaveGives name_of parts_of s old r v (Piece input group place of) new) answers p q
      → HasUnsaved g stack start r q xs fault held (record { piece = input; at = k; group = group; place = place; of = of })
  one-taken small input group place of call =
      let i = item xs k within in
      let c = subst (λ (w : ℕ). Called s (λ old new. SaveGives name_of parts_of s old r w (Piece input group place of) new) answers p q) (node i.0 i.1) call in
      in-hand g stack sound start r drain p q xs fault held answers st k i.0 i.1 input group place of c small

-- A PIECE'S WRITE

module _ (g : Graph) (stack : StackValue) (sound : IsGraph g) (start : Start) (r : ℕ) (p : Pass) (xs : List NodeFile)
    (fault : Bool) (held : Option Files) (due : DuePiece Sealed)
    (st : HasUnsaved g stack start r p xs fault held due) where
  same-node : (x : NodeFile) → slice_get xs due.at ≡ Some x → st.node ≡ x
  same-node x at = same_Some st.node x (sym st.listed ∙ at)

  pub within-files : due.at < length xs
  within-files = slice_get_within xs due.at st.node st.listed

  module _ (bytes : List ℕ) (content_ : IsContent g stack due.piece.name bytes) where
    pub one-due : fault ≡ false → (x : NodeFile) → slice_get xs due.at ≡ Some x → IsDuePiece g stack x due.piece.name due.group due.place due.of held
    one-due fine x at =
        let a = content-some g stack due.piece.name bytes content_ in
        subst (λ (z : NodeFile). IsDuePiece g stack z due.piece.name due.group due.place due.of held) (same-node x at)
        (due-piece g stack sound start r p xs fault held due st a.0 a.1 fine)

    pub one-skipped : fault ≡ true → IsToGiveBack g stack start r p xs true held due.piece
    one-skipped torn = let a = content-some g stack due.piece.name bytes content_ in skipped g stack sound start r p xs fault held due st a.0 a.1 torn

    module _ (fine : fault ≡ false) (ys : List NodeFile) (nodes : IsReopened xs due.at due.of ys) (stands : Option Files) where
      saved : AreSaved g stack start.held (past p.made) (past p.seen) xs false held
      saved = subst (λ (b : Bool). AreSaved g stack start.held (past p.made) (past p.seen) xs b held) fine st.saved

      pub one-wrote : ((before : Option Files) (written : ℕ → List Array) (x : NodeFile) (a : Array) → slice_get xs due.at ≡ Some x
          → content_of g stack due.piece.name ≡ Some a → length (written x.node) + 1 < 2 ^ 64
          → IsPlaceAfter x.count (written x.node) due.group due.place → AllWritten before xs written held
          → AllWritten before ys (with_array written x.node a) stands)
          → ((x : NodeFile) → slice_get xs due.at ≡ Some x → due.place + 1 ≡ x.count → (y : NodeFile) → slice_get ys due.at ≡ Some y → y.current ≡ None)
          → IsToGiveBack g stack start r p ys false stands due.piece
      one-wrote ok ended =
          let x = st.node in
          let a = content-some g stack due.piece.name bytes content_ in
          let n = nodes x st.listed in
          wrote g stack sound start r p xs fault held due st a.0 a.1 ys n.0 n.1 n.2 fine stands
          (ok start.held (written_by g stack (past p.made)) x a.0 st.listed a.1 st.few st.place saved.0) (ended x st.listed)

      module _ (fault_ : SaveFault) (stops : (before : Option Files) (written : ℕ → List Array) (x : NodeFile) (a : Array) → slice_get xs due.at ≡ Some x
          → content_of g stack due.piece.name ≡ Some a
          → IsPlaceAfter x.count (written x.node) due.group due.place → AllWritten before xs written held
          → AllStops fault_ before x ys written due.group (first_count x.late due.of) a held stands) where
        stopped : (a : Array) → content_of g stack due.piece.name ≡ Some a
            → AllStops fault_ start.held st.node ys (written_by g stack (past p.made)) due.group (first_count st.node.late due.of) a held stands
        stopped a holds = stops start.held (written_by g stack (past p.made)) st.node a st.listed holds st.place saved.0

        pub one-tore : fault_ ≡ Failed → IsToGiveBack g stack start r p ys true stands due.piece
        one-tore is =
            let x = st.node in
            let a = content-some g stack due.piece.name bytes content_ in
            let n = nodes x st.listed in
            tore g stack sound start r p xs fault held due st a.0 a.1 ys n.0 n.1 n.2 fine stands
            (subst (λ (f : SaveFault). AllStops f start.held x ys (written_by g stack (past p.made)) due.group (first_count x.late due.of) a.0 held stands) is
            (stopped a.0 a.1))

        pub one-wanted : fault_ ≡ OutOfMemory → HasUnsaved g stack start r p ys false stands due
        one-wanted is =
            let x = st.node in
            let a = content-some g stack due.piece.name bytes content_ in
            let n = nodes x st.listed in
            wanted g stack sound start r p xs fault held due st a.0 a.1 ys n.0 n.1 n.2 fine stands
            (subst (λ (f : SaveFault). AllStops f start.held x ys (written_by g stack (past p.made)) due.group (first_count x.late due.of) a.0 held stands) is
            (stopped a.0 a.1))

-- the files are as many as before
pub count-kept : (xs ys : List NodeFile) (k : ℕ) (of : Option ℕ) → k < length xs → IsReopened xs k of ys → length ys ≡ length xs
count-kept xs ys k of within nodes = let i = item xs k within in let n = nodes i.0 i.1 in ap length n.1 ∙ length-put xs k (record i.0 { current = n.0 })
