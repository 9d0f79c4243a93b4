-- A role that saves, before its first call.
use Rattle.std.proofs.Common.{◌≡◌, ℕ, zero, suc, ◌+◌, ◌*◌, ◌%◌, Bool, true, false, List, [], ◌∷◌, ◌++◌, length, take, map, refl, sym, ap, subst, ◌∙◌, arith}
use Rattle.std.proofs.Common.{Option, Some, None}
use Rattle.std.specs.Prelude.{slice_get}
use Rattle.std.specs.List.{list_all}
use Rattle.std.proofs.lemmas.List.{drop_all, append-nil}
use Rattle.nd_base.specs.Array.{Array, StackValue}
use Rattle.nd_base.specs.declared.graph.Graph.{Graph}
use Rattle.nd_base.specs.declared.graph.Kind.{Kind}
use Rattle.nd_base.specs.declared.graph.Kind.TheVariants.{Roi, Stats, Circular, File, Scatter}
use Rattle.nd_base.specs.declared.graph.NodeRule.{NodeRule}
use Rattle.nd_base.specs.Parts.{Parts}
use Rattle.edge_traits.specs.Files.{Files}
use Rattle.frame_store.specs.Sealed.{Sealed}
use Rattle.flow_journal.specs.declared.entry.Entry.{Entry}
use Rattle.flow_journal.specs.declared.entry.Entry.TheVariants as entry
use Rattle.flow_journal.specs.Pasts.{frame}
use Rattle.flow_roles.specs.Feeder.{parts_of}
use Rattle.flow_roles.specs.Feeder as feeder
use Rattle.board_rules.specs.InHand.{IsLent}
use Rattle.flow_journal.specs.Hands.{hand}
use Rattle.flow_journal.specs.Unsaved.{saves}
use Rattle.board_rules.specs.States.{BoardState, past}
use Rattle.flow_roles.specs.declared.last.Said.{Said}
use Rattle.flow_roles.specs.Passes.{Pass}
use Rattle.flow_roles.specs.RoleMoves.{saver_logs, IsFresh}
use Rattle.graph_files.specs.Groups.{group_of, whole_file, file_of, HasBytes}
use Rattle.graph_files.specs.NodeFiles.{NodeFile, AreWritten, IsOpenAfter, group_file, name_of}
use Rattle.graph_files.specs.NodeFileLaws.{none-open}
use Rattle.graph_files.specs.OpenFiles.{kind_node, nodes_from, file_nodes, closed, AllWritten}
use Rattle.graph_files.specs.OpenFileLaws.{of_node}
use Rattle.flow_saver.specs.declared.piece.DuePiece.{DuePiece}
use Rattle.flow_saver.specs.GivenBack.{given_back, written_by}
use Rattle.flow_saver.specs.Saver.{Start, IsSaving, HasUnsaved, HasSavedSince, AreSaved, AreBegunSo, IsPieceOfHand}

module _ (g : Graph) (stack : StackValue) (prefix : List ℕ) where
  closed-kind : (v : ℕ) (n : NodeRule) (c : Kind) (rest : List NodeFile) → map closed rest ≡ rest
      → map closed (kind_node g stack prefix v n.name c ++ rest) ≡ kind_node g stack prefix v n.name c ++ rest
  closed-kind v n (File r) rest same = ap (λ xs. kind_node g stack prefix v n.name (File r) ++ xs) same
  closed-kind v n (Roi r) rest same = same
  closed-kind v n (Stats r) rest same = same
  closed-kind v n (Circular r) rest same = same
  closed-kind v n Scatter rest same = same

  closed-from : (v : ℕ) (ns : List NodeRule) → map closed (nodes_from g stack prefix v ns) ≡ nodes_from g stack prefix v ns
  closed-from v [] = refl
  closed-from v (n ∷ ns) = closed-kind v n n.kind (nodes_from g stack prefix (v + 1) ns) (closed-from (v + 1) ns)

  pub closed-nodes : map closed (file_nodes g stack prefix) ≡ file_nodes g stack prefix
  closed-nodes = closed-from 1 g.nodes

  none-current : (k : ℕ) (x : NodeFile) → slice_get (file_nodes g stack prefix) k ≡ Some x → x.current ≡ None
  none-current k x at = ap (λ (y : NodeFile). y.current) (of_node g stack prefix 1 g.nodes k x at).whole

none_taken : (n : ℕ) → take {A = Array} n [] ≡ []
none_taken zero = refl
none_taken (suc n) = refl

none_grouped : (count i : ℕ) → group_of {X = Array} count i [] ≡ []
none_grouped count i = ap (take {A = Array} count) (drop_all {X = Array} (i * count) [] (omega arith)) ∙ none_taken count

nothing_in : (x : NodeFile) (i : ℕ) → x.current ≡ None → group_file x [] i ≡ None
nothing_in x i none = ap (λ o. file_of o x.shape (group_of x.count i [])) (none-open x 0 i none) ∙ ap (whole_file x.shape) (none_grouped x.count i)

after-none : (x : NodeFile) (o : _) → o ≡ None → IsOpenAfter x 0 o
after-none x None is = zero-mod x.count
  where
    zero-mod : (n : ℕ) → 0 % n ≡ 0
    zero-mod n = omega arith
after-none x (Some f) is = let some_ : Some f ≡ None = is in absurd (cc)

nothing_written : (x : NodeFile) (held : Option Files) → x.current ≡ None → AreWritten x [] held
nothing_written x held none = record {
  begun = after-none x x.current none;
  each = λ i. subst (HasBytes held (name_of x i)) (sym (nothing_in x i none)) tt;
}

pub fresh-saving : (g : Graph) (stack : StackValue) (prefix : List ℕ) (held : Option Files) (r : ℕ) (p : Pass) (xs : List NodeFile)
    → xs ≡ file_nodes g stack prefix → IsFresh r p
    → IsSaving g stack (record { prefix = prefix; made = []; held = held }) r p xs false held
fresh-saving g stack prefix held r p xs files fresh =
    let start : Start = record { prefix = prefix; made = []; held = held } in
    let none_ =
    λ (k : ℕ) (x : NodeFile) (at : slice_get xs k ≡ Some x). none-current g stack prefix k x (ap (λ (ys : List NodeFile). slice_get ys k) (sym files) ∙ at) in
    let all : AllWritten held xs (written_by g stack []) held = record {
      told = refl;
      each = λ k x at. nothing_written x held (none_ k x at);
      few = λ k x at. omega arith;
      others = λ q away. refl;
    } in
    let begun : AreBegunSo (past p.seen) (written_by g stack []) xs = λ k x f at is. let clash : Some f ≡ None = sym is ∙ none_ k x at in absurd (cc) in
    let saved : AreSaved g stack held [] (past p.seen) xs false held = (all, begun) in
    record {
      role = fresh.role;
      moves = ([], fresh.made, refl);
      free = subst (λ (b : BoardState). hand r (past b) ≡ None) (sym fresh.made) refl;
      alike = subst (λ (b : BoardState). (v : ℕ) → saves v (past b) ≡ given_back v (past b)) (sym fresh.made) (λ v. refl);
      whole = subst (λ (b : BoardState). (v : ℕ) → length (written_by g stack (past b) v) ≡ length (given_back v (past b))) (sym fresh.made) (λ v. refl);
      rows = λ fine j x f off at is. let clash : Some f ≡ None = sym is ∙ none_ j x at in absurd (cc);
      nodes = ap (map closed) files ∙ closed-nodes g stack prefix;
      saved = subst (λ (b : BoardState). AreSaved g stack held (past b) (past p.seen) xs false held) (sym fresh.made) saved;
    }

pub fresh-asked : (r : ℕ) (p : Pass) → IsFresh r p → p.said.asked ≡ 0
fresh-asked r p fresh = ap (λ (said : Said). said.asked) fresh.said

-- THE END OF THE ROLE

-- what the role made from the beginning on saves alone
pub all-since : (then_made made : BoardState) → HasSavedSince then_made made → then_made ≡ [] → list_all saver_logs (past made) ≡ true
all-since then_made made h first =
    subst (λ (b : BoardState). list_all saver_logs (past b) ≡ true) (sym (h.1 ∙ ap (λ (b : BoardState). h.0 ++ b) first ∙ append-nil h.0)) h.2

since-none : (then_made made : BoardState) → HasSavedSince then_made made → then_made ≡ [] → HasSavedSince [] made
since-none then_made made h first = (h.0, h.1 ∙ ap (λ (b : BoardState). h.0 ++ b) first, h.2)

module _ (g : Graph) (stack : StackValue) (start : Start) (prefix : List ℕ) (before : Option Files) (r : ℕ) (p : Pass) (xs : List NodeFile)
    (fault : Bool) (held : Option Files) (began : start.held ≡ before) (first : start.made ≡ [])
    (named : file_nodes g stack start.prefix ≡ file_nodes g stack prefix) where
  -- the same files by other names of the beginning
  pub saving-from : IsSaving g stack start r p xs fault held → IsSaving g stack (record { prefix = prefix; made = []; held = before }) r p xs fault held
  saving-from st = record {
    role = st.role;
    moves = since-none start.made p.made st.moves first;
    free = st.free;
    alike = st.alike;
    whole = st.whole;
    nodes = st.nodes ∙ named;
    rows = st.rows;
    saved = subst (λ (h : Option Files). AreSaved g stack h (past p.made) (past p.seen) xs fault held) began st.saved;
  }

  pub unsaved-from : (due : DuePiece Sealed) → HasUnsaved g stack start r p xs fault held due
      → HasUnsaved g stack (record { prefix = prefix; made = []; held = before }) r p xs fault held due
  unsaved-from due st = record {
    role = st.role;
    moves = since-none start.made p.made st.moves first;
    node = st.node;
    listed = st.listed;
    hand = st.hand;
    lent = st.lent;
    maker = st.maker;
    place = st.place;
    few = st.few;
    room = st.room;
    sized = st.sized;
    first = st.first;
    numrecs = st.numrecs;
    alike = st.alike;
    whole = st.whole;
    nodes = st.nodes ∙ named;
    rows = st.rows;
    saved = subst (λ (h : Option Files). AreSaved g stack h (past p.made) (past p.seen) xs fault held) began st.saved;
  }

-- the piece of a hand
pub hand-piece : (r v group : ℕ) (lent : Option Parts) (piece : Sealed) (e : Option Entry) → e ≡ Some (entry.Save r v piece.name.maker piece.name.index group)
    → lent ≡ parts_of piece → IsPieceOfHand lent e (Some piece)
hand-piece r v group lent piece e is same =
    subst (λ (o : Option Entry). IsPieceOfHand lent o (Some piece)) (sym is)
    (let both : IsLent feeder.name_of parts_of (frame piece.name.maker piece.name.index) lent (Some piece) = (refl, sym same) in both)
