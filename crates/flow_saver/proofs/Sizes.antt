-- How many arrays the group of an open file has.
use Rattle.std.proofs.Common.{◌≡◌, ℕ, ◌/◌, Bool, true, false, List, ◌++◌, length, sym, ap, ◌∙◌, arith, inl, inr, Option}
use Rattle.nd_base.specs.Array.{Array}
use Rattle.flow_journal.specs.Setting.{Setting}
use Rattle.flow_journal.specs.Pasts.{Past}
use Rattle.flow_journal.specs.Puts.{puts}
use Rattle.flow_journal.specs.Histories.{is_legal}
use Rattle.board_rules.specs.States.{BoardState, past}
use Rattle.graph_files.specs.NodeFiles.{NodeFile}
use Rattle.flow_saver.specs.Saver.{IsGroupSize, IsFirstCount, AreBegunSo}
use Rattle.flow_saver.proofs.Puts.{puts-more, puts-stay, settled-more}

-- it stays as the log grows
pub size-more : (s : Setting) (more b : BoardState) (v count group size : ℕ) → is_legal s (past (more ++ b)) ≡ true → IsGroupSize (past b) v count group size
    → IsGroupSize (past (more ++ b)) v count group size
size-more s more b v count group size legal h =
    elim h [
      | inl whole ↦ inl (omega (arith, whole.0, puts-more v more b), whole.1)
      | inr short ↦
          let same : length (puts v (past (more ++ b))) ≡ length (puts v (past b)) = ap length (puts-stay s v more b legal short.0) in
          inr (settled-more v more b short.0, omega (arith, same, short.1), omega (arith, same, short.2))
    ]

-- and there is one
pub size-one : (P : Past) (v count group m n : ℕ) → IsGroupSize P v count group m → IsGroupSize P v count group n → m ≡ n
size-one P v count group m n h k =
    elim h [
      | inl a ↦ elim k [ inl b ↦ a.1 ∙ sym b.1 | inr b ↦ absurd (omega (arith, a.0, b.1)) ]
      | inr a ↦ elim k [ inl b ↦ absurd (omega (arith, b.0, a.1)) | inr b ↦ omega (arith, a.2, b.2) ]
    ]

pub first-more : (s : Setting) (more b : BoardState) (v count group : ℕ) (late : Bool) (numrecs : Option ℕ) → is_legal s (past (more ++ b)) ≡ true
    → IsFirstCount (past b) v count group late numrecs
    → IsFirstCount (past (more ++ b)) v count group late numrecs
first-more s more b v count group true numrecs legal h = h
first-more s more b v count group false numrecs legal h = (h.0, h.1, size-more s more b v count group h.0 legal h.2)

pub begun-more : (s : Setting) (more b : BoardState) (written : ℕ → List Array) (xs : List NodeFile) → is_legal s (past (more ++ b)) ≡ true
    → AreBegunSo (past b) written xs → AreBegunSo (past (more ++ b)) written xs
begun-more s more b written xs legal h k x f at is =
    first-more s more b x.node x.count (length (written x.node) / x.count) x.late f.numrecs legal (h k x f at is)
