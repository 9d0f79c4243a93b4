-- LAWS of the files that are compared.
use Rattle.std.specs.Prelude.{◌≡◌, ◌≢◌, ℕ, List, Some}
use Rattle.std.specs.List.{Contains}
use Rattle.nd_base.specs.Array.{StackValue}
use Rattle.nd_base.specs.declared.graph.Graph.{Graph}
use Rattle.edge_traits.specs.Files.{Files}
use Rattle.flow_journal.specs.Pasts.{Past}
use Rattle.flow_saver.specs.HistoryFiles.{IsFileOf}
use Rattle.data_check.specs.ComparedFiles.{ComparedFile, compared_files, log_name, AreAllSame, IsFirstDifference}
use Rattle.data_check.specs.declared.difference.Difference.{Difference}

-- each file that is compared is one of the history, and hasn't the log's name
pub record IsOfHistory (g : Graph) (stack : StackValue) (prefix : List ℕ) (P : Past) (f : ComparedFile) : Type 0 where
  pub file : IsFileOf g stack prefix P f.name f.bytes
  pub named : f.name ≢ log_name prefix

abbrev pub ComparedAreOfHistory : Type 0
ComparedAreOfHistory =
    (g : Graph) (stack : StackValue) (prefix : List ℕ) (P : Past) (f : ComparedFile) → Contains (compared_files g stack prefix P) f
    → IsOfHistory g stack prefix P f

-- each file of the history is compared, but one under the log's name
abbrev pub HistoryIsCompared : Type 0
HistoryIsCompared =
    (g : Graph) (stack : StackValue) (prefix : List ℕ) (P : Past) (name bytes : List ℕ) → IsFileOf g stack prefix P name bytes → name ≢ log_name prefix
    → (v : ℕ) × ((i : ℕ) × Contains (compared_files g stack prefix P) (record { node = v; group = i; name = name; bytes = bytes }))

-- over the files of a library there is no first difference where all are the same, and at most one where they aren't
abbrev pub NoneWhereSame : Type 0
NoneWhereSame =
    (files : Files) (g : Graph) (stack : StackValue) (prefix : List ℕ) (P : Past) (d : Difference) → AreAllSame (Some files) g stack prefix P
    → IsFirstDifference (Some files) g stack prefix P d → ⊥

abbrev pub OneFirst : Type 0
OneFirst =
    (files : Files) (g : Graph) (stack : StackValue) (prefix : List ℕ) (P : Past) (d e : Difference) → IsFirstDifference (Some files) g stack prefix P d
    → IsFirstDifference (Some files) g stack prefix P e → d ≡ e
