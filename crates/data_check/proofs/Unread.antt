-- Faults of the library after calls that didn't fail.
use Rattle.std.proofs.Common.{◌≤◌, ℕ, List, Option, Ok, Err, subst, ◌∙◌, inl, inr}
use Rattle.std.specs.Prelude.{Result}
use Rattle.edge_traits.specs.Faults.{LibraryCall, SizeCall, ReadCall, Rose, CountsAt}
use Rattle.edge_traits.specs.Files.{Files}
use Rattle.data_check.specs.ComparedFiles.{ComparedFile, NoneFailed, HasFailed, IsFirstUnread, TellsFault}
use Rattle.data_check.specs.declared.fault.CompareFault.{CompareFault}
use Rattle.data_check.specs.declared.fault.CompareFault.TheVariants.{Failed, OutOfMemory}

module _ (before middle now : LibraryCall → List ℕ → ℕ) (none : NoneFailed before middle) where
  pub none-then : NoneFailed middle now → NoneFailed before now
  none-then more call name = more call name ∙ none call name

  rose-then : (call : LibraryCall) (name : List ℕ) → Rose (middle call name) (now call name) → Rose (before call name) (now call name)
  rose-then call name rose = subst (λ n. Rose n (now call name)) (none call name) rose

  pub failed-then : (name : List ℕ) → HasFailed middle now name → HasFailed before now name
  failed-then name (inl size) = inl (rose-then SizeCall name size)
  failed-then name (inr bytes) = inr (rose-then ReadCall name bytes)

  pub counts-then : {T E : Type 0} (call : LibraryCall) (name : List ℕ) (r : Result T E) → CountsAt call name middle now r → CountsAt call name before now r
  counts-then call name (Ok x) same = none-then same
  counts-then call name (Err e) rose = (λ each other. subst (λ n. n ≤ now each other) (none each other) (rose.0 each other), rose-then call name rose.1)

  pub fault-then : (T U P Q : Type 0) (e : CompareFault) → (P → Q) → TellsFault {T = T} (Err e) P middle now → TellsFault {T = U} (Err e) Q before now
  fault-then T U P Q Failed to h = to h
  fault-then T U P Q OutOfMemory to h = none-then h

  pub unread-then : (told : Option Files) (files : List ComparedFile) → IsFirstUnread told middle now files → IsFirstUnread told before now files
  unread-then told files h =
      record { before = h.before; file = h.file; after = h.after; listed = h.listed; same = h.same; ends = failed-then h.file.name h.ends }
