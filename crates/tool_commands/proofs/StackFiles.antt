-- The file of a stack: what stands on the shelf once it is written, and where it was begun.
use Rattle.std.specs.Prelude.{◌≡◌, ◌≢◌, ℕ, ◌≤◌, ◌==◌, false, Err, All, List, [], ◌∷◌, length, Option, None, Some, is_some, refl}
use Rattle.std.proofs.Common.{ap, ◌∙◌, arith, inl}
use Rattle.std.proofs.lemmas.Bool.Decides.{nat_tests}
use Rattle.std.proofs.lemmas.List.Elements.{All-nil, All-cons, All-head}
use Rattle.nd_base.specs.Array.{Array}
use Rattle.nd_base.specs.declared.attribute.FileShape.{FileShape}
use Rattle.edge_traits.specs.Files.{Files, file_at, with_file}
use Rattle.edge_traits.specs.FileLaws.{file_at-with_file_same}
use Rattle.cdf_write.specs.Layout.{layout}
use Rattle.file_out.specs.declared.fault.SaveFault.{SaveFault}
use Rattle.file_out.specs.declared.fault.SaveFault.TheVariants as saving
use Rattle.file_out.specs.Saving.{IsBegun}
use Rattle.file_out.specs.Saving as begun
use Rattle.file_out.specs.SavingLaws.{file_at-IsBegun}
use Rattle.nd_stack.specs.RoundTrip.{ReadsBack}
use Rattle.graph_files.specs.Interrupted.{IsBegunAs, AsBefore, Unended, IsStanding, Kept, AreInterrupted}
use Rattle.graph_files.specs.Interrupted as interrupted
use Rattle.graph_files.specs.OutFiles.{OutFile, with_files}
use Rattle.stack_file.specs.ChangedStacks.{with_stack_file}
use Rattle.tool_commands.specs.Stages.{SaveStops, save_fault_status}
use Rattle.tool_commands.specs.StackFiles.{stack_files}
use Rattle.tool_commands.specs.Works.{IsBack, stack_groups}

-- ONE FILE

abbrev pub file_of : (name bytes : List ℕ) → OutFile
file_of name bytes = record { name = name; bytes = bytes; late = false }

module _ (t u : Option Files) (name bytes : List ℕ) where
  told : IsBegun t name bytes u → is_some u ≡ is_some t
  told (begun.Untouched same) = ap (λ (o : Option Files). is_some o) same
  told (begun.Front front rest is made) = ap (λ (o : Option Files). is_some o) made ∙ kept t
    where
      kept : (t : Option Files) → is_some (with_file t name front) ≡ is_some t
      kept None = refl
      kept (Some files) = refl

standing : (t u : Option Files) (name bytes : List ℕ) → IsBegun t name bytes u → IsStanding false bytes (file_at t name) (file_at u name)
standing t u name bytes (begun.Untouched same) = Kept (ap (λ w. file_at w name) same)
standing None u name bytes (begun.Front front rest is made) = Kept (ap (λ w. file_at w name) made)
standing (Some files) u name bytes (begun.Front front rest is made) =
    interrupted.Front front rest is (ap (λ w. file_at w name) made ∙ file_at-with_file_same files name front)

begun_as : (bytes : List ℕ) (before now : Option (List ℕ)) → IsStanding false bytes before now → IsBegunAs false bytes before now
begun_as bytes before now (interrupted.Kept same) = AsBefore same
begun_as bytes before now (interrupted.Front front rest is made) = Unended front rest is made
begun_as bytes before now (interrupted.Whole made) = interrupted.Ended made

pub interrupted-one : (t u : Option Files) (name bytes : List ℕ) → IsBegun t name bytes u → AreInterrupted t (file_of name bytes ∷ []) u
interrupted-one t u name bytes h =
    let stands = standing t u name bytes h in
    record {
      told = told t u name bytes h;
      torn = [];
      each =
          All-cons (λ (f : OutFile). f.name ≢ [] → IsStanding f.late f.bytes (file_at t f.name) (file_at u f.name)) (file_of name bytes) []
          (λ ne. stands) (All-nil (λ (f : OutFile). f.name ≢ [] → IsStanding f.late f.bytes (file_at t f.name) (file_at u f.name)));
      one =
          All-cons (λ (f : OutFile). IsBegunAs f.late f.bytes (file_at t f.name) (file_at u f.name)) (file_of name bytes) []
          (begun_as bytes (file_at t name) (file_at u name) stands)
          (All-nil (λ (f : OutFile). IsBegunAs f.late f.bytes (file_at t f.name) (file_at u f.name)));
      others = λ q away. file_at-IsBegun t u name bytes q h (All-head (λ (f : OutFile). q ≢ f.name) (file_of name bytes) [] away);
    }

-- THE FILE OF SOME ARRAYS

pub written : (t : Option Files) (name : List ℕ) (shape : FileShape) (arrays : List Array)
    → with_stack_file t name shape arrays ≡ with_files t (stack_files name shape arrays)
written t name shape [] = refl
written t name shape (a ∷ arrays) =
    let some : (length (a ∷ arrays) == 0) ≡ false = grind (arith, nat_tests) in
    rw some refl

pub stops-one : (fault : SaveFault) (t u : Option Files) (name bytes : List ℕ) (before now : ℕ) → IsBegun t name bytes u
    → begun.IsSaveCause {T = Unit {0}} (Err fault) before now → SaveStops (save_fault_status fault) t (file_of name bytes ∷ []) None u before now
stops-one saving.Failed t u name bytes before now h cause = (inl (interrupted-one t u name bytes h), cause)
stops-one saving.OutOfMemory t u name bytes before now h cause = (interrupted-one t u name bytes h, cause)

pub stops : (fault : SaveFault) (t u : Option Files) (name : List ℕ) (shape : FileShape) (arrays : List Array) (before now : ℕ) → 1 ≤ length arrays
    → IsBegun t name (layout shape arrays) u → begun.IsSaveCause {T = Unit {0}} (Err fault) before now
    → SaveStops (save_fault_status fault) t (stack_files name shape arrays) None u before now
stops fault t u name shape [] before now few h cause = absurd (omega (arith, few))
stops fault t u name shape (a ∷ arrays) before now few h cause =
    let some : (length (a ∷ arrays) == 0) ≡ false = grind (arith, nat_tests) in
    rw some (stops-one fault t u name (layout shape (a ∷ arrays)) before now h cause)

pub groups_back : (shape : FileShape) (arrays : List Array) → (1 ≤ length arrays → ReadsBack shape arrays) → All IsBack (stack_groups shape arrays)
groups_back shape [] back = All-nil IsBack
groups_back shape (a ∷ arrays) back =
    let some : (length (a ∷ arrays) == 0) ≡ false = grind (arith, nat_tests) in
    rw some (All-cons IsBack (record { shape = shape; arrays = a ∷ arrays }) [] (back (omega arith)) (All-nil IsBack))
