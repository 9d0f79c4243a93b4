-- A command that makes, changes or measures one stack writes one file at most.
use Rattle.std.proofs.Common.{◌≡◌, ◌==◌, ◌≤◌, inl, inr, ℕ, true, false, Bool, List, [], ◌∷◌, Option, None, Some, Ok, length, nat_lt, sym, subst, arith}
use Rattle.std.specs.Prelude.{if◌then◌else◌}
use Rattle.nd_base.specs.Array.{Array, StackValue}
use Rattle.nd_base.specs.declared.attribute.FileShape.{FileShape}
use Rattle.nd_stack.specs.declared.generated.GenFault.{GenFault}
use Rattle.nd_stack.specs.declared.generated.GenFault.TheVariants.{GenRange, GenBytes, OutOfMemory}
use Rattle.nd_stack.specs.Generated.{gen_fault, generated_stack}
use Rattle.nd_orient.specs.declared.rule.CorrectRule.{CorrectRule}
use Rattle.nd_orient.specs.Correction.{corrected}
use Rattle.nd_orient.specs.Orientation.{oriented, oriented_dims}
use Rattle.nd_series.specs.declared.region.Box4.{Box4}
use Rattle.stack_file.specs.ChangedStacks.{changed_stack}
use Rattle.graph_conf.specs.declared.load.LimitFault.{LimitFault}
use Rattle.edge_traits.specs.Files.{Files}
use Rattle.cdf_write.specs.Layout.{layout}
use Rattle.graph_files.specs.OutFiles.{OutFile}
use Rattle.nd_series.specs.Stacks.{series_of}
use Rattle.nd_series.specs.Text.{series_text}
use Rattle.tool_commands.specs.Command.{Gen, Orient, Correct, Series}
use Rattle.tool_commands.specs.Inputs.{Meaning}
use Rattle.tool_commands.specs.Outcomes.{Outcome, Reads, Refused, Works, Leads}
use Rattle.tool_commands.specs.StackFiles.{stack_files, stack_limit}
use Rattle.tool_commands.specs.Works.{Work, gen_work, changed_work, unless_passed, gen_outcome, changed_outcome, orient_outcome, correct_outcome, same_sizes}
use Rattle.tool_commands.specs.Works.{outcome_of}
use Rattle.tool_commands.specs.declared.status.Status.TheVariants.{Sizes}
use Rattle.tool_commands.specs.declared.words.GenRule.{GenRule}

-- each work that an outcome can come to
abbrev Few : Outcome Work → Type 0
Few (Reads input name next) = (x : Meaning input) → Few (next x)
Few (Refused status) = Unit {0}
Few (Works work) = length work.files ≤ 1

few_led : (told : Option Files) (outcome : Outcome Work) (work : Work) → Few outcome → Leads told outcome (Ok work) → length work.files ≤ 1
few_led told (Reads input name next) work few (inl stops) = absurd stops
few_led told (Reads input name next) work few (inr p) = few_led told (next p.0) work (few p.0) p.2
few_led told (Refused status) work few is = absurd (cc)
few_led told (Works done) work few is = let same : work ≡ done = cc in subst (λ (w : Work). length w.files ≤ 1) (sym same) few

none_few : length {A = OutFile} [] ≤ 1
none_few = omega arith

one_few : (file : OutFile) → length (file ∷ []) ≤ 1
one_few file = omega arith

none_or_one : (none : Bool) (file : OutFile) → length (if none then [] else file ∷ []) ≤ 1
none_or_one true file = none_few
none_or_one false file = one_few file

stack_few : (name : List ℕ) (shape : FileShape) (arrays : List Array) → length (stack_files name shape arrays) ≤ 1
stack_few name shape arrays = none_or_one (length arrays == 0) (record { name = name; bytes = layout shape arrays; late = false })

changed_few : (name : List ℕ) (s : StackValue) (limit : Option LimitFault) → Few (unless_passed limit (changed_work name s))
changed_few name s None = stack_few name s.shape s.arrays
changed_few name s (Some fault) = tt

made_few : (rule : GenRule) (name : List ℕ) → length (gen_work rule name).files ≤ 1
made_few rule name =
    let s = generated_stack rule.frames rule.width rule.height rule.kind rule.start in
    stack_few name s.shape s.arrays

gen_outcome_few : (rule : GenRule) (name : List ℕ) (fault : Option GenFault) → Few (gen_outcome fault (gen_work rule name))
gen_outcome_few rule name None = made_few rule name
gen_outcome_few rule name (Some (GenBytes bytes)) = tt
gen_outcome_few rule name (Some GenRange) = made_few rule name
gen_outcome_few rule name (Some OutOfMemory) = made_few rule name

orient_outcome_few : (mode : ℕ) (name : List ℕ) (s : StackValue) → Few (orient_outcome mode name s)
orient_outcome_few mode name s = by (nat_lt (length s.shape.dims) 2)
  where
    changed : StackValue
    changed = changed_stack (oriented mode) (oriented_dims mode) s

    by : (small : Bool) → Few (if small then Refused Sizes else changed_outcome name changed)
    by true = tt
    by false = changed_few name changed (stack_limit changed.shape (length changed.arrays))

correct_outcome_few : (rule : CorrectRule) (name : List ℕ) (dark : List Array) (s : StackValue) → Few (correct_outcome rule name dark s)
correct_outcome_few rule name [] s = tt
correct_outcome_few rule name (dark ∷ others) s = by (same_sizes dark.dims s.shape.dims)
  where
    changed : StackValue
    changed = changed_stack (corrected rule dark) (λ dims. dims) s

    by : (same : Bool) → Few (if same then changed_outcome name changed else Refused Sizes)
    by true = changed_few name changed (stack_limit changed.shape (length changed.arrays))
    by false = tt

module _ (told : Option Files) where
  pub gen_few : (rule : GenRule) (name : List ℕ) (work : Work) → Leads told (outcome_of (Some (Gen rule name))) (Ok work) → length work.files ≤ 1
  gen_few rule name work =
      few_led told (outcome_of (Some (Gen rule name))) work (gen_outcome_few rule name (gen_fault rule.frames rule.width rule.height rule.kind))

  pub orient_few : (mode : ℕ) (stack name : List ℕ) (work : Work) → Leads told (outcome_of (Some (Orient mode stack name))) (Ok work)
      → length work.files ≤ 1
  orient_few mode stack name work = few_led told (outcome_of (Some (Orient mode stack name))) work (λ s. orient_outcome_few mode name s)

  pub correct_few : (rule : CorrectRule) (dark stack name : List ℕ) (work : Work) → Leads told (outcome_of (Some (Correct rule dark stack name))) (Ok work)
      → length work.files ≤ 1
  correct_few rule dark stack name work =
      few_led told (outcome_of (Some (Correct rule dark stack name))) work (λ d s. correct_outcome_few rule name d.arrays s)

  pub series_few : (most : ℕ) (regions : List Box4) (stack name : List ℕ) (work : Work)
      → Leads told (outcome_of (Some (Series most regions stack name))) (Ok work) → length work.files ≤ 1
  series_few most regions stack name work = few_led told (outcome_of (Some (Series most regions stack name))) work
      (λ s. one_few (record { name = name; bytes = series_text (series_of most regions s.arrays); late = false }))
