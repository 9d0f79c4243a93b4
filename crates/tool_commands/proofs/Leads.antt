-- What the files of a command that were read lead to, and where reading stopped.
use Rattle.std.proofs.Common.{◌≡◌, ℕ, ◌<◌, ◌≤◌, Bool, true, false, List, [], ◌∷◌, length, Option, None, Some, Ok, Err, refl, sym, subst, inl, inr}
use Rattle.std.specs.Prelude.{Result, IfSome, slice_get, nat_lt, if◌then◌else◌}
use Rattle.std.proofs.lemmas.Bool.{le-ltb, lt-ltb}
use Rattle.nd_base.specs.Array.{Array, StackValue}
use Rattle.nd_base.specs.declared.graph.Graph.{Graph}
use Rattle.edge_traits.specs.Files.{Files}
use Rattle.graph_conf.specs.Loads.{limit_fault}
use Rattle.graph_conf.specs.declared.load.LimitFault.{LimitFault}
use Rattle.tool_commands.specs.declared.status.Status.{Status}
use Rattle.tool_commands.specs.declared.status.Status.TheVariants.{Done, Usage, GraphText, GraphRule, StackBytes, Limit, Sizes, ReadFault, ShelfFault, OutFault}
use Rattle.tool_commands.specs.declared.status.Status.TheVariants.{OutOfMemory}
use Rattle.tool_commands.specs.Command.{Copy, Plain, Info, Orient, Correct, Series}
use Rattle.tool_commands.specs.Copy.{copy_graph}
use Rattle.nd_orient.specs.declared.rule.CorrectRule.{CorrectRule}
use Rattle.nd_orient.specs.Correction.{corrected}
use Rattle.nd_orient.specs.Orientation.{oriented, oriented_dims}
use Rattle.nd_series.specs.declared.region.Box4.{Box4}
use Rattle.stack_file.specs.ChangedStacks.{changed_stack}
use Rattle.tool_commands.specs.Inputs.{AsGraph, AsStack, IsReadAs, IsRefusedAs}
use Rattle.tool_commands.specs.Outcomes.{Reads, Refused, Leads}
use Rattle.tool_commands.specs.Stages.{ReadStops, PlanStops}
use Rattle.tool_commands.specs.WorkLaws.{AreSources, SourcesAreRead, PlainIsOfItsSources, CopyIsOfItsStack, InfoIsOfItsStack}
use Rattle.tool_commands.specs.Works.{Source, copy_work, plain_work, info_work, within, sources, outcome_of, Work, changed_outcome, correct_outcome, same_sizes, series_work}
use Rattle.tool_commands.proofs.Outcomes.{passed, unpassed, within-unpassed, map-work, map-refused, of-work}

-- what refuses a part refuses the whole
by : (P Q : Status → Type 0) → ((s : Status) → P s → Q s) → (status : Status) (before now : ℕ) → ReadStops P status before now → ReadStops Q status before now
by P Q to GraphText before now stops = (to GraphText stops.0, stops.1)
by P Q to (GraphRule f) before now stops = (to (GraphRule f) stops.0, stops.1)
by P Q to (StackBytes f) before now stops = (to (StackBytes f) stops.0, stops.1)
by P Q to (Limit f) before now stops = (to (Limit f) stops.0, stops.1)
by P Q to Sizes before now stops = (to Sizes stops.0, stops.1)
by P Q to ReadFault before now stops = stops
by P Q to OutOfMemory before now stops = stops
by P Q to Done before now stops = absurd stops
by P Q to Usage before now stops = absurd stops
by P Q to ShelfFault before now stops = absurd stops
by P Q to OutFault before now stops = absurd stops

-- and so does a limit that is passed
by_limit : (Q : Status → Type 0) (g : Graph) (s : StackValue) → ((fault : LimitFault) → limit_fault g s ≡ Some fault → Q (Limit fault))
    → (status : Status) (before now : ℕ) → PlanStops status g s → now ≡ before → ReadStops Q status before now
by_limit Q g s to (Limit f) before now stops same = (to f stops, same)
by_limit Q g s to Sizes before now stops same = absurd stops
by_limit Q g s to OutOfMemory before now stops same = same
by_limit Q g s to Done before now stops same = absurd stops
by_limit Q g s to Usage before now stops same = absurd stops
by_limit Q g s to GraphText before now stops same = absurd stops
by_limit Q g s to (GraphRule f) before now stops same = absurd stops
by_limit Q g s to (StackBytes f) before now stops same = absurd stops
by_limit Q g s to ReadFault before now stops same = absurd stops
by_limit Q g s to ShelfFault before now stops same = absurd stops
by_limit Q g s to OutFault before now stops same = absurd stops

-- A GRAPH AND A STACK

module _ (told : Option Files) (graph stack : List ℕ) where
  abbrev pub IsUnread : Status → Type 0
  IsUnread status = Leads told (sources graph stack) (Err status)

  pub unread-graph : (status : Status) (before now : ℕ) → ReadStops (IsRefusedAs told AsGraph graph) status before now → ReadStops IsUnread status before now
  unread-graph = by (IsRefusedAs told AsGraph graph) IsUnread (λ status refused. inl refused)

  module _ (g : Graph) (graph_read : IsReadAs told AsGraph graph g) where
    pub unread-stack : (status : Status) (before now : ℕ) → ReadStops (IsRefusedAs told AsStack stack) status before now → ReadStops IsUnread status before now
    unread-stack = by (IsRefusedAs told AsStack stack) IsUnread (λ status refused. inr (g, graph_read, inl refused))

    module _ (s : StackValue) (stack_read : IsReadAs told AsStack stack s) where
      abbrev pub both : Source
      both = record { graph = g; stack = s }

      pub unread-limit : (status : Status) (before now : ℕ) → PlanStops status g s → now ≡ before → ReadStops IsUnread status before now
      unread-limit =
          by_limit IsUnread g s (λ fault is. inr (g, graph_read, inr (s, stack_read, passed told both (limit_fault g s) fault is)))

      pub sources_read : limit_fault g s ≡ None → Leads told (sources graph stack) (Ok both)
      sources_read is = inr (g, graph_read, inr (s, stack_read, unpassed told both (limit_fault g s) is))

of_stack : (told : Option Files) (graph stack : List ℕ) (g : Graph) → IsReadAs told AsGraph graph g → (source : Source)
    → Leads told (Reads AsStack stack (λ s. within g s (record { graph = g; stack = s }))) (Ok source) → AreSources told graph stack source
of_stack told graph stack g graph_read source (inl stops) = absurd stops
of_stack told graph stack g graph_read source (inr p) =
    let read : Source = record { graph = g; stack = p.0 } in
    let q = within-unpassed told read (limit_fault g p.0) source p.2 in
    subst (AreSources told graph stack) (sym q.1) (record { graph = graph_read; stack = p.1; within = q.0 })

pub of_sources : SourcesAreRead
of_sources told graph stack source (inl stops) = absurd stops
of_sources told graph stack source (inr p) = of_stack told graph stack p.0 p.1 source p.2

-- PLAIN

module _ (told : Option Files) (graph stack prefix : List ℕ) where
  abbrev pub IsPlainUnread : Status → Type 0
  IsPlainUnread status = Leads told (outcome_of (Some (Plain graph stack prefix))) (Err status)

  pub plain_unread : (status : Status) (before now : ℕ) → ReadStops (IsUnread told graph stack) status before now → ReadStops IsPlainUnread status before now
  plain_unread = by (IsUnread told graph stack) IsPlainUnread (map-refused (plain_work prefix) told (sources graph stack))

  pub plain_read : (source : Source) → Leads told (sources graph stack) (Ok source)
      → Leads told (outcome_of (Some (Plain graph stack prefix))) (Ok (plain_work prefix source))
  plain_read = map-work (plain_work prefix) told (sources graph stack)

pub of_plain : PlainIsOfItsSources
of_plain told graph stack prefix work leads =
    let p = of-work (plain_work prefix) told (sources graph stack) work leads in
    (p.0, of_sources told graph stack p.0 p.1, p.2)

-- COPY

module _ (told : Option Files) (stack prefix : List ℕ) where
  abbrev pub IsCopyUnread : Status → Type 0
  IsCopyUnread status = Leads told (outcome_of (Some (Copy stack prefix))) (Err status)

  pub copy_unread : (status : Status) (before now : ℕ) → ReadStops (IsRefusedAs told AsStack stack) status before now → ReadStops IsCopyUnread status before now
  copy_unread = by (IsRefusedAs told AsStack stack) IsCopyUnread (λ status refused. inl refused)

  module _ (s : StackValue) (read : IsReadAs told AsStack stack s) where
    pub copy_limit : (status : Status) (before now : ℕ) → PlanStops status copy_graph s → now ≡ before → ReadStops IsCopyUnread status before now
    copy_limit = by_limit IsCopyUnread copy_graph s (λ fault is. inr (s, read, passed told (copy_work prefix s) (limit_fault copy_graph s) fault is))

    pub copy_read : limit_fault copy_graph s ≡ None → Leads told (outcome_of (Some (Copy stack prefix))) (Ok (copy_work prefix s))
    copy_read is = inr (s, read, unpassed told (copy_work prefix s) (limit_fault copy_graph s) is)

pub of_copy : CopyIsOfItsStack
of_copy told stack prefix work (inl stops) = absurd stops
of_copy told stack prefix work (inr p) =
    let q = within-unpassed told (copy_work prefix p.0) (limit_fault copy_graph p.0) work p.2 in
    (p.0, p.1, q.0, q.1)

-- INFO

module _ (told : Option Files) (stack : List ℕ) where
  abbrev pub IsInfoUnread : Status → Type 0
  IsInfoUnread status = Leads told (outcome_of (Some (Info stack))) (Err status)

  pub info_unread : (status : Status) (before now : ℕ) → ReadStops (IsRefusedAs told AsStack stack) status before now → ReadStops IsInfoUnread status before now
  info_unread = by (IsRefusedAs told AsStack stack) IsInfoUnread (λ status refused. inl refused)

  pub info_read : (s : StackValue) → IsReadAs told AsStack stack s → Leads told (outcome_of (Some (Info stack))) (Ok (info_work s))
  info_read s read = inr (s, read, refl)

pub of_info : InfoIsOfItsStack
of_info told stack work (inl stops) = absurd stops
of_info told stack work (inr p) = (p.0, p.1, cc p.2)

-- A STACK THAT IS CHANGED

module _ (told : Option Files) (mode : ℕ) (stack name : List ℕ) where
  abbrev pub IsOrientUnread : Status → Type 0
  IsOrientUnread status = Leads told (outcome_of (Some (Orient mode stack name))) (Err status)

  pub orient_unread : (status : Status) (before now : ℕ) → ReadStops (IsRefusedAs told AsStack stack) status before now
      → ReadStops IsOrientUnread status before now
  orient_unread = by (IsRefusedAs told AsStack stack) IsOrientUnread (λ status refused. inl refused)

  module _ (s : StackValue) (read : IsReadAs told AsStack stack s) where
    oriented_to : (small : Bool) → nat_lt (length s.shape.dims) 2 ≡ small → (end : Result Work Status)
        → Leads told (if small then Refused Sizes else changed_outcome name (changed_stack (oriented mode) (oriented_dims mode) s)) end
        → Leads told (outcome_of (Some (Orient mode stack name))) end
    oriented_to small is end leads =
        inr (
          s,
          read,
          subst (λ b. Leads told (if b then Refused Sizes else changed_outcome name (changed_stack (oriented mode) (oriented_dims mode) s)) end)
              (sym is) leads,
        )

    pub orient_one : length s.shape.dims < 2 → IsOrientUnread Sizes
    orient_one few = oriented_to true (lt-ltb (length s.shape.dims) 2 few) (Err Sizes) refl

    pub orient_to : 2 ≤ length s.shape.dims → (end : Result Work Status)
        → Leads told (changed_outcome name (changed_stack (oriented mode) (oriented_dims mode) s)) end
        → Leads told (outcome_of (Some (Orient mode stack name))) end
    orient_to two = oriented_to false (le-ltb (length s.shape.dims) 2 two)

module _ (told : Option Files) (rule : CorrectRule) (dark stack name : List ℕ) where
  abbrev pub IsCorrectUnread : Status → Type 0
  IsCorrectUnread status = Leads told (outcome_of (Some (Correct rule dark stack name))) (Err status)

  pub correct_undark : (status : Status) (before now : ℕ) → ReadStops (IsRefusedAs told AsStack dark) status before now
      → ReadStops IsCorrectUnread status before now
  correct_undark = by (IsRefusedAs told AsStack dark) IsCorrectUnread (λ status refused. inl refused)

  module _ (d : StackValue) (dark_read : IsReadAs told AsStack dark d) where
    pub correct_unread : (status : Status) (before now : ℕ) → ReadStops (IsRefusedAs told AsStack stack) status before now
        → ReadStops IsCorrectUnread status before now
    correct_unread = by (IsRefusedAs told AsStack stack) IsCorrectUnread (λ status refused. inr (d, dark_read, inl refused))

    module _ (s : StackValue) (read : IsReadAs told AsStack stack s) where
      corrected_to : (arrays : List Array) → d.arrays ≡ arrays → (end : Result Work Status) → Leads told (correct_outcome rule name arrays s) end
          → Leads told (outcome_of (Some (Correct rule dark stack name))) end
      corrected_to arrays is end leads =
          inr (d, dark_read, inr (s, read, subst (λ frames. Leads told (correct_outcome rule name frames s) end) (sym is) leads))

      sizes_of_first : (arrays : List Array) → IfSome (slice_get arrays 0) (λ a. same_sizes a.dims s.shape.dims ≡ false)
          → Leads told (correct_outcome rule name arrays s) (Err Sizes)
      sizes_of_first [] other = refl
      sizes_of_first (a ∷ arrays) other =
          subst (λ b. Leads told (if b then changed_outcome name (changed_stack (corrected rule a) (λ dims. dims) s) else Refused Sizes) (Err Sizes)) (sym other)
          refl

      pub correct_sizes : IfSome (slice_get d.arrays 0) (λ a. same_sizes a.dims s.shape.dims ≡ false) → IsCorrectUnread Sizes
      correct_sizes other = corrected_to d.arrays refl (Err Sizes) (sizes_of_first d.arrays other)

      by_first : (arrays : List Array) (a : Array) → slice_get arrays 0 ≡ Some a → same_sizes a.dims s.shape.dims ≡ true → (end : Result Work Status)
          → Leads told (changed_outcome name (changed_stack (corrected rule a) (λ dims. dims) s)) end → Leads told (correct_outcome rule name arrays s) end
      by_first [] a is same end leads = absurd (cc)
      by_first (b ∷ arrays) a is same end leads =
          let first : b ≡ a = cc in
          rw first (subst (λ b. Leads told (if b then changed_outcome name (changed_stack (corrected rule a) (λ dims. dims) s) else Refused Sizes) end)
          (sym same) leads)

      pub correct_to : (a : Array) → slice_get d.arrays 0 ≡ Some a → same_sizes a.dims s.shape.dims ≡ true → (end : Result Work Status)
          → Leads told (changed_outcome name (changed_stack (corrected rule a) (λ dims. dims) s)) end
          → Leads told (outcome_of (Some (Correct rule dark stack name))) end
      correct_to a is same end leads = corrected_to d.arrays refl end (by_first d.arrays a is same end leads)

-- SERIES

module _ (told : Option Files) (most : ℕ) (regions : List Box4) (stack name : List ℕ) where
  abbrev pub IsSeriesUnread : Status → Type 0
  IsSeriesUnread status = Leads told (outcome_of (Some (Series most regions stack name))) (Err status)

  pub series_unread : (status : Status) (before now : ℕ) → ReadStops (IsRefusedAs told AsStack stack) status before now
      → ReadStops IsSeriesUnread status before now
  series_unread = by (IsRefusedAs told AsStack stack) IsSeriesUnread (λ status refused. inl refused)

  pub series_read : (s : StackValue) → IsReadAs told AsStack stack s
      → Leads told (outcome_of (Some (Series most regions stack name))) (Ok (series_work most regions name s))
  series_read s read = inr (s, read, refl)
