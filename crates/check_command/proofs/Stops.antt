-- What a check ends with where one of its stages stops.
use Rattle.std.proofs.Common.{◌≡◌, ◌≢◌, ℕ, List, Option, None, Some, Ok, Err, reverse, refl, inl, inr}
use Rattle.std.specs.Prelude.{Result}
use Rattle.edge_traits.specs.Files.{Files}
use Rattle.graph_conf.specs.Loads.{limit_fault}
use Rattle.graph_conf.specs.declared.load.LimitFault.{LimitFault}
use Rattle.flow_journal.specs.Pasts.{Past}
use Rattle.flow_journal.specs.declared.read.LogFault.TheVariants as text
use Rattle.journal_check.specs.Verdicts.{Checks}
use Rattle.journal_check.specs.declared.fault.CheckFault.{CheckFault}
use Rattle.journal_check.specs.declared.fault.CheckFault.TheVariants as verdict
use Rattle.tool_commands.specs.Inputs.{Input, AsGraph, AsStack, IsRefusalOf, LongGraph, NoText, NoGraph, LongStack, NoStack}
use Rattle.tool_commands.specs.Outcomes.{Leads}
use Rattle.tool_commands.specs.Stages.{ReadStops, PrintStops}
use Rattle.tool_commands.specs.Works.{Source, sources, unless_passed}
use Rattle.tool_commands.specs.declared.status.Status.{Status}
use Rattle.tool_commands.specs.declared.status.Status.TheVariants.{Done, Usage, GraphText, GraphRule, StackBytes, Limit, Sizes, ReadFault, ShelfFault, OutFault}
use Rattle.tool_commands.specs.declared.status.Status.TheVariants.{OutOfMemory}
use Rattle.check_command.specs.CheckAnswers.{IsAnswer, IsLogRead, CommandEnds, IsCheckCause, setting_of, yes}
use Rattle.check_command.specs.CheckCommand.{CheckCommand}
use Rattle.check_command.specs.CheckStages.{LogStops, check_fault_status}
use Rattle.check_command.specs.declared.status.CheckStatus.{CheckStatus}
use Rattle.check_command.specs.declared.status.CheckStatus.TheVariants.{Common, LongLog, LogBytes, LogRefused, FileDiffers}

-- NO GRAPH AND NO STACK IS REFUSED FOR ITS SIZES

refused_for_more : (input : Input) (status : Status) → IsRefusalOf input status → status ≢ Sizes
refused_for_more input status (LongGraph bytes long) = λ e. absurd (cc)
refused_for_more input status NoText = λ e. absurd (cc)
refused_for_more input status (NoGraph fault some other) = λ e. absurd (cc)
refused_for_more input status (LongStack bytes long) = λ e. absurd (cc)
refused_for_more input status (NoStack fault some) = λ e. absurd (cc)

no_limit : (told : Option Files) (o : Option LimitFault) (source : Source) → Leads told (unless_passed o source) (Err Sizes) → ⊥
no_limit told None source is = absurd (cc)
no_limit told (Some fault) source is = absurd (cc)

no_sizes : (told : Option Files) (graph stack : List ℕ) → Leads told (sources graph stack) (Err Sizes) → ⊥
no_sizes told graph stack (inl refused) = refused_for_more AsGraph Sizes refused.refusal refl
no_sizes told graph stack (inr (g, read, inl refused)) = refused_for_more AsStack Sizes refused.refusal refl
no_sizes told graph stack (inr (g, read, inr (s, also, end))) = no_limit told (limit_fault g s) (record { graph = g; stack = s }) end

-- THE GRAPH AND THE STACK

module _ (told : Option Files) (c : CheckCommand) (sink : Option (List ℕ)) where
  abbrev Refuses : Status → Type 0
  Refuses status = Leads told (sources c.graph c.stack) (Err status)

  pub unread_ends : (status : Status) (before now : ℕ) → ReadStops Refuses status before now → CommandEnds (Common status) c told sink sink
  unread_ends GraphText before now stops = (stops.0, refl)
  unread_ends (GraphRule fault) before now stops = (stops.0, refl)
  unread_ends (StackBytes fault) before now stops = (stops.0, refl)
  unread_ends (Limit fault) before now stops = (stops.0, refl)
  unread_ends Sizes before now stops = absurd (no_sizes told c.graph c.stack stops.0)
  unread_ends ReadFault before now stops = refl
  unread_ends OutOfMemory before now stops = refl
  unread_ends Done before now stops = absurd stops
  unread_ends Usage before now stops = absurd stops
  unread_ends ShelfFault before now stops = absurd stops
  unread_ends OutFault before now stops = absurd stops

  pub unread_cause : (status : Status) (before now faults : ℕ) → ReadStops Refuses status before now → IsCheckCause (Common status) before now faults faults
  unread_cause GraphText before now faults stops = (stops.1, refl)
  unread_cause (GraphRule fault) before now faults stops = (stops.1, refl)
  unread_cause (StackBytes fault) before now faults stops = (stops.1, refl)
  unread_cause (Limit fault) before now faults stops = (stops.1, refl)
  unread_cause Sizes before now faults stops = (stops.1, refl)
  unread_cause ReadFault before now faults stops = (stops, refl)
  unread_cause OutOfMemory before now faults stops = (stops, refl)
  unread_cause Done before now faults stops = absurd stops
  unread_cause Usage before now faults stops = absurd stops
  unread_cause ShelfFault before now faults stops = absurd stops
  unread_cause OutFault before now faults stops = absurd stops

  -- THE LOG'S TEXT

  pub text_ends : (source : Source) → Leads told (sources c.graph c.stack) (Ok source) → (status : CheckStatus) (before now : ℕ)
      → LogStops status told c.log before now → CommandEnds status c told sink sink
  text_ends source read (Common ReadFault) before now stops = refl
  text_ends source read (Common OutOfMemory) before now stops = refl
  text_ends source read (LongLog bytes) before now stops = ((source, read, (stops.0, stops.1)), refl)
  text_ends source read (LogBytes (text.Line n)) before now stops = ((source, read, stops.0), refl)
  text_ends source read (LogBytes text.OutOfMemory) before now stops = absurd stops
  text_ends source read (LogRefused fault) before now stops = absurd stops
  text_ends source read (FileDiffers d) before now stops = absurd stops
  text_ends source read (Common Done) before now stops = absurd stops
  text_ends source read (Common Usage) before now stops = absurd stops
  text_ends source read (Common GraphText) before now stops = absurd stops
  text_ends source read (Common (GraphRule fault)) before now stops = absurd stops
  text_ends source read (Common (StackBytes fault)) before now stops = absurd stops
  text_ends source read (Common (Limit fault)) before now stops = absurd stops
  text_ends source read (Common Sizes) before now stops = absurd stops
  text_ends source read (Common ShelfFault) before now stops = absurd stops
  text_ends source read (Common OutFault) before now stops = absurd stops

  pub text_cause : (status : CheckStatus) (before now faults : ℕ) → LogStops status told c.log before now → IsCheckCause status before now faults faults
  text_cause (Common ReadFault) before now faults stops = (stops, refl)
  text_cause (Common OutOfMemory) before now faults stops = (stops, refl)
  text_cause (LongLog bytes) before now faults stops = (stops.2, refl)
  text_cause (LogBytes (text.Line n)) before now faults stops = (stops.1, refl)
  text_cause (LogBytes text.OutOfMemory) before now faults stops = absurd stops
  text_cause (LogRefused fault) before now faults stops = absurd stops
  text_cause (FileDiffers d) before now faults stops = absurd stops
  text_cause (Common Done) before now faults stops = absurd stops
  text_cause (Common Usage) before now faults stops = absurd stops
  text_cause (Common GraphText) before now faults stops = absurd stops
  text_cause (Common (GraphRule fault)) before now faults stops = absurd stops
  text_cause (Common (StackBytes fault)) before now faults stops = absurd stops
  text_cause (Common (Limit fault)) before now faults stops = absurd stops
  text_cause (Common Sizes) before now faults stops = absurd stops
  text_cause (Common ShelfFault) before now faults stops = absurd stops
  text_cause (Common OutFault) before now faults stops = absurd stops

  -- THE LOG

  abbrev refusal : CheckFault → Result (Unit {0}) CheckFault
  refusal fault = Err fault

  pub refused_ends : (source : Source) (P : Past) → Leads told (sources c.graph c.stack) (Ok source) → IsLogRead told c.log P → (fault : CheckFault)
      → (refusal fault ≢ refusal verdict.OutOfMemory → Checks (setting_of source) (reverse P) (refusal fault)) → CommandEnds (check_fault_status fault) c told sink sink
  refused_ends source P read log verdict.OutOfMemory checks = refl
  refused_ends source P read log (verdict.Entry n) checks = ((source, read, (P, log, (checks (λ e. absurd (cc)), λ e. absurd (cc)))), refl)
  refused_ends source P read log verdict.Unfinished checks = ((source, read, (P, log, (checks (λ e. absurd (cc)), λ e. absurd (cc)))), refl)

  pub refused_cause : (fault : CheckFault) (before now faults : ℕ) → now ≡ before → IsCheckCause (check_fault_status fault) before now faults faults
  refused_cause verdict.OutOfMemory before now faults same = (same, refl)
  refused_cause (verdict.Entry n) before now faults same = (same, refl)
  refused_cause verdict.Unfinished before now faults same = (same, refl)

  -- THE PRINT

  pub print_ends : IsAnswer told c (Common Done) → (status : Status) (now : Option (List ℕ)) (before after : ℕ)
      → PrintStops status sink yes now before after → CommandEnds (Common status) c told sink now
  print_ends whole OutFault now before after stops = (whole, stops.0)
  print_ends whole OutOfMemory now before after stops = stops.0
  print_ends whole Done now before after stops = absurd stops
  print_ends whole Usage now before after stops = absurd stops
  print_ends whole GraphText now before after stops = absurd stops
  print_ends whole (GraphRule fault) now before after stops = absurd stops
  print_ends whole (StackBytes fault) now before after stops = absurd stops
  print_ends whole (Limit fault) now before after stops = absurd stops
  print_ends whole Sizes now before after stops = absurd stops
  print_ends whole ReadFault now before after stops = absurd stops
  print_ends whole ShelfFault now before after stops = absurd stops

  pub print_cause : (status : Status) (now : Option (List ℕ)) (faults before after : ℕ) → PrintStops status sink yes now before after
      → IsCheckCause (Common status) faults faults before after
  print_cause OutFault now faults before after stops = (refl, stops.1)
  print_cause OutOfMemory now faults before after stops = (refl, stops.1)
  print_cause Done now faults before after stops = absurd stops
  print_cause Usage now faults before after stops = absurd stops
  print_cause GraphText now faults before after stops = absurd stops
  print_cause (GraphRule fault) now faults before after stops = absurd stops
  print_cause (StackBytes fault) now faults before after stops = absurd stops
  print_cause (Limit fault) now faults before after stops = absurd stops
  print_cause Sizes now faults before after stops = absurd stops
  print_cause ReadFault now faults before after stops = absurd stops
  print_cause ShelfFault now faults before after stops = absurd stops
