-- A block whose storage is at home isn't made anew, and its grant can't want memory.
use Rattle.std.proofs.Common.{◌≡◌, Bool, true, false, ◌∷◌, refl, sym, ◌∙◌, subst}
use Rattle.std.proofs.lemmas.Bool.{false≢true}
use Rattle.flow_journal.specs.declared.entry.Entry.TheVariants as entry
use Rattle.flow_journal.specs.EntryTests.{says_regrown}
use Rattle.flow_journal.specs.WorkedBlocks.{four_bytes}
use Rattle.board_rules.specs.declared.answers.Load.TheVariants as load
use Rattle.board_rules.specs.States.{BoardState, plain}
use Rattle.board_rules.specs.Moving.{moved}
use Rattle.board_rules.specs.Feeding.{LoadGives}
use Rattle.board_rules.specs.Worked.{Sample, parts_of, size_of}
use Rattle.board_rules.specs.WorkedCalls.{one_dropped}

-- of the load before the tick
abbrev second : BoardState → Bool
second (t ∷ u ∷ b) = says_regrown u.entry
second _ = false

pub isnt-regrown : LoadGives {F = Sample} parts_of size_of four_bytes one_dropped 0 0 (load.Loaded 1 4)
    (moved four_bytes (plain (entry.Load 0 1 0 4 false 0 true)) one_dropped) → ⊥
isnt-regrown (a, b, (regrown, (c, d), e)) = false≢true (sym (d (λ f. refl)) ∙ subst (λ (b : BoardState). second b ≡ true) e refl)

pub isnt-wanting : LoadGives {F = Sample} parts_of size_of four_bytes one_dropped 0 0 load.OutOfMemory one_dropped → ⊥
isnt-wanting h = false≢true (h.0 (λ f. refl))
