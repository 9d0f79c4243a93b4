-- Counts of faults over several steps.
use Rattle.std.proofs.Common.{◌≡◌, ℕ, Bool, true, false, sym, subst, ◌∙◌, Option}
use Rattle.edge_traits.specs.Faults.{Rose}
use Rattle.edge_traits.specs.Files.{Files}
use Rattle.flow_saver.specs.Saver.{CountsSo, CountsStep}

counts-true : (new : Bool) (first before now : ℕ) (held held_now : Option Files) → CountsSo true first before
    → CountsStep true new before now held held_now → CountsSo new first now
counts-true true first before now held held_now h step = subst (λ (n : ℕ). Rose first n) (sym step.1) h
counts-true false first before now held held_now h step = let clash : false ≡ true = step.0 in absurd (cc)

counts-false : (new : Bool) (first before now : ℕ) (held held_now : Option Files) → CountsSo false first before
    → CountsStep false new before now held held_now → CountsSo new first now
counts-false true first before now held held_now h step = subst (λ (n : ℕ). Rose n now) h step
counts-false false first before now held held_now h step = step ∙ h

pub counts-then : (old new : Bool) (first before now : ℕ) (held held_now : Option Files) → CountsSo old first before
    → CountsStep old new before now held held_now → CountsSo new first now
counts-then true new first before now held held_now h step = counts-true new first before now held held_now h step
counts-then false new first before now held held_now h step = counts-false new first before now held held_now h step
