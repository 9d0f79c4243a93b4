-- What a look at the least one finds.
use Rattle.std.proofs.Common.{◌≡◌, ℕ, ◌-◌, ◌<◌, ◌≤◌, Bool, true, false, not, List, [], ◌∷◌, length, get_or, ℤ, Some, None, slice_get, refl, arith}
use Rattle.std.proofs.lemmas.Bool.Decides.{nat_tests}
use Rattle.queue_sort.specs.declared.sort_lists.Waiting.{Waiting}
use Rattle.queue_sort.specs.Sorting.{keeps_step}
use Rattle.queue_sort.specs.DueAnswers.{due_first}

-- what is read in front is the first
pub front_is : {X : Type 0} (xs : List X) (x : X) → 0 < length xs → x ≡ get_or xs 0 x → slice_get xs 0 ≡ Some x
front_is [] x some is = absurd (omega arith)
front_is (y ∷ xs) x some is = grind (arith, is)

-- nothing goes out where the first keeps no step and has not waited for long
pub none_due : {T : Type 0} (last : ℤ) (now time : ℕ) (ws : List (Waiting T)) (w : Waiting T) → slice_get ws 0 ≡ Some w → keeps_step last w.id ≡ false
    → now - w.tick ≤ time → None ≡ due_first last now time ws
none_due last now time [] w first out early = refl
none_due last now time (v ∷ ws) w first out early = let same : v ≡ w = cc in rw same (rw out (grind (arith, nat_tests)))

-- the first goes out, late only where it keeps no step, and then it has waited for long
pub some_due : {T : Type 0} (last : ℤ) (now time : ℕ) (ws : List (Waiting T)) (w : Waiting T) (step : Bool) → slice_get ws 0 ≡ Some w
    → step ≡ keeps_step last w.id → (step ≡ false → time < now - w.tick)
    → Some (record { id = w.id; item = w.item; late = not step }) ≡ due_first last now time ws
some_due last now time [] w step first is long = cc
some_due last now time (v ∷ ws) w true first is long = let same : v ≡ w = cc in rw same (rw (← is) refl)
some_due last now time (v ∷ ws) w false first is long = let same : v ≡ w = cc in let passed = long refl in rw same (rw (← is) (grind (arith, nat_tests)))
