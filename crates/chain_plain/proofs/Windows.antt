-- What fires of the positions at a circular node.
use Rattle.std.specs.Prelude.{◌≡◌, ℕ, zero, suc, ◌<◌, Bool, List, [], ◌∷◌, ◌++◌, length, map, IfSome, slice_get}
use Rattle.std.proofs.Common.{ap, sym, ◌∙◌, arith}
use Rattle.std.proofs.lemmas.List.{map-append}
use Rattle.nd_base.specs.Array.{Array}
use Rattle.nd_base.specs.declared.array.Head.{Head}
use Rattle.nd_base.specs.declared.graph.CircularRule.{CircularRule}
use Rattle.nd_base.specs.Stacks.{head_of}
use Rattle.trig_window.specs.Triggers.{trigger_fires}
use Rattle.chain_plain.specs.OneThread.{fires_at}

-- the trigger at a frame of the stack is that at its attributes
pub fired_is : (r : CircularRule) (arrays : List Array) (k : ℕ) (h : Head) → k < length arrays → IfSome (slice_get arrays k) (λ a. head_of a ≡ h)
    → trigger_fires r h.attrs ≡ fires_at r arrays k
fired_is r [] k h within some = absurd (omega arith)
fired_is r (a ∷ arrays) zero h within some = ap (λ (g : Head). trigger_fires r g.attrs) (sym some)
fired_is r (a ∷ arrays) (suc k) h within some = fired_is r arrays k h (omega (arith, within)) some

pub fires_more : (r : CircularRule) (arrays : List Array) (fired : List Bool) (xs more : List ℕ) (k : ℕ) (h : Head) (fires : Bool)
    → fired ≡ map (fires_at r arrays) xs → more ≡ xs ++ k ∷ [] → k < length arrays → IfSome (slice_get arrays k) (λ a. head_of a ≡ h)
    → fires ≡ trigger_fires r h.attrs → fired ++ fires ∷ [] ≡ map (fires_at r arrays) more
fires_more r arrays fired xs more k h fires before longer within some is =
    ap (λ bs. bs ++ fires ∷ []) before
    ∙ ap (λ b. map (fires_at r arrays) xs ++ b ∷ []) (is ∙ fired_is r arrays k h within some)
    ∙ sym (map-append (fires_at r arrays) xs (k ∷ []))
    ∙ ap (map (fires_at r arrays)) (sym longer)
