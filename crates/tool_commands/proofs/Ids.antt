-- The lines of `info`, read off a stack.
use Rattle.std.proofs.Common.{◌≡◌, ℕ, ◌-◌, ◌<◌, List, [], ◌∷◌, ◌++◌, Some, length, refl, ap, sym, subst, ◌∙◌, arith, append_assoc}
use Rattle.std.specs.Prelude.{slice_get, IfSome, codes}
use Rattle.std.specs.Fmt.{signed_decimal}
use Rattle.nd_base.specs.Array.{Array}
use Rattle.nd_base.specs.declared.array.Head.{Head}
use Rattle.nd_base.specs.Stacks.{head_of}
use Rattle.tool_commands.specs.Info.{last_of, ids_line}

-- the last array stands behind all others
last_of-at : (first : Array) (others : List Array) → slice_get (first ∷ others) (length others) ≡ Some (last_of first others)
last_of-at first [] = refl
last_of-at first (next ∷ others) = last_of-at next others

-- the ids of the first head and the last one
pub ids_line-heads : (arrays : List Array) (frames : ℕ) (first last : Head) → 0 < length arrays → frames ≡ length arrays
    → IfSome (slice_get arrays 0) (λ a. head_of a ≡ first) → IfSome (slice_get arrays (frames - 1)) (λ a. head_of a ≡ last)
    → ids_line arrays ≡ codes "ids " ++ (signed_decimal first.id ++ (codes " " ++ (signed_decimal last.id ++ codes "\n")))
ids_line-heads [] frames first last some count front back = absurd (omega arith)
ids_line-heads (a ∷ others) frames first last some count front back =
    let place : frames - 1 ≡ length others = omega (arith, count) in
    let at : slice_get (a ∷ others) (frames - 1) ≡ Some (last_of a others) = ap (slice_get (a ∷ others)) place ∙ last_of-at a others in
    let is : head_of (last_of a others) ≡ last = subst (λ o. IfSome o (λ b. head_of b ≡ last)) at back in
    rw (sym front, sym is) (simp append_assoc)
