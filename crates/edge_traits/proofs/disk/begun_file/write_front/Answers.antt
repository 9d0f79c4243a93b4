use Rattle.std.proofs.Common.{◌≡◌, ℕ, ◌+◌, ◌-◌, List, ◌++◌, length, take, drop, sym, ap, ◌∙◌, arith, append_assoc, length-append}
use Rattle.std.proofs.lemmas.List.{take-append-drop, length-take-le, take_rest}
use Rattle.std.proofs.KnownBytes.{Appends-trans}
use Rattle.edge_traits.proofs.disk.begun_file.write_front.Goals as goal

-- a front of the rest joins what is done
front_grows : (bytes done rest : List ℕ) (n : ℕ) → bytes ≡ done ++ rest → bytes ≡ (done ++ take n rest) ++ take (length rest - n) (drop n rest)
front_grows bytes done rest n whole =
    let parts : rest ≡ take n rest ++ take (length rest - n) (drop n rest) = sym (take-append-drop n rest)
    ∙ ap (λ xs. take n rest ++ xs) (sym (take_rest rest n)) in
    whole ∙ ap (λ xs. done ++ xs) parts ∙ sym (append_assoc done (take n rest) (take (length rest - n) (drop n rest)))

pub loop-rest-preserved : goal.loop-rest-preserved
loop-rest-preserved g c =
    let k = c.loop-rest.invariant in
    let rest = c.loop-rest.rest.now in
    let n = c.in_ok-count.count in
    let many : length (k.0 ++ take n rest) ≡ length k.0 + n =
    length-append k.0 (take n rest) ∙ ap (λ m. length k.0 + m) (length-take-le n rest c.in_ok-count.ensures.bound) in
    (k.0 ++ take n rest, front_grows _ k.0 rest n k.1, omega (arith, many, k.2), Appends-trans _ _ _ _ _ k.3 c.in_ok-count.ensures.bytes)
