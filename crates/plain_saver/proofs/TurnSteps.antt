-- What several arrays more at a file node do to what stands.
use Rattle.std.proofs.Common.{◌≡◌, inl, inr, ℕ, zero, suc, ◌+◌, ◌-◌, ◌*◌, ◌/◌, ◌%◌, ◌^◌, ◌<◌, ◌≤◌, true, List, [], ◌∷◌, Option, Some, length}
use Rattle.std.proofs.Common.{set, refl, sym, ap, subst, ◌∙◌, arith}
use Rattle.std.specs.Prelude.{◌==◌, false, min, slice_get}
use Rattle.std.specs.Option.{option_map_or}
use Rattle.std.proofs.Math.Nat.{div-le_self}
use Rattle.std.proofs.lemmas.Bool.{eq-eqb}
use Rattle.std.proofs.lemmas.List.{length-append, set-get_or}
use Rattle.std.proofs.lemmas.Option.{same_Some}
use Rattle.nd_base.specs.Array.{Array, StackValue}
use Rattle.nd_base.specs.GraphRules.{IsGraph}
use Rattle.nd_base.specs.declared.graph.Graph.{Graph}
use Rattle.edge_traits.specs.Files.{Files}
use Rattle.file_out.specs.Streams.{Stream}
use Rattle.chain_plain.specs.PlainRun.{passed}
use Rattle.chain_plain.specs.PassedLaws.{passed-few}
use Rattle.graph_files.specs.InTurn.{GoInTurn}
use Rattle.graph_files.specs.NodeFiles.{NodeFile, HasNumrecs, IsPlaceAfter, first_count}
use Rattle.graph_files.specs.OpenFileLaws.{get-set_same, all-more}
use Rattle.plain_saver.specs.declared.passes.Pass.{Pass}
use Rattle.plain_saver.specs.Ahead.{arrays_from}
use Rattle.plain_saver.specs.Passes.{no_pass, pass_at, with_gone, with_one_gone, is_next}
use Rattle.plain_saver.specs.Saved.{written, group_size, IsSaved}
use Rattle.plain_saver.proofs.Ahead.{content-of, from-next}
use Rattle.plain_saver.proofs.ArraySteps.{all-written, group-goes, place, saved-write}
use Rattle.plain_saver.proofs.FileNodes.{apart, file-of}
use Rattle.plain_saver.proofs.Gone.{pass_at-same, length-gone}

-- LISTS

set-set : {X : Type 0} (xs : List X) (k : ℕ) (x y : X) → set (set xs k x) k y ≡ set xs k y
set-set [] k x y = refl
set-set (z ∷ xs) zero x y = refl
set-set (z ∷ xs) (suc k) x y = ap (λ zs. z ∷ zs) (set-set xs k x y)

set-is : {X : Type 0} (xs : List X) (k : ℕ) (x : X) → slice_get xs k ≡ Some x → set xs k x ≡ xs
set-is [] k x is = refl
set-is (z ∷ xs) zero x is = ap (λ y. y ∷ xs) (sym (same_Some z x is))
set-is (z ∷ xs) (suc k) x is = ap (λ zs. z ∷ zs) (set-is xs k x is)

some-at : (xs : List ℕ) (i : ℕ) → i < length xs → (k : ℕ) × (slice_get xs i ≡ Some k)
some-at [] i within = absurd (omega (arith, within))
some-at (x ∷ xs) zero within = (x, refl)
some-at (x ∷ xs) (suc i) within = some-at xs i (omega (arith, within))

-- none more
gone-none : (ps : List Pass) (v : ℕ) → 1 ≤ v → with_gone ps v 0 ≡ ps
gone-none ps zero some = absurd (omega (arith, some))
gone-none ps (suc k) some =
    let e : suc k - 1 ≡ k = omega arith in
    let p = pass_at ps (suc k) in
    let same : p.gone + 0 ≡ p.gone = omega arith in
    ap (λ i. set ps i (record p { gone = p.gone + 0 })) e ∙ ap (λ n. set ps k (record p { gone = n })) same ∙ set-get_or ps k no_pass

-- one more, and others
gone-more : (ps : List Pass) (v n : ℕ) → 1 ≤ v → v ≤ length ps → with_gone (with_one_gone ps v) v n ≡ with_gone ps v (suc n)
gone-more ps v n some within =
    let p = pass_at ps v in
    let same : p.gone + 1 + n ≡ p.gone + suc n = omega arith in
    ap (λ (q : Pass). set (with_one_gone ps v) (v - 1) (record q { gone = q.gone + n })) (pass_at-same ps v some within)
    ∙ set-set ps (v - 1) (record p { gone = p.gone + 1 }) (record p { gone = p.gone + 1 + n })
    ∙ ap (λ m. set ps (v - 1) (record p { gone = m })) same

-- where the next array goes, and how many arrays its group has in the end
abbrev pub IsPlaced : Graph → StackValue → List Pass → NodeFile → (of group place : ℕ) → Type 0
IsPlaced g s ps x of group place = (group ≡ (pass_at ps x.node).gone / x.count) × (place ≡ (pass_at ps x.node).gone % x.count)
    × (of ≡ group_size x.count (length (passed g s x.node)) (pass_at ps x.node).gone)

module _ (g : Graph) (s : StackValue) (prefix : List ℕ) (before : Option Files) (sound : IsGraph g) (few : length s.arrays ≤ 65536) {ts : List (List ℕ)}
    (at of : ℕ) where
  -- the next position of a node of which not all have gone
  pub next-of : (ps : List Pass) (xs : List NodeFile) (t : Option Files) → IsSaved g s prefix before ps ts xs t → (x : NodeFile)
      → slice_get xs at ≡ Some x → (pass_at ps x.node).gone < length (passed g s x.node)
      → (k : ℕ) × (slice_get (passed g s x.node) (pass_at ps x.node).gone ≡ Some k) × (is_next ps x.node k ≡ true)
  next-of ps xs t saved x is low =
      let f = file-of g s prefix sound xs saved.nodes at x is in
      let r = some-at (passed g s x.node) (pass_at ps x.node).gone low in (
        r.0,
        r.1,
        ap (λ (ks : List ℕ). option_map_or (λ p. p == r.0) (slice_get ks (pass_at ps x.node).gone) false) (saved.passes.positions x.node f.first f.within)
            ∙ ap (λ o. option_map_or (λ p. p == r.0) o false) r.1 ∙ eq-eqb r.0 r.0 refl,
      )

  pub saved-turns : (n : ℕ) (ps : List Pass) (xs : List NodeFile) (t u : Option Files) → IsSaved g s prefix before ps ts xs t → (x : NodeFile)
      → slice_get xs at ≡ Some x → (group place : ℕ) (o : Option Stream) → (pass_at ps x.node).gone + n ≤ length (passed g s x.node)
      → (1 ≤ n → IsPlaced g s ps x of group place) → place + n ≤ x.count
      → GoInTurn x (Some of) group place (arrays_from g s x.node (pass_at ps x.node).gone n) o t u
      → IsSaved g s prefix before (with_gone ps x.node n) ts (set xs at (record x { current = o })) u
  saved-turns zero ps xs t u saved x is group place_ o low placed fits turns =
      let f = file-of g s prefix sound xs saved.nodes at x is in
      let files : set xs at (record x { current = o }) ≡ xs =
      ap (λ (w : Option Stream). set xs at (record x { current = w })) turns.0 ∙ set-is xs at x is in
      subst (λ (qs : List Pass). IsSaved g s prefix before qs ts (set xs at (record x { current = o })) u) (sym (gone-none ps x.node f.first))
      (subst (λ (zs : List NodeFile). IsSaved g s prefix before ps ts zs u) (sym files)
      (subst (λ (w : Option Files). IsSaved g s prefix before ps ts xs w) (sym turns.1) saved))
  saved-turns (suc n) ps xs t u saved x is group place_ o low placed fits turns =
      let v = x.node in
      let c = (pass_at ps v).gone in
      let all = length (passed g s v) in
      let f = file-of g s prefix sound xs saved.nodes at x is in
      let inside : v ≤ length ps = subst (λ m. v ≤ m) (sym saved.passes.count) f.within in
      let p = placed (omega arith) in
      let r = next-of ps xs t saved x is (omega (arith, low)) in
      let k = r.0 in
      let made = content-of g s v c c k r.1 in
      let a = made.0 in
      let parts = subst (λ (zs : List Array). GoInTurn x (Some of) group place_ zs o t u) (from-next g s v c n k a r.1 made.1) turns in
      let m = parts.0 in
      let w = parts.1.0 in
      let goes = parts.1.1 in
      let y : NodeFile = record x { current = m } in
      let ys = set xs at y in
      let long = length-gone g s ps v f.first f.within saved.passes in
      let small : group < 2 ^ 64 = omega (arith, p.0, div-le_self c x.count, low, passed-few g s v, few) in
      let here =
      subst (λ i. IsPlaceAfter x.count (written g s ps v) i place_) (sym p.0)
      (subst (λ i. IsPlaceAfter x.count (written g s ps v) (c / x.count) i) (sym p.1)
      (place g s prefix before t t ps xs xs sound few saved at x is k r.2 a made.1)) in
      let stands = all-written g s prefix before t t ps xs xs sound few saved at x is k r.2 a made.1 in
      let step : IsSaved g s prefix before (with_one_gone ps v) ts ys w =
      saved-write g s prefix before t w ps xs ys sound few saved at x is k r.2 a made.1 m refl
      (subst (λ i. HasNumrecs (first_count x.late (Some i)) m) p.2 goes.numrecs)
      (all-more xs at x m is (apart g s prefix sound xs saved.nodes) group small t t w (written g s ps) stands goes.changed place_ here a
      (omega (arith, long, length-append (written g s ps v) (a ∷ []), low, passed-few g s v, few))
      (goes.written (written g s ps v) here (saved.groups at x is).written))
      (λ last. goes.ended (omega (arith, last, p.1))) in
      let now : (pass_at (with_one_gone ps v) v).gone ≡ c + 1 = ap (λ (q : Pass). q.gone) (pass_at-same ps v f.first inside) in
      let rest =
      saved-turns n (with_one_gone ps v) ys w u step y (get-set_same xs at x y is) group (place_ + 1) o (omega (arith, now, low))
      (λ some. elim (group-goes x.count c f.some) [
        | inl last ↦ absurd (omega (arith, last.0, fits, some, p.1))
        | inr more ↦ (
          p.0 ∙ sym (ap (λ i. i / x.count) now ∙ more.1),
          ap (λ i. i + 1) p.1 ∙ sym more.2 ∙ sym (ap (λ i. i % x.count) now),
          p.2 ∙ ap (λ i. min x.count (all - i * x.count)) (sym (ap (λ i. i / x.count) now ∙ more.1)),
        )
      ]) (omega (arith, fits))
      (subst (λ i. GoInTurn y (Some of) group (place_ + 1) (arrays_from g s v i n) o w u) (sym now) parts.1.2) in
      subst (λ (zs : List NodeFile). IsSaved g s prefix before (with_gone ps v (suc n)) ts zs u) (set-set xs at y (record x { current = o }))
      (subst (λ (qs : List Pass). IsSaved g s prefix before qs ts (set ys at (record x { current = o })) u) (gone-more ps v n f.first inside) rest)
