-- The arrays that go out of a node next, from both ends.
use Rattle.std.proofs.Common.{◌≡◌, ℕ, zero, suc, ◌+◌, ◌<◌, ◌≤◌, List, [], ◌∷◌, ◌++◌, Option, None, Some, length, take, drop, refl, ap, subst, ◌∙◌}
use Rattle.std.proofs.Common.{arith, length-drop, length-take, append-nil}
use Rattle.std.specs.List.{flat_map}
use Rattle.std.specs.Prelude.{slice_get}
use Rattle.std.specs.Option.{option_map}
use Rattle.std.proofs.lemmas.List.{take_more}
use Rattle.std.proofs.lemmas.List.Concat.{flat_map-append}
use Rattle.std.proofs.lemmas.List.Elements.{All-take, All-drop}
use Rattle.std.proofs.lemmas.Option.{same_Some, slice_get_within, get_or_from_slice_get}
use Rattle.nd_base.specs.Array.{Array, StackValue}
use Rattle.nd_base.specs.declared.attribute.FileShape.{FileShape}
use Rattle.nd_base.specs.declared.graph.Graph.{Graph}
use Rattle.nd_roi.specs.Region.{region}
use Rattle.cdf_write.specs.Layout.{row}
use Rattle.chain_plain.specs.Content.{content}
use Rattle.chain_plain.specs.ContentLaws.{frame}
use Rattle.chain_plain.specs.OneThread.{arrays_out, listed}
use Rattle.chain_plain.specs.Passing.{out_of}
use Rattle.chain_plain.specs.PassedLaws.{passed-frames}
use Rattle.chain_plain.specs.PlainRun.{passed}
use Rattle.graph_files.specs.OutgoingLaws.{arrays_out-more, length-arrays_out}
use Rattle.plain_saver.specs.Ahead.{arrays_from}

drop-next : (xs : List ℕ) (c k : ℕ) → slice_get xs c ≡ Some k → drop c xs ≡ k ∷ drop (suc c) xs
drop-next [] c k is = absurd (let none_ : None ≡ Some k = is in cc)
drop-next (x ∷ xs) zero k is = ap (λ y. y ∷ xs) (same_Some x k is)
drop-next (x ∷ xs) (suc c) k is = drop-next xs c k is

get-drop : (xs : List ℕ) (c n : ℕ) → slice_get (drop c xs) n ≡ slice_get xs (c + n)
get-drop xs zero n = ap (slice_get xs) (let e : n ≡ 0 + n = omega arith in e)
get-drop [] (suc c) n = refl
get-drop (x ∷ xs) (suc c) n = get-drop xs c n ∙ ap (slice_get (x ∷ xs)) (let e : suc (c + n) ≡ suc c + n = omega arith in e)

module _ (g : Graph) (s : StackValue) (v c : ℕ) where
  -- a position that goes out is that of a frame
  pub frame-within : (i k : ℕ) → slice_get (passed g s v) i ≡ Some k → k < length s.arrays
  frame-within i k is =
      let within = slice_get_within (passed g s v) i k is in
      subst (λ n. n < length s.arrays) (get_or_from_slice_get (passed g s v) i k 0 is) (passed-frames g s v i 0 within)

  -- and an array goes out there
  some-content : (k : ℕ) (o : Option Array) → slice_get s.arrays k ≡ o → k < length s.arrays → (a : Array) × (content g.nodes s.arrays (frame v k) ≡ Some a)
  some-content k None is within = absurd (gone s.arrays k is within)
    where
      gone : (xs : List Array) (k : ℕ) → slice_get xs k ≡ None → k < length xs → ⊥
      gone [] k is within = absurd (omega (arith, within))
      gone (x ∷ xs) zero is within = absurd (let e : Some x ≡ None = is in cc)
      gone (x ∷ xs) (suc k) is within = gone xs k is (omega (arith, within))
  some-content k (Some b) is within = (out_of region g.nodes v b, ap (option_map (out_of region g.nodes v)) is)

  pub content-of : (i k : ℕ) → slice_get (passed g s v) i ≡ Some k → (a : Array) × (content g.nodes s.arrays (frame v k) ≡ Some a)
  content-of i k is = some-content k (slice_get s.arrays k) refl (frame-within i k is)

  -- one more at the end
  pub from-more : (n k : ℕ) (a : Array) → slice_get (passed g s v) (c + n) ≡ Some k → content g.nodes s.arrays (frame v k) ≡ Some a
      → arrays_from g s v c (n + 1) ≡ arrays_from g s v c n ++ a ∷ []
  from-more n k a is made =
      let ks = drop c (passed g s v) in
      let here : slice_get ks n ≡ Some k = get-drop (passed g s v) c n ∙ is in
      ap (arrays_out g.nodes s.arrays v) (take_more ks n 0 (slice_get_within ks n k here)
      ∙ ap (λ m. take n ks ++ m ∷ []) (get_or_from_slice_get ks n k 0 here))
      ∙ arrays_out-more g.nodes s.arrays v (take n ks) k a made

  pub rows-more : (shape : FileShape) (n k : ℕ) (a : Array) → slice_get (passed g s v) (c + n) ≡ Some k → content g.nodes s.arrays (frame v k) ≡ Some a
      → flat_map (row shape) (arrays_from g s v c (n + 1)) ≡ flat_map (row shape) (arrays_from g s v c n) ++ row shape a
  rows-more shape n k a is made =
      ap (flat_map (row shape)) (from-more n k a is made) ∙ flat_map-append (row shape) (arrays_from g s v c n) (a ∷ [])
      ∙ ap (λ last. flat_map (row shape) (arrays_from g s v c n) ++ last) (append-nil (row shape a))

  -- the first one
  pub from-next : (n k : ℕ) (a : Array) → slice_get (passed g s v) c ≡ Some k → content g.nodes s.arrays (frame v k) ≡ Some a
      → arrays_from g s v c (suc n) ≡ a ∷ arrays_from g s v (c + 1) n
  from-next n k a is made =
      ap (λ ks. arrays_out g.nodes s.arrays v (take (suc n) ks)) (drop-next (passed g s v) c k is
      ∙ ap (λ i. k ∷ drop i (passed g s v)) (let e : suc c ≡ c + 1 = omega arith in e))
      ∙ ap (λ o. listed o ++ arrays_from g s v (c + 1) n) made

  -- as many as are asked for
  pub length-from : (n : ℕ) → c + n ≤ length (passed g s v) → length (arrays_from g s v c n) ≡ n
  length-from n within =
      let ks = drop c (passed g s v) in
      length-arrays_out g.nodes s.arrays v (take n ks)
      (All-take (λ (i : ℕ). i < length s.arrays) n ks (All-drop (λ (i : ℕ). i < length s.arrays) c (passed g s v) (passed-frames g s v)))
      ∙ length-take n ks ∙ omega (arith, within, length-drop c (passed g s v))
