-- A file that was begun, as a front of its final bytes.
use Rattle.std.proofs.Common.{◌≡◌, ◌≢◌, ℕ, zero, suc, ◌+◌, ◌-◌, ◌*◌, ◌/◌, ◌%◌, ◌<◌, ◌≤◌, Bool, true, false, List, [], ◌∷◌, ◌++◌, length, take, drop, refl, sym}
use Rattle.std.proofs.Common.{ap, ◌∙◌, arith, inl, inr, Option, Some, None}
use Rattle.std.specs.Prelude.{IsSome}
use Rattle.std.specs.List.{flat_map}
use Rattle.std.proofs.Math.Seq.{take-append-add}
use Rattle.std.proofs.Math.Nat.{add-mul, mod-lt, mul-le-mul_right}
use Rattle.std.proofs.lemmas.Nat.{div-add-mod'}
use Rattle.std.proofs.lemmas.Bool.{cases_lt, false≢true}
use Rattle.std.proofs.lemmas.List.{append_assoc, append-nil, length-append, length-take, length-take-le, length-drop, take_all, drop_all, take-append-le}
use Rattle.std.proofs.lemmas.List.{drop-append-le}
use Rattle.std.proofs.lemmas.List.Concat.{flat_map-append}
use Rattle.nd_base.specs.Array.{Array}
use Rattle.nd_base.specs.declared.attribute.FileShape.{FileShape}
use Rattle.edge_traits.specs.Files.{overwritten}
use Rattle.edge_traits.specs.FileLaws.{overwritten-middle, overwritten-same}
use Rattle.cdf_write.specs.Layout.{header, row, layout}
use Rattle.cdf_write.specs.LengthLaws.{header_length_is, length-header}
use Rattle.cdf_write.specs.Spelling.{word}
use Rattle.file_out.specs.Streams.{Stream, begun_file, count_place}
use Rattle.file_out.specs.StreamLaws.{begun_file-rows, overwritten-count}
use Rattle.graph_files.specs.BegunFiles.{open_count, unended_bytes}
use Rattle.graph_files.specs.Interrupted.{IsCountOf, IsBegunAs, Unended, Ended}
use Rattle.graph_files.specs.Interrupted as begun
use Rattle.graph_files.specs.Groups.{group_of, whole_file, file_of}
use Rattle.graph_files.specs.GroupLaws.{group-later, length-group}
use Rattle.graph_files.specs.NodeFiles.{NodeFile, IsTorn, Untouched, Header, Rows, Miscounted, IsOpenAfter, IsPlaceAfter, group_file, open_at}
use Rattle.graph_files.specs.NodeFileLaws.{cases_eq, none-open, open-here, open-elsewhere, empty}
use Rattle.graph_files.proofs.Writes.{next-place}

-- THE COUNT OF RECORDS

-- the last of two writes at one place counts
overwritten-twice : (file a b : List ℕ) (off : ℕ) → off ≤ length file → length a ≡ length b
    → overwritten (overwritten file off a) off b ≡ overwritten file off b
overwritten-twice file a b off within same =
    let place : length (take off file) ≡ off = length-take-le off file within in
    ap (λ n. overwritten (overwritten file off a) n b) (sym place)
    ∙ overwritten-middle (take off file) a (drop (off + length a) file) b (sym same)
    ∙ ap (λ n. take off file ++ (b ++ drop (off + n) file)) same

header_long : (shape : FileShape) (numrecs : Option ℕ) (rest : List ℕ) → count_place + 4 ≤ length (header shape numrecs ++ rest)
header_long shape numrecs rest =
    let both = length-append (header shape numrecs) rest in
    let front = length-header shape numrecs in
    let least = header_length_is shape in
    omega (arith, both, front, least)

open_is : (shape : FileShape) (rest : List ℕ) → take 4 (drop count_place (header shape None ++ rest)) ≡ open_count
unfolding header
open_is shape rest = refl

layout-overwritten : (shape : FileShape) (arrays : List Array) (count : List ℕ) → length count ≡ 4
    → overwritten (layout shape arrays) count_place count ≡ overwritten (begun_file shape None arrays) count_place count
layout-overwritten shape arrays count four =
    let rows = flat_map (row shape) arrays in
    ap (λ file. overwritten file count_place count) (sym (overwritten-count shape (length arrays) rows))
    ∙ overwritten-twice (begun_file shape None arrays) (word (length arrays)) count count_place
    (let long = header_long shape None rows in omega arith) (sym four)

layout-late : (shape : FileShape) (arrays : List Array) → overwritten (layout shape arrays) count_place open_count ≡ begun_file shape None arrays
layout-late shape arrays =
    let rows = flat_map (row shape) arrays in
    layout-overwritten shape arrays open_count refl
    ∙ ap (λ count. overwritten (begun_file shape None arrays) count_place count) (sym (open_is shape rows))
    ∙ overwritten-same (begun_file shape None arrays) count_place 4 (header_long shape None rows)

-- there is one such number
pub count-one : (late : Bool) (n : ℕ) (a c : Option ℕ) → IsCountOf late n a → IsCountOf late n c → a ≡ c
count-one true n a c h k = h ∙ sym k
count-one false n a c h k = h ∙ sym k

module _ (shape : FileShape) (arrays rest full : List Array) (is : full ≡ arrays ++ rest) where
  abbrev rows : List ℕ
  rows = flat_map (row shape) rest

  longer : (numrecs : Option ℕ) → begun_file shape numrecs full ≡ begun_file shape numrecs arrays ++ rows
  longer numrecs =
      ap (λ zs. header shape numrecs ++ flat_map (row shape) zs) is ∙ ap (λ r. header shape numrecs ++ r) (flat_map-append (row shape) arrays rest)
      ∙ sym (append_assoc (header shape numrecs) (flat_map (row shape) arrays) rows)

  -- a front of the header and the rows is one of the file as it is before it ends
  pub unended-front : (late : Bool) (numrecs : Option ℕ) (front tail : List ℕ) → IsCountOf late (length full) numrecs
      → begun_file shape numrecs arrays ≡ front ++ tail → unended_bytes late (layout shape full) ≡ front ++ (tail ++ rows)
  unended-front true numrecs front tail count whole =
      layout-late shape full ∙ longer None ∙ ap (λ bytes. bytes ++ rows) (ap (λ n. begun_file shape n arrays) (sym count) ∙ whole)
      ∙ append_assoc front tail rows
  unended-front false numrecs front tail count whole =
      longer (Some (length full)) ∙ ap (λ bytes. bytes ++ rows) (ap (λ n. begun_file shape n arrays) (sym count) ∙ whole) ∙ append_assoc front tail rows

module _ (shape : FileShape) (arrays rest full : List Array) (is : full ≡ arrays ++ rest) (before : Option (List ℕ)) where
  -- so the name of a group has a front of its file
  pub begun-front : (late : Bool) (numrecs : Option ℕ) (front tail : List ℕ) (now : Option (List ℕ)) → IsCountOf late (length full) numrecs
      → begun_file shape numrecs arrays ≡ front ++ tail → now ≡ Some front
      → IsBegunAs late (layout shape full) before now
  begun-front late numrecs front tail now count whole made =
      Unended front (tail ++ flat_map (row shape) rest) (unended-front shape arrays rest full is late numrecs front tail count whole) made

  miscounted : (late : Bool) (numrecs : Option ℕ) (any : List ℕ) (now : Option (List ℕ)) → rest ≡ [] → IsCountOf late (length full) numrecs
      → numrecs ≡ None → length any ≡ 4 → now ≡ Some (overwritten (begun_file shape numrecs arrays) count_place any)
      → IsBegunAs late (layout shape full) before now
  miscounted false numrecs any now last count none_ four made = let clash : Some (length full) ≡ None = sym count ∙ none_ in absurd (cc)
  miscounted true numrecs any now last count none_ four made =
      let all : arrays ≡ full = sym (is ∙ ap (λ (zs : List Array). arrays ++ zs) last ∙ append-nil arrays) in
      begun.Miscounted refl any four
      (made ∙ ap (λ n. Some (overwritten (begun_file shape n arrays) count_place any)) none_
      ∙ ap (λ (zs : List Array). Some (overwritten (begun_file shape None zs) count_place any)) all ∙ ap Some (sym (layout-overwritten shape full any four)))

module _ (shape : FileShape) (had more rest full : List Array) (is : full ≡ (had ++ more) ++ rest) (before : Option (List ℕ)) where
  -- whatever a call that failed left
  pub begun-torn : (begun : Bool) (size : ℕ) (late : Bool) (numrecs : Option ℕ) (was now : Option (List ℕ)) → (size ≤ length (had ++ more) → rest ≡ [])
      → IsCountOf late (length full) numrecs → (now ≡ was → IsBegunAs late (layout shape full) before now)
      → IsTorn begun size was shape numrecs had more now → IsBegunAs late (layout shape full) before now
  begun-torn begun size late numrecs was now last count still (Untouched same) = still same
  begun-torn begun size late numrecs was now last count still (Header fresh front tail whole made) =
      let rows = flat_map (row shape) (had ++ more) in
      begun-front shape (had ++ more) rest full is before late numrecs front (tail ++ rows) now count
      (ap (λ bytes. bytes ++ rows) whole ∙ append_assoc front tail rows) made
  begun-torn begun size late numrecs was now last count still (Rows front tail whole made) =
      let done = begun_file shape numrecs had in
      begun-front shape (had ++ more) rest full is before late numrecs (done ++ front) tail now count
      (begun_file-rows shape numrecs had more ∙ ap (λ bytes. done ++ bytes) whole ∙ sym (append_assoc done front tail)) made
  begun-torn begun size late numrecs was now last count still (Miscounted none_ all any four made) =
      miscounted shape (had ++ more) rest full is before late numrecs any now (last all) count none_ four made

-- a group that is all there has no more arrays
pub none-behind : (count i : ℕ) (xs had rest : List Array) → group_of count i xs ≡ had ++ rest → count ≤ length had → rest ≡ []
none-behind count i xs had rest is full =
    empty rest (omega (arith, length-take count (drop (i * count) xs), ap (λ (zs : List Array). length zs) is, length-append had rest, full))

-- a whole file
pub begun-whole : (late : Bool) (final : List ℕ) (before now : Option (List ℕ)) → now ≡ Some final → IsBegunAs late final before now
begun-whole late final before now made = Ended made

-- GROUPS OF A FRONT

none_taken : {X : Type 0} (n : ℕ) → take {A = X} n [] ≡ []
none_taken zero = refl
none_taken (suc n) = refl

take-front : {X : Type 0} (n : ℕ) (xs ys : List X) → (more : List X) × (take n (xs ++ ys) ≡ take n xs ++ more)
take-front n xs ys =
    elim (cases_lt (length xs) n) [
      | inl short ↦
          let e : length xs + (n - length xs) ≡ n = omega (arith, short) in (
            take (n - length xs) ys,
            ap (λ k. take k (xs ++ ys)) (sym e) ∙ take-append-add xs ys (n - length xs)
                ∙ ap (λ zs. zs ++ take (n - length xs) ys) (sym (take_all n xs (omega (arith, short)))),
          )
      | inr long ↦ ([], take-append-le n xs ys (omega (arith, long)) ∙ sym (append-nil (take n xs)))
    ]

-- a group of the first arrays is a front of the group of all
pub group-front : (count i : ℕ) (xs ys : List Array) → (more : List Array) × (group_of count i (xs ++ ys) ≡ group_of count i xs ++ more)
group-front count i xs ys =
    elim (cases_lt (length xs) (i * count)) [
      | inl before ↦
          let none_ : group_of count i xs ≡ [] = ap (take count) (drop_all (i * count) xs (omega (arith, before))) ∙ none_taken count in
          (group_of count i (xs ++ ys), ap (λ zs. zs ++ group_of count i (xs ++ ys)) (sym none_))
      | inr within ↦
          let f = take-front count (drop (i * count) xs) ys in
          (f.0, ap (take count) (drop-append-le (i * count) xs ys (omega (arith, within))) ∙ f.1)
    ]

-- a full group stays
pub group-full : (count i : ℕ) (xs ys : List Array) → 1 ≤ count → length (group_of count i xs) ≡ count → group_of count i (xs ++ ys) ≡ group_of count i xs
group-full count i xs ys some full =
    let taken = length-take count (drop (i * count) xs) in
    let dropped = length-drop (i * count) xs in
    ap (take count) (drop-append-le (i * count) xs ys (omega (arith, taken, dropped, full, some)))
    ∙ take-append-le count (drop (i * count) xs) ys (omega (arith, taken, full))

pub group-long : (count i : ℕ) (xs : List Array) → (i + 1) * count ≤ length xs → length (group_of count i xs) ≡ count
group-long count i xs long =
    let next : (i + 1) * count ≡ i * count + 1 * count = add-mul i 1 count in
    length-take-le count (drop (i * count) xs) (omega (arith, length-drop (i * count) xs, long, next))

-- WHAT A NAME HAS

-- nothing, a whole group, or the open group's header and rows
pub data GroupHas (x : NodeFile) (arrays : List Array) (i : ℕ) : Type 0 where
  Nothing : group_file x arrays i ≡ None → GroupHas x arrays i
  Whole : length (group_of x.count i arrays) ≡ x.count → group_file x arrays i ≡ Some (layout x.shape (group_of x.count i arrays)) → GroupHas x arrays i
  Opened : (f : Stream) → x.current ≡ Some f → i ≡ length arrays / x.count
      → group_file x arrays i ≡ Some (begun_file x.shape f.numrecs (group_of x.count i arrays)) → GroupHas x arrays i

pub whole-is : (shape : FileShape) (zs : List Array) → 1 ≤ length zs → whole_file shape zs ≡ Some (layout shape zs)
whole-is shape [] some = absurd (omega arith)
whole-is shape (a ∷ zs) some = refl

pub whole-long : (shape : FileShape) (zs : List Array) → IsSome (whole_file shape zs) → 1 ≤ length zs
whole-long shape [] h = absurd (false≢true h)
whole-long shape (a ∷ zs) h = omega arith

module _ (x : NodeFile) (arrays : List Array) (some : 1 ≤ x.count) where
  abbrev n : ℕ
  n = length arrays

  place : IsPlaceAfter x.count arrays (n / x.count) (n % x.count)
  place = next-place x.count arrays some

  closed-has : (i : ℕ) → i ≢ n / x.count → GroupHas x arrays i
  closed-has i apart =
      let file : group_file x arrays i ≡ whole_file x.shape (group_of x.count i arrays) =
      ap (λ o. file_of o x.shape (group_of x.count i arrays)) (open-elsewhere x n i apart) in
      elim (cases_lt i (n / x.count)) [
        | inl before ↦
            let rows : (i + 1) * x.count ≤ n / x.count * x.count = mul-le-mul_right x.count (let le : i + 1 ≤ n / x.count = omega (arith, before) in le) in
            let full : length (group_of x.count i arrays) ≡ x.count = group-long x.count i arrays (omega (arith, rows, div-add-mod' n x.count)) in
            Whole full (file ∙ whole-is x.shape (group_of x.count i arrays) (omega (arith, full, some)))
        | inr after ↦
            Nothing (file ∙ ap (whole_file x.shape) (group-later x.count arrays (n / x.count) (n % x.count) place i (omega (arith, after, apart))))
      ]

  here-has : (o : Option Stream) → x.current ≡ o → IsOpenAfter x n o → (i : ℕ) → i ≡ n / x.count → GroupHas x arrays i
  here-has None is begun i here =
      let none_ : group_of x.count i arrays ≡ [] =
      ap (λ j. group_of x.count j arrays) here
      ∙ empty (group_of x.count (n / x.count) arrays) (length-group x.count arrays (n / x.count) (n % x.count) place ∙ begun) in
      Nothing (ap (λ w. file_of w x.shape (group_of x.count i arrays)) (none-open x n i is) ∙ ap (whole_file x.shape) none_)
  here-has (Some f) is begun i here =
      Opened f is here (ap (λ w. file_of w x.shape (group_of x.count i arrays)) (open-here x n i here ∙ is))

  pub group-has : IsOpenAfter x n x.current → (i : ℕ) → GroupHas x arrays i
  group-has begun i = elim (cases_eq i (n / x.count)) [ inl here ↦ here-has x.current refl begun i here | inr apart ↦ closed-has i apart ]

  pub group-apart : (i : ℕ) → i ≢ n / x.count → GroupHas x arrays i
  group-apart i apart = closed-has i apart

-- a group that has an array has a file
pub file-some : (o : Option Stream) (shape : FileShape) (zs : List Array) → 1 ≤ length zs → file_of o shape zs ≡ None → ⊥
file-some None shape [] some h = absurd (omega (arith, some))
file-some None shape (a ∷ zs) some h = let clash : Some (layout shape (a ∷ zs)) ≡ None = h in absurd (cc)
file-some (Some f) shape zs some h = let clash : Some (begun_file shape f.numrecs zs) ≡ None = h in absurd (cc)

-- a full group is a whole file
pub full-file : (x : NodeFile) (arrays : List Array) (i : ℕ) → 1 ≤ x.count → length (group_of x.count i arrays) ≡ x.count → GroupHas x arrays i
    → group_file x arrays i ≡ Some (layout x.shape (group_of x.count i arrays))
full-file x arrays i some full (Nothing none_) =
    absurd (file-some (open_at x (length arrays) i) x.shape (group_of x.count i arrays) (omega (arith, full, some)) none_)
full-file x arrays i some full (Whole also is) = is
full-file x arrays i some full (Opened f open_ here is) =
    let long = length-group x.count arrays (length arrays / x.count) (length arrays % x.count) (next-place x.count arrays some) in
    let low = mod-lt (length arrays) (let e : 0 < x.count = omega (arith, some) in e) in
    absurd (omega (arith, long, low, full, ap (λ (w : ℕ). length (group_of x.count w arrays)) here))

-- a group that has arrays, and not all, is the open one
pub short-file : (x : NodeFile) (arrays : List Array) (i : ℕ) → 1 ≤ length (group_of x.count i arrays) → length (group_of x.count i arrays) < x.count
    → GroupHas x arrays i
    → (f : Stream) × (x.current ≡ Some f) × (i ≡ length arrays / x.count)
    × (group_file x arrays i ≡ Some (begun_file x.shape f.numrecs (group_of x.count i arrays)))
short-file x arrays i some short (Nothing none_) =
    absurd (file-some (open_at x (length arrays) i) x.shape (group_of x.count i arrays) some none_)
short-file x arrays i some short (Whole full is) = absurd (omega (arith, full, short))
short-file x arrays i some short (Opened f open_ here is) = (f, open_, here, is)
