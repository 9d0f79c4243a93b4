-- What an end at one node does to the files of all, and what ends at all nodes come to.
use Rattle.std.proofs.Common.{◌≡◌, ◌≢◌, ◌⊎◌, ℕ, zero, suc, ◌+◌, ◌/◌, ◌^◌, ◌<◌, ◌≤◌, true, List, [], ◌∷◌, length, map, set, Option, None, Some, Result, Ok, Err, inl}
use Rattle.std.proofs.Common.{inr, refl, sym, ap, subst, ◌∙◌, arith}
use Rattle.std.specs.Prelude.{slice_get, IsSome, OnErr}
use Rattle.std.proofs.lemmas.Bool.{cases_lt}
use Rattle.nd_base.specs.Array.{Array}
use Rattle.nd_base.specs.declared.attribute.FileShape.{FileShape}
use Rattle.edge_traits.specs.Files.{Files, file_at}
use Rattle.file_out.specs.Streams.{Stream}
use Rattle.graph_files.specs.Groups.{group_of, whole_file, file_of, HasBytes}
use Rattle.graph_files.specs.NodeFiles.{NodeFile, IsChangedAt, Same, AreWritten, AreEnded, EndTorn, EndStops, IsTorn, IsFilled, name_of, group_file}
use Rattle.graph_files.specs.NodeFileLaws.{cases_eq, none-open, open-elsewhere, changed-HasBytes, changed-file_at, changed-told}
use Rattle.graph_files.specs.OpenFiles.{closed, AreApart, IsElsewhere, AllWritten, AllWrittenBut}
use Rattle.graph_files.specs.OpenFileLaws.{get-set_same, get-set_other, far-none}
use Rattle.graph_files.specs.EndedFiles.{AllEnded, AllStand, OneEndStops, AllEndStops, AreOthersAsBefore, ended_to, open_group}
use Rattle.graph_files.proofs.Writes.{small-group, end-rows}

some-same : {X : Type 0} {x y : X} → Some x ≡ Some y → x ≡ y
some-same h = cc

some-by : {X : Type 0} {a b : Option X} → a ≡ b → IsSome a → IsSome b
some-by {X} e h = subst (λ (o : Option X). IsSome o) e h

pub whole-some : (shape : FileShape) (zs : List Array) → 1 ≤ length zs → IsSome (whole_file shape zs)
whole-some shape [] some = absurd (omega arith)
whole-some shape (a ∷ zs) some = refl

pub on-err : {T E : Type 0} {P Q : Type 0} (r : Result T E) → OnErr r P → (P → Q) → OnErr r Q
on-err (Ok x) h f = tt
on-err (Err e) h f = f h

-- LISTS

pub ended_to-first : (xs : List NodeFile) → ended_to 0 xs ≡ xs
ended_to-first [] = refl
ended_to-first (x ∷ xs) = refl

ended_to-here : (n : ℕ) (xs : List NodeFile) (x : NodeFile) → slice_get xs n ≡ Some x → slice_get (ended_to n xs) n ≡ Some x
ended_to-here n [] x h = let none_ : None ≡ Some x = h in absurd (cc)
ended_to-here zero (y ∷ xs) x h = h
ended_to-here (suc n) (y ∷ xs) x h = ended_to-here n xs x h

ended_to-step : (n : ℕ) (xs : List NodeFile) (x : NodeFile) → slice_get xs n ≡ Some x → set (ended_to n xs) n (closed x) ≡ ended_to (suc n) xs
ended_to-step n [] x h = let none_ : None ≡ Some x = h in absurd (cc)
ended_to-step zero (y ∷ xs) x h = ap (λ (z : NodeFile). closed z ∷ xs) (sym (some-same h))
ended_to-step (suc n) (y ∷ xs) x h = ap (λ (zs : List NodeFile). closed y ∷ zs) (ended_to-step n xs x h)

-- a node's files among those that have ended so far
pub ended-at : (n : ℕ) (xs : List NodeFile) (j : ℕ) (x : NodeFile) → slice_get xs j ≡ Some x
    → ((j < n) × (slice_get (ended_to n xs) j ≡ Some (closed x))) ⊎ ((n ≤ j) × (slice_get (ended_to n xs) j ≡ Some x))
ended-at n [] j x at = let none_ : None ≡ Some x = at in absurd (cc)
ended-at zero (y ∷ xs) j x at = inr (omega arith, at)
ended-at (suc n) (y ∷ xs) zero x at = inl (omega arith, ap (λ (z : NodeFile). Some (closed z)) (some-same {X = NodeFile} {x = y} {y = x} at))
ended-at (suc n) (y ∷ xs) (suc j) x at =
    elim (ended-at n xs j x at) [ inl ended ↦ inl (omega (arith, ended.0), ended.1) | inr open_ ↦ inr (omega (arith, open_.0), open_.1) ]

ended_to-all : (xs : List NodeFile) → ended_to (length xs) xs ≡ map closed xs
ended_to-all [] = refl
ended_to-all (x ∷ xs) = ap (λ (zs : List NodeFile). closed x ∷ zs) (ended_to-all xs)

closed-at : (xs : List NodeFile) (k : ℕ) (x : NodeFile) → slice_get xs k ≡ Some x → slice_get (map closed xs) k ≡ Some (closed x)
closed-at [] k x h = let none_ : None ≡ Some x = h in absurd (cc)
closed-at (y ∷ xs) zero x h = ap (λ (z : NodeFile). Some (closed z)) (some-same h)
closed-at (y ∷ xs) (suc k) x h = closed-at xs k x h

of-closed : (xs : List NodeFile) (k : ℕ) (y : NodeFile) → slice_get (map closed xs) k ≡ Some y → (x : NodeFile) × (slice_get xs k ≡ Some x) × (closed x ≡ y)
of-closed [] k y h = let none_ : None ≡ Some y = h in absurd (cc)
of-closed (x ∷ xs) zero y h = (x, refl, some-same h)
of-closed (x ∷ xs) (suc k) y h = of-closed xs k y h

-- ONE NODE

pub closed-file : (x : NodeFile) (arrays : List Array) (i : ℕ) → group_file (closed x) arrays i ≡ whole_file x.shape (group_of x.count i arrays)
closed-file x arrays i = ap (λ o. file_of o x.shape (group_of x.count i arrays)) (none-open (closed x) (length arrays) i refl)

other-file : (x : NodeFile) (arrays : List Array) (i : ℕ) → i ≢ length arrays / x.count → group_file x arrays i ≡ whole_file x.shape (group_of x.count i arrays)
other-file x arrays i apart = ap (λ o. file_of o x.shape (group_of x.count i arrays)) (open-elsewhere x (length arrays) i apart)

none-file : (x : NodeFile) (arrays : List Array) (i : ℕ) → x.current ≡ None → group_file x arrays i ≡ whole_file x.shape (group_of x.count i arrays)
none-file x arrays i none_ = ap (λ o. file_of o x.shape (group_of x.count i arrays)) (none-open x (length arrays) i none_)

-- an open file that has a row is one of a group that has an array
filled-some : (x : NodeFile) (t : Option Files) (some : 1 ≤ x.count) (arrays : List Array) → AreWritten x arrays t → (f : Stream)
    → x.current ≡ Some f → IsFilled x.current
    → IsSome (whole_file x.shape (group_of x.count (length arrays / x.count) arrays))
filled-some x t some arrays h f is filled =
    let rows = end-rows x t t some arrays h f is (Same refl) in
    let full = subst IsFilled is filled in
    whole-some x.shape (group_of x.count (length arrays / x.count) arrays) (omega (arith, rows.all, full.0))

stands-closed : (x : NodeFile) (t : Option Files) (some : 1 ≤ x.count) (arrays : List Array) → AreWritten x arrays t → IsFilled x.current
    → (i : ℕ) → IsSome (group_file x arrays i)
    → IsSome (group_file (closed x) arrays i)
stands-closed x t some arrays h filled i named =
    some-by (sym (closed-file x arrays i)) (elim (cases_eq i (length arrays / x.count)) [
      | inr apart ↦ some-by (other-file x arrays i apart) named
      | inl here ↦ by_open x.current refl here
    ])
  where
    by_open : (o : Option Stream) → x.current ≡ o → i ≡ length arrays / x.count → IsSome (whole_file x.shape (group_of x.count i arrays))
    by_open None is here = some-by (none-file x arrays i is) named
    by_open (Some f) is here = subst (λ (j : ℕ). IsSome (whole_file x.shape (group_of x.count j arrays))) (sym here) (filled-some x t some arrays h f is filled)

module _ (before : Option Files) (xs : List NodeFile) (written : ℕ → List Array) (k : ℕ) (x : NodeFile) (at : slice_get xs k ≡ Some x)
    (apart : AreApart xs) (some : 1 ≤ x.count)
    (t u : Option Files) (h : AllStand before xs written t) (here : AreWritten x (written x.node) t)
    (changed : IsChangedAt t (name_of x (open_group x written)) u) where
  abbrev ys : List NodeFile
  ys = set xs k (closed x)

  abbrev g : ℕ
  g = open_group x written

  small : g < 2 ^ 64
  small = small-group x.count (written x.node) (h.few k x at)

  other-bytes : (j : ℕ) (y : NodeFile) → slice_get xs j ≡ Some y → j ≢ k → (i : ℕ) → HasBytes u (name_of y i) (group_file y (written y.node) i)
  other-bytes j y is ne i =
      elim (cases_lt i (2 ^ 64)) [
        | inl low ↦
            changed-HasBytes t u (name_of x g) (name_of y i) (group_file y (written y.node) i) changed
            ((apart j k y x is at ne).1 i g low small) (h.each j y i is)
        | inr high ↦ subst (HasBytes u (name_of y i)) (sym (far-none y (written y.node) i (omega (arith, high, h.few j y is)))) tt
      ]

  pub others-kept : AreOthersAsBefore xs k written t u
  others-kept j y ne is =
      changed-file_at t u (name_of x g) (name_of y (open_group y written)) changed
      ((apart j k y x is at ne).1 (open_group y written) g (small-group y.count (written y.node) (h.few j y is)) small)

  this : (y : NodeFile) → slice_get ys k ≡ Some y → closed x ≡ y
  this y is = some-same (sym (get-set_same xs k x (closed x) at) ∙ is)

  old : (j : ℕ) (y : NodeFile) → j ≢ k → slice_get ys j ≡ Some y → slice_get xs j ≡ Some y
  old j y ne is = sym (get-set_other xs k j (closed x) ne) ∙ is

  module _ (filled : IsFilled x.current) where
    elsewhere : (q : List ℕ) → IsElsewhere ys written q → IsElsewhere xs written q
    elsewhere q away j y i is named =
        elim (cases_eq j k) [
          | inl there ↦
              let same : y ≡ x = some-same (sym is ∙ ap (slice_get xs) there ∙ at) in
              let has : IsSome (group_file x (written x.node) i) = subst (λ (z : NodeFile). IsSome (group_file z (written z.node) i)) same named in
              (λ e. away k (closed x) i (get-set_same xs k x (closed x) at) (stands-closed x t some (written x.node) here filled i has)
              (e ∙ ap (λ (z : NodeFile). name_of z i) same))
          | inr ne ↦ away j y i (get-set_other xs k j (closed x) ne ∙ is) named
        ]

    others-by : (o : Option Stream) → x.current ≡ o → (x.current ≡ None → u ≡ t) → (q : List ℕ) → IsElsewhere ys written q → file_at u q ≡ file_at before q
    others-by None is still q away = ap (λ (w : Option Files). file_at w q) (still is) ∙ h.others q (elsewhere q away)
    others-by (Some f) is still q away =
        changed-file_at t u (name_of x g) q changed
        (away k (closed x) g (get-set_same xs k x (closed x) at)
        (some-by (sym (closed-file x (written x.node) g)) (filled-some x t some (written x.node) here f is filled)))
        ∙ h.others q (elsewhere q away)

    -- it ended
    pub one-ended : (x.current ≡ None → u ≡ t) → AreEnded x (written x.node) u → AllStand before ys written u
    one-ended still ended = record {
      told = changed-told t u (name_of x g) changed ∙ h.told;
      each = λ j y i is. elim (cases_eq j k) [
        | inl there ↦
            let same : closed x ≡ y = this y (ap (slice_get ys) (sym there) ∙ is) in
            subst (λ (z : NodeFile). HasBytes u (name_of z i) (group_file z (written z.node) i)) same
            (subst (HasBytes u (name_of x i)) (sym (closed-file x (written x.node) i)) (ended i))
        | inr ne ↦ other-bytes j y (old j y ne is) ne i
      ];
      few = λ j y is. elim (cases_eq j k) [
        | inl there ↦
            let same : closed x ≡ y = this y (ap (slice_get ys) (sym there) ∙ is) in
            subst (λ (z : NodeFile). length (written z.node) < 2 ^ 64) same (h.few k x at)
        | inr ne ↦ h.few j y (old j y ne is)
      ];
      others = others-by x.current refl still;
    }

    -- or the shelf failed
    pub one-stops : EndStops x (written x.node) t u → OneEndStops before x ys written t u
    one-stops stops = (
      record {
        told = changed-told t u (name_of x g) changed ∙ h.told;
        each = λ j y i is off. elim (cases_eq j k) [
          | inl there ↦
              let same : closed x ≡ y = this y (ap (slice_get ys) (sym there) ∙ is) in
              let away : i ≢ g = elim off [ inl other ↦ absurd (other (ap (λ (z : NodeFile). z.node) (sym same))) | inr ne ↦ ne ] in
              let e : group_file x (written x.node) i ≡ group_file (closed x) (written x.node) i =
              other-file x (written x.node) i away ∙ sym (closed-file x (written x.node) i) in
              subst (λ (z : NodeFile). HasBytes u (name_of z i) (group_file z (written z.node) i)) same (subst (HasBytes u (name_of x i)) e (stops.0 i away))
          | inr ne ↦ other-bytes j y (old j y ne is) ne i
        ];
        others = λ q off away. changed-file_at t u (name_of x g) q changed off ∙ h.others q (elsewhere q away);
      },
      stops.1,
    )

-- ALL NODES

-- at the beginning
pub all-stand : (before : Option Files) (xs : List NodeFile) (written : ℕ → List Array) (t : Option Files) → AllWritten before xs written t
    → AllStand before (ended_to 0 xs) written t
all-stand before xs written t h =
    subst (λ (zs : List NodeFile). AllStand before zs written t) (sym (ended_to-first xs))
    (record { told = h.told; each = λ k x i is. (h.each k x is).each i; few = h.few; others = h.others })

-- at the end
pub all-ended : (before : Option Files) (xs : List NodeFile) (written : ℕ → List Array) (n : ℕ) (u : Option Files) → n ≡ length xs
    → AllStand before (ended_to n xs) written u → AllEnded before xs written u
all-ended before xs written n u whole stand =
    let h : AllStand before (map closed xs) written u =
    subst (λ (zs : List NodeFile). AllStand before zs written u) (ap (λ (m : ℕ). ended_to m xs) whole ∙ ended_to-all xs) stand in
    record {
      told = h.told;
      each = λ k x is i. subst (HasBytes u (name_of x i)) (closed-file x (written x.node) i) (h.each k (closed x) i (closed-at xs k x is));
      others = λ q away. h.others q (λ k y i is named.
          let o = of-closed xs k y is in
          let x = o.0 in
          let has : IsSome (group_file (closed x) (written x.node) i) = subst (λ (z : NodeFile). IsSome (group_file z (written z.node) i)) (sym o.2) named in
          (λ e. away k x i o.1 (some-by (closed-file x (written x.node) i) has) (e ∙ ap (λ (z : NodeFile). name_of z i) (sym o.2))));
    }

-- a torn name, whatever was called before
torn-from : (o : Option Stream) (x : NodeFile) (i : ℕ) (arrays : List Array) (first t u : Option Files)
    → file_at t (name_of x i) ≡ file_at first (name_of x i) → EndTorn o x i arrays t u
    → EndTorn o x i arrays first u
torn-from None x i arrays first t u same torn = torn
torn-from (Some f) x i arrays first t u same torn =
    subst (λ (b : Option (List ℕ)). IsTorn true (length arrays) b x.shape f.numrecs arrays [] (file_at u (name_of x i))) same torn

pub stops-then : (before : Option Files) (xs zs : List NodeFile) (written : ℕ → List Array) (n : ℕ) (x : NodeFile) (first t u : Option Files)
    → slice_get xs n ≡ Some x
    → file_at t (name_of x (open_group x written)) ≡ file_at first (name_of x (open_group x written))
    → zs ≡ set (ended_to n xs) n (closed x) → OneEndStops before x zs written t u → AllEndStops before xs written first u
stops-then before xs zs written n x first t u listed name made stops =
    let done : zs ≡ ended_to (n + 1) xs = made ∙ ended_to-step n xs x listed ∙ ap (λ (m : ℕ). ended_to m xs) (let e : suc n ≡ n + 1 = omega arith in e) in
    record {
      at = n;
      node = x;
      listed = listed;
      stops = (
        subst (λ (ws : List NodeFile). AllWrittenBut before ws written x (open_group x written) u) done stops.0,
        torn-from x.current x (open_group x written) (group_of x.count (open_group x written) (written x.node)) first t u name stops.1,
      );
    }

pub ended_to-more : (n : ℕ) (xs zs : List NodeFile) (x : NodeFile) → slice_get xs n ≡ Some x → zs ≡ set (ended_to n xs) n (closed x) → zs ≡ ended_to (n + 1) xs
ended_to-more n xs zs x h made = made ∙ ended_to-step n xs x h ∙ ap (λ (m : ℕ). ended_to m xs) (let e : suc n ≡ n + 1 = omega arith in e)

pub ended_to-get : (n : ℕ) (xs : List NodeFile) (x : NodeFile) → slice_get xs n ≡ Some x → slice_get (ended_to n xs) n ≡ Some x
ended_to-get n xs x h = ended_to-here n xs x h

pub ended_to-later : (n k : ℕ) (xs : List NodeFile) → n ≤ k → slice_get (ended_to n xs) k ≡ slice_get xs k
ended_to-later zero k xs h = ap (λ (zs : List NodeFile). slice_get zs k) (ended_to-first xs)
ended_to-later (suc n) k [] h = refl
ended_to-later (suc n) zero (y ∷ xs) h = absurd (omega arith)
ended_to-later (suc n) (suc k) (y ∷ xs) h = ended_to-later n k xs (omega arith)

pub length-ended_to : (n : ℕ) (xs : List NodeFile) → length (ended_to n xs) ≡ length xs
length-ended_to zero xs = ap (λ (zs : List NodeFile). length zs) (ended_to-first xs)
length-ended_to (suc n) [] = refl
length-ended_to (suc n) (y ∷ xs) = ap suc (length-ended_to n xs)

pub item : {X : Type 0} (xs : List X) (k : ℕ) → k < length xs → (x : X) × (slice_get xs k ≡ Some x)
item [] k h = absurd (omega (arith, h))
item (x ∷ xs) zero h = (x, refl)
item (x ∷ xs) (suc k) h = item xs k (omega (arith, h))

-- the next node's files are as they were
pub next-at : (n : ℕ) (xs files : List NodeFile) (x : NodeFile) → files ≡ ended_to n xs → slice_get files n ≡ Some x → slice_get xs n ≡ Some x
next-at n xs files x is h = sym (ended_to-later n n xs (let same : n ≤ n = omega arith in same)) ∙ ap (λ (zs : List NodeFile). slice_get zs n) (sym is) ∙ h

pub at-next : (n : ℕ) (xs files : List NodeFile) (x : NodeFile) → files ≡ ended_to n xs → slice_get xs n ≡ Some x → slice_get files n ≡ Some x
at-next n xs files x is h = ap (λ (zs : List NodeFile). slice_get zs n) is ∙ ended_to-later n n xs (let same : n ≤ n = omega arith in same) ∙ h

pub next-written : (before : Option Files) (xs : List NodeFile) (written : ℕ → List Array) (n : ℕ) (x : NodeFile) (first t : Option Files)
    → slice_get xs n ≡ Some x → AllWritten before xs written first
    → AllStand before (ended_to n xs) written t → AreWritten x (written x.node) t
next-written before xs written n x first t is all stand = record { begun = (all.each n x is).begun; each = λ i. stand.each n x i (ended_to-get n xs x is) }

-- the names of open files after one more
pub names-more : (xs files : List NodeFile) (n k : ℕ) (written : ℕ → List Array) (t u : Option Files) (y : NodeFile) → files ≡ ended_to n xs → n + 1 ≤ k
    → slice_get xs k ≡ Some y → AreOthersAsBefore files n written t u
    → file_at u (name_of y (open_group y written)) ≡ file_at t (name_of y (open_group y written))
names-more xs files n k written t u y is after at others =
    others k y (λ e. absurd (omega (arith, after, e))) (ap (λ (zs : List NodeFile). slice_get zs k) is ∙ ended_to-later n k xs (omega (arith, after)) ∙ at)
