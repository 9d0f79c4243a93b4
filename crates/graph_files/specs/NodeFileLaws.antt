-- LAWS of the files of a node: what a write under one name does to all of them.
use Rattle.std.proofs.Common.{◌≡◌, ◌≢◌, ℕ, ◌+◌, ◌/◌, ◌%◌, ◌^◌, ◌<◌, true, false, eqb, List, [], ◌∷◌, ◌++◌, length, Option, None, Some, ◌⊎◌, inl, inr, refl}
use Rattle.std.proofs.Common.{sym, ap, subst, ◌∙◌, arith}
use Rattle.std.specs.Prelude.{codes, is_some, if◌then◌else◌}
use Rattle.std.proofs.lemmas.Bool.{cases_lt, ne_eqb, eq-eqb}
use Rattle.std.proofs.lemmas.List.{append_cancel_left, append_cancel_right}
use Rattle.nd_base.specs.Array.{Array}
use Rattle.nd_base.specs.declared.attribute.FileShape.{FileShape}
use Rattle.edge_traits.specs.Files.{Files, bytes_in, overwritten, file_at, with_file, with_more, with_patch, HasFile}
use Rattle.edge_traits.specs.FileLaws.{file_at-with_file, with_file-with_file, get-insert_other}
use Rattle.cdf_write.specs.Layout.{layout}
use Rattle.file_out.specs.Streams.{Stream, HasRows, begun_file}
use Rattle.graph_files.specs.Groups.{group_of, whole_file, file_of, HasBytes}
use Rattle.graph_files.specs.GroupLaws.{group-is, place-is, place-more, place-next, length-group, group-more, group-other, group-later}
use Rattle.graph_files.specs.NameLaws.{numbers-differ}
use Rattle.graph_files.specs.NodeFiles.{NodeFile, IsChangedAt, Same, Wrote, name_of, stream_of, open_at, group_file, IsOpenAfter, IsPlaceAfter, AreWritten}
use Rattle.graph_files.specs.NodeFiles.{AreWrittenBut}
use Rattle.graph_files.specs.OutFiles.{group_number}

-- WRITES UNDER ONE NAME

pub changed-then : (t u w : Option Files) (name : List ℕ) → IsChangedAt t name u → IsChangedAt u name w → IsChangedAt t name w
changed-then t u w name (Same e) (Same f) = Same (f ∙ e)
changed-then t u w name (Same e) (Wrote b f) = Wrote b (f ∙ ap (λ x. with_file x name b) e)
changed-then t u w name (Wrote a e) (Same f) = Wrote a (f ∙ e)
changed-then t u w name (Wrote a e) (Wrote b f) = Wrote b (f ∙ ap (λ x. with_file x name b) e ∙ with_file-with_file t name a b)

pub changed-more : (t u : Option Files) (name bytes : List ℕ) → u ≡ with_more t name bytes → IsChangedAt t name u
changed-more None u name bytes e = Same e
changed-more (Some m) u name bytes e = Wrote (bytes_in m name ++ bytes) e

pub changed-patch : (t u : Option Files) (name : List ℕ) (off : ℕ) (bytes : List ℕ) → u ≡ with_patch t name off bytes → IsChangedAt t name u
changed-patch None u name off bytes e = Same e
changed-patch (Some m) u name off bytes e = Wrote (overwritten (bytes_in m name) off bytes) e

-- every other name has what it had
pub changed-file_at : (t u : Option Files) (name q : List ℕ) → IsChangedAt t name u → q ≢ name → file_at u q ≡ file_at t q
changed-file_at t u name q (Same e) h = ap (λ w. file_at w q) e
changed-file_at t u name q (Wrote bytes e) h = ap (λ w. file_at w q) e ∙ file_at-with_file t name bytes q h

kept-file : (t : Option Files) (name bytes q b : List ℕ) → q ≢ name → HasFile t q b → HasFile (with_file t name bytes) q b
kept-file None name bytes q b h has = tt
kept-file (Some m) name bytes q b h has = get-insert_other m name bytes q h ∙ has

pub changed-HasBytes : (t u : Option Files) (name q : List ℕ) (o : Option (List ℕ)) → IsChangedAt t name u → q ≢ name → HasBytes t q o → HasBytes u q o
changed-HasBytes t u name q None changed h has = tt
changed-HasBytes t u name q (Some b) (Same e) h has = subst (λ (w : Option Files). HasFile w q b) (sym e) has
changed-HasBytes t u name q (Some b) (Wrote bytes e) h has = subst (λ (w : Option Files). HasFile w q b) (sym e) (kept-file t name bytes q b h has)

-- and the shelf tells its files as before
pub with_file-told : (t : Option Files) (name bytes : List ℕ) → is_some (with_file t name bytes) ≡ is_some t
with_file-told None name bytes = refl
with_file-told (Some m) name bytes = refl

pub changed-told : (t u : Option Files) (name : List ℕ) → IsChangedAt t name u → is_some u ≡ is_some t
changed-told t u name (Same e) = ap (λ (w : Option Files). is_some w) e
changed-told t u name (Wrote bytes e) = ap (λ (w : Option Files). is_some w) e ∙ with_file-told t name bytes

-- NAMES OF GROUPS

pub groups-differ : (x : NodeFile) (i j : ℕ) → i < 2 ^ 64 → j < 2 ^ 64 → name_of x i ≡ name_of x j → i ≡ j
groups-differ x i j hi hj same =
    numbers-differ i j hi hj
    (append_cancel_left x.stem (group_number i) (group_number j) (append_cancel_right (x.stem ++ group_number i) (x.stem ++ group_number j) (codes ".nc") same))

-- OPEN FILES

pub open-here : (x : NodeFile) (n i : ℕ) → i ≡ n / x.count → open_at x n i ≡ x.current
open-here x n i h = ap (λ b. if b then x.current else None) (eq-eqb i (n / x.count) h)

pub open-elsewhere : (x : NodeFile) (n i : ℕ) → i ≢ n / x.count → open_at x n i ≡ None
open-elsewhere x n i h = ap (λ b. if b then x.current else None) (ne_eqb i (n / x.count) h)

pub none-open : (x : NodeFile) (n i : ℕ) → x.current ≡ None → open_at x n i ≡ None
none-open x n i none = elim (eqb i (n / x.count)) as (λ b. (if b then x.current else None) ≡ None) [ true ↦ none | false ↦ refl ]

whole-none : (shape : FileShape) (arrays : List Array) → arrays ≡ [] → whole_file shape arrays ≡ None
whole-none shape arrays e = ap (whole_file shape) e

pub whole-some : (shape : FileShape) (arrays : List Array) (a : Array) → whole_file shape (arrays ++ a ∷ []) ≡ Some (layout shape (arrays ++ a ∷ []))
whole-some shape [] a = refl
whole-some shape (b ∷ arrays) a = refl

pub cases_eq : (i j : ℕ) → (i ≡ j) ⊎ (i ≢ j)
cases_eq i j = elim (cases_lt i j) [
  | inl below ↦ inr (λ e. absurd (omega (arith, below, e)))
  | inr above ↦ elim (cases_lt j i) [ inl over ↦ inr (λ e. absurd (omega (arith, over, e))) | inr same ↦ inl (omega (arith, above, same)) ]
]

pub empty : {X : Type 0} (xs : List X) → length xs ≡ 0 → xs ≡ []
empty [] h = refl
empty (x ∷ xs) h = absurd (omega arith)

-- ONE ARRAY MORE

module _ (x : NodeFile) (arrays : List Array) (g p : ℕ) (t : Option Files) (place : IsPlaceAfter x.count arrays g p) (h : AreWritten x arrays t) where
  opened : (f : Stream) (o : Option Stream) → o ≡ Some f → IsOpenAfter x (length arrays) o → f ≡ stream_of x g p f.numrecs
  opened f None is after = let none_ : None ≡ Some f = is in absurd (cc)
  opened f (Some e) is after =
      let same : e ≡ f = let both : Some e ≡ Some f = is in cc in
      subst (λ (d : Stream). d ≡ stream_of x g p d.numrecs) same
      (after ∙ ap (λ i. stream_of x i (length arrays % x.count) e.numrecs) (group-is x.count arrays g p place)
      ∙ ap (λ k. stream_of x g k e.numrecs) (place-is x.count arrays g p place))

  -- the open file is that of the group that the next array goes to, with as many rows
  pub open-is : (f : Stream) → x.current ≡ Some f → f ≡ stream_of x g p f.numrecs
  open-is f is = opened f x.current is h.begun

  group_file-is : (f : Stream) → x.current ≡ Some f → group_file x arrays g ≡ Some (begun_file x.shape f.numrecs (group_of x.count g arrays))
  group_file-is f is =
      ap (λ o. file_of o x.shape (group_of x.count g arrays)) (open-here x (length arrays) g (sym (group-is x.count arrays g p place)) ∙ is)

  -- and has them
  pub open-has : (f : Stream) → x.current ≡ Some f → HasRows t (stream_of x g p f.numrecs) (group_of x.count g arrays)
  open-has f is = record {
    all = length-group x.count arrays g p place;
    bytes = subst (HasBytes t (name_of x g)) (group_file-is f is) (h.each g);
  }

  none-opened : (o : Option Stream) → o ≡ None → IsOpenAfter x (length arrays) o → p ≡ 0
  none-opened None is after = sym (place-is x.count arrays g p place) ∙ after
  none-opened (Some f) is after = let some_ : Some f ≡ None = is in absurd (cc)

  -- a file is begun with the first array of its group
  pub none-is : x.current ≡ None → p ≡ 0
  none-is is = none-opened x.current is h.begun

module _ (x : NodeFile) (arrays : List Array) (g p : ℕ) (t u : Option Files) (place : IsPlaceAfter x.count arrays g p) (small : g < 2 ^ 64)
    (h : AreWritten x arrays t) (changed : IsChangedAt t (name_of x g) u) where
  -- no other group's file changes
  other : (i : ℕ) → i ≢ g → (o : Option Stream) (ys : List Array) → open_at (record x { current = o }) (length ys) i ≡ None
      → group_of x.count i ys ≡ group_of x.count i arrays → HasBytes u (name_of x i) (group_file (record x { current = o }) ys i)
  other i apart o ys closed same =
      let e : group_file (record x { current = o }) ys i ≡ whole_file x.shape (group_of x.count i arrays) =
      ap (λ w. file_of w x.shape (group_of x.count i ys)) closed ∙ ap (whole_file x.shape) same in
      subst (HasBytes u (name_of x i)) (sym e) (elim (cases_lt i g) [
        | inl before ↦
            let was : group_file x arrays i ≡ whole_file x.shape (group_of x.count i arrays) =
            ap (λ w. file_of w x.shape (group_of x.count i arrays))
            (open-elsewhere x (length arrays) i (λ at. apart (at ∙ group-is x.count arrays g p place))) in
            changed-HasBytes t u (name_of x g) (name_of x i) (whole_file x.shape (group_of x.count i arrays)) changed
            (λ names. apart (groups-differ x i g (omega (arith, before, small)) small names)) (subst (HasBytes t (name_of x i)) was (h.each i))
        | inr later ↦
            subst (HasBytes u (name_of x i))
            (sym (whole-none x.shape (group_of x.count i arrays) (group-later x.count arrays g p place i (omega (arith, later, apart))))) tt
      ])

  -- a file that was begun
  pub written-begun : (numrecs : Option ℕ) → p ≡ 0 → HasFile u (name_of x g) (begun_file x.shape numrecs [])
      → AreWritten (record x { current = Some (stream_of x g 0 numrecs) }) arrays u
  written-begun numrecs first has =
      let at : length arrays / x.count ≡ g = group-is x.count arrays g p place in
      let rows : length arrays % x.count ≡ 0 = place-is x.count arrays g p place ∙ first in
      let f = stream_of x g 0 numrecs in
      let none_ : group_of x.count g arrays ≡ [] = empty (group_of x.count g arrays) (length-group x.count arrays g p place ∙ first) in
      record {
        begun = ap (λ i. stream_of x i 0 numrecs) (sym at) ∙ ap (λ k. stream_of x (length arrays / x.count) k numrecs) (sym rows);
        each = λ i. elim (cases_eq i g) [
          | inl here ↦
              subst (λ j. HasBytes u (name_of x j) (group_file (record x { current = Some f }) arrays j)) (sym here)
              (subst (HasBytes u (name_of x g)) (sym (ap (λ o. file_of o x.shape (group_of x.count g arrays)) (open-here (record x { current = Some f })
              (length arrays) g (sym at)) ∙ ap (λ (ys : List Array). Some (begun_file x.shape numrecs ys)) none_)) has)
          | inr apart ↦ other i apart (Some f) arrays (open-elsewhere (record x { current = Some f }) (length arrays) i (λ e. apart (e ∙ at))) refl
        ];
      }

  -- an array more, which isn't the group's last
  pub written-more : (a : Array) (numrecs : Option ℕ) → p + 1 < x.count
      → HasFile u (name_of x g) (begun_file x.shape numrecs (group_of x.count g arrays ++ a ∷ []))
      → AreWritten (record x { current = Some (stream_of x g (p + 1) numrecs) }) (arrays ++ a ∷ []) u
  written-more a numrecs more has =
      let ys : List Array = arrays ++ a ∷ [] in
      let next = place-more x.count arrays a g p place more in
      let at : length ys / x.count ≡ g = group-is x.count ys g (p + 1) next in
      let rows : length ys % x.count ≡ p + 1 = place-is x.count ys g (p + 1) next in
      let f = stream_of x g (p + 1) numrecs in
      record {
        begun = ap (λ i. stream_of x i (p + 1) numrecs) (sym at) ∙ ap (λ k. stream_of x (length ys / x.count) k numrecs) (sym rows);
        each = λ i. elim (cases_eq i g) [
          | inl here ↦
              subst (λ j. HasBytes u (name_of x j) (group_file (record x { current = Some f }) ys j)) (sym here)
              (subst (HasBytes u (name_of x g)) (sym (ap (λ o. file_of o x.shape (group_of x.count g ys)) (open-here (record x { current = Some f })
              (length ys) g (sym at)) ∙ ap (λ (zs : List Array). Some (begun_file x.shape numrecs zs)) (group-more x.count arrays a g p place))) has)
          | inr apart ↦
              other i apart (Some f) ys
              (open-elsewhere (record x { current = Some f }) (length ys) i (λ e. apart (e ∙ at))) (group-other x.count arrays a g p place i apart)
        ];
      }

  -- the last array of a group
  pub written-whole : (a : Array) → p + 1 ≡ x.count → HasFile u (name_of x g) (layout x.shape (group_of x.count g arrays ++ a ∷ []))
      → AreWritten (record x { current = None }) (arrays ++ a ∷ []) u
  written-whole a last has =
      let ys : List Array = arrays ++ a ∷ [] in
      record {
        begun = place-is x.count ys (g + 1) 0 (place-next x.count arrays a g p place last);
        each = λ i. elim (cases_eq i g) [
          | inl here ↦
              subst (λ j. HasBytes u (name_of x j) (group_file (record x { current = None }) ys j)) (sym here)
              (subst (HasBytes u (name_of x g))
              (sym (ap (λ o. file_of o x.shape (group_of x.count g ys)) (none-open (record x { current = None }) (length ys) g refl)
              ∙ ap (whole_file x.shape) (group-more x.count arrays a g p place) ∙ whole-some x.shape (group_of x.count g arrays) a)) has)
          | inr apart ↦ other i apart None ys (none-open (record x { current = None }) (length ys) i refl) (group-other x.count arrays a g p place i apart)
        ];
      }

  -- after a fault
  pub written-but : AreWrittenBut (record x { current = None }) arrays g u
  written-but i apart = other i apart None arrays (none-open (record x { current = None }) (length arrays) i refl) refl

  -- or with the file still open
  pub open-but : AreWrittenBut x arrays g u
  open-but i apart = other i apart x.current arrays (open-elsewhere x (length arrays) i (λ e. apart (e ∙ group-is x.count arrays g p place))) refl
