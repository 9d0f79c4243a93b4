-- The files that a shelf has begun.
use Rattle.std.proofs.Common.{◌≡◌, ℕ, zero, suc, ◌+◌, ◌<◌, Bool, true, false, List, [], ◌∷◌, ◌++◌, length, take, drop, get_or, add-one, append_assoc}
use Rattle.std.proofs.Common.{slice_index_or, slice_set, ◌≤◌, Option, Some, None, is_some, if◌then◌else◌, inl, inr, refl, sym, ap, ◌∙◌}
use Rattle.std.proofs.Math.Seq.{drop-cons}
use Rattle.std.proofs.Math.ListN.{drop_of_length-le}
use Rattle.std.proofs.lemmas.List.{take-append-drop}
use Rattle.std.specs.Bool.{Decides}
use Rattle.std.specs.Str.{bytes_eq}
use Rattle.std.proofs.lemmas.Slice.Eq.{bytes_eq-Decides}
use Rattle.edge_traits.specs.RealFiles.{Begun, find_begun, without_begun, closed, MayClose, Takes}

true_of : (n m : List ℕ) (b : Bool) → Decides b (n ≡ m) → n ≡ m → b ≡ true
true_of n m true d e = refl
true_of n m false d e = let impossible : false ≡ true = d.1 e in cc

-- a file in front is found by its name
pub find_begun-front : {F : Type 0} (b : Begun F) (bs : List (Begun F)) (name : List ℕ) → b.name ≡ name → find_begun (b ∷ bs) name ≡ Some b
find_begun-front b bs name e = ap (λ t. if t then Some b else find_begun bs name) (true_of b.name name (bytes_eq b.name name) (bytes_eq-Decides b.name name) e)

name_by : {F : Type 0} (x : Begun F) (xs : List (Begun F)) (name : List ℕ) (b : Begun F) (t : Bool) → Decides t (x.name ≡ name)
    → (if t then Some x else find_begun xs name) ≡ Some b → (find_begun xs name ≡ Some b → b.name ≡ name) → b.name ≡ name
name_by x xs name b true d e later = let same : Some x ≡ Some b = e in let first : x ≡ b = cc in ap (λ (y : Begun _). y.name) (sym first) ∙ d.0 refl
name_by x xs name b false d e later = later e

-- what is found by a name has it
pub find_begun-name : {F : Type 0} (bs : List (Begun F)) (name : List ℕ) (b : Begun F) → find_begun bs name ≡ Some b → b.name ≡ name
find_begun-name [] name b e = let impossible : None ≡ Some b = e in cc
find_begun-name (x ∷ xs) name b e = name_by x xs name b (bytes_eq x.name name) (bytes_eq-Decides x.name name) e (find_begun-name xs name b)

-- the item at the place where a list is cut
pub at_cut : {A : Type 0} (xs : List A) (i : ℕ) (x : A) (ys : List A) (d : A) → drop i xs ≡ x ∷ ys → slice_index_or xs i d ≡ x
at_cut [] zero x ys d e = let impossible : [] ≡ x ∷ ys = e in cc
at_cut [] (suc i) x ys d e = let impossible : [] ≡ x ∷ ys = e in cc
at_cut (y ∷ xs) zero x ys d e = let same : y ∷ xs ≡ x ∷ ys = e in cc
at_cut (y ∷ xs) (suc i) x ys d e = at_cut xs i x ys d e

pub MayClose-same : {F : Type 0} (bs : List (Begun F)) → MayClose bs bs
MayClose-same [] = tt
MayClose-same (b ∷ bs) = (inl refl, MayClose-same bs)

taken_open : {F : Type 0} (place : F → Option ℕ) (bytes : F → Option (List ℕ)) (b : Begun F) (name : List ℕ) (o : Option (F × ℕ)) → b.file ≡ o
    → is_some o ≡ true → Takes place bytes (Some b) name b
taken_open place bytes b name (Some p) e h = (p.0, p.1, ap (λ o. (record { name = b.name; ends = b.ends; file = o })) e, inl e)
taken_open place bytes b name None e h = let impossible : false ≡ true = h in cc

-- a file that is open is taken as it is
pub Takes-open : {F : Type 0} (place : F → Option ℕ) (bytes : F → Option (List ℕ)) (b : Begun F) (name : List ℕ) → is_some b.file ≡ true
    → Takes place bytes (Some b) name b
Takes-open place bytes b name h = taken_open place bytes b name b.file refl h

none_of : {A : Type 0} (o : Option A) → is_some o ≡ false → o ≡ None
none_of None h = refl
none_of (Some x) h = let impossible : true ≡ false = h in cc

-- a closed one is opened at its start
pub Takes-closed : {F : Type 0} (place : F → Option ℕ) (bytes : F → Option (List ℕ)) (b c : Begun F) (name : List ℕ) (file : F) → is_some b.file ≡ false
    → c ≡ record { name = b.name; ends = b.ends; file = Some (file, 0) } → Takes place bytes (Some b) name c
Takes-closed place bytes b c name file h e = (file, 0, e, inr (none_of b.file h, refl))

-- one of them is closed
pub MayClose-one : {F : Type 0} (bs : List (Begun F)) (i : ℕ) (d c : Begun F) → c ≡ closed (slice_index_or bs i d) → MayClose bs (slice_set bs i c)
MayClose-one [] i d c e = tt
MayClose-one (b ∷ bs) zero d c e = (inr e, MayClose-same bs)
MayClose-one (b ∷ bs) (suc i) d c e = (inl refl, MayClose-one bs i d c e)

-- A search by a name, up to a place.

-- no file before this place has the name
pub record Searched {F : Type 0} (bs : List (Begun F)) (name : List ℕ) (i : ℕ) : Type 0 where
  pub finds : find_begun bs name ≡ find_begun (drop i bs) name
  pub leaves : without_begun bs name ≡ take i bs ++ without_begun (drop i bs) name

taken_next : {A : Type 0} (xs : List A) (i : ℕ) (x : A) (ys : List A) → drop i xs ≡ x ∷ ys → take (suc i) xs ≡ take i xs ++ (x ∷ [])
taken_next [] zero x ys e = let impossible : [] ≡ x ∷ ys = e in cc
taken_next [] (suc i) x ys e = let impossible : [] ≡ x ∷ ys = e in cc
taken_next (y ∷ xs) zero x ys e = let same : y ∷ xs ≡ x ∷ ys = e in cc
taken_next (y ∷ xs) (suc i) x ys e = ap (λ zs. y ∷ zs) (taken_next xs i x ys e)

-- the file there has another name
pub Searched-next : {F : Type 0} (bs : List (Begun F)) (name : List ℕ) (i : ℕ) (d : Begun F) → i < length bs → bytes_eq (get_or bs i d).name name ≡ false
    → Searched bs name i → Searched bs name (i + 1)
Searched-next bs name i d within other s =
    let x : Begun _ = get_or bs i d in
    let ys : List (Begun _) = drop (suc i) bs in
    let cut : drop i bs ≡ x ∷ ys = drop-cons bs i d within in
    let finds : find_begun bs name ≡ find_begun ys name =
    s.finds ∙ ap (λ l. find_begun l name) cut ∙ ap (λ t. if t then Some x else find_begun ys name) other in
    let leaves : without_begun bs name ≡ take (suc i) bs ++ without_begun ys name =
    s.leaves ∙ ap (λ l. take i bs ++ without_begun l name) cut ∙ ap (λ t. take i bs ++ (if t then ys else x ∷ without_begun ys name)) other
    ∙ sym (append_assoc (take i bs) (x ∷ []) (without_begun ys name)) ∙ ap (λ l. l ++ without_begun ys name) (sym (taken_next bs i x ys cut)) in
    rw add-one (record { finds = finds; leaves = leaves })

-- the file there is the one of the name
pub Searched-found : {F : Type 0} (bs : List (Begun F)) (name : List ℕ) (i : ℕ) (d : Begun F) → i < length bs → bytes_eq (get_or bs i d).name name ≡ true
    → Searched bs name i →
    (file : Begun F) × (drop i bs ≡ file ∷ drop (i + 1) bs) × (find_begun bs name ≡ Some file) × (without_begun bs name ≡ take i bs ++ drop (i + 1) bs)
Searched-found bs name i d within named s =
    let x : Begun _ = get_or bs i d in
    let ys : List (Begun _) = drop (suc i) bs in
    let cut : drop i bs ≡ x ∷ ys = drop-cons bs i d within in
    let finds : find_begun bs name ≡ Some x = s.finds ∙ ap (λ l. find_begun l name) cut ∙ ap (λ t. if t then Some x else find_begun ys name) named in
    let leaves : without_begun bs name ≡ take i bs ++ ys =
    s.leaves ∙ ap (λ l. take i bs ++ without_begun l name) cut ∙ ap (λ t. take i bs ++ (if t then ys else x ∷ without_begun ys name)) named in
    rw add-one (x, cut, finds, leaves)

-- there is none
pub Searched-all : {F : Type 0} (bs : List (Begun F)) (name : List ℕ) (i : ℕ) → length bs ≤ i → Searched bs name i
    → (find_begun bs name ≡ None) × (without_begun bs name ≡ bs)
Searched-all bs name i all s =
    let rest : drop i bs ≡ [] = drop_of_length-le bs all in (
      s.finds ∙ ap (λ l. find_begun l name) rest,
      s.leaves ∙ ap (λ l. take i bs ++ without_begun l name) rest ∙ ap (λ l. take i bs ++ l) (sym rest)
          ∙ take-append-drop i bs,
    )

pub Searched-none : {F : Type 0} (bs : List (Begun F)) (name : List ℕ) → Searched bs name 0
Searched-none bs name = record { finds = refl; leaves = refl }

pub ruleset begun = (find_begun-front, find_begun-name, Takes-open, Takes-closed, MayClose-same)
