-- What names have after writes.
use Rattle.std.specs.Prelude.{◌≡◌, ◌≢◌, ◌⊎◌, ℕ, ◌+◌, ◌≤◌, Bool, true, false, List, [], ◌++◌, length, take, drop, Option, Some, None, unwrap_or, cond, refl}
use Rattle.std.proofs.Common.{sym, ap, subst, ◌∙◌, inl, inr, arith, append_assoc, length-append, length-drop, length-take}
use Rattle.std.proofs.lemmas.List.{append-nil, take-append-drop, drop-drop, length-take-le}
use Rattle.std.proofs.Math.Seq.{take-append_seam, drop-append_seam, drop-append-add}
use Rattle.std.specs.Bool.{Decides}
use Rattle.std.specs.Str.{bytes_eq}
use Rattle.std.specs.Cmp.Lexicographic.{nat_list_cmp_total}
use Rattle.std.specs.FinMap as map
use Rattle.std.proofs.lemmas.Map.Text.{is_eq-slice_cmp}
use Rattle.std.proofs.lemmas.Map.Lookups.{exact_bytes}
use Rattle.std.proofs.lemmas.Slice.Eq.{bytes_eq-Decides}
use Rattle.edge_traits.specs.Files.{Files, bytes_in, overwritten, file_at, with_file, with_more, with_patch, Stands, HasRange, IsTold, HasFile, MayCreate}
use Rattle.edge_traits.specs.Files.{MayAppend, MayPatch}

-- The map alone.

chosen : {A : Type 0} (q n : List ℕ) (b : Bool) (x y : A) → Decides b (q ≡ n) → ((q ≡ n) × (cond b x y ≡ x)) ⊎ ((q ≢ n) × (cond b x y ≡ y))
chosen q n true x y d = inl (d.0 refl, refl)
chosen q n false x y d = inr ((λ e. let impossible : false ≡ true = d.1 e in cc), refl)

-- a look-up after an insert, by cases
pub get-insert_cases : (m : Files) (n v q : List ℕ)
    → ((q ≡ n) × (map.get (map.insert m n v) q ≡ Some v)) ⊎ ((q ≢ n) × (map.get (map.insert m n v) q ≡ map.get m q))
get-insert_cases m n v q =
    let e : map.get (map.insert m n v) q ≡ cond (bytes_eq q n) (Some v) (map.get m q) =
    map.get-insert nat_list_cmp_total m n v q ∙ ap (λ b. cond b (Some v) (map.get m q)) (is_eq-slice_cmp q n) in
    elim (chosen q n (bytes_eq q n) (Some v) (map.get m q) (bytes_eq-Decides q n)) [
      | inl p ↦ inl (p.0, e ∙ p.1)
      | inr p ↦ inr (p.0, e ∙ p.1)
    ]

pub get-insert_same : (m : Files) (n v : List ℕ) → map.get (map.insert m n v) n ≡ Some v
get-insert_same m n v = elim (get-insert_cases m n v n) [ inl p ↦ p.1 | inr p ↦ absurd (p.0 refl) ]

pub get-insert_other : (m : Files) (n v q : List ℕ) → q ≢ n → map.get (map.insert m n v) q ≡ map.get m q
get-insert_other m n v q h = elim (get-insert_cases m n v q) [ inl p ↦ absurd (h p.0) | inr p ↦ p.1 ]

-- the last write of a name counts
pub insert-insert : (m : Files) (n v w : List ℕ) → map.insert (map.insert m n v) n w ≡ map.insert m n w
insert-insert m n v w = map.same_map nat_list_cmp_total exact_bytes _ _ (λ q.
    elim (get-insert_cases m n w q) [
      | inl p ↦ subst (λ (k : List ℕ). map.get (map.insert (map.insert m n v) n w) k ≡ map.get (map.insert m n w) k) (sym p.0)
          (get-insert_same (map.insert m n v) n w ∙ sym (get-insert_same m n w))
      | inr p ↦ get-insert_other (map.insert m n v) n w q p.0 ∙ get-insert_other m n v q p.0 ∙ sym p.1
    ])

-- writes of two names come to the same in either order
pub insert-insert_other : (m : Files) (a v b w : List ℕ) → a ≢ b → map.insert (map.insert m b w) a v ≡ map.insert (map.insert m a v) b w
insert-insert_other m a v b w h = map.same_map nat_list_cmp_total exact_bytes _ _ (λ q.
    elim (get-insert_cases (map.insert m b w) a v q) [
      | inl p ↦ p.1 ∙ sym (get-insert_other (map.insert m a v) b w q (λ e. h (sym p.0 ∙ e)) ∙ ap (map.get (map.insert m a v)) p.0 ∙ get-insert_same m a v)
      | inr p ↦ p.1 ∙ elim (get-insert_cases (map.insert m a v) b w q) [
        | inl r ↦ ap (map.get (map.insert m b w)) r.0 ∙ get-insert_same m b w ∙ sym r.1
        | inr r ↦ get-insert_other m b w q r.0 ∙ sym (get-insert_other m a v q p.0) ∙ sym r.1
      ]
    ])

-- a write of what is there changes nothing
pub insert-same : (m : Files) (n v : List ℕ) → map.get m n ≡ Some v → map.insert m n v ≡ m
insert-same m n v h = map.same_map nat_list_cmp_total exact_bytes _ _ (λ q.
    elim (get-insert_cases m n v q) [
      | inl p ↦ p.1 ∙ sym h ∙ ap (map.get m) (sym p.0)
      | inr p ↦ p.1
    ])

-- the bytes under a name that was written
bytes_in-insert : (m : Files) (n v : List ℕ) → bytes_in (map.insert m n v) n ≡ v
bytes_in-insert m n v = ap (λ f. unwrap_or f []) (get-insert_same m n v)

-- Bytes over others.

pub length-overwritten : (file : List ℕ) (off : ℕ) (bytes : List ℕ) → off + length bytes ≤ length file → length (overwritten file off bytes) ≡ length file
length-overwritten file off bytes h = simp (length-append, length-take, length-drop) (omega arith)

-- a part of a file is as long as its range
pub length-part : (file : List ℕ) (off count : ℕ) → off + count ≤ length file → length (take count (drop off file)) ≡ count
length-part file off count h = length-take-le count (drop off file) (omega (arith, length-drop off file))

-- bytes over themselves
pub overwritten-same : (file : List ℕ) (off count : ℕ) → off + count ≤ length file → overwritten file off (take count (drop off file)) ≡ file
overwritten-same file off count h =
    let many : length (take count (drop off file)) ≡ count = length-part file off count h in
    let rest : drop (off + length (take count (drop off file))) file ≡ drop count (drop off file) =
    ap (λ k. drop (off + k) file) many ∙ sym (drop-drop count off file) in
    ap (λ r. take off file ++ (take count (drop off file) ++ r)) rest
    ∙ ap (λ r. take off file ++ r) (take-append-drop count (drop off file)) ∙ take-append-drop off file

-- new bytes over the middle of three parts
pub overwritten-middle : (front old back new : List ℕ) → length new ≡ length old
    → overwritten (front ++ (old ++ back)) (length front) new ≡ front ++ (new ++ back)
overwritten-middle front old back new same =
    let before : take (length front) (front ++ (old ++ back)) ≡ front = take-append_seam front (old ++ back) in
    let after : drop (length front + length new) (front ++ (old ++ back)) ≡ back =
    ap (λ k. drop (length front + k) (front ++ (old ++ back))) same ∙ drop-append-add front (old ++ back) (length old) ∙ drop-append_seam old back in
    rw (before, after) refl

-- Two writes of one name.

pub with_file-with_file : (t : Option Files) (n a b : List ℕ) → with_file (with_file t n a) n b ≡ with_file t n b
with_file-with_file None n a b = refl
with_file-with_file (Some m) n a b = ap Some (insert-insert m n a b)

pub with_more-with_file : (t : Option Files) (n a b : List ℕ) → with_more (with_file t n a) n b ≡ with_file t n (a ++ b)
with_more-with_file None n a b = refl
with_more-with_file (Some m) n a b =
    ap Some (ap (λ f. map.insert (map.insert m n a) n (f ++ b)) (bytes_in-insert m n a) ∙ insert-insert m n a (a ++ b))

pub with_patch-with_file : (t : Option Files) (n a : List ℕ) (off : ℕ) (b : List ℕ) → with_patch (with_file t n a) n off b ≡ with_file t n (overwritten a off b)
with_patch-with_file None n a off b = refl
with_patch-with_file (Some m) n a off b =
    ap Some (ap (λ f. map.insert (map.insert m n a) n (overwritten f off b)) (bytes_in-insert m n a) ∙ insert-insert m n a (overwritten a off b))

pub with_more-with_more : (t : Option Files) (n a b : List ℕ) → with_more (with_more t n a) n b ≡ with_more t n (a ++ b)
with_more-with_more None n a b = refl
with_more-with_more (Some m) n a b =
    with_more-with_file (Some m) n (bytes_in m n ++ a) b ∙ ap (λ f. Some (map.insert m n f)) (append_assoc (bytes_in m n) a b)

pub with_file-with_more : (t : Option Files) (n a b : List ℕ) → with_file (with_more t n a) n b ≡ with_file t n b
with_file-with_more None n a b = refl
with_file-with_more (Some m) n a b = ap Some (insert-insert m n (bytes_in m n ++ a) b)

pub with_file-with_patch : (t : Option Files) (n : List ℕ) (off : ℕ) (a b : List ℕ) → with_file (with_patch t n off a) n b ≡ with_file t n b
with_file-with_patch None n off a b = refl
with_file-with_patch (Some m) n off a b = ap Some (insert-insert m n (overwritten (bytes_in m n) off a) b)

-- Writes of two names.

pub with_file-with_file_other : (t : Option Files) (n a q b : List ℕ) → q ≢ n → with_file (with_file t n a) q b ≡ with_file (with_file t q b) n a
with_file-with_file_other None n a q b h = refl
with_file-with_file_other (Some m) n a q b h = ap Some (insert-insert_other m q b n a h)

-- The bytes under the name that was written.

pub file_at-with_file_same : (m : Files) (n a : List ℕ) → file_at (with_file (Some m) n a) n ≡ Some a
file_at-with_file_same m n a = get-insert_same m n a

pub file_at-with_more_same : (t : Option Files) (n a f : List ℕ) → file_at t n ≡ Some f → file_at (with_more t n a) n ≡ Some (f ++ a)
file_at-with_more_same None n a f h = let impossible : None ≡ Some f = h in cc
file_at-with_more_same (Some m) n a f h = get-insert_same m n (bytes_in m n ++ a) ∙ ap (λ o. Some (unwrap_or o [] ++ a)) h

pub file_at-with_patch_same : (t : Option Files) (n : List ℕ) (off : ℕ) (a f : List ℕ) → file_at t n ≡ Some f
    → file_at (with_patch t n off a) n ≡ Some (overwritten f off a)
file_at-with_patch_same None n off a f h = let impossible : None ≡ Some f = h in cc
file_at-with_patch_same (Some m) n off a f h =
    get-insert_same m n (overwritten (bytes_in m n) off a) ∙ ap (λ o. Some (overwritten (unwrap_or o []) off a)) h

-- what is told of a name that was written
pub IsTold-with_file : (t : Option Files) (n a f : List ℕ) → IsTold (with_file t n a) n f → f ≡ a
IsTold-with_file None n a f h = absurd h
IsTold-with_file (Some m) n a f h = let e : Some f ≡ Some a = sym h ∙ get-insert_same m n a in cc

pub HasFile-with_file : (t : Option Files) (n a : List ℕ) → HasFile (with_file t n a) n a
HasFile-with_file None n a = tt
HasFile-with_file (Some m) n a = get-insert_same m n a

-- what equals each file that is told of a name is that name's
pub HasFile-IsTold : (t : Option Files) (n a : List ℕ) → Stands t n → ((file : List ℕ) → IsTold t n file → a ≡ file) → HasFile t n a
HasFile-IsTold None n a stands told = tt
HasFile-IsTold (Some m) n a stands told = stands.1 ∙ ap Some (sym (told stands.0 stands.1))

-- Each other name has what it had.

pub file_at-with_file : (t : Option Files) (n a q : List ℕ) → q ≢ n → file_at (with_file t n a) q ≡ file_at t q
file_at-with_file None n a q h = refl
file_at-with_file (Some m) n a q h = get-insert_other m n a q h

pub file_at-with_more : (t : Option Files) (n a q : List ℕ) → q ≢ n → file_at (with_more t n a) q ≡ file_at t q
file_at-with_more None n a q h = refl
file_at-with_more (Some m) n a q h = get-insert_other m n (bytes_in m n ++ a) q h

pub file_at-with_patch : (t : Option Files) (n : List ℕ) (off : ℕ) (a q : List ℕ) → q ≢ n → file_at (with_patch t n off a) q ≡ file_at t q
file_at-with_patch None n off a q h = refl
file_at-with_patch (Some m) n off a q h = get-insert_other m n (overwritten (bytes_in m n) off a) q h

pub file_at-MayCreate : (t u : Option Files) (n q : List ℕ) → MayCreate t n u → q ≢ n → file_at u q ≡ file_at t q
file_at-MayCreate t u n q may h =
    elim may [ inl e ↦ ap (λ v. file_at v q) e | inr e ↦ ap (λ v. file_at v q) e ∙ file_at-with_file t n [] q h ]

pub file_at-MayAppend : (t u : Option Files) (n a q : List ℕ) → MayAppend t n a u → q ≢ n → file_at u q ≡ file_at t q
file_at-MayAppend t u n a q may h = ap (λ v. file_at v q) may.1 ∙ file_at-with_more t n (take may.0 a) q h

pub file_at-MayPatch : (t u : Option Files) (n : List ℕ) (off : ℕ) (a q : List ℕ) → MayPatch t n off a u → q ≢ n → file_at u q ≡ file_at t q
file_at-MayPatch t u n off a q may h = ap (λ v. file_at v q) may.2 ∙ file_at-with_patch t n off may.0 q h

-- Names that stand.

pub Stands-with_file : (t : Option Files) (n a : List ℕ) → Stands (with_file t n a) n
Stands-with_file None n a = tt
Stands-with_file (Some m) n a = (a, get-insert_same m n a)

pub Stands-with_more : (t : Option Files) (n a : List ℕ) → Stands (with_more t n a) n
Stands-with_more None n a = tt
Stands-with_more (Some m) n a = (bytes_in m n ++ a, get-insert_same m n (bytes_in m n ++ a))

pub Stands-with_patch : (t : Option Files) (n : List ℕ) (off : ℕ) (a : List ℕ) → Stands (with_patch t n off a) n
Stands-with_patch None n off a = tt
Stands-with_patch (Some m) n off a = (overwritten (bytes_in m n) off a, get-insert_same m n (overwritten (bytes_in m n) off a))

-- a write takes no name away
kept : (m : Files) (n a q f : List ℕ) → map.get m q ≡ Some f → (bytes : List ℕ) × (map.get (map.insert m n a) q ≡ Some bytes)
kept m n a q f h = elim (get-insert_cases m n a q) [ inl p ↦ (a, p.1) | inr p ↦ (f, p.1 ∙ h) ]

pub Stands-with_file_other : (t : Option Files) (n a q : List ℕ) → Stands t q → Stands (with_file t n a) q
Stands-with_file_other None n a q h = tt
Stands-with_file_other (Some m) n a q h = kept m n a q h.0 h.1

pub Stands-with_more_other : (t : Option Files) (n a q : List ℕ) → Stands t q → Stands (with_more t n a) q
Stands-with_more_other None n a q h = tt
Stands-with_more_other (Some m) n a q h = kept m n (bytes_in m n ++ a) q h.0 h.1

pub Stands-with_patch_other : (t : Option Files) (n : List ℕ) (off : ℕ) (a q : List ℕ) → Stands t q → Stands (with_patch t n off a) q
Stands-with_patch_other None n off a q h = tt
Stands-with_patch_other (Some m) n off a q h = kept m n (overwritten (bytes_in m n) off a) q h.0 h.1

pub Stands-HasRange : (t : Option Files) (n : List ℕ) (off count : ℕ) → HasRange t n off count → Stands t n
Stands-HasRange None n off count h = tt
Stands-HasRange (Some m) n off count h = (h.0, h.1)

pub HasRange-with_file : (t : Option Files) (n a : List ℕ) (off count : ℕ) → off + count ≤ length a → HasRange (with_file t n a) n off count
HasRange-with_file None n a off count h = tt
HasRange-with_file (Some m) n a off count h = (a, get-insert_same m n a, h)

-- Nothing added, nothing changed.

-- nothing at the end changes nothing
pub with_more-nothing : (t : Option Files) (n : List ℕ) → Stands t n → with_more t n [] ≡ t
with_more-nothing None n h = refl
with_more-nothing (Some m) n h =
    ap Some (ap (λ f. map.insert m n (unwrap_or f [] ++ [])) h.1 ∙ ap (map.insert m n) (append-nil h.0) ∙ insert-same m n h.0 h.1)

-- the file that a name has, written again
pub with_file-same : (t : Option Files) (n a : List ℕ) → file_at t n ≡ Some a → with_file t n a ≡ t
with_file-same None n a h = refl
with_file-same (Some m) n a h = ap Some (insert-same m n a h)

-- where nothing was added, a front of the piece was: none of it
pub nothing_added : (t u : Option Files) (n bytes : List ℕ) → Stands t n → u ≡ t → MayAppend t n bytes u
nothing_added t u n bytes h e = (0, e ∙ sym (with_more-nothing t n h))

-- where nothing was changed, the range holds some bytes: its own
pub nothing_patched : (t u : Option Files) (n : List ℕ) (off : ℕ) (bytes : List ℕ) → HasRange t n off (length bytes) → u ≡ t → MayPatch t n off bytes u
nothing_patched None u n off bytes h e = (bytes, refl, e)
nothing_patched (Some m) u n off bytes h e =
    let part : List ℕ = take (length bytes) (drop off h.0) in
    let same : overwritten (bytes_in m n) off part ≡ h.0 =
    ap (λ f. overwritten (unwrap_or f []) off part) h.1 ∙ overwritten-same h.0 off (length bytes) h.2 in
    (part, length-part h.0 off (length bytes) h.2, e ∙ ap Some (sym (ap (map.insert m n) same ∙ insert-same m n h.0 h.1)))

-- a failed append after a write of the whole
pub MayAppend-with_file : (t u : Option Files) (n a b : List ℕ) → MayAppend (with_file t n a) n b u → (count : ℕ) × (u ≡ with_file t n (a ++ take count b))
MayAppend-with_file t u n a b may = (may.0, may.1 ∙ with_more-with_file t n a (take may.0 b))
