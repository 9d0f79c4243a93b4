-- Files one after the other in one storage.
use Rattle.std.proofs.Common.{◌≡◌, ◌≢◌, ℕ, zero, suc, ◌+◌, ◌<◌, ◌≤◌, Bool, true, false, List, [], ◌∷◌, ◌++◌, length, take, drop, get_or, set, Some, None}
use Rattle.std.proofs.Common.{if◌then◌else◌, refl, sym, ap, subst, ◌∙◌, arith, add-zero, zero-add, drop-cons, ◌-◌, append_assoc, add_assoc, is_some, ◌||◌}
use Rattle.std.proofs.Common.{◌&&◌, nat_le, nat_lt, ◌⊎◌}
use Rattle.std.specs.Str.{bytes_eq}
use Rattle.std.proofs.lemmas.List.{nil_from_length, drop-drop, drop-take, take-append-drop, drop-append-le, take-append-le, take-take, length-take-le}
use Rattle.std.proofs.lemmas.List.{length-drop, length-append}
use Rattle.std.proofs.Math.ListN.{length-set}
use Rattle.std.proofs.lemmas.Bool.Decides.{nat_tests}
use Rattle.std.proofs.Math.Seq.{take-append_seam, drop-append_seam, drop-append-add, take-add, take-length}
use Rattle.std.proofs.lemmas.List.Sums.{sum_by-append}
use Rattle.edge_traits.specs.declared.memory.arena.Extent.{Extent}
use Rattle.edge_traits.specs.Files.{overwritten}
use Rattle.edge_traits.specs.FileLaws.{length-part, length-overwritten}
use Rattle.edge_traits.specs.Memory.{NamedFile, find_file, set_file, bytes_used, Store, takes_name}
use Rattle.edge_traits.specs.MemoryLaws.{other_name, same_name}
use Rattle.edge_traits.specs.Arena.{size_of, total_size, parts, IsPlace, IsReserved}

-- the search has passed the files before this index, which end at `start`
pub record SearchedTo (extents : List Extent) (storage name : List ℕ) (index start : ℕ) : Type 0 where
  pub sized : start + total_size (drop index extents) ≡ total_size extents
  pub place : (e : Extent) (i s : ℕ) → IsPlace (drop index extents) (drop start storage) name e i s → IsPlace extents storage name e (index + i) (start + s)
  pub none : find_file (parts (drop index extents) (drop start storage)) name ≡ None → find_file (parts extents storage) name ≡ None

pub SearchedTo-start : (extents : List Extent) (storage name : List ℕ) → SearchedTo extents storage name 0 0
SearchedTo-start extents storage name = record {
  sized = zero-add (total_size extents);
  place = λ e i s p. rw (zero-add i, zero-add s) p;
  none = λ p. p;
}

pub total_size-cons : (e : Extent) (es : List Extent) → total_size (e ∷ es) ≡ size_of e + total_size es
total_size-cons e es = sum_by-append size_of (e ∷ []) es ∙ ap (λ n. n + total_size es) (zero-add (size_of e))

-- the file at which a search stands
pub found_here : (extents : List Extent) (storage name : List ℕ) (index start : ℕ) (e d : Extent) → index < length extents → e ≡ get_or extents index d
    → take e.name (drop start storage) ≡ name → SearchedTo extents storage name index start → IsPlace extents storage name e index start
found_here extents storage name index start e d within is here past =
    let front : drop index extents ≡ e ∷ drop (suc index) extents = drop-cons extents index d within ∙ ap (λ x. x ∷ drop (suc index) extents) (sym is) in
    let found : IsPlace extents storage name e (index + 0) (start + 0) =
    past.place e 0 0 (subst (λ (es : List Extent). IsPlace es (drop start storage) name e 0 0) (sym front) (refl, refl, here)) in
    rw (add-zero index, add-zero start) at found

-- the bytes of the file at which a search stands lie within the storage
pub ends_within : (extents : List Extent) (storage name : List ℕ) (index start : ℕ) (e d : Extent) → index < length extents → e ≡ get_or extents index d
    → total_size extents ≤ length storage → SearchedTo extents storage name index start → start + size_of e ≤ length storage
ends_within extents storage name index start e d within is room past =
    let front : drop index extents ≡ e ∷ drop (suc index) extents = drop-cons extents index d within ∙ ap (λ x. x ∷ drop (suc index) extents) (sym is) in
    let sum : total_size (drop index extents) ≡ size_of e + total_size (drop (suc index) extents) = ap total_size front
    ∙ total_size-cons e (drop (suc index) extents) in
    omega (arith, past.sized)

pub SearchedTo-next : (extents : List Extent) (storage name : List ℕ) (index start : ℕ) (e d : Extent) → index < length extents
    → e ≡ get_or extents index d → take e.name (drop start storage) ≢ name → SearchedTo extents storage name index start
    → SearchedTo extents storage name (suc index) (start + size_of e)
SearchedTo-next extents storage name index start e d within is other past =
    let front : drop index extents ≡ e ∷ drop (suc index) extents = drop-cons extents index d within ∙ ap (λ x. x ∷ drop (suc index) extents) (sym is) in
    let rest : drop (start + size_of e) storage ≡ drop (size_of e) (drop start storage) = sym (drop-drop (size_of e) start storage) in
    record {
      sized = (let sum : total_size (drop index extents) ≡ size_of e + total_size (drop (suc index) extents) = ap total_size front
          ∙ total_size-cons e (drop (suc index) extents) in omega (arith, past.sized));
      place = λ x i s p.
          (let moved : IsPlace (drop (suc index) extents) (drop (size_of e) (drop start storage)) name x i s =
          subst (λ (t : List ℕ). IsPlace (drop (suc index) extents) t name x i s) rest p in
          let found : IsPlace extents storage name x (index + suc i) (start + (size_of e + s)) =
          past.place x (suc i) (size_of e + s)
          (subst (λ (es : List Extent). IsPlace es (drop start storage) name x (suc i) (size_of e + s)) (sym front) (other, (s, refl, moved))) in
          let at : index + suc i ≡ suc index + i = omega arith in
          let from : start + (size_of e + s) ≡ start + size_of e + s = omega arith in
          subst (λ (k : ℕ). IsPlace extents storage name x (suc index + i) k) from
          (subst (λ (k : ℕ). IsPlace extents storage name x k (start + (size_of e + s))) at found));
      none = λ p. past.none (subst (λ (es : List Extent). find_file (parts es (drop start storage)) name ≡ None) (sym front)
          (other_name (take e.name (drop start storage)) name _ _ other
          ∙ ap (λ (t : List ℕ). find_file (parts (drop (suc index) extents) t) name) (sym rest) ∙ p));
    }

-- What a place is.

pub place_within : (es : List Extent) (a n : List ℕ) (e : Extent) (i s : ℕ) → IsPlace es a n e i s → i < length es
place_within [] a n e i s p = absurd p
place_within (x ∷ es) a n e zero s p = omega arith
place_within (x ∷ es) a n e (suc i) s p = let h = place_within es (drop (size_of x) a) n e i p.1.0 p.1.2 in omega (arith, h)

pub place_ends : (es : List Extent) (a n : List ℕ) (e : Extent) (i s : ℕ) → IsPlace es a n e i s → s + size_of e ≤ total_size es
place_ends [] a n e i s p = absurd p
place_ends (x ∷ es) a n e zero s p = let size : size_of x ≡ size_of e = ap size_of p.0 in omega (arith, size, p.1, total_size-cons x es)
place_ends (x ∷ es) a n e (suc i) s p =
    let h = place_ends es (drop (size_of x) a) n e i p.1.0 p.1.2 in omega (arith, h, p.1.1, total_size-cons x es)

pub place_extent : (es : List Extent) (a n : List ℕ) (e : Extent) (i s : ℕ) → IsPlace es a n e i s → set es i e ≡ es
place_extent [] a n e i s p = absurd p
place_extent (x ∷ es) a n e zero s p = ap (λ y. y ∷ es) (sym p.0)
place_extent (x ∷ es) a n e (suc i) s p = ap (λ ys. x ∷ ys) (place_extent es (drop (size_of x) a) n e i p.1.0 p.1.2)

-- the bytes of a file in the storage
abbrev pub content : List ℕ → Extent → ℕ → List ℕ
content a e s = take e.bytes (drop (s + e.name) a)

pub find_file-place : (es : List Extent) (a n : List ℕ) (e : Extent) (i s : ℕ) → IsPlace es a n e i s → find_file (parts es a) n ≡ Some (content a e s)
find_file-place [] a n e i s p = absurd p
find_file-place (x ∷ es) a n e zero s p =
    same_name (take x.name a) n _ _ p.2 ∙ ap (λ (y : Extent). Some (take y.bytes (drop y.name a))) p.0
    ∙ ap (λ k. Some (take e.bytes (drop k a))) (sym (ap (λ k. k + e.name) p.1 ∙ zero-add e.name))
find_file-place (x ∷ es) a n e (suc i) s p =
    let rest : ℕ = p.1.0 in
    let from : size_of x + (rest + e.name) ≡ s + e.name = omega (arith, p.1.1) in
    other_name (take x.name a) n _ _ p.0 ∙ find_file-place es (drop (size_of x) a) n e i rest p.1.2
    ∙ ap (λ t. Some (take e.bytes t)) (drop-drop (rest + e.name) (size_of x) a ∙ ap (λ k. drop k a) from)

-- Other bytes at a place.

-- the storage with other bytes in place of a file's
abbrev pub with_content : List ℕ → Extent → ℕ → List ℕ → List ℕ
with_content a e s bytes = take (s + e.name) a ++ (bytes ++ drop (s + size_of e) a)

-- bytes before a change are as before
part_before : (a rest : List ℕ) (from count limit : ℕ) → from + count ≤ limit → limit ≤ length a
    → take count (drop from (take limit a ++ rest)) ≡ take count (drop from a)
part_before a rest from count limit h room =
    let more : ℕ = limit - from in
    let sum : limit ≡ from + more = omega arith in
    let len : length (take limit a) ≡ limit = length-take-le limit a room in
    let front : drop from (take limit a) ≡ take more (drop from a) = ap (λ k. drop from (take k a)) sum ∙ drop-take from more a in
    let size : count ≤ length (drop from (take limit a)) = omega (arith, length-drop from (take limit a), len) in
    ap (take count) (drop-append-le from (take limit a) rest (omega (arith, len))) ∙ take-append-le count (drop from (take limit a)) rest size
    ∙ ap (take count) front ∙ take-take count more (drop from a) (omega arith)

-- what begins before a change
drop_before : (a rest : List ℕ) (from more : ℕ) → from + more ≤ length a → drop from (take (from + more) a ++ rest) ≡ take more (drop from a) ++ rest
drop_before a rest from more room =
    drop-append-le from (take (from + more) a) rest (omega (arith, length-take-le (from + more) a room)) ∙ ap (λ t. t ++ rest) (drop-take from more a)

pub parts-with_content : (es : List Extent) (a n : List ℕ) (e : Extent) (i s : ℕ) (bytes : List ℕ) (x : Extent) → x.name ≡ e.name → x.bytes ≡ length bytes
    → total_size es ≤ length a → IsPlace es a n e i s → parts (set es i x) (with_content a e s bytes) ≡ set_file (parts es a) n bytes
parts-with_content [] a n e i s bytes x sn sb room p = absurd p
parts-with_content (y ∷ es) a n e zero s bytes x sn sb room p =
    let name : y.name ≡ e.name = ap (λ (z : Extent). z.name) p.0 in
    let size : size_of y ≡ size_of e = ap size_of p.0 in
    let u : List ℕ = take (s + e.name) a in
    let v : List ℕ = drop (s + size_of e) a in
    let w : List ℕ = u ++ (bytes ++ v) in
    let front : u ≡ take y.name a = ap (λ k. take k a) (let h : s + e.name ≡ y.name = omega (arith, p.1) in h) in
    let back : v ≡ drop (size_of y) a = ap (λ k. drop k a) (let h : s + size_of e ≡ size_of y = omega (arith, p.1) in h) in
    let len : length u ≡ x.name = length-take-le (s + e.name) a (omega (arith, p.1, size, total_size-cons y es))
    ∙ (let h : s + e.name ≡ x.name = omega (arith, p.1) in h) in
    let named : take x.name w ≡ take y.name a = ap (λ k. take k w) (sym len) ∙ take-append_seam u (bytes ++ v) ∙ front in
    let filled : take x.bytes (drop x.name w) ≡ bytes =
    ap (λ t. take x.bytes t) (ap (λ k. drop k w) (sym len) ∙ drop-append_seam u (bytes ++ v)) ∙ ap (λ k. take k (bytes ++ v)) sb ∙ take-append_seam bytes v in
    let left : drop (size_of x) w ≡ drop (size_of y) a =
    ap (λ k. drop k w) (let h : size_of x ≡ length u + length bytes = omega (arith, len) in h) ∙ drop-append-add u (bytes ++ v) (length bytes)
    ∙ drop-append_seam bytes v ∙ back in
    ap (λ t. (t, take x.bytes (drop x.name w)) ∷ parts es (drop (size_of x) w)) named
    ∙ ap (λ t. (take y.name a, t) ∷ parts es (drop (size_of x) w)) filled
    ∙ ap (λ t. (take y.name a, bytes) ∷ parts es t) left ∙ sym (same_name (take y.name a) n _ _ p.2)
parts-with_content (y ∷ es) a n e (suc i) s bytes x sn sb room p =
    let rest : ℕ = p.1.0 in
    let total : total_size (y ∷ es) ≡ size_of y + total_size es = total_size-cons y es in
    let ends : rest + size_of e ≤ total_size es = place_ends es (drop (size_of y) a) n e i rest p.1.2 in
    let back : List ℕ = bytes ++ drop (s + size_of e) a in
    let limit : s + e.name ≤ length a = omega (arith, p.1.1, ends, total) in
    let named : take y.name (with_content a e s bytes) ≡ take y.name a = part_before a back 0 y.name (s + e.name) (omega (arith, p.1.1)) limit in
    let filled : take y.bytes (drop y.name (with_content a e s bytes)) ≡ take y.bytes (drop y.name a) =
    part_before a back y.name y.bytes (s + e.name) (omega (arith, p.1.1)) limit in
    let sum : s + e.name ≡ size_of y + (rest + e.name) = omega (arith, p.1.1) in
    let behind : drop (s + size_of e) a ≡ drop (rest + size_of e) (drop (size_of y) a) =
    ap (λ k. drop k a) (let h : s + size_of e ≡ size_of y + (rest + size_of e) = omega (arith, p.1.1) in h)
    ∙ sym (drop-drop (rest + size_of e) (size_of y) a) in
    let left : drop (size_of y) (with_content a e s bytes) ≡ with_content (drop (size_of y) a) e rest bytes =
    ap (λ k. drop (size_of y) (take k a ++ back)) sum ∙ drop_before a back (size_of y) (rest + e.name) (omega arith)
    ∙ ap (λ t. take (rest + e.name) (drop (size_of y) a) ++ (bytes ++ t)) behind in
    let inside : total_size es ≤ length (drop (size_of y) a) = omega (arith, total, length-drop (size_of y) a) in
    ap (λ t. (t, take y.bytes (drop y.name (with_content a e s bytes))) ∷ parts (set es i x) (drop (size_of y) (with_content a e s bytes))) named
    ∙ ap (λ t. (take y.name a, t) ∷ parts (set es i x) (drop (size_of y) (with_content a e s bytes))) filled
    ∙ ap (λ t. (take y.name a, take y.bytes (drop y.name a)) ∷ t)
    (ap (parts (set es i x)) left ∙ parts-with_content es (drop (size_of y) a) n e i rest bytes x sn sb inside p.1.2)
    ∙ sym (other_name (take y.name a) n _ _ p.0)

-- a file that becomes longer, by bytes that are put in behind it
pub parts-append : (es : List Extent) (a n : List ℕ) (e : Extent) (i s : ℕ) (bytes : List ℕ) (x : Extent) → x.name ≡ e.name
    → x.bytes ≡ e.bytes + length bytes → total_size es ≤ length a → IsPlace es a n e i s
    → parts (set es i x) (take (s + size_of e) a ++ (bytes ++ drop (s + size_of e) a)) ≡ set_file (parts es a) n (content a e s ++ bytes)
parts-append es a n e i s bytes x sn sb room p =
    let ends = place_ends es a n e i s p in
    let len : length (content a e s) ≡ e.bytes = length-part a (s + e.name) e.bytes (omega (arith, ends)) in
    let front : take (s + size_of e) a ≡ take (s + e.name) a ++ content a e s = ap (λ k. take k a) (sym (add_assoc s e.name e.bytes))
    ∙ take-add (s + e.name) e.bytes a in
    ap (λ t. parts (set es i x) (t ++ (bytes ++ drop (s + size_of e) a))) front
    ∙ ap (parts (set es i x)) (simp append_assoc)
    ∙ parts-with_content es a n e i s (content a e s ++ bytes) x sn (sb ∙ sym (length-append (content a e s) bytes ∙ ap (λ k. k + length bytes) len)) room p

-- bytes over some of a part are bytes over some of the whole
over_part : (a : List ℕ) (k off m : ℕ) (bytes : List ℕ) → off + length bytes ≤ m → k + m ≤ length a
    → overwritten a (k + off) bytes ≡ take k a ++ (overwritten (take m (drop k a)) off bytes ++ drop (k + m) a)
over_part a k off m bytes inside room =
    let part : List ℕ = take m (drop k a) in
    let len : length part ≡ m = length-part a k m room in
    let front : take (k + off) a ≡ take k a ++ take off part = take-add k off a ∙ ap (λ t. take k a ++ t) (sym (take-take off m (drop k a) (omega arith))) in
    let back : drop (k + off + length bytes) a ≡ drop (off + length bytes) part ++ drop (k + m) a =
    ap (λ j. drop j a) (let h : k + off + length bytes ≡ k + (off + length bytes) = omega arith in h) ∙ sym (drop-drop (off + length bytes) k a)
    ∙ ap (drop (off + length bytes)) (sym (take-append-drop m (drop k a))) ∙ drop-append-le (off + length bytes) part (drop m (drop k a)) (omega (arith, len))
    ∙ ap (λ t. drop (off + length bytes) part ++ t) (drop-drop m k a) in
    ap (λ t. t ++ (bytes ++ drop (k + off + length bytes) a)) front ∙ ap (λ t. (take k a ++ take off part) ++ (bytes ++ t)) back ∙ simp append_assoc

-- bytes over some of a file
pub parts-patch : (es : List Extent) (a n : List ℕ) (e : Extent) (i s off : ℕ) (bytes : List ℕ) → off + length bytes ≤ e.bytes → total_size es ≤ length a
    → IsPlace es a n e i s → parts es (overwritten a (s + e.name + off) bytes) ≡ set_file (parts es a) n (overwritten (content a e s) off bytes)
parts-patch es a n e i s off bytes inside room p =
    let ends = place_ends es a n e i s p in
    let within : s + e.name + e.bytes ≤ length a = omega (arith, ends) in
    let len : length (content a e s) ≡ e.bytes = length-part a (s + e.name) e.bytes within in
    let size : e.bytes ≡ length (overwritten (content a e s) off bytes) = sym (length-overwritten (content a e s) off bytes (omega (arith, len)) ∙ len) in
    ap (λ (xs : List Extent). parts xs (overwritten a (s + e.name + off) bytes)) (sym (place_extent es a n e i s p))
    ∙ ap (parts (set es i e)) (over_part a (s + e.name) off e.bytes bytes inside within
    ∙ ap (λ k. take (s + e.name) a ++ (overwritten (content a e s) off bytes ++ drop k a)) (add_assoc s e.name e.bytes))
    ∙ parts-with_content es a n e i s (overwritten (content a e s) off bytes) e refl size room p

-- A new name at the end.

pub parts-push : (es : List Extent) (a n : List ℕ) (x : Extent) → x.name ≡ length n → x.bytes ≡ 0 → total_size es ≡ length a
    → parts (es ++ x ∷ []) (a ++ n) ≡ parts es a ++ (n, []) ∷ []
parts-push [] a n x sn sb room =
    let empty : a ≡ [] = nil_from_length a (sym room) in
    ap (λ t. (take x.name (t ++ n), take x.bytes (drop x.name (t ++ n))) ∷ []) empty ∙ ap (λ k. (take k n, take x.bytes (drop k n)) ∷ []) sn
    ∙ ap (λ k. (take (length n) n, take k (drop (length n) n)) ∷ []) sb ∙ ap (λ t. (t, []) ∷ []) (take-length n)
parts-push (y ∷ es) a n x sn sb room =
    let total : total_size (y ∷ es) ≡ size_of y + total_size es = total_size-cons y es in
    let inside : total_size es ≡ length (drop (size_of y) a) = omega (arith, total, length-drop (size_of y) a) in
    let named : take y.name (a ++ n) ≡ take y.name a = take-append-le y.name a n (omega (arith, total)) in
    let filled : take y.bytes (drop y.name (a ++ n)) ≡ take y.bytes (drop y.name a) =
    ap (take y.bytes) (drop-append-le y.name a n (omega (arith, total)))
    ∙ take-append-le y.bytes (drop y.name a) n (omega (arith, total, length-drop y.name a)) in
    let left : drop (size_of y) (a ++ n) ≡ drop (size_of y) a ++ n = drop-append-le (size_of y) a n (omega (arith, total)) in
    ap (λ t. (t, take y.bytes (drop y.name (a ++ n))) ∷ parts (es ++ x ∷ []) (drop (size_of y) (a ++ n))) named
    ∙ ap (λ t. (take y.name a, t) ∷ parts (es ++ x ∷ []) (drop (size_of y) (a ++ n))) filled
    ∙ ap (λ t. (take y.name a, take y.bytes (drop y.name a)) ∷ t) (ap (parts (es ++ x ∷ [])) left ∙ parts-push es (drop (size_of y) a) n x sn sb inside)

test_other : (n b : List ℕ) (f : NamedFile) (fs : List NamedFile) (t : Bool) → (if t then Some f.1 else find_file fs n) ≡ None
    → (if t then (f.0, b) ∷ fs else f ∷ set_file fs n b) ≡ f ∷ set_file fs n b
test_other n b f fs true h = let impossible : Some f.1 ≡ None = h in cc
test_other n b f fs false h = refl

test_rest : (n : List ℕ) (f : NamedFile) (fs : List NamedFile) (t : Bool) → (if t then Some f.1 else find_file fs n) ≡ None → find_file fs n ≡ None
test_rest n f fs true h = let impossible : Some f.1 ≡ None = h in cc
test_rest n f fs false h = h

-- a name that isn't there comes last
pub set_file-new : (fs : List NamedFile) (n b : List ℕ) → find_file fs n ≡ None → set_file fs n b ≡ fs ++ (n, b) ∷ []
set_file-new [] n b h = refl
set_file-new (f ∷ fs) n b h = test_other n b f fs (bytes_eq f.0 n) h ∙ ap (λ t. f ∷ t) (set_file-new fs n b (test_rest n f fs (bytes_eq f.0 n) h))

-- What the files take.

bytes_used-within : (es : List Extent) (a : List ℕ) → total_size es ≤ length a → bytes_used (parts es a) ≡ total_size es
bytes_used-within [] a h = refl
bytes_used-within (y ∷ es) a h =
    let total : total_size (y ∷ es) ≡ size_of y + total_size es = total_size-cons y es in
    let f : NamedFile = (take y.name a, take y.bytes (drop y.name a)) in
    let named : length (take y.name a) ≡ y.name = length-take-le y.name a (omega (arith, total)) in
    let filled : length (take y.bytes (drop y.name a)) ≡ y.bytes = length-part a y.name y.bytes (omega (arith, total)) in
    let rest : bytes_used (parts es (drop (size_of y) a)) ≡ total_size es =
    bytes_used-within es (drop (size_of y) a) (omega (arith, total, length-drop (size_of y) a)) in
    let sum : bytes_used (f ∷ parts es (drop (size_of y) a)) ≡ (0 + (length f.0 + length f.1)) + bytes_used (parts es (drop (size_of y) a)) =
    sum_by-append (λ (g : NamedFile). length g.0 + length g.1) (f ∷ []) (parts es (drop (size_of y) a)) in
    sum ∙ (let h2 : (0 + (length f.0 + length f.1)) + bytes_used (parts es (drop (size_of y) a)) ≡ size_of y + total_size es =
    omega (arith, named, filled, rest) in h2) ∙ sym total

pub bytes_used-parts : (es : List Extent) (a : List ℕ) → total_size es ≡ length a → bytes_used (parts es a) ≡ length a
bytes_used-parts es a h = bytes_used-within es a (omega (arith, h)) ∙ h

pub length-parts : (es : List Extent) (a : List ℕ) → length (parts es a) ≡ length es
length-parts [] a = refl
length-parts (y ∷ es) a = ap suc (length-parts es (drop (size_of y) a))

-- The lengths after a change.

pub total_size-set : (es : List Extent) (a n : List ℕ) (e : Extent) (i s : ℕ) (x : Extent) → IsPlace es a n e i s
    → total_size (set es i x) + size_of e ≡ total_size es + size_of x
total_size-set [] a n e i s x p = absurd p
total_size-set (y ∷ es) a n e zero s x p =
    let same : size_of y ≡ size_of e = ap size_of p.0 in omega (arith, same, total_size-cons y es, total_size-cons x es)
total_size-set (y ∷ es) a n e (suc i) s x p =
    let rest : total_size (set es i x) + size_of e ≡ total_size es + size_of x = total_size-set es (drop (size_of y) a) n e i p.1.0 x p.1.2 in
    omega (arith, rest, total_size-cons y es, total_size-cons y (set es i x))

pub IsReserved-set : (es : List Extent) (a n : List ℕ) (e : Extent) (i s : ℕ) (x : Extent) (b : List ℕ) (room names space places more : ℕ)
    → IsReserved es a room names space places → IsPlace es a n e i s → length b + size_of e ≡ length a + size_of x → length b ≤ room → space ≤ more
    → IsReserved (set es i x) b room names more places
IsReserved-set es a n e i s x b room names space places more kept p size fits grown =
    let total = total_size-set es a n e i s x p in
    record {
      filled = omega (arith, kept.filled);
      room_kept = fits;
      names_kept = (let len : length (set es i x) ≡ length es = length-set es i x in omega (arith, kept.names_kept));
      space_kept = omega (arith, kept.space_kept);
      places_kept = kept.places_kept;
      names_fit = kept.names_fit;
    }

-- What fits.

-- a name that is there
pub takes_name-known : (store : Store) (n b : List ℕ) → find_file store.files n ≡ Some b → takes_name store n ≡ true
takes_name-known store n b h =
    ap (λ o. is_some o || (nat_le (bytes_used store.files + length n) store.room && nat_lt (length store.files) store.names)) h

-- a new name
pub takes_name-new : (es : List Extent) (a n : List ℕ) (room names : ℕ) → total_size es ≡ length a → find_file (parts es a) n ≡ None
    → takes_name record { files = parts es a; room = room; names = names } n ≡ (nat_le (length a + length n) room && nat_lt (length es) names)
takes_name-new es a n room names filled h =
    ap (λ o. is_some o || (nat_le (bytes_used (parts es a) + length n) room && nat_lt (length (parts es a)) names)) h
    ∙ ap (λ k. nat_le (k + length n) room && nat_lt (length (parts es a)) names) (bytes_used-parts es a filled)
    ∙ ap (λ k. nat_le (length a + length n) room && nat_lt k names) (length-parts es a)

pub name_refused : (used count room held names : ℕ) → used ≤ room → (room - used < count) ⊎ (names ≤ held)
    → (nat_le (used + count) room && nat_lt held names) ≡ false
name_refused used count room held names h c = grind (arith, nat_tests)

pub name_taken : (used count room held names : ℕ) → used ≤ room → count ≤ room - used → held < names → (nat_le (used + count) room && nat_lt held names) ≡ true
name_taken used count room held names h c d = grind (arith, nat_tests)

pub bytes_taken : (used count room : ℕ) → used ≤ room → count ≤ room - used → nat_le (used + count) room ≡ true
bytes_taken used count room h c = grind (arith, nat_tests)

pub bytes_refused : (used count room : ℕ) → used ≤ room → room - used < count → nat_le (used + count) room ≡ false
bytes_refused used count room h c = grind (arith, nat_tests)

-- What the three changes of a file do.

length-cut : (a : List ℕ) (start count : ℕ) → start + count ≤ length a → length (take start a ++ drop (start + count) a) + count ≡ length a
length-cut a start count h = omega (arith, length-append (take start a) (drop (start + count) a), length-take-le start a, length-drop (start + count) a)

length-put_in : (a b : List ℕ) (at : ℕ) → at ≤ length a → length (take at a ++ (b ++ drop at a)) ≡ length a + length b
length-put_in a b at h = omega (arith, length-append (take at a) (b ++ drop at a), length-append b (drop at a), length-take-le at a, length-drop at a)

-- the bytes of a file were taken out
pub parts-cut : (es : List Extent) (a b n : List ℕ) (e x : Extent) (i s : ℕ) → x.name ≡ e.name → x.bytes ≡ 0
    → b ≡ take (s + e.name) a ++ drop (s + e.name + e.bytes) a → total_size es ≤ length a → IsPlace es a n e i s
    → parts (set es i x) b ≡ set_file (parts es a) n []
parts-cut es a b n e x i s sn sb eb room p =
    ap (parts (set es i x)) (eb ∙ ap (λ k. take (s + e.name) a ++ drop k a) (add_assoc s e.name e.bytes)) ∙ parts-with_content es a n e i s [] x sn sb room p

pub IsReserved-cut : (es : List Extent) (a b n : List ℕ) (e x : Extent) (i s room names space places more : ℕ) → x.name ≡ e.name → x.bytes ≡ 0
    → b ≡ take (s + e.name) a ++ drop (s + e.name + e.bytes) a → IsReserved es a room names space places → IsPlace es a n e i s → space ≤ more
    → IsReserved (set es i x) b room names more places
IsReserved-cut es a b n e x i s room names space places more sn sb eb kept p grown =
    let ends = place_ends es a n e i s p in
    let len : length b + e.bytes ≡ length a = ap (λ t. length t + e.bytes) eb ∙ length-cut a (s + e.name) e.bytes (omega (arith, ends, kept.filled)) in
    IsReserved-set es a n e i s x b room names space places more kept p (omega (arith, len)) (omega (arith, len, kept.room_kept)) grown

-- bytes were put in behind a file
pub parts-put_in : (es : List Extent) (a b n : List ℕ) (e x : Extent) (i s : ℕ) (bytes : List ℕ) → x.name ≡ e.name → x.bytes ≡ e.bytes + length bytes
    → b ≡ take (s + e.name + e.bytes) a ++ (bytes ++ drop (s + e.name + e.bytes) a) → total_size es ≤ length a → IsPlace es a n e i s
    → parts (set es i x) b ≡ set_file (parts es a) n (content a e s ++ bytes)
parts-put_in es a b n e x i s bytes sn sb eb room p =
    ap (parts (set es i x)) (eb ∙ ap (λ k. take k a ++ (bytes ++ drop k a)) (add_assoc s e.name e.bytes)) ∙ parts-append es a n e i s bytes x sn sb room p

pub IsReserved-put_in : (es : List Extent) (a b n : List ℕ) (e x : Extent) (i s room names space places more : ℕ) (bytes : List ℕ) → x.name ≡ e.name
    → x.bytes ≡ e.bytes + length bytes → b ≡ take (s + e.name + e.bytes) a ++ (bytes ++ drop (s + e.name + e.bytes) a) → length a + length bytes ≤ room
    → IsReserved es a room names space places → IsPlace es a n e i s → space ≤ more → IsReserved (set es i x) b room names more places
IsReserved-put_in es a b n e x i s room names space places more bytes sn sb eb fits kept p grown =
    let ends = place_ends es a n e i s p in
    let len : length b ≡ length a + length bytes = ap length eb ∙ length-put_in a bytes (s + e.name + e.bytes) (omega (arith, ends, kept.filled)) in
    IsReserved-set es a n e i s x b room names space places more kept p (omega (arith, len)) (omega (arith, len)) grown

-- a range inside the bytes that a name has is one inside its place
pub patch_inside : (es : List Extent) (a n : List ℕ) (e : Extent) (i s range : ℕ) {had : ℕ} → total_size es ≤ length a → IsPlace es a n e i s
    → had ≡ length (content a e s) → range ≤ had → range ≤ e.bytes
patch_inside es a n e i s range room p same inside =
    let len : length (content a e s) ≡ e.bytes = length-part a (s + e.name) e.bytes (omega (arith, place_ends es a n e i s p)) in omega (arith, len)

pub IsReserved-same : (es : List Extent) (a b : List ℕ) (room names space places more : ℕ) → length b ≡ length a → IsReserved es a room names space places
    → space ≤ more → IsReserved es b room names more places
IsReserved-same es a b room names space places more len kept grown = record {
  filled = omega (arith, kept.filled);
  room_kept = omega (arith, kept.room_kept);
  names_kept = kept.names_kept;
  space_kept = omega (arith, kept.space_kept);
  places_kept = kept.places_kept;
  names_fit = kept.names_fit;
}
