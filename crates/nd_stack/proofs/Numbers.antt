-- The number of a variable that hasn't its form is one of a variable.
use Rattle.std.proofs.Common.{◌≡◌, ◌<◌, ℕ, Bool, true, false, List, [], ◌∷◌, length, Option, Some, None, refl, subst, arith}
use Rattle.std.specs.Prelude.{nat_lt, min, position, codes, All, if◌then◌else◌}
use Rattle.std.specs.List.{find, position_or_len}
use Rattle.std.specs.Option.{option_map_or}
use Rattle.std.specs.Str.{bytes_eq}
use Rattle.std.proofs.lemmas.Bool.{ltb-true}
use Rattle.std.proofs.lemmas.List.Elements.{All-head, All-tail}
use Rattle.cdf_read.specs.declared.head.Header.{Header}
use Rattle.nd_stack.specs.Columns.{variable_of, number_of}
use Rattle.nd_stack.specs.FrameVars.{is_frame_var, misfit, earlier, frame_misfit}

found_or : {A : Type 0} (b : Bool) (P : A → Type 0) (y x : A) (found : Option A) → P y → (found ≡ Some x → P x) → (if b then Some y else found) ≡ Some x → P x
found_or true P y x found here others e = let same : y ≡ x = cc in subst P same here
found_or false P y x found here others e = others e

-- what holds of each element holds of the one that is found
pub All-find : {A : Type 0} (P : A → Type 0) (p : A → Bool) (xs : List A) (x : A) → All P xs → find p xs ≡ Some x → P x
All-find P p [] x all e = absurd (cc)
All-find P p (y ∷ xs) x all e = found_or (p y) P y x (find p xs) (All-head P y xs all) (All-find P p xs x (All-tail P y xs all)) e

below_by : (n m i : ℕ) (b : Bool) → nat_lt n m ≡ b → ◌≡◌ {A = Option ℕ} (if b then Some n else None) (Some i) → i < m
below_by n m i true e found = let same : n ≡ i = cc in subst (λ k. k < m) same (ltb-true n m e)
below_by n m i false e found = absurd (cc)

position-below : {A : Type 0} (p : A → Bool) (xs : List A) (i : ℕ) → position p xs ≡ Some i → i < length xs
position-below p xs i e = below_by (position_or_len p xs) (length xs) i (nat_lt (position_or_len p xs) (length xs)) refl e

unless : (b : Bool) (o : Option ℕ) (i : ℕ) → (if b then None else o) ≡ Some i → o ≡ Some i
unless true o i e = absurd (cc)
unless false o i e = e

misfit-below : (h : Header) (frames : ℕ) (name : List ℕ) (kind i : ℕ) → misfit h frames name kind ≡ Some i → i < length h.vars
misfit-below h frames name kind i e =
    position-below (λ v. bytes_eq v.name name) h.vars i (unless (option_map_or (is_frame_var h frames kind) (variable_of h name) true) (number_of h name) i e)

earlier-below : (k : ℕ) (m n : Option ℕ) → ((j : ℕ) → m ≡ Some j → j < k) → ((j : ℕ) → n ≡ Some j → j < k) → (i : ℕ) → earlier m n ≡ Some i → i < k
earlier-below k None n one other i e = other i e
earlier-below k (Some m) None one other i e = one i e
earlier-below k (Some m) (Some n) one other i e =
    let same : min m n ≡ i = cc in
    let low : m < k = one m refl in
    omega (arith, same, low)

pub frame_misfit-below : (h : Header) (frames i : ℕ) → frame_misfit h frames ≡ Some i → i < length h.vars
frame_misfit-below h frames i e =
    let id = misfit h frames (codes "uniqueId") 4 in
    let stamp = misfit h frames (codes "timeStamp") 6 in
    let sec = misfit h frames (codes "epicsTSSec") 4 in
    let nsec = misfit h frames (codes "epicsTSNsec") 4 in
    earlier-below (length h.vars) (earlier id stamp) (earlier sec nsec)
    (earlier-below (length h.vars) id stamp (misfit-below h frames (codes "uniqueId") 4) (misfit-below h frames (codes "timeStamp") 6))
    (earlier-below (length h.vars) sec nsec (misfit-below h frames (codes "epicsTSSec") 4) (misfit-below h frames (codes "epicsTSNsec") 4))
    i e
