-- What is read is the field, and the field is read.
use Rattle.std.specs.Prelude.{◌≡◌, ℕ, ◌≤◌, ◌<◌, List, ◌++◌, length, take, drop, Option, Some, None, Bool, true, false, nat_lt, if◌then◌else◌, refl}
use Rattle.std.specs.Int.{w32, w64, from_be_bytes}
use Rattle.std.proofs.Common.{ap, sym, subst, ◌∙◌, arith, length-append}
use Rattle.std.proofs.lemmas.Bool.{ltb-true, ltb-false, lt-ltb, le-ltb}
use Rattle.std.proofs.lemmas.List.{take_at, drop_at, take-append-drop, length-take-le}
use Rattle.cdf_read.specs.Fields.{IsWord, IsDoubleWord}
use Rattle.cdf_read.specs.FieldReading.{◌>>=◌, free_in, word_in, double_word_in}

bind_some : {A B : Type 0} (o : Option A) (next : A → Option B) (y : B) → (o >>= next) ≡ Some y → (x : A) × (o ≡ Some x) × (next x ≡ Some y)
bind_some (Some x) next y e = (x, refl, e)
bind_some None next y e = absurd (cc)

unless_some : {A : Type 0} (b : Bool) (x y : A) → (if b then None else Some x) ≡ Some y → (b ≡ false) × (x ≡ y)
unless_some false x y e = (refl, cc)
unless_some true x y e = absurd (cc)

pub free-found : (count : ℕ) (before : List ℕ) (r : List ℕ × List ℕ) → free_in count before ≡ Some r → (before ≡ r.0 ++ r.1) × (length r.0 ≡ count)
free-found count before r e =
    let g = unless_some (nat_lt (length before) count) (take count before, drop count before) r e in
    let le : count ≤ length before = ltb-false (length before) count g.0 in
    subst (λ (q : List ℕ × List ℕ). (before ≡ q.0 ++ q.1) × (length q.0 ≡ count)) g.1 (sym (take-append-drop count before), length-take-le count before le)

pub free-again : (count : ℕ) (text after : List ℕ) → length text ≡ count → free_in count (text ++ after) ≡ Some (text, after)
free-again count text after size =
    let fits : nat_lt (length (text ++ after)) count ≡ false = le-ltb _ _ (omega (arith, length-append text after, size)) in
    rw fits (ap Some (ap (λ (k : ℕ). (take k (text ++ after), drop k (text ++ after))) (sym size) ∙ rw (take_at text after, drop_at text after) refl))

none_by : {A : Type 0} (b : Bool) (x : A) → (if b then None else Some x) ≡ None → b ≡ true
none_by true x e = refl
none_by false x e = absurd (cc)

mapped_none : {A B : Type 0} (o : Option A) (f : A → B) → (o >>= (λ x. Some (f x))) ≡ None → o ≡ None
mapped_none None f e = refl
mapped_none (Some x) f e = absurd (cc)

-- a field is missing exactly where fewer bytes are left
pub free-none : (count : ℕ) (before : List ℕ) → free_in count before ≡ None → length before < count
free-none count before e = ltb-true (length before) count (none_by (nat_lt (length before) count) (take count before, drop count before) e)

pub free-cut : (count : ℕ) (before : List ℕ) → length before < count → free_in count before ≡ None
free-cut count before h = rw (lt-ltb (length before) count h) refl

pub word-found : (before : List ℕ) (r : ℕ × List ℕ) → word_in before ≡ Some r → IsWord r.0 before r.1
word-found before r e =
    let b = bind_some (free_in 4 before) (λ field. Some (from_be_bytes w32 field.0, field.1)) r e in
    let f = free-found 4 before b.0 b.1 in
    let same : (from_be_bytes w32 b.0.0, b.0.1) ≡ r = cc in
    subst (λ (q : ℕ × List ℕ). IsWord q.0 before q.1) same (record { text = b.0.0; whole = f.0; size = f.1; spells = refl })

pub word-again : (number : ℕ) (before after : List ℕ) → IsWord number before after → word_in before ≡ Some (number, after)
word-again number before after h =
    ap word_in h.whole ∙ ap (λ (o : Option (List ℕ × List ℕ)). o >>= (λ field. Some (from_be_bytes w32 field.0, field.1)))
    (free-again 4 h.text after h.size) ∙ ap (λ (n : ℕ). Some (n, after)) (sym h.spells)

pub double_word-found : (before : List ℕ) (r : ℕ × List ℕ) → double_word_in before ≡ Some r → IsDoubleWord r.0 before r.1
double_word-found before r e =
    let b = bind_some (free_in 8 before) (λ field. Some (from_be_bytes w64 field.0, field.1)) r e in
    let f = free-found 8 before b.0 b.1 in
    let same : (from_be_bytes w64 b.0.0, b.0.1) ≡ r = cc in
    subst (λ (q : ℕ × List ℕ). IsDoubleWord q.0 before q.1) same (record { text = b.0.0; whole = f.0; size = f.1; spells = refl })

pub double_word-again : (number : ℕ) (before after : List ℕ) → IsDoubleWord number before after → double_word_in before ≡ Some (number, after)
double_word-again number before after h =
    ap double_word_in h.whole ∙ ap (λ (o : Option (List ℕ × List ℕ)). o >>= (λ field. Some (from_be_bytes w64 field.0, field.1)))
    (free-again 8 h.text after h.size) ∙ ap (λ (n : ℕ). Some (n, after)) (sym h.spells)

pub word-none : (before : List ℕ) → word_in before ≡ None → length before < 4
word-none before e = free-none 4 before (mapped_none (free_in 4 before) (λ field. (from_be_bytes w32 field.0, field.1)) e)

pub word-cut : (before : List ℕ) → length before < 4 → word_in before ≡ None
word-cut before h = ap (λ (o : Option (List ℕ × List ℕ)). o >>= (λ field. Some (from_be_bytes w32 field.0, field.1))) (free-cut 4 before h)

pub double_word-none : (before : List ℕ) → double_word_in before ≡ None → length before < 8
double_word-none before e = free-none 8 before (mapped_none (free_in 8 before) (λ field. (from_be_bytes w64 field.0, field.1)) e)

pub double_word-cut : (before : List ℕ) → length before < 8 → double_word_in before ≡ None
double_word-cut before h = ap (λ (o : Option (List ℕ × List ℕ)). o >>= (λ field. Some (from_be_bytes w64 field.0, field.1))) (free-cut 8 before h)
