-- Lists that grow piece by piece.
use Rattle.std.proofs.Common.{◌≡◌, ℕ, List, [], ◌++◌, length, take, drop, Result, Ok, Err, OnOk, OnErr, ap, sym, ◌∙◌, append_assoc, append-nil}
use Rattle.std.specs.Io.{StartsWith}
use Rattle.std.proofs.Math.Seq.{take-append_seam, take-length}
use Rattle.std.proofs.lemmas.List.{take-append-drop}

-- the new list is the old one and this piece
pub record Gains (old new piece : List ℕ) : Type 0 where
  pub is : new ≡ old ++ piece

pub gains : (old new piece : List ℕ) → new ≡ old ++ piece → Gains old new piece
gains old new piece is = record { is = is }

pub then : {a b c x y : List ℕ} → Gains a b x → Gains b c y → Gains a c (x ++ y)
then {a} {b} {c} {x} {y} first second = record { is = second.is ∙ ap (λ s. s ++ y) first.is ∙ append_assoc a x y }

-- the last piece of a list of pieces
pub alone : {a b x : List ℕ} → Gains a b x → Gains a b (x ++ [])
alone {a} {b} {x} piece = record { is = piece.is ∙ ap (λ y. a ++ y) (sym (append-nil x)) }

pub on_ok : {T E P Q : Type 0} → (r : Result T E) → (P → Q) → OnOk r P → OnOk r Q
on_ok (Ok x) f h = f h
on_ok (Err e) f h = tt

-- LISTS THAT BEGIN AS OTHERS

-- the last list begins as the first one
pub record Begins (first last : List ℕ) : Type 0 where
  pub is : StartsWith last first

pub starts : (first last : List ℕ) → StartsWith last first → Begins first last
starts first last is = record { is = is }

-- a list that gained a piece begins as before
pub begins : {old new piece : List ℕ} → Gains old new piece → Begins old new
begins {old} {new} {piece} gained = record { is = ap (take (length old)) gained.is ∙ take-append_seam old piece }

pub begins_same : (old new : List ℕ) → new ≡ old → Begins old new
begins_same old new is = record { is = ap (take (length old)) is ∙ take-length old }

-- what begins as a list begins as all that this one begins as
pub begins_before : {first next last : List ℕ} → Begins first next → Begins next last → Begins first last
begins_before {first} {next} {last} early late =
    let more = drop (length first) next in
    let rest = drop (length next) last in
    let one : next ≡ first ++ more = sym (take-append-drop (length first) next) ∙ ap (λ l. l ++ more) early.is in
    let two : last ≡ next ++ rest = sym (take-append-drop (length next) last) ∙ ap (λ l. l ++ rest) late.is in
    let all : last ≡ first ++ (more ++ rest) = two ∙ ap (λ l. l ++ rest) one ∙ append_assoc first more rest in
    record { is = ap (take (length first)) all ∙ take-append_seam first (more ++ rest) }

pub on_err : {T E P : Type 0} → (r : Result T E) → P → OnErr r P
on_err (Ok x) h = tt
on_err (Err e) h = h
