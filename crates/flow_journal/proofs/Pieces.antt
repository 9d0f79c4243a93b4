-- What a file node saves: its saves that stand took the front of its puts, in order, and the rest is unsaved.
use Rattle.std.proofs.Common.{◌≡◌, ◌≢◌, ℕ, ◌≤◌, Bool, true, false, not, cond, eqb, List, [], ◌∷◌, ◌++◌, refl, sym, ap, ◌∙◌, subst, arith, append_assoc}
use Rattle.std.proofs.Common.{Some, inl, inr}
use Rattle.std.specs.List.{find}
use Rattle.std.proofs.lemmas.Bool.{and_parts, true≢false, eq-eqb, ne_eqb, eqb-true, eqb-false, cases_Bool}
use Rattle.nd_base.specs.declared.frame.FrameName.{FrameName}
use Rattle.flow_journal.specs.declared.entry.Entry.{Entry}
use Rattle.flow_journal.specs.declared.entry.Entry.TheVariants.{Load, Issue, Take, TakeBlock, Put, Save, Saved, Reclaim}
use Rattle.flow_journal.specs.Setting.{Setting, node}
use Rattle.flow_journal.specs.Pasts.{Past, frame, without, minus, comes_at}
use Rattle.flow_journal.specs.Hands.{takes_up, let_go, hands, hand, standing, is_piece}
use Rattle.flow_journal.specs.Puts.{puts}
use Rattle.flow_journal.specs.Unsaved.{saves, standing_saves, unsaved, is_file}
use Rattle.flow_journal.specs.FirstEntries.{first, is_next}
use Rattle.flow_journal.specs.Histories.{is_legal}
use Rattle.flow_journal.proofs.Steps.{comes_here, comes_elsewhere, next_is, without-head}
use Rattle.flow_journal.proofs.Hands.{takes_up-one, row_of, find-let_go, find-none_is, hands-Apart, hands-more, stood}
use Rattle.flow_journal.proofs.Counts.{hand-standing, still_held, still_other}
use Rattle.flow_journal.proofs.EntryCounts.{count, bit, count-cons, count-let_go, count-let_go-le}
use Rattle.flow_journal.proofs.Jobs.{reclaim_hand}
use Rattle.flow_journal.proofs.Found.{none_counted}
use Rattle.flow_journal.proofs.Rows.{save-facts, first_of-next}

-- ONE PIECE A NODE

pub one-piece : (s : Setting) (P : Past) (v : ℕ) → is_legal s P ≡ true → count (is_piece v) (hands P) ≤ 1
one-piece s [] v h = omega arith
one-piece s (Save r w m k g ∷ P) v h =
    let before = one-piece s P v (and_parts _ _ h).0 in
    let facts = (save-facts s r w m k g P (row_of s (Save r w m k g) P (λ d. refl) h)).piece in
    let one = ap (count (is_piece v)) (hands-more s r (Save r w m k g) P (eq-eqb r r refl) h) ∙ count-cons (is_piece v) (Save r w m k g) (hands P) in
    elim (cases_Bool (eqb w v)) [
      | inl here ↦
          let none : count (is_piece v) (hands P) ≡ 0 =
          subst (λ (u : ℕ). count (is_piece u) (hands P) ≡ 0) (eqb-true w v here) (none_counted (is_piece w) (hands P) facts.none) in
          omega (arith, one, none, ap bit here)
      | inr away ↦ omega (arith, one, before, ap bit away)
    ]
one-piece s (Issue r k ∷ P) v h = omega (arith, one-piece s P v (and_parts _ _ h).0, count-let_go-le (is_piece v) r (hands P))
one-piece s (Put r w m k f ∷ P) v h = omega (arith, one-piece s P v (and_parts _ _ h).0, count-let_go-le (is_piece v) r (hands P))
one-piece s (Saved r w m k ∷ P) v h = omega (arith, one-piece s P v (and_parts _ _ h).0, count-let_go-le (is_piece v) r (hands P))
one-piece s (Reclaim r ∷ P) v h = omega (arith, one-piece s P v (and_parts _ _ h).0, count-let_go-le (is_piece v) r (hands P))
one-piece s (Load r k b n f g x ∷ P) v h = omega (arith, one-piece s P v (and_parts _ _ h).0, count-let_go-le (is_piece v) r (hands P))
one-piece s (Take r w m k ∷ P) v h = omega (arith, one-piece s P v (and_parts _ _ h).0, count-let_go-le (is_piece v) r (hands P))
one-piece s (TakeBlock f x r w m k b n g ∷ P) v h = omega (arith, one-piece s P v (and_parts _ _ h).0, count-let_go-le (is_piece v) r (hands P))
one-piece s (_ ∷ P) v h = one-piece s P v (and_parts _ _ h).0

-- two roles have no two pieces of one node
pub no_two_pieces : (s : Setting) (P : Past) (v r q : ℕ) (e d : Entry) → is_legal s P ≡ true → r ≢ q → hand r P ≡ Some e → hand q P ≡ Some d
    → is_piece v e ≡ true → is_piece v d ≡ false
no_two_pieces s P v r q e d h ne he hd pe =
    let other : find (takes_up q) (let_go r (hands P)) ≡ Some d = find-let_go r q (hands P) ne ∙ hd in
    elim (cases_Bool (is_piece v d)) [
      | inl piece ↦
          absurd (omega (
            arith,
            one-piece s P v h,
            count-let_go (is_piece v) r e (hands P) he,
            count-let_go (is_piece v) q d (let_go r (hands P)) other,
            ap bit pe,
            ap bit piece,
          ))
      | inr none ↦ none
    ]

-- a piece of a node that saves nothing
abbrev is_stray : Setting → Entry → Bool
is_stray s (Save r v m k g) = not (is_file (node s v).work)
is_stray s _ = false

none_stray : (s : Setting) (P : Past) → is_legal s P ≡ true → count (is_stray s) (hands P) ≡ 0
none_stray s [] h = refl
none_stray s (Save r v m k g ∷ P) h =
    let facts = (save-facts s r v m k g P (row_of s (Save r v m k g) P (λ d. refl) h)).piece in
    omega (
      arith,
      none_stray s P (and_parts _ _ h).0,
      count-cons (is_stray s) (Save r v m k g) (let_go r (hands P)),
      count-let_go-le (is_stray s) r (hands P),
      ap (λ (b : Bool). bit (not b)) facts.file,
    )
none_stray s (Issue r k ∷ P) h = omega (arith, none_stray s P (and_parts _ _ h).0, count-let_go-le (is_stray s) r (hands P))
none_stray s (Put r v m k f ∷ P) h = omega (arith, none_stray s P (and_parts _ _ h).0, count-let_go-le (is_stray s) r (hands P))
none_stray s (Saved r v m k ∷ P) h = omega (arith, none_stray s P (and_parts _ _ h).0, count-let_go-le (is_stray s) r (hands P))
none_stray s (Reclaim r ∷ P) h = omega (arith, none_stray s P (and_parts _ _ h).0, count-let_go-le (is_stray s) r (hands P))
none_stray s (Load r k b n f g x ∷ P) h = omega (arith, none_stray s P (and_parts _ _ h).0, count-let_go-le (is_stray s) r (hands P))
none_stray s (Take r w m k ∷ P) h = omega (arith, none_stray s P (and_parts _ _ h).0, count-let_go-le (is_stray s) r (hands P))
none_stray s (TakeBlock f x r w m k b n g ∷ P) h = omega (arith, none_stray s P (and_parts _ _ h).0, count-let_go-le (is_stray s) r (hands P))
none_stray s (_ ∷ P) h = none_stray s P (and_parts _ _ h).0

-- whoever has a piece has it of a file node
pub piece-file : (s : Setting) (r q v m k g : ℕ) (P : Past) → is_legal s P ≡ true → hand r P ≡ Some (Save q v m k g) → is_file (node s v).work ≡ true
piece-file s r q v m k g P h held =
    elim (cases_Bool (is_file (node s v).work)) [
      | inl file ↦ file
      | inr other ↦ absurd (omega (arith, none_stray s P h, count-let_go (is_stray s) r (Save q v m k g) (hands P) held, ap (λ (b : Bool). bit (not b)) other))
    ]

-- SAVES THAT STAND

let_go-here : (r : ℕ) (e : Entry) (es : List Entry) → takes_up r e ≡ true → let_go r (e ∷ es) ≡ es
let_go-here r e es h = rw h refl

let_go-away : (r : ℕ) (e : Entry) (es : List Entry) → takes_up r e ≡ false → let_go r (e ∷ es) ≡ e ∷ let_go r es
let_go-away r e es h = rw h refl

pub let_go-swap : (r q : ℕ) (es : List Entry) → r ≢ q → let_go r (let_go q es) ≡ let_go q (let_go r es)
let_go-swap r q [] ne = refl
let_go-swap r q (e ∷ es) ne =
    elim (cases_Bool (takes_up r e)) [
      | inl at_r ↦
          let off_q : takes_up q e ≡ false = takes_up-one r q e at_r ∙ ne_eqb r q ne in
          ap (let_go r) (let_go-away q e es off_q) ∙ (let_go-here r e (let_go q es) at_r ∙ ap (let_go q) (sym (let_go-here r e es at_r)))
      | inr off_r ↦ elim (cases_Bool (takes_up q e)) [
        | inl at_q ↦ ap (let_go r) (let_go-here q e es at_q) ∙ (sym (let_go-here q e (let_go r es) at_q) ∙ ap (let_go q) (sym (let_go-away r e es off_r)))
        | inr off_q ↦
            ap (let_go r) (let_go-away q e es off_q) ∙ (let_go-away r e (let_go q es) off_r ∙ (ap (λ (xs : List Entry). e ∷ xs) (let_go-swap r q es ne)
            ∙ (sym (let_go-away q e (let_go r es) off_q) ∙ ap (let_go q) (sym (let_go-away r e es off_r)))))
      ]
    ]

comes_after : (v w : ℕ) (x : FrameName) (xs ys : List FrameName) → xs ≡ ys → comes_at v w x xs ≡ comes_at v w x ys
comes_after v w x xs ys h = ap (comes_at v w x) h

saves-same : (v : ℕ) (e : Entry) (xs ys : List Entry) → saves v xs ≡ saves v ys → saves v (e ∷ xs) ≡ saves v (e ∷ ys)
saves-same v (Save r w m k g) xs ys h = comes_after v w (frame m k) (saves v xs) (saves v ys) h
saves-same v _ xs ys h = h

saves-without : (v r : ℕ) (e : Entry) (es : List Entry) → takes_up r e ≡ true → is_piece v e ≡ false → saves v (e ∷ es) ≡ saves v es
saves-without v r (Save q w m k g) es up h = comes_elsewhere v w (frame m k) (saves v es) (eqb-false w v h)
saves-without v r _ es up h = refl

-- a hand that is no piece of the node
pub saves-let_go : (v r : ℕ) (e : Entry) (es : List Entry) → find (takes_up r) es ≡ Some e → is_piece v e ≡ false → saves v (let_go r es) ≡ saves v es
saves-let_go v r e [] h n = refl
saves-let_go v r e (x ∷ es) h n =
    elim (cases_Bool (takes_up r x)) [
      | inl here ↦
          let same : Some x ≡ Some e = rw here at h in
          let is : x ≡ e = cc in
          let none : is_piece v x ≡ false = ap (is_piece v) is ∙ n in
          rw here (sym (saves-without v r x es here none))
      | inr away ↦ rw away (saves-same v x (let_go r es) es (saves-let_go v r e es (rw away at h) n))
    ]

save_is : (q w i j p r v m k g : ℕ) → Save q w i j p ≡ Save r v m k g → (w ≡ v) × (frame i j ≡ frame m k)
save_is q w i j p r v m k g h = let a : w ≡ v = cc in let b : i ≡ m = cc in let c : j ≡ k = cc in (a, cc)

-- the piece in hand is the last of the node's saves that stand
pub last_piece : (s : Setting) (P : Past) (r q v m k g : ℕ) → is_legal s P ≡ true → hand r P ≡ Some (Save q v m k g)
    → saves v (standing P) ≡ saves v (let_go r (standing P)) ++ frame m k ∷ []
last_piece s [] r q v m k g l h = cc
last_piece s (Load p i b n f z x ∷ P) r q v m k g l h =
    elim (cases_Bool (eqb p r)) [
      | inl here ↦ let never : Some (Load p i b n f z x) ≡ Some (Save q v m k g) = rw here at h in cc
      | inr away ↦ rw away (last_piece s P r q v m k g (and_parts _ _ l).0 (still_other r p (Save q v m k g) (hands P) away (rw away at h)))
    ]
last_piece s (Take p w i j ∷ P) r q v m k g l h =
    elim (cases_Bool (eqb p r)) [
      | inl here ↦ let never : Some (Take p w i j) ≡ Some (Save q v m k g) = rw here at h in cc
      | inr away ↦ rw away (last_piece s P r q v m k g (and_parts _ _ l).0 (still_other r p (Save q v m k g) (hands P) away (rw away at h)))
    ]
last_piece s (TakeBlock f x p w i j b n z ∷ P) r q v m k g l h =
    elim (cases_Bool (eqb p r)) [
      | inl here ↦ let never : Some (TakeBlock f x p w i j b n z) ≡ Some (Save q v m k g) = rw here at h in cc
      | inr away ↦ rw away (last_piece s P r q v m k g (and_parts _ _ l).0 (still_other r p (Save q v m k g) (hands P) away (rw away at h)))
    ]
last_piece s (Save p w i j z ∷ P) r q v m k g l h =
    elim (cases_Bool (eqb p r)) [
      | inl here ↦
          let same : Some (Save p w i j z) ≡ Some (Save q v m k g) = rw here at h in
          let is = save_is p w i j z q v m k g cc in
          let took : comes_at v w (frame i j) (saves v (standing P)) ≡ saves v (standing P) ++ frame m k ∷ [] =
          subst (λ (u : ℕ). comes_at v u (frame i j) (saves v (standing P)) ≡ saves v (standing P) ++ frame m k ∷ []) (sym is.0)
          (comes_here v (frame i j) (saves v (standing P)) ∙ ap (λ (a : FrameName). saves v (standing P) ++ a ∷ []) is.1) in
          rw here took
      | inr away ↦
          let before : hand r P ≡ Some (Save q v m k g) = still_other r p (Save q v m k g) (hands P) away (rw away at h) in
          let facts = (save-facts s p w i j z P (row_of s (Save p w i j z) P (λ d. refl) l)).piece in
          let other : w ≢ v =
          λ e. true≢false (sym (eq-eqb v w (sym e)) ∙ find-none_is (takes_up r) (is_piece w) (Save q v m k g) (hands P) facts.none before) in
          let rest = last_piece s P r q v m k g (and_parts _ _ l).0 before in
          rw away (comes_elsewhere v w (frame i j) (saves v (standing P)) other
          ∙ (rest ∙ ap (λ (xs : List FrameName). xs ++ frame m k ∷ []) (sym (comes_elsewhere v w (frame i j) (saves v (let_go r (standing P))) other))))
    ]
last_piece s (Issue p i ∷ P) r q v m k g l h = last_piece s P r q v m k g (and_parts _ _ l).0 (still_held r p (Save q v m k g) (hands P) (hands-Apart P) h).1
last_piece s (Put p w i j f ∷ P) r q v m k g l h =
    last_piece s P r q v m k g (and_parts _ _ l).0 (still_held r p (Save q v m k g) (hands P) (hands-Apart P) h).1
last_piece s (Saved p w i j ∷ P) r q v m k g l h =
    last_piece s P r q v m k g (and_parts _ _ l).0 (still_held r p (Save q v m k g) (hands P) (hands-Apart P) h).1
last_piece s (Reclaim p ∷ P) r q v m k g l h =
    let legal : is_legal s P ≡ true = (and_parts _ _ l).0 in
    let still = still_held r p (Save q v m k g) (hands P) (hands-Apart P) h in
    let e = reclaim_hand s p P l in
    let none : is_piece v e.0 ≡ false = no_two_pieces s P v r p (Save q v m k g) e.0 legal (λ x. still.0 (sym x)) still.1 e.1 (eq-eqb v v refl) in
    let stands : find (takes_up p) (standing P) ≡ Some e.0 = hand-standing s P p e.0 legal e.1 in
    let rest = last_piece s P r q v m k g legal still.1 in
    let front : saves v (let_go p (let_go r (standing P))) ≡ saves v (let_go r (standing P)) =
    saves-let_go v p e.0 (let_go r (standing P)) (find-let_go r p (standing P) (λ x. still.0 (sym x)) ∙ stands) none in
    subst (λ (es : List Entry). saves v es ≡ saves v (let_go r es) ++ frame m k ∷ []) (sym (stood p e.0 P e.1))
    (saves-let_go v p e.0 (standing P) stands none
    ∙ (rest ∙ ap (λ (xs : List FrameName). xs ++ frame m k ∷ []) (sym front ∙ ap (saves v) (let_go-swap p r (standing P) still.0))))
last_piece s (_ ∷ P) r q v m k g l h = last_piece s P r q v m k g (and_parts _ _ l).0 h

-- THE FRONT OF THE PUTS

minus-front : (ys zs : List FrameName) → minus (ys ++ zs) ys ≡ zs
minus-front [] zs = refl
minus-front (y ∷ ys) zs = ap (λ (xs : List FrameName). minus xs ys) (without-head y (ys ++ zs)) ∙ minus-front ys zs

pub minus-rest : (xs ys zs : List FrameName) → xs ≡ ys ++ zs → minus xs ys ≡ zs
minus-rest xs ys zs h = ap (λ (ws : List FrameName). minus ws ys) h ∙ minus-front ys zs

-- what no standing save took
abbrev pub rest_of : ℕ → Past → List FrameName
rest_of v P = minus (puts v P) (standing_saves v P)

abbrev pub IsFront : ℕ → Past → Type 0
IsFront v P = puts v P ≡ standing_saves v P ++ rest_of v P

front-from : (v : ℕ) (P : Past) (zs : List FrameName) → puts v P ≡ standing_saves v P ++ zs → IsFront v P
front-from v P zs h = h ∙ ap (λ (ws : List FrameName). standing_saves v P ++ ws) (sym (minus-rest (puts v P) (standing_saves v P) zs h))

pub unsaved-file : (s : Setting) (v : ℕ) (P : Past) → is_file (node s v).work ≡ true → unsaved s v P ≡ rest_of v P
unsaved-file s v P h = ap (λ (b : Bool). cond b (rest_of v P) []) h

-- a put comes at the end of the rest
puts-Put : (v r m k : ℕ) (f : Bool) (P : Past) → IsFront v P → puts v (Put r v m k f ∷ P) ≡ standing_saves v P ++ (rest_of v P ++ frame m k ∷ [])
puts-Put v r m k f P h =
    comes_here v (frame m k) (puts v P)
    ∙ (ap (λ (xs : List FrameName). xs ++ frame m k ∷ []) h ∙ append_assoc (standing_saves v P) (rest_of v P) (frame m k ∷ []))

-- a save takes the first of the rest
puts-Save : (s : Setting) (v r m k g : ℕ) (P : Past) → IsFront v P → first s P (Save r v m k g) ≡ true
    → puts v P ≡ standing_saves v (Save r v m k g ∷ P) ++ without (frame m k) (rest_of v P)
puts-Save s v r m k g P h row =
    let facts = (save-facts s r v m k g P row).piece in
    let next : is_next (frame m k) (rest_of v P) ≡ true =
    subst (λ (xs : List FrameName). is_next (frame m k) xs ≡ true) (unsaved-file s v P facts.file) (first_of-next (frame m k) (unsaved s v P) facts.front) in
    h ∙ (ap (λ (xs : List FrameName). standing_saves v P ++ xs) (next_is (frame m k) (rest_of v P) next)
    ∙ (sym (append_assoc (standing_saves v P) (frame m k ∷ []) (without (frame m k) (rest_of v P)))
    ∙ ap (λ (xs : List FrameName). xs ++ without (frame m k) (rest_of v P)) (sym (comes_here v (frame m k) (standing_saves v P)))))

-- a piece that is reclaimed is the first of the rest again
puts-Reclaim : (s : Setting) (v r q m k g : ℕ) (P : Past) → IsFront v P → is_legal s P ≡ true → hand r P ≡ Some (Save q v m k g)
    → puts v P ≡ standing_saves v (Reclaim r ∷ P) ++ (frame m k ∷ rest_of v P)
puts-Reclaim s v r q m k g P h legal held =
    h ∙ (ap (λ (xs : List FrameName). xs ++ rest_of v P) (last_piece s P r q v m k g legal held)
    ∙ (append_assoc (saves v (let_go r (standing P))) (frame m k ∷ []) (rest_of v P)
    ∙ ap (λ (es : List Entry). saves v es ++ (frame m k ∷ rest_of v P)) (sym (stood r (Save q v m k g) P held))))

saves-Reclaim : (s : Setting) (v r : ℕ) (e : Entry) (P : Past) → is_legal s P ≡ true → hand r P ≡ Some e → is_piece v e ≡ false
    → standing_saves v (Reclaim r ∷ P) ≡ standing_saves v P
saves-Reclaim s v r e P legal held none = ap (saves v) (stood r e P held) ∙ saves-let_go v r e (standing P) (hand-standing s P r e legal held) none

front-Reclaim : (s : Setting) (v r : ℕ) (e : Entry) (P : Past) → is_legal s P ≡ true → hand r P ≡ Some e → IsFront v P → IsFront v (Reclaim r ∷ P)
front-Reclaim s v r (Save q w m k g) P legal held h =
    elim (cases_Bool (eqb w v)) [
      | inl here ↦
          let at_v : hand r P ≡ Some (Save q v m k g) = subst (λ (u : ℕ). hand r P ≡ Some (Save q u m k g)) (eqb-true w v here) held in
          front-from v (Reclaim r ∷ P) (frame m k ∷ rest_of v P) (puts-Reclaim s v r q m k g P h legal at_v)
      | inr away ↦
          front-from v (Reclaim r ∷ P) (rest_of v P)
          (h ∙ ap (λ (xs : List FrameName). xs ++ rest_of v P) (sym (saves-Reclaim s v r (Save q w m k g) P legal held away)))
    ]
front-Reclaim s v r (Load q k b n f g x) P legal held h =
    front-from v (Reclaim r ∷ P) (rest_of v P)
    (h ∙ ap (λ (xs : List FrameName). xs ++ rest_of v P) (sym (saves-Reclaim s v r (Load q k b n f g x) P legal held refl)))
front-Reclaim s v r (Take q w m k) P legal held h =
    front-from v (Reclaim r ∷ P) (rest_of v P)
    (h ∙ ap (λ (xs : List FrameName). xs ++ rest_of v P) (sym (saves-Reclaim s v r (Take q w m k) P legal held refl)))
front-Reclaim s v r (TakeBlock f x q w m k b n g) P legal held h =
    front-from v (Reclaim r ∷ P) (rest_of v P)
    (h ∙ ap (λ (xs : List FrameName). xs ++ rest_of v P) (sym (saves-Reclaim s v r (TakeBlock f x q w m k b n g) P legal held refl)))
front-Reclaim s v r e P legal held h =
    front-from v (Reclaim r ∷ P) (rest_of v P) (h ∙ ap (λ (xs : List FrameName). xs ++ rest_of v P) (sym (saves-Reclaim s v r e P legal held refl)))

-- the saves that stand took the front of the puts
pub saves-front : (s : Setting) (P : Past) (v : ℕ) → is_legal s P ≡ true → IsFront v P
saves-front s [] v h = refl
saves-front s (Put r w m k f ∷ P) v h =
    let before = saves-front s P v (and_parts _ _ h).0 in
    elim (cases_Bool (eqb w v)) [
      | inl here ↦
          subst (λ (u : ℕ). IsFront v (Put r u m k f ∷ P)) (sym (eqb-true w v here))
          (front-from v (Put r v m k f ∷ P) (rest_of v P ++ frame m k ∷ []) (puts-Put v r m k f P before))
      | inr away ↦ front-from v (Put r w m k f ∷ P) (rest_of v P) (comes_elsewhere v w (frame m k) (puts v P) (eqb-false w v away) ∙ before)
    ]
saves-front s (Save r w m k g ∷ P) v h =
    let before = saves-front s P v (and_parts _ _ h).0 in
    elim (cases_Bool (eqb w v)) [
      | inl here ↦
          let is : w ≡ v = eqb-true w v here in
          let row : first s P (Save r v m k g) ≡ true = subst (λ (u : ℕ). first s P (Save r u m k g) ≡ true) is (row_of s (Save r w m k g) P (λ d. refl) h) in
          subst (λ (u : ℕ). IsFront v (Save r u m k g ∷ P)) (sym is)
          (front-from v (Save r v m k g ∷ P) (without (frame m k) (rest_of v P)) (puts-Save s v r m k g P before row))
      | inr away ↦
          front-from v (Save r w m k g ∷ P) (rest_of v P)
          (before ∙ ap (λ (xs : List FrameName). xs ++ rest_of v P) (sym (comes_elsewhere v w (frame m k) (standing_saves v P) (eqb-false w v away))))
    ]
saves-front s (Reclaim r ∷ P) v h =
    let legal : is_legal s P ≡ true = (and_parts _ _ h).0 in
    let e = reclaim_hand s r P h in
    front-Reclaim s v r e.0 P legal e.1 (saves-front s P v legal)
saves-front s (_ ∷ P) v h = saves-front s P v (and_parts _ _ h).0

-- UNSAVED

pub unsaved-Put : (s : Setting) (r v m k : ℕ) (f : Bool) (P : Past) → is_legal s P ≡ true → is_file (node s v).work ≡ true
    → unsaved s v (Put r v m k f ∷ P) ≡ unsaved s v P ++ frame m k ∷ []
unsaved-Put s r v m k f P h file =
    unsaved-file s v (Put r v m k f ∷ P) file
    ∙ (minus-rest (puts v (Put r v m k f ∷ P)) (standing_saves v P) (rest_of v P ++ frame m k ∷ []) (puts-Put v r m k f P (saves-front s P v h))
    ∙ ap (λ (xs : List FrameName). xs ++ frame m k ∷ []) (sym (unsaved-file s v P file)))

pub unsaved-Put_elsewhere : (s : Setting) (r v w m k : ℕ) (f : Bool) (P : Past) → w ≢ v → unsaved s v (Put r w m k f ∷ P) ≡ unsaved s v P
unsaved-Put_elsewhere s r v w m k f P ne =
    ap (λ (xs : List FrameName). cond (is_file (node s v).work) (minus xs (standing_saves v P)) []) (comes_elsewhere v w (frame m k) (puts v P) ne)

pub unsaved-Save : (s : Setting) (r v m k g : ℕ) (P : Past) → is_legal s P ≡ true → first s P (Save r v m k g) ≡ true
    → unsaved s v P ≡ frame m k ∷ unsaved s v (Save r v m k g ∷ P)
unsaved-Save s r v m k g P h row =
    let facts = (save-facts s r v m k g P row).piece in
    let next : is_next (frame m k) (rest_of v P) ≡ true =
    subst (λ (xs : List FrameName). is_next (frame m k) xs ≡ true) (unsaved-file s v P facts.file) (first_of-next (frame m k) (unsaved s v P) facts.front) in
    unsaved-file s v P facts.file
    ∙ (next_is (frame m k) (rest_of v P) next
    ∙ ap (λ (xs : List FrameName). frame m k ∷ xs) (sym (unsaved-file s v (Save r v m k g ∷ P) facts.file
    ∙ minus-rest (puts v P) (standing_saves v (Save r v m k g ∷ P)) (without (frame m k) (rest_of v P)) (puts-Save s v r m k g P (saves-front s P v h) row))))

pub unsaved-Save_elsewhere : (s : Setting) (r v w m k g : ℕ) (P : Past) → w ≢ v → unsaved s v (Save r w m k g ∷ P) ≡ unsaved s v P
unsaved-Save_elsewhere s r v w m k g P ne =
    ap (λ (ys : List FrameName). cond (is_file (node s v).work) (minus (puts v P) ys) []) (comes_elsewhere v w (frame m k) (standing_saves v P) ne)

pub unsaved-Reclaim : (s : Setting) (r v q m k g : ℕ) (P : Past) → is_legal s P ≡ true → is_file (node s v).work ≡ true → hand r P ≡ Some (Save q v m k g)
    → unsaved s v (Reclaim r ∷ P) ≡ frame m k ∷ unsaved s v P
unsaved-Reclaim s r v q m k g P h file held =
    unsaved-file s v (Reclaim r ∷ P) file
    ∙ (minus-rest (puts v P) (standing_saves v (Reclaim r ∷ P)) (frame m k ∷ rest_of v P) (puts-Reclaim s v r q m k g P (saves-front s P v h) h held)
    ∙ ap (λ (xs : List FrameName). frame m k ∷ xs) (sym (unsaved-file s v P file)))

pub unsaved-Reclaim_other : (s : Setting) (r v : ℕ) (e : Entry) (P : Past) → is_legal s P ≡ true → hand r P ≡ Some e → is_piece v e ≡ false
    → unsaved s v (Reclaim r ∷ P) ≡ unsaved s v P
unsaved-Reclaim_other s r v e P h held none =
    ap (λ (ys : List FrameName). cond (is_file (node s v).work) (minus (puts v P) ys) []) (saves-Reclaim s v r e P h held none)
