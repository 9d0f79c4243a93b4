-- The lock's log and a board's: the one is the other, the oldest entry first.
use Rattle.std.proofs.Common.{◌≡◌, ℕ, Bool, true, false, List, [], ◌∷◌, ◌++◌, refl, sym, ap, ◌∙◌, subst, Option, Some, None, if◌then◌else◌}
use Rattle.std.specs.Prelude.{reverse}
use Rattle.std.proofs.lemmas.List.{reverse-append, append-nil}
use Rattle.board_rules.specs.declared.told.Told.{Told}
use Rattle.board_rules.specs.States.{BoardState}
use Rattle.flow_journal.specs.MoveLists.{begun_by, is_some_of}
use Rattle.board_rules.specs.Movers.{first_some, mover, moves_by, IsMoveOf}
use Rattle.turn_lock.specs.Logs.{GoesOn, IsMove, is_of, put_if, moves_from, moves_of, is_of_after}
use Rattle.flow_roles.specs.Operations.{begins_of}

of-snoc : (r : ℕ) (before : Bool) (xs : List Told) (t : Told)
    → is_of_after begins_of r before (xs ++ t ∷ []) ≡ is_of begins_of (begins_of t) r (is_of_after begins_of r before xs)
of-snoc r before [] t = refl
of-snoc r before (x ∷ xs) t = of-snoc r (is_of begins_of (begins_of x) r before) xs t

put-append : (b : Bool) (x : Told) (xs ys : List Told) → put_if begins_of b x (xs ++ ys) ≡ put_if begins_of b x xs ++ ys
put-append true x xs ys = refl
put-append false x xs ys = refl

moves-snoc : (r : ℕ) (before : Bool) (xs : List Told) (t : Told)
    → moves_from begins_of r before (xs ++ t ∷ [])
    ≡ moves_from begins_of r before xs ++ put_if begins_of (is_of begins_of (begins_of t) r (is_of_after begins_of r before xs)) t []
moves-snoc r before [] t = refl
moves-snoc r before (x ∷ xs) t =
    let b = is_of begins_of (begins_of x) r before in
    ap (λ (ys : List Told). put_if begins_of b x ys) (moves-snoc r b xs t)
    ∙ put-append b x (moves_from begins_of r b xs) (put_if begins_of (is_of begins_of (begins_of t) r (is_of_after begins_of r b xs)) t [])

of-first : (o m : Option ℕ) (r : ℕ) → is_of begins_of o r (is_some_of r m) ≡ is_some_of r (first_some o m)
of-first (Some q) m r = refl
of-first None m r = refl

after-mover : (r : ℕ) (b : BoardState) → is_of_after begins_of r false (reverse b) ≡ is_some_of r (mover b)
after-mover r [] = refl
after-mover r (t ∷ b) =
    ap (λ (xs : List Told). is_of_after begins_of r false xs) (reverse-append (t ∷ []) b)
    ∙ (of-snoc r false (reverse b) t
    ∙ (ap (λ (c : Bool). is_of begins_of (begins_of t) r c) (after-mover r b) ∙ of-first (begun_by t.entry) (mover b) r))

put-one : (c : Bool) (t : Told) (xs : List Told) → reverse (xs ++ put_if begins_of c t []) ≡ (if c then t ∷ reverse xs else reverse xs)
put-one true t xs = reverse-append xs (t ∷ [])
put-one false t xs = ap reverse (append-nil xs)

-- the moves of a role, by the lock's words and by the board's
pub moves_reversed : (r : ℕ) (b : BoardState) → reverse (moves_of begins_of r (reverse b)) ≡ moves_by r b
moves_reversed r [] = refl
moves_reversed r (t ∷ b) =
    let c : Bool = is_some_of r (first_some (begun_by t.entry) (mover b)) in
    ap (λ (xs : List Told). reverse (moves_of begins_of r xs)) (reverse-append (t ∷ []) b)
    ∙ (ap reverse (moves-snoc r false (reverse b) t)
    ∙ (put-one (is_of begins_of (begins_of t) r (is_of_after begins_of r false (reverse b))) t (moves_of begins_of r (reverse b))
    ∙ (ap (λ (d : Bool). if d then t ∷ reverse (moves_of begins_of r (reverse b)) else reverse (moves_of begins_of r (reverse b)))
    (ap (λ (d : Bool). is_of begins_of (begins_of t) r d) (after-mover r b) ∙ of-first (begun_by t.entry) (mover b) r)
    ∙ ap (λ (xs : List Told). if c then t ∷ xs else xs) (moves_reversed r b))))

-- a move, the other way round
goes-snoc : (xs : List Told) (t : Told) → GoesOn begins_of xs → begins_of t ≡ None → GoesOn begins_of (xs ++ t ∷ [])
goes-snoc [] t g h = (h, tt)
goes-snoc (x ∷ xs) t g h = (g.0, goes-snoc xs t g.1 h)

move-snoc : (r : ℕ) (x : Told) (xs : List Told) (t : Told) → IsMove begins_of r (x ∷ xs) → begins_of t ≡ None → IsMove begins_of r ((x ∷ xs) ++ t ∷ [])
move-snoc r x xs t m h = (m.0, goes-snoc xs t m.1 h)

-- a list that isn't empty, with a move in it
Begun : ℕ → List Told → Type 0
Begun r xs = (x : Told) × (ys : List Told) × (xs ≡ x ∷ ys) × IsMove begins_of r (x ∷ ys)

begun : (r : ℕ) (t : Told) (b : BoardState) → IsMoveOf r (t ∷ b) → Begun r (reverse (t ∷ b))
unfolding Begun
begun r t [] h = (t, [], refl, (h, tt))
begun r t (u ∷ b) h =
    let m = begun r u b h.1 in
    (m.0, m.1 ++ t ∷ [], reverse-append (t ∷ []) (u ∷ b) ∙ ap (λ (xs : List Told). xs ++ t ∷ []) m.2, move-snoc r m.0 m.1 t m.3 h.0)

pub move_reversed : (r : ℕ) (b : BoardState) → IsMoveOf r b → IsMove begins_of r (reverse b)
unfolding Begun
move_reversed r [] h = tt
move_reversed r (t ∷ b) h =
    let m = begun r t b h in
    subst (λ (xs : List Told). IsMove begins_of r xs) (sym m.2) m.3
