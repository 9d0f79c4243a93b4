-- What a role has made of a log, as the log grows by moves of one role.
use Rattle.std.proofs.Common.{◌≡◌, ◌≢◌, ℕ, ◌+◌, ◌≤◌, Bool, true, false, eqb, List, [], ◌∷◌, ◌++◌, length, take, drop, sym, refl, ap, ◌∙◌, subst, arith, append-nil}
use Rattle.std.proofs.Common.{eq-eqb, ne_eqb}
use Rattle.std.specs.Prelude.{Option}
use Rattle.turn_lock.specs.declared.rule.Moves.{Moves}
use Rattle.turn_lock.specs.Logs.{GoesOn, IsMove, is_of, put_if, moves_from, moves_of, is_of_after}
use Rattle.turn_lock.specs.Views.{one_if, times, adds}
use Rattle.turn_lock.specs.Rule.{AreExact}
use Rattle.turn_lock.specs.Steps.{FirstOnce}
use Rattle.turn_lock.specs.Passes.{MayCall}

module _ {E : Type 0} (begins : E → Option ℕ) where
  put_append : (b : Bool) (e : E) (xs ys : List E) → put_if begins b e (xs ++ ys) ≡ put_if begins b e xs ++ ys
  put_append true e xs ys = refl
  put_append false e xs ys = refl

  moves_append : (r : ℕ) (b : Bool) (xs ys : List E)
      → moves_from begins r b (xs ++ ys) ≡ moves_from begins r b xs ++ moves_from begins r (is_of_after begins r b xs) ys
  moves_append r b [] ys = refl
  moves_append r b (x ∷ xs) ys = let c : Bool = is_of begins (begins x) r b in
      ap (put_if begins c x) (moves_append r c xs ys) ∙ put_append c x (moves_from begins r c xs) (moves_from begins r (is_of_after begins r c xs) ys)

  -- the first entry, where it says this of its role
  abbrev step_by : ℕ → Bool → E → List E → Option ℕ → List E
  step_by r b e es o = put_if begins (is_of begins o r b) e (moves_from begins r (is_of begins o r b) es)

  goes_on_own : (r : ℕ) (es : List E) → GoesOn begins es → moves_from begins r true es ≡ es
  goes_on_own r [] on = refl
  goes_on_own r (e ∷ es) on = ap (step_by r true e es) on.0 ∙ ap (λ l. e ∷ l) (goes_on_own r es on.1)

  goes_on_other : (r : ℕ) (es : List E) → GoesOn begins es → moves_from begins r false es ≡ []
  goes_on_other r [] on = refl
  goes_on_other r (e ∷ es) on = ap (step_by r false e es) on.0 ∙ goes_on_other r es on.1

  move_own : (r : ℕ) (b : Bool) (es : List E) → IsMove begins r es → moves_from begins r b es ≡ es
  move_own r b [] is = refl
  move_own r b (e ∷ es) is = ap (step_by r b e es) is.0
      ∙ ap (λ c. put_if begins c e (moves_from begins r c es)) (eq-eqb r r refl) ∙ ap (λ l. e ∷ l) (goes_on_own r es is.1)

  move_other : (q r : ℕ) (b : Bool) (es : List E) → q ≢ r → IsMove begins q es → moves_from begins r b es ≡ []
  move_other q r b [] ne is = refl
  move_other q r b (e ∷ es) ne is = ap (step_by r b e es) is.0
      ∙ ap (λ c. put_if begins c e (moves_from begins r c es)) (ne_eqb q r ne) ∙ goes_on_other r es is.1

  -- entries of moves of one role, wherever they come to stand
  pub record AreOf (r : ℕ) (new : List E) : Type 0 where
    pub own : (b : Bool) → moves_from begins r b new ≡ new
    pub other : (q : ℕ) (b : Bool) → r ≢ q → moves_from begins q b new ≡ []

  pub of_move : (r : ℕ) (new : List E) → IsMove begins r new → AreOf r new
  of_move r new is = record { own = λ b. move_own r b new is; other = λ q b ne. move_other r q b new ne is }

  pub of_both : (r : ℕ) (xs ys : List E) → AreOf r xs → AreOf r ys → AreOf r (xs ++ ys)
  of_both r xs ys a b = record {
    own = λ c. let d : Bool = is_of_after begins r c xs in
        moves_append r c xs ys ∙ (ap (λ l. l ++ moves_from begins r d ys) (a.own c) ∙ ap (λ l. xs ++ l) (b.own d));
    other = λ q c ne. let d : Bool = is_of_after begins q c xs in
        moves_append q c xs ys ∙ (ap (λ l. l ++ moves_from begins q d ys) (a.other q c ne) ∙ b.other q d ne);
  }

  pub grown_own : (r : ℕ) (log new : List E) → AreOf r new → moves_of begins r (log ++ new) ≡ moves_of begins r log ++ new
  grown_own r log new is = moves_append r false log new
      ∙ ap (λ l. moves_of begins r log ++ l) (is.own (is_of_after begins r false log))

  pub grown_other : (q r : ℕ) (log new : List E) → q ≢ r → AreOf q new → moves_of begins r (log ++ new) ≡ moves_of begins r log
  grown_other q r log new ne is = moves_append r false log new
      ∙ (ap (λ l. moves_of begins r log ++ l) (is.other r (is_of_after begins r false log) ne) ∙ append-nil (moves_of begins r log))

  put_few : (b : Bool) (e : E) (es : List E) → length (put_if begins b e es) ≤ 1 + length es
  put_few true e es = omega arith
  put_few false e es = omega arith

  few_from : (r : ℕ) (b : Bool) (log : List E) → length (moves_from begins r b log) ≤ length log
  few_from r b [] = omega arith
  few_from r b (e ∷ es) = let c : Bool = is_of begins (begins e) r b in let put = put_few c e (moves_from begins r c es) in
      let more = few_from r c es in omega arith

  -- a role has made no more than all have
  pub moves_few : (r : ℕ) (log : List E) → length (moves_of begins r log) ≤ length log
  moves_few r log = few_from r false log

  -- a move of a role that isn't among them
  pub exact_other : (r : ℕ) (log new : List E) (ms : List (Moves E))
      → AreOf r new → times r ms ≡ 0 → AreExact begins log ms → AreExact begins (log ++ new) ms
  exact_other r log new [] is none made = tt
  exact_other r log new (m ∷ ms) is none made =
      let ne : r ≢ m.role = λ e. (let one : one_if (eqb m.role r) ≡ 1 = ap one_if (eq-eqb m.role r (sym e)) in omega arith) in
      (grown_other r m.role log new ne is ∙ made.0, exact_other r log new ms is (omega arith) made.1)

  -- a move of the first of them
  pub exact_adds : (m : Moves E) (ms : List (Moves E)) (log new : List E)
      → AreOf m.role new → times m.role ms ≡ 0 → AreExact begins log (m ∷ ms) → AreExact begins (log ++ new) (adds new (m ∷ ms))
  exact_adds m ms log new is none made =
      (grown_own m.role log new is ∙ ap (λ l. l ++ new) made.0, exact_other m.role log new ms is none made.1)

  -- a move of the first of a pass's roles
  pub exact_first : (made : List (Moves E)) (r : ℕ) (may : List E → Type 0) (log new : List E) → MayCall r may made
      → AreOf r new → FirstOnce made → AreExact begins log made → AreExact begins (log ++ new) (adds new made)
  exact_first [] r may log new asked is once exact = tt
  exact_first (m ∷ ms) r may log new asked is once exact = exact_adds m ms log new (subst (λ q. AreOf q new) (sym asked.0) is) once exact

  pub exact_append : (log : List E) (xs ys : List (Moves E)) → AreExact begins log xs → AreExact begins log ys → AreExact begins log (xs ++ ys)
  exact_append log [] ys a b = b
  exact_append log (x ∷ xs) ys a b = (a.0, exact_append log xs ys a.1 b)

  pub exact_take : (log : List E) (xs : List (Moves E)) → AreExact begins log xs → AreExact begins log (take 1 xs)
  exact_take log [] a = tt
  exact_take log (x ∷ xs) a = (a.0, tt)

  pub exact_drop : (log : List E) (xs : List (Moves E)) → AreExact begins log xs → AreExact begins log (drop 1 xs)
  exact_drop log [] a = tt
  exact_drop log (x ∷ xs) a = a.1
