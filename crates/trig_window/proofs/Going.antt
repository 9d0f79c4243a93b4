-- What is read stays so, whatever stands behind the symbol that ends it.
use Rattle.std.proofs.Common.{◌≡◌, ℕ, zero, suc, ◌+◌, ◌≤◌, true, List, [], ◌∷◌, ◌++◌, length, Option, Some, None, Result, Ok, ap, sym}
use Rattle.std.proofs.Common.{subst, ◌∙◌, refl, arith, append_assoc, length-append, inl, inr, ◌⊎◌, ⊎_elim}
use Rattle.std.specs.Option.{option_map}
use Rattle.std.proofs.lemmas.List.{append-nil, map-append}
use Rattle.nd_base.specs.declared.graph.Sign.{Sign}
use Rattle.nd_base.specs.declared.graph.Sign.TheVariants.{Or, And, Equal, NotEqual, Below, AtMost, Above, AtLeast, Plus, Minus, Times}
use Rattle.trig_window.specs.Marks.{Symbol}
use Rattle.trig_window.specs.Marks as symbol
use Rattle.trig_window.specs.Marks.{Token}
use Rattle.trig_window.specs.Levels.{Level}
use Rattle.trig_window.specs.Levels as level
use Rattle.trig_window.specs.declared.expression.CalcFault.{CalcFault}
use Rattle.nd_base.specs.Trees.{Tree, number, letter_a, letter_b, not_of, neg_of, two}
use Rattle.trig_window.specs.Expressions.{◌>>=◌, Reader, level_sign, is_level, joins, joined, most, chain, parts, product_of, sum_of, comparison_of, and_of, or_of}
use Rattle.trig_window.specs.Expressions.{closed, closed_by, begun, sign_in}
use Rattle.trig_window.specs.Grammar.{Rung, at_level, in_front, part_rung, left_rung, Spells, is_number, is_letter_a, is_letter_b, is_not, is_neg}
use Rattle.trig_window.specs.Grammar.{is_enclosed, is_part, is_two, symbols_of}
use Rattle.trig_window.proofs.Spelling.{bind_ok, Joined, joined_some, chain-zero, closed-ok}
use Rattle.trig_window.proofs.Respelling.{Read, chain-none, chain-some, chain-zero_left, parts-ok, joined_sign, sign_in-first, sign_in-inner, deeper_of}

-- A front of the symbols is read as the expression, and with as many or more open also where others stand behind the next
-- symbol. `read n` reads with n open at once.
pub record Goes (free : ℕ) (r : Rung) (read : ℕ → Reader) (ts : List Token) (e : Tree) (rest : List Token) : Type 0 where
  pub front : List Token
  pub whole : ts ≡ front ++ rest
  pub spells : Spells free r (symbols_of front) e
  pub again : (n : ℕ) → free ≤ n → (u : Token) (us after : List Token) → rest ≡ u ∷ us → read n (front ++ u ∷ after) ≡ Ok (e, u ∷ after)

-- TWO RUNS OF A CHAIN

-- both may join as often, or each as often as it has symbols
pub data Counts (n m : ℕ) (ts us : List Token) : Type 0 where
  same : n ≡ m → Counts n m ts us
  enough : length ts ≤ n → length us ≤ m → Counts n m ts us

counts_of : (l : Level) (ts us : List Token) → Counts (most l (length ts)) (most l (length us)) ts us
counts_of level.Or ts us = enough (omega arith) (omega arith)
counts_of level.And ts us = enough (omega arith) (omega arith)
counts_of level.Comparison ts us = same refl
counts_of level.Sum ts us = enough (omega arith) (omega arith)
counts_of level.Product ts us = enough (omega arith) (omega arith)

abbrev pub Limit : Level → ℕ → Type 0
Limit level.Comparison count = count ≤ 1
Limit level.Or count = Unit {0}
Limit level.And count = Unit {0}
Limit level.Sum count = Unit {0}
Limit level.Product count = Unit {0}

limit_of : (l : Level) (n : ℕ) → Limit l (most l n)
limit_of level.Or n = tt
limit_of level.And n = tt
limit_of level.Comparison n = omega arith
limit_of level.Sum n = tt
limit_of level.Product n = tt

lower : (l : Level) (count : ℕ) → Limit l (suc count) → Limit l count
lower level.Or count h = tt
lower level.And count h = tt
lower level.Comparison count h = omega (arith, h)
lower level.Sum count h = tt
lower level.Product count h = tt

-- what may stand on the left, unless nothing more may join
abbrev pub OnLeft : (free : ℕ) (l : Level) (count : ℕ) (done : List Token) (left : Tree) → Type 0
OnLeft free l count done left = (count ≡ 0) ⊎ Spells free (left_rung l) (symbols_of done) left

first_left : (free : ℕ) (l : Level) (xs : List Symbol) (e : Tree) → Spells free (part_rung l) xs e → Spells free (left_rung l) xs e
first_left free level.Or xs e h = is_part level.Or h
first_left free level.And xs e h = is_part level.And h
first_left free level.Comparison xs e h = h
first_left free level.Sum xs e h = is_part level.Sum h
first_left free level.Product xs e h = is_part level.Product h

next_left : (free : ℕ) (l : Level) (count : ℕ) (done : List Token) (left : Tree) → Limit l (suc count) → Spells free (at_level l) (symbols_of done) left
    → OnLeft free l count done left
next_left free level.Or count done left h s = inr s
next_left free level.And count done left h s = inr s
next_left free level.Comparison count done left h s = inl (omega (arith, h))
next_left free level.Sum count done left h s = inr s
next_left free level.Product count done left h s = inr s

-- these symbols are read as the left side, and the chain goes on with the others, of which only the first counts
abbrev pub Reach : (free : ℕ) (l : Level) (part : ℕ → Reader) (count : ℕ) (left : Tree) (done ts : List Token) → Type 0
Reach free l part count left done ts = (n : ℕ) → free ≤ n → (u : Token) (us after : List Token) → ts ≡ u ∷ us
    → (m : ℕ) × Counts count m ts (u ∷ after) × (parts l (part n) (done ++ u ∷ after) ≡ chain l (part n) m left (u ∷ after))

pub record State (free : ℕ) (l : Level) (part : ℕ → Reader) (count : ℕ) (left : Tree) (done ts : List Token) : Type 0 where
  pub spells : Spells free (at_level l) (symbols_of done) left
  pub on_left : OnLeft free l count done left
  pub limit : Limit l count
  pub reach : Reach free l part count left done ts

-- behind the first part
pub first_state : (free : ℕ) (l : Level) (part : ℕ → Reader) (ts : List Token) (e : Tree) (rest : List Token) → (g : Goes free (part_rung l) part ts e rest)
    → State free l part (most l (length rest)) e g.front rest
first_state free l part ts e rest g = record {
  spells = is_part l g.spells;
  on_left = inr (first_left free l (symbols_of g.front) e g.spells);
  limit = limit_of l (length rest);
  reach = λ n within u us after is. (
    most l (length (u ∷ after)),
    counts_of l rest (u ∷ after),
    parts-ok l (part n) (g.front ++ u ∷ after) e (u ∷ after) (g.again n within u us after is),
  );
}

-- one part more: the other run joins it, too
join_again : (l : Level) (part : Reader) (count m : ℕ) (left : Tree) (t : Token) (s : Sign) (js : List Token) (front : List Token) (right : Tree)
    (rest : List Token) (u : Token) (after : List Token) → t.symbol ≡ symbol.Sign s → is_level l (level_sign s) ≡ true → js ≡ front ++ rest
    → part (front ++ u ∷ after) ≡ Ok (right, u ∷ after) → Counts (suc count) m (t ∷ js) (t ∷ (front ++ u ∷ after))
    → (k : ℕ) × Counts count k rest (u ∷ after)
    × (chain l part m left (t ∷ (front ++ u ∷ after)) ≡ chain l part k (two s left right) (u ∷ after))
join_again l part count zero left t s js front right rest u after y c w h (same e) = absurd (omega (arith, e))
join_again l part count zero left t s js front right rest u after y c w h (enough a b) = absurd (omega (arith, b))
join_again l part count (suc k) left t s js front right rest u after y c w h counts = (
  k,
  fewer counts,
  chain-some l part k left (t ∷ (front ++ u ∷ after)) (s, front ++ u ∷ after) (joined_sign l t (front ++ u ∷ after) s y c)
      ∙ ap (λ r. r >>= λ x. chain l part k (two s left x.0) x.1) h,
)
  where
    fewer : Counts (suc count) (suc k) (t ∷ js) (t ∷ (front ++ u ∷ after)) → Counts count k rest (u ∷ after)
    fewer (same e) = same (omega (arith, e))
    fewer (enough a b) =
        let more : length js ≡ length front + length rest = ap length w ∙ length-append front rest in
        let others : length (front ++ u ∷ after) ≡ length front + length (u ∷ after) = length-append front (u ∷ after) in
        enough (omega (arith, a, more)) (omega (arith, b, others))

pub next_state : (free : ℕ) (l : Level) (part : ℕ → Reader) (count : ℕ) (left : Tree) (done ts : List Token) (j : Sign × List Token) (right : Tree)
    (rest : List Token) → State free l part (suc count) left done ts → (sign : Joined l ts j) → (g : Goes free (part_rung l) part j.1 right rest)
    → State free l part count (two j.0 left right) (done ++ sign.token ∷ g.front) rest
next_state free l part count left done ts j right rest state sign g =
    let spelling : symbols_of (done ++ sign.token ∷ g.front) ≡ symbols_of done ++ symbol.Sign j.0 ∷ symbols_of g.front =
    map-append (λ (t : Token). t.symbol) done (sign.token ∷ g.front) ∙ ap (λ y. symbols_of done ++ y ∷ symbols_of g.front) sign.symbol_is in
    let side : Spells free (left_rung l) (symbols_of done) left = ⊎_elim (λ none. absurd (omega (arith, none))) (λ s. s) state.on_left in
    let spelled : Spells free (at_level l) (symbols_of (done ++ sign.token ∷ g.front)) (two j.0 left right) =
    subst (λ xs. Spells free (at_level l) xs (two j.0 left right)) (sym spelling) (is_two l j.0 sign.level_is side g.spells) in
    record {
      spells = spelled;
      on_left = next_left free l count (done ++ sign.token ∷ g.front) (two j.0 left right) state.limit spelled;
      limit = lower l count state.limit;
      reach = λ n within u us after is.
          let tail : List Token = g.front ++ u ∷ after in
          let before = state.reach n within sign.token j.1 tail sign.whole in
          let counts : Counts (suc count) before.0 (sign.token ∷ j.1) (sign.token ∷ tail) =
          subst (λ xs. Counts (suc count) before.0 xs (sign.token ∷ tail)) sign.whole before.1 in
          let next =
          join_again l (part n) count before.0 left sign.token j.0 j.1 g.front right rest u after sign.symbol_is sign.level_is g.whole
          (g.again n within u us after is) counts in
          (next.0, next.1, ap (parts l (part n)) (append_assoc done (sign.token ∷ g.front) (u ∷ after)) ∙ before.2 ∙ next.2);
    }

-- A CHAIN THAT ENDS

pub record GoesOn (free : ℕ) (l : Level) (part : ℕ → Reader) (done ts : List Token) (e : Tree) (rest : List Token) : Type 0 where
  pub more : List Token
  pub whole : ts ≡ more ++ rest
  pub spells : Spells free (at_level l) (symbols_of (done ++ more)) e
  pub again : (n : ℕ) → free ≤ n → (u : Token) (us after : List Token) → rest ≡ u ∷ us
      → parts l (part n) ((done ++ more) ++ u ∷ after) ≡ Ok (e, u ∷ after)

-- which symbol is first decides whether a chain ends
none_again : (l : Level) (u : Token) (us after : List Token) → joined l (u ∷ us) ≡ None → joined l (u ∷ after) ≡ None
none_again l u us after h = by_sign (joins l u.symbol) refl
  where
    by_sign : (o : Option Sign) → joins l u.symbol ≡ o → joined l (u ∷ after) ≡ None
    by_sign None e = ap (option_map (λ (s : Sign). (s, after))) e
    by_sign (Some s) e =
        let found : joined l (u ∷ us) ≡ Some (s, us) = ap (option_map (λ (s : Sign). (s, us))) e in
        absurd (cc)

ends_again : (l : Level) (part : Reader) (count m : ℕ) (left : Tree) (u : Token) (us after : List Token) → Counts count m (u ∷ us) (u ∷ after)
    → (joined l (u ∷ us) ≡ None) ⊎ (count ≡ 0) → chain l part m left (u ∷ after) ≡ Ok (left, u ∷ after)
ends_again l part count m left u us after counts (inl none) = chain-none l part m left (u ∷ after) (none_again l u us after none)
ends_again l part count m left u us after (same e) (inr over) =
    ap (λ k. chain l part k left (u ∷ after)) (sym e ∙ over) ∙ chain-zero_left l part left (u ∷ after)
ends_again l part count m left u us after (enough a b) (inr over) = absurd (omega (arith, a, over))

-- the chain ends here
stands : (free : ℕ) (l : Level) (part : ℕ → Reader) (count : ℕ) (left : Tree) (done ts : List Token) (e : Tree) (rest : List Token)
    → State free l part count left done ts → (joined l ts ≡ None) ⊎ (count ≡ 0) → ◌≡◌ {A = Read} (left, ts) (e, rest) → GoesOn free l part done ts e rest
stands free l part count left done ts e rest state over p =
    let all : done ++ [] ≡ done = append-nil done in
    let same_tree : left ≡ e = ap (λ (q : Read). q.0) p in
    let same_rest : ts ≡ rest = ap (λ (q : Read). q.1) p in
    record {
      more = [];
      whole = same_rest;
      spells = subst (λ xs. Spells free (at_level l) (symbols_of xs) e) (sym all)
          (subst (λ f. Spells free (at_level l) (symbols_of done) f) same_tree state.spells);
      again = λ n within u us after is.
          let at : ts ≡ u ∷ us = same_rest ∙ is in
          let reach = state.reach n within u us after at in
          let counts : Counts count reach.0 (u ∷ us) (u ∷ after) = subst (λ xs. Counts count reach.0 xs (u ∷ after)) at reach.1 in
          let none : (joined l (u ∷ us) ≡ None) ⊎ (count ≡ 0) = subst (λ xs. (joined l xs ≡ None) ⊎ (count ≡ 0)) at over in
          ap (λ xs. parts l (part n) (xs ++ u ∷ after)) all
          ∙ reach.2
          ∙ ends_again l (part n) count reach.0 left u us after counts none
          ∙ ap (λ f. Ok (f, u ∷ after)) same_tree;
    }

-- what follows a part more
passes : (free : ℕ) (l : Level) (part : ℕ → Reader) (done ts : List Token) (j : Sign × List Token) (right : Tree) (back : List Token) (e : Tree)
    (rest : List Token) → (sign : Joined l ts j) → (g : Goes free (part_rung l) part j.1 right back)
    → GoesOn free l part (done ++ sign.token ∷ g.front) back e rest → GoesOn free l part done ts e rest
passes free l part done ts j right back e rest sign g on =
    let all : (done ++ sign.token ∷ g.front) ++ on.more ≡ done ++ (sign.token ∷ (g.front ++ on.more)) = append_assoc done (sign.token ∷ g.front) on.more in
    record {
      more = sign.token ∷ (g.front ++ on.more);
      whole = sign.whole ∙ ap (λ xs. sign.token ∷ xs) (g.whole ∙ ap (λ xs. g.front ++ xs) on.whole ∙ sym (append_assoc g.front on.more rest));
      spells = subst (λ xs. Spells free (at_level l) (symbols_of xs) e) all on.spells;
      again = λ n within u us after is. ap (λ xs. parts l (part n) (xs ++ u ∷ after)) (sym all) ∙ on.again n within u us after is;
    }

abbrev pub PartGoes : (free : ℕ) (l : Level) (part : ℕ → Reader) → Type 0
PartGoes free l part = (ts : List Token) (e : Tree) (rest : List Token) → part free ts ≡ Ok (e, rest) → Goes free (part_rung l) part ts e rest

by_joined : (free : ℕ) (l : Level) (part : ℕ → Reader) → PartGoes free l part → (count : ℕ) (e : Tree) (rest : List Token)
    → ((left : Tree) (done ts : List Token) → State free l part count left done ts → chain l (part free) count left ts ≡ Ok (e, rest)
    → GoesOn free l part done ts e rest) → (left : Tree) (done ts : List Token) → State free l part (suc count) left done ts
    → chain l (part free) (suc count) left ts ≡ Ok (e, rest) → (o : Option (Sign × List Token)) → joined l ts ≡ o → GoesOn free l part done ts e rest
by_joined free l part H count e rest next left done ts state h None o =
    let p : ◌≡◌ {A = Result Read CalcFault} (Ok (left, ts)) (Ok (e, rest)) = sym (chain-none l (part free) (suc count) left ts o) ∙ h in
    let q : ◌≡◌ {A = Read} (left, ts) (e, rest) = cc in
    stands free l part (suc count) left done ts e rest state (inl o) q
by_joined free l part H count e rest next left done ts state h (Some j) o =
    let b =
    bind_ok (part free j.1) (λ right. chain l (part free) count (two j.0 left right.0) right.1) (e, rest)
    (sym (chain-some l (part free) count left ts j o) ∙ h) in
    let sign = joined_some l ts j o in
    let g = H j.1 b.0.0 b.0.1 b.1 in
    passes free l part done ts j b.0.0 b.0.1 e rest sign g
    (next (two j.0 left b.0.0) (done ++ sign.token ∷ g.front) b.0.1 (next_state free l part count left done ts j b.0.0 b.0.1 state sign g) b.2)

chain_goes : (free : ℕ) (l : Level) (part : ℕ → Reader) → PartGoes free l part → (count : ℕ) (e : Tree) (rest : List Token) (left : Tree)
    (done ts : List Token) → State free l part count left done ts → chain l (part free) count left ts ≡ Ok (e, rest) → GoesOn free l part done ts e rest
chain_goes free l part H zero e rest left done ts state h =
    stands free l part zero left done ts e rest state (inr refl) (chain-zero l (part free) left ts e rest h)
chain_goes free l part H (suc count) e rest left done ts state h =
    by_joined free l part H count e rest (chain_goes free l part H count e rest) left done ts state h (joined l ts) refl

pub parts_go : (free : ℕ) (l : Level) (part : ℕ → Reader) → PartGoes free l part → (ts : List Token) (e : Tree) (rest : List Token)
    → parts l (part free) ts ≡ Ok (e, rest) → Goes free (at_level l) (λ n. parts l (part n)) ts e rest
unfolding parts
parts_go free l part H ts e rest h =
    let b = bind_ok (part free ts) (λ first. chain l (part free) (most l (length first.1)) first.0 first.1) (e, rest) h in
    let g = H ts b.0.0 b.0.1 b.1 in
    let on = chain_goes free l part H (most l (length b.0.1)) e rest b.0.0 g.front b.0.1 (first_state free l part ts b.0.0 b.0.1 g) b.2 in
    record {
      front = g.front ++ on.more;
      whole = g.whole ∙ ap (λ xs. g.front ++ xs) on.whole ∙ sym (append_assoc g.front on.more rest);
      spells = on.spells;
      again = on.again;
    }

-- THE LEVELS

abbrev pub SignGoes : (free : ℕ) (sign : ℕ → Reader) → Type 0
SignGoes free sign = (ts : List Token) (e : Tree) (rest : List Token) → sign free ts ≡ Ok (e, rest) → Goes free in_front sign ts e rest

pub product_goes : (free : ℕ) (sign : ℕ → Reader) → SignGoes free sign → PartGoes free level.Sum (λ n. product_of (sign n))
product_goes free sign H = parts_go free level.Product sign H

pub sum_goes : (free : ℕ) (sign : ℕ → Reader) → SignGoes free sign → PartGoes free level.Comparison (λ n. sum_of (sign n))
sum_goes free sign H = parts_go free level.Sum (λ n. product_of (sign n)) (product_goes free sign H)

pub comparison_goes : (free : ℕ) (sign : ℕ → Reader) → SignGoes free sign → PartGoes free level.And (λ n. comparison_of (sign n))
comparison_goes free sign H = parts_go free level.Comparison (λ n. sum_of (sign n)) (sum_goes free sign H)

pub and_goes : (free : ℕ) (sign : ℕ → Reader) → SignGoes free sign → PartGoes free level.Or (λ n. and_of (sign n))
and_goes free sign H = parts_go free level.And (λ n. comparison_of (sign n)) (comparison_goes free sign H)

pub or_goes : (free : ℕ) (sign : ℕ → Reader) → SignGoes free sign → (ts : List Token) (e : Tree) (rest : List Token) → or_of (sign free) ts ≡ Ok (e, rest)
    → Goes free (at_level level.Or) (λ n. or_of (sign n)) ts e rest
or_goes free sign H = parts_go free level.Or (λ n. and_of (sign n)) (and_goes free sign H)

-- SIGNS

abbrev SignAt : (end free : ℕ) → Type 0
SignAt end free = (ts : List Token) (e : Tree) (rest : List Token) → sign_in end free ts ≡ Ok (e, rest) → Goes free in_front (sign_in end) ts e rest

-- an atom is read at once
atom_goes : (end free : ℕ) (t : Token) (ts : List Token) (e : Tree) (rest : List Token) (y : Symbol) (f : Tree) → t.symbol ≡ y
    → Spells free in_front (y ∷ []) f → ((deeper : Option Reader) (us : List Token) → begun end t.at deeper y us ≡ Ok (f, us))
    → ◌≡◌ {A = Result Read CalcFault} (Ok (f, ts)) (Ok (e, rest)) → Goes free in_front (sign_in end) (t ∷ ts) e rest
atom_goes end free t ts e rest y f a s b p =
    let q : ◌≡◌ {A = Read} (f, ts) (e, rest) = cc in
    let same_tree : f ≡ e = ap (λ (q : Read). q.0) q in
    record {
      front = t ∷ [];
      whole = ap (λ (q : Read). t ∷ q.1) q;
      spells = subst (λ z. Spells free in_front (z ∷ []) e) (sym a) (subst (λ g. Spells free in_front (y ∷ []) g) same_tree s);
      again = λ n within u us after is.
          sign_in-first end n t (u ∷ after) y a ∙ b (deeper_of end n) (u ∷ after) ∙ ap (λ g. Ok (g, u ∷ after)) same_tree;
    }

-- with one more open
under : (free : ℕ) (P : ℕ → Type 0) → ((m : ℕ) → free ≤ m → P (suc m)) → (n : ℕ) → suc free ≤ n → P n
under free P h zero within = absurd (omega (arith, within))
under free P h (suc m) within = h m (omega (arith, within))

not_goes : (end free : ℕ) (t : Token) (ts : List Token) (e : Tree) (rest : List Token) → SignAt end free → t.symbol ≡ symbol.Not
    → ◌≡◌ {A = Result Read CalcFault} (sign_in end free ts >>= λ x. Ok (not_of x.0, x.1)) (Ok (e, rest)) → Goes (suc free) in_front (sign_in end) (t ∷ ts) e rest
not_goes end free t ts e rest H a h =
    let b = bind_ok (sign_in end free ts) (λ x. Ok (not_of x.0, x.1)) (e, rest) h in
    let q : ◌≡◌ {A = Read} (not_of b.0.0, b.0.1) (e, rest) = cc in
    let g = H ts b.0.0 b.0.1 b.1 in
    let same_tree : not_of b.0.0 ≡ e = ap (λ (q : Read). q.0) q in
    let same_rest : b.0.1 ≡ rest = ap (λ (q : Read). q.1) q in
    record {
      front = t ∷ g.front;
      whole = ap (λ xs. t ∷ xs) g.whole ∙ ap (λ xs. t ∷ (g.front ++ xs)) same_rest;
      spells = subst (λ z. Spells (suc free) in_front (z ∷ symbols_of g.front) e) (sym a)
          (subst (λ f. Spells (suc free) in_front (symbol.Not ∷ symbols_of g.front) f) same_tree (is_not g.spells));
      again = under free (λ n. (u : Token) (us after : List Token) → rest ≡ u ∷ us → sign_in end n (t ∷ (g.front ++ u ∷ after)) ≡ Ok (e, u ∷ after))
          (λ m within u us after is.
          sign_in-inner end m t (g.front ++ u ∷ after) symbol.Not a
          ∙ ap (λ r. r >>= λ x. Ok (not_of x.0, x.1)) (g.again m within u us after (same_rest ∙ is))
          ∙ ap (λ f. Ok (f, u ∷ after)) same_tree);
    }

neg_goes : (end free : ℕ) (t : Token) (ts : List Token) (e : Tree) (rest : List Token) → SignAt end free → t.symbol ≡ symbol.Sign Minus
    → ◌≡◌ {A = Result Read CalcFault} (sign_in end free ts >>= λ x. Ok (neg_of x.0, x.1)) (Ok (e, rest)) → Goes (suc free) in_front (sign_in end) (t ∷ ts) e rest
neg_goes end free t ts e rest H a h =
    let b = bind_ok (sign_in end free ts) (λ x. Ok (neg_of x.0, x.1)) (e, rest) h in
    let q : ◌≡◌ {A = Read} (neg_of b.0.0, b.0.1) (e, rest) = cc in
    let g = H ts b.0.0 b.0.1 b.1 in
    let same_tree : neg_of b.0.0 ≡ e = ap (λ (q : Read). q.0) q in
    let same_rest : b.0.1 ≡ rest = ap (λ (q : Read). q.1) q in
    record {
      front = t ∷ g.front;
      whole = ap (λ xs. t ∷ xs) g.whole ∙ ap (λ xs. t ∷ (g.front ++ xs)) same_rest;
      spells = subst (λ z. Spells (suc free) in_front (z ∷ symbols_of g.front) e) (sym a)
          (subst (λ f. Spells (suc free) in_front (symbol.Sign Minus ∷ symbols_of g.front) f) same_tree (is_neg g.spells));
      again = under free (λ n. (u : Token) (us after : List Token) → rest ≡ u ∷ us → sign_in end n (t ∷ (g.front ++ u ∷ after)) ≡ Ok (e, u ∷ after))
          (λ m within u us after is.
          sign_in-inner end m t (g.front ++ u ∷ after) (symbol.Sign Minus) a
          ∙ ap (λ r. r >>= λ x. Ok (neg_of x.0, x.1)) (g.again m within u us after (same_rest ∙ is))
          ∙ ap (λ f. Ok (f, u ∷ after)) same_tree);
    }

open_goes : (end free : ℕ) (t : Token) (ts : List Token) (e : Tree) (rest : List Token) → SignAt end free → t.symbol ≡ symbol.Open
    → ◌≡◌ {A = Result Read CalcFault} (or_of (sign_in end free) ts >>= λ x. closed end x.1 >>= λ back. Ok (x.0, back)) (Ok (e, rest))
    → Goes (suc free) in_front (sign_in end) (t ∷ ts) e rest
open_goes end free t ts e rest H a h =
    let b = bind_ok (or_of (sign_in end free) ts) (λ x. closed end x.1 >>= λ back. Ok (x.0, back)) (e, rest) h in
    let k = bind_ok (closed end b.0.1) (λ back. Ok (b.0.0, back)) (e, rest) b.2 in
    let q : ◌≡◌ {A = Read} (b.0.0, k.0) (e, rest) = cc in
    let same_tree : b.0.0 ≡ e = ap (λ (q : Read). q.0) q in
    let same_rest : k.0 ≡ rest = ap (λ (q : Read). q.1) q in
    let c = closed-ok end b.0.1 k.0 k.1 in
    let g = or_goes free (sign_in end) H ts b.0.0 b.0.1 b.1 in
    let spelling : symbols_of (g.front ++ c.0 ∷ []) ≡ symbols_of g.front ++ symbol.Close ∷ [] =
    map-append (λ (u : Token). u.symbol) g.front (c.0 ∷ []) ∙ ap (λ y. symbols_of g.front ++ y ∷ []) c.2 in
    record {
      front = t ∷ (g.front ++ c.0 ∷ []);
      whole =
          ap (λ xs. t ∷ xs) (g.whole ∙ ap (λ xs. g.front ++ xs) c.1 ∙ sym (append_assoc g.front (c.0 ∷ []) k.0))
          ∙ ap (λ xs. t ∷ ((g.front ++ c.0 ∷ []) ++ xs)) same_rest;
      spells = subst (λ z. Spells (suc free) in_front (z ∷ symbols_of (g.front ++ c.0 ∷ [])) e) (sym a)
          (subst (λ xs. Spells (suc free) in_front (symbol.Open ∷ xs) e) (sym spelling)
          (subst (λ f. Spells (suc free) in_front (symbol.Open ∷ (symbols_of g.front ++ symbol.Close ∷ [])) f) same_tree (is_enclosed g.spells)));
      again = under free
          (λ n. (u : Token) (us after : List Token) → rest ≡ u ∷ us → sign_in end n (t ∷ ((g.front ++ c.0 ∷ []) ++ u ∷ after)) ≡ Ok (e, u ∷ after))
          (λ m within u us after is.
          sign_in-inner end m t ((g.front ++ c.0 ∷ []) ++ u ∷ after) symbol.Open a
          ∙ ap (λ xs. or_of (sign_in end m) xs >>= λ x. closed end x.1 >>= λ back. Ok (x.0, back)) (append_assoc g.front (c.0 ∷ []) (u ∷ after))
          ∙ ap (λ r. r >>= λ x. closed end x.1 >>= λ back. Ok (x.0, back)) (g.again m within c.0 k.0 (u ∷ after) c.1)
          ∙ ap (λ y. closed_by c.0 (u ∷ after) y >>= λ back. Ok (b.0.0, back)) c.2
          ∙ ap (λ f. Ok (f, u ∷ after)) same_tree);
    }

-- what begins with a symbol
no_room : (end : ℕ) (t : Token) (ts : List Token) (e : Tree) (rest : List Token) (y : Symbol) → t.symbol ≡ y → begun end t.at None y ts ≡ Ok (e, rest)
    → Goes 0 in_front (sign_in end) (t ∷ ts) e rest
no_room end t ts e rest (symbol.Number v) a h = atom_goes end 0 t ts e rest (symbol.Number v) (number v) a (is_number v) (λ deeper us. refl) h
no_room end t ts e rest symbol.A a h = atom_goes end 0 t ts e rest symbol.A letter_a a is_letter_a (λ deeper us. refl) h
no_room end t ts e rest symbol.B a h = atom_goes end 0 t ts e rest symbol.B letter_b a is_letter_b (λ deeper us. refl) h
no_room end t ts e rest symbol.Not a h = cc
no_room end t ts e rest (symbol.Sign Minus) a h = cc
no_room end t ts e rest (symbol.Sign Or) a h = cc
no_room end t ts e rest (symbol.Sign And) a h = cc
no_room end t ts e rest (symbol.Sign Equal) a h = cc
no_room end t ts e rest (symbol.Sign NotEqual) a h = cc
no_room end t ts e rest (symbol.Sign Below) a h = cc
no_room end t ts e rest (symbol.Sign AtMost) a h = cc
no_room end t ts e rest (symbol.Sign Above) a h = cc
no_room end t ts e rest (symbol.Sign AtLeast) a h = cc
no_room end t ts e rest (symbol.Sign Plus) a h = cc
no_room end t ts e rest (symbol.Sign Times) a h = cc
no_room end t ts e rest symbol.Open a h = cc
no_room end t ts e rest symbol.Close a h = cc
no_room end t ts e rest symbol.Unknown a h = cc

some_room : (end free : ℕ) (t : Token) (ts : List Token) (e : Tree) (rest : List Token) → SignAt end free → (y : Symbol) → t.symbol ≡ y
    → begun end t.at (Some (sign_in end free)) y ts ≡ Ok (e, rest) → Goes (suc free) in_front (sign_in end) (t ∷ ts) e rest
some_room end free t ts e rest H (symbol.Number v) a h =
    atom_goes end (suc free) t ts e rest (symbol.Number v) (number v) a (is_number v) (λ deeper us. refl) h
some_room end free t ts e rest H symbol.A a h = atom_goes end (suc free) t ts e rest symbol.A letter_a a is_letter_a (λ deeper us. refl) h
some_room end free t ts e rest H symbol.B a h = atom_goes end (suc free) t ts e rest symbol.B letter_b a is_letter_b (λ deeper us. refl) h
some_room end free t ts e rest H symbol.Not a h = not_goes end free t ts e rest H a h
some_room end free t ts e rest H (symbol.Sign Minus) a h = neg_goes end free t ts e rest H a h
some_room end free t ts e rest H (symbol.Sign Or) a h = cc
some_room end free t ts e rest H (symbol.Sign And) a h = cc
some_room end free t ts e rest H (symbol.Sign Equal) a h = cc
some_room end free t ts e rest H (symbol.Sign NotEqual) a h = cc
some_room end free t ts e rest H (symbol.Sign Below) a h = cc
some_room end free t ts e rest H (symbol.Sign AtMost) a h = cc
some_room end free t ts e rest H (symbol.Sign Above) a h = cc
some_room end free t ts e rest H (symbol.Sign AtLeast) a h = cc
some_room end free t ts e rest H (symbol.Sign Plus) a h = cc
some_room end free t ts e rest H (symbol.Sign Times) a h = cc
some_room end free t ts e rest H symbol.Open a h = open_goes end free t ts e rest H a h
some_room end free t ts e rest H symbol.Close a h = cc
some_room end free t ts e rest H symbol.Unknown a h = cc

pub sign_goes : (end free : ℕ) → SignGoes free (sign_in end)
unfolding sign_in
sign_goes end free [] e rest h = cc
sign_goes end zero (t ∷ ts) e rest h = no_room end t ts e rest t.symbol refl h
sign_goes end (suc free) (t ∷ ts) e rest h = some_room end free t ts e rest (sign_goes end free) t.symbol refl h
