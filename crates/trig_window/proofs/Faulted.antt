-- The fault that is read is the fault of the text.
use Rattle.std.proofs.Common.{◌≡◌, ◌≢◌, ℕ, zero, suc, ◌+◌, ◌≤◌, List, [], ◌∷◌, ◌++◌, length, Result, Ok, Err, IfErr, ap, sym, nat_lt}
use Rattle.std.proofs.Common.{subst, ◌∙◌, refl, arith, append_assoc, inl, inr, ◌⊎◌, ⊎_elim, eqb}
use Rattle.std.proofs.lemmas.Bool.{ltb-true, ltb-false, cases_Bool, cond-true, cond-false, eqb-true, eqb-false}
use Rattle.std.proofs.lemmas.List.{append-nil, map-append}
use Rattle.trig_window.specs.Marks.{Symbol}
use Rattle.trig_window.specs.Marks.{Token}
use Rattle.trig_window.specs.Levels as level
use Rattle.trig_window.specs.declared.expression.CalcFault.{CalcFault}
use Rattle.trig_window.specs.declared.expression.CalcFault.TheVariants.{OutOfMemory, TooLong, Unexpected, TooDeep}
use Rattle.nd_base.specs.Trees.{Tree}
use Rattle.trig_window.specs.Symbols.{tokens}
use Rattle.trig_window.specs.Expressions.{◌>>=◌, or_of, sign_in, whole, expression_of, Gives}
use Rattle.trig_window.specs.Grammar.{Rung, at_level, Spells, symbols_of, IsExpression}
use Rattle.trig_window.specs.Faults.{Begins, StopsAt, IsUnexpected, EndsEarly, IsTooDeep, IsFault}
use Rattle.trig_window.proofs.Spelling.{expression_spelled}
use Rattle.trig_window.proofs.Respelling.{Read, finished, respelled, expression_read}
use Rattle.trig_window.proofs.Going.{Goes, or_goes, sign_goes}
use Rattle.trig_window.proofs.Failing.{looser, StopsBy, Fault, bind_err, or_fails, sign_fails}

-- BEGINNINGS

below : (n m : ℕ) → n ≤ suc m → n ≢ suc m → n ≤ m
below n m within apart =
    elim (cases_Bool (nat_lt n (suc m))) [
      | inl less ↦ omega (arith, ltb-true n (suc m) less)
      | inr above ↦ let same : n ≡ suc m = omega (arith, within, ltb-false n (suc m) above) in absurd (apart same)
    ]

up_to : (r : Rung) (xs : List Symbol) (e : Tree) (n m : ℕ) → n ≤ m → Spells n r xs e → Spells m r xs e
up_to r xs e n zero within s = let none : n ≡ 0 = omega (arith, within) in subst (λ k. Spells k r xs e) none s
up_to r xs e n (suc m) within s =
    elim (cases_Bool (eqb n (suc m))) [
      | inl same ↦ subst (λ k. Spells k r xs e) (eqb-true n (suc m) same) s
      | inr other ↦ looser (up_to r xs e n m (below n m within (eqb-false n (suc m) other)) s)
    ]

-- any symbols as those of a text
abbrev placed : List Symbol → List Token
placed [] = []
placed (y ∷ ys) = record { symbol = y; at = 0 } ∷ placed ys

symbols_placed : (ys : List Symbol) → symbols_of (placed ys) ≡ ys
symbols_placed [] = refl
symbols_placed (y ∷ ys) = ap (λ zs. y ∷ zs) (symbols_placed ys)

-- where each reading of these symbols, whatever follows, isn't a whole one, no expression begins with them
unread : (end n : ℕ) (before : List Token) (t : Token) → ((after : List Token) (e : Tree) → or_of (sign_in end n) (before ++ t ∷ after) ≢ Ok (e, []))
    → ¬ Begins n (symbols_of (before ++ t ∷ []))
unread end n before t fails b =
    let front : List Token = before ++ t ∷ [] in
    let ts : List Token = front ++ placed b.others in
    let spelling : symbols_of ts ≡ symbols_of front ++ b.others =
    map-append (λ (u : Token). u.symbol) front (placed b.others) ∙ ap (λ ys. symbols_of front ++ ys) (symbols_placed b.others) in
    let read : or_of (sign_in end n) ts ≡ Ok (b.expression, []) =
    ap (or_of (sign_in end n)) (sym (append-nil ts))
    ∙ finished end n (at_level level.Or) b.expression [] _ refl (respelled end b.spelled ts [] spelling (refl, refl, refl, refl)) in
    fails (placed b.others) b.expression (ap (or_of (sign_in end n)) (sym (append_assoc before (t ∷ []) (placed b.others))) ∙ read)

err_ok : (x : CalcFault) (v : Read) (r : Result Read CalcFault) → r ≡ Err x → r ≢ Ok v
err_ok x v r e h = absurd (cc)

-- a beginning of a beginning
shorter : (free : ℕ) (front more : List Token) → Begins free (symbols_of (front ++ more)) → Begins free (symbols_of front)
shorter free front more b = record {
  others = symbols_of more ++ b.others;
  expression = b.expression;
  spelled = subst (λ xs. Spells free (at_level level.Or) xs b.expression)
      (ap (λ xs. xs ++ b.others) (map-append (λ (t : Token). t.symbol) front more) ∙ append_assoc (symbols_of front) (symbols_of more) b.others) b.spelled;
}

-- ONE FAULT

-- two places of one list
data Places (p q : List Token) (x y : Token) : Type 0 where
  at_one : p ≡ q → x ≡ y → Places p q x y
  in_front : (m : List Token) → q ≡ (p ++ x ∷ []) ++ m → Places p q x y
  behind : (m : List Token) → p ≡ (q ++ y ∷ []) ++ m → Places p q x y

more_places : (u : Token) (p q : List Token) (x y : Token) → Places p q x y → Places (u ∷ p) (u ∷ q) x y
more_places u p q x y (at_one e f) = at_one (ap (λ xs. u ∷ xs) e) f
more_places u p q x y (in_front m e) = in_front m (ap (λ xs. u ∷ xs) e)
more_places u p q x y (behind m e) = behind m (ap (λ xs. u ∷ xs) e)

same_head : (x y : Token) (xs ys : List Token) → ◌≡◌ {A = List Token} (x ∷ xs) (y ∷ ys) → ◌≡◌ {A = Token} x y
same_head x y xs ys h = cc

same_tail : (x y : Token) (xs ys : List Token) → ◌≡◌ {A = List Token} (x ∷ xs) (y ∷ ys) → xs ≡ ys
same_tail x y xs ys h = cc

places_of : (p q : List Token) (x y : Token) (a b : List Token) → p ++ x ∷ a ≡ q ++ y ∷ b → Places p q x y
places_of [] [] x y a b h = at_one refl (same_head x y a b h)
places_of [] (z ∷ q) x y a b h = in_front q (ap (λ u. u ∷ q) (sym (same_head x z a (q ++ y ∷ b) h)))
places_of (z ∷ p) [] x y a b h = behind p (ap (λ u. u ∷ p) (same_head z y (p ++ x ∷ a) b h))
places_of (z ∷ p) (w ∷ q) x y a b h =
    let head : z ≡ w = same_head z w (p ++ x ∷ a) (q ++ y ∷ b) h in
    let tail : p ++ x ∷ a ≡ q ++ y ∷ b = same_tail z w (p ++ x ∷ a) (q ++ y ∷ b) h in
    subst (λ u. Places (z ∷ p) (u ∷ q) x y) head (more_places z p q x y (places_of p q x y a b tail))

record OnePlace (p q : List Token) (x y : Token) : Type 0 where
  fronts : p ≡ q
  found : x ≡ y

by_place : (text : List ℕ) (p q : List Token) (x y : Token) → StopsAt text p x → StopsAt text q y → Places p q x y → OnePlace p q x y
by_place text p q x y s t (at_one e f) = record { fronts = e; found = f }
by_place text p q x y s t (in_front m e) =
    absurd (s.with_it (shorter 32 (p ++ x ∷ []) m (subst (λ ts. Begins 32 (symbols_of ts)) e t.before_it)))
by_place text p q x y s t (behind m e) =
    absurd (t.with_it (shorter 32 (q ++ y ∷ []) m (subst (λ ts. Begins 32 (symbols_of ts)) e s.before_it)))

one_place : (text : List ℕ) (p q : List Token) (x y : Token) → StopsAt text p x → StopsAt text q y → OnePlace p q x y
one_place text p q x y s t = by_place text p q x y s t (places_of p q x y s.after t.after (sym s.whole ∙ t.whole))

-- where an expression begins with the whole text, no symbol stops it
never_stops : (text : List ℕ) (front : List Token) (t : Token) → Begins 32 (symbols_of (tokens text)) → ¬ StopsAt text front t
never_stops text front t b s =
    let all : tokens text ≡ (front ++ t ∷ []) ++ s.after = s.whole ∙ sym (append_assoc front (t ∷ []) s.after) in
    s.with_it (shorter 32 (front ++ t ∷ []) s.after (subst (λ ts. Begins 32 (symbols_of ts)) all b))

-- two symbols that fit nowhere, or ends
same_place : (text : List ℕ) (a b : ℕ) → IsUnexpected text a ⊎ EndsEarly text a → IsUnexpected text b ⊎ EndsEarly text b → a ≡ b
same_place text a b (inl u) (inl v) =
    let one = one_place text u.before v.before u.found v.found u.stops v.stops in
    u.place ∙ ap (λ (t : Token). t.at) one.found ∙ sym v.place
same_place text a b (inl u) (inr v) = absurd (never_stops text u.before u.found v.begins u.stops)
same_place text a b (inr u) (inl v) = absurd (never_stops text v.before v.found u.begins v.stops)
same_place text a b (inr u) (inr v) = u.place ∙ sym v.place

not_deep : (text : List ℕ) (a : ℕ) → IsUnexpected text a ⊎ EndsEarly text a → ¬ IsTooDeep text
not_deep text a (inl u) d =
    let one = one_place text d.before u.before d.found u.found d.stops u.stops in
    u.none 33 (subst (λ ts. Begins 33 (symbols_of ts)) (ap (λ ts. ts ++ d.found ∷ []) one.fronts ∙ ap (λ t. u.before ++ t ∷ []) one.found) d.deeper)
not_deep text a (inr u) d = never_stops text d.before d.found u.begins d.stops

pub one_fault : (text : List ℕ) (f g : CalcFault) → IsFault text f → IsFault text g → f ≡ g
one_fault text OutOfMemory g h k = absurd h
one_fault text TooLong OutOfMemory h k = absurd k
one_fault text TooLong TooLong h k = refl
one_fault text TooLong (Unexpected b) h k = absurd (omega (arith, h, k.0))
one_fault text TooLong TooDeep h k = absurd (omega (arith, h, k.0))
one_fault text (Unexpected a) OutOfMemory h k = absurd k
one_fault text (Unexpected a) TooLong h k = absurd (omega (arith, h.0, k))
one_fault text (Unexpected a) (Unexpected b) h k = ap Unexpected (same_place text a b h.1 k.1)
one_fault text (Unexpected a) TooDeep h k = absurd (not_deep text a h.1 k.1)
one_fault text TooDeep OutOfMemory h k = absurd k
one_fault text TooDeep TooLong h k = absurd (omega (arith, h.0, k))
one_fault text TooDeep (Unexpected b) h k = absurd (not_deep text b k.1 h.1)
one_fault text TooDeep TooDeep h k = refl

whole_begins : (text : List ℕ) (e : Tree) → IsExpression text e → Begins 32 (symbols_of (tokens text))
whole_begins text e h = record {
  others = [];
  expression = e;
  spelled = subst (λ xs. Spells 32 (at_level level.Or) xs e) (sym (append-nil (symbols_of (tokens text)))) h.spelled;
}

none_unexpected : (text : List ℕ) (e : Tree) (a : ℕ) → IsExpression text e → ¬ (IsUnexpected text a ⊎ EndsEarly text a)
none_unexpected text e a h (inl u) = never_stops text u.before u.found (whole_begins text e h) u.stops
none_unexpected text e a h (inr u) = u.none e h

pub not_both : (text : List ℕ) (e : Tree) (f : CalcFault) → IsExpression text e → ¬ IsFault text f
not_both text e OutOfMemory h k = k
not_both text e TooLong h k = let short : length text ≤ 256 = h.short in omega (arith, short, k)
not_both text e (Unexpected a) h k = none_unexpected text e a h k.1
not_both text e TooDeep h k = never_stops text k.1.before k.1.found (whole_begins text e h) k.1.stops

-- THE FAULT THAT IS READ

unexpected : (text : List ℕ) (front back : List Token) (t : Token) → length text ≤ 256 → tokens text ≡ front ++ t ∷ back → Begins 32 (symbols_of front)
    → ((n : ℕ) → 32 ≤ n → (after : List Token) (e : Tree) → or_of (sign_in (length text) n) (front ++ t ∷ after) ≢ Ok (e, []))
    → IsFault text (Unexpected t.at)
unexpected text front back t short whole begins never =
    let none : (n : ℕ) → ¬ Begins n (symbols_of (front ++ t ∷ [])) =
    λ n b. unread (length text) (n + 32) front t (never (n + 32) (omega arith))
    (record { others = b.others; expression = b.expression; spelled = up_to _ _ _ n (n + 32) (omega arith) b.spelled }) in (
      short,
      inl (record {
        before = front;
        found = t;
        stops = record { after = back; whole = whole; before_it = begins; with_it = none 32 };
        none = none;
        place = refl;
      }),
    )

of_stop : (text : List ℕ) (fault : CalcFault) (front back : List Token) → length text ≤ 256 → tokens text ≡ front ++ back → Begins 32 (symbols_of front)
    → StopsBy 32 (length text) (at_level level.Or) (λ n. or_of (sign_in (length text) n)) front fault back → ((e : Tree) → ¬ IsExpression text e)
    → IsFault text fault
of_stop text fault front [] short whole begins stops none =
    let all : front ≡ tokens text = sym (whole ∙ append-nil front) in
    subst (IsFault text) (sym stops)
    (short, inr (record { begins = subst (λ ts. Begins 32 (symbols_of ts)) all begins; none = none; place = refl }))
of_stop text fault front (t ∷ back) short whole begins (inl w) none =
    subst (IsFault text) (sym w.named)
    (unexpected text front back t short whole begins (λ n within after e. err_ok (Unexpected t.at) (e, []) _ (w.again n within after)))
of_stop text fault front (t ∷ back) short whole begins (inr d) none =
    subst (IsFault text) (sym d.named) (
      short,
      record {
        before = front;
        found = t;
        stops = record {
          after = back;
          whole = whole;
          before_it = begins;
          with_it = unread (length text) 32 front t (λ after e. err_ok TooDeep (e, []) _ (d.again after));
        };
        opens = d.opens;
        deeper = record { others = d.others; expression = d.tree; spelled = d.spelled };
      },
    )

of_fault : (text : List ℕ) (fault : CalcFault) → length text ≤ 256
    → Fault 32 (length text) (at_level level.Or) (λ n. or_of (sign_in (length text) n)) (tokens text) fault → ((e : Tree) → ¬ IsExpression text e)
    → IsFault text fault
of_fault text fault short f none =
    of_stop text fault f.front f.back short f.whole (record { others = f.others; expression = f.tree; spelled = f.spelled }) f.stops none

left_over : (e f : Tree) (t : Token) (after : List Token) (r : Result Read CalcFault) → r ≡ Ok (e, t ∷ after) → r ≢ Ok (f, [])
left_over e f t after r a b =
    let p : ◌≡◌ {A = Result Read CalcFault} (Ok (e, t ∷ after)) (Ok (f, [])) = sym a ∙ b in
    let q : ◌≡◌ {A = Read} (e, t ∷ after) (f, []) = cc in
    let none : t ∷ after ≡ [] = ap (λ (x : Read). x.1) q in
    absurd (cc)

-- symbols are left behind an expression
of_rest : (text : List ℕ) (fault : CalcFault) → length text ≤ 256 → (e : Tree) (rest : List Token)
    → Goes 32 (at_level level.Or) (λ n. or_of (sign_in (length text) n)) (tokens text) e rest → whole (e, rest) ≡ Err fault → IsFault text fault
of_rest text fault short e [] g h = absurd (cc)
of_rest text fault short e (t ∷ back) g h =
    let same_fault : ◌≡◌ {A = CalcFault} (Unexpected t.at) fault = cc in
    let begins : Begins 32 (symbols_of g.front) =
    record {
      others = [];
      expression = e;
      spelled = subst (λ xs. Spells 32 (at_level level.Or) xs e) (sym (append-nil (symbols_of g.front))) g.spells;
    } in
    subst (IsFault text) same_fault
    (unexpected text g.front back t short g.whole begins
    (λ n within after f. left_over e f t after _ (g.again n within t back after refl)))

ok_err : (e : Tree) (x : CalcFault) (r : Result Tree CalcFault) → r ≡ Ok e → r ≢ Err x
ok_err e x r a b = absurd (cc)

too_long : (x : CalcFault) → ◌≡◌ {A = Result Tree CalcFault} (Err TooLong) (Err x) → ◌≡◌ {A = CalcFault} TooLong x
too_long x h = cc

pub fault_found : (text : List ℕ) (fault : CalcFault) → expression_of text ≡ Err fault → IsFault text fault
unfolding expression_of
fault_found text fault h =
    let end : ℕ = length text in
    ⊎_elim
    (λ long.
    let same_fault : ◌≡◌ {A = CalcFault} TooLong fault =
    too_long fault (sym (cond-true _ (Err TooLong) (or_of (sign_in end 32) (tokens text) >>= whole) long) ∙ h) in
    subst (IsFault text) same_fault (ltb-true 256 end long))
    (λ fits.
    let short : end ≤ 256 = ltb-false 256 end fits in
    let read : (or_of (sign_in end 32) (tokens text) >>= whole) ≡ Err fault =
    sym (cond-false _ (Err TooLong) (or_of (sign_in end 32) (tokens text) >>= whole) fits) ∙ h in
    let none : (e : Tree) → ¬ IsExpression text e = λ e is. ok_err e fault _ (expression_read text e is) h in
    ⊎_elim (λ e. of_fault text fault short (or_fails 32 end (sign_in end) (sign_goes end 32) (sign_fails end 32) (tokens text) fault e) none)
    (λ b. of_rest text fault short b.0.0 b.0.1 (or_goes 32 (sign_in end) (sign_goes end 32) (tokens text) b.0.0 b.0.1 b.1) b.2)
    (bind_err (or_of (sign_in end 32) (tokens text)) whole fault read))
    (cases_Bool (nat_lt 256 end))

-- THE LAWS

by_read : (text : List ℕ) (r : Result Tree CalcFault) → expression_of text ≡ r → ((e : Tree) × IsExpression text e) ⊎ ((fault : CalcFault) × IsFault text fault)
by_read text (Ok e) h = inl (e, expression_spelled text e h)
by_read text (Err fault) h = inr (fault, fault_found text fault h)

pub one_of_both : (text : List ℕ) → ((e : Tree) × IsExpression text e) ⊎ ((fault : CalcFault) × IsFault text fault)
one_of_both text = by_read text (expression_of text) refl

same_ok : (e f : Tree) → ◌≡◌ {A = Result Tree CalcFault} (Ok e) (Ok f) → ◌≡◌ {A = Tree} e f
same_ok e f p = cc

pub one_expression : (text : List ℕ) (e f : Tree) → IsExpression text e → IsExpression text f → e ≡ f
one_expression text e f h k = same_ok e f (sym (expression_read text e h) ∙ expression_read text f k)

-- the same of a function's answer
pub fault_of : (text : List ℕ) (r : Result Tree CalcFault) → Gives (λ e. e) r (expression_of text) → IfErr r (λ fault. fault ≢ OutOfMemory → IsFault text fault)
fault_of text (Ok e) h = tt
fault_of text (Err OutOfMemory) h = λ other. absurd (other refl)
fault_of text (Err TooLong) h = λ other. fault_found text TooLong h
fault_of text (Err (Unexpected at)) h = λ other. fault_found text (Unexpected at) h
fault_of text (Err TooDeep) h = λ other. fault_found text TooDeep h
