-- Where reading stops: the symbols before it go on to an expression, and with it no reading comes further.
use Rattle.std.proofs.Common.{◌≡◌, ℕ, zero, suc, ◌≤◌, true, List, [], ◌∷◌, ◌++◌, length, Option, Some, None, Result, Ok, Err, ap, sym}
use Rattle.std.proofs.Common.{subst, ◌∙◌, refl, arith, append_assoc, inl, inr, ◌⊎◌, ⊎_elim}
use Rattle.std.proofs.lemmas.List.{append-nil, map-append}
use Rattle.nd_base.specs.declared.graph.Sign.{Sign}
use Rattle.nd_base.specs.declared.graph.Sign.TheVariants.{Or, And, Equal, NotEqual, Below, AtMost, Above, AtLeast, Plus, Minus, Times}
use Rattle.trig_window.specs.Marks.{Symbol}
use Rattle.trig_window.specs.Marks as symbol
use Rattle.trig_window.specs.Marks.{Token}
use Rattle.trig_window.specs.Levels.{Level}
use Rattle.trig_window.specs.Levels as level
use Rattle.trig_window.specs.declared.expression.CalcFault.{CalcFault}
use Rattle.trig_window.specs.declared.expression.CalcFault.TheVariants.{Unexpected, TooDeep}
use Rattle.nd_base.specs.Trees.{Tree, letter_a, not_of, neg_of, two}
use Rattle.trig_window.specs.Expressions.{◌>>=◌, Reader, level_sign, is_level, joined, most, chain, parts, product_of, sum_of, comparison_of, and_of, or_of}
use Rattle.trig_window.specs.Expressions.{closed, closed_by, begun, sign_in}
use Rattle.trig_window.specs.Grammar.{Rung, at_level, in_front, part_rung, left_rung, Spells, is_number, is_letter_a, is_letter_b, is_not, is_neg}
use Rattle.trig_window.specs.Grammar.{is_enclosed, is_part, is_two, symbols_of}
use Rattle.trig_window.specs.Faults.{Opens, opens_not, opens_minus, opens_parenthesis}
use Rattle.trig_window.proofs.Spelling.{Joined, joined_some}
use Rattle.trig_window.proofs.Respelling.{Read, chain-none, chain-some, chain-zero_left, joined_sign, sign_in-first, sign_in-last, sign_in-inner, deeper_of}
use Rattle.trig_window.proofs.Going.{Goes, Counts, same, enough, State, first_state, next_state, PartGoes, product_goes, sum_goes, comparison_goes, and_goes, or_goes}
use Rattle.trig_window.proofs.Going.{SignGoes, sign_goes}

-- MORE MAY BE OPEN

pub looser : {free : ℕ} {r : Rung} {xs : List Symbol} {e : Tree} → Spells free r xs e → Spells (suc free) r xs e
looser (is_number v) = is_number v
looser is_letter_a = is_letter_a
looser is_letter_b = is_letter_b
looser (is_not d) = is_not (looser d)
looser (is_neg d) = is_neg (looser d)
looser (is_enclosed d) = is_enclosed (looser d)
looser (is_part l d) = is_part l (looser d)
looser (is_two l s h d f) = is_two l s h (looser d) (looser f)

-- WHERE READING STOPS

-- the symbol fits nowhere, however many may be open
pub record Wrong (free : ℕ) (read : ℕ → Reader) (front : List Token) (t : Token) (fault : CalcFault) : Type 0 where
  pub named : fault ≡ Unexpected t.at
  pub again : (n : ℕ) → free ≤ n → (after : List Token) → read n (front ++ t ∷ after) ≡ Err (Unexpected t.at)

-- the symbol opens one more than may be open
pub record Deep (free : ℕ) (r : Rung) (read : ℕ → Reader) (front : List Token) (t : Token) (fault : CalcFault) : Type 0 where
  pub named : fault ≡ TooDeep
  pub opens : Opens t.symbol
  pub others : List Symbol
  pub tree : Tree
  pub spelled : Spells (suc free) r (symbols_of (front ++ t ∷ []) ++ others) tree
  pub again : (after : List Token) → read free (front ++ t ∷ after) ≡ Err TooDeep

abbrev pub StopsBy : (free end : ℕ) (r : Rung) (read : ℕ → Reader) (front : List Token) (fault : CalcFault) → List Token → Type 0
StopsBy free end r read front fault [] = fault ≡ Unexpected end
StopsBy free end r read front fault (t ∷ back) = Wrong free read front t fault ⊎ Deep free r read front t fault

pub record Fault (free end : ℕ) (r : Rung) (read : ℕ → Reader) (ts : List Token) (fault : CalcFault) : Type 0 where
  pub front : List Token
  pub back : List Token
  pub whole : ts ≡ front ++ back
  pub others : List Symbol
  pub tree : Tree
  pub spelled : Spells free r (symbols_of front ++ others) tree
  pub stops : StopsBy free end r read front fault back

-- INSIDE OTHER SYMBOLS

-- what is spelled with some symbols in front and behind
abbrev pub Around : (free inner : ℕ) (r q : Rung) (pre : List Token) (behind : List Symbol) → Type 0
Around free inner r q pre behind = (xs : List Symbol) (e : Tree) → Spells inner q xs e → (f : Tree) × Spells free r (symbols_of pre ++ (xs ++ behind)) f

-- what stops the reading inside stops it
abbrev pub Hands : (free inner : ℕ) (read part : ℕ → Reader) (pre : List Token) → Type 0
Hands free inner read part pre =
    (n : ℕ) → free ≤ n → (m : ℕ) × (inner ≤ m) × ((ts : List Token) (x : CalcFault) → part m ts ≡ Err x → read n (pre ++ ts) ≡ Err x)

abbrev pub HandsHere : (free inner : ℕ) (read part : ℕ → Reader) (pre : List Token) → Type 0
HandsHere free inner read part pre = (ts : List Token) (x : CalcFault) → part inner ts ≡ Err x → read free (pre ++ ts) ≡ Err x

regroup : (pre ts : List Token) (xs ys : List Symbol) → symbols_of pre ++ ((symbols_of ts ++ xs) ++ ys) ≡ symbols_of (pre ++ ts) ++ (xs ++ ys)
regroup pre ts xs ys =
    ap (λ zs. symbols_of pre ++ zs) (append_assoc (symbols_of ts) xs ys)
    ∙ sym (append_assoc (symbols_of pre) (symbols_of ts) (xs ++ ys))
    ∙ ap (λ zs. zs ++ (xs ++ ys)) (sym (map-append (λ (t : Token). t.symbol) pre ts))

stops_around : (free inner end : ℕ) (r q : Rung) (read part : ℕ → Reader) (pre front : List Token) (behind : List Symbol) (fault : CalcFault)
    → Around (suc free) (suc inner) r q pre behind → Hands free inner read part pre → HandsHere free inner read part pre → (back : List Token)
    → StopsBy inner end q part front fault back → StopsBy free end r read (pre ++ front) fault back
stops_around free inner end r q read part pre front behind fault around hands here [] h = h
stops_around free inner end r q read part pre front behind fault around hands here (t ∷ back) (inl w) =
    inl (record {
      named = w.named;
      again = λ n within after.
          let h = hands n within in
          ap (read n) (append_assoc pre front (t ∷ after)) ∙ h.2 (front ++ t ∷ after) (Unexpected t.at) (w.again h.0 h.1 after);
    })
stops_around free inner end r q read part pre front behind fault around hands here (t ∷ back) (inr d) =
    let a = around (symbols_of (front ++ t ∷ []) ++ d.others) d.tree d.spelled in
    inr (record {
      named = d.named;
      opens = d.opens;
      others = d.others ++ behind;
      tree = a.0;
      spelled = subst (λ xs. Spells (suc free) r xs a.0)
          (regroup pre (front ++ t ∷ []) d.others behind ∙ ap (λ xs. symbols_of xs ++ (d.others ++ behind)) (sym (append_assoc pre front (t ∷ [])))) a.1;
      again = λ after. ap (read free) (append_assoc pre front (t ∷ after)) ∙ here (front ++ t ∷ after) TooDeep (d.again after);
    })

pub fault_around : (free inner end : ℕ) (r q : Rung) (read part : ℕ → Reader) (pre ts us : List Token) (behind : List Symbol) (fault : CalcFault)
    → us ≡ pre ++ ts → Around free inner r q pre behind → Around (suc free) (suc inner) r q pre behind → Hands free inner read part pre
    → HandsHere free inner read part pre → Fault inner end q part ts fault → Fault free end r read us fault
fault_around free inner end r q read part pre ts us behind fault is around more hands here f =
    let a = around (symbols_of f.front ++ f.others) f.tree f.spelled in
    record {
      front = pre ++ f.front;
      back = f.back;
      whole = is ∙ ap (λ xs. pre ++ xs) f.whole ∙ sym (append_assoc pre f.front f.back);
      others = f.others ++ behind;
      tree = a.0;
      spelled = subst (λ xs. Spells free r xs a.0) (regroup pre f.front f.others behind) a.1;
      stops = stops_around free inner end r q read part pre f.front behind fault more hands here f.back f.stops;
    }

-- A LEVEL

abbrev pub PartFails : (free end : ℕ) (l : Level) (part : ℕ → Reader) → Type 0
PartFails free end l part = (ts : List Token) (fault : CalcFault) → part free ts ≡ Err fault → Fault free end (part_rung l) part ts fault

parts-err : (l : Level) (part : Reader) (ts : List Token) (x : CalcFault) → part ts ≡ Err x → parts l part ts ≡ Err x
unfolding parts
parts-err l part ts x h = ap (λ r. r >>= λ first. chain l part (most l (length first.1)) first.0 first.1) h

part_around : (free : ℕ) (l : Level) → Around free free (at_level l) (part_rung l) [] []
part_around free l xs e h = (e, subst (λ ys. Spells free (at_level l) ys e) (sym (append-nil xs)) (is_part l h))

-- the first part fails
part_fault : (free end : ℕ) (l : Level) (part : ℕ → Reader) (ts : List Token) (fault : CalcFault) → Fault free end (part_rung l) part ts fault
    → Fault free end (at_level l) (λ n. parts l (part n)) ts fault
part_fault free end l part ts fault f =
    fault_around free free end (at_level l) (part_rung l) (λ n. parts l (part n)) part [] ts ts [] fault refl (part_around free l) (part_around (suc free) l)
    (λ n within. (n, within, λ us x h. parts-err l (part n) us x h)) (λ us x h. parts-err l (part free) us x h) f

-- behind a sign
side_around : (free : ℕ) (l : Level) (done : List Token) (left : Tree) (t : Token) (s : Sign) → t.symbol ≡ symbol.Sign s
    → is_level l (level_sign s) ≡ true → Spells free (left_rung l) (symbols_of done) left → Around free free (at_level l) (part_rung l) (done ++ t ∷ []) []
side_around free l done left t s y c h xs e g =
    let spelling : symbols_of done ++ symbol.Sign s ∷ xs ≡ symbols_of (done ++ t ∷ []) ++ (xs ++ []) =
    ap (λ z. symbols_of done ++ z ∷ xs) (sym y)
    ∙ sym (append_assoc (symbols_of done) (t.symbol ∷ []) xs)
    ∙ ap (λ zs. zs ++ xs) (sym (map-append (λ (u : Token). u.symbol) done (t ∷ [])))
    ∙ ap (λ zs. symbols_of (done ++ t ∷ []) ++ zs) (sym (append-nil xs)) in
    (two s left e, subst (λ ys. Spells free (at_level l) ys (two s left e)) spelling (is_two l s c h g))

-- a chain that has come to a sign fails with the part behind it
joined_fails : (l : Level) (part : Reader) (count m : ℕ) (left : Tree) (t : Token) (s : Sign) (js us : List Token) (x : CalcFault)
    → t.symbol ≡ symbol.Sign s → is_level l (level_sign s) ≡ true → Counts (suc count) m (t ∷ js) (t ∷ us) → part us ≡ Err x
    → chain l part m left (t ∷ us) ≡ Err x
joined_fails l part count zero left t s js us x y c (same e) h = absurd (omega (arith, e))
joined_fails l part count zero left t s js us x y c (enough a b) h = absurd (omega (arith, b))
joined_fails l part count (suc k) left t s js us x y c counts h =
    chain-some l part k left (t ∷ us) (s, us) (joined_sign l t us s y c) ∙ ap (λ r. r >>= λ v. chain l part k (two s left v.0) v.1) h

side_fault : (free end : ℕ) (l : Level) (part : ℕ → Reader) (count : ℕ) (left : Tree) (done ts : List Token) (j : Sign × List Token) (fault : CalcFault)
    → State free l part (suc count) left done ts → Joined l ts j → Fault free end (part_rung l) part j.1 fault
    → Fault free end (at_level l) (λ n. parts l (part n)) (done ++ ts) fault
side_fault free end l part count left done ts j fault state sign f =
    let t = sign.token in
    let side : Spells free (left_rung l) (symbols_of done) left = ⊎_elim (λ none. absurd (omega (arith, none))) (λ s. s) state.on_left in
    let whole : done ++ ts ≡ (done ++ t ∷ []) ++ j.1 = ap (λ xs. done ++ xs) sign.whole ∙ sym (append_assoc done (t ∷ []) j.1) in
    let fails : (n : ℕ) → free ≤ n → (us : List Token) (x : CalcFault) → part n us ≡ Err x → parts l (part n) ((done ++ t ∷ []) ++ us) ≡ Err x =
    λ n within us x h.
    let reach = state.reach n within t j.1 us sign.whole in
    let counts : Counts (suc count) reach.0 (t ∷ j.1) (t ∷ us) = subst (λ xs. Counts (suc count) reach.0 xs (t ∷ us)) sign.whole reach.1 in
    ap (parts l (part n)) (append_assoc done (t ∷ []) us) ∙ reach.2
    ∙ joined_fails l (part n) count reach.0 left t j.0 j.1 us x sign.symbol_is sign.level_is counts h in
    fault_around free free end (at_level l) (part_rung l) (λ n. parts l (part n)) part (done ++ t ∷ []) j.1 (done ++ ts) [] fault whole
    (side_around free l done left t j.0 sign.symbol_is sign.level_is side)
    (side_around (suc free) l done left t j.0 sign.symbol_is sign.level_is (looser side))
    (λ n within. (n, within, fails n within)) (fails free (omega arith)) f

-- a bind fails with its first half, or behind it
pub bind_err : {X Y : Type 0} (r : Result X CalcFault) (f : X → Result Y CalcFault) (x : CalcFault) → (r >>= f) ≡ Err x
    → (r ≡ Err x) ⊎ ((v : X) × (r ≡ Ok v) × (f v ≡ Err x))
bind_err (Ok v) f x h = inr (v, refl, h)
bind_err (Err d) f x h = let same_fault : ◌≡◌ {A = CalcFault} d x = cc in inl (ap Err same_fault)

no_fault : {X : Type 0} {Y : Type 0} (v : X) (x : CalcFault) → ◌≡◌ {A = Result X CalcFault} (Ok v) (Err x) → Y
no_fault v x h = absurd (cc)

by_side : (free end : ℕ) (l : Level) (part : ℕ → Reader) → PartGoes free l part → PartFails free end l part → (count : ℕ) (fault : CalcFault)
    → ((left : Tree) (done ts : List Token) → State free l part count left done ts → chain l (part free) count left ts ≡ Err fault
    → Fault free end (at_level l) (λ n. parts l (part n)) (done ++ ts) fault) → (left : Tree) (done ts : List Token)
    → State free l part (suc count) left done ts → chain l (part free) (suc count) left ts ≡ Err fault → (o : Option (Sign × List Token)) → joined l ts ≡ o
    → Fault free end (at_level l) (λ n. parts l (part n)) (done ++ ts) fault
by_side free end l part G F count fault next left done ts state h None o =
    no_fault (left, ts) fault (sym (chain-none l (part free) (suc count) left ts o) ∙ h)
by_side free end l part G F count fault next left done ts state h (Some j) o =
    let sign = joined_some l ts j o in
    ⊎_elim (λ e. side_fault free end l part count left done ts j fault state sign (F j.1 fault e))
    (λ b.
    let g = G j.1 b.0.0 b.0.1 b.1 in
    let all : (done ++ sign.token ∷ g.front) ++ b.0.1 ≡ done ++ ts =
    append_assoc done (sign.token ∷ g.front) b.0.1 ∙ ap (λ xs. done ++ xs) (sym (sign.whole ∙ ap (λ xs. sign.token ∷ xs) g.whole)) in
    subst (λ xs. Fault free end (at_level l) (λ n. parts l (part n)) xs fault) all
    (next (two j.0 left b.0.0) (done ++ sign.token ∷ g.front) b.0.1 (next_state free l part count left done ts j b.0.0 b.0.1 state sign g) b.2))
    (bind_err (part free j.1) (λ right. chain l (part free) count (two j.0 left right.0) right.1) fault
    (sym (chain-some l (part free) count left ts j o) ∙ h))

chain_fails : (free end : ℕ) (l : Level) (part : ℕ → Reader) → PartGoes free l part → PartFails free end l part → (count : ℕ) (fault : CalcFault)
    (left : Tree) (done ts : List Token) → State free l part count left done ts → chain l (part free) count left ts ≡ Err fault
    → Fault free end (at_level l) (λ n. parts l (part n)) (done ++ ts) fault
chain_fails free end l part G F zero fault left done ts state h = no_fault (left, ts) fault (sym (chain-zero_left l (part free) left ts) ∙ h)
chain_fails free end l part G F (suc count) fault left done ts state h =
    by_side free end l part G F count fault (chain_fails free end l part G F count fault) left done ts state h (joined l ts) refl

pub parts_fail : (free end : ℕ) (l : Level) (part : ℕ → Reader) → PartGoes free l part → PartFails free end l part → (ts : List Token) (fault : CalcFault)
    → parts l (part free) ts ≡ Err fault → Fault free end (at_level l) (λ n. parts l (part n)) ts fault
unfolding parts
parts_fail free end l part G F ts fault h =
    ⊎_elim (λ e. part_fault free end l part ts fault (F ts fault e))
    (λ b.
    let g = G ts b.0.0 b.0.1 b.1 in
    subst (λ xs. Fault free end (at_level l) (λ n. parts l (part n)) xs fault) (sym g.whole)
    (chain_fails free end l part G F (most l (length b.0.1)) fault b.0.0 g.front b.0.1 (first_state free l part ts b.0.0 b.0.1 g) b.2))
    (bind_err (part free ts) (λ first. chain l (part free) (most l (length first.1)) first.0 first.1) fault h)

-- THE LEVELS

abbrev pub SignFails : (free end : ℕ) (sign : ℕ → Reader) → Type 0
SignFails free end sign = (ts : List Token) (fault : CalcFault) → sign free ts ≡ Err fault → Fault free end in_front sign ts fault

product_fails : (free end : ℕ) (sign : ℕ → Reader) → SignGoes free sign → SignFails free end sign → PartFails free end level.Sum (λ n. product_of (sign n))
product_fails free end sign G F = parts_fail free end level.Product sign G F

sum_fails : (free end : ℕ) (sign : ℕ → Reader) → SignGoes free sign → SignFails free end sign → PartFails free end level.Comparison (λ n. sum_of (sign n))
sum_fails free end sign G F =
    parts_fail free end level.Sum (λ n. product_of (sign n)) (product_goes free sign G) (product_fails free end sign G F)

comparison_fails : (free end : ℕ) (sign : ℕ → Reader) → SignGoes free sign → SignFails free end sign
    → PartFails free end level.And (λ n. comparison_of (sign n))
comparison_fails free end sign G F =
    parts_fail free end level.Comparison (λ n. sum_of (sign n)) (sum_goes free sign G) (sum_fails free end sign G F)

and_fails : (free end : ℕ) (sign : ℕ → Reader) → SignGoes free sign → SignFails free end sign → PartFails free end level.Or (λ n. and_of (sign n))
and_fails free end sign G F =
    parts_fail free end level.And (λ n. comparison_of (sign n)) (comparison_goes free sign G) (comparison_fails free end sign G F)

pub or_fails : (free end : ℕ) (sign : ℕ → Reader) → SignGoes free sign → SignFails free end sign → (ts : List Token) (fault : CalcFault)
    → or_of (sign free) ts ≡ Err fault → Fault free end (at_level level.Or) (λ n. or_of (sign n)) ts fault
or_fails free end sign G F = parts_fail free end level.Or (λ n. and_of (sign n)) (and_goes free sign G) (and_fails free end sign G F)

-- SIGNS

-- the symbol begins no operand
no_operand : (end free : ℕ) (t : Token) (ts : List Token) (fault : CalcFault) (y : Symbol) → t.symbol ≡ y
    → ((deeper : Option Reader) (us : List Token) → begun end t.at deeper y us ≡ Err (Unexpected t.at))
    → ◌≡◌ {A = Result Read CalcFault} (Err (Unexpected t.at)) (Err fault) → Fault free end in_front (sign_in end) (t ∷ ts) fault
no_operand end free t ts fault y a b p =
    let same_fault : ◌≡◌ {A = CalcFault} (Unexpected t.at) fault = cc in
    record {
      front = [];
      back = t ∷ ts;
      whole = refl;
      others = symbol.A ∷ [];
      tree = letter_a;
      spelled = is_letter_a;
      stops = inl (record {
        named = sym same_fault;
        again = λ n within after. sign_in-first end n t after y a ∙ b (deeper_of end n) after;
      });
    }

-- the symbol opens one too many
one_too_many : (end : ℕ) (t : Token) (ts : List Token) (fault : CalcFault) (y : Symbol) (others : List Symbol) (tree : Tree) → t.symbol ≡ y → Opens y
    → Spells 1 in_front (y ∷ others) tree → ((us : List Token) → begun end t.at None y us ≡ Err TooDeep)
    → ◌≡◌ {A = Result Read CalcFault} (Err TooDeep) (Err fault) → Fault 0 end in_front (sign_in end) (t ∷ ts) fault
one_too_many end t ts fault y others tree a o s b p =
    let same_fault : ◌≡◌ {A = CalcFault} TooDeep fault = cc in
    record {
      front = [];
      back = t ∷ ts;
      whole = refl;
      others = symbol.A ∷ [];
      tree = letter_a;
      spelled = is_letter_a;
      stops = inr (record {
        named = sym same_fault;
        opens = subst Opens (sym a) o;
        others = others;
        tree = tree;
        spelled = subst (λ z. Spells 1 in_front (z ∷ others) tree) (sym a) s;
        again = λ after. sign_in-last end t after y a ∙ b after;
      });
    }

-- with one more open
hands_under : (free : ℕ) (read part : ℕ → Reader) (pre : List Token)
    → ((m : ℕ) (ts : List Token) (x : CalcFault) → part m ts ≡ Err x → read (suc m) (pre ++ ts) ≡ Err x) → Hands (suc free) free read part pre
hands_under free read part pre h zero within = absurd (omega (arith, within))
hands_under free read part pre h (suc m) within = (m, omega (arith, within), h m)

not_around : (free : ℕ) (t : Token) → t.symbol ≡ symbol.Not → Around (suc free) free in_front in_front (t ∷ []) []
not_around free t a xs e h = (
  not_of e,
  subst (λ z. Spells (suc free) in_front (z ∷ (xs ++ [])) (not_of e)) (sym a)
      (subst (λ ys. Spells (suc free) in_front (symbol.Not ∷ ys) (not_of e)) (sym (append-nil xs)) (is_not h)),
)

neg_around : (free : ℕ) (t : Token) → t.symbol ≡ symbol.Sign Minus → Around (suc free) free in_front in_front (t ∷ []) []
neg_around free t a xs e h = (
  neg_of e,
  subst (λ z. Spells (suc free) in_front (z ∷ (xs ++ [])) (neg_of e)) (sym a)
      (subst (λ ys. Spells (suc free) in_front (symbol.Sign Minus ∷ ys) (neg_of e)) (sym (append-nil xs)) (is_neg h)),
)

open_around : (free : ℕ) (t : Token) → t.symbol ≡ symbol.Open → Around (suc free) free in_front (at_level level.Or) (t ∷ []) (symbol.Close ∷ [])
open_around free t a xs e h = (e, subst (λ z. Spells (suc free) in_front (z ∷ (xs ++ symbol.Close ∷ [])) e) (sym a) (is_enclosed h))

not_fault : (end free : ℕ) (t : Token) (ts : List Token) (fault : CalcFault) → t.symbol ≡ symbol.Not → Fault free end in_front (sign_in end) ts fault
    → Fault (suc free) end in_front (sign_in end) (t ∷ ts) fault
not_fault end free t ts fault a f =
    let hands : (m : ℕ) (us : List Token) (x : CalcFault) → sign_in end m us ≡ Err x → sign_in end (suc m) (t ∷ us) ≡ Err x =
    λ m us x h. sign_in-inner end m t us symbol.Not a ∙ ap (λ r. r >>= λ v. Ok (not_of v.0, v.1)) h in
    fault_around (suc free) free end in_front in_front (sign_in end) (sign_in end) (t ∷ []) ts (t ∷ ts) [] fault refl (not_around free t a)
    (not_around (suc free) t a) (hands_under free (sign_in end) (sign_in end) (t ∷ []) hands) (hands free) f

neg_fault : (end free : ℕ) (t : Token) (ts : List Token) (fault : CalcFault) → t.symbol ≡ symbol.Sign Minus → Fault free end in_front (sign_in end) ts fault
    → Fault (suc free) end in_front (sign_in end) (t ∷ ts) fault
neg_fault end free t ts fault a f =
    let hands : (m : ℕ) (us : List Token) (x : CalcFault) → sign_in end m us ≡ Err x → sign_in end (suc m) (t ∷ us) ≡ Err x =
    λ m us x h. sign_in-inner end m t us (symbol.Sign Minus) a ∙ ap (λ r. r >>= λ v. Ok (neg_of v.0, v.1)) h in
    fault_around (suc free) free end in_front in_front (sign_in end) (sign_in end) (t ∷ []) ts (t ∷ ts) [] fault refl (neg_around free t a)
    (neg_around (suc free) t a) (hands_under free (sign_in end) (sign_in end) (t ∷ []) hands) (hands free) f

-- inside the parenthesis
inside_fault : (end free : ℕ) (t : Token) (ts : List Token) (fault : CalcFault) → t.symbol ≡ symbol.Open
    → Fault free end (at_level level.Or) (λ n. or_of (sign_in end n)) ts fault → Fault (suc free) end in_front (sign_in end) (t ∷ ts) fault
inside_fault end free t ts fault a f =
    let hands : (m : ℕ) (us : List Token) (x : CalcFault) → or_of (sign_in end m) us ≡ Err x → sign_in end (suc m) (t ∷ us) ≡ Err x =
    λ m us x h. sign_in-inner end m t us symbol.Open a ∙ ap (λ r. r >>= λ v. closed end v.1 >>= λ back. Ok (v.0, back)) h in
    fault_around (suc free) free end in_front (at_level level.Or) (sign_in end) (λ n. or_of (sign_in end n)) (t ∷ []) ts (t ∷ ts) (symbol.Close ∷ []) fault refl
    (open_around free t a) (open_around (suc free) t a) (hands_under free (sign_in end) (λ n. or_of (sign_in end n)) (t ∷ []) hands) (hands free) f

-- what doesn't close a parenthesis, whatever stands behind it
record NotClosed (end : ℕ) (u : Token) (fault : CalcFault) : Type 0 where
  named : fault ≡ Unexpected u.at
  again : (after : List Token) → closed end (u ∷ after) ≡ Err (Unexpected u.at)

same_err : {X : Type 0} (x y : CalcFault) → ◌≡◌ {A = Result X CalcFault} (Err x) (Err y) → ◌≡◌ {A = CalcFault} x y
same_err x y e = cc

not_closed : (end : ℕ) (u : Token) (us : List Token) (fault : CalcFault) (y : Symbol) → u.symbol ≡ y → closed_by u us y ≡ Err fault
    → ((after : List Token) → closed_by u after y ≡ Err (Unexpected u.at)) ⊎ (y ≡ symbol.Close) → NotClosed end u fault
not_closed end u us fault y a h (inl again) = record {
  named = sym (same_err {X = List Token} (Unexpected u.at) fault (sym (again us) ∙ h));
  again = λ after. ap (λ z. closed_by u after z) a ∙ again after;
}
not_closed end u us fault y a h (inr close) = no_fault us fault (ap (λ z. closed_by u us z) (sym close) ∙ h)

which_closes : (u : Token) (y : Symbol) → ((after : List Token) → closed_by u after y ≡ Err (Unexpected u.at)) ⊎ (y ≡ symbol.Close)
which_closes u symbol.Close = inr refl
which_closes u (symbol.Sign s) = inl (λ after. refl)
which_closes u (symbol.Number v) = inl (λ after. refl)
which_closes u symbol.A = inl (λ after. refl)
which_closes u symbol.B = inl (λ after. refl)
which_closes u symbol.Not = inl (λ after. refl)
which_closes u symbol.Open = inl (λ after. refl)
which_closes u symbol.Unknown = inl (λ after. refl)

stays_open : (end free : ℕ) (t : Token) (ts : List Token) (fault : CalcFault) (e : Tree) (u : Token) (us : List Token) → t.symbol ≡ symbol.Open
    → (g : Goes free (at_level level.Or) (λ n. or_of (sign_in end n)) ts e (u ∷ us)) → NotClosed end u fault
    → (n : ℕ) → suc free ≤ n → (after : List Token) → sign_in end n (t ∷ (g.front ++ u ∷ after)) ≡ Err (Unexpected u.at)
stays_open end free t ts fault e u us a g wrong zero within after = absurd (omega (arith, within))
stays_open end free t ts fault e u us a g wrong (suc m) within after =
    sign_in-inner end m t (g.front ++ u ∷ after) symbol.Open a
    ∙ ap (λ r. r >>= λ v. closed end v.1 >>= λ back. Ok (v.0, back)) (g.again m (omega (arith, within)) u us after refl)
    ∙ ap (λ r. r >>= λ back. Ok (e, back)) (wrong.again after)

-- where the parenthesis isn't closed
open_fault : (end free : ℕ) (t : Token) (ts : List Token) (fault : CalcFault) (e : Tree) (rest : List Token) → t.symbol ≡ symbol.Open
    → Goes free (at_level level.Or) (λ n. or_of (sign_in end n)) ts e rest → closed end rest ≡ Err fault
    → Fault (suc free) end in_front (sign_in end) (t ∷ ts) fault
open_fault end free t ts fault e [] a g h = record {
  front = t ∷ g.front;
  back = [];
  whole = ap (λ xs. t ∷ xs) g.whole;
  others = symbol.Close ∷ [];
  tree = e;
  spelled = subst (λ z. Spells (suc free) in_front (z ∷ (symbols_of g.front ++ symbol.Close ∷ [])) e) (sym a) (is_enclosed g.spells);
  stops = sym (same_err {X = List Token} (Unexpected end) fault h);
}
open_fault end free t ts fault e (u ∷ us) a g h =
    let wrong = not_closed end u us fault u.symbol refl h (which_closes u u.symbol) in
    record {
      front = t ∷ g.front;
      back = u ∷ us;
      whole = ap (λ xs. t ∷ xs) g.whole;
      others = symbol.Close ∷ [];
      tree = e;
      spelled = subst (λ z. Spells (suc free) in_front (z ∷ (symbols_of g.front ++ symbol.Close ∷ [])) e) (sym a) (is_enclosed g.spells);
      stops = inl (record { named = wrong.named; again = stays_open end free t ts fault e u us a g wrong });
    }

by_parenthesis : (end free : ℕ) (t : Token) (ts : List Token) (fault : CalcFault) → SignGoes free (sign_in end) → SignFails free end (sign_in end)
    → t.symbol ≡ symbol.Open → ◌≡◌ {A = Result Read CalcFault} (or_of (sign_in end free) ts >>= λ v. closed end v.1 >>= λ back. Ok (v.0, back)) (Err fault)
    → Fault (suc free) end in_front (sign_in end) (t ∷ ts) fault
by_parenthesis end free t ts fault G F a h =
    ⊎_elim (λ e. inside_fault end free t ts fault a (or_fails free end (sign_in end) G F ts fault e))
    (λ b.
    ⊎_elim (λ e. open_fault end free t ts fault b.0.0 b.0.1 a (or_goes free (sign_in end) G ts b.0.0 b.0.1 b.1) e)
    (λ d. no_fault (b.0.0, d.0) fault d.2) (bind_err (closed end b.0.1) (λ back. Ok (b.0.0, back)) fault b.2))
    (bind_err (or_of (sign_in end free) ts) (λ v. closed end v.1 >>= λ back. Ok (v.0, back)) fault h)

enclosed_a : Spells 0 (at_level level.Or) (symbol.A ∷ []) letter_a
enclosed_a = is_part level.Or (is_part level.And (is_part level.Comparison (is_part level.Sum (is_part level.Product is_letter_a))))

no_room : (end : ℕ) (t : Token) (ts : List Token) (fault : CalcFault) (y : Symbol) → t.symbol ≡ y → begun end t.at None y ts ≡ Err fault
    → Fault 0 end in_front (sign_in end) (t ∷ ts) fault
no_room end t ts fault (symbol.Number v) a h = cc
no_room end t ts fault symbol.A a h = cc
no_room end t ts fault symbol.B a h = cc
no_room end t ts fault symbol.Not a h =
    one_too_many end t ts fault symbol.Not (symbol.A ∷ []) (not_of letter_a) a opens_not (is_not is_letter_a) (λ us. refl) h
no_room end t ts fault (symbol.Sign Minus) a h =
    one_too_many end t ts fault (symbol.Sign Minus) (symbol.A ∷ []) (neg_of letter_a) a opens_minus (is_neg is_letter_a) (λ us. refl) h
no_room end t ts fault (symbol.Sign Or) a h = no_operand end 0 t ts fault (symbol.Sign Or) a (λ deeper us. refl) h
no_room end t ts fault (symbol.Sign And) a h = no_operand end 0 t ts fault (symbol.Sign And) a (λ deeper us. refl) h
no_room end t ts fault (symbol.Sign Equal) a h = no_operand end 0 t ts fault (symbol.Sign Equal) a (λ deeper us. refl) h
no_room end t ts fault (symbol.Sign NotEqual) a h = no_operand end 0 t ts fault (symbol.Sign NotEqual) a (λ deeper us. refl) h
no_room end t ts fault (symbol.Sign Below) a h = no_operand end 0 t ts fault (symbol.Sign Below) a (λ deeper us. refl) h
no_room end t ts fault (symbol.Sign AtMost) a h = no_operand end 0 t ts fault (symbol.Sign AtMost) a (λ deeper us. refl) h
no_room end t ts fault (symbol.Sign Above) a h = no_operand end 0 t ts fault (symbol.Sign Above) a (λ deeper us. refl) h
no_room end t ts fault (symbol.Sign AtLeast) a h = no_operand end 0 t ts fault (symbol.Sign AtLeast) a (λ deeper us. refl) h
no_room end t ts fault (symbol.Sign Plus) a h = no_operand end 0 t ts fault (symbol.Sign Plus) a (λ deeper us. refl) h
no_room end t ts fault (symbol.Sign Times) a h = no_operand end 0 t ts fault (symbol.Sign Times) a (λ deeper us. refl) h
no_room end t ts fault symbol.Open a h =
    one_too_many end t ts fault symbol.Open (symbol.A ∷ symbol.Close ∷ []) letter_a a opens_parenthesis (is_enclosed enclosed_a) (λ us. refl) h
no_room end t ts fault symbol.Close a h = no_operand end 0 t ts fault symbol.Close a (λ deeper us. refl) h
no_room end t ts fault symbol.Unknown a h = no_operand end 0 t ts fault symbol.Unknown a (λ deeper us. refl) h

some_room : (end free : ℕ) (t : Token) (ts : List Token) (fault : CalcFault) → SignGoes free (sign_in end) → SignFails free end (sign_in end)
    → (y : Symbol) → t.symbol ≡ y → begun end t.at (Some (sign_in end free)) y ts ≡ Err fault → Fault (suc free) end in_front (sign_in end) (t ∷ ts) fault
some_room end free t ts fault G F (symbol.Number v) a h = cc
some_room end free t ts fault G F symbol.A a h = cc
some_room end free t ts fault G F symbol.B a h = cc
some_room end free t ts fault G F symbol.Not a h =
    ⊎_elim (λ e. not_fault end free t ts fault a (F ts fault e)) (λ b. no_fault (not_of b.0.0, b.0.1) fault b.2)
    (bind_err (sign_in end free ts) (λ v. Ok (not_of v.0, v.1)) fault h)
some_room end free t ts fault G F (symbol.Sign Minus) a h =
    ⊎_elim (λ e. neg_fault end free t ts fault a (F ts fault e)) (λ b. no_fault (neg_of b.0.0, b.0.1) fault b.2)
    (bind_err (sign_in end free ts) (λ v. Ok (neg_of v.0, v.1)) fault h)
some_room end free t ts fault G F (symbol.Sign Or) a h = no_operand end (suc free) t ts fault (symbol.Sign Or) a (λ deeper us. refl) h
some_room end free t ts fault G F (symbol.Sign And) a h = no_operand end (suc free) t ts fault (symbol.Sign And) a (λ deeper us. refl) h
some_room end free t ts fault G F (symbol.Sign Equal) a h = no_operand end (suc free) t ts fault (symbol.Sign Equal) a (λ deeper us. refl) h
some_room end free t ts fault G F (symbol.Sign NotEqual) a h = no_operand end (suc free) t ts fault (symbol.Sign NotEqual) a (λ deeper us. refl) h
some_room end free t ts fault G F (symbol.Sign Below) a h = no_operand end (suc free) t ts fault (symbol.Sign Below) a (λ deeper us. refl) h
some_room end free t ts fault G F (symbol.Sign AtMost) a h = no_operand end (suc free) t ts fault (symbol.Sign AtMost) a (λ deeper us. refl) h
some_room end free t ts fault G F (symbol.Sign Above) a h = no_operand end (suc free) t ts fault (symbol.Sign Above) a (λ deeper us. refl) h
some_room end free t ts fault G F (symbol.Sign AtLeast) a h = no_operand end (suc free) t ts fault (symbol.Sign AtLeast) a (λ deeper us. refl) h
some_room end free t ts fault G F (symbol.Sign Plus) a h = no_operand end (suc free) t ts fault (symbol.Sign Plus) a (λ deeper us. refl) h
some_room end free t ts fault G F (symbol.Sign Times) a h = no_operand end (suc free) t ts fault (symbol.Sign Times) a (λ deeper us. refl) h
some_room end free t ts fault G F symbol.Open a h = by_parenthesis end free t ts fault G F a h
some_room end free t ts fault G F symbol.Close a h = no_operand end (suc free) t ts fault symbol.Close a (λ deeper us. refl) h
some_room end free t ts fault G F symbol.Unknown a h = no_operand end (suc free) t ts fault symbol.Unknown a (λ deeper us. refl) h

ended : (end free : ℕ) (fault : CalcFault) → ◌≡◌ {A = Result Read CalcFault} (Err (Unexpected end)) (Err fault)
    → Fault free end in_front (sign_in end) [] fault
ended end free fault h = record {
  front = [];
  back = [];
  whole = refl;
  others = symbol.A ∷ [];
  tree = letter_a;
  spelled = is_letter_a;
  stops = sym (same_err {X = Read} (Unexpected end) fault h);
}

pub sign_fails : (end free : ℕ) → SignFails free end (sign_in end)
unfolding sign_in
sign_fails end free [] fault h = ended end free fault h
sign_fails end zero (t ∷ ts) fault h = no_room end t ts fault t.symbol refl h
sign_fails end (suc free) (t ∷ ts) fault h = some_room end free t ts fault (sign_goes end free) (sign_fails end free) t.symbol refl h
