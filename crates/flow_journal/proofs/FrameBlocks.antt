-- A frame has one grant at most, and the block of a hand is that of its frame.
use Rattle.std.proofs.Common.{◌≡◌, ℕ, ◌+◌, ◌≤◌, Bool, true, false, ◌||◌, cond, eqb, List, [], ◌∷◌, ◌++◌, length, refl, sym, ap, ◌∙◌, subst, arith}
use Rattle.std.proofs.Common.{length-append, Some, inl, inr}
use Rattle.std.specs.Prelude.{flat_map}
use Rattle.std.specs.List.{list_any, find}
use Rattle.std.proofs.lemmas.Bool.{and_parts, and_from, true≢false, eq-eqb, eqb-true, cases_Bool}
use Rattle.nd_base.specs.declared.frame.FrameName.{FrameName}
use Rattle.flow_journal.specs.declared.entry.Entry.{Entry}
use Rattle.flow_journal.specs.declared.entry.Entry.TheVariants.{Load, Take, TakeBlock, Save}
use Rattle.flow_journal.specs.Setting.{Setting}
use Rattle.flow_journal.specs.Pasts.{Past, frame, same}
use Rattle.flow_journal.specs.Hands.{takes_up, hands, standing}
use Rattle.flow_journal.specs.Accounts.{granted_for, first_of, block_of, blocks_in_hand}
use Rattle.flow_journal.specs.Histories.{is_legal}
use Rattle.flow_journal.proofs.Steps.{same_refl}
use Rattle.flow_journal.proofs.Hands.{Apart, hands-Apart}
use Rattle.flow_journal.proofs.Counts.{hand-standing}
use Rattle.flow_journal.proofs.EntryCounts.{count, bit, count-cons, loads_at, takes_at}
use Rattle.flow_journal.proofs.Offers.{none_at_driver}
use Rattle.flow_journal.proofs.Issues.{takes-accepted}
use Rattle.flow_journal.proofs.Once.{load-once, accepts-once}
use Rattle.flow_journal.proofs.Travels.{holds}

-- ONE GRANT

-- the blocks of the grants of a frame
abbrev pub grants_of : FrameName → List Entry → List ℕ
grants_of a es = flat_map (granted_for a) es

one_if : (b : Bool) (n : ℕ) → length (cond b (n ∷ []) []) ≡ bit b
one_if true n = refl
one_if false n = refl

same-load : (a : FrameName) (r k b n : ℕ) (f : Bool) (g : ℕ) (x : Bool)
    → bit (same a (frame 0 k)) ≤ cond (eqb a.maker 0) (bit (loads_at a.index (Load r k b n f g x))) 0
same-load a r k b n f g x =
    elim (cases_Bool (same a (frame 0 k))) [
      | inl is ↦
          let p = and_parts (eqb a.maker 0) (eqb a.index k) is in
          let at_k : eqb k a.index ≡ true = eq-eqb k a.index (sym (eqb-true a.index k p.1)) in
          let yes_load : cond (eqb a.maker 0) (bit (loads_at a.index (Load r k b n f g x))) 0 ≡ 1 =
          ap (λ (c : Bool). cond c (bit (loads_at a.index (Load r k b n f g x))) 0) p.0 ∙ ap bit at_k in
          omega (arith, ap bit is, yes_load)
      | inr other ↦ omega (arith, ap bit other)
    ]

same-take : (a : FrameName) (r v m k b n : ℕ) (f : Bool) (g : ℕ) (x : Bool)
    → bit (same a (frame v k)) ≤ bit (takes_at a.maker a.index (TakeBlock f x r v m k b n g))
same-take a r v m k b n f g x =
    elim (cases_Bool (same a (frame v k))) [
      | inl is ↦
          let p = and_parts (eqb a.maker v) (eqb a.index k) is in
          let yes_take : takes_at a.maker a.index (TakeBlock f x r v m k b n g) ≡ true =
          and_from _ _ (eq-eqb v a.maker (sym (eqb-true a.maker v p.0))) (eq-eqb k a.index (sym (eqb-true a.index k p.1))) in
          omega (arith, ap bit is, ap bit yes_take)
      | inr other ↦ omega (arith, ap bit other)
    ]

cond-more : (b : Bool) (i j n : ℕ) → i ≤ j + n → cond b i 0 ≤ cond b j 0 + cond b n 0
cond-more true i j n h = h
cond-more false i j n h = omega arith

cond-sum : (b : Bool) (i j : ℕ) → cond b (i + j) 0 ≡ cond b i 0 + cond b j 0
cond-sum true i j = refl
cond-sum false i j = refl

pub loads-cons : (a : FrameName) (e : Entry) (es : List Entry)
    → cond (eqb a.maker 0) (count (loads_at a.index) (e ∷ es)) 0
    ≡ cond (eqb a.maker 0) (bit (loads_at a.index e)) 0 + cond (eqb a.maker 0) (count (loads_at a.index) es) 0
loads-cons a e es =
    ap (λ (n : ℕ). cond (eqb a.maker 0) n 0) (count-cons (loads_at a.index) e es)
    ∙ cond-sum (eqb a.maker 0) (bit (loads_at a.index e)) (count (loads_at a.index) es)

-- the driver's frames are granted by loads, and the others by takes at their maker
grants-le : (a : FrameName) (es : List Entry)
    → length (grants_of a es) ≤ cond (eqb a.maker 0) (count (loads_at a.index) es) 0 + count (takes_at a.maker a.index) es
grants-le a [] = omega arith
grants-le a (Load r k b n f g x ∷ es) =
    omega (
      arith,
      grants-le a es,
      length-append (granted_for a (Load r k b n f g x)) (grants_of a es),
      one_if (same a (frame 0 k)) b,
      same-load a r k b n f g x,
      loads-cons a (Load r k b n f g x) es,
    )
grants-le a (TakeBlock f x r v m k b n g ∷ es) =
    omega (
      arith,
      grants-le a es,
      length-append (granted_for a (TakeBlock f x r v m k b n g)) (grants_of a es),
      one_if (same a (frame v k)) b,
      same-take a r v m k b n f g x,
      loads-cons a (TakeBlock f x r v m k b n g) es,
      count-cons (takes_at a.maker a.index) (TakeBlock f x r v m k b n g) es,
    )
grants-le a (Take r v m k ∷ es) =
    omega (arith, grants-le a es, loads-cons a (Take r v m k) es, count-cons (takes_at a.maker a.index) (Take r v m k) es)
grants-le a (_ ∷ es) = grants-le a es

-- of each frame one grant stands at most
pub grant-once : (s : Setting) (P : Past) (a : FrameName) → is_legal s P ≡ true → length (grants_of a (standing P)) ≤ 1
grant-once s P a h =
    let le = grants-le a (standing P) in
    elim (cases_Bool (eqb a.maker 0)) [
      | inl driver ↦
          let is : a.maker ≡ 0 = eqb-true a.maker 0 driver in
          let loads : cond (eqb a.maker 0) (count (loads_at a.index) (standing P)) 0 ≡ count (loads_at a.index) (standing P) =
          ap (λ (c : Bool). cond c (count (loads_at a.index) (standing P)) 0) driver in
          let none : count (takes_at a.maker a.index) (standing P) ≡ 0 =
          subst (λ (v : ℕ). count (takes_at v a.index) (standing P) ≡ 0) (sym is)
          (omega (arith, takes-accepted s P 0 a.index h, none_at_driver s P a.index h)) in
          omega (arith, le, loads, load-once s P a.index h, none)
      | inr maker ↦
          let loads : cond (eqb a.maker 0) (count (loads_at a.index) (standing P)) 0 ≡ 0 =
          ap (λ (c : Bool). cond c (count (loads_at a.index) (standing P)) 0) maker in
          omega (arith, le, loads, takes-accepted s P a.maker a.index h, accepts-once s P a.maker a.index h)
    ]

-- BLOCKS OF FRAMES

pub first_of-few : (bs : List ℕ) → length bs ≤ 1 → first_of bs ≡ bs
first_of-few [] h = refl
first_of-few (b ∷ []) h = refl
first_of-few (b ∷ c ∷ bs) h = absurd (omega (arith, h))

pub block-granted : (s : Setting) (P : Past) (a : FrameName) → is_legal s P ≡ true → block_of P a ≡ grants_of a (standing P)
block-granted s P a h = first_of-few (grants_of a (standing P)) (grant-once s P a h)

pub none_long : (bs : List ℕ) → length bs ≤ 0 → bs ≡ []
none_long [] h = refl
none_long (b ∷ bs) h = absurd (omega (arith, h))

found-grant : (a : FrameName) (p : Entry → Bool) (e : Entry) (b : ℕ) (es : List Entry) → granted_for a e ≡ b ∷ [] → find p es ≡ Some e
    → length (grants_of a es) ≤ 1 → grants_of a es ≡ b ∷ []
found-grant a p e b [] is found few = cc
found-grant a p e b (x ∷ es) is found few =
    let long = length-append (granted_for a x) (grants_of a es) in
    elim (cases_Bool (p x)) [
      | inl here ↦
          let same_entry : Some x ≡ Some e = rw here at found in
          let entry : x ≡ e = cc in
          let at_x : granted_for a x ≡ b ∷ [] = ap (granted_for a) entry ∙ is in
          let none : grants_of a es ≡ [] = none_long (grants_of a es) (omega (arith, few, long, ap length at_x)) in
          ap (λ (bs : List ℕ). bs ++ grants_of a es) at_x ∙ ap (λ (bs : List ℕ). b ∷ bs) none
      | inr away ↦
          let rest : grants_of a es ≡ b ∷ [] = found-grant a p e b es is (rw away at found) (omega (arith, few, long)) in
          let none : granted_for a x ≡ [] = none_long (granted_for a x) (omega (arith, few, long, ap length rest)) in
          ap (λ (bs : List ℕ). bs ++ grants_of a es) none ∙ rest
    ]

granted_itself : (a : FrameName) (b : ℕ) → cond (same a a) (b ∷ []) [] ≡ b ∷ []
granted_itself a b = ap (λ (c : Bool). cond c (b ∷ []) []) (same_refl a)

-- the entry gives hands of its role, and stands
abbrev pub Stands : Past → Entry → Type 0
Stands P e = (r : ℕ) → takes_up r e ≡ true → find (takes_up r) (standing P) ≡ Some e

abbrev pub AllStand : Past → List Entry → Type 0
AllStand P [] = Unit {0}
AllStand P (e ∷ hs) = Stands P e × AllStand P hs

pub all_stand : (P : Past) (hs : List Entry) → Apart hs
    → ((r : ℕ) (e : Entry) → find (takes_up r) hs ≡ Some e → find (takes_up r) (standing P) ≡ Some e) → AllStand P hs
all_stand P [] apart stand = tt
all_stand P (x ∷ hs) apart stand = (
  λ r up. stand r x (rw up refl),
  all_stand P hs apart.1 (λ r e found. elim (cases_Bool (takes_up r x)) [
    | inl up ↦ absurd (true≢false (sym (found-any (takes_up r) e hs found) ∙ apart.0 r up))
    | inr down ↦ stand r e (rw down found)
  ]),
)
  where
    found-any : (p : Entry → Bool) (e : Entry) (hs : List Entry) → find p hs ≡ Some e → list_any p hs ≡ true
    found-any p e [] h = cc
    found-any p e (y ∷ ys) h =
        elim (cases_Bool (p y)) [
          | inl here ↦ rw here refl
          | inr away ↦ rw away (found-any p e ys (rw away at h))
        ]

pub load-block : (s : Setting) (P : Past) (r k b n : ℕ) (f : Bool) (g : ℕ) (x : Bool) → is_legal s P ≡ true
    → find (takes_up r) (standing P) ≡ Some (Load r k b n f g x) → block_of P (frame 0 k) ≡ b ∷ []
load-block s P r k b n f g x h found =
    block-granted s P (frame 0 k) h
    ∙ found-grant (frame 0 k) (takes_up r) (Load r k b n f g x) b (standing P) (granted_itself (frame 0 k) b) found (grant-once s P (frame 0 k) h)

pub take-block : (s : Setting) (P : Past) (r v m k b n : ℕ) (f : Bool) (g : ℕ) (x : Bool) → is_legal s P ≡ true
    → find (takes_up r) (standing P) ≡ Some (TakeBlock f x r v m k b n g) → block_of P (frame v k) ≡ b ∷ []
take-block s P r v m k b n f g x h found =
    block-granted s P (frame v k) h
    ∙ found-grant (frame v k) (takes_up r) (TakeBlock f x r v m k b n g) b (standing P) (granted_itself (frame v k) b) found (grant-once s P (frame v k) h)

-- HANDS

-- the frame's block passes the test
abbrev pub has : (ℕ → Bool) → Past → FrameName → Bool
has q P a = list_any q (block_of P a)

pub or-false : (b : Bool) → (b || false) ≡ b
or-false true = refl
or-false false = refl

pub any-one : (q : ℕ → Bool) (b : ℕ) (bs : List ℕ) → bs ≡ b ∷ [] → q b ≡ list_any q bs
any-one q b bs is = sym (ap (list_any q) is ∙ or-false (q b))

hand-blocks : (s : Setting) (q : ℕ → Bool) (P : Past) (e : Entry) → is_legal s P ≡ true → Stands P e → list_any q (blocks_in_hand P e) ≡ holds (has q P) e
hand-blocks s q P (Load r k b n f g x) h stands =
    or-false (q b) ∙ any-one q b (block_of P (frame 0 k)) (load-block s P r k b n f g x h (stands r (eq-eqb r r refl)))
hand-blocks s q P (Take r v m k) h stands = refl
hand-blocks s q P (TakeBlock f x r v m k b n g) h stands =
    ap (λ (c : Bool). c || has q P (frame m k)) (any-one q b (block_of P (frame v k)) (take-block s P r v m k b n f g x h (stands r (eq-eqb r r refl))))
hand-blocks s q P (Save r v m k g) h stands = refl
hand-blocks s q P _ h stands = refl

pub any-append : {X : Type 0} (p : X → Bool) (xs ys : List X) → list_any p (xs ++ ys) ≡ (list_any p xs || list_any p ys)
any-append p [] ys = refl
any-append p (x ∷ xs) ys =
    elim (p x) as (λ b. (b || list_any p (xs ++ ys)) ≡ ((b || list_any p xs) || list_any p ys)) [ true ↦ refl | false ↦ any-append p xs ys ]

pub any-flat : {X Y : Type 0} (p : Y → Bool) (f : X → List Y) (xs : List X) → list_any p (flat_map f xs) ≡ list_any (λ x. list_any p (f x)) xs
any-flat p f [] = refl
any-flat p f (x ∷ xs) = any-append p (f x) (flat_map f xs) ∙ ap (λ (b : Bool). list_any p (f x) || b) (any-flat p f xs)

some_blocks : (s : Setting) (q : ℕ → Bool) (P : Past) (hs : List Entry) → is_legal s P ≡ true → AllStand P hs
    → list_any (λ e. list_any q (blocks_in_hand P e)) hs ≡ list_any (holds (has q P)) hs
some_blocks s q P [] h stand = refl
some_blocks s q P (e ∷ hs) h stand =
    ap (λ (b : Bool). b || list_any (λ e. list_any q (blocks_in_hand P e)) hs) (hand-blocks s q P e h stand.0)
    ∙ ap (λ (b : Bool). holds (has q P) e || b) (some_blocks s q P hs h stand.1)

-- a hand's block passes a test where its frame's does
pub hands-blocks : (s : Setting) (q : ℕ → Bool) (P : Past) → is_legal s P ≡ true
    → list_any q (flat_map (blocks_in_hand P) (hands P)) ≡ list_any (holds (has q P)) (hands P)
hands-blocks s q P h =
    any-flat q (blocks_in_hand P) (hands P) ∙ some_blocks s q P (hands P) h (all_stand P (hands P) (hands-Apart P) (λ r e held. hand-standing s P r e h held))
