-- The loops over the seats: a seat for each pass, and what comes back from each.
use Rattle.std.proofs.Common.{◌≡◌, ℕ, suc, ◌+◌, ◌<◌, true, List, [], ◌∷◌, ◌++◌, drop, get_or, map, length, refl, sym, ap, ◌∙◌, subst, arith}
use Rattle.std.specs.List.{list_all}
use Rattle.std.proofs.lemmas.Bool.{and_parts, false≢true}
use Rattle.std.proofs.lemmas.List.{append_assoc, append-nil}
use Rattle.std.proofs.Math.Seq.{drop-cons}
use Rattle.board_rules.specs.declared.answers.Left.{Left}
use Rattle.flow_roles.specs.declared.role_end.RoleEnd.{RoleEnd}
use Rattle.flow_run.specs.declared.seats.Seat.{Seat}
use Rattle.flow_run.specs.declared.seats.Seat.TheVariants.{Ready, Away, Back}
use Rattle.flow_run.specs.Seats.{seats_from, is_back, ends_of}

-- PARTING

-- of these seats some are left, and what the others had was added
pub record IsParting {F P B O : Type 0} (seats rest : List (Seat F P B O)) (passes_then passes : List P) (lefts_then lefts : List (Left F B O)) : Type 0 where
  pub back : list_all is_back rest ≡ true
  pub passes_are : passes ++ map (λ (e : RoleEnd F P B O). e.pass) (ends_of rest) ≡ passes_then ++ map (λ (e : RoleEnd F P B O). e.pass) (ends_of seats)
  pub lefts_are : lefts ++ map (λ (e : RoleEnd F P B O). e.left) (ends_of rest) ≡ lefts_then ++ map (λ (e : RoleEnd F P B O). e.left) (ends_of seats)

module _ {F P B O : Type 0} (seats rest : List (Seat F P B O)) (passes_then passes : List P) (lefts_then lefts : List (Left F B O)) where
  pub parting-first : list_all is_back seats ≡ true → rest ≡ seats → passes ≡ passes_then → lefts ≡ lefts_then
      → IsParting seats rest passes_then passes lefts_then lefts
  parting-first all is p l = record {
    back = ap (list_all is_back) is ∙ all;
    passes_are =
        ap (λ (xs : List P). xs ++ map (λ (e : RoleEnd F P B O). e.pass) (ends_of rest)) p
        ∙ ap (λ (xs : List (Seat F P B O)). passes_then ++ map (λ (e : RoleEnd F P B O). e.pass) (ends_of xs)) is;
    lefts_are =
        ap (λ (xs : List (Left F B O)). xs ++ map (λ (e : RoleEnd F P B O). e.left) (ends_of rest)) l
        ∙ ap (λ (xs : List (Seat F P B O)). lefts_then ++ map (λ (e : RoleEnd F P B O). e.left) (ends_of xs)) is;
  }

  -- the next one is back
  pub parting-back : (x : Seat F P B O) (more : List (Seat F P B O)) → rest ≡ x ∷ more
      → IsParting seats rest passes_then passes lefts_then lefts → is_back x ≡ true
  parting-back x more is h = (and_parts (is_back x) (list_all is_back more) (sym (ap (list_all is_back) is) ∙ h.back)).0

  pub parting-next : (x : Seat F P B O) (more : List (Seat F P B O)) → rest ≡ x ∷ more → IsParting seats rest passes_then passes lefts_then lefts
      → IsParting seats more passes_then (passes ++ map (λ (e : RoleEnd F P B O). e.pass) (ends_of (x ∷ []))) lefts_then
      (lefts ++ map (λ (e : RoleEnd F P B O). e.left) (ends_of (x ∷ [])))
  parting-next (Ready r v p) more is h = absurd (false≢true (parting-back (Ready r v p) more is h))
  parting-next Away more is h = absurd (false≢true (parting-back Away more is h))
  parting-next (Back end) more is h = record {
    back = sym (ap (list_all is_back) is) ∙ h.back;
    passes_are =
        append_assoc passes (end.pass ∷ []) (map (λ (e : RoleEnd F P B O). e.pass) (ends_of more))
        ∙ (sym (ap (λ (xs : List (Seat F P B O)). passes ++ map (λ (e : RoleEnd F P B O). e.pass) (ends_of xs)) is) ∙ h.passes_are);
    lefts_are =
        append_assoc lefts (end.left ∷ []) (map (λ (e : RoleEnd F P B O). e.left) (ends_of more))
        ∙ (sym (ap (λ (xs : List (Seat F P B O)). lefts ++ map (λ (e : RoleEnd F P B O). e.left) (ends_of xs)) is) ∙ h.lefts_are);
  }

  pub parting-on : (x : Seat F P B O) (more : List (Seat F P B O)) (passes_next : List P) (lefts_next : List (Left F B O)) → rest ≡ x ∷ more
      → passes_next ≡ passes ++ map (λ (e : RoleEnd F P B O). e.pass) (ends_of (x ∷ []))
      → lefts_next ≡ lefts ++ map (λ (e : RoleEnd F P B O). e.left) (ends_of (x ∷ []))
      → IsParting seats rest passes_then passes lefts_then lefts → IsParting seats more passes_then passes_next lefts_then lefts_next
  parting-on x more passes_next lefts_next is p l h =
      subst (λ (ls : List (Left F B O)). IsParting seats more passes_then passes_next lefts_then ls) (sym l)
      (subst (λ (ps : List P). IsParting seats more passes_then ps lefts_then (lefts ++ map (λ (e : RoleEnd F P B O). e.left) (ends_of (x ∷ [])))) (sym p)
      (parting-next x more is h))

  pub parting-passes : rest ≡ [] → IsParting seats rest passes_then passes lefts_then lefts
      → passes ≡ passes_then ++ map (λ (e : RoleEnd F P B O). e.pass) (ends_of seats)
  parting-passes none h =
      sym (append-nil passes) ∙ (sym (ap (λ (xs : List (Seat F P B O)). passes ++ map (λ (e : RoleEnd F P B O). e.pass) (ends_of xs)) none) ∙ h.passes_are)

  pub parting-lefts : rest ≡ [] → IsParting seats rest passes_then passes lefts_then lefts
      → lefts ≡ lefts_then ++ map (λ (e : RoleEnd F P B O). e.left) (ends_of seats)
  parting-lefts none h =
      sym (append-nil lefts) ∙ (sym (ap (λ (xs : List (Seat F P B O)). lefts ++ map (λ (e : RoleEnd F P B O). e.left) (ends_of xs)) none) ∙ h.lefts_are)

-- SEATING

-- the seats that were made, and those that are to come
abbrev pub Seating : {F P B O : Type 0} → (nodes : List ℕ) → (all rest : List P) → (made : ℕ) → List (Seat F P B O) → Type 0
Seating nodes all rest made seats = seats ++ seats_from (made + 1) (drop made nodes) rest ≡ seats_from 1 nodes all

pub seating-next : {F P B O : Type 0} (nodes : List ℕ) (all rest more : List P) (made : ℕ) (seats : List (Seat F P B O)) (p : P) (v : ℕ) → rest ≡ p ∷ more
    → made < length nodes → v ≡ get_or nodes made v
    → Seating nodes all rest made seats → Seating nodes all more (made + 1) (seats ++ Ready (made + 1) v p ∷ [])
seating-next {F} {P} {B} {O} nodes all rest more made seats p v is low node h =
    let one : suc made ≡ made + 1 = omega arith in
    let split : drop made nodes ≡ v ∷ drop (made + 1) nodes =
    drop-cons nodes made v low ∙ (ap (λ (w : ℕ). w ∷ drop (suc made) nodes) (sym node) ∙ ap (λ (k : ℕ). v ∷ drop k nodes) one) in
    let next : seats_from {F = F} {P = P} {B = B} {O = O} (made + 1) (drop made nodes) rest
    ≡ Ready (made + 1) v p ∷ seats_from (made + 1 + 1) (drop (made + 1) nodes) more =
    ap (λ (ps : List P). seats_from {F = F} {P = P} {B = B} {O = O} (made + 1) (drop made nodes) ps) is
    ∙ ap (λ (vs : List ℕ). seats_from {F = F} {P = P} {B = B} {O = O} (made + 1) vs (p ∷ more)) split in
    append_assoc seats (Ready (made + 1) v p ∷ []) (seats_from (made + 1 + 1) (drop (made + 1) nodes) more)
    ∙ (sym (ap (λ (xs : List (Seat F P B O)). seats ++ xs) next) ∙ h)

none-from : {F P B O : Type 0} (role : ℕ) (nodes : List ℕ) → seats_from {F = F} {P = P} {B = B} {O = O} role nodes [] ≡ []
none-from role [] = refl
none-from role (v ∷ vs) = refl

pub seating-all : {F P B O : Type 0} (nodes : List ℕ) (all rest : List P) (made : ℕ) (seats : List (Seat F P B O)) → rest ≡ []
    → Seating nodes all rest made seats → seats ≡ seats_from 1 nodes all
seating-all {F} {P} {B} {O} nodes all rest made seats none h =
    sym (append-nil seats)
    ∙ (sym (ap (λ (xs : List (Seat F P B O)). seats ++ xs)
    (ap (λ (ps : List P). seats_from {F = F} {P = P} {B = B} {O = O} (made + 1) (drop made nodes) ps) none ∙ none-from (made + 1) (drop made nodes))) ∙ h)

-- a seat that isn't back is not among those that are
pub not-back : {F P B O : Type 0} (x : Seat F P B O) → is_back x ≡ true → ((e : RoleEnd F P B O) → x ≡ Back e → ⊥) → ⊥
not-back (Ready r v p) h none = false≢true h
not-back Away h none = false≢true h
not-back (Back e) h none = none e refl

-- GATHERED

no-items : {X : Type 0} (xs : List X) → length xs ≡ 0 → xs ≡ []
no-items [] h = refl
no-items (x ∷ xs) h = cc

ends-cons : {F P B O X : Type 0} (f : RoleEnd F P B O → X) (x : Seat F P B O) (xs : List (Seat F P B O))
    → map f (ends_of (x ∷ [])) ++ map f (ends_of xs) ≡ map f (ends_of (x ∷ xs))
ends-cons f (Ready r v p) xs = refl
ends-cons f Away xs = refl
ends-cons f (Back e) xs = refl

pub gathered : {F P B O X : Type 0} (f : RoleEnd F P B O → X) (x : Seat F P B O) (xs : List (Seat F P B O)) (none first all : List X) → length none ≡ 0
    → first ≡ none ++ map f (ends_of (x ∷ []))
    → all ≡ first ++ map f (ends_of xs) → all ≡ map f (ends_of (x ∷ xs))
gathered {F} {P} {B} {O} {X} f x xs none first all empty one rest =
    rest
    ∙ (ap (λ (ys : List X). ys ++ map f (ends_of xs)) (one ∙ ap (λ (ys : List X). ys ++ map f (ends_of (x ∷ []))) (no-items none empty)) ∙ ends-cons f x xs)

pub seats-length : (F P B O : Type 0) (r : ℕ) (nodes : List ℕ) (ps : List P) → length ps ≡ length nodes
    → length (seats_from {F = F} {P = P} {B = B} {O = O} r nodes ps) ≡ length nodes
seats-length F P B O r [] ps many = refl
seats-length F P B O r (v ∷ nodes) [] many = absurd (omega (arith, many))
seats-length F P B O r (v ∷ nodes) (p ∷ ps) many = ap suc (seats-length F P B O (r + 1) nodes ps (omega (arith, many)))
