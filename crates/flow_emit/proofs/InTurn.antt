-- A node that deals: the child in turn, and what is made of the offer to it.
use Rattle.std.proofs.Common.{◌≡◌, ◌≤◌, ◌<◌, ◌∙◌, ◌%◌, ℕ, zero, suc, true, false, Bool, List, [], ◌∷◌, ◌++◌, Some, None, refl, sym, ap, subst, arith, length, drop, take, map, filter, mod-lt, ltb, cond}
use Rattle.std.specs.Prelude.{slice_get, if◌then◌else◌, not}
use Rattle.std.specs.List.{All, position, position_or_len}
use Rattle.std.specs.Option.{unwrap_or}
use Rattle.std.proofs.lemmas.Bool.{ltb-false, eq-eqb}
use Rattle.std.proofs.lemmas.List.Sums.{prefix_len-le-length}
use Rattle.nd_base.specs.declared.frame.FrameName.{FrameName}
use Rattle.flow_journal.specs.declared.entry.Entry.{Entry}
use Rattle.flow_journal.specs.declared.entry.Entry.TheVariants.{Emit}
use Rattle.flow_journal.specs.Setting.{Setting, is_node, children}
use Rattle.flow_journal.specs.Following.{offer}
use Rattle.board_rules.specs.Moving.{with_all}
use Rattle.flow_emit.proofs.Depth.{offers-first}
use Rattle.run_course.proofs.Children.{children-nodes}
use Rattle.flow_emit.proofs.Offering.{offered_as}
use Rattle.flow_journal.specs.Pasts.{Past}
use Rattle.flow_journal.specs.Queued.{has_room}
use Rattle.flow_journal.specs.Histories.{is_legal}
use Rattle.flow_journal.specs.Turns.{deals, turn, has_just_emitted, place_after, last_child, in_turn, round_from, offered_to, dealt_to, offered_child}
use Rattle.board_rules.specs.States.{BoardState, past, plain}
use Rattle.std.proofs.lemmas.List.Elements.{All-append, All-drop, All-take, All-filter, All-head}
use Rattle.flow_emit.specs.Emissions.{HasEmitted, before_emission}
use Rattle.run_course.proofs.Elsewhere.{turn-same, no-emit}

-- THE CHILD IN TURN
pub taken-one : (xs : List ℕ) → slice_get (take 1 xs) 0 ≡ slice_get xs 0
taken-one [] = refl
taken-one (x ∷ xs) = refl

-- of no nodes, none
pub none-in-turn : (s : Setting) (P : Past) (t : ℕ) (cs : List ℕ) → length cs ≡ 0 → slice_get (dealt_to s P (round_from t cs)) 0 ≡ None
none-in-turn s P zero [] none = refl
none-in-turn s P (suc t) [] none = refl
none-in-turn s P t (c ∷ cs) none = absurd (omega (arith, none))

-- What a node that deals chooses from, where it has just emitted an array: its children, and whose turn it is. The first one in turn is
-- whom it offers the array.
pub record IsDealing (s : Setting) (v : ℕ) (b : BoardState) (t : ℕ) (cs : List ℕ) : Type 0 where
  pub few : length cs ≤ 32
  pub nodes : All (λ u. is_node s u ≡ true) cs
  pub within : 0 < length cs → t < length cs
  pub first : slice_get (dealt_to s (past b) (round_from t cs)) 0 ≡ slice_get (offered_to s (before_emission b) v) 0

-- the turn is the one of before the emission
same-turn : (s : Setting) (v : ℕ) (a : FrameName) (b : BoardState) (t : ℕ) → HasEmitted v a b → is_legal s (past b) ≡ true → deals s v ≡ true
    → (0 < length (children s v) → t ≡ turn s v (past b))
    → slice_get (dealt_to s (past b) (round_from t (children s v))) 0 ≡ slice_get (offered_to s (before_emission b) v) 0
same-turn s v a b t (why, rest, is) legal d turned =
    subst (λ (x : BoardState). slice_get (dealt_to s (past x) (round_from t (children s v))) 0 ≡ slice_get (offered_to s (before_emission x) v) 0) (sym is)
    (rw d (split (children s v) refl)) where
      P : Past
      P = past rest

      e : Entry
      e = Emit v a.maker a.index why

      split : (xs : List ℕ) → children s v ≡ xs → slice_get (dealt_to s P (round_from t (children s v))) 0 ≡ slice_get (dealt_to s P (in_turn s P v)) 0
      split [] none = none-in-turn s P t (children s v) (ap length none) ∙ sym (none-in-turn s P (turn s v P) (children s v) (ap length none))
      split (x ∷ xs) h =
          let some : 0 < length (children s v) = omega (arith, ap length h) in
          let emitted : is_legal s (e ∷ P) ≡ true = subst (λ (y : BoardState). is_legal s (past y) ≡ true) is legal in
          let kept : turn s v (e ∷ P) ≡ turn s v P = turn-same s v e P emitted (no-emit v a.maker a.index why) d some in
          let same : t ≡ turn s v P = turned some ∙ (ap (λ (y : BoardState). turn s v (past y)) is ∙ kept) in
          rw same refl

pub is-dealing : (s : Setting) (v : ℕ) (a : FrameName) (b : BoardState) (t : ℕ) (cs : List ℕ) → is_legal s (past b) ≡ true → deals s v ≡ true
    → HasEmitted v a b → (0 < length (children s v) → t ≡ turn s v (past b)) → cs ≡ children s v → length cs ≤ 32 → IsDealing s v b t cs
is-dealing s v a b t cs legal d emitted turned kids few =
    record {
      few = few;
      nodes = subst (All (λ u. is_node s u ≡ true)) (sym kids) (children-nodes s v);
      within = λ some. let more : 0 < length (children s v) = omega (arith, some, ap length kids) in
          omega (arith, turned more, ap length kids, mod-lt (place_after (last_child v (past b)) (children s v)) more);
      first = ap (λ xs. slice_get (dealt_to s (past b) (round_from t xs)) 0) kids ∙ same-turn s v a b t emitted legal d turned;
    }

-- PLACES
pub place-found : (test : ℕ → Bool) (xs : List ℕ) → unwrap_or (position test xs) (length xs) ≡ position_or_len test xs
place-found test xs = split (ltb (position_or_len test xs) (length xs)) refl where
  split : (b : Bool) → ltb (position_or_len test xs) (length xs) ≡ b
      → unwrap_or (cond b (Some (position_or_len test xs)) None) (length xs) ≡ position_or_len test xs
  split true lt = refl
  split false ge = omega (arith, ltb-false (position_or_len test xs) (length xs) ge, prefix_len-le-length (λ x. not (test x)) xs)

-- THE NODE THAT IS OFFERED THE ARRAY
taken-first : {X : Type 0} (xs : List X) (c : X) → Some c ≡ slice_get (take 1 xs) 0 → take 1 xs ≡ c ∷ []
taken-first [] c h = cc
taken-first (x ∷ xs) c h = let e : x ≡ c = cc in ap (λ y. y ∷ []) e

pub one-offered : (s : Setting) (v : ℕ) (P : Past) (c : ℕ) → deals s v ≡ true → Some c ≡ slice_get (offered_to s P v) 0 → offered_to s P v ≡ c ∷ []
one-offered s v P c d h =
    rw d (taken-first (filter (has_room s P) (in_turn s P v) ++ in_turn s P v) c
    (subst (λ cs. Some c ≡ slice_get cs 0) (ap (λ b. if b then dealt_to s P (in_turn s P v) else children s v) d) h))

taken-there : (Q : ℕ → Type 0) (xs : List ℕ) (c : ℕ) → All Q xs → Some c ≡ slice_get (take 1 xs) 0 → Q c
taken-there Q [] c all h = cc
taken-there Q (x ∷ xs) c all h = let e : x ≡ c = cc in subst Q e (All-head Q x xs all)

pub child-offered : (s : Setting) (v : ℕ) (P : Past) (c : ℕ) → deals s v ≡ true → Some c ≡ slice_get (offered_to s P v) 0 → is_node s c ≡ true
child-offered s v P c d h =
    let Q : ℕ → Type 0 = λ u. is_node s u ≡ true in
    let kids = children-nodes s v in
    let round : All Q (in_turn s P v) =
    All-append Q (drop (turn s v P) (children s v)) (take (turn s v P) (children s v)) (All-drop Q (turn s v P) (children s v) kids)
    (All-take Q (turn s v P) (children s v) kids) in
    taken-there Q (filter (has_room s P) (in_turn s P v) ++ in_turn s P v) c
    (All-append Q (filter (has_room s P) (in_turn s P v)) (in_turn s P v) (All-filter (has_room s P) Q (in_turn s P v) round) round)
    (subst (λ cs. Some c ≡ slice_get cs 0) (ap (λ b. if b then dealt_to s P (in_turn s P v) else children s v) d) h)

-- its offer, and then the turn
pub dealt-made : (s : Setting) (v : ℕ) (a : FrameName) (b : BoardState) (P : Past) (c : ℕ) (e : Entry) → deals s v ≡ true
    → Some c ≡ slice_get (offered_to s P v) 0 → offered_as s b a c ≡ e
    → with_all s 0 1 (map (offer a) (offered_to s P v)) b ≡ plain e ∷ b
dealt-made s v a b P c e d h made =
    ap (λ cs. with_all s 0 1 (map (offer a) cs) b) (one-offered s v P c d h) ∙ (offers-first s a c [] b ∙ ap (λ (x : Entry). plain x ∷ b) made)

pub dealt-legal : (s : Setting) (v : ℕ) (a : FrameName) (b : BoardState) (P : Past) (c : ℕ) (e : Entry) → deals s v ≡ true
    → Some c ≡ slice_get (offered_to s P v) 0 → offered_as s b a c ≡ e
    → is_legal s (past (with_all s 0 1 (map (offer a) (offered_to s P v)) b)) ≡ true → is_legal s (e ∷ past b) ≡ true
dealt-legal s v a b P c e d h made legal =
    subst (λ (x : BoardState). is_legal s (past x) ≡ true) (dealt-made s v a b P c e d h made) legal

pub turned-after : (s : Setting) (v : ℕ) (a : FrameName) (b : BoardState) (c t : ℕ) (e : Entry) → HasEmitted v a b → offered_child e ≡ Some c
    → t ≡ place_after (Some c) (children s v) % length (children s v) → t ≡ turn s v (e ∷ past b)
turned-after s v a b c t e (why, rest, is) child at =
    let just : has_just_emitted v (past b) ≡ true = ap (λ (x : BoardState). has_just_emitted v (past x)) is ∙ eq-eqb v v refl in
    at ∙ (ap (λ o. place_after o (children s v) % length (children s v)) (sym child)
    ∙ ap (λ r. place_after (if r then offered_child e else last_child v (past b)) (children s v) % length (children s v)) (sym just))
