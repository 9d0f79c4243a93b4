-- Passes that were dealt out, and passes that are joined.
use Rattle.std.proofs.Common.{◌≡◌, ◌⊎◌, ℕ, zero, suc, ◌+◌, ◌<◌, List, [], ◌∷◌, ◌++◌, length, refl, sym, ap, ◌∙◌, subst, subst₂, arith, Option, Some, None}
use Rattle.std.proofs.Common.{inl, inr, drop}
use Rattle.std.specs.Prelude.{slice_get, map, reverse, All, Any, IsSome, ◌↔◌}
use Rattle.std.proofs.lemmas.Bool.{false≢true}
use Rattle.std.specs.Option.{option_map}
use Rattle.std.proofs.lemmas.Option.{slice_get-map}
use Rattle.std.proofs.lemmas.List.{append_assoc, append-nil, length-append, reverse-append, reverse-reverse}
use Rattle.std.proofs.lemmas.List.Elements.{All-nil, All-cons, All-same, All-pop, All-weaker}
use Rattle.atomic_table.specs.Seated.{TableId}
use Rattle.turn_lock.specs.declared.rule.Moves.{Moves}
use Rattle.turn_lock.specs.Logs.{IsPrefix, longer, moves_of}
use Rattle.turn_lock.specs.Rule.{AreExact}
use Rattle.turn_lock.specs.Views.{no_moves}
use Rattle.turn_lock.specs.Passes.{PassFacts, pass_facts, new_passes}
use Rattle.board_rules.specs.declared.told.Told.{Told}
use Rattle.board_rules.specs.States.{BoardState}
use Rattle.board_rules.specs.Movers.{moves_by}
use Rattle.flow_roles.specs.declared.last.Said.{Said}
use Rattle.flow_roles.specs.Lasts.{fresh_said}
use Rattle.flow_roles.specs.Operations.{begins_of}
use Rattle.flow_roles.specs.TurnPasses.{HasOneRole, role_in, known_by, IsPassOf, IsFreshOf, IsPassWithin, HasMade}
use Rattle.flow_roles.proofs.TurnCalls.{exact-one, moves-back}

-- DEALT OUT

dealt-at : (lock : TableId) (j n k : ℕ) (p : PassFacts Told) → slice_get (new_passes lock j n) k ≡ Some p → p ≡ pass_facts lock [] (no_moves (j + k) ∷ [])
dealt-at lock j zero k p h = cc
dealt-at lock j (suc n) zero p h =
    let is : pass_facts lock [] (no_moves j ∷ []) ≡ p = cc in
    let role : j ≡ j + 0 = omega arith in
    sym is ∙ ap (λ (r : ℕ). pass_facts {E = Told} lock [] (no_moves r ∷ [])) role
dealt-at lock j (suc n) (suc k) p h =
    let role : suc j + k ≡ j + suc k = omega arith in
    dealt-at lock (suc j) n k p h ∙ ap (λ (r : ℕ). pass_facts {E = Told} lock [] (no_moves r ∷ [])) role

pub dealt-fresh : (lock : TableId) (n k : ℕ) (p : PassFacts Told) → slice_get (new_passes lock 0 n) k ≡ Some p → IsFreshOf lock k p fresh_said
dealt-fresh lock n k p h =
    let role : 0 + k ≡ k = omega arith in
    let is : p ≡ pass_facts lock [] (no_moves k ∷ []) = dealt-at lock 0 n k p h ∙ ap (λ (r : ℕ). pass_facts {E = Told} lock [] (no_moves r ∷ [])) role in
    subst (λ (q : PassFacts Told). IsFreshOf lock k q fresh_said) (sym is) ((refl, tt), record { role = refl; said = refl; made = refl })

-- JOINED

-- the longer of two is one of them, where it begins with both
longer-either : {E : Type 0} (xs ys : List E) → IsPrefix ys (longer xs ys) → (longer xs ys ≡ xs) ⊎ (longer xs ys ≡ ys)
longer-either [] ys h = inr refl
longer-either (x ∷ xs) [] h = inl refl
longer-either {E} (x ∷ xs) (y ∷ ys) h =
    let whole : x ∷ longer xs ys ≡ y ∷ (ys ++ h.0) = h.1 in
    let heads : x ≡ y = cc in
    let tails : longer xs ys ≡ ys ++ h.0 = ap (drop 1) whole in
    elim (longer-either xs ys (h.0, tails)) [
      | inl first_ ↦ inl (ap (λ (zs : List E). x ∷ zs) first_)
      | inr other ↦ inr (ap (λ (zs : List E). x ∷ zs) other ∙ ap (λ (z : E). z ∷ ys) heads)
    ]

exact-append : (log : List Told) (xs ys : List (Moves Told)) → AreExact begins_of log (xs ++ ys) → AreExact begins_of log xs × AreExact begins_of log ys
exact-append log [] ys a = (tt, a)
exact-append log (m ∷ xs) ys a = let rest = exact-append log xs ys a.1 in ((a.0, rest.0), rest.1)

prefix-on : {E : Type 0} (xs ys zs : List E) → IsPrefix xs ys → IsPrefix ys zs → IsPrefix xs zs
prefix-on {E} xs ys zs p q = (p.0 ++ q.0, q.1 ∙ (ap (λ (l : List E). l ++ q.0) p.1 ∙ append_assoc xs p.0 q.0))

one-role : (made : List (Moves Told)) → HasOneRole made → length made ≡ 1
one-role [] h = absurd h
one-role (m ∷ []) h = refl
one-role (m ∷ n ∷ ms) h = absurd h

-- one of these has seen just this
abbrev pub SeenBy : {P : Type 0} → (P → PassFacts Told) → List Told → List P → Type 0
SeenBy inner seen [] = ⊥
SeenBy inner seen (p ∷ ps) = ((inner p).seen ≡ seen) ⊎ SeenBy inner seen ps

-- of all these passes some are left, and the others were joined into one
pub record Joined {P : Type 0} (inner : P → PassFacts Told) (lock : TableId) (all left : List P) (keep : PassFacts Told) : Type 0 where
  pub joined : List P
  pub whole : all ≡ left ++ joined
  pub own : keep.lock ≡ lock
  pub ours : All (λ p. IsPassOf lock (inner p)) left
  pub count : length keep.made ≡ length joined
  pub each : All (λ p. IsPassWithin (inner p) keep) joined
  pub seen : SeenBy inner keep.seen joined

module _ {P : Type 0} (inner : P → PassFacts Told) (lock : TableId) (all : List P) where
  pub first-joined : (left : List P) (p : P) → all ≡ left ++ p ∷ [] → All (λ p. IsPassOf lock (inner p)) all → Joined inner lock all left (inner p)
  first-joined left p is ours =
      let split = All-pop (λ p. IsPassOf lock (inner p)) all left (Some p) is ours in
      record {
        joined = p ∷ [];
        whole = is;
        own = split.1.0;
        ours = split.0;
        count = one-role (inner p).made split.1.1;
        each =
            All-cons (λ q. IsPassWithin (inner q) (inner p)) p [] (([], sym (append-nil (inner p).seen)), λ log a. a)
            (All-nil (λ q. IsPassWithin (inner q) (inner p)));
        seen = inl refl;
      }

  seen-on : (old new : List Told) (ps : List P) → new ≡ old → SeenBy inner old ps → SeenBy inner new ps
  seen-on old new ps is h = subst (λ (l : List Told). SeenBy inner l ps) (sym is) h

  pub next-joined : (left rest : List P) (p : P) (keep new : PassFacts Told) → Joined inner lock all left keep → left ≡ rest ++ p ∷ []
      → new ≡ pass_facts keep.lock (longer keep.seen (inner p).seen) (keep.made ++ (inner p).made)
      → IsPrefix keep.seen new.seen × IsPrefix (inner p).seen new.seen
      → Joined inner lock all rest new
  next-joined left rest p keep new j is made fronts =
      let split = All-pop (λ q. IsPassOf lock (inner q)) left rest (Some p) is j.ours in
      let apart =
      λ (log : List Told) (a : AreExact begins_of log new.made).
      exact-append log keep.made (inner p).made (subst (λ (q : PassFacts Told). AreExact begins_of log q.made) made a) in
      let longest : new.seen ≡ longer keep.seen (inner p).seen = ap (λ (q : PassFacts Told). q.seen) made in
      record {
        joined = p ∷ j.joined;
        whole = j.whole ∙ (ap (λ (l : List P). l ++ j.joined) is ∙ append_assoc rest (p ∷ []) j.joined);
        own = ap (λ (q : PassFacts Told). q.lock) made ∙ j.own;
        ours = split.0;
        count =
            let both = length-append keep.made (inner p).made in
            let whole_ = ap (λ (q : PassFacts Told). length q.made) made in
            omega (arith, both, whole_, j.count, one-role (inner p).made split.1.1);
        each =
            All-cons (λ q. IsPassWithin (inner q) new) p j.joined (fronts.1, λ log a. (apart log a).1)
            (All-weaker (λ q. IsPassWithin (inner q) keep) (λ q. IsPassWithin (inner q) new)
            (λ q w. (prefix-on (inner q).seen keep.seen new.seen w.0 fronts.0, λ log a. w.1 log (apart log a).0)) j.joined j.each);
        seen =
            elim (longer-either keep.seen (inner p).seen (subst (λ (l : List Told). IsPrefix (inner p).seen l) longest fronts.1)) [
              | inl first_ ↦ inr (seen-on keep.seen new.seen j.joined (longest ∙ first_) j.seen)
              | inr other ↦ inl (sym (longest ∙ other))
            ];
      }

  seen-any : (seen : List Told) (ps : List P) → SeenBy inner seen ps → Any (λ p. (inner p).seen ≡ seen) ps
  seen-any seen [] h = absurd h
  seen-any seen (p ∷ ps) (inl here) = (0, p, omega arith, refl, here)
  seen-any seen (p ∷ ps) (inr later) = let a = seen-any seen ps later in (suc a.0, a.1, omega (arith, a.2), a.3, a.4)

  -- once none is left
  pub all-joined : (left : List P) (keep : PassFacts Told) → Joined inner lock all left keep → left ≡ []
      → (length keep.made ≡ length all) × All (λ p. IsPassWithin (inner p) keep) all × Any (λ p. (inner p).seen ≡ keep.seen) all
  all-joined left keep j none =
      let is : all ≡ j.joined = j.whole ∙ ap (λ (l : List P). l ++ j.joined) none in (
        j.count ∙ ap (λ (l : List P). length l) (sym is),
        All-same (λ p. IsPassWithin (inner p) keep) all j.joined is j.each,
        subst (λ (l : List P). Any (λ p. (inner p).seen ≡ keep.seen) l) (sym is) (seen-any keep.seen j.joined j.seen),
      )

-- WHAT IS SAID OF THE BOARD

-- what a joined pass says of the log, the board's words say of the board
pub has-made : (p keep : PassFacts Told) (l : Said) (b : BoardState) → HasOneRole p.made → IsPassWithin p keep → reverse b ≡ keep.seen
    → AreExact begins_of (reverse b) keep.made
    → HasMade b (known_by p l)
has-made p keep l b one w is exact_ =
    let back : b ≡ reverse keep.seen = sym (reverse-reverse b) ∙ ap (λ (x : List Told). reverse x) is in
    record {
      seen = (reverse w.0.0, back ∙ (ap (λ (x : List Told). reverse x) w.0.1 ∙ reverse-append p.seen w.0.0));
      made = ap (λ (x : BoardState). moves_by (role_in p.made) x) (sym (reverse-reverse b)) ∙ exact-one (reverse b) p.made one (w.1 (reverse b) exact_);
    }

pub no-others : (r : ℕ) (b : BoardState) → moves_of begins_of r (reverse b) ≡ [] → moves_by r b ≡ []
no-others r b h = ap (λ (x : BoardState). moves_by r x) (sym (reverse-reverse b)) ∙ moves-back r (reverse b) [] h

pub all-seen : (p keep : PassFacts Told) (b : BoardState) → p.seen ≡ keep.seen → reverse b ≡ keep.seen → reverse p.seen ≡ b
all-seen p keep b h is = ap (λ (x : List Told). reverse x) (h ∙ sym is) ∙ reverse-reverse b

-- nothing was popped, and so nothing is left
pub popped-none : {P : Type 0} (o : Option P) (n : ℕ) → ((p : P) → o ≡ Some p → ⊥) → (IsSome o ↔ (0 < n)) → n ≡ 0
popped-none o zero not h = refl
popped-none None (suc n) not h = let some : 0 < suc n = omega arith in absurd (false≢true (h.1 some))
popped-none (Some p) (suc n) not h = absurd (not p refl)

pub nothing-left : {P : Type 0} (ps : List P) → length ps ≡ 0 → ps ≡ []
nothing-left [] h = refl
nothing-left (p ∷ ps) h = cc

mapped : {X Y : Type 0} (f : X → Y) (o : Option X) (y : Y) → option_map f o ≡ Some y → (x : X) × (o ≡ Some x) × (f x ≡ y)
mapped f None y h = cc
mapped f (Some x) y h = let is : f x ≡ y = cc in (x, refl, is)

-- a pass that was dealt out, in the words of a desk
pub fresh-at : {P : Type 0} (inner : P → PassFacts Told) (said : P → Said) (make : PassFacts Told → P) (lock : TableId) (n k : ℕ) (ps : List P)
    (qs : List (PassFacts Told)) (p : P)
    → ((q : PassFacts Told) → (inner (make q) ≡ q) × (said (make q) ≡ fresh_said)) → qs ≡ new_passes lock 0 n → ps ≡ map make qs → slice_get ps k ≡ Some p
    → IsFreshOf lock k (inner p) (said p)
fresh-at {P} inner said make lock n k ps qs p made dealt is at =
    let found : option_map make (slice_get (new_passes lock 0 n) k) ≡ Some p =
    sym (slice_get-map make (new_passes lock 0 n) k)
    ∙ (ap (λ (xs : List (PassFacts Told)). slice_get (map make xs) k) (sym dealt) ∙ (ap (λ (xs : List P). slice_get xs k) (sym is) ∙ at)) in
    let q = mapped make (slice_get (new_passes lock 0 n) k) p found in
    let m = made q.0 in
    subst (λ (x : P). IsFreshOf lock k (inner x) (said x)) q.2
    (subst₂ (λ (x : PassFacts Told) (l : Said). IsFreshOf lock k x l) (sym m.0) (sym m.1) (dealt-fresh lock n k q.0 q.1))
