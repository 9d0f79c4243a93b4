-- Offers, one after the other.
use Rattle.std.proofs.Common.{◌≡◌, ◌≤◌, ◌<◌, ◌∙◌, ℕ, zero, suc, ◌+◌, true, false, List, [], ◌∷◌, length, drop, map, refl, sym, ap, subst, leb, ltb, arith, get_or, add-one, drop-cons}
use Rattle.std.proofs.lemmas.Bool.{and_parts, and_from, lt-ltb, le-leb, leb-true, true≢false}
use Rattle.nd_base.specs.declared.frame.FrameName.{FrameName}
use Rattle.flow_journal.specs.declared.entry.Entry.{Entry}
use Rattle.flow_journal.specs.declared.entry.Entry.TheVariants.{Accept, Full, Emit}
use Rattle.flow_journal.specs.declared.entry.Why.{Why}
use Rattle.flow_journal.specs.Setting.{Setting, is_node, children}
use Rattle.flow_journal.specs.Queued.{has_room}
use Rattle.flow_journal.specs.Histories.{is_legal, wanted}
use Rattle.flow_journal.specs.Following.{offer, emit}
use Rattle.flow_journal.specs.Turns.{deals, has_just_emitted, offered_to}
use Rattle.board_rules.specs.States.{BoardState, past, plain}
use Rattle.board_rules.specs.Moving.{with_all}
use Rattle.run_course.specs.Courses.{Coursed}
use Rattle.flow_emit.specs.Emissions.{OffersMade}
use Rattle.flow_emit.proofs.Depth.{offers-first}
use Rattle.run_course.proofs.Before.{legal-before}

pub more-of : {X : Type 0} (n : ℕ) (xs : List X) (d : X) → n < length xs → drop n xs ≡ get_or xs n d ∷ drop (n + 1) xs
more-of n xs d lt = rw (add-one, drop-cons xs n d) refl

-- THE OFFERS OF AN EMISSION
-- what is made of one offer
abbrev pub offered_as : Setting → BoardState → FrameName → ℕ → Entry
offered_as s b a c = wanted s (past b) (offer a c)

pub offered-room : (s : Setting) (b : BoardState) (a : FrameName) (c : ℕ) → has_room s (past b) c ≡ true → offered_as s b a c ≡ Accept c a.maker a.index
offered-room s b a c room = rw room refl

pub offered-full : (s : Setting) (b : BoardState) (a : FrameName) (c : ℕ) → has_room s (past b) c ≡ false → offered_as s b a c ≡ Full c a.maker a.index
offered-full s b a c full = rw full refl

-- the offer to the child at this place comes next
next-offer : (s : Setting) (v : ℕ) (a : FrameName) (i : ℕ) (d : ℕ) (cs : List ℕ) (old new : Coursed) → cs ≡ children s v
    → i < length cs → OffersMade s v a i old new
    → with_all s 0 1 (map (offer a) (drop (i + 1) (children s v))) (plain (offered_as s new.told a (get_or cs i d)) ∷ new.told)
    ≡ with_all s 0 1 (map (offer a) (children s v)) old.told
next-offer s v a i d cs old new is lt m =
    let c = get_or cs i d in
    let here : drop i (children s v) ≡ c ∷ drop (i + 1) (children s v) =
    subst (λ (xs : List ℕ). drop i xs ≡ get_or cs i d ∷ drop (i + 1) xs) is (more-of i cs d lt) in
    sym (offers-first s a c (drop (i + 1) (children s v)) new.told)
    ∙ (ap (λ xs. with_all s 0 1 (map (offer a) xs) new.told) (sym here)
    ∙ m.rest)

-- it is legal
pub next-legal : (s : Setting) (v : ℕ) (a : FrameName) (i : ℕ) (d : ℕ) (cs : List ℕ) (old new : Coursed) (e : Entry) → cs ≡ children s v
    → i < length cs → OffersMade s v a i old new
    → is_legal s (past (with_all s 0 1 (map (offer a) (children s v)) old.told)) ≡ true → offered_as s new.told a (get_or cs i d) ≡ e
    → is_legal s (e ∷ past new.told) ≡ true
next-legal s v a i d cs old new e is lt m legal made =
    subst (λ (x : Entry). is_legal s (x ∷ past new.told) ≡ true) made
    (legal-before s 0 1 (map (offer a) (drop (i + 1) (children s v))) (plain (offered_as s new.told a (get_or cs i d)) ∷ new.told)
    (subst (λ (b : BoardState). is_legal s (past b) ≡ true) (sym (next-offer s v a i d cs old new is lt m)) legal))

-- and then one more is made
pub one-more : (s : Setting) (v : ℕ) (a : FrameName) (i : ℕ) (d : ℕ) (cs : List ℕ) (old new : Coursed) (e : Entry) → cs ≡ children s v
    → i < length cs → OffersMade s v a i old new
    → offered_as s new.told a (get_or cs i d) ≡ e → ((u : ℕ) → has_just_emitted u (e ∷ past new.told) ≡ false)
    → OffersMade s v a (i + 1) old (record new { told = plain e ∷ new.told })
one-more s v a i d cs old new e is lt m made quiet =
    record {
      rest =
          subst (λ (x : Entry). with_all s 0 1 (map (offer a) (drop (i + 1) (children s v))) (plain x ∷ new.told)
          ≡ with_all s 0 1 (map (offer a) (children s v)) old.told) made (next-offer s v a i d cs old new is lt m);
      same_transit = m.same_transit;
      together = λ u dealing. quiet u;
    }

-- an emission is legal where its offers are
pub emission-legal : (s : Setting) (v : ℕ) (why : Why) (a : FrameName) (b : BoardState) → is_legal s (past (with_all s 0 2 (emit v why a ∷ []) b)) ≡ true
    → is_legal s (Emit v a.maker a.index why ∷ past b) ≡ true
emission-legal s v why a b h = legal-before s 0 1 (map (offer a) (offered_to s (past b) v)) (plain (Emit v a.maker a.index why) ∷ b) h

pub node-number : (s : Setting) (v : ℕ) → is_node s v ≡ true → v ≤ length s.nodes
node-number s v h = leb-true v (length s.nodes) (and_parts (ltb 0 v) (leb v (length s.nodes)) h).1

-- the driver deals nothing
pub dealing-node : (s : Setting) (v : ℕ) → v ≤ length s.nodes → deals s v ≡ true → is_node s v ≡ true
dealing-node s zero le d = absurd (true≢false (sym d))
dealing-node s (suc v) le d = and_from _ _ (lt-ltb 0 (suc v) (omega arith)) (le-leb (suc v) (length s.nodes) le)
