-- Each block that has a place is known.
use Rattle.std.proofs.Common.{◌≡◌, ◌≢◌, ℕ, zero, suc, ◌+◌, ◌≤◌, Bool, true, false, not, ◌&&◌, cond, eqb, ltb, List, [], ◌∷◌, ◌++◌, map, refl, sym, ap, ◌∙◌}
use Rattle.std.proofs.Common.{subst, arith, inl, inr}
use Rattle.std.specs.Prelude.{flat_map, slice_index_or}
use Rattle.std.specs.List.{list_any}
use Rattle.std.proofs.lemmas.Bool.{and_parts, false≢true, true≢false, eq-eqb, ne_eqb, eqb-true, cases_Bool, or_parts, or_cases, or_from}
use Rattle.nd_base.specs.declared.frame.FrameName.{FrameName}
use Rattle.pool_ledger.specs.Grants.{has_number, known_after, Granted}
use Rattle.flow_journal.specs.declared.entry.Entry.{Entry}
use Rattle.flow_journal.specs.declared.entry.Entry.TheVariants.{Load, Take, TakeBlock, Save, Reclaim}
use Rattle.flow_journal.specs.Setting.{Setting, Node, no_node, node, is_maker, may_sort, numbers_from, node_numbers}
use Rattle.flow_journal.specs.Pasts.{Past, frame, same, minus}
use Rattle.flow_journal.specs.Hands.{takes_up, let_go, hands, standing, is_free}
use Rattle.flow_journal.specs.Queued.{queued}
use Rattle.flow_journal.specs.Waiting.{Waiting, waiting}
use Rattle.flow_journal.specs.Rings.{ring, ring_of}
use Rattle.flow_journal.specs.Unsaved.{unsaved, standing_saves, is_file}
use Rattle.flow_journal.specs.Accepted.{accepts}
use Rattle.flow_journal.specs.Puts.{puts, firings}
use Rattle.flow_journal.specs.Ended.{is_settled}
use Rattle.flow_journal.specs.Accounts.{granted_for, first_of, block_of, blocks_in_hand, arrays_at, places, refs, is_unplaced, known, held}
use Rattle.flow_journal.specs.FirstEntries.{first, may_load, may_take, pool_grants}
use Rattle.flow_journal.specs.Following.{owed}
use Rattle.flow_journal.specs.Histories.{is_legal}
use Rattle.flow_journal.specs.HistoryLaws.{ArePlacesKnown, RunsLoadUnplaced, RunsTakeUnplaced}
use Rattle.flow_journal.specs.RunSetting.{setting_of}
use Rattle.flow_journal.proofs.Histories.{legal-front}
use Rattle.flow_journal.proofs.Steps.{same_refl}
use Rattle.flow_journal.proofs.Hands.{row_of}
use Rattle.flow_journal.proofs.Counts.{queued-by}
use Rattle.flow_journal.proofs.EntryCounts.{count, bit, count-cons, count-append, owed-first}
use Rattle.flow_journal.proofs.Offers.{is_number, none_at}
use Rattle.flow_journal.proofs.Issues.{accepts-count}
use Rattle.flow_journal.proofs.Outs.{of_index, waits}
use Rattle.flow_journal.proofs.Emissions.{waiting-unsorted}
use Rattle.flow_journal.proofs.Travels.{bit-none, holds, carries, Clear, clear-start, clear-more}
use Rattle.flow_journal.proofs.FrameBlocks.{grants_of, grant-once, first_of-few, has, any-append, any-flat, hands-blocks}
use Rattle.flow_journal.proofs.Grants.{grants-unplaced, granted-is, granted-known, stays-known}
use Rattle.flow_journal.proofs.Found.{none_counted, none_any}
use Rattle.flow_journal.proofs.Making.{one_fails}

-- ONE TEST FOR ANOTHER

-- where two tests never pass, and the third passes only where one of them does
no_third : {X : Type 0} (p q r : X → Bool) → ((x : X) → p x ≡ false → q x ≡ false → r x ≡ false) → (xs : List X)
    → count p xs ≡ 0 → count q xs ≡ 0 → count r xs ≡ 0
no_third p q r only [] h g = refl
no_third p q r only (x ∷ xs) h g =
    let np = bit-none (p x) (omega (arith, count-cons p x xs, h)) in
    let nq = bit-none (q x) (omega (arith, count-cons q x xs, g)) in
    omega (arith, count-cons r x xs, ap bit (only x np nq), no_third p q r only xs (omega (arith, count-cons p x xs, h)) (omega (arith, count-cons q x xs, g)))

holds-third : (t u w : FrameName → Bool) → ((a : FrameName) → t a ≡ false → u a ≡ false → w a ≡ false) → (e : Entry) → holds t e ≡ false
    → holds u e ≡ false → holds w e ≡ false
holds-third t u w only (Load r k b n f g x) h i = only (frame 0 k) h i
holds-third t u w only (Take r v m k) h i = only (frame m k) h i
holds-third t u w only (TakeBlock f x r v m k b n g) h i =
    let p = or_parts (t (frame v k)) (t (frame m k)) h in
    let q = or_parts (u (frame v k)) (u (frame m k)) i in
    or_from (w (frame v k)) (w (frame m k)) (only (frame v k) p.0 q.0) (only (frame m k) p.1 q.1)
holds-third t u w only (Save r v m k g) h i = only (frame m k) h i
holds-third t u w only _ h i = refl

-- no place has an array that passes the test
record Unplaced (t : FrameName → Bool) (s : Setting) (P : Past) : Type 0 where
  queues : (v : ℕ) → count t (queued v P) ≡ 0
  lists : (v : ℕ) → count (waits t) (waiting s v P) ≡ 0
  rings : (v : ℕ) → count t (ring s v P) ≡ 0
  files : (v : ℕ) → count t (unsaved s v P) ≡ 0
  roles : count (holds t) (hands P) ≡ 0

clear-third : (t u w : FrameName → Bool) (s : Setting) (P : Past) → ((a : FrameName) → t a ≡ false → u a ≡ false → w a ≡ false) → Clear t s P → Unplaced u s P
    → count (carries w) (owed s P) ≡ 0 → Clear w s P
clear-third t u w s P only c n calls = record {
  queues = λ v. no_third t u w only (queued v P) (c.queues v) (n.queues v);
  lists = λ v. no_third (waits t) (waits u) (waits w) (λ x. only x.array) (waiting s v P) (c.lists v) (n.lists v);
  rings = λ v. no_third t u w only (ring s v P) (c.rings v) (n.rings v);
  files = λ v. no_third t u w only (unsaved s v P) (c.files v) (n.files v);
  roles = no_third (holds t) (holds u) (holds w) (holds-third t u w only) (hands P) c.roles n.roles;
  calls = calls;
}

-- NODES

-- the graph has the node
abbrev pub is_numbered : Setting → ℕ → Bool
is_numbered s v = list_any (is_number v) (node_numbers s)

beyond : (k i : ℕ) (ns : List Node) → list_any (is_number (i + k)) (numbers_from k ns) ≡ false → slice_index_or ns i no_node ≡ no_node
beyond k i [] h = refl
beyond k zero (n ∷ ns) h =
    let p = or_parts (eqb k (0 + k)) (list_any (is_number (0 + k)) (numbers_from (k + 1) ns)) h in
    absurd (true≢false (sym (eq-eqb k (0 + k) (omega arith)) ∙ p.0))
beyond k (suc i) (n ∷ ns) h =
    let p = or_parts (eqb k (suc i + k)) (list_any (is_number (suc i + k)) (numbers_from (k + 1) ns)) h in
    let same_number : suc i + k ≡ i + (k + 1) = omega arith in
    beyond (k + 1) i ns (subst (λ (j : ℕ). list_any (is_number j) (numbers_from (k + 1) ns) ≡ false) same_number p.1)

-- what isn't in the graph has no rule
no_rule : (s : Setting) (v : ℕ) → is_numbered s v ≡ false → node s v ≡ no_node
no_rule s zero h = refl
no_rule s (suc i) h =
    let same_number : suc i ≡ i + 1 = omega arith in
    beyond 1 i s.nodes (subst (λ (j : ℕ). list_any (is_number j) (node_numbers s) ≡ false) same_number h)

no_indices : (xs : List FrameName) → ((k : ℕ) → count (of_index k) xs ≡ 0) → xs ≡ []
no_indices [] h = refl
no_indices (x ∷ xs) h = absurd (omega (arith, count-cons (of_index x.index) x xs, ap bit (eq-eqb x.index x.index refl), h x.index))

-- and nothing is queued there
no_queue : (s : Setting) (P : Past) (v : ℕ) (t : FrameName → Bool) → is_legal s P ≡ true → is_numbered s v ≡ false → count t (queued v P) ≡ 0
no_queue s P v t h none =
    let zero_numbered : count (is_number v) (node_numbers s) ≡ 0 = none_counted (is_number v) (node_numbers s) none in
    let nothing_accepted : accepts v P ≡ [] = no_indices (accepts v P) (λ k. omega (arith, accepts-count v k P, none_at s P v k zero_numbered h)) in
    omega (arith, queued-by s P v t h, ap (count t) nothing_accepted)

-- the places at one node
pub record AtNode (t : FrameName → Bool) (s : Setting) (P : Past) (v : ℕ) : Type 0 where
  pub queue : count t (queued v P) ≡ 0
  pub list : count (waits t) (waiting s v P) ≡ 0
  pub kept : count t (ring s v P) ≡ 0
  pub file : count t (unsaved s v P) ≡ 0

pub at_none : (t : FrameName → Bool) (s : Setting) (P : Past) (v : ℕ) → is_legal s P ≡ true → is_numbered s v ≡ false → AtNode t s P v
at_none t s P v h none =
    let rule : node s v ≡ no_node = no_rule s v none in
    record {
      queue = no_queue s P v t h none;
      list = ap (count (waits t)) (waiting-unsorted s v P (ap (λ (n : Node). may_sort n.work && ltb 0 n.sort) rule));
      kept =
          subst (λ (n : Node). count t (cond (is_settled v P) [] (ring_of n.work (firings v P) (puts v P))) ≡ 0) (sym rule)
          (elim (is_settled v P) as (λ b. count t (cond b [] []) ≡ 0) [ true ↦ refl | false ↦ refl ]);
      file = subst (λ (n : Node). count t (cond (is_file n.work) (minus (puts v P) (standing_saves v P)) []) ≡ 0) (sym rule) refl;
    }

pub map-count : (t : FrameName → Bool) (ws : List Waiting) → count t (map (λ w. w.array) ws) ≡ count (waits t) ws
map-count t [] = refl
map-count t (w ∷ ws) = omega (arith, map-count t ws, count-cons t w.array (map (λ x. x.array) ws), count-cons (waits t) w ws)

pub arrays-count : (t : FrameName → Bool) (s : Setting) (P : Past) (v : ℕ)
    → count t (arrays_at s P v) ≡ count t (queued v P) + count (waits t) (waiting s v P) + count t (ring s v P) + count t (unsaved s v P)
arrays-count t s P v =
    let ws : List FrameName = map (λ w. w.array) (waiting s v P) in
    omega (
      arith,
      count-append t (queued v P ++ ws ++ ring s v P) (unsaved s v P),
      count-append t (queued v P ++ ws) (ring s v P),
      count-append t (queued v P) ws,
      map-count t (waiting s v P),
    )

pub at_some : (t : FrameName → Bool) (s : Setting) (P : Past) (v : ℕ) → list_any t (arrays_at s P v) ≡ false → AtNode t s P v
at_some t s P v h =
    let none = none_counted t (arrays_at s P v) h in
    let split = arrays-count t s P v in
    record { queue = omega (arith, none, split); list = omega (arith, none, split); kept = omega (arith, none, split); file = omega (arith, none, split) }

pub any_at : (p : ℕ → Bool) (v : ℕ) (us : List ℕ) → list_any p us ≡ false → list_any (is_number v) us ≡ true → p v ≡ false
any_at p v [] h i = absurd (false≢true i)
any_at p v (u ∷ us) h i =
    let q = or_parts (p u) (list_any p us) h in
    elim (or_cases (eqb u v) (list_any (is_number v) us) i) [
      | inl here ↦ ap p (sym (eqb-true u v here)) ∙ q.0
      | inr there ↦ any_at p v us q.1 there
    ]

-- BLOCKS OF PLACES

-- where no place has a block that passes, no place has an array whose block does
from_places : (s : Setting) (q : ℕ → Bool) (P : Past) → is_legal s P ≡ true → list_any q (places s P) ≡ false → Unplaced (has q P) s P
from_places s q P h none =
    let t : FrameName → Bool = has q P in
    let p =
    or_parts (list_any q (flat_map (blocks_in_hand P) (hands P))) (list_any q (flat_map (block_of P) (flat_map (arrays_at s P) (node_numbers s))))
    (sym (any-append q (flat_map (blocks_in_hand P) (hands P)) (flat_map (block_of P) (flat_map (arrays_at s P) (node_numbers s)))) ∙ none) in
    let nodes : list_any (λ v. list_any t (arrays_at s P v)) (node_numbers s) ≡ false =
    sym (any-flat t (arrays_at s P) (node_numbers s)) ∙ (sym (any-flat q (block_of P) (flat_map (arrays_at s P) (node_numbers s))) ∙ p.1) in
    let at : (v : ℕ) → AtNode t s P v = λ v. elim (cases_Bool (is_numbered s v)) [
      | inl numbered ↦ at_some t s P v (any_at (λ u. list_any t (arrays_at s P u)) v (node_numbers s) nodes numbered)
      | inr away ↦ at_none t s P v h away
    ] in
    record {
      queues = λ v. (at v).queue;
      lists = λ v. (at v).list;
      rings = λ v. (at v).kept;
      files = λ v. (at v).file;
      roles = none_counted (holds t) (hands P) (sym (hands-blocks s q P h) ∙ p.0);
    }

all_none : (p : ℕ → Bool) (us : List ℕ) → ((u : ℕ) → p u ≡ false) → list_any p us ≡ false
all_none p [] h = refl
all_none p (u ∷ us) h = or_from (p u) (list_any p us) (h u) (all_none p us h)

-- and conversely
to_places : (s : Setting) (q : ℕ → Bool) (P : Past) → is_legal s P ≡ true → Clear (has q P) s P → list_any q (places s P) ≡ false
to_places s q P h c =
    let t : FrameName → Bool = has q P in
    let hs : list_any q (flat_map (blocks_in_hand P) (hands P)) ≡ false = hands-blocks s q P h ∙ none_any (holds t) (hands P) c.roles in
    let vs : list_any q (flat_map (block_of P) (flat_map (arrays_at s P) (node_numbers s))) ≡ false =
    any-flat q (block_of P) (flat_map (arrays_at s P) (node_numbers s))
    ∙ (any-flat t (arrays_at s P) (node_numbers s)
    ∙ all_none (λ v. list_any t (arrays_at s P v)) (node_numbers s)
    (λ v. none_any t (arrays_at s P v) (omega (arith, arrays-count t s P v, c.queues v, c.lists v, c.rings v, c.files v)))) in
    any-append q (flat_map (blocks_in_hand P) (hands P)) (flat_map (block_of P) (flat_map (arrays_at s P) (node_numbers s))) ∙ or_from _ _ hs vs

none_alone : (whole xs : List ℕ) → ((c : ℕ) → count (is_number c) xs ≤ count (is_number c) whole) → list_any (λ c. eqb (count (is_number c) whole) 0) xs ≡ false
none_alone whole [] h = refl
none_alone whole (x ∷ xs) h =
    let some : count (is_number x) whole ≢ 0 = λ e. omega (arith, h x, count-cons (is_number x) x xs, ap bit (eq-eqb x x refl), e) in
    or_from (eqb (count (is_number x) whole) 0) (list_any (λ c. eqb (count (is_number c) whole) 0) xs) (ne_eqb (count (is_number x) whole) 0 some)
    (none_alone whole xs (λ c. omega (arith, h c, count-cons (is_number c) x xs)))

-- each place has its block
places-placed : (s : Setting) (P : Past) → list_any (is_unplaced s P) (places s P) ≡ false
places-placed s P = none_alone (places s P) (places s P) (λ c. omega arith)

absent : (q : ℕ → Bool) (b : ℕ) (xs : List ℕ) → q b ≡ true → list_any q xs ≡ false → count (is_number b) xs ≡ 0
absent q b [] h none = refl
absent q b (x ∷ xs) h none =
    let p = or_parts (q x) (list_any q xs) none in
    elim (cases_Bool (eqb x b)) [
      | inl here ↦ absurd (true≢false (sym h ∙ (ap q (sym (eqb-true x b here)) ∙ p.0)))
      | inr away ↦ omega (arith, count-cons (is_number b) x xs, ap bit away, absent q b xs h p.1)
    ]

-- KNOWN BLOCKS

abbrev is_unknown : Setting → Past → ℕ → Bool
is_unknown s P b = not (has_number b (known s P))

-- the frame's block isn't known
abbrev is_lost : Setting → Past → FrameName → Bool
is_lost s P a = has (is_unknown s P) P a

not-false : (b : Bool) → not b ≡ false → b ≡ true
not-false true h = refl
not-false false h = absurd (true≢false h)

first-third : (p q r : ℕ → Bool) (bs : List ℕ) → ((c : ℕ) → p c ≡ false → q c ≡ false → r c ≡ false) → list_any p bs ≡ false
    → list_any q bs ≡ false → list_any r bs ≡ false
first-third p q r [] only h g = refl
first-third p q r (b ∷ bs) only h g =
    let i = or_parts (p b) (list_any p bs) h in
    let j = or_parts (q b) (list_any q bs) g in
    or_from (r b) (list_any r bs) (only b i.0 j.0) (first-third p q r bs only i.1 j.1)

-- a grant that makes a frame: the frame's block is known then, and no block of a place is given up
granted-third : (s : Setting) (m b n : ℕ) (f : Bool) (g : ℕ) (x : Bool) (P : Past) (made a : FrameName) → s.pooled ≡ true → pool_grants s m b n f g x P ≡ true
    → is_lost s P a ≡ false → has (is_unplaced s P) P a ≡ false
    → list_any (λ c. not (has_number c (known_after (is_unplaced s P) (Granted b n f g) (known s P))))
    (first_of (cond (same a made) (b ∷ []) [] ++ grants_of a (standing P))) ≡ false
granted-third s m b n f g x P made a pooled h lost unplaced =
    elim (same a made) as (λ c. list_any (λ k. not (has_number k (known_after (is_unplaced s P) (Granted b n f g) (known s P))))
    (first_of (cond c (b ∷ []) [] ++ grants_of a (standing P))) ≡ false) [
      | true ↦
          or_from _ false
          (ap not (granted-known s.limit (s.need m) (held s P) b n f g (is_unplaced s P) (known s P) (granted-is s m b n f g x P pooled h))) refl
      | false ↦
          first-third (is_unknown s P) (is_unplaced s P) (λ k. not (has_number k (known_after (is_unplaced s P) (Granted b n f g) (known s P)))) (block_of P a)
          (λ k u p. ap not (stays-known (is_unplaced s P) b n f g k (known s P) p (not-false _ u))) lost unplaced
    ]

granted-made : (s : Setting) (m b n : ℕ) (f : Bool) (g : ℕ) (x : Bool) (P : Past) (made : FrameName) → s.pooled ≡ true → pool_grants s m b n f g x P ≡ true
    → list_any (λ c. not (has_number c (known_after (is_unplaced s P) (Granted b n f g) (known s P))))
    (first_of (cond (same made made) (b ∷ []) [] ++ grants_of made (standing P))) ≡ false
granted-made s m b n f g x P made pooled h =
    subst (λ c. list_any (λ k. not (has_number k (known_after (is_unplaced s P) (Granted b n f g) (known s P))))
    (first_of (cond c (b ∷ []) [] ++ grants_of made (standing P))) ≡ false) (sym (same_refl made))
    (or_from _ false (ap not (granted-known s.limit (s.need m) (held s P) b n f g (is_unplaced s P) (known s P) (granted-is s m b n f g x P pooled h))) refl)

any-let_go : (q : ℕ → Bool) (a : FrameName) (r : ℕ) (es : List Entry) → list_any q (grants_of a es) ≡ false → list_any q (grants_of a (let_go r es)) ≡ false
any-let_go q a r [] h = refl
any-let_go q a r (e ∷ es) h =
    let p = or_parts (list_any q (granted_for a e)) (list_any q (grants_of a es)) (sym (any-append q (granted_for a e) (grants_of a es)) ∙ h) in
    elim (takes_up r e) as (λ b. list_any q (grants_of a (cond b es (e ∷ let_go r es))) ≡ false) [
      | true ↦ p.1
      | false ↦ any-append q (granted_for a e) (grants_of a (let_go r es)) ∙ or_from _ _ p.0 (any-let_go q a r es p.1)
    ]

any-first : (q : ℕ → Bool) (bs : List ℕ) → list_any q bs ≡ false → list_any q (first_of bs) ≡ false
any-first q [] h = refl
any-first q (b ∷ bs) h = or_from (q b) false (or_parts (q b) (list_any q bs) h).0 refl

-- a reclaim makes no frame lost
reclaimed-third : (s : Setting) (r : ℕ) (P : Past) (a : FrameName) → is_legal s P ≡ true → is_lost s P a ≡ false → is_lost s (Reclaim r ∷ P) a ≡ false
reclaimed-third s r P a h lost =
    let whole : list_any (is_unknown s P) (grants_of a (standing P)) ≡ false =
    ap (list_any (is_unknown s P)) (sym (first_of-few (grants_of a (standing P)) (grant-once s P a h))) ∙ lost in
    let fewer : list_any (is_unknown s P) (first_of (grants_of a (let_go r (standing P)))) ≡ false =
    any-first (is_unknown s P) (grants_of a (let_go r (standing P))) (any-let_go (is_unknown s P) a r (standing P) whole) in
    elim (is_free r P) as (λ b. list_any (is_unknown s P) (first_of (grants_of a (Reclaim r ∷ cond b (standing P) (let_go r (standing P))))) ≡ false) [
      | true ↦ any-first (is_unknown s P) (grants_of a (standing P)) whole
      | false ↦ fewer
    ]

-- no array at a place has a block that isn't known, nor has one that is owed
pub none_lost : (s : Setting) (P : Past) → s.pooled ≡ true → is_legal s P ≡ true → Clear (is_lost s P) s P
none_lost s [] pooled h = clear-start (is_lost s []) (is_lost s []) s
none_lost s (Load r k b n f g x ∷ P) pooled h =
    let legal : is_legal s P ≡ true = (and_parts _ _ h).0 in
    let e : Entry = Load r k b n f g x in
    let t : FrameName → Bool = is_lost s (e ∷ P) in
    let grants : pool_grants s 0 b n f g x P ≡ true = (and_parts (may_load s r k P) (pool_grants s 0 b n f g x P) (row_of s e P (λ d. refl) h)).1 in
    let before : Clear t s P =
    clear-third (is_lost s P) (has (is_unplaced s P) P) t s P (λ a lost unplaced. granted-third s 0 b n f g x P (frame 0 k) a pooled grants lost unplaced)
    (none_lost s P pooled legal) (from_places s (is_unplaced s P) P legal (places-placed s P)) (ap (count (carries t)) (owed-first s e P (λ d. refl) h)) in
    clear-more t s e P h (one_fails t (frame 0 k) (granted-made s 0 b n f g x P (frame 0 k) pooled grants)) before
none_lost s (TakeBlock f x r v m k b n g ∷ P) pooled h =
    let legal : is_legal s P ≡ true = (and_parts _ _ h).0 in
    let e : Entry = TakeBlock f x r v m k b n g in
    let t : FrameName → Bool = is_lost s (e ∷ P) in
    let grants : pool_grants s v b n f g x P ≡ true =
    (and_parts (may_take s r v (frame m k) P && is_maker s v) (pool_grants s v b n f g x P) (row_of s e P (λ d. refl) h)).1 in
    let before : Clear t s P =
    clear-third (is_lost s P) (has (is_unplaced s P) P) t s P (λ a lost unplaced. granted-third s v b n f g x P (frame v k) a pooled grants lost unplaced)
    (none_lost s P pooled legal) (from_places s (is_unplaced s P) P legal (places-placed s P)) (ap (count (carries t)) (owed-first s e P (λ d. refl) h)) in
    clear-more t s e P h (one_fails t (frame v k) (granted-made s v b n f g x P (frame v k) pooled grants)) before
none_lost s (Reclaim r ∷ P) pooled h =
    let legal : is_legal s P ≡ true = (and_parts _ _ h).0 in
    let c = none_lost s P pooled legal in
    let t : FrameName → Bool = is_lost s (Reclaim r ∷ P) in
    let still : (a : FrameName) → is_lost s P a ≡ false → is_lost s P a ≡ false → t a ≡ false = λ a lost _. reclaimed-third s r P a legal lost in
    let before : Clear t s P =
    clear-third (is_lost s P) (is_lost s P) t s P still c (record { queues = c.queues; lists = c.lists; rings = c.rings; files = c.files; roles = c.roles })
    (ap (count (carries t)) (owed-first s (Reclaim r) P (λ d. refl) h)) in
    clear-more t s (Reclaim r) P h refl before
none_lost s (e ∷ P) pooled h = clear-more (is_lost s P) s e P h refl (none_lost s P pooled (and_parts _ _ h).0)

-- of every legal log: each block that has a place is known
pub places-known : (s : Setting) (P : Past) → s.pooled ≡ true → is_legal s P ≡ true → ArePlacesKnown s P
places-known s P pooled h b placed =
    let none = to_places s (is_unknown s P) P h (none_lost s P pooled h) in
    elim (cases_Bool (has_number b (known s P))) [
      | inl is ↦ is
      | inr unknown ↦
          let nowhere : count (is_number b) (places s P) ≡ 0 = absent (is_unknown s P) b (places s P) (ap not unknown) none in
          absurd (true≢false (sym (eq-eqb (refs s P b) 0 nowhere) ∙ placed))
    ]

-- a granted block has no place just before
pub load-unplaced : (s : Setting) (P : Past) (r k b n : ℕ) (f : Bool) (g : ℕ) (x : Bool) → s.pooled ≡ true → is_legal s P ≡ true
    → first s P (Load r k b n f g x) ≡ true → refs s P b ≡ 0
load-unplaced s P r k b n f g x pooled legal h =
    grants-unplaced s 0 b n f g x P pooled (places-known s P pooled legal) (and_parts (may_load s r k P) (pool_grants s 0 b n f g x P) h).1

pub take-unplaced : (s : Setting) (P : Past) (r v m k b n : ℕ) (f : Bool) (g : ℕ) (x : Bool) → s.pooled ≡ true → is_legal s P ≡ true
    → first s P (TakeBlock f x r v m k b n g) ≡ true → refs s P b ≡ 0
take-unplaced s P r v m k b n f g x pooled legal h =
    grants-unplaced s v b n f g x P pooled (places-known s P pooled legal)
    (and_parts (may_take s r v (frame m k) P && is_maker s v) (pool_grants s v b n f g x P) h).1

-- in a run blocks are accounted
pub runs-load : RunsLoadUnplaced
runs-load graph makers arrays newer P r k b n f g x h =
    let s : Setting = setting_of graph makers arrays in
    let legal : is_legal s (Load r k b n f g x ∷ P) ≡ true = legal-front s newer (Load r k b n f g x ∷ P) h in
    load-unplaced s P r k b n f g x refl (and_parts _ _ legal).0 (row_of s (Load r k b n f g x) P (λ d. refl) legal)

pub runs-take : RunsTakeUnplaced
runs-take graph makers arrays newer P r v m k b n f g x h =
    let s : Setting = setting_of graph makers arrays in
    let legal : is_legal s (TakeBlock f x r v m k b n g ∷ P) ≡ true = legal-front s newer (TakeBlock f x r v m k b n g ∷ P) h in
    take-unplaced s P r v m k b n f g x refl (and_parts _ _ legal).0 (row_of s (TakeBlock f x r v m k b n g) P (λ d. refl) legal)
