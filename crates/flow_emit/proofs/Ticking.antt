-- A tick, and the looks that it calls for: a look at one node leaves those at the others as they were.
use Rattle.std.proofs.Common.{◌≡◌, ◌≢◌, ◌≤◌, ◌<◌, ◌∙◌, ◌+◌, ℕ, zero, suc, max, ℤ, true, false, Bool, List, [], ◌∷◌, ◌++◌, length, map, drop, refl, sym, ap, subst, eqb, ltb, arith, get_or, if◌then◌else◌}
use Rattle.std.specs.List.{All, list_all}
use Rattle.std.proofs.lemmas.Bool.{and_parts, and_from, eq-eqb, eqb-true, false≢true}
use Rattle.std.proofs.lemmas.List.{drop_all}
use Rattle.std.proofs.lemmas.List.Elements.{All-cons, All-nil, All-head, All-tail}
use Rattle.queue_sort.specs.Sorting.{keeps_step}
use Rattle.flow_journal.specs.declared.entry.Entry.{Entry}
use Rattle.flow_journal.specs.declared.entry.Entry.TheVariants.{Tick, Emit}
use Rattle.flow_journal.specs.declared.entry.Why.{Why}
use Rattle.flow_journal.specs.declared.entry.Why.TheVariants.{Step, Late}
use Rattle.flow_journal.specs.Setting.{Setting, Node, node, no_node, id_at, is_sorted, numbers_from, node_numbers}
use Rattle.flow_journal.specs.Pasts.{Past, frame}
use Rattle.flow_journal.specs.Ended.{now}
use Rattle.flow_journal.specs.Breaks.{prev}
use Rattle.flow_journal.specs.Waiting.{Waiting, waiting, least_first}
use Rattle.flow_journal.specs.Turns.{offered_to}
use Rattle.flow_journal.specs.Following.{emit, goes_out, look, offer}
use Rattle.flow_journal.specs.Histories.{is_legal}
use Rattle.flow_journal.proofs.Outs.{all-append}
use Rattle.flow_journal.proofs.Changes.{put_laws, clock_laws}
use Rattle.board_rules.specs.States.{BoardState, past, plain}
use Rattle.board_rules.specs.Moving.{with_all}
use Rattle.run_course.specs.Courses.{Coursed}
use Rattle.flow_emit.specs.Ticks.{looks, all_looked, LooksMade}
use Rattle.flow_emit.proofs.Depth.{is_out, outs-flat, outs-append}
use Rattle.run_course.proofs.Before.{legal-before}
use Rattle.flow_emit.proofs.Waits.{look-offers}
use Rattle.flow_emit.proofs.Offering.{more-of}

-- WHAT GOES OUT AT A LOOK
-- the entry lets an array out of this node
abbrev pub is_out_of : ℕ → Entry → Bool
is_out_of v (Emit w m k why) = eqb w v
is_out_of v _ = false

goes-of : (s : Setting) (v : ℕ) (before : ℤ) (t : ℕ) (ws : List Waiting) → list_all (is_out_of v) (goes_out s v before t ws) ≡ true
goes-of s v before t [] = refl
goes-of s v before t (w ∷ ws) =
    split (keeps_step before (id_at s w.array.index)) (ltb (w.tick + (node s v).sort_time) t) (goes-of s v (id_at s w.array.index) t ws) where
      split : (a b : Bool) → list_all (is_out_of v) (goes_out s v (id_at s w.array.index) t ws) ≡ true
          → list_all (is_out_of v) (if a then emit v Step w.array ∷ goes_out s v (id_at s w.array.index) t ws
          else if b then emit v Late w.array ∷ goes_out s v (id_at s w.array.index) t ws else []) ≡ true
      split true b more = and_from _ _ (eq-eqb v v refl) more
      split false true more = and_from _ _ (eq-eqb v v refl) more
      split false false more = refl

-- all of it goes out of that node
look-of : (s : Setting) (v : ℕ) (P : Past) → list_all (is_out_of v) (look s v P) ≡ true
look-of s v P = goes-of s v (prev s v P) (now P) (least_first s (waiting s v P))

of-outs : (v : ℕ) (ds : List Entry) → list_all (is_out_of v) ds ≡ true → list_all is_out ds ≡ true
of-outs v [] h = refl
of-outs v (Emit w m k why ∷ ds) h = of-outs v ds (and_parts (eqb w v) (list_all (is_out_of v) ds) h).1
of-outs v (_ ∷ ds) h = absurd (false≢true h)

pub look-outs : (s : Setting) (v : ℕ) (P : Past) → list_all is_out (look s v P) ≡ true
look-outs s v P = of-outs v (look s v P) (look-of s v P)

looks-outs : (s : Setting) (P : Past) (vs : List ℕ) → list_all is_out (looks s P vs) ≡ true
looks-outs s P [] = refl
looks-outs s P (v ∷ vs) = all-append is_out (if is_sorted s v then look s v P else []) (looks s P vs) (one (is_sorted s v)) (looks-outs s P vs) where
  one : (b : Bool) → list_all is_out (if b then look s v P else []) ≡ true
  one true = look-outs s v P
  one false = refl

-- A LOOK AT ANOTHER NODE
emit-elsewhere : (s : Setting) (u w m k : ℕ) (why : Why) (P : Past) → w ≢ u → look s u (Emit w m k why ∷ P) ≡ look s u P
emit-elsewhere s u w m k why P ne =
    let Q : Past = Emit w m k why ∷ P in
    ap (λ (before : ℤ). goes_out s u before (now P) (least_first s (waiting s u Q))) (clock_laws.emit_elsewhere s u w m k why P ne)
    ∙ ap (λ (ws : List Waiting). goes_out s u (prev s u P) (now P) (least_first s ws)) (put_laws.goes_elsewhere s u w m k why P ne)

-- what goes out of a node leaves it as it was
pub look-elsewhere : (s : Setting) (u v : ℕ) (ds : List Entry) (b : BoardState) → list_all (is_out_of v) ds ≡ true → v ≢ u
    → look s u (past (with_all s 0 2 ds b)) ≡ look s u (past b)
look-elsewhere s u v [] b h ne = refl
look-elsewhere s u v (Emit w m k why ∷ ds) b h ne =
    let p = and_parts (eqb w v) (list_all (is_out_of v) ds) h in
    let same : w ≡ v = eqb-true w v p.0 in
    let a = frame m k in
    let mid : BoardState = plain (Emit w m k why) ∷ b in
    look-elsewhere s u v ds (with_all s 0 1 (map (offer a) (offered_to s (past b) w)) mid) p.1 ne
    ∙ (look-offers s u a (offered_to s (past b) w) mid
    ∙ emit-elsewhere s u w m k why (past b) (λ e. ne (sym same ∙ e)))
look-elsewhere s u v (_ ∷ ds) b h ne = absurd (false≢true h)

-- and so the looks at all nodes behind it
looks-elsewhere : (s : Setting) (v : ℕ) (ds : List Entry) (b : BoardState) (us : List ℕ) → list_all (is_out_of v) ds ≡ true → All (λ u. v < u) us
    → looks s (past (with_all s 0 2 ds b)) us ≡ looks s (past b) us
looks-elsewhere s v ds b [] h behind = refl
looks-elsewhere s v ds b (u ∷ us) h behind =
    let lt : v < u = All-head (λ w. v < w) u us behind in
    ap (λ (xs : List Entry). (if is_sorted s u then xs else []) ++ looks s (past (with_all s 0 2 ds b)) us)
    (look-elsewhere s u v ds b h (λ e. absurd (omega (arith, lt, e))))
    ∙ ap (λ (ys : List Entry). (if is_sorted s u then look s u (past b) else []) ++ ys) (looks-elsewhere s v ds b us h (All-tail (λ w. v < w) u us behind))

-- NUMBERS
numbers-drop : (i v : ℕ) (ns : List Node) → drop i (numbers_from v ns) ≡ numbers_from (v + i) (drop i ns)
numbers-drop zero v ns = ap (λ j. numbers_from j ns) (omega arith)
numbers-drop (suc i) v [] = refl
numbers-drop (suc i) v (n ∷ ns) = numbers-drop i (v + 1) ns ∙ ap (λ j. numbers_from j (drop i ns)) (omega arith)

numbers-behind : (v w : ℕ) (ns : List Node) → v < w → All (λ u. v < u) (numbers_from w ns)
numbers-behind v w [] lt = All-nil (λ u. v < u)
numbers-behind v w (n ∷ ns) lt = All-cons (λ u. v < u) w (numbers_from (w + 1) ns) lt (numbers-behind v (w + 1) ns (omega (arith, lt)))

-- the number at a place, and those behind it
next-number : (s : Setting) (i : ℕ) → i < length s.nodes → drop i (node_numbers s) ≡ (i + 1) ∷ drop (i + 1) (node_numbers s)
next-number s i lt =
    let n = get_or s.nodes i no_node in
    let here : drop i s.nodes ≡ n ∷ drop (i + 1) s.nodes = more-of i s.nodes no_node lt in
    numbers-drop i 1 s.nodes
    ∙ (ap (λ j. numbers_from j (drop i s.nodes)) (omega arith)
    ∙ (ap (numbers_from (i + 1)) here
    ∙ ap (λ (us : List ℕ). (i + 1) ∷ us) (ap (λ j. numbers_from j (drop (i + 1) s.nodes)) (omega arith) ∙ sym (numbers-drop (i + 1) 1 s.nodes))))

later-numbers : (s : Setting) (i : ℕ) → All (λ u. i + 1 < u) (drop (i + 1) (node_numbers s))
later-numbers s i =
    subst (All (λ u. i + 1 < u)) (sym (numbers-drop (i + 1) 1 s.nodes)) (numbers-behind (i + 1) (1 + (i + 1)) (drop (i + 1) s.nodes) (omega arith))

-- ONE LOOK AFTER THE OTHER
-- the look at the node at this place comes first
looked-first : (s : Setting) (i : ℕ) (old new : Coursed) → i < length s.nodes → is_sorted s (i + 1) ≡ true → LooksMade s i old new
    → with_all s 0 2 (looks s (past new.told) (drop (i + 1) (node_numbers s))) (with_all s 0 2 (look s (i + 1) (past new.told)) new.told)
    ≡ all_looked s old.told
looked-first s i old new lt sorted m =
    let P : Past = past new.told in
    let more : List Entry = looks s P (drop (i + 1) (node_numbers s)) in
    let here : looks s P (drop i (node_numbers s)) ≡ look s (i + 1) P ++ more =
    ap (looks s P) (next-number s i lt) ∙ ap (λ (b : Bool). (if b then look s (i + 1) P else []) ++ more) sorted in
    sym (outs-append s (look s (i + 1) P) more new.told) ∙ (ap (λ (ds : List Entry). with_all s 0 2 ds new.told) (sym here) ∙ m.rest)

pub look-legal : (s : Setting) (i : ℕ) (old new : Coursed) → i < length s.nodes → is_sorted s (i + 1) ≡ true → LooksMade s i old new
    → is_legal s (past (all_looked s old.told)) ≡ true
    → is_legal s (past (with_all s 0 2 (look s (i + 1) (past new.told)) new.told)) ≡ true
look-legal s i old new lt sorted m legal =
    legal-before s 0 2 (looks s (past new.told) (drop (i + 1) (node_numbers s))) (with_all s 0 2 (look s (i + 1) (past new.told)) new.told)
    (subst (λ (b : BoardState). is_legal s (past b) ≡ true) (sym (looked-first s i old new lt sorted m)) legal)

pub looked : (s : Setting) (i : ℕ) (old new : Coursed) → i < length s.nodes → is_sorted s (i + 1) ≡ true → LooksMade s i old new
    → LooksMade s (i + 1) old (record new { told = with_all s 0 2 (look s (i + 1) (past new.told)) new.told })
looked s i old new lt sorted m =
    let ds : List Entry = look s (i + 1) (past new.told) in
    record {
      rest =
          ap (λ (es : List Entry). with_all s 0 2 es (with_all s 0 2 ds new.told))
          (looks-elsewhere s (i + 1) ds new.told (drop (i + 1) (node_numbers s)) (look-of s (i + 1) (past new.told)) (later-numbers s i))
          ∙ looked-first s i old new lt sorted m;
      still = m.still;
    }

-- a node without a sort list is passed over
pub passed-over : (s : Setting) (i : ℕ) (old new : Coursed) → i < length s.nodes → is_sorted s (i + 1) ≡ false
    → LooksMade s i old new → LooksMade s (i + 1) old new
passed-over s i old new lt unsorted m =
    let P : Past = past new.told in
    let more : List Entry = looks s P (drop (i + 1) (node_numbers s)) in
    let here : looks s P (drop i (node_numbers s)) ≡ more =
    ap (looks s P) (next-number s i lt) ∙ ap (λ (b : Bool). (if b then look s (i + 1) P else []) ++ more) unsorted in
    record { rest = ap (λ (ds : List Entry). with_all s 0 2 ds new.told) (sym here) ∙ m.rest; still = m.still }

-- at the end all were looked at
pub looked-at-all : (s : Setting) (i : ℕ) (old new : Coursed) → length s.nodes ≤ i → old.transit ≡ [] → LooksMade s i old new
    → new ≡ record old { told = all_looked s old.told }
looked-at-all s i old new le still m =
    let none : drop i (node_numbers s) ≡ [] = numbers-drop i 1 s.nodes ∙ ap (numbers_from (1 + i)) (drop_all i s.nodes le) in
    let told : new.told ≡ all_looked s old.told = sym (ap (λ us. with_all s 0 2 (looks s (past new.told) us) new.told) none) ∙ m.rest in
    rw (sym told, still, sym m.still) refl

-- THE TICK
-- the entry that a tick comes to
abbrev pub kept_tick : ℕ → BoardState → Entry
kept_tick t b = Tick (max (now (past b)) t)

pub tick-looks : (s : Setting) (t : ℕ) (b : BoardState) → with_all s t 3 (Tick (now (past b)) ∷ []) b ≡ all_looked s (plain (kept_tick t b) ∷ b)
tick-looks s t b =
    outs-flat s t 0 (looks s (kept_tick t b ∷ past b) (node_numbers s)) (plain (kept_tick t b) ∷ b) (looks-outs s (kept_tick t b ∷ past b) (node_numbers s))

-- it is legal where its looks are
pub tick-legal : (s : Setting) (t : ℕ) (b : BoardState) → is_legal s (past (with_all s t 3 (Tick (now (past b)) ∷ []) b)) ≡ true
    → (is_legal s (kept_tick t b ∷ past b) ≡ true) × (is_legal s (past (all_looked s (plain (kept_tick t b) ∷ b))) ≡ true)
tick-legal s t b h =
    let all : is_legal s (past (all_looked s (plain (kept_tick t b) ∷ b))) ≡ true =
    subst (λ (d : BoardState). is_legal s (past d) ≡ true) (tick-looks s t b) h in
    (legal-before s 0 2 (looks s (kept_tick t b ∷ past b) (node_numbers s)) (plain (kept_tick t b) ∷ b) all, all)
