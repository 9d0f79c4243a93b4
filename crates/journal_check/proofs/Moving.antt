-- The entries of the move that was made.
use Rattle.std.proofs.Common.{◌≡◌, ℕ, zero, suc, ◌≤◌, ◌<◌, ◌⊎◌, max, get_or, length-append}
use Rattle.std.proofs.Common.{Bool, true, false, not, leb, List, [], ◌∷◌, ◌++◌, length, drop, reverse}
use Rattle.std.proofs.Common.{refl, sym, ap, ◌∙◌, subst, inl, inr, arith, None, append_assoc}
use Rattle.std.specs.List.{list_all}
use Rattle.std.proofs.lemmas.Bool.{and_parts, and_from, true≢false, false≢true, not-true, leb-true}
use Rattle.std.proofs.lemmas.List.{reverse-append, length-reverse}
use Rattle.std.proofs.lemmas.List.Folds.{list_all-append}
use Rattle.std.proofs.Math.Seq.{drop-append_seam}
use Rattle.flow_journal.specs.declared.entry.Entry.{Entry}
use Rattle.flow_journal.specs.declared.entry.Entry.TheVariants.{Load, LoadRefused, Tick, Issue, Emit, Accept, Full, Take, TakeBlock, PoolDrop, Put}
use Rattle.flow_journal.specs.declared.entry.Entry.TheVariants.{SortDrop, Settle, Save, Saved, Close, Leave, Reclaim}
use Rattle.flow_journal.specs.Setting.{Setting, node}
use Rattle.flow_journal.specs.Pasts.{Past, frame}
use Rattle.flow_journal.specs.Ended.{now}
use Rattle.flow_journal.specs.EntryTests.{is_tick}
use Rattle.flow_journal.specs.FirstEntries.{first}
use Rattle.flow_journal.specs.Following.{calls_for, owed}
use Rattle.flow_journal.specs.Histories.{is_legal, is_history, is_nothing, next}
use Rattle.flow_journal.specs.MoveLists.{begun_by}
use Rattle.flow_journal.specs.Moves.{onto, follow}
use Rattle.flow_journal.specs.Pushes.{history-owes, push-first}
use Rattle.flow_journal.specs.RowLaws.{begins}
use Rattle.flow_journal.specs.Waiting.{waiting, least_first}
use Rattle.flow_journal.proofs.EntryCounts.{count}
use Rattle.flow_journal.proofs.Emissions.{no_ticks}
use Rattle.flow_journal.proofs.Goings.{some_owed, quietly}
use Rattle.flow_journal.proofs.Histories.{legal-first, onto-append}
use Rattle.flow_journal.proofs.Outs.{result-at, flush-at}
use Rattle.flow_journal.proofs.Rows.{row_laws}
use Rattle.board_rules.specs.States.{BoardState, past, plain}
use Rattle.board_rules.specs.Moving.{with_all, moved_at}
use Rattle.board_rules.proofs.Moved.{fit-next, moved-legal}
use Rattle.board_rules.proofs.Moves.{GoOn, Followed, followed, followers}
use Rattle.board_rules.proofs.Pasts.{past-append}
use Rattle.journal_check.specs.Steps.{next_tick, tick_for, IsMade, OneTick, SameTicks, IsBegun}
use Rattle.journal_check.specs.Tries.{Tries}
use Rattle.journal_check.proofs.Following.{follow-parts}

-- WHAT FOLLOWS BEGINS NO MOVE

begins-none : (e : Entry) → begun_by e ≡ None → not (begins e) ≡ true
begins-none (Tick t) h = refl
begins-none (Emit v m k why) h = refl
begins-none (Accept v m k) h = refl
begins-none (Full v m k) h = refl
begins-none (SortDrop v m k) h = refl
begins-none _ h = cc

none-begin : (more : BoardState) → GoOn more → list_all (λ d. not (begins d)) (past more) ≡ true
none-begin [] g = refl
none-begin (t ∷ more) g = and_from _ _ (begins-none t.entry g.0) (none-begin more g.1)

all-back : (p : Entry → Bool) (xs : List Entry) → list_all p xs ≡ true → list_all p (reverse xs) ≡ true
all-back p [] h = refl
all-back p (x ∷ xs) h =
    let q = and_parts (p x) (list_all p xs) h in
    ap (list_all p) (reverse-append (x ∷ []) xs) ∙ (list_all-append p (reverse xs) (x ∷ []) ∙ and_from _ _ (all-back p xs q.1) (and_from _ _ q.0 refl))

pub onto-back : (xs : List Entry) (P : Past) → onto (reverse xs) P ≡ xs ++ P
onto-back [] P = refl
onto-back (x ∷ xs) P =
    ap (λ (es : List Entry). onto es P) (reverse-append (x ∷ []) xs)
    ∙ (onto-append (reverse xs) (x ∷ []) P ∙ ap (λ (Q : Past). x ∷ Q) (onto-back xs P))

-- what begins no move comes where something is owed
owing : (s : Setting) (P : Past) (x : Entry) (ds : List Entry) → not (begins x) ≡ true → next s P x ds ≡ true → not (is_nothing ds) ≡ true
owing s P x [] b n = absurd (true≢false (sym n ∙ row_laws.no_others s P x (not-true _ b)))
owing s P x (d ∷ ds) b n = refl

onto-legal : (s : Setting) (P : Past) (es : List Entry) → is_legal s (onto es P) ≡ true → is_legal s P ≡ true
onto-legal s P [] h = h
onto-legal s P (e ∷ es) h = (and_parts (is_legal s P) (next s P e (owed s P)) (onto-legal s (e ∷ P) es h)).0

-- entries that begin no move, each in its place and the last with nothing owed behind it, follow
follow-from : (s : Setting) (P : Past) (es : List Entry) → list_all (λ d. not (begins d)) es ≡ true → is_legal s (onto es P) ≡ true
    → is_nothing (owed s (onto es P)) ≡ true → follow s P es ≡ true
follow-from s P [] b h n = n
follow-from s P (x ∷ es) b h n =
    let p = and_parts (not (begins x)) (list_all (λ d. not (begins d)) es) b in
    let q = and_parts (is_legal s P) (next s P x (owed s P)) (onto-legal s (x ∷ P) es h) in
    and_from _ _ (and_from _ _ (owing s P x (owed s P) p.0 q.1) q.1) (follow-from s (x ∷ P) es p.1 h n)

-- THE MOVE

-- the entries behind the first one
abbrev after : {e : Entry} (b : BoardState) {new : BoardState} → Followed (plain e ∷ b) new → List Entry
after b f = reverse (past f.more)

newer : (e : Entry) (b new : BoardState) → (f : Followed (plain e ∷ b) new) → past new ≡ past f.more ++ e ∷ past b
newer e b new f = ap past f.whole ∙ past-append f.more (plain e ∷ b)

made-is : (s : Setting) (b : BoardState) (tick : ℕ) (e : Entry) → is_history s (past b) ≡ true → first s (past b) e ≡ true
    → (f : Followed (plain e ∷ b) (moved_at s tick (plain e) b)) → IsMade s (past b) e (after b f) (past (moved_at s tick (plain e) b))
made-is s b tick e h row f =
    let Q : Past = past (moved_at s tick (plain e) b) in
    let rest : List Entry = reverse (past f.more) in
    let whole : onto rest (e ∷ past b) ≡ Q = onto-back (past f.more) (e ∷ past b) ∙ sym (newer e b (moved_at s tick (plain e) b) f) in
    let good : is_history s Q ≡ true = moved-legal s b tick (plain e) h row in
    let there : is_history s (onto rest (e ∷ past b)) ≡ true = subst (λ (R : Past). is_history s R ≡ true) (sym whole) good in
    let p = and_parts (is_legal s (onto rest (e ∷ past b))) (is_nothing (owed s (onto rest (e ∷ past b)))) there in
    record {
      legal = legal-first s (past b) e h row;
      follows = follow-from s (e ∷ past b) rest (all-back (λ d. not (begins d)) (past f.more) (none-begin f.more f.go)) p.0 p.1;
      whole = whole;
      history = good;
    }

-- behind the entries of before stand those of the move
behind : (more P : Past) (e : Entry) → drop (length P) (reverse (more ++ e ∷ P)) ≡ e ∷ reverse more
behind more P e =
    let split : reverse (more ++ e ∷ P) ≡ reverse P ++ (e ∷ reverse more) =
    reverse-append more (e ∷ P)
    ∙ (ap (λ (xs : List Entry). xs ++ reverse more) (reverse-append (e ∷ []) P) ∙ append_assoc (reverse P) (e ∷ []) (reverse more)) in
    ap (λ (xs : List Entry). drop (length P) xs) split
    ∙ subst (λ (n : ℕ). drop n (reverse P ++ (e ∷ reverse more)) ≡ e ∷ reverse more) (length-reverse P) (drop-append_seam (reverse P) (e ∷ reverse more))

behind-new : (e : Entry) (b new : BoardState) → (f : Followed (plain e ∷ b) new) → drop (length (past b)) (reverse (past new)) ≡ e ∷ after b f
behind-new e b new f =
    ap (λ (Q : Past). drop (length (past b)) (reverse Q)) (newer e b new f) ∙ behind (past f.more) (past b) e

-- TICKS

-- the entry calls for a tick alone, that which stands behind it
record Loads (s : Setting) (P : Past) (e : Entry) : Type 0 where
  calls : calls_for s P e ≡ Tick (now P) ∷ []
  told : (u : ℕ) → tick_for e u ≡ u

-- a first entry calls for no tick, or for that alone
loads-or-quiet : (s : Setting) (P : Past) (e : Entry) → first s P e ≡ true → (count is_tick (calls_for s P e) ≡ 0) ⊎ Loads s P e
loads-or-quiet s P (Load r k b n f g x) h = inr (record { calls = refl; told = λ u. refl })
loads-or-quiet s P (LoadRefused r k n z) h = inr (record { calls = refl; told = λ u. refl })
loads-or-quiet s P (Issue r k) h = inl refl
loads-or-quiet s P (Take r v m k) h = inl refl
loads-or-quiet s P (TakeBlock f x r v m k b n g) h = inl refl
loads-or-quiet s P (PoolDrop r v m k n z) h = inl refl
loads-or-quiet s P (Put r v m k f) h = inl (no_ticks v (calls_for s P (Put r v m k f)) (result-at s v (frame m k) f P (node s v).work))
loads-or-quiet s P (Settle r v) h = inl (no_ticks v (calls_for s P (Settle r v)) (flush-at v (least_first s (waiting s v P))))
loads-or-quiet s P (Save r v m k g) h = inl refl
loads-or-quiet s P (Saved r v m k) h = inl refl
loads-or-quiet s P (Close r) h = inl refl
loads-or-quiet s P (Leave r) h = inl refl
loads-or-quiet s P (Reclaim r) h = inl refl
loads-or-quiet s P _ h = absurd (false≢true h)

-- where no tick is owed none follows
no-tick : (s : Setting) (P : Past) (t : ℕ) (ys : List Entry) → count is_tick (owed s P) ≡ 0 → follow s P (Tick t ∷ ys) ≡ true → ⊥
no-tick s P t ys none f =
    let d = some_owed s P (Tick t) (owed s P) (follow-parts s P (Tick t) ys f).0 in
    true≢false (quietly s P (Tick t) d.0 d.1 none d.2 d.3).1.no_tick

-- behind a load the greater of the tick handed in and the one kept comes first
load-tick : (s : Setting) (b : BoardState) (tick : ℕ) (e : Entry) → Loads s (past b) e
    → (rest : List Entry) × (drop (length (past b)) (reverse (past (moved_at s tick (plain e) b))) ≡ e ∷ Tick (max (now (past b)) tick) ∷ rest)
load-tick s b tick e l =
    let m : ℕ = max (now (past b)) tick in
    let from : BoardState = plain e ∷ b in
    let new : BoardState = with_all s tick 2 (calls_for s (past from) (Tick m)) (plain (Tick m) ∷ from) in
    let is : moved_at s tick (plain e) b ≡ new = ap (λ (ds : List Entry). with_all s tick 3 ds from) l.calls in
    let f = followed s tick 2 (calls_for s (past from) (Tick m)) (plain (Tick m) ∷ from) (fit-next s tick 2 (past from) (Tick (now (past b))) refl) in
    let whole : past (moved_at s tick (plain e) b) ≡ (past f.more ++ Tick m ∷ []) ++ e ∷ past b =
    ap past is ∙ (newer (Tick m) from new f ∙ sym (append_assoc (past f.more) (Tick m ∷ []) (e ∷ past b))) in (
      reverse (past f.more),
      ap (λ (Q : Past). drop (length (past b)) (reverse Q)) whole
          ∙ (behind (past f.more ++ Tick m ∷ []) (past b) e ∙ ap (λ (xs : List Entry). e ∷ xs) (reverse-append (past f.more) (Tick m ∷ []))),
    )

max-right : (a b : ℕ) → a ≤ b → max a b ≡ b
max-right a b h = omega arith

-- the first that follows is no other tick than the one that stands there
first-tick : (s : Setting) (b : BoardState) (tick t u : ℕ) (e : Entry) (ys os : List Entry) → is_history s (past b) ≡ true → first s (past b) e ≡ true
    → tick ≡ tick_for e u → drop (length (past b)) (reverse (past (moved_at s tick (plain e) b))) ≡ e ∷ Tick t ∷ ys
    → follow s (e ∷ past b) (Tick t ∷ ys) ≡ true → next s (e ∷ past b) (Tick u) (owed s (e ∷ past b)) ≡ true → t ≡ u
first-tick s b tick t u e ys os h row told made f n =
    let P : Past = past b in
    let owes : owed s (e ∷ P) ≡ calls_for s P e = (push-first {s = s} {P = past b} e (history-owes {s = s} {P = past b} h) row).rest in
    elim (loads-or-quiet s P e row) [
      | inl quiet ↦ absurd (no-tick s (e ∷ P) t ys (ap (count is_tick) owes ∙ quiet) f)
      | inr l ↦
          let m = load-tick s b tick e l in
          let heads : e ∷ Tick t ∷ ys ≡ e ∷ Tick (max (now P) tick) ∷ m.0 = sym made ∙ m.1 in
          let kept : t ≡ max (now P) tick = cc in
          let own : tick ≡ u = told ∙ l.told u in
          let later : leb (now P) u ≡ true = subst (λ (ds : List Entry). next s (e ∷ P) (Tick u) ds ≡ true) (owes ∙ l.calls) n in
          kept ∙ (ap (λ (i : ℕ). max (now P) i) own ∙ max-right (now P) u (leb-true (now P) u later))
    ]

ticks-at : (s : Setting) (b : BoardState) (tick : ℕ) (e : Entry) (rest others : List Entry) → is_history s (past b) ≡ true → first s (past b) e ≡ true
    → tick ≡ tick_for e (next_tick others) → drop (length (past b)) (reverse (past (moved_at s tick (plain e) b))) ≡ e ∷ rest
    → follow s (e ∷ past b) rest ≡ true
    → SameTicks s (e ∷ past b) rest others
ticks-at s b tick e [] others h row told made f k a x p q = cc
ticks-at s b tick e (y ∷ ys) others h row told made f (suc k) a x p q = tt
ticks-at s b tick e (y ∷ ys) [] h row told made f zero a x p q = cc
ticks-at s b tick e (y ∷ ys) (z ∷ os) h row told made f zero a x p q =
    let left : y ≡ a = cc in
    let right : z ≡ x = cc in
    subst (λ (d : Entry). OneTick s (e ∷ past b) [] a d) right (subst (λ (c : Entry). OneTick s (e ∷ past b) [] c z) left (by y z told made f))
  where
    by : (c d : Entry) → tick ≡ tick_for e (next_tick (d ∷ os)) → drop (length (past b)) (reverse (past (moved_at s tick (plain e) b))) ≡ e ∷ c ∷ ys
        → follow s (e ∷ past b) (c ∷ ys) ≡ true → OneTick s (e ∷ past b) [] c d
    by (Tick t) (Tick u) told_ made_ f_ = λ n. first-tick s b tick t u e ys os h row told_ made_ f_ n
    by (Tick t) _ told_ made_ f_ = tt
    by _ _ told_ made_ f_ = tt

-- THE ENTRIES AT HAND

-- the move was made that begins with the first of these, at the tick that stands behind it
pub begun : (s : Setting) (b new : BoardState) (tick : ℕ) (e : Entry) (others : List Entry) → is_history s (past b) ≡ true → first s (past b) e ≡ true
    → tick ≡ tick_for e (next_tick others) → new ≡ moved_at s tick (plain e) b
    → IsBegun s (past b) (drop (length (past b)) (reverse (past new))) (e ∷ others) (past new)
begun s b new tick e others h row told is =
    let f = followers s tick (plain e) b in
    let m = made-is s b tick e h row f in
    let made = behind-new e b (moved_at s tick (plain e) b) f in
    subst (λ (x : BoardState). IsBegun s (past b) (drop (length (past b)) (reverse (past x))) (e ∷ others) (past x)) (sym is)
    (record {
      e = e;
      rest = after b f;
      others = others;
      move = made;
      log = refl;
      made_is = m;
      ticks = ticks-at s b tick e (after b f) others h row told made m.follows;
    })

by-true : (s : Setting) (tick : ℕ) (e : Entry) (b new : BoardState) (made : Bool) → Tries s tick e b made new → made ≡ true
    → (first s (past b) e ≡ true) × (new ≡ moved_at s tick (plain e) b)
by-true s tick e b new true t h = t
by-true s tick e b new false t h = absurd (false≢true h)

-- the log grows
pub grown : (s : Setting) (tick : ℕ) (e : Entry) (b new : BoardState) (made : Bool) (before later : List Entry) → before ≡ reverse (past b)
    → later ≡ reverse (past new) → Tries s tick e b made new → made ≡ true → length before ≤ length later
grown s tick e b new made before later was is t h =
    let f = followers s tick (plain e) b in
    let all : past new ≡ past f.more ++ e ∷ past b = ap past (by-true s tick e b new made t h).1 ∙ newer e b (moved_at s tick (plain e) b) f in
    let one : length before ≡ length (past b) = ap (λ (xs : List Entry). length xs) was ∙ length-reverse (past b) in
    let two : length later ≡ length (past new) = ap (λ (xs : List Entry). length xs) is ∙ length-reverse (past new) in
    omega (arith, one, two, ap (λ (xs : List Entry). length xs) all, length-append (past f.more) (e ∷ past b))

begun-by : (s : Setting) (b new : BoardState) (told : ℕ) (es : List Entry) (d : Entry) (made : Bool) → is_history s (past b) ≡ true → 0 < length es
    → told ≡ next_tick (drop 1 es) → Tries s (tick_for (get_or es 0 d) told) (get_or es 0 d) b made new → made ≡ true
    → IsBegun s (past b) (drop (length (past b)) (reverse (past new))) es (past new)
begun-by s b new told [] d made h some is t yes_ = absurd (omega (arith, some))
begun-by s b new told (e ∷ others) d made h some is t yes_ =
    let m = by-true s (tick_for e told) e b new made t yes_ in
    begun s b new (tick_for e told) e others h m.0 (ap (tick_for e) is) m.1

-- the same, by what the course tells before and after it
pub step-begun : (s : Setting) (b new : BoardState) (told : ℕ) (es : List Entry) (d : Entry) (made : Bool) (before later : List Entry)
    → before ≡ reverse (past b) → later ≡ reverse (past new) → is_history s (past b) ≡ true → 0 < length es
    → told ≡ next_tick (drop 1 es) → Tries s (tick_for (get_or es 0 d) told) (get_or es 0 d) b made new → made ≡ true
    → IsBegun s (past b) (drop (length before) later) es (past new)
step-begun s b new told es d made before later was is h some tick t yes_ =
    let many : length before ≡ length (past b) = ap (λ (xs : List Entry). length xs) was ∙ length-reverse (past b) in
    subst (λ (n : ℕ). IsBegun s (past b) (drop n later) es (past new)) (sym many)
    (subst (λ (xs : List Entry). IsBegun s (past b) (drop (length (past b)) xs) es (past new)) (sym is) (begun-by s b new told es d made h some tick t yes_))
