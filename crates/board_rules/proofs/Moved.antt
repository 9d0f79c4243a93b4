-- A completed move is a legal one.
use Rattle.std.proofs.Common.{◌≡◌, ℕ, zero, suc, ◌+◌, ◌<◌, ◌≤◌, ◌==◌, max, Bool, true, false, ◌&&◌, nat_lt, length, List, [], ◌∷◌, ◌++◌, map, flat_map}
use Rattle.std.proofs.Common.{refl, sym, ◌∙◌, subst, inl, inr, arith, ℤ, if◌then◌else◌}
use Rattle.std.proofs.lemmas.Bool.{cases_Bool, and_parts, and_from, false≢true, lt-ltb, ltb-true}
use Rattle.std.proofs.lemmas.List.{append-nil}
use Rattle.nd_base.specs.declared.frame.FrameName.{FrameName}
use Rattle.flow_journal.specs.declared.entry.Entry.{Entry}
use Rattle.flow_journal.specs.declared.entry.Entry.TheVariants.{Load, LoadRefused, Tick, Issue, Emit, Accept, Full, Take, TakeBlock, PoolDrop, Put}
use Rattle.flow_journal.specs.declared.entry.Entry.TheVariants.{SortDrop, Settle, Save, Saved, Close, Leave, Reclaim}
use Rattle.flow_journal.specs.declared.entry.Why.TheVariants.{Plain, Flush, Ring}
use Rattle.flow_journal.specs.Setting.{Setting, Work, Makes, Passes, Watches, Saves, node, is_sorted, node_numbers, id_at}
use Rattle.flow_journal.specs.Turns.{offered_to}
use Rattle.flow_journal.specs.Pasts.{Past, frame}
use Rattle.flow_journal.specs.Queued.{has_room}
use Rattle.flow_journal.specs.Ended.{now}
use Rattle.flow_journal.specs.Rings.{ring}
use Rattle.flow_journal.specs.Puts.{firings}
use Rattle.queue_sort.specs.Sorting.{keeps_step}
use Rattle.flow_journal.specs.Breaks.{prev}
use Rattle.flow_journal.specs.Waiting.{Waiting, waiting, least_first}
use Rattle.flow_journal.specs.Following.{calls_for, offer, emit, goes_out, look, sorted_result, result}
use Rattle.flow_journal.specs.Histories.{answers, Owes}
use Rattle.trig_window.specs.Windows.{is_trigger, is_passed}
use Rattle.flow_journal.specs.Pushes.{history-owes, history-from, push-first, push-owed, answers-Tick, answers-Emit, answers-SortDrop}
use Rattle.board_rules.specs.States.{BoardState, past, plain}
use Rattle.board_rules.specs.Moving.{made_of, with_all}
use Rattle.board_rules.specs.MoveLaws.{MovedIsLegal}

-- the entry follows others, and it and all that it calls for go no deeper than n
abbrev pub fits : ℕ → Entry → Bool
fits n (Tick t) = nat_lt 2 n
fits n (Emit v m k why) = nat_lt 1 n
fits n (Accept v m k) = nat_lt 0 n
fits n (Full v m k) = nat_lt 0 n
fits n (SortDrop v m k) = nat_lt 0 n
fits n _ = false

abbrev pub all_fit : ℕ → List Entry → Bool
all_fit n [] = true
all_fit n (d ∷ ds) = fits n d && all_fit n ds

lt-at : (k n : ℕ) → k < n → nat_lt k n ≡ true
lt-at k n h = lt-ltb k n h

-- what goes no deeper than n + 1 leaves this room at n
room-two : (n : ℕ) → nat_lt 2 (suc n) ≡ true → nat_lt 1 n ≡ true
room-two n h = let l = ltb-true 2 (suc n) h in lt-at 1 n (omega arith)

room-below : (n : ℕ) → nat_lt 2 (suc n) ≡ true → nat_lt 0 n ≡ true
room-below n h = let l = ltb-true 2 (suc n) h in lt-at 0 n (omega arith)

room-one : (n : ℕ) → nat_lt 1 (suc n) ≡ true → nat_lt 0 n ≡ true
room-one n h = let l = ltb-true 1 (suc n) h in lt-at 0 n (omega arith)

max-left : (a b : ℕ) → a ≤ max a b
max-left a b = omega arith

pub none-fit : (d : Entry) → fits 0 d ≡ false
none-fit (Load r k b n f g x) = refl
none-fit (LoadRefused r k n h) = refl
none-fit (Tick t) = refl
none-fit (Issue r k) = refl
none-fit (Emit v m k why) = refl
none-fit (Accept v m k) = refl
none-fit (Full v m k) = refl
none-fit (Take r v m k) = refl
none-fit (TakeBlock f x r v m k b n g) = refl
none-fit (PoolDrop r v m k n h) = refl
none-fit (Put r v m k f) = refl
none-fit (SortDrop v m k) = refl
none-fit (Settle r v) = refl
none-fit (Save r v m k g) = refl
none-fit (Saved r v m k) = refl
none-fit (Close r) = refl
none-fit (Leave r) = refl
none-fit (Reclaim r) = refl

fit-append : (n : ℕ) (ds es : List Entry) → all_fit n ds ≡ true → all_fit n es ≡ true → all_fit n (ds ++ es) ≡ true
fit-append n [] es p q = q
fit-append n (d ∷ ds) es p q =
    let h = and_parts (fits n d) (all_fit n ds) p in
    and_from _ _ h.0 (fit-append n ds es h.1 q)

-- EMISSIONS AND OFFERS

pub fit-map : {X : Type 0} (n : ℕ) (f : X → Entry) (xs : List X) → ((x : X) → fits n (f x) ≡ true) → all_fit n (map f xs) ≡ true
fit-map n f [] h = refl
fit-map n f (x ∷ xs) h = and_from _ _ (h x) (fit-map n f xs h)

fit-flat : {X : Type 0} (n : ℕ) (f : X → List Entry) (xs : List X) → ((x : X) → all_fit n (f x) ≡ true) → all_fit n (flat_map f xs) ≡ true
fit-flat n f [] h = refl
fit-flat n f (x ∷ xs) h = fit-append n (f x) (flat_map f xs) (h x) (fit-flat n f xs h)

fit-if : (n : ℕ) (b : Bool) (ds es : List Entry) → all_fit n ds ≡ true → all_fit n es ≡ true → all_fit n (if b then ds else es) ≡ true
fit-if n true ds es p q = p
fit-if n false ds es p q = q

module _ (s : Setting) (n : ℕ) (deep : nat_lt 1 n ≡ true) (some : nat_lt 0 n ≡ true) where
  fit-goes : (v : ℕ) (before : ℤ) (t : ℕ) (ws : List Waiting) → all_fit n (goes_out s v before t ws) ≡ true
  fit-goes v before t [] = refl
  fit-goes v before t (w ∷ ws) =
      let more = fit-goes v (id_at s w.array.index) t ws in
      fit-if n (keeps_step before (id_at s w.array.index)) _ _ (and_from _ _ deep more)
      (fit-if n (nat_lt (w.tick + (node s v).sort_time) t) _ _ (and_from _ _ deep more) refl)

  fit-look : (v : ℕ) (P : Past) → all_fit n (look s v P) ≡ true
  fit-look v P = fit-goes v (prev s v P) (now P) (least_first s (waiting s v P))

  fit-sorted : (v : ℕ) (a : FrameName) (ws : List Waiting) (P : Past) → all_fit n (sorted_result s v a ws P) ≡ true
  fit-sorted v a ws P =
      fit-if n (keeps_step (prev s v P) (id_at s a.index)) _ _ (and_from _ _ deep (fit-goes v (id_at s a.index) (now P) (least_first s ws)))
      (fit-if n (length ws == (node s v).sort) _ _ (and_from _ _ some (fit-goes v (prev s v P) (now P) (least_first s ws))) (fit-look v P))

  pub fit-result : (v : ℕ) (a : FrameName) (f : Bool) (P : Past) (w : Work) → all_fit n (result s v a f P w) ≡ true
  fit-result v a f P (Watches pre post preset) =
      fit-append n _ _
      (fit-if n (is_trigger post preset (firings v P ++ f ∷ []) (length (firings v P))) _ _ (fit-map n (emit v Ring) (ring s v P) (λ x. deep)) refl)
      (fit-if n (is_passed pre post preset (firings v P ++ f ∷ []) (length (firings v P))) _ _ (and_from _ _ deep refl) refl)
  fit-result v a f P (Saves whole_groups count) = refl
  fit-result v a f P Makes =
      fit-if n (is_sorted s v) (sorted_result s v a (waiting s v P) (Put 0 v a.maker a.index f ∷ P)) (emit v Plain a ∷ [])
      (fit-sorted v a (waiting s v P) (Put 0 v a.maker a.index f ∷ P)) (and_from _ _ deep refl)
  fit-result v a f P (Passes d) =
      fit-if n (is_sorted s v) (sorted_result s v a (waiting s v P) (Put 0 v a.maker a.index f ∷ P)) (emit v Plain a ∷ [])
      (fit-sorted v a (waiting s v P) (Put 0 v a.maker a.index f ∷ P)) (and_from _ _ deep refl)

  fit-tick : (t : ℕ) (P : Past) → all_fit n (calls_for s P (Tick t)) ≡ true
  fit-tick t P = fit-flat n _ (node_numbers s) (λ v. fit-if n (is_sorted s v) _ _ (fit-look v (Tick t ∷ P)) refl)

-- what a first entry calls for
pub fit-first : (s : Setting) (P : Past) (e : Entry) → all_fit 3 (calls_for s P e) ≡ true
fit-first s P (Load r k b n f g x) = refl
fit-first s P (LoadRefused r k n h) = refl
fit-first s P (Tick t) = fit-tick s 3 refl refl t P
fit-first s P (Issue r k) = refl
fit-first s P (Emit v m k why) = fit-map 3 (offer (frame m k)) (offered_to s P v) (λ x. refl)
fit-first s P (Accept v m k) = refl
fit-first s P (Full v m k) = refl
fit-first s P (Take r v m k) = refl
fit-first s P (TakeBlock f x r v m k b n g) = refl
fit-first s P (PoolDrop r v m k n h) = refl
fit-first s P (Put r v m k f) = fit-result s 3 refl refl v (frame m k) f P (node s v).work
fit-first s P (SortDrop v m k) = refl
fit-first s P (Settle r v) = fit-map 3 (λ w. emit v Flush w.array) (least_first s (waiting s v P)) (λ x. refl)
fit-first s P (Save r v m k g) = refl
fit-first s P (Saved r v m k) = refl
fit-first s P (Close r) = refl
fit-first s P (Leave r) = refl
fit-first s P (Reclaim r) = refl

-- what follows, and then calls for more, leaves these room
pub fit-next : (s : Setting) (tick n : ℕ) (P : Past) (d : Entry) → fits (suc n) d ≡ true → all_fit n (calls_for s P (made_of s tick P d)) ≡ true
fit-next s tick n P (Tick t) h =
    fit-tick s n (room-two n h) (room-below n h) (max t tick) P
fit-next s tick n P (Emit v m k why) h = fit-map n (offer (frame m k)) (offered_to s P v) (λ x. room-one n h)
fit-next s tick n P (Accept v m k) h =
    elim (cases_Bool (has_room s P v)) [
      | inl room ↦ rw room refl
      | inr full ↦ rw full refl
    ]
fit-next s tick n P (Full v m k) h = refl
fit-next s tick n P (SortDrop v m k) h = refl
fit-next s tick n P (Load r k b z f g x) h = absurd (false≢true h)
fit-next s tick n P (LoadRefused r k z y) h = absurd (false≢true h)
fit-next s tick n P (Issue r k) h = absurd (false≢true h)
fit-next s tick n P (Take r v m k) h = absurd (false≢true h)
fit-next s tick n P (TakeBlock f x r v m k b z g) h = absurd (false≢true h)
fit-next s tick n P (PoolDrop r v m k z y) h = absurd (false≢true h)
fit-next s tick n P (Put r v m k f) h = absurd (false≢true h)
fit-next s tick n P (Settle r v) h = absurd (false≢true h)
fit-next s tick n P (Save r v m k g) h = absurd (false≢true h)
fit-next s tick n P (Saved r v m k) h = absurd (false≢true h)
fit-next s tick n P (Close r) h = absurd (false≢true h)
fit-next s tick n P (Leave r) h = absurd (false≢true h)
fit-next s tick n P (Reclaim r) h = absurd (false≢true h)

-- and it answers what was called for
made-answers : (s : Setting) (tick n : ℕ) (P : Past) (d : Entry) → fits n d ≡ true → answers s P (made_of s tick P d) d ≡ true
made-answers s tick n P (Tick t) h = answers-Tick s P t (max t tick) (max-left t tick)
made-answers s tick n P (Emit v m k why) h = answers-Emit s P v m k why
made-answers s tick n P (Accept v m k) h =
    elim (cases_Bool (has_room s P v)) [
      | inl room ↦ rw room (answers-SortDrop s P v m k)
      | inr full ↦ rw full (answers-SortDrop s P v m k)
    ]
made-answers s tick n P (Full v m k) h = answers-SortDrop s P v m k
made-answers s tick n P (SortDrop v m k) h = answers-SortDrop s P v m k
made-answers s tick n P (Load r k b z f g x) h = absurd (false≢true h)
made-answers s tick n P (LoadRefused r k z y) h = absurd (false≢true h)
made-answers s tick n P (Issue r k) h = absurd (false≢true h)
made-answers s tick n P (Take r v m k) h = absurd (false≢true h)
made-answers s tick n P (TakeBlock f x r v m k b z g) h = absurd (false≢true h)
made-answers s tick n P (PoolDrop r v m k z y) h = absurd (false≢true h)
made-answers s tick n P (Put r v m k f) h = absurd (false≢true h)
made-answers s tick n P (Settle r v) h = absurd (false≢true h)
made-answers s tick n P (Save r v m k g) h = absurd (false≢true h)
made-answers s tick n P (Saved r v m k) h = absurd (false≢true h)
made-answers s tick n P (Close r) h = absurd (false≢true h)
made-answers s tick n P (Leave r) h = absurd (false≢true h)
made-answers s tick n P (Reclaim r) h = absurd (false≢true h)

-- once all of these are made, the rest is owed
all-made : (s : Setting) (tick n : ℕ) (ds rest : List Entry) (b : BoardState) → all_fit n ds ≡ true → Owes s (past b) (ds ++ rest)
    → Owes s (past (with_all s tick n ds b)) rest
all-made s tick zero [] rest b h o = o
all-made s tick zero (d ∷ ds) rest b h o = absurd (false≢true (sym (none-fit d) ∙ (and_parts (fits 0 d) (all_fit 0 ds) h).0))
all-made s tick (suc n) [] rest b h o = o
all-made s tick (suc n) (d ∷ ds) rest b h o =
    let p = and_parts (fits (suc n) d) (all_fit (suc n) ds) h in
    let e = made_of s tick (past b) d in
    all-made s tick (suc n) ds rest (with_all s tick n (calls_for s (past b) e) (plain e ∷ b)) p.1
    (all-made s tick n (calls_for s (past b) e) (ds ++ rest) (plain e ∷ b) (fit-next s tick n (past b) d p.0)
    (push-owed e o (made-answers s tick (suc n) (past b) d p.0)))

-- A move begins, and all that it calls for is made.
pub moved-legal : MovedIsLegal
moved-legal s b tick t h f =
    let o = push-first t.entry (history-owes h) f in
    history-from (all-made s tick 3 (calls_for s (past b) t.entry) [] (t ∷ b) (fit-first s (past b) t.entry)
    (subst (λ (ds : List Entry). Owes s (t.entry ∷ past b) ds) (sym (append-nil (calls_for s (past b) t.entry))) o))
