-- Which entries leave a node as it is.
use Rattle.std.proofs.Common.{◌≡◌, ◌≢◌, ◌≤◌, ◌<◌, ◌∙◌, ℕ, true, false, Bool, List, [], ◌∷◌, ◌++◌, Some, length, map, filter, refl, sym, ap, eqb, arith, drop, take, length-append}
use Rattle.flow_journal.specs.declared.entry.Entry.{Entry}
use Rattle.flow_journal.specs.declared.entry.Entry.TheVariants.{Load, LoadRefused, Tick, Issue, Emit, Accept, Full, Take, TakeBlock, PoolDrop, Put, SortDrop, Settle, Save, Saved, Close, Leave, Reclaim}
use Rattle.flow_journal.specs.declared.entry.Why.{Why}
use Rattle.flow_journal.specs.Setting.{Setting, is_sorted, children}
use Rattle.flow_journal.specs.Pasts.{Past, frame}
use Rattle.flow_journal.specs.Hands.{hand, is_job, is_piece, takes_up, standing}
use Rattle.flow_journal.specs.Waiting.{waiting}
use Rattle.flow_journal.specs.Turns.{deals, turn, has_just_emitted, offered_to, in_turn, round_from}
use Rattle.flow_journal.specs.Ended.{now}
use Rattle.flow_journal.specs.Histories.{is_legal, next, answers, is_such}
use Rattle.flow_journal.specs.EntryLaws.{lets_go, moves_hands}
use Rattle.flow_journal.proofs.Changes.{queue_laws, put_laws, save_laws, clock_laws, job_laws}
use Rattle.flow_journal.proofs.Hands.{was_free, stood}
use Rattle.std.proofs.lemmas.Bool.{ne_eqb, eq-eqb, eqb-true, and_parts, false≢true}
use Rattle.std.specs.Prelude.{if◌then◌else◌}
use Rattle.flow_journal.specs.Following.{offer, owed}
use Rattle.flow_journal.specs.Queued.{has_room}
use Rattle.run_course.proofs.Nodes.{SameHands, SameFacts, SameTurn, SameNode}
use Rattle.std.proofs.lemmas.List.{take-append-drop}
use Rattle.flow_journal.proofs.Pieces.{saves-let_go}
use Rattle.flow_journal.proofs.Counts.{hand-standing}
use Rattle.flow_journal.specs.Unsaved.{saves}

-- HANDS
pub hands-up : (s : Setting) (v r : ℕ) (e : Entry) (P : Past) → is_legal s (e ∷ P) ≡ true → takes_up r e ≡ true → is_job v e ≡ false
    → is_piece v e ≡ false → SameHands v P (e ∷ P)
hands-up s v r e P legal up job piece =
    let free = was_free s r e P up legal in
    record { working = job_laws.up_other (is_job v) r e P up free job; saving = job_laws.up_other (is_piece v) r e P up free piece }

pub hands-down : (v r : ℕ) (e h : Entry) (P : Past) → lets_go r e ≡ true → hand r P ≡ Some h → is_job v h ≡ false → is_piece v h ≡ false → SameHands v P (e ∷ P)
hands-down v r e h P down held job piece =
    record { working = job_laws.down_other (is_job v) r h e P down held job; saving = job_laws.down_other (is_piece v) r h e P down held piece }

pub hands-none : (v : ℕ) (e : Entry) (P : Past) → moves_hands e ≡ false → SameHands v P (e ∷ P)
hands-none v e P none =
    let same = job_laws.others e P none in
    record { working = ap (λ hs. length (filter (is_job v) hs)) same; saving = ap (λ hs. length (filter (is_piece v) hs)) same }

-- TURNS
-- the entry is no offer
abbrev pub NoOffer : Entry → Type 0
NoOffer e = (c m k : ℕ) (b : Bool) → is_such e (if b then Accept c m k else Full c m k) ≡ false

pub first-some : {X : Type 0} (xs ys : List X) → 0 < length ys → (c : X) × (take 1 (xs ++ ys) ≡ c ∷ [])
first-some (x ∷ xs) ys h = (x, refl)
first-some [] (y ∷ ys) h = (y, refl)
first-some [] [] h = absurd (omega arith)

pub round-length : (n : ℕ) (cs : List ℕ) → length (round_from n cs) ≡ length cs
round-length n cs = omega (arith, length-append (drop n cs) (take n cs), length-append (take n cs) (drop n cs), ap length (take-append-drop n cs))

dealt-some : (s : Setting) (v : ℕ) (P : Past) → deals s v ≡ true → 0 < length (children s v) → (c : ℕ) × (offered_to s P v ≡ c ∷ [])
dealt-some s v P d some =
    let f = first-some (filter (has_room s P) (in_turn s P v)) (in_turn s P v) (rw (round-length (turn s v P) (children s v)) some) in
    (f.0, rw d f.1)

-- right after its emission a node that deals makes its offer
pub dealt-next : (s : Setting) (v : ℕ) (e : Entry) (P : Past) → is_legal s (e ∷ P) ≡ true → NoOffer e → deals s v ≡ true
    → 0 < length (children s v) → has_just_emitted v P ≡ false
dealt-next s v e (Emit w m k why ∷ P) legal offerless d some = split (eqb w v) refl where
  split : (b : Bool) → eqb w v ≡ b → eqb w v ≡ false
  split false h = h
  split true h =
      let same : w ≡ v = eqb-true w v h in
      let f = dealt-some s v P d some in
      let in_place = (and_parts (is_legal s (Emit w m k why ∷ P)) (next s (Emit w m k why ∷ P) e (owed s (Emit w m k why ∷ P))) legal).1 in
      let owes : owed s (Emit w m k why ∷ P) ≡ offer (frame m k) f.0 ∷ drop 1 (owed s P) =
      ap (λ u. map (offer (frame m k)) (offered_to s P u) ++ drop 1 (owed s P)) same ∙ ap (λ cs. map (offer (frame m k)) cs ++ drop 1 (owed s P)) f.1 in
      let answered : answers s (Emit w m k why ∷ P) e (offer (frame m k) f.0) ≡ true = rw owes at in_place in
      absurd (false≢true (sym (offerless f.0 m k (has_room s (Emit w m k why ∷ P) f.0)) ∙ answered))
dealt-next s v e [] legal _ d some = refl
dealt-next s v e (_ ∷ P) legal _ d some = refl

pub turn-kept : (s : Setting) (v : ℕ) (e : Entry) (P : Past) → has_just_emitted v P ≡ false → turn s v (e ∷ P) ≡ turn s v P
turn-kept s v e P none = rw none refl

pub turn-same : (s : Setting) (v : ℕ) (e : Entry) (P : Past) → is_legal s (e ∷ P) ≡ true → NoOffer e → SameTurn s v P (e ∷ P)
turn-same s v e P legal offerless d some = turn-kept s v e P (dealt-next s v e P legal offerless d some)

pub no-tick : (t : ℕ) → NoOffer (Tick t)
no-tick t c m k true = refl
no-tick t c m k false = refl

pub no-emit : (w j i : ℕ) (why : Why) → NoOffer (Emit w j i why)
no-emit w j i why c m k true = refl
no-emit w j i why c m k false = refl

pub no-sort_drop : (w j i : ℕ) → NoOffer (SortDrop w j i)
no-sort_drop w j i c m k true = refl
no-sort_drop w j i c m k false = refl

-- ENTRIES
waits-put : (s : Setting) (r v w m k : ℕ) (f : Bool) (P : Past) → w ≢ v → waiting s v (Put r w m k f ∷ P) ≡ waiting s v P
waits-put s r v w m k f P ne = split (is_sorted s v) refl where
  split : (b : Bool) → is_sorted s v ≡ b → waiting s v (Put r w m k f ∷ P) ≡ waiting s v P
  split true h = put_laws.waits_elsewhere s r v w m k f P h ne
  split false h = put_laws.unsorted s v (Put r w m k f ∷ P) h ∙ sym (put_laws.unsorted s v P h)

pub same-load : (s : Setting) (v : ℕ) (r k b n : ℕ) (f : Bool) (g : ℕ) (x : Bool) (P : Past) → is_legal s (Load r k b n f g x ∷ P) ≡ true
    → SameNode s v P (Load r k b n f g x ∷ P)
same-load s v r k b n f g x P legal =
    record {
      facts = record {
        inbox = refl;
        in_hand = hands-up s v r (Load r k b n f g x) P legal (eq-eqb r r refl) refl refl;
        ended = refl;
        last = refl;
        waits = refl;
        time = omega arith;
        results = refl;
        flags = refl;
        kept = refl;
        pieces = refl;
        gone = refl;
      };
      next_child = turn-same s v (Load r k b n f g x) P legal (λ c m k b. refl);
    }

pub same-load_refused : (s : Setting) (v : ℕ) (r k n h : ℕ) (P : Past) → is_legal s (LoadRefused r k n h ∷ P) ≡ true → SameNode s v P (LoadRefused r k n h ∷ P)
same-load_refused s v r k n h P legal =
    record {
      facts = record {
        inbox = refl;
        in_hand = hands-none v (LoadRefused r k n h) P refl;
        ended = refl;
        last = refl;
        waits = refl;
        time = omega arith;
        results = refl;
        flags = refl;
        kept = refl;
        pieces = refl;
        gone = refl;
      };
      next_child = turn-same s v (LoadRefused r k n h) P legal (λ c m k b. refl);
    }

pub same-tick : (s : Setting) (v : ℕ) (t : ℕ) (P : Past) → is_legal s (Tick t ∷ P) ≡ true → now P ≤ t → SameNode s v P (Tick t ∷ P)
same-tick s v t P legal le =
    record {
      facts = record {
        inbox = refl;
        in_hand = hands-none v (Tick t) P refl;
        ended = refl;
        last = refl;
        waits = refl;
        time = le;
        results = refl;
        flags = refl;
        kept = refl;
        pieces = refl;
        gone = refl;
      };
      next_child = turn-same s v (Tick t) P legal (no-tick t);
    }

pub same-issue : (s : Setting) (v : ℕ) (r k : ℕ) (h : Entry) (P : Past) → is_legal s (Issue r k ∷ P) ≡ true → hand r P ≡ Some h → is_job v h ≡ false
    → is_piece v h ≡ false → SameNode s v P (Issue r k ∷ P)
same-issue s v r k h P legal held job piece =
    record {
      facts = record {
        inbox = refl;
        in_hand = hands-down v r (Issue r k) h P (eq-eqb r r refl) held job piece;
        ended = refl;
        last = refl;
        waits = refl;
        time = omega arith;
        results = refl;
        flags = refl;
        kept = refl;
        pieces = refl;
        gone = refl;
      };
      next_child = turn-same s v (Issue r k) P legal (λ c m k b. refl);
    }

pub same-emit : (s : Setting) (v : ℕ) (w m k : ℕ) (why : Why) (P : Past) → is_legal s (Emit w m k why ∷ P) ≡ true → w ≢ v → SameNode s v P (Emit w m k why ∷ P)
same-emit s v w m k why P legal ne =
    record {
      facts = record {
        inbox = refl;
        in_hand = hands-none v (Emit w m k why) P refl;
        ended = refl;
        last = clock_laws.emit_elsewhere s v w m k why P ne;
        waits = put_laws.goes_elsewhere s v w m k why P ne;
        time = omega arith;
        results = refl;
        flags = refl;
        kept = refl;
        pieces = refl;
        gone = rw (ne_eqb w v ne) refl;
      };
      next_child = turn-same s v (Emit w m k why) P legal (no-emit w m k why);
    }

pub facts-of-accept : (s : Setting) (v : ℕ) (w m k : ℕ) (P : Past) → w ≢ v → SameFacts s v P (Accept w m k ∷ P)
facts-of-accept s v w m k P ne =
    record {
      inbox = queue_laws.accept_elsewhere v w m k P ne;
      in_hand = hands-none v (Accept w m k) P refl;
      ended = refl;
      last = refl;
      waits = refl;
      time = omega arith;
      results = refl;
      flags = refl;
      kept = refl;
      pieces = refl;
      gone = refl;
    }

pub same-accept : (s : Setting) (v : ℕ) (w m k : ℕ) (P : Past) → is_legal s (Accept w m k ∷ P) ≡ true → w ≢ v
    → (deals s v ≡ true → has_just_emitted v P ≡ false) → SameNode s v P (Accept w m k ∷ P)
same-accept s v w m k P legal ne none =
    record { facts = facts-of-accept s v w m k P ne; next_child = λ d some. turn-kept s v (Accept w m k) P (none d) }

pub facts-of-full : (s : Setting) (v : ℕ) (w m k : ℕ) (P : Past) → SameFacts s v P (Full w m k ∷ P)
facts-of-full s v w m k P =
    record {
      inbox = refl;
      in_hand = hands-none v (Full w m k) P refl;
      ended = refl;
      last = refl;
      waits = refl;
      time = omega arith;
      results = refl;
      flags = refl;
      kept = refl;
      pieces = refl;
      gone = refl;
    }

pub same-full : (s : Setting) (v : ℕ) (w m k : ℕ) (P : Past) → is_legal s (Full w m k ∷ P) ≡ true
    → (deals s v ≡ true → has_just_emitted v P ≡ false) → SameNode s v P (Full w m k ∷ P)
same-full s v w m k P legal none =
    record { facts = facts-of-full s v w m k P; next_child = λ d some. turn-kept s v (Full w m k) P (none d) }

pub same-take : (s : Setting) (v : ℕ) (r w m k : ℕ) (P : Past) → is_legal s (Take r w m k ∷ P) ≡ true → w ≢ v → SameNode s v P (Take r w m k ∷ P)
same-take s v r w m k P legal ne =
    record {
      facts = record {
        inbox = queue_laws.take_elsewhere r v w m k P ne;
        in_hand = hands-up s v r (Take r w m k) P legal (eq-eqb r r refl) (ne_eqb w v ne) refl;
        ended = refl;
        last = refl;
        waits = refl;
        time = omega arith;
        results = refl;
        flags = refl;
        kept = refl;
        pieces = refl;
        gone = refl;
      };
      next_child = turn-same s v (Take r w m k) P legal (λ c m k b. refl);
    }

pub same-take_block : (s : Setting) (v : ℕ) (r w m k b n : ℕ) (f : Bool) (g : ℕ) (x : Bool) (P : Past) → is_legal s (TakeBlock f x r w m k b n g ∷ P) ≡ true
    → w ≢ v → SameNode s v P (TakeBlock f x r w m k b n g ∷ P)
same-take_block s v r w m k b n f g x P legal ne =
    record {
      facts = record {
        inbox = queue_laws.take_block_elsewhere r v w m k b n f g x P ne;
        in_hand = hands-up s v r (TakeBlock f x r w m k b n g) P legal (eq-eqb r r refl) (ne_eqb w v ne) refl;
        ended = refl;
        last = refl;
        waits = refl;
        time = omega arith;
        results = refl;
        flags = refl;
        kept = refl;
        pieces = refl;
        gone = refl;
      };
      next_child = turn-same s v (TakeBlock f x r w m k b n g) P legal (λ c m k b. refl);
    }

pub same-pool_drop : (s : Setting) (v : ℕ) (r w m k n h : ℕ) (P : Past) → is_legal s (PoolDrop r w m k n h ∷ P) ≡ true → w ≢ v
    → SameNode s v P (PoolDrop r w m k n h ∷ P)
same-pool_drop s v r w m k n h P legal ne =
    record {
      facts = record {
        inbox = queue_laws.pool_drop_elsewhere r v w m k n h P ne;
        in_hand = hands-none v (PoolDrop r w m k n h) P refl;
        ended = refl;
        last = refl;
        waits = refl;
        time = omega arith;
        results = refl;
        flags = refl;
        kept = refl;
        pieces = refl;
        gone = refl;
      };
      next_child = turn-same s v (PoolDrop r w m k n h) P legal (λ c m k b. refl);
    }

pub same-put : (s : Setting) (v : ℕ) (r w m k : ℕ) (f : Bool) (h : Entry) (P : Past) → is_legal s (Put r w m k f ∷ P) ≡ true → w ≢ v → hand r P ≡ Some h
    → is_job v h ≡ false → is_piece v h ≡ false → SameNode s v P (Put r w m k f ∷ P)
same-put s v r w m k f h P legal ne held job piece =
    record {
      facts = record {
        inbox = refl;
        in_hand = hands-down v r (Put r w m k f) h P (eq-eqb r r refl) held job piece;
        ended = refl;
        last = refl;
        waits = waits-put s r v w m k f P ne;
        time = omega arith;
        results = put_laws.array_elsewhere r v w m k f P ne;
        flags = put_laws.flag_elsewhere r v w m k f P ne;
        kept = save_laws.put_elsewhere s r v w m k f P ne;
        pieces = refl;
        gone = refl;
      };
      next_child = turn-same s v (Put r w m k f) P legal (λ c m k b. refl);
    }

pub same-sort_drop : (s : Setting) (v : ℕ) (w m k : ℕ) (P : Past) → is_legal s (SortDrop w m k ∷ P) ≡ true → w ≢ v → SameNode s v P (SortDrop w m k ∷ P)
same-sort_drop s v w m k P legal ne =
    record {
      facts = record {
        inbox = refl;
        in_hand = hands-none v (SortDrop w m k) P refl;
        ended = refl;
        last = refl;
        waits = put_laws.dropped_elsewhere s v w m k P ne;
        time = omega arith;
        results = refl;
        flags = refl;
        kept = refl;
        pieces = refl;
        gone = refl;
      };
      next_child = turn-same s v (SortDrop w m k) P legal (no-sort_drop w m k);
    }

pub same-settle : (s : Setting) (v : ℕ) (r w : ℕ) (P : Past) → is_legal s (Settle r w ∷ P) ≡ true → w ≢ v → SameNode s v P (Settle r w ∷ P)
same-settle s v r w P legal ne =
    record {
      facts = record {
        inbox = refl;
        in_hand = hands-none v (Settle r w) P refl;
        ended = clock_laws.settled_others v (Settle r w) P (ne_eqb w v ne);
        last = refl;
        waits = refl;
        time = omega arith;
        results = refl;
        flags = refl;
        kept = refl;
        pieces = refl;
        gone = refl;
      };
      next_child = turn-same s v (Settle r w) P legal (λ c m k b. refl);
    }

pub same-save : (s : Setting) (v : ℕ) (r w m k g : ℕ) (P : Past) → is_legal s (Save r w m k g ∷ P) ≡ true → w ≢ v → SameNode s v P (Save r w m k g ∷ P)
same-save s v r w m k g P legal ne =
    record {
      facts = record {
        inbox = refl;
        in_hand = hands-up s v r (Save r w m k g) P legal (eq-eqb r r refl) refl (ne_eqb w v ne);
        ended = refl;
        last = clock_laws.save_elsewhere s r v w m k g P ne;
        waits = refl;
        time = omega arith;
        results = refl;
        flags = refl;
        kept = save_laws.save_elsewhere s r v w m k g P ne;
        pieces = save_laws.saved_elsewhere r v w m k g P ne;
        gone = refl;
      };
      next_child = turn-same s v (Save r w m k g) P legal (λ c m k b. refl);
    }

pub same-saved : (s : Setting) (v : ℕ) (r w m k : ℕ) (h : Entry) (P : Past) → is_legal s (Saved r w m k ∷ P) ≡ true → hand r P ≡ Some h → is_job v h ≡ false
    → is_piece v h ≡ false → SameNode s v P (Saved r w m k ∷ P)
same-saved s v r w m k h P legal held job piece =
    record {
      facts = record {
        inbox = refl;
        in_hand = hands-down v r (Saved r w m k) h P (eq-eqb r r refl) held job piece;
        ended = refl;
        last = refl;
        waits = refl;
        time = omega arith;
        results = refl;
        flags = refl;
        kept = refl;
        pieces = refl;
        gone = refl;
      };
      next_child = turn-same s v (Saved r w m k) P legal (λ c m k b. refl);
    }

pub same-close : (s : Setting) (v : ℕ) (r : ℕ) (P : Past) → is_legal s (Close r ∷ P) ≡ true → SameNode s v P (Close r ∷ P)
same-close s v r P legal =
    record {
      facts = record {
        inbox = refl;
        in_hand = hands-none v (Close r) P refl;
        ended = refl;
        last = refl;
        waits = refl;
        time = omega arith;
        results = refl;
        flags = refl;
        kept = refl;
        pieces = refl;
        gone = refl;
      };
      next_child = turn-same s v (Close r) P legal (λ c m k b. refl);
    }

pub same-leave : (s : Setting) (v : ℕ) (r : ℕ) (P : Past) → is_legal s (Leave r ∷ P) ≡ true → SameNode s v P (Leave r ∷ P)
same-leave s v r P legal =
    record {
      facts = record {
        inbox = refl;
        in_hand = hands-none v (Leave r) P refl;
        ended = refl;
        last = refl;
        waits = refl;
        time = omega arith;
        results = refl;
        flags = refl;
        kept = refl;
        pieces = refl;
        gone = refl;
      };
      next_child = turn-same s v (Leave r) P legal (λ c m k b. refl);
    }

pub same-reclaim : (s : Setting) (v : ℕ) (r : ℕ) (h : Entry) (P : Past) → is_legal s (Reclaim r ∷ P) ≡ true → is_legal s P ≡ true → hand r P ≡ Some h
    → is_job v h ≡ false → is_piece v h ≡ false → SameNode s v P (Reclaim r ∷ P)
same-reclaim s v r h P legal was held job piece =
    record {
      facts = record {
        inbox = queue_laws.reclaim_other v r h P held job;
        in_hand = hands-down v r (Reclaim r) h P (eq-eqb r r refl) held job piece;
        ended = refl;
        last = clock_laws.reclaim_other s r v h P was held piece;
        waits = refl;
        time = omega arith;
        results = refl;
        flags = refl;
        kept = save_laws.reclaim_other s r v h P was held piece;
        pieces = ap (saves v) (stood r h P held) ∙ saves-let_go v r h (standing P) (hand-standing s P r h was held) piece;
        gone = refl;
      };
      next_child = turn-same s v (Reclaim r) P legal (λ c m k b. refl);
    }
