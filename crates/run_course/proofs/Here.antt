-- What each entry does to what is kept of its node.
use Rattle.std.proofs.Common.{◌≡◌, ◌≤◌, ◌<◌, ◌∙◌, ℕ, ◌+◌, true, false, Bool, List, [], ◌∷◌, ◌++◌, Option, Some, length, filter, refl, sym, ap, subst, eqb}
use Rattle.std.proofs.Common.{arith}
use Rattle.std.specs.Prelude.{nat_lt}
use Rattle.std.specs.List.{All}
use Rattle.nd_base.specs.declared.frame.FrameName.{FrameName}
use Rattle.nd_base.specs.declared.measure.Measure.{Measure}
use Rattle.trig_window.specs.Watch.{Watch}
use Rattle.flow_journal.specs.declared.entry.Entry.{Entry}
use Rattle.flow_journal.specs.declared.entry.Entry.TheVariants.{Emit, Accept, Take, TakeBlock, PoolDrop, Put, SortDrop, Settle, Save, Saved, Reclaim}
use Rattle.flow_journal.specs.declared.entry.Why.{Why}
use Rattle.flow_journal.specs.Setting.{Setting, Work, Makes, Passes, Watches, Saves, node, is_sorted, children}
use Rattle.flow_journal.specs.Pasts.{Past}
use Rattle.flow_journal.specs.Hands.{hands, hand, jobs, is_job, is_piece, takes_up, is_free}
use Rattle.flow_journal.specs.Queued.{queued}
use Rattle.flow_journal.specs.Waiting.{Waiting, waiting}
use Rattle.flow_journal.specs.Puts.{puts}
use Rattle.flow_journal.specs.Unsaved.{unsaved, standing_saves}
use Rattle.flow_journal.specs.Breaks.{prev}
use Rattle.flow_journal.specs.Turns.{deals, turn, has_just_emitted}
use Rattle.flow_journal.specs.Ended.{now}
use Rattle.flow_journal.specs.Accepted.{emitted}
use Rattle.flow_journal.specs.Histories.{is_legal}
use Rattle.flow_journal.proofs.Changes.{queue_laws, put_laws, save_laws, clock_laws, job_laws}
use Rattle.flow_journal.proofs.Hands.{was_free}
use Rattle.std.specs.Prelude.{flat_map}
use Rattle.std.proofs.lemmas.Bool.{eq-eqb, and_parts, true≢false}
use Rattle.std.proofs.Common.{cond, ◌&&◌, drop}
use Rattle.flow_journal.specs.Pasts.{frame}
use Rattle.flow_journal.specs.Queued.{has_room}
use Rattle.std.proofs.Common.{length-append}
use Rattle.flow_journal.proofs.Hands.{stood}
use Rattle.flow_journal.proofs.Pieces.{saves-let_go}
use Rattle.flow_journal.proofs.Counts.{hand-standing}
use Rattle.flow_journal.specs.Hands.{standing}
use Rattle.flow_journal.specs.Unsaved.{saves}
use Rattle.std.proofs.lemmas.Bool.{ltb-true}
use Rattle.trig_window.specs.Watch.{Watch}
use Rattle.queue_sort.specs.Inboxes.{InboxState, with_last, with_front, without_front}
use Rattle.flow_journal.specs.Unsaved.{is_file}
use Rattle.flow_journal.proofs.Hands.{row_of}
use Rattle.flow_journal.proofs.Rows.{take-facts}
use Rattle.flow_journal.proofs.Travels.{may-Take, may-TakeBlock}
use Rattle.board_rules.specs.Ends.{measured_at}
use Rattle.std.proofs.Common.{◌-◌}
use Rattle.std.specs.Prelude.{flat_map}
use Rattle.std.proofs.lemmas.List.Elements.{All-push, All-cons, All-head, All-tail}
use Rattle.std.proofs.lemmas.Grind.{flat_map-append}
use Rattle.std.proofs.lemmas.List.{append-nil}
use Rattle.std.proofs.lemmas.Bool.{cases_Bool}
use Rattle.flow_journal.specs.Pasts.{same}
use Rattle.flow_journal.specs.Setting.{id_at}
use Rattle.flow_journal.specs.Waiting.{not_waiting}
use Rattle.flow_journal.proofs.Steps.{comes_here}
use Rattle.flow_journal.proofs.Looks.{sorted_no_file}
use Rattle.chain_plain.specs.OneThread.{listed as listed_one}
use Rattle.std.proofs.lemmas.Bool.{lt-ltb}
use Rattle.std.proofs.Common.{inl, inr}
use Rattle.flow_journal.specs.Setting.{is_role}
use Rattle.flow_journal.specs.FirstEntries.{may_save}
use Rattle.flow_journal.specs.Unsaved.{group_of}
use Rattle.flow_journal.proofs.Rows.{piece-facts}
use Rattle.flow_journal.proofs.Dues.{due_laws}
use Rattle.flow_journal.proofs.Pieces.{one-piece}
use Rattle.course_parts.specs.declared.node.NodeState.{NodeState}
use Rattle.course_parts.specs.NodeStates.{HasRoomToSave, HasRoomToMeasure, IsNode, IsRing, list_of}
use Rattle.run_course.proofs.Nodes.{ring-same}
use Rattle.run_course.proofs.Elsewhere.{turn-kept, turn-same, no-emit, no-sort_drop}

abbrev Measuring : Type 0
Measuring = ℕ → FrameName → Option Measure

-- the queue of a node, in its inbox
abbrev box : Setting → ℕ → List FrameName → InboxState FrameName
box s v q = record { size = (node s v).queue; extra = (node s v).threads; items = q }

-- QUEUES
pub here-accept-turned : (measure : Measuring) (s : Setting) (v m k : ℕ) (P : Past) (n : NodeState) (t : ℕ) → IsNode measure s v P n → has_room s P v ≡ true
    → (deals s v ≡ true → 0 < length (children s v) → t ≡ turn s v (Accept v m k ∷ P))
    → IsNode measure s v (Accept v m k ∷ P) (record n { inbox = with_last n.inbox (frame m k); turn = t })
here-accept-turned measure s v m k P n t i room turned =
    let more = queue_laws.accept v m k P in
    record {
      inbox = ap (λ b. with_last b (frame m k)) i.inbox ∙ ap (box s v) (sym more);
      working = i.working;
      few = i.few;
      fits = omega (arith, ap length more, length-append (queued v P) (frame m k ∷ []), ltb-true (length (queued v P)) (node s v).queue room, i.few);
      ended = i.ended;
      list_size = i.list_size;
      last = i.last;
      waits = i.waits;
      ticks = i.ticks;
      ring = ring-same s v P (Accept v m k ∷ P) (node s v).work n.window refl refl refl i.ring;
      kept = i.kept;
      results = i.results;
      pieces = i.pieces;
      saving = i.saving;
      next_child = turned;
      measures = i.measures;
      unsaved_room = i.unsaved_room;
      measures_room = i.measures_room;
    }

pub here-accept : (measure : Measuring) (s : Setting) (v m k : ℕ) (P : Past) (n : NodeState) → IsNode measure s v P n → has_room s P v ≡ true
    → (deals s v ≡ true → has_just_emitted v P ≡ false)
    → IsNode measure s v (Accept v m k ∷ P) (record n { inbox = with_last n.inbox (frame m k) })
here-accept measure s v m k P n i room none =
    here-accept-turned measure s v m k P n n.turn i room (λ d some. i.next_child d some ∙ sym (turn-kept s v (Accept v m k) P (none d)))

-- the array of a job leaves the queue
taken : (measure : Measuring) (s : Setting) (v r : ℕ) (e : Entry) (a : FrameName) (P : Past) (n : NodeState) → IsNode measure s v P n
    → is_legal s (e ∷ P) ≡ true → takes_up r e ≡ true → is_job v e ≡ true → is_piece v e ≡ false
    → queued v P ≡ a ∷ queued v (e ∷ P) → jobs v P < (node s v).threads
    → (length (queued v (e ∷ P)) + (n.jobs + 1) ≤ (node s v).queue + (node s v).threads)
    × (n.jobs + 1 ≡ jobs v (e ∷ P)) × (n.jobs + 1 ≤ (node s v).threads) × (n.saving ≡ nat_lt 0 (length (filter (is_piece v) (hands (e ∷ P)))))
    × (without_front n.inbox ≡ box s v (queued v (e ∷ P)))
taken measure s v r e a P n i legal up job piece front few =
    let free = was_free s r e P up legal in (
      omega (arith, i.fits, ap length front),
      ap (λ x. x + 1) i.working ∙ sym (job_laws.up (is_job v) r e P up free job),
      omega (arith, i.working, few),
      i.saving ∙ ap (nat_lt 0) (sym (job_laws.up_other (is_piece v) r e P up free piece)),
      ap without_front i.inbox ∙ ap (λ q. box s v (drop 1 q)) front,
    )

pub here-take : (measure : Measuring) (s : Setting) (r v m k : ℕ) (P : Past) (n : NodeState) → IsNode measure s v P n → is_legal s (Take r v m k ∷ P) ≡ true
    → IsNode measure s v (Take r v m k ∷ P) (record n { inbox = without_front n.inbox; jobs = n.jobs + 1 })
here-take measure s r v m k P n i legal =
    let e = Take r v m k in
    let row = row_of s e P (λ d. refl) legal in
    let facts = take-facts s r v (frame m k) P (may-Take s r v m k P legal) in
    let t = taken measure s v r e (frame m k) P n i legal (eq-eqb r r refl) (eq-eqb v v refl) refl (queue_laws.take s r v m k P row) facts.room in
    record {
      inbox = t.4;
      working = t.1;
      few = t.2;
      fits = t.0;
      ended = i.ended;
      list_size = i.list_size;
      last = i.last;
      waits = i.waits;
      ticks = i.ticks;
      ring = ring-same s v P (e ∷ P) (node s v).work n.window refl refl refl i.ring;
      kept = i.kept;
      results = i.results;
      pieces = i.pieces;
      saving = t.3;
      next_child = λ d some. i.next_child d some ∙ sym (turn-same s v e P legal (λ c m k b. refl) d some);
      measures = i.measures;
      unsaved_room = i.unsaved_room;
      measures_room = i.measures_room;
    }

pub here-take_block : (measure : Measuring) (s : Setting) (r v m k b z : ℕ) (f : Bool) (g : ℕ) (x : Bool) (P : Past) (n : NodeState) → IsNode measure s v P n
    → is_legal s (TakeBlock f x r v m k b z g ∷ P) ≡ true
    → IsNode measure s v (TakeBlock f x r v m k b z g ∷ P) (record n { inbox = without_front n.inbox; jobs = n.jobs + 1 })
here-take_block measure s r v m k b z f g x P n i legal =
    let e = TakeBlock f x r v m k b z g in
    let row = row_of s e P (λ d. refl) legal in
    let facts = take-facts s r v (frame m k) P (may-TakeBlock s r v m k b z f g x P legal) in
    let t =
    taken measure s v r e (frame m k) P n i legal (eq-eqb r r refl) (eq-eqb v v refl) refl (queue_laws.take_block s r v m k b z f g x P row) facts.room in
    record {
      inbox = t.4;
      working = t.1;
      few = t.2;
      fits = t.0;
      ended = i.ended;
      list_size = i.list_size;
      last = i.last;
      waits = i.waits;
      ticks = i.ticks;
      ring = ring-same s v P (e ∷ P) (node s v).work n.window refl refl refl i.ring;
      kept = i.kept;
      results = i.results;
      pieces = i.pieces;
      saving = t.3;
      next_child = λ d some. i.next_child d some ∙ sym (turn-same s v e P legal (λ c m k b. refl) d some);
      measures = i.measures;
      unsaved_room = i.unsaved_room;
      measures_room = i.measures_room;
    }

pub here-pool_drop : (measure : Measuring) (s : Setting) (r v m k need held : ℕ) (P : Past) (n : NodeState) → IsNode measure s v P n
    → is_legal s (PoolDrop r v m k need held ∷ P) ≡ true
    → IsNode measure s v (PoolDrop r v m k need held ∷ P) (record n { inbox = without_front n.inbox })
here-pool_drop measure s r v m k need held P n i legal =
    let e = PoolDrop r v m k need held in
    let front = queue_laws.pool_drop s r v m k need held P (row_of s e P (λ d. refl) legal) in
    record {
      inbox = ap without_front i.inbox ∙ ap (λ q. box s v (drop 1 q)) front;
      working = i.working;
      few = i.few;
      fits = omega (arith, i.fits, ap length front);
      ended = i.ended;
      list_size = i.list_size;
      last = i.last;
      waits = i.waits;
      ticks = i.ticks;
      ring = ring-same s v P (e ∷ P) (node s v).work n.window refl refl refl i.ring;
      kept = i.kept;
      results = i.results;
      pieces = i.pieces;
      saving = i.saving;
      next_child = λ d some. i.next_child d some ∙ sym (turn-same s v e P legal (λ c m k b. refl) d some);
      measures = i.measures;
      unsaved_room = i.unsaved_room;
      measures_room = i.measures_room;
    }

-- WAITING
all-push : {X : Type 0} (Q : X → Type 0) (xs : List X) (x : X) → All Q xs → Q x → All Q (xs ++ x ∷ [])
all-push Q xs x all one = All-push Q xs x all one

no-ticks : (t : ℕ) (ws : List Waiting) → ws ≡ [] → All (λ (w : Waiting). w.tick ≤ t) ws
no-ticks t ws none = rw none (λ k d lt. absurd (omega (arith, lt)))

goes-ticks : (t : ℕ) (a : FrameName) (ws : List Waiting) → All (λ (w : Waiting). w.tick ≤ t) ws → All (λ (w : Waiting). w.tick ≤ t) (not_waiting a ws)
goes-ticks t a [] all = all
goes-ticks t a (x ∷ xs) all = split (same x.array a) (goes-ticks t a xs (All-tail (λ (w : Waiting). w.tick ≤ t) x xs all)) where
  split : (b : Bool) → All (λ (w : Waiting). w.tick ≤ t) (not_waiting a xs) → All (λ (w : Waiting). w.tick ≤ t) (cond b xs (x ∷ not_waiting a xs))
  split true rest = All-tail (λ (w : Waiting). w.tick ≤ t) x xs all
  split false rest = All-cons (λ (w : Waiting). w.tick ≤ t) x (not_waiting a xs) (All-head (λ (w : Waiting). w.tick ≤ t) x xs all) rest

put-ticks : (s : Setting) (r v m k : ℕ) (f : Bool) (P : Past) → All (λ (w : Waiting). w.tick ≤ now P) (waiting s v P)
    → All (λ (w : Waiting). w.tick ≤ now P) (waiting s v (Put r v m k f ∷ P))
put-ticks s r v m k f P all = elim (cases_Bool (is_sorted s v)) [
  | inl sorted ↦
      subst (All (λ (w : Waiting). w.tick ≤ now P)) (sym (put_laws.waits s r v m k f P sorted))
      (all-push (λ (w : Waiting). w.tick ≤ now P) (waiting s v P) (record { array = frame m k; tick = now P }) all (omega arith))
  | inr plain ↦ no-ticks (now P) (waiting s v (Put r v m k f ∷ P)) (put_laws.unsorted s v (Put r v m k f ∷ P) plain)
]

-- PUTS
pub here-put : (measure : Measuring) (s : Setting) (r v m k : ℕ) (f : Bool) (h : Entry) (P : Past) (n y : NodeState) → IsNode measure s v P n
    → is_legal s (Put r v m k f ∷ P) ≡ true
    → hand r P ≡ Some h → is_job v h ≡ true → is_piece v h ≡ false
    → y.list.size ≡ (node s v).sort → (is_sorted s v ≡ true → y.list.last ≡ prev s v P) → y.list.waiting ≡ list_of measure s v (Put r v m k f ∷ P)
    → IsRing s v (Put r v m k f ∷ P) (node s v).work y.window → y.unsaved.items ≡ unsaved s v (Put r v m k f ∷ P) → HasRoomToSave s v y
    → IsNode measure s v (Put r v m k f ∷ P) (record n { jobs = n.jobs - 1; puts = n.puts + 1; list = y.list; window = y.window; unsaved = y.unsaved })
here-put measure s r v m k f h P n y i legal held job piece size last waits ring kept room =
    let e = Put r v m k f in
    let less = job_laws.down (is_job v) r h e P (eq-eqb r r refl) held job in
    record {
      inbox = i.inbox;
      working = omega (arith, less, i.working);
      few = omega (arith, i.few);
      fits = omega (arith, i.fits);
      ended = i.ended;
      list_size = size;
      last = last;
      waits = waits;
      ticks = put-ticks s r v m k f P i.ticks;
      ring = ring;
      kept = kept;
      results = ap (λ x. x + 1) i.results ∙ (sym (length-append (puts v P) (frame m k ∷ [])) ∙ ap length (sym (put_laws.array r v m k f P)));
      pieces = i.pieces;
      saving = i.saving ∙ ap (nat_lt 0) (sym (job_laws.down_other (is_piece v) r h e P (eq-eqb r r refl) held piece));
      next_child = λ d some. i.next_child d some ∙ sym (turn-same s v e P legal (λ c m k b. refl) d some);
      measures = i.measures;
      unsaved_room = room;
      measures_room = i.measures_room;
    }

-- EMISSIONS
pub measured-more : (measure : Measuring) (v m k : ℕ) (why : Why) (P : Past)
    → measured_at measure (Emit v m k why ∷ P) v ≡ measured_at measure P v ++ listed_one (measure v (frame m k))
measured-more measure v m k why P =
    let f = λ (a : FrameName). listed_one (measure v a) in
    ap (flat_map f) (comes_here v (frame m k) (emitted v P))
    ∙ (flat_map-append f (emitted v P) (frame m k ∷ []) ∙ ap (λ ys. flat_map f (emitted v P) ++ ys) (append-nil (listed_one (measure v (frame m k)))))

emit-ticks : (s : Setting) (v m k : ℕ) (why : Why) (P : Past) → All (λ (w : Waiting). w.tick ≤ now P) (waiting s v P)
    → All (λ (w : Waiting). w.tick ≤ now P) (waiting s v (Emit v m k why ∷ P))
emit-ticks s v m k why P all =
    subst (All (λ (w : Waiting). w.tick ≤ now P)) (sym (put_laws.goes s v m k why P)) (goes-ticks (now P) (frame m k) (waiting s v P) all)

pub here-emit : (measure : Measuring) (s : Setting) (v m k : ℕ) (why : Why) (P : Past) (n y : NodeState) → IsNode measure s v P n
    → is_legal s (Emit v m k why ∷ P) ≡ true
    → y.list.size ≡ (node s v).sort → (is_sorted s v ≡ true → y.list.last ≡ id_at s k) → y.list.waiting ≡ list_of measure s v (Emit v m k why ∷ P)
    → y.measures.items ≡ n.measures.items ++ listed_one (measure v (frame m k)) → HasRoomToMeasure measure s v y
    → IsNode measure s v (Emit v m k why ∷ P) (record n { list = y.list; measures = y.measures })
here-emit measure s v m k why P n y i legal size last waits measures room =
    let e = Emit v m k why in
    record {
      inbox = i.inbox;
      working = i.working;
      few = i.few;
      fits = i.fits;
      ended = i.ended;
      list_size = size;
      last = λ h. last h ∙ sym (clock_laws.emit s v m k why P (sorted_no_file s v h));
      waits = waits;
      ticks = emit-ticks s v m k why P i.ticks;
      ring = ring-same s v P (e ∷ P) (node s v).work n.window refl refl refl i.ring;
      kept = i.kept;
      results = i.results;
      pieces = i.pieces;
      saving = i.saving;
      next_child = λ d some. i.next_child d some ∙ sym (turn-same s v e P legal (no-emit v m k why) d some);
      measures = measures ∙ (ap (λ ms. ms ++ listed_one (measure v (frame m k))) i.measures ∙ sym (measured-more measure v m k why P));
      unsaved_room = i.unsaved_room;
      measures_room = room;
    }

-- a result that is dropped, for want of a place in the list
pub here-sort_drop : (measure : Measuring) (s : Setting) (v m k : ℕ) (P : Past) (n y : NodeState) → IsNode measure s v P n
    → is_legal s (SortDrop v m k ∷ P) ≡ true
    → y.list.size ≡ (node s v).sort → (is_sorted s v ≡ true → y.list.last ≡ prev s v P) → y.list.waiting ≡ list_of measure s v (SortDrop v m k ∷ P)
    → IsNode measure s v (SortDrop v m k ∷ P) (record n { list = y.list })
here-sort_drop measure s v m k P n y i legal size last waits =
    let e = SortDrop v m k in
    record {
      inbox = i.inbox;
      working = i.working;
      few = i.few;
      fits = i.fits;
      ended = i.ended;
      list_size = size;
      last = last;
      waits = waits;
      ticks = subst (All (λ (w : Waiting). w.tick ≤ now P)) (sym (put_laws.dropped s v m k P)) (goes-ticks (now P) (frame m k) (waiting s v P) i.ticks);
      ring = ring-same s v P (e ∷ P) (node s v).work n.window refl refl refl i.ring;
      kept = i.kept;
      results = i.results;
      pieces = i.pieces;
      saving = i.saving;
      next_child = λ d some. i.next_child d some ∙ sym (turn-same s v e P legal (no-sort_drop v m k) d some);
      measures = i.measures;
      unsaved_room = i.unsaved_room;
      measures_room = i.measures_room;
    }

-- SETTLING
settled-ring : (s : Setting) (r v : ℕ) (P : Past) (w : Work) (x : Watch FrameName) → x.ring ≡ [] → x.pending ≡ [] → IsRing s v (Settle r v ∷ P) w x
settled-ring s r v P Makes x empty none = tt
settled-ring s r v P (Passes d) x empty none = tt
settled-ring s r v P (Saves g c) x empty none = tt
settled-ring s r v P (Watches pre post preset) x empty none = ((λ h. absurd (true≢false (sym (clock_laws.settle r v P) ∙ h))), (λ h. empty), none)

pub here-settle : (measure : Measuring) (s : Setting) (r v : ℕ) (P : Past) (n y : NodeState) → IsNode measure s v P n → is_legal s (Settle r v ∷ P) ≡ true
    → y.window.ring ≡ [] → y.window.pending ≡ []
    → IsNode measure s v (Settle r v ∷ P) (record n { settled = true; window = y.window })
here-settle measure s r v P n y i legal empty none =
    let e = Settle r v in
    record {
      inbox = i.inbox;
      working = i.working;
      few = i.few;
      fits = i.fits;
      ended = sym (clock_laws.settle r v P);
      list_size = i.list_size;
      last = i.last;
      waits = i.waits;
      ticks = i.ticks;
      ring = settled-ring s r v P (node s v).work y.window empty none;
      kept = i.kept;
      results = i.results;
      pieces = i.pieces;
      saving = i.saving;
      next_child = λ d some. i.next_child d some ∙ sym (turn-same s v e P legal (λ c m k b. refl) d some);
      measures = i.measures;
      unsaved_room = i.unsaved_room;
      measures_room = i.measures_room;
    }

-- PIECES
save-file : (s : Setting) (r v m k g : ℕ) (P : Past) → is_legal s (Save r v m k g ∷ P) ≡ true → is_file (node s v).work ≡ true
save-file s r v m k g P legal =
    let row = row_of s (Save r v m k g) P (λ d. refl) legal in
    (piece-facts s v (frame m k) P (and_parts _ _
    (and_parts (is_role s r && is_free r P && may_save s v (frame m k) P) (eqb g (group_of (node s v).work (length (standing_saves v P)))) row).0).1).file

unsorted-file : (s : Setting) (v : ℕ) → is_file (node s v).work ≡ true → is_sorted s v ≡ true → ⊥
unsorted-file s v file sorted = true≢false (sym file ∙ sorted_no_file s v sorted)

pub here-save : (measure : Measuring) (s : Setting) (r v m k g : ℕ) (P : Past) (n y : NodeState) → IsNode measure s v P n → is_legal s P ≡ true
    → is_legal s (Save r v m k g ∷ P) ≡ true
    → y.unsaved.items ≡ drop 1 n.unsaved.items → HasRoomToSave s v y
    → IsNode measure s v (Save r v m k g ∷ P) (record n { unsaved = y.unsaved; saves = n.saves + 1; saving = true })
here-save measure s r v m k g P n y i was legal items room =
    let e = Save r v m k g in
    let row = row_of s e P (λ d. refl) legal in
    let free = was_free s r e P (eq-eqb r r refl) legal in
    let file = save-file s r v m k g P legal in
    record {
      inbox = i.inbox;
      working = i.working ∙ sym (job_laws.up_other (is_job v) r e P (eq-eqb r r refl) free refl);
      few = i.few;
      fits = i.fits;
      ended = i.ended;
      list_size = i.list_size;
      last = λ h. absurd (unsorted-file s v file h);
      waits = i.waits;
      ticks = i.ticks;
      ring = ring-same s v P (e ∷ P) (node s v).work n.window refl refl refl i.ring;
      kept = items ∙ (ap (drop 1) i.kept ∙ ap (drop 1) (save_laws.save s r v m k g P was row));
      results = i.results;
      pieces = ap (λ x. x + 1) i.pieces ∙ (sym (length-append (standing_saves v P) (frame m k ∷ [])) ∙ ap length (sym (save_laws.saved r v m k g P)));
      saving =
          sym (some-piece (length (filter (is_piece v) (hands P))))
          ∙ ap (nat_lt 0) (sym (job_laws.up (is_piece v) r e P (eq-eqb r r refl) free (eq-eqb v v refl)));
      next_child = λ d some. i.next_child d some ∙ sym (turn-same s v e P legal (λ c m k b. refl) d some);
      measures = i.measures;
      unsaved_room = room;
      measures_room = i.measures_room;
    } where
      some-piece : (c : ℕ) → nat_lt 0 (c + 1) ≡ true
      some-piece c = lt-ltb 0 (c + 1) (omega arith)

pub here-saved : (measure : Measuring) (s : Setting) (r v m k q j i g : ℕ) (P : Past) (n : NodeState) → IsNode measure s v P n → is_legal s P ≡ true
    → is_legal s (Saved r v m k ∷ P) ≡ true
    → hand r P ≡ Some (Save q v j i g)
    → IsNode measure s v (Saved r v m k ∷ P) (record n { saving = false })
here-saved measure s r v m k q j l g P n i was legal held =
    let e = Saved r v m k in
    let less = job_laws.down (is_piece v) r (Save q v j l g) e P (eq-eqb r r refl) held (eq-eqb v v refl) in
    let one = one-piece s P v was in
    let none : length (filter (is_piece v) (hands (e ∷ P))) ≡ 0 = omega (arith, less, one) in
    record {
      inbox = i.inbox;
      working = i.working ∙ sym (job_laws.down_other (is_job v) r (Save q v j l g) e P (eq-eqb r r refl) held refl);
      few = i.few;
      fits = i.fits;
      ended = i.ended;
      list_size = i.list_size;
      last = i.last;
      waits = i.waits;
      ticks = i.ticks;
      ring = ring-same s v P (e ∷ P) (node s v).work n.window refl refl refl i.ring;
      kept = i.kept;
      results = i.results;
      pieces = i.pieces;
      saving = ap (nat_lt 0) (sym none);
      next_child = λ d some. i.next_child d some ∙ sym (turn-same s v e P legal (λ c m k b. refl) d some);
      measures = i.measures;
      unsaved_room = i.unsaved_room;
      measures_room = i.measures_room;
    }

-- RECLAIMS
-- a job's array is the next one of its queue again
given_back : (measure : Measuring) (s : Setting) (r v : ℕ) (a : FrameName) (h : Entry) (P : Past) (n : NodeState) → IsNode measure s v P n → is_legal s P ≡ true
    → is_legal s (Reclaim r ∷ P) ≡ true
    → hand r P ≡ Some h → is_job v h ≡ true → is_piece v h ≡ false → queued v (Reclaim r ∷ P) ≡ a ∷ queued v P
    → IsNode measure s v (Reclaim r ∷ P) (record n { inbox = with_front n.inbox a; jobs = n.jobs - 1 })
given_back measure s r v a h P n i was legal held job piece front =
    let e = Reclaim r in
    let less = job_laws.down (is_job v) r h e P (eq-eqb r r refl) held job in
    record {
      inbox = ap (λ b. with_front b a) i.inbox ∙ ap (box s v) (sym front);
      working = omega (arith, less, i.working);
      few = omega (arith, i.few);
      fits = omega (arith, i.fits, ap length front, less, i.working);
      ended = i.ended;
      list_size = i.list_size;
      last = λ d. i.last d ∙ sym (clock_laws.reclaim_other s r v h P was held piece);
      waits = i.waits;
      ticks = i.ticks;
      ring = ring-same s v P (e ∷ P) (node s v).work n.window refl refl refl i.ring;
      kept = i.kept ∙ sym (save_laws.reclaim_other s r v h P was held piece);
      results = i.results;
      pieces = i.pieces ∙ ap length (sym (ap (saves v) (stood r h P held) ∙ saves-let_go v r h (standing P) (hand-standing s P r h was held) piece));
      saving = i.saving ∙ ap (nat_lt 0) (sym (job_laws.down_other (is_piece v) r h e P (eq-eqb r r refl) held piece));
      next_child = λ d some. i.next_child d some ∙ sym (turn-same s v e P legal (λ c m k b. refl) d some);
      measures = i.measures;
      unsaved_room = i.unsaved_room;
      measures_room = i.measures_room;
    }

pub here-reclaim_take : (measure : Measuring) (s : Setting) (r q v m k : ℕ) (P : Past) (n : NodeState) → IsNode measure s v P n → is_legal s P ≡ true
    → is_legal s (Reclaim r ∷ P) ≡ true
    → hand r P ≡ Some (Take q v m k) → IsNode measure s v (Reclaim r ∷ P) (record n { inbox = with_front n.inbox (frame m k); jobs = n.jobs - 1 })
here-reclaim_take measure s r q v m k P n i was legal held =
    given_back measure s r v (frame m k) (Take q v m k) P n i was legal held (eq-eqb v v refl) refl (queue_laws.reclaim v r q m k P held)

pub here-reclaim_block : (measure : Measuring) (s : Setting) (r q v m k b z : ℕ) (f : Bool) (g : ℕ) (x : Bool) (P : Past) (n : NodeState)
    → IsNode measure s v P n → is_legal s P ≡ true → is_legal s (Reclaim r ∷ P) ≡ true
    → hand r P ≡ Some (TakeBlock f x q v m k b z g)
    → IsNode measure s v (Reclaim r ∷ P) (record n { inbox = with_front n.inbox (frame m k); jobs = n.jobs - 1 })
here-reclaim_block measure s r q v m k b z f g x P n i was legal held =
    given_back measure s r v (frame m k) (TakeBlock f x q v m k b z g) P n i was legal held (eq-eqb v v refl) refl
    (queue_laws.reclaim_block v r q m k b z f g x P held)

-- a piece is the first unsaved one again
pub here-reclaim_piece : (measure : Measuring) (s : Setting) (r q v m k g : ℕ) (P : Past) (n y : NodeState) → IsNode measure s v P n → is_legal s P ≡ true
    → is_legal s (Reclaim r ∷ P) ≡ true
    → hand r P ≡ Some (Save q v m k g) → is_file (node s v).work ≡ true → y.unsaved.items ≡ frame m k ∷ n.unsaved.items → HasRoomToSave s v y
    → IsNode measure s v (Reclaim r ∷ P) (record n { unsaved = y.unsaved; saves = n.saves - 1; saving = false })
here-reclaim_piece measure s r q v m k g P n y i was legal held file items room =
    let e = Reclaim r in
    let h = Save q v m k g in
    let less = job_laws.down (is_piece v) r h e P (eq-eqb r r refl) held (eq-eqb v v refl) in
    let one = one-piece s P v was in
    let none : length (filter (is_piece v) (hands (e ∷ P))) ≡ 0 = omega (arith, less, one) in
    let front = save_laws.reclaim s r v q m k g P was held in
    let before = due_laws.counts s v P was file in
    let after = due_laws.counts s v (e ∷ P) legal file in
    record {
      inbox = i.inbox ∙ ap (box s v) (sym (queue_laws.reclaim_other v r h P held refl));
      working = i.working ∙ sym (job_laws.down_other (is_job v) r h e P (eq-eqb r r refl) held refl);
      few = i.few;
      fits = omega (arith, i.fits, ap length (queue_laws.reclaim_other v r h P held refl));
      ended = i.ended;
      list_size = i.list_size;
      last = λ d. absurd (unsorted-file s v file d);
      waits = i.waits;
      ticks = i.ticks;
      ring = ring-same s v P (e ∷ P) (node s v).work n.window refl refl refl i.ring;
      kept = items ∙ (ap (λ xs. frame m k ∷ xs) i.kept ∙ sym front);
      results = i.results;
      pieces = omega (arith, i.pieces, before, after, ap length front);
      saving = ap (nat_lt 0) (sym none);
      next_child = λ d some. i.next_child d some ∙ sym (turn-same s v e P legal (λ c m k b. refl) d some);
      measures = i.measures;
      unsaved_room = room;
      measures_room = i.measures_room;
    }
