-- What each entry changes.
use Rattle.std.proofs.Common.{◌≡◌, ◌≢◌, ℕ, ◌+◌, Bool, true, false, not, ◌&&◌, cond, eqb, List, [], ◌∷◌, ◌++◌, refl, sym, ap, ◌∙◌, subst, arith, Option}
use Rattle.std.proofs.Common.{Some, None}
use Rattle.std.specs.List.{find, flat_map}
use Rattle.std.proofs.lemmas.Bool.{and_parts, false≢true, true≢false, eq-eqb, ne_eqb, eqb-true, eqb-false, or_left}
use Rattle.nd_base.specs.declared.frame.FrameName.{FrameName}
use Rattle.trig_window.specs.Windows.{kept}
use Rattle.flow_journal.specs.declared.entry.Entry.{Entry}
use Rattle.flow_journal.specs.declared.entry.Entry.TheVariants.{Load, LoadRefused, Tick, Issue, Emit, Accept, Full, Take, TakeBlock, PoolDrop, Put}
use Rattle.flow_journal.specs.declared.entry.Entry.TheVariants.{SortDrop, Settle, Save, Saved, Reclaim}
use Rattle.flow_journal.specs.Setting.{Setting, Watches, node, is_maker, id_at}
use Rattle.flow_journal.specs.Pasts.{Past, frame}
use Rattle.flow_journal.specs.Hands.{takes_up, let_go, hands, hand, standing, is_job, job_array, is_free}
use Rattle.flow_journal.specs.Ended.{now, is_settled}
use Rattle.flow_journal.specs.Offered.{offered, offered_frames, loads}
use Rattle.flow_journal.specs.Queued.{queued}
use Rattle.flow_journal.specs.Puts.{puts, firings}
use Rattle.flow_journal.specs.Waiting.{waiting}
use Rattle.flow_journal.specs.Rings.{ring_of, ring}
use Rattle.flow_journal.specs.Unsaved.{standing_saves, unsaved, is_file}
use Rattle.queue_sort.specs.Sorting.{keeps_step}
use Rattle.flow_journal.specs.Breaks.{prev_of, outs, prev, breaks_of, breaks}
use Rattle.flow_journal.specs.FirstEntries.{first, may_take, pool_grants, pool_refuses}
use Rattle.flow_journal.specs.Histories.{is_legal}
use Rattle.flow_journal.specs.EntryLaws.{moves_queues, QueueLaws, lets_go, HandLaws, offers, offers_frames, OfferLaws, is_put, moves_lists, PutLaws}
use Rattle.flow_journal.specs.EntryLaws.{moves_rings, RingLaws, moves_saves, changes_saves, SaveLaws, moves_hands, JobLaws, lets_out, ClockLaws}
use Rattle.flow_journal.specs.EntryLaws.{BreakLaws, RoleLaws}
use Rattle.flow_journal.proofs.Steps.{comes_here, comes_elsewhere, queued-Accept, queued-Reclaim}
use Rattle.flow_journal.proofs.EntryCounts.{count, bit, count-cons, count-let_go}
use Rattle.flow_journal.proofs.Emissions.{flags-puts, waiting-unsorted}
use Rattle.flow_journal.proofs.Pieces.{saves-front, unsaved-file, unsaved-Put, unsaved-Put_elsewhere, unsaved-Save, unsaved-Save_elsewhere, unsaved-Reclaim}
use Rattle.flow_journal.proofs.Pieces.{unsaved-Reclaim_other, piece-file}
use Rattle.flow_journal.proofs.Counts.{hand-standing}
use Rattle.flow_journal.proofs.Loads.{loaded-last, offered-Reclaim_other}
use Rattle.flow_journal.proofs.LastOuts.{outs-let_go, last_out, outs_of, off}
use Rattle.flow_journal.proofs.Settled.{put-unsettled}
use Rattle.flow_journal.proofs.Hands.{find-none, find-let_go, free-let_go, hands-Apart, hands-first, stood}
use Rattle.flow_journal.proofs.Rows.{taken_front}
use Rattle.flow_journal.specs.EntryTests.{is_tick}

queue_others : (v : ℕ) (e : Entry) (P : Past) → moves_queues e ≡ false → queued v (e ∷ P) ≡ queued v P
queue_others v (Accept w m k) P h = absurd (true≢false h)
queue_others v (Take r w m k) P h = absurd (true≢false h)
queue_others v (TakeBlock f x r w m k b n g) P h = absurd (true≢false h)
queue_others v (PoolDrop r w m k n z) P h = absurd (true≢false h)
queue_others v (Reclaim r) P h = absurd (true≢false h)
queue_others v _ P h = refl

pub no_job : (v : ℕ) (e : Entry) → is_job v e ≡ false → job_array v (Some e) ≡ []
no_job v (Take r w m k) h = rw h refl
no_job v (TakeBlock f x r w m k b n g) h = rw h refl
no_job v _ h = refl

pub queue_laws : QueueLaws
queue_laws = record {
  accept = queued-Accept;
  accept_elsewhere = λ v w m k P ne. comes_elsewhere v w (frame m k) (queued v P) ne;
  take = λ s r v m k P h. rw (eq-eqb v v refl) (taken_front s r v (frame m k) P (and_parts (may_take s r v (frame m k) P) (not (is_maker s v)) h).0);
  take_block =
      λ s r v m k b n f g x P h. rw (eq-eqb v v refl)
      (taken_front s r v (frame m k) P (and_parts _ _ (and_parts (may_take s r v (frame m k) P && is_maker s v) (pool_grants s v b n f g x P) h).0).0);
  pool_drop =
      λ s r v m k n z P h. rw (eq-eqb v v refl)
      (taken_front s r v (frame m k) P (and_parts _ _ (and_parts (may_take s r v (frame m k) P && is_maker s v) (pool_refuses s v n z P) h).0).0);
  take_elsewhere = λ r v w m k P ne. rw (ne_eqb w v ne) refl;
  take_block_elsewhere = λ r v w m k b n f g x P ne. rw (ne_eqb w v ne) refl;
  pool_drop_elsewhere = λ r v w m k n h P ne. rw (ne_eqb w v ne) refl;
  reclaim = queued-Reclaim;
  reclaim_other =
      λ v r e P held other. ap (λ (o : Option Entry). job_array v o ++ queued v P) held ∙ ap (λ (xs : List FrameName). xs ++ queued v P) (no_job v e other);
  reclaim_block = λ v r q m k b n f g x P h. rw h (rw (comes_here v (frame m k) []) refl);
  others = queue_others;
}

hand_up : (r : ℕ) (e : Entry) (P : Past) → takes_up r e ≡ true → hand r (e ∷ P) ≡ Some e
hand_up r (Load q k b n f g x) P h = rw h refl
hand_up r (Take q v m k) P h = rw h refl
hand_up r (TakeBlock f x q v m k b n g) P h = rw h refl
hand_up r (Save q v m k g) P h = rw h refl
hand_up r _ P h = absurd (false≢true h)

dropped : (s : Setting) (r q : ℕ) (P : Past) → is_legal s P ≡ true → eqb q r ≡ true → find (takes_up r) (let_go q (hands P)) ≡ None
dropped s r q P h same =
    subst (λ (i : ℕ). find (takes_up r) (let_go i (hands P)) ≡ None) (sym (eqb-true q r same))
    (find-none (takes_up r) (let_go r (hands P)) (free-let_go r (hands P) (hands-Apart P)))

hand_down : (s : Setting) (r : ℕ) (e : Entry) (P : Past) → is_legal s (e ∷ P) ≡ true → lets_go r e ≡ true → hand r (e ∷ P) ≡ None
hand_down s r (Issue q k) P h u = dropped s r q P (and_parts _ _ h).0 u
hand_down s r (Put q v m k f) P h u = dropped s r q P (and_parts _ _ h).0 u
hand_down s r (Saved q v m k) P h u = dropped s r q P (and_parts _ _ h).0 u
hand_down s r (Reclaim q) P h u = dropped s r q P (and_parts _ _ h).0 u
hand_down s r _ P h u = absurd (false≢true u)

hand_others : (r : ℕ) (e : Entry) (P : Past) → takes_up r e ≡ false → lets_go r e ≡ false → hand r (e ∷ P) ≡ hand r P
hand_others r (Load q k b n f g x) P u l = rw u (find-let_go q r (hands P) (eqb-false q r u))
hand_others r (Take q v m k) P u l = rw u (find-let_go q r (hands P) (eqb-false q r u))
hand_others r (TakeBlock f x q v m k b n g) P u l = rw u (find-let_go q r (hands P) (eqb-false q r u))
hand_others r (Save q v m k g) P u l = rw u (find-let_go q r (hands P) (eqb-false q r u))
hand_others r (Issue q k) P u l = find-let_go q r (hands P) (eqb-false q r l)
hand_others r (Put q v m k f) P u l = find-let_go q r (hands P) (eqb-false q r l)
hand_others r (Saved q v m k) P u l = find-let_go q r (hands P) (eqb-false q r l)
hand_others r (Reclaim q) P u l = find-let_go q r (hands P) (eqb-false q r l)
hand_others r _ P u l = refl

pub hand_laws : HandLaws
hand_laws = record { up = hand_up; down = hand_down; others = hand_others }

offer_others : (v : ℕ) (e : Entry) (P : Past) → offers e ≡ false → offered v (e ∷ P) ≡ offered v P
offer_others v (Accept w m k) P h = absurd (true≢false h)
offer_others v (Full w m k) P h = absurd (true≢false h)
offer_others v _ P h = refl

pub frames_others : (e : Entry) (P : Past) → offers_frames e ≡ false → offered_frames (e ∷ P) ≡ offered_frames P
frames_others (Load r k b n f g x) P h = absurd (true≢false h)
frames_others (LoadRefused r k n z) P h = absurd (true≢false h)
frames_others (Reclaim r) P h = absurd (true≢false h)
frames_others _ P h = refl

pub offer_laws : OfferLaws
offer_laws = record {
  load = λ r k b n f g x P. refl;
  load_refused = λ r k n h P. refl;
  accept = λ v m k P. comes_here v (frame m k) (offered v P);
  full = λ v m k P. comes_here v (frame m k) (offered v P);
  accept_elsewhere = λ v w m k P ne. comes_elsewhere v w (frame m k) (offered v P) ne;
  full_elsewhere = λ v w m k P ne. comes_elsewhere v w (frame m k) (offered v P) ne;
  others = offer_others;
  reclaim =
      λ s r q k b n f g x P h held. loaded-last s P r q k b n f g x h held
      ∙ ap (λ (es : List Entry). k ∷ flat_map loads es) (sym (stood r (Load q k b n f g x) P held));
  reclaim_other = offered-Reclaim_other;
  frames_others = frames_others;
}

put_others : (v : ℕ) (e : Entry) (P : Past) → is_put e ≡ false → puts v (e ∷ P) ≡ puts v P
put_others v (Put r w m k f) P h = absurd (true≢false h)
put_others v _ P h = refl

flag_others : (v : ℕ) (e : Entry) (P : Past) → is_put e ≡ false → firings v (e ∷ P) ≡ firings v P
flag_others v (Put r w m k f) P h = absurd (true≢false h)
flag_others v _ P h = refl

list_others : (s : Setting) (v : ℕ) (e : Entry) (P : Past) → moves_lists e ≡ false → waiting s v (e ∷ P) ≡ waiting s v P
list_others s v (Put r w m k f) P h = absurd (true≢false h)
list_others s v (Emit w m k why) P h = absurd (true≢false h)
list_others s v (SortDrop w m k) P h = absurd (true≢false h)
list_others s v _ P h = refl

pub put_laws : PutLaws
put_laws = record {
  array = λ r v m k f P. comes_here v (frame m k) (puts v P);
  flag = λ r v m k f P. comes_here v f (firings v P);
  waits = λ s r v m k f P sorted. rw sorted (comes_here v (record { array = frame m k; tick = now P }) (waiting s v P));
  array_elsewhere = λ r v w m k f P ne. comes_elsewhere v w (frame m k) (puts v P) ne;
  flag_elsewhere = λ r v w m k f P ne. comes_elsewhere v w f (firings v P) ne;
  flag_others = flag_others;
  waits_elsewhere = λ s r v w m k f P sorted ne. rw sorted (comes_elsewhere v w (record { array = frame m k; tick = now P }) (waiting s v P) ne);
  unsorted = λ s v P plain. waiting-unsorted s v P plain;
  goes = λ s v m k why P. rw (eq-eqb v v refl) refl;
  goes_elsewhere = λ s v w m k why P ne. rw (ne_eqb w v ne) refl;
  dropped = λ s v m k P. rw (eq-eqb v v refl) refl;
  dropped_elsewhere = λ s v w m k P ne. rw (ne_eqb w v ne) refl;
  others = put_others;
  lists = list_others;
}

is_kept : (s : Setting) (v : ℕ) (P : Past) (pre post preset : ℕ) → (node s v).work ≡ Watches pre post preset → is_settled v P ≡ false
    → ring s v P ≡ kept pre post preset (firings v P) (puts v P)
is_kept s v P pre post preset work running = rw (running, work) refl

kept_put : (s : Setting) (r v m k : ℕ) (f : Bool) (P : Past) (pre post preset : ℕ) → (node s v).work ≡ Watches pre post preset → is_legal s P ≡ true
    → first s P (Put r v m k f) ≡ true → ring s v (Put r v m k f ∷ P) ≡ kept pre post preset (firings v P ++ f ∷ []) (puts v P ++ frame m k ∷ [])
kept_put s r v m k f P pre post preset work h row =
    is_kept s v (Put r v m k f ∷ P) pre post preset work (put-unsettled s r v m k f P h row)
    ∙ (ap (λ (fs : List Bool). kept pre post preset fs (puts v (Put r v m k f ∷ P))) (comes_here v f (firings v P))
    ∙ ap (λ (xs : List FrameName). kept pre post preset (firings v P ++ f ∷ []) xs) (comes_here v (frame m k) (puts v P)))

kept_elsewhere : (s : Setting) (r v w m k : ℕ) (f : Bool) (P : Past) → w ≢ v → ring s v (Put r w m k f ∷ P) ≡ ring s v P
kept_elsewhere s r v w m k f P ne =
    ap (λ (fs : List Bool). cond (is_settled v P) [] (ring_of (node s v).work fs (puts v (Put r w m k f ∷ P)))) (comes_elsewhere v w f (firings v P) ne)
    ∙ ap (λ (xs : List FrameName). cond (is_settled v P) [] (ring_of (node s v).work (firings v P) xs)) (comes_elsewhere v w (frame m k) (puts v P) ne)

ring_others : (s : Setting) (v : ℕ) (e : Entry) (P : Past) → moves_rings e ≡ false → ring s v (e ∷ P) ≡ ring s v P
ring_others s v (Put r w m k f) P h = absurd (true≢false h)
ring_others s v (Settle r w) P h = absurd (true≢false h)
ring_others s v _ P h = refl

pub ring_laws : RingLaws
ring_laws = record {
  flags = flags-puts;
  kept_is = is_kept;
  put = kept_put;
  put_elsewhere = kept_elsewhere;
  settle = λ s r v P. rw (eq-eqb v v refl) refl;
  settle_elsewhere = λ s r v w P ne. rw (ne_eqb w v ne) refl;
  others = ring_others;
}

save_others : (s : Setting) (v : ℕ) (e : Entry) (P : Past) → moves_saves e ≡ false → unsaved s v (e ∷ P) ≡ unsaved s v P
save_others s v (Put r w m k f) P h = absurd (true≢false h)
save_others s v (Save r w m k g) P h = absurd (true≢false h)
save_others s v (Reclaim r) P h = absurd (true≢false h)
save_others s v _ P h = refl

saved_others : (v : ℕ) (e : Entry) (P : Past) → changes_saves e ≡ false → standing_saves v (e ∷ P) ≡ standing_saves v P
saved_others v (Save r w m k g) P h = absurd (true≢false h)
saved_others v (Reclaim r) P h = absurd (true≢false h)
saved_others v _ P h = refl

pub save_laws : SaveLaws
save_laws = record {
  front = λ s v P h file. saves-front s P v h ∙ ap (λ (xs : List FrameName). standing_saves v P ++ xs) (sym (unsaved-file s v P file));
  put = unsaved-Put;
  put_elsewhere = unsaved-Put_elsewhere;
  save = unsaved-Save;
  save_elsewhere = unsaved-Save_elsewhere;
  reclaim = λ s r v q m k g P h held. unsaved-Reclaim s r v q m k g P h (piece-file s r q v m k g P h held) held;
  reclaim_other = unsaved-Reclaim_other;
  others = save_others;
  saved = λ r v m k g P. comes_here v (frame m k) (standing_saves v P);
  saved_elsewhere = λ r v w m k g P ne. comes_elsewhere v w (frame m k) (standing_saves v P) ne;
  saved_others = saved_others;
}

hands-down : (r : ℕ) (d : Entry) (P : Past) → lets_go r d ≡ true → hands (d ∷ P) ≡ let_go r (hands P)
hands-down r (Issue q k) P h = ap (λ (i : ℕ). let_go i (hands P)) (eqb-true q r h)
hands-down r (Put q v m k f) P h = ap (λ (i : ℕ). let_go i (hands P)) (eqb-true q r h)
hands-down r (Saved q v m k) P h = ap (λ (i : ℕ). let_go i (hands P)) (eqb-true q r h)
hands-down r (Reclaim q) P h = ap (λ (i : ℕ). let_go i (hands P)) (eqb-true q r h)
hands-down r _ P h = absurd (false≢true h)

counts-up : (p : Entry → Bool) (r : ℕ) (e : Entry) (P : Past) → takes_up r e ≡ true → is_free r P ≡ true
    → count p (hands (e ∷ P)) ≡ bit (p e) + count p (hands P)
counts-up p r e P up free = ap (count p) (hands-first r e P up free) ∙ count-cons p e (hands P)

counts-down : (p : Entry → Bool) (r : ℕ) (e d : Entry) (P : Past) → lets_go r d ≡ true → hand r P ≡ Some e
    → count p (hands P) ≡ bit (p e) + count p (hands (d ∷ P))
counts-down p r e d P down held = count-let_go p r e (hands P) held ∙ ap (λ (hs : List Entry). bit (p e) + count p hs) (sym (hands-down r d P down))

hands_others : (e : Entry) (P : Past) → moves_hands e ≡ false → hands (e ∷ P) ≡ hands P
hands_others (Load q k b n f g x) P h = absurd (true≢false h)
hands_others (Take q v m k) P h = absurd (true≢false h)
hands_others (TakeBlock f x q v m k b n g) P h = absurd (true≢false h)
hands_others (Save q v m k g) P h = absurd (true≢false h)
hands_others (Issue q k) P h = absurd (true≢false h)
hands_others (Put q v m k f) P h = absurd (true≢false h)
hands_others (Saved q v m k) P h = absurd (true≢false h)
hands_others (Reclaim q) P h = absurd (true≢false h)
hands_others _ P h = refl

pub job_laws : JobLaws
job_laws = record {
  up = λ p r e P up free passes. omega (arith, counts-up p r e P up free, ap bit passes);
  up_other = λ p r e P up free fails. omega (arith, counts-up p r e P up free, ap bit fails);
  down = λ p r e d P down held passes. omega (arith, counts-down p r e d P down held, ap bit passes);
  down_other = λ p r e d P down held fails. omega (arith, counts-down p r e d P down held, ap bit fails);
  others = hands_others;
}

prev_others : (s : Setting) (v : ℕ) (e : Entry) (P : Past) → lets_out e ≡ false → prev s v (e ∷ P) ≡ prev s v P
prev_others s v (Emit w m k why) P h = absurd (true≢false h)
prev_others s v (Save r w m k g) P h = absurd (true≢false h)
prev_others s v (Reclaim r) P h = absurd (true≢false h)
prev_others s v _ P h = refl

now_others : (e : Entry) (P : Past) → is_tick e ≡ false → now (e ∷ P) ≡ now P
now_others (Tick t) P h = absurd (true≢false h)
now_others _ P h = refl

out_now : (s : Setting) (v k : ℕ) (ks : List ℕ) (b : Bool) → b ≡ true → prev_of s (cond b (k ∷ []) [] ++ ks) ≡ id_at s k
out_now s v k ks true h = refl
out_now s v k ks false h = absurd (false≢true h)

-- a piece that is reclaimed went out last
less_out : (s : Setting) (r q v m k g : ℕ) (P : Past) → is_legal s P ≡ true → hand r P ≡ Some (Save q v m k g) → outs s v P ≡ k ∷ outs s v (Reclaim r ∷ P)
less_out s r q v m k g P h held =
    let file : is_file (node s v).work ≡ true = piece-file s r q v m k g P h held in
    ap (λ (b : Bool). outs_of b v (standing P)) file ∙ (last_out s P r q v m k g h held
    ∙ (ap (λ (es : List Entry). k ∷ outs_of true v es) (sym (stood r (Save q v m k g) P held))
    ∙ ap (λ (b : Bool). k ∷ outs_of b v (standing (Reclaim r ∷ P))) (sym file)))

pub clock_laws : ClockLaws
clock_laws = record {
  emit = λ s v m k why P other. out_now s v k (outs s v P) (not (is_file (node s v).work) && eqb v v) (rw other (eq-eqb v v refl));
  save = λ s r v m k g P file. out_now s v k (outs s v P) (is_file (node s v).work && eqb v v) (rw file (eq-eqb v v refl));
  emit_elsewhere =
      λ s v w m k why P ne. ap (λ (b : Bool). prev_of s (cond b (k ∷ []) [] ++ outs s v P)) (off (not (is_file (node s v).work)) (eqb w v) (ne_eqb w v ne));
  save_elsewhere =
      λ s r v w m k g P ne. ap (λ (b : Bool). prev_of s (cond b (k ∷ []) [] ++ outs s v P)) (off (is_file (node s v).work) (eqb w v) (ne_eqb w v ne));
  reclaim = less_out;
  reclaim_other =
      λ s r v e P h held none. ap (λ (es : List Entry). prev_of s (outs_of (is_file (node s v).work) v es)) (stood r e P held)
      ∙ ap (prev_of s) (outs-let_go (is_file (node s v).work) v r e (standing P) (hand-standing s P r e h held) none);
  prev_others = prev_others;
  tick = λ t P. refl;
  now_others = now_others;
  close = λ r P. refl;
  settle = λ r v P. rw (eq-eqb v v refl) refl;
  closed_others = λ e P h. rw h refl;
  settled_others = λ v e P h. rw h refl;
}

-- one more that went out
break_now : (s : Setting) (v k : ℕ) (ks : List ℕ) (b : Bool) → b ≡ true
    → breaks_of s (cond b (k ∷ []) [] ++ ks) ≡ breaks_of s ks + cond (keeps_step (prev_of s ks) (id_at s k)) 0 1
break_now s v k ks true h = refl
break_now s v k ks false h = absurd (false≢true h)

break_others : (s : Setting) (v : ℕ) (e : Entry) (P : Past) → lets_out e ≡ false → breaks s v (e ∷ P) ≡ breaks s v P
break_others s v (Emit w m k why) P h = absurd (true≢false h)
break_others s v (Save r w m k g) P h = absurd (true≢false h)
break_others s v (Reclaim r) P h = absurd (true≢false h)
break_others s v _ P h = refl

pub break_laws : BreakLaws
break_laws = record {
  none = λ s v. refl;
  emit = λ s v m k why P other. break_now s v k (outs s v P) (not (is_file (node s v).work) && eqb v v) (rw other (eq-eqb v v refl));
  save = λ s r v m k g P file. break_now s v k (outs s v P) (is_file (node s v).work && eqb v v) (rw file (eq-eqb v v refl));
  emit_elsewhere =
      λ s v w m k why P ne. ap (λ (b : Bool). breaks_of s (cond b (k ∷ []) [] ++ outs s v P)) (off (not (is_file (node s v).work)) (eqb w v) (ne_eqb w v ne));
  save_elsewhere =
      λ s r v w m k g P ne. ap (λ (b : Bool). breaks_of s (cond b (k ∷ []) [] ++ outs s v P)) (off (is_file (node s v).work) (eqb w v) (ne_eqb w v ne));
  reclaim = λ s r q v m k g P h held. ap (breaks_of s) (less_out s r q v m k g P h held);
  reclaim_other =
      λ s r v e P h held none. ap (λ (es : List Entry). breaks_of s (outs_of (is_file (node s v).work) v es)) (stood r e P held)
      ∙ ap (breaks_of s) (outs-let_go (is_file (node s v).work) v r e (standing P) (hand-standing s P r e h held) none);
  others = break_others;
}

pub role_laws : RoleLaws
role_laws = record {
  leave = λ r P. or_left (eqb r r) _ (eq-eqb r r refl);
  leave_any = λ r P. refl;
  left_others = λ r e P h. rw h refl;
  left_any_others = λ e P h. rw h refl;
  reclaim = λ r P. or_left (eqb r r) _ (eq-eqb r r refl);
  reclaimed_others = λ r e P h. rw h refl;
}
