-- Of a node of one thread without a sort list: what it accepted for good is what it worked off, then the job in hand, then its queue.
use Rattle.std.proofs.Common.{◌≡◌, ◌≢◌, ℕ, ◌+◌, ◌≤◌, Bool, true, false, not, cond, eqb, List, [], ◌∷◌, ◌++◌, map, refl, sym, ap, ◌∙◌, subst, arith, inl}
use Rattle.std.proofs.Common.{inr, Some}
use Rattle.std.specs.Prelude.{filter}
use Rattle.std.specs.List.{list_any}
use Rattle.std.proofs.lemmas.Bool.{and_parts, and_from, false≢true, eq-eqb, eqb-true, eqb-false, cases_Bool}
use Rattle.std.proofs.lemmas.List.{append_assoc, map-append}
use Rattle.std.proofs.lemmas.List.Elements.{filter-append}
use Rattle.nd_base.specs.declared.frame.FrameName.{FrameName}
use Rattle.flow_journal.specs.declared.entry.Entry.{Entry}
use Rattle.flow_journal.specs.declared.entry.Entry.TheVariants.{Issue, Accept, Take, TakeBlock, PoolDrop, Put, SortDrop, Saved, Reclaim, Load, Save}
use Rattle.flow_journal.specs.Setting.{Setting, node, is_maker, is_sorted}
use Rattle.flow_journal.specs.Pasts.{Past, frame, same, comes_at}
use Rattle.flow_journal.specs.Hands.{let_go, hands, hand, is_job, job_array, takes_up}
use Rattle.flow_journal.specs.Queued.{queued}
use Rattle.flow_journal.specs.Puts.{puts}
use Rattle.flow_journal.specs.Accepted.{accepts, is_dropped_by, accepted}
use Rattle.flow_journal.specs.Histories.{is_legal}
use Rattle.flow_journal.proofs.Steps.{comes_here, comes_elsewhere, same_refl}
use Rattle.flow_journal.proofs.Rows.{row_laws}
use Rattle.flow_journal.proofs.Hands.{row_of, hands-more}
use Rattle.flow_journal.proofs.Changes.{queue_laws, no_job}
use Rattle.flow_journal.proofs.EntryCounts.{count, bit, count-cons, count-let_go-le, accepts_at}
use Rattle.flow_journal.proofs.Jobs.{reclaim_hand}
use Rattle.flow_journal.proofs.Issues.{accepts-count}
use Rattle.flow_journal.proofs.Once.{accepts-once, accepts_once-law}
use Rattle.flow_journal.specs.EntryTests.{is_sort_drop}
use Rattle.flow_journal.specs.ResultNames.{result_name}
use Rattle.run_laws.proofs.Tallies.{pool_drops_at, accepts-all, no_sort_drops}
use Rattle.run_laws.proofs.Jobs.{jobs_at, no_jobs, other_goes, one_goes, hands-fit, found-fits}
use Rattle.run_laws.proofs.Dropping.{drop-away, drop-here, one-out, count-filter-le, same-le, undropped}

pub record Line (s : Setting) (v : ℕ) (P : Past) : Type 0 where
  pub done : List FrameName
  pub results : puts v P ≡ map (result_name s v) done
  pub all : accepted s v P ≡ done ++ (jobs_at v (hands P) ++ queued v P)
  pub few : count (is_job v) (hands P) ≤ 1

-- an entry that moves arrays of the node at most from the job to the queue or back
same_line : (s : Setting) (v : ℕ) (e : Entry) (P : Past) → puts v (e ∷ P) ≡ puts v P → accepted s v (e ∷ P) ≡ accepted s v P
    → jobs_at v (hands (e ∷ P)) ++ queued v (e ∷ P) ≡ jobs_at v (hands P) ++ queued v P → count (is_job v) (hands (e ∷ P)) ≤ 1 → Line s v P → Line s v (e ∷ P)
same_line s v e P p a q few l =
    record { done = l.done; results = p ∙ l.results; all = a ∙ (l.all ∙ ap (λ (xs : List FrameName). l.done ++ xs) (sym q)); few = few }

result-pass : (s : Setting) (v m i : ℕ) → is_maker s v ≡ false → result_name s v (frame m i) ≡ frame m i
result-pass s v m i h = rw h refl

result-make : (s : Setting) (v n m i : ℕ) → is_maker s v ≡ true → m ≡ v → result_name s v (frame n i) ≡ frame m i
result-make s v n m i h e = rw h (ap (λ (u : ℕ). frame u i) (sym e))

-- an Accept at the node itself
line-accept : (s : Setting) (v m i : ℕ) (P : Past) → is_sorted s v ≡ false → is_legal s (Accept v m i ∷ P) ≡ true → Line s v P → Line s v (Accept v m i ∷ P)
line-accept s v m i P plain h l =
    let legal : is_legal s P ≡ true = (and_parts _ _ h).0 in
    let one : accepts_at v i (Accept v m i) ≡ true = and_from _ _ (eq-eqb v v refl) (eq-eqb i i refl) in
    let none : count (pool_drops_at v i) P ≡ 0 =
    omega (
      arith,
      accepts-once s (Accept v m i ∷ P) v i h,
      count-cons (accepts_at v i) (Accept v m i) P,
      ap bit one,
      accepts-all s P v i legal,
      accepts-count v i P,
    ) in
    let kept : list_any (is_dropped_by s v (frame m i)) P ≡ false = undropped s v (frame m i) P none (no_sort_drops s P v plain legal) in
    let D : FrameName → Bool = λ a. list_any (is_dropped_by s v a) P in
    let last : filter (λ a. not (D a)) (frame m i ∷ []) ≡ frame m i ∷ [] = rw kept refl in
    let more : accepted s v (Accept v m i ∷ P) ≡ accepted s v P ++ frame m i ∷ [] =
    ap (filter (λ a. not (D a))) (comes_here v (frame m i) (accepts v P))
    ∙ (filter-append (λ a. not (D a)) (accepts v P) (frame m i ∷ []) ∙ ap (λ (xs : List FrameName). accepted s v P ++ xs) last) in
    record {
      done = l.done;
      results = l.results;
      all = more ∙ (ap (λ (xs : List FrameName). xs ++ frame m i ∷ []) l.all
          ∙ (append_assoc l.done (jobs_at v (hands P) ++ queued v P) (frame m i ∷ [])
          ∙ ap (λ (xs : List FrameName). l.done ++ xs) (append_assoc (jobs_at v (hands P)) (queued v P) (frame m i ∷ [])
          ∙ ap (λ (xs : List FrameName). jobs_at v (hands P) ++ xs) (sym (comes_here v (frame m i) (queued v P))))));
      few = l.few;
    }

-- the pool drops the next one
line-pool_drop : (s : Setting) (r v m i n z : ℕ) (P : Past) → is_legal s (PoolDrop r v m i n z ∷ P) ≡ true → Line s v P → Line s v (PoolDrop r v m i n z ∷ P)
line-pool_drop s r v m i n z P h l =
    let legal : is_legal s P ≡ true = (and_parts _ _ h).0 in
    let front : queued v P ≡ frame m i ∷ queued v (PoolDrop r v m i n z ∷ P) =
    queue_laws.pool_drop s r v m i n z P (row_of s (PoolDrop r v m i n z) P (λ d. refl) h) in
    let rest : List FrameName = queued v (PoolDrop r v m i n z ∷ P) in
    let T : FrameName → Bool = λ a. same a (frame m i) in
    let before : List FrameName = l.done ++ jobs_at v (hands P) in
    let was : accepted s v P ≡ before ++ frame m i ∷ rest =
    l.all ∙ (sym (append_assoc l.done (jobs_at v (hands P)) (queued v P)) ∙ ap (λ (xs : List FrameName). before ++ xs) front) in
    let once : count T (accepted s v P) ≤ 1 =
    omega (arith, count-filter-le T (λ a. not (list_any (is_dropped_by s v a) P)) (accepts v P), same-le m i (accepts v P), accepts_once-law s P v i legal) in
    let once_there : count T (before ++ frame m i ∷ rest) ≤ 1 = subst (λ (xs : List FrameName). count T xs ≤ 1) was once in
    let out : accepted s v (PoolDrop r v m i n z ∷ P) ≡ before ++ rest =
    drop-here (eqb v v) T (λ a. list_any (is_dropped_by s v a) P) (accepts v P) (eq-eqb v v refl)
    ∙ (ap (filter (λ a. not (T a))) was ∙ one-out T (frame m i) before rest (same_refl (frame m i)) once_there) in
    record { done = l.done; results = l.results; all = out ∙ append_assoc l.done (jobs_at v (hands P)) rest; few = l.few }

-- a take: the next one is the job
line-take : (s : Setting) (v : ℕ) (e : Entry) (a : FrameName) (P : Past) → puts v (e ∷ P) ≡ puts v P → accepted s v (e ∷ P) ≡ accepted s v P
    → hands (e ∷ P) ≡ e ∷ hands P → job_array v (Some e) ≡ a ∷ [] → queued v P ≡ a ∷ queued v (e ∷ P)
    → count (is_job v) (hands P) ≡ 0 → Line s v P → Line s v (e ∷ P)
line-take s v e a P p acc up job front none l =
    let now_jobs : jobs_at v (hands (e ∷ P)) ≡ a ∷ [] =
    ap (jobs_at v) up
    ∙ (ap (λ (xs : List FrameName). xs ++ jobs_at v (hands P)) job ∙ ap (λ (xs : List FrameName). (a ∷ []) ++ xs) (no_jobs v (hands P) none)) in
    same_line s v e P p acc
    (ap (λ (xs : List FrameName). xs ++ queued v (e ∷ P)) now_jobs
    ∙ (sym front ∙ sym (ap (λ (xs : List FrameName). xs ++ queued v P) (no_jobs v (hands P) none))))
    (at_most (is_job v e) (ap (count (is_job v)) up ∙ count-cons (is_job v) e (hands P))) l
  where
    at_most : (b : Bool) → count (is_job v) (hands (e ∷ P)) ≡ bit b + count (is_job v) (hands P) → count (is_job v) (hands (e ∷ P)) ≤ 1
    at_most true is = omega (arith, is, none)
    at_most false is = omega (arith, is, none)

-- a put: the job is worked off
line-put : (s : Setting) (r v m i : ℕ) (f : Bool) (e : Entry) (a : FrameName) (P : Past) → hand r P ≡ Some e → is_job v e ≡ true → job_array v (Some e) ≡ a ∷ []
    → result_name s v a ≡ frame m i → Line s v P → Line s v (Put r v m i f ∷ P)
line-put s r v m i f e a P held job array is l =
    let goes = one_goes v r e (hands P) held job l.few in
    record {
      done = l.done ++ a ∷ [];
      results = comes_here v (frame m i) (puts v P) ∙ (ap (λ (xs : List FrameName). xs ++ frame m i ∷ []) l.results
          ∙ (ap (λ (x : FrameName). map (result_name s v) l.done ++ x ∷ []) (sym is) ∙ sym (map-append (result_name s v) l.done (a ∷ []))));
      all = l.all ∙ (ap (λ (xs : List FrameName). l.done ++ (xs ++ queued v P)) (goes.0 ∙ array)
          ∙ (sym (append_assoc l.done (a ∷ []) (queued v P))
          ∙ ap (λ (xs : List FrameName). (l.done ++ a ∷ []) ++ (xs ++ queued v P)) (sym goes.1)));
      few = omega (arith, l.few, count-let_go-le (is_job v) r (hands P));
    }

-- a reclaim of the job: it is the next one again
line-back : (s : Setting) (r v : ℕ) (e : Entry) (a : FrameName) (P : Past) → hand r P ≡ Some e → is_job v e ≡ true → job_array v (Some e) ≡ a ∷ []
    → queued v (Reclaim r ∷ P) ≡ a ∷ queued v P → Line s v P → Line s v (Reclaim r ∷ P)
line-back s r v e a P held job array back l =
    let goes = one_goes v r e (hands P) held job l.few in
    same_line s v (Reclaim r) P refl refl
    (ap (λ (xs : List FrameName). xs ++ queued v (Reclaim r ∷ P)) goes.1 ∙ (back ∙ sym (ap (λ (xs : List FrameName). xs ++ queued v P) (goes.0 ∙ array))))
    (omega (arith, l.few, count-let_go-le (is_job v) r (hands P))) l

-- any other hand is let go
line-let_go : (s : Setting) (r v : ℕ) (d e : Entry) (P : Past) → hand r P ≡ Some e → is_job v e ≡ false → hands (d ∷ P) ≡ let_go r (hands P)
    → puts v (d ∷ P) ≡ puts v P → accepted s v (d ∷ P) ≡ accepted s v P → queued v (d ∷ P) ≡ queued v P → Line s v P → Line s v (d ∷ P)
line-let_go s r v d e P held other down p acc q l =
    same_line s v d P p acc
    (ap (λ (xs : List FrameName). xs ++ queued v (d ∷ P)) (ap (jobs_at v) down ∙ other_goes v r e (hands P) held other)
    ∙ ap (λ (xs : List FrameName). jobs_at v (hands P) ++ xs) q)
    (omega (arith, l.few, ap (count (is_job v)) down, count-let_go-le (is_job v) r (hands P))) l

-- whoever takes up no job of the node
held_other : (s : Setting) (r v : ℕ) (e : Entry) (P : Past) → takes_up r e ≡ true → is_job v e ≡ false → puts v (e ∷ P) ≡ puts v P
    → accepted s v (e ∷ P) ≡ accepted s v P → queued v (e ∷ P) ≡ queued v P → is_legal s (e ∷ P) ≡ true → Line s v P → Line s v (e ∷ P)
held_other s r v e P up other p a q h l =
    let more = hands-more s r e P up h in
    same_line s v e P p a
    (ap (λ (xs : List FrameName). xs ++ queued v (e ∷ P)) (ap (jobs_at v) more ∙ ap (λ (xs : List FrameName). xs ++ jobs_at v (hands P)) (no_job v e other))
    ∙ ap (λ (xs : List FrameName). jobs_at v (hands P) ++ xs) q)
    (omega (arith, l.few, ap (count (is_job v)) more, count-cons (is_job v) e (hands P), ap bit other)) l

job_is : (v m i : ℕ) → comes_at v v (frame m i) [] ≡ frame m i ∷ []
job_is v m i = comes_here v (frame m i) []

pub line : (s : Setting) (P : Past) (v : ℕ) → is_sorted s v ≡ false → (node s v).threads ≤ 1 → is_legal s P ≡ true → Line s v P
line s [] v plain one h = record { done = []; results = refl; all = refl; few = omega arith }
line s (Accept w m i ∷ P) v plain one h =
    let l = line s P v plain one (and_parts _ _ h).0 in
    elim (cases_Bool (eqb w v)) [
      | inl here ↦
          subst (λ (u : ℕ). is_legal s (Accept u m i ∷ P) ≡ true → Line s v (Accept u m i ∷ P)) (sym (eqb-true w v here))
          (λ g. line-accept s v m i P plain g l) h
      | inr away ↦
          let ne : w ≢ v = eqb-false w v away in
          let D : FrameName → Bool = λ a. list_any (is_dropped_by s v a) P in
          same_line s v (Accept w m i) P refl (ap (filter (λ a. not (D a))) (comes_elsewhere v w (frame m i) (accepts v P) ne))
          (ap (λ (xs : List FrameName). jobs_at v (hands P) ++ xs) (comes_elsewhere v w (frame m i) (queued v P) ne)) l.few l
    ]
line s (PoolDrop r w m i n z ∷ P) v plain one h =
    let l = line s P v plain one (and_parts _ _ h).0 in
    elim (cases_Bool (eqb w v)) [
      | inl here ↦
          subst (λ (u : ℕ). is_legal s (PoolDrop r u m i n z ∷ P) ≡ true → Line s v (PoolDrop r u m i n z ∷ P)) (sym (eqb-true w v here))
          (λ g. line-pool_drop s r v m i n z P g l) h
      | inr away ↦
          same_line s v (PoolDrop r w m i n z) P refl (drop-away (eqb w v) (λ a. same a (frame m i)) (λ a. list_any (is_dropped_by s v a) P) (accepts v P) away)
          (ap (λ (xs : List FrameName). jobs_at v (hands P) ++ xs) (queue_laws.pool_drop_elsewhere r v w m i n z P (eqb-false w v away))) l.few l
    ]
line s (SortDrop w m i ∷ P) v plain one h =
    let l = line s P v plain one (and_parts _ _ h).0 in
    elim (cases_Bool (eqb w v)) [
      | inl here ↦ absurd (omega (arith, no_sort_drops s (SortDrop w m i ∷ P) v plain h, count-cons (is_sort_drop v) (SortDrop w m i) P, ap bit here))
      | inr away ↦
          same_line s v (SortDrop w m i) P refl (drop-away (eqb w v) (λ a. cond (is_maker s v) (eqb a.index i) (same a (frame m i)))
          (λ a. list_any (is_dropped_by s v a) P) (accepts v P) away) refl l.few l
    ]
line s (Take r w m i ∷ P) v plain one h =
    let l = line s P v plain one (and_parts _ _ h).0 in
    elim (cases_Bool (eqb w v)) [
      | inl here ↦ subst (λ (u : ℕ). is_legal s (Take r u m i ∷ P) ≡ true → Line s v (Take r u m i ∷ P)) (sym (eqb-true w v here))
          (λ g. let row = row_of s (Take r v m i) P (λ d. refl) g in
          let facts = ((row_laws.take s P r v m i).0 row).0 in
          line-take s v (Take r v m i) (frame m i) P refl refl (hands-more s r (Take r v m i) P (eq-eqb r r refl) g) (job_is v m i)
          (queue_laws.take s r v m i P row) (omega (arith, facts.room, one)) l) h
      | inr away ↦ held_other s r v (Take r w m i) P (eq-eqb r r refl) away refl refl (queue_laws.take_elsewhere r v w m i P (eqb-false w v away)) h l
    ]
line s (TakeBlock f x r w m i b n g ∷ P) v plain one h =
    let l = line s P v plain one (and_parts _ _ h).0 in
    elim (cases_Bool (eqb w v)) [
      | inl here ↦ subst (λ (u : ℕ). is_legal s (TakeBlock f x r u m i b n g ∷ P) ≡ true → Line s v (TakeBlock f x r u m i b n g ∷ P)) (sym (eqb-true w v here))
          (λ o. let row = row_of s (TakeBlock f x r v m i b n g) P (λ d. refl) o in
          let facts = ((row_laws.take_block s P r v m i b n f g x).0 row).0 in
          line-take s v (TakeBlock f x r v m i b n g) (frame m i) P refl refl (hands-more s r (TakeBlock f x r v m i b n g) P (eq-eqb r r refl) o)
          (job_is v m i) (queue_laws.take_block s r v m i b n f g x P row) (omega (arith, facts.room, one)) l) h
      | inr away ↦
          held_other s r v (TakeBlock f x r w m i b n g) P (eq-eqb r r refl) away refl refl
          (queue_laws.take_block_elsewhere r v w m i b n f g x P (eqb-false w v away)) h l
    ]
line s (Issue r i ∷ P) v plain one h =
    let l = line s P v plain one (and_parts _ _ h).0 in
    let load = (row_laws.issue s P r i).0 (row_of s (Issue r i) P (λ d. refl) h) in
    line-let_go s r v (Issue r i) _ P load.5 refl refl refl refl refl l
line s (Saved r w m i ∷ P) v plain one h =
    let l = line s P v plain one (and_parts _ _ h).0 in
    let piece = (row_laws.saved s P r w m i).0 (row_of s (Saved r w m i) P (λ d. refl) h) in
    line-let_go s r v (Saved r w m i) _ P piece.1 refl refl refl refl refl l
line s (Put r w m i f ∷ P) v plain one h =
    let legal : is_legal s P ≡ true = (and_parts _ _ h).0 in
    let l = line s P v plain one legal in
    let fit = hands-fit s P legal in
    elim (cases_Bool (eqb w v)) [
      | inr away ↦
          let p : puts v (Put r w m i f ∷ P) ≡ puts v P = comes_elsewhere v w (frame m i) (puts v P) (eqb-false w v away) in
          elim ((row_laws.put s P r w m i f).0 (row_of s (Put r w m i f) P (λ d. refl) h)).0 [
            | inl job ↦ line-let_go s r v (Put r w m i f) (Take r w m i) P job away refl p refl refl l
            | inr making ↦ line-let_go s r v (Put r w m i f) (TakeBlock _ _ r w _ i _ _ _) P making.1.6 away refl p refl refl l
          ]
      | inl here ↦ subst (λ (u : ℕ). is_legal s (Put r u m i f ∷ P) ≡ true → Line s v (Put r u m i f ∷ P)) (sym (eqb-true w v here))
          (λ g. elim ((row_laws.put s P r v m i f).0 (row_of s (Put r v m i f) P (λ d. refl) g)).0 [
            | inl job ↦
                line-put s r v m i f (Take r v m i) (frame m i) P job (eq-eqb v v refl) (job_is v m i)
                (result-pass s v m i (not-false (is_maker s v) (found-fits s r (Take r v m i) (hands P) fit job))) l
            | inr making ↦
                line-put s r v m i f (TakeBlock making.1.3 making.1.5 r v making.1.0 i making.1.1 making.1.2 making.1.4) (frame making.1.0 i) P making.1.6
                (eq-eqb v v refl) (job_is v making.1.0 i) (result-make s v making.1.0 m i
                (found-fits s r (TakeBlock making.1.3 making.1.5 r v making.1.0 i making.1.1 making.1.2 making.1.4) (hands P) fit making.1.6) making.0) l
          ]) h
    ]
  where
    not-false : (b : Bool) → not b ≡ true → b ≡ false
    not-false true h = absurd (false≢true h)
    not-false false h = refl
line s (Reclaim r ∷ P) v plain one h =
    let legal : is_legal s P ≡ true = (and_parts _ _ h).0 in
    let e = reclaim_hand s r P h in
    back e.0 e.1 (line s P v plain one legal)
  where
    back : (e : Entry) → hand r P ≡ Some e → Line s v P → Line s v (Reclaim r ∷ P)
    back (Take q w m k) held l =
        elim (cases_Bool (eqb w v)) [
          | inl here ↦
              let at_v : hand r P ≡ Some (Take q v m k) = subst (λ (u : ℕ). hand r P ≡ Some (Take q u m k)) (eqb-true w v here) held in
              line-back s r v (Take q v m k) (frame m k) P at_v (eq-eqb v v refl) (job_is v m k) (queue_laws.reclaim v r q m k P at_v) l
          | inr away ↦ line-let_go s r v (Reclaim r) (Take q w m k) P held away refl refl refl (queue_laws.reclaim_other v r (Take q w m k) P held away) l
        ]
    back (TakeBlock f x q w m k b n g) held l =
        elim (cases_Bool (eqb w v)) [
          | inl here ↦
              let at_v : hand r P ≡ Some (TakeBlock f x q v m k b n g) =
              subst (λ (u : ℕ). hand r P ≡ Some (TakeBlock f x q u m k b n g)) (eqb-true w v here) held in
              line-back s r v (TakeBlock f x q v m k b n g) (frame m k) P at_v (eq-eqb v v refl) (job_is v m k)
              (queue_laws.reclaim_block v r q m k b n f g x P at_v) l
          | inr away ↦
              line-let_go s r v (Reclaim r) (TakeBlock f x q w m k b n g) P held away refl refl refl
              (queue_laws.reclaim_other v r (TakeBlock f x q w m k b n g) P held away) l
        ]
    back e held l = line-let_go s r v (Reclaim r) e P held refl refl refl refl (queue_laws.reclaim_other v r e P held refl) l
line s (Load r k b n f g x ∷ P) v plain one h =
    held_other s r v (Load r k b n f g x) P (eq-eqb r r refl) refl refl refl refl h (line s P v plain one (and_parts _ _ h).0)
line s (Save r w m k g ∷ P) v plain one h =
    held_other s r v (Save r w m k g) P (eq-eqb r r refl) refl refl refl refl h (line s P v plain one (and_parts _ _ h).0)
line s (_ ∷ P) v plain one h = let l = line s P v plain one (and_parts _ _ h).0 in same_line s v _ P refl refl refl l.few l
