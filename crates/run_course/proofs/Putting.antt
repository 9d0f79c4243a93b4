-- What is kept of a run, after a Put.
use Rattle.std.proofs.Common.{◌≡◌, ◌≢◌, ◌≤◌, ◌<◌, ℤ, ◌∙◌, ◌-◌, ℕ, ◌+◌, suc, true, false, Bool, length-append, List, [], ◌∷◌, ◌++◌, Some, length, set, refl}
use Rattle.std.proofs.Common.{sym, ap, subst, arith}
use Rattle.std.specs.Prelude.{slice_get, if◌then◌else◌}
use Rattle.trig_window.specs.Watch.{Watch}
use Rattle.board_rules.specs.InHand.{is_job_on}
use Rattle.flow_journal.specs.ResultNames.{result_name}
use Rattle.run_course.specs.Puts.{job_arrays, passes_all, saves_all}
use Rattle.std.specs.List.{All, flat_map}
use Rattle.std.specs.VecDeque.{deque_capacity}
use Rattle.std.proofs.lemmas.Bool.{ne_eqb, eq-eqb, eqb-true, false≢true}
use Rattle.std.proofs.lemmas.List.Elements.{All-nil}
use Rattle.std.proofs.lemmas.List.{append-nil}
use Rattle.nd_base.specs.declared.frame.FrameName.{FrameName}
use Rattle.flow_journal.specs.declared.entry.Entry.{Entry}
use Rattle.flow_journal.specs.declared.entry.Entry.TheVariants.{Take, TakeBlock, Put}
use Rattle.flow_journal.specs.Setting.{Setting, Work, Makes, Passes, Watches, Saves, node, makes, is_node, is_maker, is_sorted, may_sort}
use Rattle.flow_journal.specs.Pasts.{Past, frame}
use Rattle.flow_journal.specs.Hands.{hand, is_job, is_piece, is_loaded}
use Rattle.flow_journal.specs.Accounts.{block_of, blocks_in_hand}
use Rattle.flow_journal.specs.Breaks.{prev}
use Rattle.flow_journal.specs.Unsaved.{unsaved, is_file, standing_saves}
use Rattle.flow_journal.specs.Puts.{puts}
use Rattle.flow_journal.specs.Histories.{is_legal}
use Rattle.board_rules.specs.States.{plain}
use Rattle.pool_account.specs.Account.{IsAccount}
use Rattle.pool_account.proofs.Laws.{put_laws}
use Rattle.course_parts.specs.declared.hand.Hand.TheVariants.{Free}
use Rattle.course_parts.specs.declared.hand.RoleState.{RoleState}
use Rattle.course_parts.specs.declared.node.NodeState.{NodeState}
use Rattle.run_course.specs.Courses.{Parts, log_of, IsCourse}
use Rattle.flow_journal.specs.Having.{HasBlock}
use Rattle.course_parts.specs.NodeStates.{IsNode, IsRing, list_of, HasRoomToSave}
use Rattle.run_course.proofs.Coursing.{Measuring, apart-more, put-of, none-listed}
use Rattle.run_course.proofs.Elsewhere.{same-put}
use Rattle.run_course.proofs.FactsAfter.{facts-put}
use Rattle.run_course.proofs.FrameBlocks.{blocks-kept}
use Rattle.run_course.proofs.Handed.{HasJob, HasArrays, job-on}
use Rattle.run_course.proofs.Bounds.{puts-short}
use Rattle.run_course.proofs.Finding.{node-is}
use Rattle.flow_journal.proofs.Changes.{job_laws, save_laws, put_laws as node_puts}
use Rattle.flow_journal.proofs.Looks.{sorts_no_file}
use Rattle.run_course.proofs.Here.{here-put}
use Rattle.run_course.proofs.Nodes.{nodes-set}
use Rattle.run_course.proofs.Roles.{role-down}

-- what the node keeps of its results once this one was put
pub record Keeps (measure : Measuring) (s : Setting) (v : ℕ) (P Q : Past) (y : NodeState) : Type 0 where
  pub size : y.list.size ≡ (node s v).sort
  pub last : is_sorted s v ≡ true → y.list.last ≡ prev s v P
  pub waits : y.list.waiting ≡ list_of measure s v Q
  pub ring : IsRing s v Q (node s v).work y.window
  pub kept : y.unsaved.items ≡ unsaved s v Q
  pub room : HasRoomToSave s v y

no-piece : (v w : ℕ) (h : Entry) → is_job v h ≡ true → is_piece w h ≡ false
no-piece v w (Take r u m k) job = refl
no-piece v w (TakeBlock f x r u m k b n g) job = refl
no-piece v w _ job = absurd (false≢true job)

job-elsewhere : (v w : ℕ) (h : Entry) → is_job v h ≡ true → v ≢ w → is_job w h ≡ false
job-elsewhere v w (Take r u m k) job ne = ne_eqb u w (λ e. ne (sym (eqb-true u v job) ∙ e))
job-elsewhere v w (TakeBlock f x r u m k b n g) job ne = ne_eqb u w (λ e. ne (sym (eqb-true u v job) ∙ e))
job-elsewhere v w _ job ne = absurd (false≢true job)

no-load : (v : ℕ) (h : Entry) → is_job v h ≡ true → is_loaded h ≡ false
no-load v (Take r u m k) job = refl
no-load v (TakeBlock f x r u m k b n g) job = refl
no-load v _ job = absurd (false≢true job)

pub put_with : (measure : Measuring) (s : Setting) (k : Parts) (r c m j : ℕ) (f : Bool) (h : Entry) (x : RoleState) (n y : NodeState) (ts : List FrameName)
    → IsCourse measure s k → is_legal s (Put r (suc c) m j f ∷ log_of k) ≡ true → slice_get k.roles r ≡ Some x → slice_get k.nodes c ≡ Some n
    → HasJob (suc c) r (log_of k) h → Keeps measure s (suc c) (log_of k) (Put r (suc c) m j f ∷ log_of k) y
    → IsAccount s (Put r (suc c) m j f ∷ log_of k) (flat_map (block_of (log_of k)) ts) k.pool → All (HasBlock (log_of k)) ts → length ts ≤ 4097
    → IsCourse measure s (record k {
      log = record k.log { told = plain (Put r (suc c) m j f) ∷ k.log.told };
      nodes = set k.nodes c (record n { jobs = n.jobs - 1; puts = n.puts + 1; list = y.list; window = y.window; unsaved = y.unsaved });
      roles = set k.roles r (record x { hand = Free });
      transit = ts;
    })
put_with measure s k r c m j f h x n y ts i legal at here has keeps account standing few =
    let P = log_of k in
    let e = Put r (suc c) m j f in
    record {
      ruled = i.ruled;
      legal = legal;
      nodes =
          nodes-set measure s P (e ∷ P) k.nodes c _ i.nodes (here-put measure s r (suc c) m j f h P n y (i.nodes.each c n here) legal has.held has.job
          (no-piece (suc c) (suc c) h has.job) keeps.size keeps.last keeps.waits keeps.ring keeps.kept keeps.room) (λ v ne. same-put s (suc v) r
          (suc c) m j f h P legal (apart-more ne) has.held (job-elsewhere (suc c) (suc v) h has.job (apart-more ne)) (no-piece (suc c) (suc v) h has.job));
      roles = role-down s r e P k.roles x i.roles at (put-of r (suc c) m j f) legal (eq-eqb r r refl) refl refl;
      account = account;
      standing = standing;
      blocks = blocks-kept s P _ k.blocks i.blocks (λ a. refl);
      facts = i.facts ∙ sym (facts-put s r (suc c) m j f h P legal has.held (no-load (suc c) h has.job));
      log_room = i.log_room;
      reclaims = i.reclaims;
      moving = few;
      transit_room = i.transit_room;
    }

pub some-job : (measure : Measuring) (s : Setting) (k : Parts) (v r : ℕ) (a : FrameName) (n : NodeState) → IsCourse measure s k → is_node s v ≡ true
    → slice_get k.nodes (v - 1) ≡ Some n → is_job_on v a (hand r (log_of k)) ≡ true → 0 < n.jobs
some-job measure s k v r a n i h at on =
    let job = job-on s v r a (log_of k) i.legal on in
    omega (
      arith,
      (node-is measure s k v n i h at).working,
      job_laws.down (is_job v) r job.entry (Put r v 0 0 false) (log_of k) (eq-eqb r r refl) job.has.held job.has.job,
    )

pub few-puts : (measure : Measuring) (s : Setting) (k : Parts) (v : ℕ) (n : NodeState) → IsCourse measure s k → is_node s v ≡ true
    → slice_get k.nodes (v - 1) ≡ Some n → n.puts < 4294967295
few-puts measure s k v n i h at =
    let frames : length s.ids ≤ 65536 = subst (λ (ids : List ℤ). length ids ≤ 65536) i.ruled.ids i.ruled.few_frames in
    omega (arith, (node-is measure s k v n i h at).results, puts-short s (log_of k) v i.legal, frames)

pub few-arrays : (s : Setting) (v : ℕ) (a : FrameName) → length (job_arrays s v a) ≤ 4097
few-arrays s v a = split (is_maker s v) where
  split : (b : Bool) → length (result_name s v a ∷ (if b then a ∷ [] else [])) ≤ 4097
  split true = omega arith
  split false = omega arith

-- A NODE WITHOUT A SORT LIST THAT MAKES OR PASSES ARRAYS ON

no-ring : (s : Setting) (v : ℕ) (P : Past) (w : Work) (x : Watch FrameName) → may_sort w ≡ true → IsRing s v P w x
no-ring s v P Makes x h = tt
no-ring s v P (Passes d) x h = tt
no-ring s v P (Saves g c) x h = tt
no-ring s v P (Watches pre post preset) x h = absurd (false≢true h)

-- a node that isn't a file node has nothing to save
pub none-unsaved : (s : Setting) (v : ℕ) (P : Past) → is_file (node s v).work ≡ false → unsaved s v P ≡ []
none-unsaved s v P h = rw h refl

keeps-none : (measure : Measuring) (s : Setting) (v : ℕ) (P Q : Past) (n : NodeState) → passes_all s v ≡ true → is_sorted s v ≡ false
    → IsNode measure s v P n → Keeps measure s v P Q n
keeps-none measure s v P Q n goes plain_one i =
    let none = sorts_no_file (node s v).work goes in
    record {
      size = i.list_size;
      last = i.last;
      waits = i.waits ∙ (none-listed measure s v P plain_one ∙ sym (none-listed measure s v Q plain_one));
      ring = no-ring s v Q (node s v).work n.window goes;
      kept = i.kept ∙ (none-unsaved s v P none ∙ sym (none-unsaved s v Q none));
      room = i.unsaved_room;
    }

pub put_at_once : (measure : Measuring) (s : Setting) (k : Parts) (r c m j : ℕ) (f : Bool) (h : Entry) (a : FrameName) (x : RoleState) (n : NodeState)
    → IsCourse measure s k → is_legal s (Put r (suc c) m j f ∷ log_of k) ≡ true → slice_get k.roles r ≡ Some x → slice_get k.nodes c ≡ Some n → k.transit ≡ []
    → HasJob (suc c) r (log_of k) h → passes_all s (suc c) ≡ true → is_sorted s (suc c) ≡ false → HasArrays s (suc c) a (log_of k) h
    → IsCourse measure s (record k {
      log = record k.log { told = plain (Put r (suc c) m j f) ∷ k.log.told };
      nodes = set k.nodes c
          (record n { jobs = n.jobs - 1; puts = n.puts + 1 });
      roles = set k.roles r (record x { hand = Free });
      transit = job_arrays s (suc c) a;
    })
put_at_once measure s k r c m j f h a x n i legal at here empty has goes plain_one arrays =
    let P = log_of k in
    let v = suc c in
    put_with measure s k r c m j f h x n n (job_arrays s v a) i legal at here has (keeps-none measure s v P _ n goes plain_one (i.nodes.each c n here))
    (subst (λ bs. IsAccount s (Put r v m j f ∷ P) bs k.pool) (append-nil (blocks_in_hand P h) ∙ sym arrays.blocks)
    (put_laws.plain s P r v m j f h k.pool [] has.held goes plain_one legal
    (subst (λ (ts : List FrameName). IsAccount s P (flat_map (block_of P) ts) k.pool) empty i.account)))
    arrays.standing
    (few-arrays s v a)

-- A FILE NODE
file-facts : (w : Work) → is_file w ≡ true → (makes w ≡ false) × (may_sort w ≡ false)
file-facts Makes h = absurd (false≢true h)
file-facts (Passes d) h = absurd (false≢true h)
file-facts (Watches pre post preset) h = absurd (false≢true h)
file-facts (Saves whole n) h = (refl, refl)

pub file-unsorted : (s : Setting) (v : ℕ) → saves_all s v ≡ true → is_sorted s v ≡ false
file-unsorted s v h = rw (file-facts (node s v).work h).1 refl

pub file-passes : (s : Setting) (v : ℕ) → saves_all s v ≡ true → is_maker s v ≡ false
file-passes s v h = (file-facts (node s v).work h).0

file-ring : (s : Setting) (v : ℕ) (P : Past) (w : Work) (x : Watch FrameName) → is_file w ≡ true → IsRing s v P w x
file-ring s v P Makes x h = tt
file-ring s v P (Passes d) x h = tt
file-ring s v P (Saves g c) x h = tt
file-ring s v P (Watches pre post preset) x h = absurd (false≢true h)

pub put_file : (measure : Measuring) (s : Setting) (k : Parts) (r c m j : ℕ) (f : Bool) (q : ℕ) (x : RoleState) (n y : NodeState) → IsCourse measure s k
    → is_legal s (Put r (suc c) m j f ∷ log_of k) ≡ true → slice_get k.roles r ≡ Some x → slice_get k.nodes c ≡ Some n → k.transit ≡ []
    → hand r (log_of k) ≡ Some (Take q (suc c) m j) → saves_all s (suc c) ≡ true → y.unsaved.items ≡ n.unsaved.items ++ frame m j ∷ []
    → deque_capacity y.unsaved ≡ deque_capacity n.unsaved
    → IsCourse measure s (record k {
      log = record k.log { told = plain (Put r (suc c) m j f) ∷ k.log.told };
      nodes = set k.nodes c (record n { jobs = n.jobs - 1; puts = n.puts + 1; unsaved = y.unsaved });
      roles = set k.roles r (record x { hand = Free });
    })
put_file measure s k r c m j f q x n y i legal at here empty held file items room =
    let P = log_of k in
    let v = suc c in
    let was = i.nodes.each c n here in
    let plain_one = file-unsorted s v file in
    rw empty
    (put_with measure s k r c m j f (Take q v m j) x n (record n { unsaved = y.unsaved }) [] i legal at here (record { held = held; job = eq-eqb v v refl })
    (record {
      size = was.list_size;
      last = was.last;
      waits = was.waits ∙ (none-listed measure s v P plain_one ∙ sym (none-listed measure s v (Put r v m j f ∷ P) plain_one));
      ring = file-ring s v (Put r v m j f ∷ P) (node s v).work n.window file;
      kept = items ∙ (ap (λ xs. xs ++ frame m j ∷ []) was.kept ∙ sym (save_laws.put s r v m j f P i.legal file));
      room = omega (arith, room, was.unsaved_room);
    })
    (put_laws.file s P r q v m j f k.pool [] held file legal
    (subst (λ (ts : List FrameName). IsAccount s P (flat_map (block_of P) ts) k.pool) empty i.account))
    (All-nil (HasBlock P)) (omega arith))

pub unsaved-short : (measure : Measuring) (s : Setting) (k : Parts) (v r m j : ℕ) (f : Bool) (n : NodeState) → IsCourse measure s k → is_node s v ≡ true
    → slice_get k.nodes (v - 1) ≡ Some n → saves_all s v ≡ true → is_legal s (Put r v m j f ∷ log_of k) ≡ true
    → length n.unsaved.items < deque_capacity n.unsaved
unsaved-short measure s k v r m j f n i h at file legal =
    let P = log_of k in
    let was = node-is measure s k v n i h at in
    let all = save_laws.front s v P i.legal file in
    omega (
      arith,
      was.unsaved_room,
      ap length was.kept,
      ap length all,
      length-append (standing_saves v P) (unsaved s v P),
      puts-short s (Put r v m j f ∷ P) v legal,
      ap length (node_puts.array r v m j f P),
      length-append (puts v P) (frame m j ∷ []),
    )

-- AT A NODE
-- The same of a node by its number, where its state stands at the place before.
pub put_at_once_at : (measure : Measuring) (s : Setting) (k : Parts) (v : ℕ) (r c m j : ℕ) (f : Bool) (h : Entry) (a : FrameName) (x : RoleState)
    (n : NodeState) → suc c ≡ v → IsCourse measure s k → is_legal s (Put r v m j f ∷ log_of k) ≡ true → slice_get k.roles r ≡ Some x
    → slice_get k.nodes c ≡ Some n → k.transit ≡ [] → HasJob v r (log_of k) h → passes_all s v ≡ true → is_sorted s v ≡ false → HasArrays s v a (log_of k) h
    → IsCourse measure s (record k {
      log = record k.log { told = plain (Put r v m j f) ∷ k.log.told };
      nodes = set k.nodes c (record n { jobs = n.jobs - 1; puts = n.puts + 1 });
      roles = set k.roles r (record x { hand = Free });
      transit = job_arrays s v a;
    })
put_at_once_at measure s k v r c m j f h a x n is i =
    subst (λ u. is_legal s (Put r u m j f ∷ log_of k) ≡ true → slice_get k.roles r ≡ Some x → slice_get k.nodes c ≡ Some n → k.transit ≡ []
    → HasJob u r (log_of k) h → passes_all s u ≡ true → is_sorted s u ≡ false → HasArrays s u a (log_of k) h → IsCourse measure s
    (record k {
      log = record k.log { told = plain (Put r u m j f) ∷ k.log.told };
      nodes = set k.nodes c (record n { jobs = n.jobs - 1; puts = n.puts + 1 });
      roles = set k.roles r (record x { hand = Free });
      transit = job_arrays s u a;
    })) is (put_at_once measure s k r c m j f h a x n i)

pub put_file_at : (measure : Measuring) (s : Setting) (k : Parts) (v : ℕ) (r c m j : ℕ) (f : Bool) (q : ℕ) (x : RoleState) (n y : NodeState) → suc c ≡ v
    → IsCourse measure s k → is_legal s (Put r v m j f ∷ log_of k) ≡ true → slice_get k.roles r ≡ Some x → slice_get k.nodes c ≡ Some n → k.transit ≡ []
    → hand r (log_of k) ≡ Some (Take q v m j) → saves_all s v ≡ true → y.unsaved.items ≡ n.unsaved.items ++ frame m j ∷ []
    → deque_capacity y.unsaved ≡ deque_capacity n.unsaved
    → IsCourse measure s (record k {
      log = record k.log { told = plain (Put r v m j f) ∷ k.log.told };
      nodes = set k.nodes c (record n { jobs = n.jobs - 1; puts = n.puts + 1; unsaved = y.unsaved });
      roles = set k.roles r (record x { hand = Free });
    })
put_file_at measure s k v r c m j f q x n y is i =
    subst (λ u. is_legal s (Put r u m j f ∷ log_of k) ≡ true → slice_get k.roles r ≡ Some x → slice_get k.nodes c ≡ Some n → k.transit ≡ []
    → hand r (log_of k) ≡ Some (Take q u m j) → saves_all s u ≡ true → y.unsaved.items ≡ n.unsaved.items ++ frame m j ∷ []
    → deque_capacity y.unsaved ≡ deque_capacity n.unsaved → IsCourse measure s (record k {
      log = record k.log { told = plain (Put r u m j f) ∷ k.log.told };
      nodes = set k.nodes c (record n { jobs = n.jobs - 1; puts = n.puts + 1; unsaved = y.unsaved });
      roles = set k.roles r (record x { hand = Free });
    })) is
    (put_file measure s k r c m j f q x n y i)
