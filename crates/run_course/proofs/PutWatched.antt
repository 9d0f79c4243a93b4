-- What is kept of a run, after a Put at a circular node, and what the put calls for.
use Rattle.std.proofs.Common.{◌≡◌, ◌∙◌, ◌-◌, ◌+◌, ℕ, suc, true, false, Bool, cond, List, [], ◌∷◌, ◌++◌, Some, length, map, set, refl, sym, ap, subst, arith, length-append}
use Rattle.std.specs.Prelude.{slice_get}
use Rattle.std.specs.List.{All, flat_map}
use Rattle.std.proofs.lemmas.Bool.{true≢false}
use Rattle.std.proofs.lemmas.List.{map-id, append-nil, take_at}
use Rattle.std.proofs.lemmas.List.Concat.{flat_map-append}
use Rattle.std.proofs.lemmas.List.Elements.{All-head, All-push, All-take}
use Rattle.nd_base.specs.declared.frame.FrameName.{FrameName}
use Rattle.trig_window.specs.Windows.{is_trigger, is_passed, kept}
use Rattle.trig_window.specs.Watch.{Watch}
use Rattle.trig_window.specs.Watching.{IsAfter}
use Rattle.flow_journal.specs.declared.entry.Entry.{Entry}
use Rattle.flow_journal.specs.declared.entry.Entry.TheVariants.{Take, Put}
use Rattle.flow_journal.specs.declared.entry.Why.TheVariants.{Ring, Now}
use Rattle.flow_journal.specs.AccountLaws.{times_among}
use Rattle.flow_journal.specs.Setting.{Setting, Work, Watches, node}
use Rattle.flow_journal.specs.Pasts.{Past, frame}
use Rattle.flow_journal.specs.Accounts.{block_of}
use Rattle.flow_journal.specs.Ended.{is_settled}
use Rattle.flow_journal.specs.Puts.{puts, firings}
use Rattle.flow_journal.specs.Rings.{ring}
use Rattle.flow_journal.specs.Following.{emit, result, calls_for}
use Rattle.flow_journal.specs.Histories.{is_legal}
use Rattle.flow_journal.proofs.Changes.{ring_laws}
use Rattle.flow_journal.proofs.Steps.{comes_here}
use Rattle.flow_journal.specs.ResultNames.{result_name}
use Rattle.board_rules.specs.States.{plain}
use Rattle.pool_account.specs.Account.{IsAccount, SameTimes}
use Rattle.pool_account.proofs.Carrying.{times-append}
use Rattle.pool_account.proofs.Laws.{put_laws}
use Rattle.run_course.specs.Courses.{Parts, log_of, IsCourse}
use Rattle.flow_journal.specs.Having.{HasBlock}
use Rattle.course_parts.specs.NodeStates.{IsRing}
use Rattle.run_course.specs.Puts.{put_of, job_arrays, watches}
use Rattle.course_parts.specs.Windows.{IsWatched, ComesOut}
use Rattle.run_course.specs.Watched.{IsOnItsWay, ring_outs, why_out}
use Rattle.course_parts.specs.declared.moving.Watched.{Watched}
use Rattle.course_parts.specs.declared.moving.Watched.TheVariants as watched
use Rattle.course_parts.specs.declared.hand.Hand.TheVariants.{Free}
use Rattle.course_parts.specs.declared.hand.RoleState.{RoleState}
use Rattle.course_parts.specs.declared.node.NodeState.{NodeState}
use Rattle.run_course.proofs.Coursing.{Measuring, none-listed}
use Rattle.run_course.proofs.Handed.{JobOn, taken-as, has-arrays}
use Rattle.run_course.proofs.Having.{ring-blocks}
use Rattle.run_course.proofs.Putting.{put_with, none-unsaved}
use Rattle.run_course.proofs.RingWindows.{WindowAt, watch-facts, watch-passes, watch-unsorted, watch-rule, window-at}
use Rattle.course_parts.specs.declared.moving.Watched.TheVariants.{LetGo, Out}

-- WHAT GOES OUT
pub ring-outs-last : (v : ℕ) (xs : List FrameName) (a : FrameName) → ring_outs v (xs ++ a ∷ []) ≡ map (emit v Ring) xs ++ emit v Now a ∷ []
ring-outs-last v [] a = refl
ring-outs-last v (x ∷ xs) a = ap (λ (ds : List Entry). emit v (why_out (xs ++ a ∷ [])) x ∷ ds) (ring-outs-last v xs a) ∙ split xs where
  split : (ys : List FrameName)
      → emit v (why_out (ys ++ a ∷ [])) x ∷ map (emit v Ring) xs ++ emit v Now a ∷ [] ≡ emit v Ring x ∷ map (emit v Ring) xs ++ emit v Now a ∷ []
  split [] = refl
  split (y ∷ ys) = refl

-- and after a put
ring-then : (s : Setting) (r v : ℕ) (a : FrameName) (f : Bool) (P : Past) (old new : Watch FrameName) (out : List FrameName) (q : Watched) → WindowAt s v P old
    → is_settled v P ≡ false → IsWatched (firings v P) (puts v P) f a old new out q → IsRing s v (Put r v a.maker a.index f ∷ P) (node s v).work new
ring-then s r v a f P old new out q at running w =
    let Q : Past = Put r v a.maker a.index f ∷ P in
    let rule : (node s v).work ≡ Watches new.pre new.post new.preset = at.rule ∙ rw (w.rule.0, w.rule.1, w.rule.2) refl in
    let flags : firings v Q ≡ firings v P ++ f ∷ [] = comes_here v f (firings v P) in
    let names : puts v Q ≡ puts v P ++ a ∷ [] = comes_here v a (puts v P) in
    subst (λ (x : Work). IsRing s v Q x new) (sym rule) (
      λ h. record {
        rule = rule;
        names = map-id (puts v Q);
        after = subst (IsAfter new) (sym flags) w.stands.after;
        ring =
            w.stands.ring
            ∙ (ap (λ fs. kept new.pre new.post new.preset fs (puts v P ++ a ∷ [])) (sym flags)
            ∙ ap (kept new.pre new.post new.preset (firings v Q)) (sym names));
      },
      λ settled. absurd (true≢false (sym settled ∙ running)),
      w.stands.pending,
    )

All-front : {X : Type 0} (Q : X → Type 0) (xs ys : List X) → All Q (xs ++ ys) → All Q xs
All-front Q xs ys all = subst (All Q) (take_at xs ys (length xs) refl) (All-take Q (length xs) (xs ++ ys) all)

-- the put of an array of a job on it
pub record WatchedPut (measure : Measuring) (s : Setting) (k : Parts) (v c r : ℕ) (a : FrameName) (f : Bool) (x : RoleState) (n y : NodeState)
    (out : List FrameName) (q : Watched) : Type 0 where
  pub here : slice_get k.nodes c ≡ Some n
  pub role : slice_get k.roles r ≡ Some x
  pub legal : is_legal s (put_of s r v a f ∷ log_of k) ≡ true
  pub empty : k.transit ≡ []
  pub job : JobOn s v r a (log_of k)
  pub kind : watches s v ≡ true
  pub running : is_settled v (log_of k) ≡ false
  pub watched : IsWatched (firings v (log_of k)) (puts v (log_of k)) f a n.window y.window out q

put_in_ring : (measure : Measuring) (s : Setting) (k : Parts) (c r : ℕ) (a : FrameName) (f : Bool) (x : RoleState) (n y : NodeState) (out : List FrameName)
    (q : Watched) → IsCourse measure s k → WatchedPut measure s k (suc c) c r a f x n y out q
    → IsCourse measure s (record k {
      log = record k.log { told = plain (Put r (suc c) a.maker a.index f) ∷ k.log.told };
      nodes = set k.nodes c
          (record n { jobs = n.jobs - 1; puts = n.puts + 1; window = y.window });
      roles = set k.roles r (record x { hand = Free });
      transit = out;
    })
put_in_ring measure s k c r a f x n y out q i p =
    let v = suc c in
    let P = log_of k in
    let Q : Past = Put r v a.maker a.index f ∷ P in
    let was = i.nodes.each c n p.here in
    let facts = watch-facts (node s v).work p.kind in
    let plain_one = watch-unsorted s v p.kind in
    let name : result_name s v a ≡ a = rw facts.0 refl in
    let alone : job_arrays s v a ≡ a ∷ [] = rw facts.0 refl in
    let legal : is_legal s Q ≡ true = subst (λ (b : FrameName). is_legal s (Put r v b.maker a.index f ∷ P) ≡ true) name p.legal in
    let taken = taken-as s v r a P p.job facts.0 in
    let arrays = has-arrays s v r a P p.job.entry i.legal p.job.has.held p.job.kind in
    let at = window-at measure s k v n i was p.kind p.running in
    let w = p.watched in
    let ring_is : IsRing s v Q (node s v).work y.window = ring-then s r v a f P n.window y.window out q at p.running w in
    let rule = watch-rule s v p.kind in
    let then : y.window.ring ≡ ring s v Q = ring-after s v Q rule.pre rule.post rule.preset y.window rule.rule p.running ring_is in
    let whole : out ++ ring s v Q ≡ ring s v P ++ a ∷ [] = ap (λ xs. out ++ xs) (sym then) ∙ (w.whole ∙ ap (λ xs. xs ++ a ∷ []) at.ring) in
    let account : IsAccount s P [] k.pool =
    subst (λ (ts : List FrameName). IsAccount s P (flat_map (block_of P) ts) k.pool) p.empty i.account in
    let has : HasBlock P a = All-head (HasBlock P) a [] (subst (All (HasBlock P)) alone arrays.standing) in
    put_with measure s k r c a.maker a.index f p.job.entry x n (record n { window = y.window }) out i legal p.role p.here p.job.has
    (record {
      size = was.list_size;
      last = was.last;
      waits = was.waits ∙ (none-listed measure s v P plain_one ∙ sym (none-listed measure s v Q plain_one));
      ring = ring_is;
      kept = was.kept ∙ (none-unsaved s v P facts.2 ∙ sym (none-unsaved s v Q facts.2));
      room = was.unsaved_room;
    })
    (put_laws.watched s P r v a.maker a.index f rule.pre rule.post rule.preset (Take taken.0 v a.maker a.index) k.pool []
    (flat_map (block_of P) out) taken.1 rule.rule (same-blocks P a out (ring s v Q) (ring s v P) whole) legal account)
    (All-front (HasBlock P) out (ring s v Q) (subst (All (HasBlock P)) (sym whole) (All-push (HasBlock P) (ring s v P) a (ring-blocks s v P i.legal) has)))
    (omega (arith, ap length w.whole, length-append out y.window.ring, length-append n.window.ring (a ∷ []), at.few))
  where
    ring-after : (s : Setting) (v : ℕ) (Q : Past) (pre post preset : ℕ) (w : Watch FrameName) → (node s v).work ≡ Watches pre post preset
        → is_settled v Q ≡ false → IsRing s v Q (node s v).work w → w.ring ≡ ring s v Q
    ring-after s v Q pre post preset w rule running h =
        let is : IsRing s v Q (Watches pre post preset) w = subst (λ (u : Work). IsRing s v Q u w) rule h in
        let o = is.0 running in
        o.ring ∙ sym (ring_laws.kept_is s v Q w.pre w.post w.preset o.rule running)

    same-blocks : (P : Past) (a : FrameName) (out after before : List FrameName) → out ++ after ≡ before ++ a ∷ []
        → SameTimes (flat_map (block_of P) out ++ flat_map (block_of P) after) (block_of P a ++ flat_map (block_of P) before ++ [])
    same-blocks P a out after before is b =
        let g = flat_map (block_of P) in
        let left : g out ++ g after ≡ g before ++ (block_of P a ++ []) =
        sym (flat_map-append (block_of P) out after) ∙ (ap g is ∙ flat_map-append (block_of P) before (a ∷ [])) in
        omega (
          arith,
          ap (times_among b) left,
          times-append b (g before) (block_of P a ++ []),
          ap (times_among b) (append-nil (block_of P a)),
          times-append b (block_of P a ++ g before) [],
          times-append b (block_of P a) (g before),
        )

-- the same of a node by its number
pub put_in_ring_at : (measure : Measuring) (s : Setting) (k : Parts) (v c r : ℕ) (a : FrameName) (f : Bool) (x : RoleState) (n y : NodeState)
    (out : List FrameName) (q : Watched) → suc c ≡ v → IsCourse measure s k → WatchedPut measure s k v c r a f x n y out q
    → IsCourse measure s (record k {
      log = record k.log { told = plain (Put r v a.maker a.index f) ∷ k.log.told };
      nodes = set k.nodes c
          (record n { jobs = n.jobs - 1; puts = n.puts + 1; window = y.window });
      roles = set k.roles r (record x { hand = Free });
      transit = out;
    })
put_in_ring_at measure s k v c r a f x n y out q is i =
    subst (λ u. WatchedPut measure s k u c r a f x n y out q
    → IsCourse measure s (record k {
      log = record k.log { told = plain (Put r u a.maker a.index f) ∷ k.log.told };
      nodes = set k.nodes c
          (record n { jobs = n.jobs - 1; puts = n.puts + 1; window = y.window });
      roles = set k.roles r (record x { hand = Free });
      transit = out;
    })) is
    (put_in_ring measure s k c r a f x n y out q i)

-- WHAT IT CALLS FOR
calls-watched : (s : Setting) (v : ℕ) (a : FrameName) (f : Bool) (P : Past) (old : Watch FrameName) → WindowAt s v P old
    → result s v a f P (node s v).work ≡ map (emit v Ring) (cond (is_trigger old.post old.preset (firings v P ++ f ∷ []) (length (firings v P))) old.ring [])
    ++ cond (is_passed old.pre old.post old.preset (firings v P ++ f ∷ []) (length (firings v P))) (emit v Now a ∷ []) []
calls-watched s v a f P old at =
    let last = cond (is_passed old.pre old.post old.preset (firings v P ++ f ∷ []) (length (firings v P))) (emit v Now a ∷ []) [] in
    let fires : Bool = is_trigger old.post old.preset (firings v P ++ f ∷ []) (length (firings v P)) in
    ap (result s v a f P) at.rule
    ∙ (ap (λ (xs : List FrameName). cond fires (map (emit v Ring) xs) [] ++ last) (sym at.ring)
    ∙ ap (λ (ds : List Entry). ds ++ last) (split fires))
  where
    split : (b : Bool) → cond b (map (emit v Ring) old.ring) [] ≡ map (emit v Ring) (cond b old.ring [])
    split true = refl
    split false = refl

pub calls-on-way : (s : Setting) (v r : ℕ) (a : FrameName) (f : Bool) (P : Past) (old new : Watch FrameName) (out : List FrameName) (q : Watched)
    → watches s v ≡ true → WindowAt s v P old → IsWatched (firings v P) (puts v P) f a old new out q → IsOnItsWay v (calls_for s P (put_of s r v a f)) out q
calls-on-way s v r a f P old new out q kind at w =
    let passes = is_passed old.pre old.post old.preset (firings v P ++ f ∷ []) (length (firings v P)) in
    let called = cond (is_trigger old.post old.preset (firings v P ++ f ∷ []) (length (firings v P))) old.ring [] in
    let name : result_name s v a ≡ a = rw (watch-passes s v kind) refl in
    let calls : calls_for s P (put_of s r v a f) ≡ map (emit v Ring) called ++ cond passes (emit v Now a ∷ []) [] =
    ap (λ (b : FrameName). result s v (frame b.maker a.index) f P (node s v).work) name ∙ calls-watched s v a f P old at in
    by q passes called calls w.comes
  where
    nothing : (passes : Bool) (called : List FrameName) (calls : List Entry) → calls ≡ map (emit v Ring) called ++ cond passes (emit v Now a ∷ []) []
        → passes ≡ false → called ≡ [] → calls ≡ []
    nothing passes called calls is none empty =
        is ∙ (ap (λ b. map (emit v Ring) called ++ cond b (emit v Now a ∷ []) []) none ∙ ap (λ xs. map (emit v Ring) xs ++ []) empty)

    by : (q : Watched) (passes : Bool) (called : List FrameName)
        → calls_for s P (put_of s r v a f) ≡ map (emit v Ring) called ++ cond passes (emit v Now a ∷ []) [] → ComesOut passes called a out q
        → IsOnItsWay v (calls_for s P (put_of s r v a f)) out q
    by watched.Kept passes called is h = (nothing passes called _ is h.0 h.1, h.2)
    by watched.LetGo passes called is h = (nothing passes called _ is h.0 h.1, h.2)
    by watched.Out passes called is h =
        is ∙ (ap (λ b. map (emit v Ring) called ++ cond b (emit v Now a ∷ []) []) h.0 ∙ (sym (ring-outs-last v called a) ∙ ap (ring_outs v) (sym h.1)))
