-- Which moves are legal where nothing stands against their calls.
use Rattle.std.proofs.Common.{◌≡◌, ◌≤◌, ◌∷◌, ◌∙◌, ℕ, true, false, Bool, ◌&&◌, refl, sym, ap, subst, Some, None, Ok}
use Rattle.std.proofs.lemmas.Bool.{and_parts, false≢true}
use Rattle.nd_base.specs.declared.frame.FrameName.{FrameName}
use Rattle.pool_ledger.specs.Grants.{Granted}
use Rattle.pool_ledger.specs.Grants as pool
use Rattle.flow_journal.specs.declared.entry.Entry.TheVariants.{Load, LoadRefused, Issue, Close, Leave, Take, TakeBlock, PoolDrop, Save, Saved, Reclaim}
use Rattle.flow_journal.specs.Setting.{Setting, last_role, is_maker, node}
use Rattle.flow_journal.specs.Pasts.{Past, frame}
use Rattle.flow_journal.specs.Hands.{hand}
use Rattle.flow_journal.specs.Ended.{is_closed, has_left}
use Rattle.flow_journal.specs.Offered.{next_index}
use Rattle.flow_journal.specs.Queued.{queued}
use Rattle.flow_journal.specs.Unsaved.{unsaved, standing_saves, group_of}
use Rattle.std.proofs.Common.{length}
use Rattle.flow_journal.specs.Accounts.{held, grant}
use Rattle.flow_journal.specs.FirstEntries.{is_next, is_load_of}
use Rattle.flow_journal.specs.Following.{calls_for}
use Rattle.flow_journal.specs.Histories.{is_history, is_legal}
use Rattle.flow_journal.proofs.Histories.{legal-front}
use Rattle.board_rules.specs.declared.answers.Load.TheVariants as load
use Rattle.board_rules.specs.declared.answers.Take.TheVariants as take
use Rattle.board_rules.specs.declared.answers.Save.TheVariants as save
use Rattle.board_rules.specs.declared.answers.Settled.TheVariants as settled
use Rattle.board_rules.specs.declared.told.Told.{Told}
use Rattle.board_rules.specs.declared.answers.Left.{Left}
use Rattle.board_rules.specs.Storage.{lost_of}
use Rattle.board_rules.specs.States.{BoardState, past, plain, lends, loses}
use Rattle.board_rules.specs.Moving.{moved, moved_at}
use Rattle.board_rules.specs.InHand.{hand_node, is_piece_on}
use Rattle.board_rules.specs.Feeding.{waits_to_close, load_refusal}
use Rattle.board_rules.specs.Working.{take_refusal}
use Rattle.board_rules.specs.Saving.{save_refusal}
use Rattle.board_rules.specs.Leaving.{reclaim_refusal}
use Rattle.board_rules.proofs.Legal.{close-by, leave-by, take-by, save-by, saved-by, load-by, may_load, may_take as may_take_facts, reclaim-by}
use Rattle.board_rules.proofs.Moved.{moved-legal, fit-first}
use Rattle.board_rules.proofs.Moves.{followed}
use Rattle.board_rules.proofs.Pasts.{past-append}
use Rattle.run_course.specs.Courses.{Coursed, Parts, log_of}

-- the first entry of a move that is legal as a whole
pub begun : (s : Setting) (b : BoardState) (tick : ℕ) (t : Told) → is_history s (past (moved_at s tick t b)) ≡ true → is_legal s (t.entry ∷ past b) ≡ true
begun s b tick t h =
    let f = followed s tick 3 (calls_for s (past b) t.entry) (t ∷ b) (fit-first s (past b) t.entry) in
    legal-front s (past f.more) (t.entry ∷ past b)
    (subst (λ (P : Past). is_legal s P ≡ true) (ap past f.whole ∙ past-append f.more (t ∷ b)) (and_parts _ _ h).0)

-- what a course is seen as, by its parts
abbrev pub seen : Parts → Coursed
seen k = record { told = k.log.told; transit = k.transit }

-- an entry that is legal after what is seen
after-seen : (s : Setting) (k : Parts) (v : Coursed) (t : Told) → seen k ≡ v → is_history s (past (t ∷ v.told)) ≡ true → is_legal s (t.entry ∷ log_of k) ≡ true
after-seen s k v t is h = subst (λ (w : Coursed). is_legal s (t.entry ∷ past w.told) ≡ true) (sym is) (and_parts _ _ h).0

pub may-close : (s : Setting) (k : Parts) (v : Coursed) (r : ℕ) → seen k ≡ v → is_history s (past v.told) ≡ true → r ≤ last_role s
    → is_closed (past v.told) ≡ false → waits_to_close s (past v.told) ≡ false → is_legal s (Close r ∷ log_of k) ≡ true
may-close s k v r is h role open_ waits =
    after-seen s k v (plain (Close r)) is (close-by s v.told (plain (Close r) ∷ v.told) r settled.Done h role (waits, rw open_ refl))

pub may-leave : (s : Setting) (k : Parts) (v : Coursed) (r : ℕ) → seen k ≡ v → is_history s (past v.told) ≡ true → r ≤ last_role s
    → has_left r (past v.told) ≡ false → is_legal s (Leave r ∷ log_of k) ≡ true
may-leave s k v r is h role stays = after-seen s k v (plain (Leave r)) is (leave-by s v.told (plain (Leave r) ∷ v.told) r h role (rw stays refl))

pub may-take : {F B O : Type 0} (name_of : F → FrameName) (f : F) (s : Setting) (k : Parts) (w : Coursed) (r v : ℕ) → seen k ≡ w → s.pooled ≡ true
    → is_history s (past w.told) ≡ true → r ≤ last_role s → take_refusal {F = F} {B = B} {O = O} s r v (past w.told) ≡ None → is_maker s v ≡ false
    → is_next (name_of f) (queued v (past w.told)) ≡ true → is_legal s (Take r v (name_of f).maker (name_of f).index ∷ log_of k) ≡ true
may-take {F} {B} {O} name_of f s k w r v is pooled h role none passes next =
    let t : Told = lends (Take r v (name_of f).maker (name_of f).index) None in
    after-seen s k w t is
    (take-by {F = F} {B = B} {O = O} name_of (λ (x : F). None) (λ (x : B). 0) s w.told (t ∷ w.told) r v None None (take.Job v f None) pooled h role none
    (rw passes refl) (refl, (next, tt), refl))

pub may-drop : {F B O : Type 0} (s : Setting) (k : Parts) (w : Coursed) (r v : ℕ) (a : FrameName) → seen k ≡ w → s.pooled ≡ true
    → is_history s (past w.told) ≡ true → r ≤ last_role s → take_refusal {F = F} {B = B} {O = O} s r v (past w.told) ≡ None → is_maker s v ≡ true
    → grant s (past w.told) (s.need v) ≡ pool.Refused → is_next a (queued v (past w.told)) ≡ true
    → is_legal s (PoolDrop r v a.maker a.index (s.need v) (held s (past w.told)) ∷ log_of k) ≡ true
may-drop {F} {B} {O} s k w r v a is pooled h role none makes refused next =
    let t : Told = plain (PoolDrop r v a.maker a.index (s.need v) (held s (past w.told))) in
    after-seen s k w t is
    (take-by {F = F} {B = B} {O = O} (λ (x : F). a) (λ (x : F). None) (λ (x : B). 0) s w.told (t ∷ w.told) r v None (Some pool.Refused)
    (take.PoolDrop a.index (held s (past w.told))) pooled h role none (rw makes (ap Some refused)) (refl, (a, next, refl, refl)))

pub may-save : {F : Type 0} (name_of : F → FrameName) (f : F) (s : Setting) (k : Parts) (w : Coursed) (r v : ℕ) → seen k ≡ w → is_history s (past w.told) ≡ true
    → r ≤ last_role s → save_refusal {F = F} s r v (past w.told) ≡ None → is_next (name_of f) (unsaved s v (past w.told)) ≡ true
    → is_legal s (Save r v (name_of f).maker (name_of f).index (group_of (node s v).work (length (standing_saves v (past w.told)))) ∷ log_of k) ≡ true
may-save {F} name_of f s k w r v is h role none next =
    let t : Told = lends (Save r v (name_of f).maker (name_of f).index (group_of (node s v).work (length (standing_saves v (past w.told))))) None in
    after-seen s k w t is
    (save-by {F = F} name_of (λ (x : F). None) s w.told (t ∷ w.told) r v None
    (save.Piece f (group_of (node s v).work (length (standing_saves v (past w.told)))) _ _) h role none (next, tt, refl, refl, refl, refl))

pub may-saved : (s : Setting) (k : Parts) (w : Coursed) (r : ℕ) (a : FrameName) → seen k ≡ w → is_history s (past w.told) ≡ true
    → is_piece_on a (hand r (past w.told)) ≡ true → is_legal s (Saved r (hand_node (hand r (past w.told))) a.maker a.index ∷ log_of k) ≡ true
may-saved s k w r a is h holds =
    let t : Told = plain (Saved r (hand_node (hand r (past w.told))) a.maker a.index) in
    after-seen s k w t is (saved-by {F = FrameName} {E = Unit {0}} (λ (b : FrameName). b) s w.told (t ∷ w.told) r a (Ok tt) h (holds, refl))

pub issue-legal : (s : Setting) (b : BoardState) (r j : ℕ) → is_history s (past b) ≡ true → is_load_of j (hand r (past b)) ≡ true
    → is_history s (past (moved s (plain (Issue r j)) b)) ≡ true
issue-legal s b r j h holds = moved-legal s b 0 (plain (Issue r j)) h holds

pub may-issue : (s : Setting) (k : Parts) (w : Coursed) (r j : ℕ) → seen k ≡ w → is_history s (past w.told) ≡ true → is_load_of j (hand r (past w.told)) ≡ true
    → is_legal s (Issue r j ∷ log_of k) ≡ true
may-issue s k w r j is h holds =
    subst (λ (v : Coursed). is_legal s (Issue r j ∷ past v.told) ≡ true) (sym is) (begun s w.told 0 (plain (Issue r j)) (issue-legal s w.told r j h holds))

pub refuse-legal : {B : Type 0} (s : Setting) (b : BoardState) (r tick : ℕ) → s.pooled ≡ true → is_history s (past b) ≡ true → r ≤ last_role s
    → load_refusal {B = B} s r (past b) ≡ None → grant s (past b) (s.need 0) ≡ pool.Refused
    → is_history s (past (moved_at s tick (plain (LoadRefused r (next_index (past b)) (s.need 0) (held s (past b)))) b)) ≡ true
refuse-legal {B} s b r tick pooled h role none refused =
    load-by {F = FrameName} {B = B} (λ (x : FrameName). None) (λ (x : B). 0) s b
    (moved_at s tick (plain (LoadRefused r (next_index (past b)) (s.need 0) (held s (past b)))) b) r tick None pool.Refused
    (load.Refused (next_index (past b)) (held s (past b))) pooled h role none refused (refl, refl, refl)

pub may-refuse : {B : Type 0} (s : Setting) (k : Parts) (w : Coursed) (r : ℕ) → seen k ≡ w → s.pooled ≡ true → is_history s (past w.told) ≡ true
    → r ≤ last_role s → load_refusal {B = B} s r (past w.told) ≡ None → grant s (past w.told) (s.need 0) ≡ pool.Refused
    → is_legal s (LoadRefused r (next_index (past w.told)) (s.need 0) (held s (past w.told)) ∷ log_of k) ≡ true
may-refuse {B} s k w r is pooled h role none refused =
    let t : Told = plain (LoadRefused r (next_index (past w.told)) (s.need 0) (held s (past w.told))) in
    subst (λ (v : Coursed). is_legal s (t.entry ∷ past v.told) ≡ true) (sym is)
    (begun s w.told 0 t (refuse-legal {B = B} s w.told r 0 pooled h role none refused))

pub may-reclaim : (s : Setting) (k : Parts) (w : Coursed) (r : ℕ) → seen k ≡ w → is_history s (past w.told) ≡ true → reclaim_refusal s r (past w.told) ≡ None
    → is_legal s (Reclaim r ∷ log_of k) ≡ true
may-reclaim s k w r is h none =
    let left : Left FrameName ℕ ℕ = record { input = None; made = None; blank = None } in
    let t : Told = loses r (lost_of (λ (b : FrameName). b) (past w.told) (hand r (past w.told)) left) in
    after-seen s k w t is (reclaim-by {F = FrameName} {B = ℕ} {O = ℕ} {E = Unit {0}} (λ (b : FrameName). b) s w.told (t ∷ w.told) r left (Ok tt) h (none, refl))

-- what stands against a load doesn't hang on the storage
refusal-at : {B C : Type 0} (s : Setting) (r : ℕ) (P : Past) → load_refusal {B = B} s r P ≡ None → load_refusal {B = C} s r P ≡ None
refusal-at {B} {C} s r P none =
    let m = may_load {B = B} s r P none in
    rw (m.stays, m.unloaded, m.free, m.more, m.room) refl

pub load-legal : {B : Type 0} (s : Setting) (old : BoardState) (r tick b n : ℕ) (f : Bool) (g : ℕ) (x : Bool) → s.pooled ≡ true → is_history s (past old) ≡ true
    → r ≤ last_role s → load_refusal {B = B} s r (past old) ≡ None → grant s (past old) (s.need 0) ≡ Granted b n f g → (x && f) ≡ false
    → is_history s (past (moved_at s tick (plain (Load r (next_index (past old)) b n f g x)) old)) ≡ true
load-legal {B} s old r tick b n f g x pooled h role none granted stale =
    load-by {F = FrameName} {B = ℕ} (λ (a : FrameName). None) (λ (z : ℕ). z) s old (moved_at s tick (plain (Load r (next_index (past old)) b n f g x)) old) r
    tick None (Granted b n f g) (load.Loaded (next_index (past old)) n) pooled h role (refusal-at {B = B} {C = ℕ} s r (past old) none) granted
    (refl, refl, (x, (stale, λ tell. absurd (false≢true (tell (frame 0 0)))), refl))

pub may-load-block : {B : Type 0} (s : Setting) (k : Parts) (w : Coursed) (r b n : ℕ) (f : Bool) (g : ℕ) (x : Bool) → seen k ≡ w → s.pooled ≡ true
    → is_history s (past w.told) ≡ true → r ≤ last_role s → load_refusal {B = B} s r (past w.told) ≡ None → grant s (past w.told) (s.need 0) ≡ Granted b n f g
    → (x && f) ≡ false → is_legal s (Load r (next_index (past w.told)) b n f g x ∷ log_of k) ≡ true
may-load-block {B} s k w r b n f g x is pooled h role none granted stale =
    let t : Told = plain (Load r (next_index (past w.told)) b n f g x) in
    subst (λ (v : Coursed). is_legal s (t.entry ∷ past v.told) ≡ true) (sym is)
    (begun s w.told 0 t (load-legal {B = B} s w.told r 0 b n f g x pooled h role none granted stale))

take-at : {F B C O : Type 0} (s : Setting) (r v : ℕ) (P : Past) → take_refusal {F = F} {B = B} {O = O} s r v P ≡ None
    → take_refusal {F = F} {B = C} {O = O} s r v P ≡ None
take-at {F} {B} {C} {O} s r v P none =
    let m = may_take_facts {F = F} {B = B} {O = O} s r v P none in
    rw (m.stays, m.free, m.unsettled, m.some, m.idle) refl

pub may-take-block : {F B O : Type 0} (name_of : F → FrameName) (f : F) (s : Setting) (k : Parts) (w : Coursed) (r v b n : ℕ) (fresh : Bool) (g : ℕ) (x : Bool)
    → seen k ≡ w → s.pooled ≡ true → is_history s (past w.told) ≡ true → r ≤ last_role s → take_refusal {F = F} {B = B} {O = O} s r v (past w.told) ≡ None
    → is_maker s v ≡ true → grant s (past w.told) (s.need v) ≡ Granted b n fresh g → (x && fresh) ≡ false → is_next (name_of f) (queued v (past w.told)) ≡ true
    → is_legal s (TakeBlock fresh x r v (name_of f).maker (name_of f).index b n g ∷ log_of k) ≡ true
may-take-block {F} {B} {O} name_of f s k w r v b n fresh g x is pooled h role none makes granted stale next =
    let t : Told = lends (TakeBlock fresh x r v (name_of f).maker (name_of f).index b n g) None in
    after-seen s k w t is
    (take-by {F = F} {B = ℕ} {O = O} name_of (λ (a : F). None) (λ (z : ℕ). z) s w.told (t ∷ w.told) r v None (Some (Granted b n fresh g))
    (take.Job v f (Some n)) pooled h role (take-at {F = F} {B = B} {C = ℕ} {O = O} s r v (past w.told) none) (rw makes (ap Some granted))
    (refl, (next, tt), refl, (x, (stale, λ tell. absurd (false≢true (tell f))), refl)))
