-- The move of a put at a node with a sort list.
use Rattle.std.proofs.Common.{◌≡◌, ◌<◌, ◌∙◌, ℕ, true, false, Bool, List, [], ◌∷◌, length, map, drop, sym, ap, subst, arith}
use Rattle.std.proofs.lemmas.Bool.{ne_eqb}
use Rattle.nd_base.specs.declared.frame.FrameName.{FrameName}
use Rattle.queue_sort.specs.Sorting.{keeps_step}
use Rattle.flow_journal.specs.declared.entry.Entry.{Entry}
use Rattle.flow_journal.specs.declared.entry.Entry.TheVariants.{Emit, SortDrop, Full}
use Rattle.flow_journal.specs.declared.entry.Why.TheVariants.{Step}
use Rattle.flow_journal.specs.Setting.{Setting, node, id_at, is_sorted}
use Rattle.flow_journal.specs.Pasts.{Past, frame}
use Rattle.flow_journal.specs.Breaks.{prev}
use Rattle.flow_journal.specs.Turns.{offered_to}
use Rattle.flow_journal.specs.Waiting.{waiting}
use Rattle.flow_journal.specs.Following.{offer, look}
use Rattle.flow_journal.specs.Histories.{is_legal}
use Rattle.flow_journal.proofs.Looks.{look_laws}
use Rattle.flow_journal.specs.ResultNames.{result_name}
use Rattle.board_rules.specs.Moving.{moved, with_all}
use Rattle.board_rules.specs.States.{BoardState, past, plain}
use Rattle.run_course.specs.Courses.{Coursed}
use Rattle.flow_emit.specs.Emissions.{before_emission}
use Rattle.run_course.specs.Placing.{IsPlaced}
use Rattle.run_course.specs.Puts.{put_of, inputs}
use Rattle.course_parts.specs.declared.results.Placement.TheVariants.{Out, Waits, Full}
use Rattle.flow_emit.proofs.Depth.{outs-flat}
use Rattle.flow_emit.proofs.Waits.{look-offers}
use Rattle.run_course.proofs.PutMoves.{whole-name}
use Rattle.flow_emit.proofs.Ticking.{look-outs}

-- the result goes out, with its offers, and then comes a look
pub moved-out : (s : Setting) (v r : ℕ) (a made : FrameName) (f : Bool) (b : BoardState) → is_sorted s v ≡ true → is_legal s (put_of s r v a f ∷ past b) ≡ true
    → keeps_step (prev s v (past b)) (id_at s a.index) ≡ true → made ≡ result_name s v a
    → (let e : Entry = Emit v (result_name s v a).maker a.index Step in
    let d : BoardState = with_all s 0 1 (map (offer made) (offered_to s (put_of s r v a f ∷ past b) v)) (plain e ∷ plain (put_of s r v a f) ∷ b) in
    moved s (plain (put_of s r v a f)) b ≡ with_all s 0 2 (look s v (past d)) d)
moved-out s v r a made f b sorted legal step is =
    let m = (result_name s v a).maker in
    let P = past b in
    let Q : Past = put_of s r v a f ∷ P in
    let e : Entry = Emit v m a.index Step in
    let b1 : BoardState = plain (put_of s r v a f) ∷ b in
    let b2 : BoardState = plain e ∷ b1 in
    let ds : List Entry = look s v (e ∷ Q) in
    let after : FrameName → BoardState = λ n. with_all s 0 1 (map (offer n) (offered_to s Q v)) b2 in
    let name : frame m a.index ≡ made = whole-name s v a ∙ sym is in
    ap (λ (xs : List Entry). with_all s 0 3 xs b1) (look_laws.put_steps s r v m a.index f P sorted legal step)
    ∙ (outs-flat s 0 1 (e ∷ ds) b1 (look-outs s v (e ∷ Q))
    ∙ (ap (λ (n : FrameName). with_all s 0 2 ds (after n)) name
    ∙ ap (λ (xs : List Entry). with_all s 0 2 xs (after made)) (sym (look-offers s v made (offered_to s Q v) b2))))

-- it is dropped, and then comes a look
pub moved-full : (s : Setting) (v r : ℕ) (a : FrameName) (f : Bool) (b : BoardState) → is_sorted s v ≡ true → is_legal s (put_of s r v a f ∷ past b) ≡ true
    → keeps_step (prev s v (past b)) (id_at s a.index) ≡ false → length (waiting s v (past b)) ≡ (node s v).sort
    → (let d : BoardState = plain (SortDrop v (result_name s v a).maker a.index) ∷ plain (put_of s r v a f) ∷ b in
    moved s (plain (put_of s r v a f)) b ≡ with_all s 0 2 (look s v (past d)) d)
moved-full s v r a f b sorted legal step full =
    let m = (result_name s v a).maker in
    let P = past b in
    let Q : Past = put_of s r v a f ∷ P in
    let e : Entry = SortDrop v m a.index in
    let b1 : BoardState = plain (put_of s r v a f) ∷ b in
    ap (λ (xs : List Entry). with_all s 0 3 xs b1) (look_laws.put_full s r v m a.index f P sorted legal step full)
    ∙ outs-flat s 0 1 (e ∷ look s v (e ∷ Q)) b1 (look-outs s v (e ∷ Q))

-- it waits, and then comes a look
pub moved-waits : (s : Setting) (v r : ℕ) (a : FrameName) (f : Bool) (b : BoardState) → is_sorted s v ≡ true → is_legal s (put_of s r v a f ∷ past b) ≡ true
    → keeps_step (prev s v (past b)) (id_at s a.index) ≡ false → length (waiting s v (past b)) < (node s v).sort
    → (let d : BoardState = plain (put_of s r v a f) ∷ b in
    moved s (plain (put_of s r v a f)) b ≡ with_all s 0 2 (look s v (past d)) d)
moved-waits s v r a f b sorted legal step short =
    let m = (result_name s v a).maker in
    let P = past b in
    let b1 : BoardState = plain (put_of s r v a f) ∷ b in
    ap (λ (xs : List Entry). with_all s 0 3 xs b1)
    (look_laws.put_waits s r v m a.index f P sorted legal step (ne_eqb (length (waiting s v P)) (node s v).sort (λ e. absurd (omega (arith, e, short)))))
    ∙ outs-flat s 0 1 (look s v (past b1)) b1 (look-outs s v (past b1))

-- A LOOK IS LEFT
-- so much of the move was made that its look is left, and a maker's input to be let go
pub record LookLeft (s : Setting) (v r : ℕ) (a : FrameName) (f : Bool) (old new : Coursed) : Type 0 where
  pub carried : new.transit ≡ inputs s v a
  pub rest : moved s (plain (put_of s r v a f)) old.told ≡ with_all s 0 2 (look s v (past new.told)) new.told

pub left-out : (s : Setting) (v r : ℕ) (a made : FrameName) (f : Bool) (old mid new : Coursed) → is_sorted s v ≡ true
    → is_legal s (put_of s r v a f ∷ past old.told) ≡ true → made ≡ result_name s v a → IsPlaced s r v a f old mid Out
    → new ≡ record mid { told = with_all s 0 1 (map (offer made) (offered_to s (before_emission mid.told) v)) mid.told; transit = drop 1 mid.transit }
    → LookLeft s v r a f old new
left-out s v r a made f old mid new sorted legal is q o =
    let e : BoardState = plain (Emit v (result_name s v a).maker a.index Step) ∷ plain (put_of s r v a f) ∷ old.told in
    let after : BoardState → BoardState = λ d. with_all s 0 1 (map (offer made) (offered_to s (before_emission d) v)) d in
    let told : new.told ≡ after e = ap (λ (w : Coursed). w.told) o ∙ ap after (ap (λ (w : Coursed). w.told) q.1) in
    record {
      carried = ap (λ (w : Coursed). w.transit) o ∙ ap (λ (w : Coursed). drop 1 w.transit) q.1;
      rest = moved-out s v r a made f old.told sorted legal q.0 is ∙ ap (λ (d : BoardState). with_all s 0 2 (look s v (past d)) d) (sym told);
    }

pub left-waits : (s : Setting) (v r : ℕ) (a : FrameName) (f : Bool) (old new : Coursed) → is_sorted s v ≡ true
    → is_legal s (put_of s r v a f ∷ past old.told) ≡ true → IsPlaced s r v a f old new Waits → LookLeft s v r a f old new
left-waits s v r a f old new sorted legal q =
    record {
      carried = ap (λ (w : Coursed). w.transit) q.2;
      rest = moved-waits s v r a f old.told sorted legal q.0 q.1 ∙ ap (λ (w : Coursed). with_all s 0 2 (look s v (past w.told)) w.told) (sym q.2);
    }

pub left-full : (s : Setting) (v r : ℕ) (a : FrameName) (f : Bool) (old mid new : Coursed) → is_sorted s v ≡ true
    → is_legal s (put_of s r v a f ∷ past old.told) ≡ true → IsPlaced s r v a f old mid Full
    → new ≡ record mid { transit = drop 1 mid.transit } → LookLeft s v r a f old new
left-full s v r a f old mid new sorted legal q o =
    record {
      carried = ap (λ (w : Coursed). w.transit) o ∙ ap (λ (w : Coursed). drop 1 w.transit) q.2;
      rest =
          moved-full s v r a f old.told sorted legal q.0 q.1
          ∙ ap (λ (w : Coursed). with_all s 0 2 (look s v (past w.told)) w.told)
          (sym (ap (λ (w : Coursed). record w { transit = drop 1 w.transit }) q.2) ∙ sym o);
    }

-- the look is legal where the move is
pub left-legal : (s : Setting) (v r : ℕ) (a : FrameName) (f : Bool) (old new ri : Coursed) → LookLeft s v r a f old new → ri ≡ record new { transit = [] }
    → is_legal s (past (moved s (plain (put_of s r v a f)) old.told)) ≡ true → is_legal s (past (with_all s 0 2 (look s v (past ri.told)) ri.told)) ≡ true
left-legal s v r a f old new ri left o legal =
    subst (λ (w : Coursed). is_legal s (past (with_all s 0 2 (look s v (past w.told)) w.told)) ≡ true) (sym o)
    (subst (λ (d : BoardState). is_legal s (past d) ≡ true) left.rest legal)

-- and then the move is made
pub left-looked : (s : Setting) (v r : ℕ) (a : FrameName) (f : Bool) (old new ri lk : Coursed) → LookLeft s v r a f old new → ri ≡ record new { transit = [] }
    → lk ≡ record ri { told = with_all s 0 2 (look s v (past ri.told)) ri.told } → old.transit ≡ []
    → lk ≡ record old { told = moved s (plain (put_of s r v a f)) old.told }
left-looked s v r a f old new ri lk left o l still =
    let whole : BoardState = moved s (plain (put_of s r v a f)) old.told in
    let look_at : Coursed → Coursed = λ w. record w { told = with_all s 0 2 (look s v (past w.told)) w.told } in
    l ∙ (ap look_at o
    ∙ (ap (λ (b : BoardState). (let w : Coursed = record { told = b; transit = [] } in w)) (sym left.rest)
    ∙ ap (λ (ts : List FrameName). (let w : Coursed = record { told = whole; transit = ts } in w)) (sym still)))
