-- The move of a put whose result goes out.
use Rattle.std.proofs.Common.{◌≡◌, ◌∙◌, ℕ, true, false, Bool, [], ◌∷◌, refl, sym, ap, drop}
use Rattle.std.proofs.lemmas.Bool.{false≢true}
use Rattle.nd_base.specs.declared.frame.FrameName.{FrameName}
use Rattle.flow_journal.specs.declared.entry.Entry.TheVariants.{Put}
use Rattle.flow_journal.specs.declared.entry.Why.TheVariants.{Plain}
use Rattle.flow_journal.specs.Setting.{Setting, Work, Makes, Passes, Watches, Saves, node, is_sorted, may_sort}
use Rattle.flow_journal.specs.Pasts.{Past, frame}
use Rattle.flow_journal.specs.Following.{emit, result}
use Rattle.flow_journal.specs.Histories.{is_history}
use Rattle.board_rules.specs.States.{BoardState, past, plain}
use Rattle.board_rules.specs.Moving.{moved, with_all}
use Rattle.flow_journal.specs.ResultNames.{result_name}
use Rattle.board_rules.proofs.Moved.{moved-legal}
use Rattle.board_rules.specs.declared.told.Told.{Told}
use Rattle.run_course.specs.Courses.{Coursed}
use Rattle.run_course.specs.Puts.{job_arrays, put_of, fires_for, passes_all}
use Rattle.flow_emit.proofs.Depth.{outs-flat}
use Rattle.run_course.proofs.Handed.{JobOn}
use Rattle.run_course.proofs.PutMoves.{put-first, whole-name}

pub put-whole : (s : Setting) (v r : ℕ) (a : FrameName) (f : Bool) (b : BoardState) → is_history s (past b) ≡ true → JobOn s v r a (past b)
    → f ≡ fires_for s v a → is_history s (past (moved s (plain (put_of s r v a f)) b)) ≡ true
put-whole s v r a f b h job fires = moved-legal s b 0 (plain (put_of s r v a f)) h (put-first s v r a f (past b) job fires)

-- at a node without a sort list that makes or passes arrays on, the result goes out
calls-plain : (s : Setting) (v : ℕ) (a : FrameName) (f : Bool) (P : Past) (w : Work) → may_sort w ≡ true → is_sorted s v ≡ false
    → result s v a f P w ≡ emit v Plain a ∷ []
calls-plain s v a f P Makes goes u = rw u refl
calls-plain s v a f P (Passes d) goes u = rw u refl
calls-plain s v a f P (Watches pre post preset) goes u = absurd (false≢true goes)
calls-plain s v a f P (Saves whole n) goes u = absurd (false≢true goes)

pub moved-at-once : (s : Setting) (r v m k : ℕ) (f : Bool) (b : BoardState) → passes_all s v ≡ true → is_sorted s v ≡ false
    → moved s (plain (Put r v m k f)) b ≡ with_all s 0 2 (emit v Plain (frame m k) ∷ []) (plain (Put r v m k f) ∷ b)
moved-at-once s r v m k f b goes u =
    ap (λ ds. with_all s 0 3 ds (plain (Put r v m k f) ∷ b)) (calls-plain s v (frame m k) f (past b) (node s v).work goes u)
    ∙ outs-flat s 0 1 (emit v Plain (frame m k) ∷ []) (plain (Put r v m k f) ∷ b) refl

pub moved-result : (s : Setting) (v r : ℕ) (a : FrameName) (f : Bool) (b : BoardState) → passes_all s v ≡ true → is_sorted s v ≡ false
    → moved s (plain (put_of s r v a f)) b ≡ with_all s 0 2 (emit v Plain (result_name s v a) ∷ []) (plain (put_of s r v a f) ∷ b)
moved-result s v r a f b goes u =
    moved-at-once s r v (result_name s v a).maker a.index f b goes u
    ∙ ap (λ (n : FrameName). with_all s 0 2 (emit v Plain n ∷ []) (plain (put_of s r v a f) ∷ b)) (whole-name s v a)

-- a course once the result was put and went out, and what is still on its way
pub emitted-put : (s : Setting) (v r : ℕ) (a n : FrameName) (f : Bool) (old mid out : Coursed) → passes_all s v ≡ true
    → is_sorted s v ≡ false → n ≡ result_name s v a
    → mid ≡ record old { told = plain (put_of s r v a f) ∷ old.told; transit = job_arrays s v a }
    → out ≡ record mid { told = with_all s 0 2 (emit v Plain n ∷ []) mid.told; transit = drop 1 mid.transit }
    → out ≡ record old { told = moved s (plain (put_of s r v a f)) old.told; transit = drop 1 (job_arrays s v a) }
emitted-put s v r a n f old mid out goes u is e o =
    let put : Told = plain (put_of s r v a f) in
    let f1 : Coursed → Coursed = λ w. record { told = with_all s 0 2 (emit v Plain n ∷ []) w.told; transit = drop 1 w.transit } in
    let f2 : FrameName → Coursed = λ x. record { told = with_all s 0 2 (emit v Plain x ∷ []) (put ∷ old.told); transit = drop 1 (job_arrays s v a) } in
    let f3 : BoardState → Coursed = λ b. record { told = b; transit = drop 1 (job_arrays s v a) } in
    o ∙ (ap f1 e ∙ (ap f2 is ∙ ap f3 (sym (moved-result s v r a f old.told goes u))))
