-- What comes out of a window at a push, and what a circular node then lets out.
use Rattle.std.proofs.Common.{◌≡◌, ◌≤◌, ◌<◌, ◌∙◌, ℕ, Bool, true, List, [], ◌∷◌, length, take, drop, Some, refl, sym, ap, subst, arith}
use Rattle.std.specs.List.{list_all}
use Rattle.std.specs.Prelude.{slice_get}
use Rattle.nd_base.specs.declared.frame.FrameName.{FrameName}
use Rattle.flow_journal.specs.declared.entry.Entry.{Entry}
use Rattle.flow_journal.specs.declared.entry.Why.TheVariants.{Ring, Now}
use Rattle.flow_journal.specs.declared.entry.Why.{Why}
use Rattle.flow_journal.specs.Setting.{Setting}
use Rattle.flow_journal.specs.Following.{emit, calls_for}
use Rattle.flow_journal.specs.Histories.{is_legal}
use Rattle.board_rules.specs.Moving.{moved, with_all}
use Rattle.board_rules.specs.States.{BoardState, past, plain}
use Rattle.run_course.specs.Watched.{ring_outs}
use Rattle.run_course.specs.Puts.{put_of}
use Rattle.flow_emit.proofs.Depth.{is_out, outs-flat}
use Rattle.run_course.proofs.Before.{legal-before}

ring-all-out : (v : ℕ) (ts : List FrameName) → list_all is_out (ring_outs v ts) ≡ true
ring-all-out v [] = refl
ring-all-out v (a ∷ ts) = ring-all-out v ts

-- the move of a put that calls for what is on its way
pub moved-ring : (s : Setting) (v r : ℕ) (a : FrameName) (f : Bool) (ts : List FrameName) (b : BoardState)
    → calls_for s (past b) (put_of s r v a f) ≡ ring_outs v ts
    → moved s (plain (put_of s r v a f)) b ≡ with_all s 0 2 (ring_outs v ts) (plain (put_of s r v a f) ∷ b)
moved-ring s v r a f ts b calls =
    let b1 : BoardState = plain (put_of s r v a f) ∷ b in
    ap (λ (ds : List Entry). with_all s 0 3 ds b1) calls ∙ outs-flat s 0 1 (ring_outs v ts) b1 (ring-all-out v ts)

-- one goes out, and then the others
pub one-out : (s : Setting) (v : ℕ) (ts : List FrameName) (b : BoardState)
    → with_all s 0 2 (ring_outs v (drop 1 ts)) (with_all s 0 2 (take 1 (ring_outs v ts)) b) ≡ with_all s 0 2 (ring_outs v ts) b
one-out s v [] b = refl
one-out s v (a ∷ ts) b = refl

-- the first of them
pub first-out : (v : ℕ) (ts : List FrameName) (a : FrameName) (why : Why) → slice_get ts 0 ≡ Some a → (1 < length ts → why ≡ Ring) → (length ts ≤ 1 → why ≡ Now)
    → take 1 (ring_outs v ts) ≡ emit v why a ∷ []
first-out v [] a why is more last = absurd (cc)
first-out v (x ∷ []) a why is more last =
    let same : x ≡ a = cc in
    ap (λ (b : FrameName). emit v Now b ∷ []) same ∙ ap (λ (w : Why). emit v w a ∷ []) (sym (last (omega arith)))
first-out v (x ∷ y ∷ ts) a why is more last =
    let same : x ≡ a = cc in
    ap (λ (b : FrameName). emit v Ring b ∷ []) same ∙ ap (λ (w : Why). emit v w a ∷ []) (sym (more (omega arith)))

-- it is legal where all are
pub first-out-legal : (s : Setting) (v : ℕ) (ts : List FrameName) (b : BoardState) → is_legal s (past (with_all s 0 2 (ring_outs v ts) b)) ≡ true
    → is_legal s (past (with_all s 0 2 (take 1 (ring_outs v ts)) b)) ≡ true
first-out-legal s v ts b legal =
    legal-before s 0 2 (ring_outs v (drop 1 ts)) _ (subst (λ (d : BoardState). is_legal s (past d) ≡ true) (sym (one-out s v ts b)) legal)
