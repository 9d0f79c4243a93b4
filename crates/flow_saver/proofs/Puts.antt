-- The puts of a node: how many there can be, whose arrays they are, and that a settled node gets no more.
use Rattle.std.proofs.Common.{◌≡◌, ℕ, ◌+◌, ◌≤◌, Bool, true, false, ◌&&◌, eqb, List, [], ◌∷◌, ◌++◌, length, refl, sym, ap, ◌∙◌, arith, inl, inr, Some}
use Rattle.std.proofs.Common.{length-append}
use Rattle.std.specs.List.{All, list_any}
use Rattle.std.proofs.lemmas.Bool.{and_parts, cases_Bool, true≢false, eqb-true}
use Rattle.nd_base.specs.Array.{Array}
use Rattle.nd_base.specs.declared.frame.FrameName.{FrameName}
use Rattle.nd_base.specs.declared.graph.Graph.{Graph}
use Rattle.nd_base.specs.declared.graph.NodeRule.{NodeRule}
use Rattle.nd_base.specs.declared.plan.Maker.{Maker}
use Rattle.nd_base.specs.GraphRules.{IsGraph, rule_at}
use Rattle.chain_plain.specs.Nodes.{maker_at}
use Rattle.flow_journal.specs.declared.entry.Entry.{Entry}
use Rattle.flow_journal.specs.declared.entry.Entry.TheVariants.{Put}
use Rattle.flow_journal.specs.Setting.{Setting, is_maker}
use Rattle.flow_journal.specs.RunSetting.{setting_of}
use Rattle.flow_journal.specs.Pasts.{Past, frame, comes_at}
use Rattle.flow_journal.specs.Puts.{puts}
use Rattle.flow_journal.specs.Ended.{settles, is_settled}
use Rattle.flow_journal.specs.Histories.{is_legal, is_history}
use Rattle.flow_journal.proofs.EntryCounts.{count, bit, count-cons, count-append, puts_at, puts_of, arrives-le}
use Rattle.flow_journal.proofs.Buckets.{one_in_buckets}
use Rattle.flow_journal.proofs.Hands.{row_of}
use Rattle.flow_journal.proofs.Issues.{takes-accepted}
use Rattle.flow_journal.proofs.Jobs.{puts-taken}
use Rattle.flow_journal.proofs.Once.{arrives-few}
use Rattle.flow_journal.proofs.Settled.{put-unsettled}
use Rattle.board_rules.specs.States.{BoardState, past}
use Rattle.run_laws.proofs.Makers.{wrong, accepts-named, all-named}
use Rattle.run_laws.proofs.Sorted.{puts-accepted}

-- HOW MANY

put_here : ℕ → Entry → Bool
put_here v (Put r w m j f) = eqb w v
put_here v _ = false

put_index : Entry → ℕ
put_index (Put r w m j f) = j
put_index _ = 0

buckets : (v : ℕ) (e : Entry) (k : ℕ) → puts_at v k e ≡ (put_here v e && eqb (put_index e) k)
unfolding put_here put_index
buckets v (Put r w m j f) k = refl
buckets v _ k = refl

comes-length : (v w : ℕ) (a : FrameName) (xs : List FrameName) → length (comes_at v w a xs) ≡ length xs + bit (eqb w v)
comes-length v w a xs = elim (cases_Bool (eqb w v)) [ inl here ↦ rw here (length-append xs (a ∷ [])) | inr away ↦ rw away (omega arith) ]

puts-count : (v : ℕ) (P : Past) → length (puts v P) ≡ count (put_here v) P
unfolding put_here
puts-count v [] = refl
puts-count v (Put r w m j f ∷ P) = comes-length v w (frame m j) (puts v P) ∙ omega (arith, puts-count v P, count-cons (put_here v) (Put r w m j f) P)
puts-count v (_ ∷ P) = puts-count v P

-- no more than there are frames
pub puts-few : (s : Setting) (P : Past) (v : ℕ) → is_legal s P ≡ true → length (puts v P) ≤ length s.ids
puts-few s P v h =
    omega (
      arith,
      puts-count v P,
      one_in_buckets (put_here v) put_index (puts_at v) (buckets v) (length s.ids) P
          (λ k. omega (arith, puts-taken s P v k h, takes-accepted s P v k h, arrives-le v k P, arrives-few s P v k h)),
    )

-- WHOSE

comes-all : (v w : ℕ) (t : FrameName → Bool) (a : FrameName) (xs : List FrameName) → count t (comes_at v w a xs) ≡ count t xs + bit (eqb w v && t a)
comes-all v w t a xs =
    elim (cases_Bool (eqb w v)) [
      | inl here ↦ rw here (count-append t xs (a ∷ []) ∙ omega (arith, count-cons t a []))
      | inr away ↦ rw away (omega arith)
    ]

puts-list : (v : ℕ) (t : FrameName → Bool) (P : Past) → count t (puts v P) ≡ count (puts_of v t) P
puts-list v t [] = refl
puts-list v t (Put r w m j f ∷ P) = comes-all v w t (frame m j) (puts v P) ∙ omega (arith, puts-list v t P, count-cons (puts_of v t) (Put r w m j f) P)
puts-list v t (_ ∷ P) = puts-list v t P

-- at a node that makes no arrays they are of its input's maker
pub puts-named : (g : Graph) (makers : List Maker) (arrays : List Array) (P : Past) (v : ℕ) (n : NodeRule) → IsGraph g → rule_at g.nodes v ≡ Some n
    → is_maker (setting_of g makers arrays) v ≡ false
    → is_history (setting_of g makers arrays) P ≡ true → All (λ a. a.maker ≡ maker_at g.nodes n.input) (puts v P)
puts-named g makers arrays P v n sound rule none h =
    let m = maker_at g.nodes n.input in
    let legal = (and_parts (is_legal (setting_of g makers arrays) P) _ h).0 in
    let zero_ : count (wrong m) (puts v P) ≡ 0 =
    omega (
      arith,
      puts-list v (wrong m) P,
      puts-accepted (setting_of g makers arrays) P v (wrong m) none legal,
      accepts-named g makers arrays P sound h v n rule,
    ) in
    all-named m (puts v P) zero_

-- AS THE LOG GROWS

any-more : (p : Entry → Bool) (more b : BoardState) → list_any p (past b) ≡ true → list_any p (past (more ++ b)) ≡ true
any-more p [] b h = h
any-more p (t ∷ more) b h = elim (cases_Bool (p t.entry)) [ inl yes_ ↦ rw yes_ refl | inr no_ ↦ rw no_ (any-more p more b h) ]

pub settled-more : (v : ℕ) (more b : BoardState) → is_settled v (past b) ≡ true → is_settled v (past (more ++ b)) ≡ true
settled-more v more b h = any-more (settles v) more b h

puts-grow : (v : ℕ) (e : Entry) (P : Past) → length (puts v P) ≤ length (puts v (e ∷ P))
puts-grow v (Put r w m j f) P = omega (arith, comes-length v w (frame m j) (puts v P))
puts-grow v _ P = omega arith

pub puts-more : (v : ℕ) (more b : BoardState) → length (puts v (past b)) ≤ length (puts v (past (more ++ b)))
puts-more v [] b = omega arith
puts-more v (t ∷ more) b = omega (arith, puts-more v more b, puts-grow v t.entry (past (more ++ b)))

no-put : (s : Setting) (v : ℕ) (e : Entry) (P : Past) → is_legal s (e ∷ P) ≡ true → is_settled v P ≡ true → puts v (e ∷ P) ≡ puts v P
no-put s v (Put r w m j f) P h settled =
    let legal = (and_parts (is_legal s P) _ h).0 in
    let open_ = put-unsettled s r w m j f P legal (row_of s (Put r w m j f) P (λ d. refl) h) in
    elim (cases_Bool (eqb w v)) [
      | inl here ↦ absurd (true≢false (sym settled ∙ ap (λ (u : ℕ). is_settled u P) (sym (eqb-true w v here)) ∙ open_))
      | inr away ↦ rw away refl
    ]
no-put s v _ P h settled = refl

-- a settled node gets no more
pub puts-stay : (s : Setting) (v : ℕ) (more b : BoardState) → is_legal s (past (more ++ b)) ≡ true → is_settled v (past b) ≡ true
    → puts v (past (more ++ b)) ≡ puts v (past b)
puts-stay s v [] b h settled = refl
puts-stay s v (t ∷ more) b h settled =
    let legal = (and_parts (is_legal s (past (more ++ b))) _ h).0 in
    no-put s v t.entry (past (more ++ b)) h (settled-more v more b settled) ∙ puts-stay s v more b legal settled
