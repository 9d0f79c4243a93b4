-- To a node come no more arrays than there are frames, so it puts and emits no more.
use Rattle.std.proofs.Common.{◌≡◌, ◌≤◌, ◌∙◌, ℕ, ◌+◌, true, false, Bool, List, [], ◌∷◌, ◌++◌, length, refl, eqb, cond, arith, length-append}
use Rattle.nd_base.specs.declared.frame.FrameName.{FrameName}
use Rattle.flow_journal.specs.declared.entry.Entry.{Entry}
use Rattle.flow_journal.specs.declared.entry.Entry.TheVariants.{Emit, Put}
use Rattle.flow_journal.specs.Setting.{Setting}
use Rattle.flow_journal.specs.Pasts.{Past, frame, comes_at}
use Rattle.flow_journal.specs.Puts.{puts}
use Rattle.flow_journal.specs.Accepted.{emitted}
use Rattle.flow_journal.specs.Histories.{is_legal}
use Rattle.flow_journal.proofs.EntryCounts.{count, bit, count-cons, puts_at, emits_at}
use Rattle.flow_journal.proofs.Buckets.{AreBuckets, one_in_buckets}
use Rattle.flow_journal.proofs.Jobs.{puts-taken}
use Rattle.flow_journal.proofs.Issues.{takes-accepted}
use Rattle.flow_journal.proofs.Once.{arrives-few, emits-few}
use Rattle.flow_journal.proofs.EntryCounts.{arrives-le}

abbrev puts_there : ℕ → Entry → Bool
puts_there v (Put r w m k f) = eqb w v
puts_there v _ = false

abbrev emits_there : ℕ → Entry → Bool
emits_there v (Emit w m k why) = eqb w v
emits_there v _ = false

abbrev index_of : Entry → ℕ
index_of (Put r w m k f) = k
index_of (Emit w m k why) = k
index_of _ = 0

puts-buckets : (v : ℕ) → AreBuckets (puts_there v) index_of (puts_at v)
puts-buckets v (Put r w m k f) u = refl
puts-buckets v _ u = refl

emits-buckets : (v : ℕ) → AreBuckets (emits_there v) index_of (emits_at v)
emits-buckets v (Emit w m k why) u = refl
emits-buckets v _ u = refl

comes-length : (v w : ℕ) (a : FrameName) (xs : List FrameName) → length (comes_at v w a xs) ≡ bit (eqb w v) + length xs
comes-length v w a xs = split (eqb w v) where
  split : (b : Bool) → length (cond b (xs ++ a ∷ []) xs) ≡ bit b + length xs
  split true = length-append xs (a ∷ []) ∙ omega arith
  split false = omega arith

puts-listed : (v : ℕ) (P : Past) → length (puts v P) ≡ count (puts_there v) P
puts-listed v [] = refl
puts-listed v (Put r w m k f ∷ P) = omega (arith, comes-length v w (frame m k) (puts v P), count-cons (puts_there v) (Put r w m k f) P, puts-listed v P)
puts-listed v (_ ∷ P) = puts-listed v P

emits-listed : (v : ℕ) (P : Past) → length (emitted v P) ≡ count (emits_there v) P
emits-listed v [] = refl
emits-listed v (Emit w m k why ∷ P) = omega (arith, comes-length v w (frame m k) (emitted v P), count-cons (emits_there v) (Emit w m k why) P, emits-listed v P)
emits-listed v (_ ∷ P) = emits-listed v P

pub puts-short : (s : Setting) (P : Past) (v : ℕ) → is_legal s P ≡ true → length (puts v P) ≤ length s.ids
puts-short s P v h =
    omega (
      arith,
      puts-listed v P,
      one_in_buckets (puts_there v) index_of (puts_at v) (puts-buckets v) (length s.ids) P
          (λ k. omega (arith, puts-taken s P v k h, takes-accepted s P v k h, arrives-le v k P, arrives-few s P v k h)),
    )

pub emits-short : (s : Setting) (P : Past) (v : ℕ) → is_legal s P ≡ true → length (emitted v P) ≤ length s.ids
emits-short s P v h =
    omega (arith, emits-listed v P, one_in_buckets (emits_there v) index_of (emits_at v) (emits-buckets v) (length s.ids) P (λ k. emits-few s P v k h))
