-- What is put, issued and taken, as counts.
use Rattle.std.proofs.Common.{◌≡◌, ℕ, ◌+◌, ◌≤◌, Bool, true, ◌&&◌, eqb, [], ◌∷◌, refl, sym, ap, ◌∙◌, arith, Option, Some, None}
use Rattle.std.proofs.lemmas.Bool.{and_parts, false≢true, eqb-true}
use Rattle.flow_journal.specs.declared.entry.Entry.{Entry}
use Rattle.flow_journal.specs.declared.entry.Entry.TheVariants.{Load, Issue, Take, TakeBlock, Put, Save, Saved, Reclaim}
use Rattle.flow_journal.specs.Setting.{Setting, node}
use Rattle.flow_journal.specs.Pasts.{Past, frame, same}
use Rattle.flow_journal.specs.Hands.{hands, hand, standing, let_go}
use Rattle.flow_journal.specs.FirstEntries.{is_result_of, is_load_of, fires_at, both}
use Rattle.flow_journal.specs.Histories.{is_legal}
use Rattle.flow_journal.proofs.Hands.{row_of, reclaim-held, stands-less}
use Rattle.flow_journal.proofs.Counts.{hand-standing}
use Rattle.flow_journal.proofs.EntryCounts.{count, bit, count-cons, count-let_go, count-let_go-le, takes_at, puts_at, loads_at}
use Rattle.flow_journal.proofs.Found.{some_hand}

before : (s : Setting) (e : Entry) (P : Past) → is_legal s (e ∷ P) ≡ true → is_legal s P ≡ true
before s e P h = (and_parts _ _ h).0

-- the hand of whoever puts is a job with the result's index
put_hand : (v m k : ℕ) (o : Option Entry) → is_result_of v (frame m k) o ≡ true
    → (e : Entry) × (o ≡ Some e) × ((w j : ℕ) → takes_at w j e ≡ (eqb v w && eqb k j))
put_hand v m k None h = absurd (false≢true h)
put_hand v m k (Some (Take r w n j)) h =
    let p = and_parts (eqb w v) (same (frame m k) (frame n j)) h in
    let q = and_parts (eqb m n) (eqb k j) p.1 in
    let node : w ≡ v = eqb-true w v p.0 in
    let index : k ≡ j = eqb-true k j q.1 in
    (Take r w n j, refl, λ u i. ap (λ (x : ℕ). eqb x u && eqb j i) node ∙ ap (λ (x : ℕ). eqb v u && eqb x i) (sym index))
put_hand v m k (Some (TakeBlock f x r w n j b z g)) h =
    let p = and_parts (eqb w v) (same (frame m k) (frame v j)) h in
    let q = and_parts (eqb m v) (eqb k j) p.1 in
    let node : w ≡ v = eqb-true w v p.0 in
    let index : k ≡ j = eqb-true k j q.1 in
    (TakeBlock f x r w n j b z g, refl, λ u i. ap (λ (y : ℕ). eqb y u && eqb j i) node ∙ ap (λ (y : ℕ). eqb v u && eqb y i) (sym index))
put_hand v m k (Some _) h = absurd (false≢true h)

-- the hand of whoever issues is a load of that frame
issue_hand : (k : ℕ) (o : Option Entry) → is_load_of k o ≡ true → (e : Entry) × (o ≡ Some e) × ((j : ℕ) → loads_at j e ≡ eqb k j)
issue_hand k None h = absurd (false≢true h)
issue_hand k (Some (Load r i b n f g x)) h =
    let index : i ≡ k = eqb-true i k h in
    (Load r i b n f g x, refl, λ j. ap (λ (y : ℕ). eqb y j) index)
issue_hand k (Some _) h = absurd (false≢true h)

pub reclaim_hand : (s : Setting) (r : ℕ) (P : Past) → is_legal s (Reclaim r ∷ P) ≡ true → (e : Entry) × (hand r P ≡ Some e)
reclaim_hand s r P h =
    some_hand (hand r P) (reclaim-held s r P h)

pub issued_hand : (s : Setting) (r k : ℕ) (P : Past) → is_legal s (Issue r k ∷ P) ≡ true
    → (e : Entry) × (hand r P ≡ Some e) × ((j : ℕ) → loads_at j e ≡ eqb k j)
issued_hand s r k P h = issue_hand k (hand r P) (row_of s (Issue r k) P (λ d. refl) h)

pub putting_hand : (s : Setting) (r v m k : ℕ) (f : Bool) (P : Past) → is_legal s (Put r v m k f ∷ P) ≡ true
    → (e : Entry) × (hand r P ≡ Some e) × ((w j : ℕ) → takes_at w j e ≡ (eqb v w && eqb k j))
putting_hand s r v m k f P h =
    put_hand v m k (hand r P)
    (and_parts (is_result_of v (frame m k) (hand r P)) (both f (fires_at s v k (node s v).work)) (row_of s (Put r v m k f) P (λ d. refl) h)).0

-- what is put was taken, and so was what is in hand
pub puts-taken : (s : Setting) (P : Past) (v k : ℕ) → is_legal s P ≡ true
    → count (puts_at v k) P + count (takes_at v k) (hands P) ≤ count (takes_at v k) (standing P)
puts-taken s [] v k h = omega arith
puts-taken s (Load r i b n f g x ∷ P) v k h = omega (arith, puts-taken s P v k (before s (Load r i b n f g x) P h), count-let_go-le (takes_at v k) r (hands P))
puts-taken s (Take r w m i ∷ P) v k h =
    omega (
      arith,
      puts-taken s P v k (before s (Take r w m i) P h),
      count-cons (takes_at v k) (Take r w m i) (let_go r (hands P)),
      count-let_go-le (takes_at v k) r (hands P),
      count-cons (takes_at v k) (Take r w m i) (standing P),
    )
puts-taken s (TakeBlock f x r w m i b n g ∷ P) v k h =
    omega (
      arith,
      puts-taken s P v k (before s (TakeBlock f x r w m i b n g) P h),
      count-cons (takes_at v k) (TakeBlock f x r w m i b n g) (let_go r (hands P)),
      count-let_go-le (takes_at v k) r (hands P),
      count-cons (takes_at v k) (TakeBlock f x r w m i b n g) (standing P),
    )
puts-taken s (Save r w m i g ∷ P) v k h = omega (arith, puts-taken s P v k (before s (Save r w m i g) P h), count-let_go-le (takes_at v k) r (hands P))
puts-taken s (Issue r i ∷ P) v k h = omega (arith, puts-taken s P v k (before s (Issue r i) P h), count-let_go-le (takes_at v k) r (hands P))
puts-taken s (Saved r w m i ∷ P) v k h = omega (arith, puts-taken s P v k (before s (Saved r w m i) P h), count-let_go-le (takes_at v k) r (hands P))
puts-taken s (Put r w m i f ∷ P) v k h =
    let e = putting_hand s r w m i f P h in
    let less = count-let_go (takes_at v k) r e.0 (hands P) e.1 in
    let match : bit (takes_at v k e.0) ≡ bit (puts_at v k (Put r w m i f)) = ap bit (e.2 v k) in
    omega (arith, puts-taken s P v k (before s (Put r w m i f) P h), less, match, count-cons (puts_at v k) (Put r w m i f) P)
puts-taken s (Reclaim r ∷ P) v k h =
    let e = reclaim_hand s r P h in
    let legal = before s (Reclaim r) P h in
    omega (
      arith,
      puts-taken s P v k legal,
      count-let_go (takes_at v k) r e.0 (hands P) e.1,
      count-let_go (takes_at v k) r e.0 (standing P) (hand-standing s P r e.0 legal e.1),
      ap (count (takes_at v k)) (stands-less s r P h),
    )
puts-taken s (_ ∷ P) v k h = puts-taken s P v k (and_parts _ _ h).0
