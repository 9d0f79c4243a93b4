-- What a node with a sort list keeps, by what its list answers.
use Rattle.std.proofs.Common.{◌≡◌, ◌≤◌, ◌∙◌, ◌-◌, ◌+◌, ℕ, ℤ, true, false, Bool, cond, ◌++◌, length, Result, Ok, Err, refl, ap, subst, arith}
use Rattle.std.specs.Prelude.{vec_capacity}
use Rattle.std.proofs.lemmas.Bool.{leb-true}
use Rattle.chain_plain.specs.OneThread.{listed}
use Rattle.queue_sort.specs.Sorting.{SortState, keeps_step, is_full, after_put, emitted}
use Rattle.queue_sort.specs.PutAnswers.{put_answer}
use Rattle.queue_sort.specs.declared.sort_lists.Placed.{Placed}
use Rattle.queue_sort.specs.declared.sort_lists.Placed.TheVariants as placed
use Rattle.queue_sort.specs.declared.sort_lists.SortFull.{SortFull}
use Rattle.queue_sort.specs.declared.sort_lists.Waiting.{Waiting}
use Rattle.course_parts.specs.SortLists.{IsListed}
use Rattle.course_parts.specs.declared.results.Placement.TheVariants.{Out, Full}
use Rattle.course_parts.specs.declared.node.Kept.{Kept}
use Rattle.course_parts.specs.declared.node.NodeState.{NodeState}

-- an answer tells which case it was
answer-out : (a b : Bool) (x y : Kept)
    → (let r : Result (Placed Kept) (SortFull Kept) = Ok (placed.Out y) in r)
    ≡ cond a (Ok (placed.Out x)) (cond b (Err (record { item = x })) (Ok placed.Listed)) → (a ≡ true) × (y ≡ x)
answer-out true b x y h = (refl, cc)
answer-out false true x y h = absurd (cc)
answer-out false false x y h = absurd (cc)

answer-full : (a b : Bool) (x : Kept) (y : SortFull Kept)
    → (let r : Result (Placed Kept) (SortFull Kept) = Err y in r) ≡ cond a (Ok (placed.Out x)) (cond b (Err (record { item = x })) (Ok placed.Listed))
    → (a ≡ false) × (b ≡ true)
answer-full true b x y h = absurd (cc)
answer-full false true x y h = (refl, refl)
answer-full false false x y h = absurd (cc)

after-out : (l : SortState Kept) (w : Waiting Kept) → keeps_step l.last w.id ≡ true → after_put l w ≡ emitted l w.id
after-out l w h = rw h refl

after-full : (l : SortState Kept) (w : Waiting Kept) → keeps_step l.last w.id ≡ false → is_full l ≡ true → after_put l w ≡ l
after-full l w h f = rw (h, f) refl

pub step-of : (l : SortState Kept) (id : ℤ) (x y : Kept)
    → (let r : Result (Placed Kept) (SortFull Kept) = Ok (placed.Out y) in r) ≡ put_answer l id x → keeps_step l.last id ≡ true
step-of l id x y h = (answer-out (keeps_step l.last id) (is_full l) x y h).0

pub out-is : (l : SortState Kept) (id : ℤ) (x y : Kept) → (let r : Result (Placed Kept) (SortFull Kept) = Ok (placed.Out y) in r) ≡ put_answer l id x → y ≡ x
out-is l id x y h = (answer-out (keeps_step l.last id) (is_full l) x y h).1

pub placed-out : (id : ℤ) (tick : ℕ) (kept y : Kept) (old mid new : NodeState) → mid ≡ record old { jobs = old.jobs - 1; puts = old.puts + 1 }
    → new ≡ record mid { list = new.list; measures = new.measures }
    → (let r : Result (Placed Kept) (SortFull Kept) = Ok (placed.Out y) in r) ≡ put_answer mid.list id kept
    → new.list ≡ after_put mid.list (record { id = id; tick = tick; item = kept })
    → new.measures.items ≡ mid.measures.items ++ listed y.measured → vec_capacity new.measures ≡ vec_capacity mid.measures → IsListed id tick kept old new Out
placed-out id tick kept y old mid new done is answer after items room =
    let was = answer-out (keeps_step mid.list.last id) (is_full mid.list) kept y answer in
    let now = after ∙ after-out mid.list (record { id = id; tick = tick; item = kept }) was.0 in
    let same = ap (λ (m : NodeState). m.list) done in (
      is ∙ ap (λ (m : NodeState). record m { list = new.list; measures = new.measures }) done,
      subst (λ (l : SortState Kept). keeps_step l.last id ≡ true) same was.0,
      ap (λ (l : SortState Kept). l.size) now ∙ ap (λ (l : SortState Kept). l.size) same,
      ap (λ (l : SortState Kept). l.last) now,
      ap (λ (l : SortState Kept). l.waiting) now ∙ ap (λ (l : SortState Kept). l.waiting) same,
      items ∙ (ap (λ (m : NodeState). m.measures.items ++ listed y.measured) done ∙ ap (λ (x : Kept). old.measures.items ++ listed x.measured) was.1),
      room ∙ ap (λ (m : NodeState). vec_capacity m.measures) done,
    )

pub placed-full : (id : ℤ) (tick : ℕ) (kept : Kept) (y : SortFull Kept) (old mid new : NodeState)
    → mid ≡ record old { jobs = old.jobs - 1; puts = old.puts + 1 } → new ≡ record mid { list = new.list }
    → (let r : Result (Placed Kept) (SortFull Kept) = Err y in r) ≡ put_answer mid.list id kept
    → new.list ≡ after_put mid.list (record { id = id; tick = tick; item = kept }) → length new.list.waiting ≤ new.list.size
    → IsListed id tick kept old new Full
placed-full id tick kept y old mid new done is answer after within =
    let was = answer-full (keeps_step mid.list.last id) (is_full mid.list) kept y answer in
    let now = after ∙ after-full mid.list (record { id = id; tick = tick; item = kept }) was.0 was.1 in
    let same = ap (λ (m : NodeState). m.list) done in (
      is ∙ (ap (λ (l : SortState Kept). record mid { list = l }) now ∙ done),
      subst (λ (l : SortState Kept). keeps_step l.last id ≡ false) same was.0,
      subst (λ (l : SortState Kept). length l.waiting ≡ l.size) same
          (omega (arith, leb-true mid.list.size (length mid.list.waiting) was.1, subst (λ (l : SortState Kept). length l.waiting ≤ l.size) now within)),
    )
