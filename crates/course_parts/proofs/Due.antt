-- What is due in a sort list, by the answer of the list.
use Rattle.std.proofs.Common.{◌≡◌, ◌∙◌, ℕ, ℤ, true, false, Bool, List, [], ◌∷◌, Some, None, refl, sym, ap, if◌then◌else◌}
use Rattle.queue_sort.specs.declared.sort_lists.Waiting.{Waiting as Listed}
use Rattle.queue_sort.specs.Sorting.{SortState, keeps_step}
use Rattle.queue_sort.specs.DueAnswers.{due_answer, due_first}
use Rattle.queue_sort.specs.declared.sort_lists.Due.{Due}
use Rattle.queue_sort.specs.Sorting as sorting
use Rattle.flow_journal.specs.declared.entry.Why.TheVariants.{Step, Late}
use Rattle.course_parts.specs.declared.node.Kept.{Kept}
use Rattle.course_parts.specs.SortLists.{why_due}

-- WHAT A LIST LETS OUT
pub record IsDueOf (l : SortState Kept) (t st : ℕ) (d : Due Kept) : Type 0 where
  pub least : Listed Kept
  pub others : List (Listed Kept)
  pub order : l.waiting ≡ least ∷ others
  pub item : d.item ≡ least.item
  pub due : why_due l.last t st least ≡ Some (if d.late then Late else Step)

due-first : (last : ℤ) (t st : ℕ) (w : Listed Kept) (d : Due Kept) (a b : Bool) → keeps_step last w.id ≡ a → sorting.is_late t st w ≡ b
    → (if a then Some (let r : Due Kept = record { id = w.id; item = w.item; late = false } in r)
    else if b then Some (let r : Due Kept = record { id = w.id; item = w.item; late = true } in r) else None) ≡ Some d
    → (d.item ≡ w.item) × (why_due last t st w ≡ Some (if d.late then Late else Step))
due-first last t st w d true b x y h =
    let e : (let r : Due Kept = record { id = w.id; item = w.item; late = false } in r) ≡ d = cc in
    (ap (λ (z : Due Kept). z.item) (sym e), rw (x, sym e) refl)
due-first last t st w d false true x y h =
    let e : (let r : Due Kept = record { id = w.id; item = w.item; late = true } in r) ≡ d = cc in
    (ap (λ (z : Due Kept). z.item) (sym e), rw (x, y, sym e) refl)
due-first last t st w d false false x y h = absurd (cc)

pub due-of : (l : SortState Kept) (t st : ℕ) (d : Due Kept) → due_answer l t st ≡ Some d → IsDueOf l t st d
due-of l t st d h = split l.waiting refl where
  split : (ws : List (Listed Kept)) → l.waiting ≡ ws → IsDueOf l t st d
  split [] is =
      let e : None ≡ Some d = sym (ap (due_first l.last t st) is) ∙ h in absurd (cc)
  split (w ∷ ws) is =
      let p = due-first l.last t st w d (keeps_step l.last w.id) (sorting.is_late t st w) refl refl (sym (ap (due_first l.last t st) is) ∙ h) in
      record { least = w; others = ws; order = is; item = p.0; due = p.1 }
