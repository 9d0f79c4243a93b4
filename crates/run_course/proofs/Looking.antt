-- A look at a sort list, by what the list lets out.
use Rattle.std.proofs.Common.{◌≡◌, ◌⊎◌, ◌≤◌, ◌<◌, ◌∙◌, ◌-◌, ◌+◌, ℕ, true, false, Bool, List, [], ◌∷◌, Some, None, inl, inr, length, map, refl, sym, ap, subst, ltb, arith, if◌then◌else◌}
use Rattle.std.specs.List.{All}
use Rattle.std.proofs.lemmas.List.Elements.{All-map}
use Rattle.std.proofs.lemmas.List.Sorted.{All-permutation}
use Rattle.std.proofs.lemmas.Bool.{lt-ltb, le-ltb, ltb-true, ltb-false}
use Rattle.nd_base.specs.declared.frame.FrameName.{FrameName}
use Rattle.queue_sort.specs.declared.sort_lists.Waiting.{Waiting as Listed}
use Rattle.queue_sort.specs.Sorting.{keeps_step}
use Rattle.queue_sort.specs.Sorting as sorting
use Rattle.flow_journal.specs.declared.entry.Entry.{Entry}
use Rattle.flow_journal.specs.declared.entry.Entry.TheVariants.{Emit}
use Rattle.flow_journal.specs.declared.entry.Why.{Why}
use Rattle.flow_journal.specs.declared.entry.Why.TheVariants.{Step, Late, Flush}
use Rattle.flow_journal.specs.Setting.{Setting, node, id_at, is_sorted}
use Rattle.flow_journal.specs.Pasts.{Past}
use Rattle.flow_journal.specs.Ended.{now}
use Rattle.flow_journal.specs.Breaks.{prev}
use Rattle.flow_journal.specs.Waiting.{Waiting, waiting, least_first}
use Rattle.flow_journal.specs.Following.{emit, look, offer}
use Rattle.flow_journal.specs.Histories.{is_legal}
use Rattle.flow_journal.proofs.Looks.{look_laws}
use Rattle.flow_journal.proofs.Changes.{put_laws}
use Rattle.flow_journal.specs.Turns.{offered_to}
use Rattle.run_course.proofs.Before.{legal-before}
use Rattle.flow_journal.proofs.Leasts.{least_laws}
use Rattle.board_rules.specs.States.{BoardState, past, plain}
use Rattle.board_rules.specs.Moving.{with_all}
use Rattle.course_parts.specs.declared.node.Kept.{Kept}
use Rattle.course_parts.specs.declared.node.NodeState.{NodeState}
use Rattle.course_parts.specs.NodeStates.{IsNode, listed, list_of}
use Rattle.course_parts.specs.SortLists.{why_due, NothingDue}
use Rattle.run_course.proofs.Coursing.{Measuring}
use Rattle.run_course.specs.Leaving.{flush}

late-same : (t st n : ℕ) → ltb (t + st) n ≡ ltb st (n - t)
late-same t st n = split (ltb (t + st) n) refl where
  split : (b : Bool) → ltb (t + st) n ≡ b → ltb (t + st) n ≡ ltb st (n - t)
  split true h = h ∙ sym (lt-ltb st (n - t) (omega (arith, ltb-true (t + st) n h)))
  split false h = h ∙ sym (le-ltb st (n - t) (omega (arith, ltb-false (t + st) n h)))

-- the least of what waits is the first of the list
pub record IsFirst (measure : Measuring) (s : Setting) (v : ℕ) (P : Past) (w : Listed Kept) (ws : List (Listed Kept)) : Type 0 where
  pub least : Waiting
  pub others : List Waiting
  pub order : least_first s (waiting s v P) ≡ least ∷ others
  pub first : w ≡ listed measure s v least
  pub rest : ws ≡ map (listed measure s v) others

pub first-waits : (measure : Measuring) (s : Setting) (v : ℕ) (P : Past) (n : NodeState) (w : Listed Kept) (ws : List (Listed Kept)) → IsNode measure s v P n
    → n.list.waiting ≡ w ∷ ws → IsFirst measure s v P w ws
first-waits measure s v P n w ws i is = split (least_first s (waiting s v P)) refl where
  split : (us : List Waiting) → least_first s (waiting s v P) ≡ us → IsFirst measure s v P w ws
  split [] h =
      let e : [] ≡ w ∷ ws = sym (i.waits ∙ ap (map (listed measure s v)) h) ∙ is in cc
  split (u ∷ us) h =
      let e : listed measure s v u ∷ map (listed measure s v) us ≡ w ∷ ws = sym (i.waits ∙ ap (map (listed measure s v)) h) ∙ is in
      record { least = u; others = us; order = h; first = cc; rest = cc }

-- why it goes out
due-cases : (a b : Bool) (why : Why) → (if a then Some Step else if b then Some Late else None) ≡ Some why
    → ((a ≡ true) × (why ≡ Step)) ⊎ ((a ≡ false) × (b ≡ true) × (why ≡ Late))
due-cases true b why h = inl (refl, cc)
due-cases false true why h = inr (refl, refl, cc)
due-cases false false why h = absurd (cc)

stay-cases : (a b : Bool) → (if a then Some Step else if b then Some Late else None) ≡ None → (a ≡ false) × (b ≡ false)
stay-cases true b h = absurd (cc)
stay-cases false true h = absurd (cc)
stay-cases false false h = (refl, refl)

-- what is due is the first of the look, and the look goes on without it
pub due-looks : (measure : Measuring) (s : Setting) (v : ℕ) (P : Past) (n : NodeState) (t st : ℕ) (w : Listed Kept) (ws : List (Listed Kept)) (why : Why)
    → IsNode measure s v P n → is_sorted s v ≡ true → t ≡ now P → st ≡ (node s v).sort_time → n.list.waiting ≡ w ∷ ws → why_due n.list.last t st w ≡ Some why
    → look s v P ≡ emit v why w.item.name ∷ look s v (emit v why w.item.name ∷ P)
due-looks measure s v P n t st w ws why i sorted time wait is due =
    let f = first-waits measure s v P n w ws i is in
    let u = f.least in
    let a : FrameName = u.array in
    let name : w.item.name ≡ a = ap (λ (x : Listed Kept). x.item.name) f.first in
    let step : keeps_step n.list.last w.id ≡ keeps_step (prev s v P) (id_at s a.index) =
    ap (λ (x : Listed Kept). keeps_step n.list.last x.id) f.first ∙ ap (λ l. keeps_step l (id_at s a.index)) (i.last sorted) in
    let late : sorting.is_late t st w ≡ ltb (u.tick + (node s v).sort_time) (now P) =
    ap (λ (x : Listed Kept). ltb st (t - x.tick)) f.first
    ∙ (ap (λ (y : ℕ). ltb st (y - u.tick)) time ∙ (ap (λ (y : ℕ). ltb y (now P - u.tick)) wait ∙ sym (late-same u.tick (node s v).sort_time (now P)))) in
    subst (λ (b : FrameName). look s v P ≡ emit v why b ∷ look s v (emit v why b ∷ P)) (sym name)
    (elim (due-cases (keeps_step n.list.last w.id) (sorting.is_late t st w) why due) [
      | inl h ↦ subst (λ (y : Why). look s v P ≡ emit v y a ∷ look s v (emit v y a ∷ P)) (sym h.1) (look_laws.step s v P u f.others f.order (sym step ∙ h.0))
      | inr h ↦
          subst (λ (y : Why). look s v P ≡ emit v y a ∷ look s v (emit v y a ∷ P)) (sym h.2)
          (look_laws.late s v P u f.others f.order (sym step ∙ h.0) (sym late ∙ h.1))
    ])

-- where nothing is due a look lets nothing out
pub stays-looks : (measure : Measuring) (s : Setting) (v : ℕ) (P : Past) (n : NodeState) (t st : ℕ) → IsNode measure s v P n → is_sorted s v ≡ true → t ≡ now P
    → st ≡ (node s v).sort_time → NothingDue t st n → look s v P ≡ []
stays-looks measure s v P n t st i sorted time wait nothing = split (least_first s (waiting s v P)) refl where
  split : (us : List Waiting) → least_first s (waiting s v P) ≡ us → look s v P ≡ []
  split [] h = look_laws.none s v P (least_laws.none s (waiting s v P) h)
  split (u ∷ us) h =
      let w = listed measure s v u in
      let none =
      stay-cases (keeps_step n.list.last w.id) (sorting.is_late t st w) (nothing w (map (listed measure s v) us) (i.waits ∙ ap (map (listed measure s v)) h)) in
      look_laws.stays s v P u us h (ap (λ l. keeps_step l (id_at s u.array.index)) (sym (i.last sorted)) ∙ none.0)
      (late-same u.tick (node s v).sort_time (now P)
      ∙ (ap (λ (y : ℕ). ltb y (now P - u.tick)) (sym wait) ∙ (ap (λ (y : ℕ). ltb st (y - u.tick)) (sym time) ∙ none.1)))

-- A LOOK AT THE LIST OF A COURSE
pub list-ticks : (measure : Measuring) (s : Setting) (v : ℕ) (P : Past) (n : NodeState) (t : ℕ) → IsNode measure s v P n → t ≡ now P
    → All (λ (w : Listed Kept). w.tick ≤ t) n.list.waiting
list-ticks measure s v P n t i time =
    rw (i.waits, time) (All-map (λ (w : Listed Kept). w.tick ≤ now P) (listed measure s v) (least_first s (waiting s v P))
    (All-permutation (λ (w : Waiting). w.tick ≤ now P) (waiting s v P) (least_first s (waiting s v P)) (least_laws.same_ones s (waiting s v P)) i.ticks))

-- the first of what is to go out, with its offers, is legal where all is
pub first-legal : (s : Setting) (v : ℕ) (a : FrameName) (why : Why) (outs ds : List Entry) (b : BoardState) → outs ≡ emit v why a ∷ ds
    → is_legal s (past (with_all s 0 2 outs b)) ≡ true
    → (is_legal s (past (with_all s 0 1 (map (offer a) (offered_to s (past b) v)) (plain (emit v why a) ∷ b))) ≡ true)
    × (is_legal s (emit v why a ∷ past b) ≡ true)
first-legal s v a why outs ds b is legal =
    let whole : is_legal s (past (with_all s 0 2 (emit v why a ∷ ds) b)) ≡ true =
    subst (λ (xs : List Entry). is_legal s (past (with_all s 0 2 xs b)) ≡ true) is legal in
    let out = legal-before s 0 2 ds (with_all s 0 1 (map (offer a) (offered_to s (past b) v)) (plain (emit v why a) ∷ b)) whole in
    (out, legal-before s 0 1 (map (offer a) (offered_to s (past b) v)) (plain (emit v why a) ∷ b) out)

-- what waits once it is gone
pub list-left : (measure : Measuring) (s : Setting) (v : ℕ) (P : Past) (w : Listed Kept) (ws : List (Listed Kept)) (why : Why) (f : IsFirst measure s v P w ws)
    → ws ≡ list_of measure s v (Emit v f.least.array.maker f.least.array.index why ∷ P)
list-left measure s v P w ws why f =
    let a = f.least.array in
    f.rest
    ∙ ap (map (listed measure s v))
    (sym (least_laws.left s (waiting s v P) f.least f.others f.order) ∙ ap (least_first s) (sym (put_laws.goes s v a.maker a.index why P)))

-- and there are fewer
pub fewer-wait : (measure : Measuring) (s : Setting) (v : ℕ) (P : Past) (w : Listed Kept) (ws : List (Listed Kept)) (why : Why) (f : IsFirst measure s v P w ws)
    → length (waiting s v (Emit v f.least.array.maker f.least.array.index why ∷ P)) < length (waiting s v P)
fewer-wait measure s v P w ws why f =
    let a = f.least.array in
    let Q : Past = Emit v a.maker a.index why ∷ P in
    let rest : least_first s (waiting s v Q) ≡ f.others =
    ap (least_first s) (put_laws.goes s v a.maker a.index why P) ∙ least_laws.left s (waiting s v P) f.least f.others f.order in
    omega (arith, least_laws.count s (waiting s v Q), ap length rest, least_laws.count s (waiting s v P), ap length f.order)

-- the least one is the first of the flush, which goes on without it
pub flush-least : (measure : Measuring) (s : Setting) (v : ℕ) (P : Past) (n : NodeState) (w : Listed Kept) (ws : List (Listed Kept))
    → IsNode measure s v P n → n.list.waiting ≡ w ∷ ws
    → flush s v P ≡ emit v Flush w.item.name ∷ flush s v (emit v Flush w.item.name ∷ P)
flush-least measure s v P n w ws i is =
    let f = first-waits measure s v P n w ws i is in
    let name : w.item.name ≡ f.least.array = ap (λ (x : Listed Kept). x.item.name) f.first in
    subst (λ (b : FrameName). flush s v P ≡ emit v Flush b ∷ flush s v (emit v Flush b ∷ P)) (sym name) (look_laws.flush s 0 v P f.least f.others f.order)

pub flush-none : (measure : Measuring) (s : Setting) (v : ℕ) (P : Past) (n : NodeState) → IsNode measure s v P n → n.list.waiting ≡ [] → flush s v P ≡ []
flush-none measure s v P n i none = split (least_first s (waiting s v P)) refl where
  split : (us : List Waiting) → least_first s (waiting s v P) ≡ us → flush s v P ≡ []
  split [] h = ap (map (λ (w : Waiting). emit v Flush w.array)) h
  split (u ∷ us) h = let e : listed measure s v u ∷ map (listed measure s v) us ≡ [] = sym (i.waits ∙ ap (map (listed measure s v)) h) ∙ none in absurd (cc)
