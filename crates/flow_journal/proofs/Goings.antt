-- What is owed can always come; and what came first and the tick tell the rest of a move.
use Rattle.std.proofs.Common.{◌≡◌, ℕ, ◌+◌, Bool, true, false, not, ◌&&◌, cond, eqb, List, [], ◌∷◌, ◌++◌, map, drop, refl, sym, ap, ◌∙◌, subst, arith, inl}
use Rattle.std.proofs.Common.{inr, append_assoc}
use Rattle.std.specs.Prelude.{flat_map}
use Rattle.std.specs.List.{list_all}
use Rattle.std.proofs.lemmas.Bool.{and_parts, and_from, false≢true, true≢false, eqb-true, cases_Bool}
use Rattle.std.proofs.lemmas.List.{append-nil}
use Rattle.nd_base.specs.declared.frame.FrameName.{FrameName}
use Rattle.flow_journal.specs.declared.entry.Entry.{Entry}
use Rattle.flow_journal.specs.declared.entry.Entry.TheVariants.{Tick, Emit, Accept, Full, Put, SortDrop, Settle}
use Rattle.flow_journal.specs.declared.entry.Why.{Why}
use Rattle.flow_journal.specs.declared.entry.Why.TheVariants.{Plain, Step, Late, Flush, Ring, Now}
use Rattle.flow_journal.specs.Setting.{Setting, node, is_sorted, node_numbers}
use Rattle.flow_journal.specs.Pasts.{Past, frame}
use Rattle.flow_journal.specs.Queued.{has_room}
use Rattle.flow_journal.specs.Turns.{offered_to}
use Rattle.flow_journal.specs.Ended.{now}
use Rattle.flow_journal.specs.Waiting.{waiting, least_first}
use Rattle.flow_journal.specs.FirstEntries.{first}
use Rattle.flow_journal.specs.Following.{offer, look, calls_for, owed}
use Rattle.flow_journal.specs.Histories.{why_number, is_such, wanted, answers, next, is_legal, is_history, is_nothing, Owes}
use Rattle.flow_journal.specs.Moves.{onto, follow, is_move}
use Rattle.flow_journal.specs.Pushes.{history-from, push-owed, answers-Tick, answers-Emit, answers-SortDrop, answers-Accept, answers-Full}
use Rattle.flow_journal.specs.RowLaws.{begins}
use Rattle.flow_journal.specs.MoveLaws.{LogsGoOn, MoveLaws}
use Rattle.flow_journal.proofs.EntryCounts.{count, bit, count-cons, count-append}
use Rattle.flow_journal.proofs.Outs.{AllOutAt, is_out_at, all-append, goes_out-at, result-at, flush-at}
use Rattle.flow_journal.proofs.Emissions.{TickAlone, tick_alone, no_ticks_in_offers, looks-ticks}
use Rattle.flow_journal.proofs.Histories.{legal-first}
use Rattle.flow_journal.proofs.Cuts.{answer-follows, whole, one_way, cut-history, own_hand}
use Rattle.flow_journal.specs.EntryTests.{is_tick}

-- WHAT IS CALLED FOR

-- the entry is one that others call for
abbrev is_called : Entry → Bool
is_called (Tick t) = true
is_called (Emit v m k why) = true
is_called (Accept v m k) = true
is_called (SortDrop v m k) = true
is_called _ = false

out_called : (v : ℕ) (e : Entry) → is_out_at v e ≡ true → is_called e ≡ true
out_called v (Emit w m k why) h = refl
out_called v (SortDrop w m k) h = refl
out_called v _ h = absurd (false≢true h)

outs_called : (v : ℕ) (ds : List Entry) → AllOutAt v ds → list_all is_called ds ≡ true
outs_called v [] h = refl
outs_called v (d ∷ ds) h =
    let p = and_parts (is_out_at v d) (list_all (is_out_at v) ds) h in
    and_from _ _ (out_called v d p.0) (outs_called v ds p.1)

offers_called : (a : FrameName) (cs : List ℕ) → list_all is_called (map (offer a) cs) ≡ true
offers_called a [] = refl
offers_called a (c ∷ cs) = offers_called a cs

look_called : (s : Setting) (P : Past) (u : ℕ) (b : Bool) → list_all is_called (cond b (look s u P) []) ≡ true
look_called s P u true = outs_called u (look s u P) (goes_out-at s u _ _ _)
look_called s P u false = refl

looks_called : (s : Setting) (P : Past) (us : List ℕ) → list_all is_called (flat_map (λ u. cond (is_sorted s u) (look s u P) []) us) ≡ true
looks_called s P [] = refl
looks_called s P (u ∷ us) =
    all-append is_called (cond (is_sorted s u) (look s u P) []) (flat_map (λ x. cond (is_sorted s x) (look s x P) []) us)
    (look_called s P u (is_sorted s u)) (looks_called s P us)

calls_called : (s : Setting) (P : Past) (e : Entry) → list_all is_called (calls_for s P e) ≡ true
calls_called s P (Tick t) = looks_called s (Tick t ∷ P) (node_numbers s)
calls_called s P (Emit v m k why) = offers_called (frame m k) (offered_to s P v)
calls_called s P (Put r v m k f) = outs_called v (calls_for s P (Put r v m k f)) (result-at s v (frame m k) f P (node s v).work)
calls_called s P (Settle r v) = outs_called v (calls_for s P (Settle r v)) (flush-at v (least_first s (waiting s v P)))
calls_called s P _ = refl

rest_called : (ds : List Entry) → list_all is_called ds ≡ true → list_all is_called (drop 1 ds) ≡ true
rest_called [] h = refl
rest_called (d ∷ ds) h = (and_parts (is_called d) (list_all is_called ds) h).1

owed_called : (s : Setting) (P : Past) → list_all is_called (owed s P) ≡ true
owed_called s [] = refl
owed_called s (e ∷ P) = all-append is_called (calls_for s P e) (drop 1 (owed s P)) (calls_called s P e) (rest_called (owed s P) (owed_called s P))

-- WHAT IS OWED CAN COME

-- a log that goes on from P, and just these are still owed then
abbrev GoesOn : Setting → Past → List Entry → Type 0
GoesOn s P ds = (newer : List Entry) × Owes s (newer ++ P) ds

goes_on : (s : Setting) (P : Past) (e : Entry) (ds : List Entry) → GoesOn s (e ∷ P) ds → GoesOn s P ds
goes_on s P e ds h = (h.0 ++ e ∷ [], subst (λ (Q : Past). Owes s Q ds) (sym (append_assoc h.0 (e ∷ []) P)) h.1)

goes_on-far : (s : Setting) (P : Past) (es ds : List Entry) → GoesOn s (es ++ P) ds → GoesOn s P ds
goes_on-far s P [] ds h = h
goes_on-far s P (e ∷ es) ds h = goes_on-far s P es ds (goes_on s (es ++ P) e ds h)

-- offers are answered
offers_come : (s : Setting) (P : Past) (a : FrameName) (cs : List ℕ) (rest : List Entry) → Owes s P (map (offer a) cs ++ rest) → GoesOn s P rest
offers_come s P a [] rest o = ([], o)
offers_come s P a (c ∷ cs) rest o =
    elim (cases_Bool (has_room s P c)) [
      | inl room ↦
          let e : Entry = Accept c a.maker a.index in
          goes_on s P e rest (offers_come s (e ∷ P) a cs rest (push-owed e o (answers-Accept s P c a.maker a.index room)))
      | inr full ↦
          let e : Entry = Full c a.maker a.index in
          goes_on s P e rest (offers_come s (e ∷ P) a cs rest (push-owed e o (answers-Full s P c a.maker a.index full)))
    ]

-- and all but a tick
outs_come : (s : Setting) (ds : List Entry) (P : Past) → list_all is_called ds ≡ true → count is_tick ds ≡ 0 → Owes s P ds → GoesOn s P []
outs_come s [] P c t o = ([], o)
outs_come s (Emit v m k why ∷ ds) P c t o =
    let e : Entry = Emit v m k why in
    let offered = offers_come s (e ∷ P) (frame m k) (offered_to s P v) ds (push-owed e o (answers-Emit s P v m k why)) in
    goes_on s P e [] (goes_on-far s (e ∷ P) offered.0 [] (outs_come s ds (offered.0 ++ e ∷ P) c t offered.1))
outs_come s (SortDrop v m k ∷ ds) P c t o =
    let e : Entry = SortDrop v m k in
    goes_on s P e [] (outs_come s ds (e ∷ P) c t (push-owed e o (answers-SortDrop s P v m k)))
outs_come s (Accept v m k ∷ ds) P c t o =
    let offered = offers_come s P (frame m k) (v ∷ []) ds o in
    goes_on-far s P offered.0 [] (outs_come s ds (offered.0 ++ P) c t offered.1)
outs_come s (Tick u ∷ ds) P c t o = absurd (omega (arith, count-cons is_tick (Tick u) ds, t))
outs_come s (_ ∷ ds) P c t o = absurd (false≢true c)

owed_come : (s : Setting) (P : Past) (ds : List Entry) → list_all is_called ds ≡ true → TickAlone ds → Owes s P ds → GoesOn s P []
owed_come s P ds c (inl none) o = outs_come s ds P c none o
owed_come s P [] c (inr few) o = ([], o)
owed_come s P (Tick u ∷ []) c (inr few) o =
    let e : Entry = Tick u in
    let after : Owes s (e ∷ P) (calls_for s P e ++ []) = push-owed e o (answers-Tick s P u u (omega arith)) in
    let calls : Owes s (e ∷ P) (calls_for s P e) = subst (λ (es : List Entry). Owes s (e ∷ P) es) (append-nil (calls_for s P e)) after in
    goes_on s P e [] (outs_come s (calls_for s P e) (e ∷ P) (calls_called s P e) (looks-ticks s (e ∷ P) (node_numbers s)) calls)
owed_come s P (d ∷ []) c (inr few) o = outs_come s (d ∷ []) P c refl o
owed_come s P (d ∷ x ∷ ds) c (inr few) o = absurd (omega (arith, few))

pub logs_go_on : LogsGoOn
logs_go_on s P h =
    let on = owed_come s P (owed s P) (owed_called s P) (tick_alone s P h) (record { legal = h; rest = refl }) in
    (on.0, history-from on.1)

-- ONE REST OF A MOVE

same_why : (a b : Why) → eqb (why_number a) (why_number b) ≡ true → a ≡ b
same_why Plain Plain h = refl
same_why Step Step h = refl
same_why Late Late h = refl
same_why Flush Flush h = refl
same_why Ring Ring h = refl
same_why Now Now h = refl
same_why _ _ h = absurd (false≢true h)

same_emit : (v m k w n j : ℕ) (why how : Why)
    → (eqb v w && eqb m n && eqb k j && eqb (why_number why) (why_number how)) ≡ true → Emit v m k why ≡ Emit w n j how
same_emit v m k w n j why how h =
    let p = and_parts (eqb v w && eqb m n && eqb k j) (eqb (why_number why) (why_number how)) h in
    let q = and_parts (eqb v w && eqb m n) (eqb k j) p.0 in
    let o = and_parts (eqb v w) (eqb m n) q.0 in
    let a : v ≡ w = eqb-true v w o.0 in
    let b : m ≡ n = eqb-true m n o.1 in
    let c : k ≡ j = eqb-true k j q.1 in
    let d : why ≡ how = same_why why how p.1 in
    cc

same_three : (v m k w n j : ℕ) (f : ℕ → ℕ → ℕ → Entry) → (eqb v w && eqb m n && eqb k j) ≡ true → f v m k ≡ f w n j
same_three v m k w n j f h =
    let q = and_parts (eqb v w && eqb m n) (eqb k j) h in
    let o = and_parts (eqb v w) (eqb m n) q.0 in
    ap (λ (u : ℕ). f u m k) (eqb-true v w o.0) ∙ (ap (λ (u : ℕ). f w u k) (eqb-true m n o.1) ∙ ap (λ (u : ℕ). f w n u) (eqb-true k j q.1))

-- but for a tick, what comes is what was wanted
such_same : (x d : Entry) → is_tick d ≡ false → is_such x d ≡ true → d ≡ x
such_same (Emit w n j how) (Emit v m k why) t h = same_emit v m k w n j why how h
such_same (Accept w n j) (Accept v m k) t h = same_three v m k w n j (λ a b c. Accept a b c) h
such_same (Full w n j) (Full v m k) t h = same_three v m k w n j (λ a b c. Full a b c) h
such_same (SortDrop w n j) (SortDrop v m k) t h = same_three v m k w n j (λ a b c. SortDrop a b c) h
such_same (Tick u) (Tick t) never h = absurd (true≢false never)
such_same _ _ t h = absurd (false≢true h)

wanted_no_tick : (s : Setting) (P : Past) (d : Entry) → is_tick d ≡ false → is_tick (wanted s P d) ≡ false
wanted_no_tick s P (Accept c m k) t = elim (has_room s P c) as (λ b. is_tick (cond b (Accept c m k) (Full c m k)) ≡ false) [ true ↦ refl | false ↦ refl ]
wanted_no_tick s P (Tick u) t = absurd (true≢false t)
wanted_no_tick s P _ t = refl

pub comes_as : (s : Setting) (P : Past) (x d : Entry) → is_tick d ≡ false → answers s P x d ≡ true → wanted s P d ≡ x
comes_as s P x d t h = such_same x (wanted s P d) (wanted_no_tick s P d t) h

answer_tick : (s : Setting) (P : Past) (x d : Entry) → is_tick d ≡ false → answers s P x d ≡ true → is_tick x ≡ false
answer_tick s P x d t h = ap is_tick (sym (comes_as s P x d t h)) ∙ wanted_no_tick s P d t

pub some_owed : (s : Setting) (P : Past) (e : Entry) (ds : List Entry) → (not (is_nothing ds) && next s P e ds) ≡ true
    → (d : Entry) × (rest : List Entry) × (ds ≡ d ∷ rest) × (answers s P e d ≡ true)
some_owed s P e [] h = absurd (false≢true h)
some_owed s P e (d ∷ rest) h = (d, rest, refl, h)

quiet_calls : (s : Setting) (P : Past) (e : Entry) → begins e ≡ false → is_tick e ≡ false → count is_tick (calls_for s P e) ≡ 0
quiet_calls s P (Emit v m k why) b t = no_ticks_in_offers (frame m k) (offered_to s P v)
quiet_calls s P (Accept v m k) b t = refl
quiet_calls s P (Full v m k) b t = refl
quiet_calls s P (SortDrop v m k) b t = refl
quiet_calls s P (Tick u) b t = absurd (true≢false t)
quiet_calls s P _ b t = absurd (true≢false b)

-- one more of a move that owes no tick
pub record Quietly (s : Setting) (P : Past) (e : Entry) : Type 0 where
  pub no_tick : is_tick e ≡ false
  pub after : count is_tick (owed s (e ∷ P)) ≡ 0

pub quietly : (s : Setting) (P : Past) (e d : Entry) (rest : List Entry) → count is_tick (owed s P) ≡ 0 → owed s P ≡ d ∷ rest → answers s P e d ≡ true
    → (is_tick d ≡ false) × Quietly s P e
quietly s P e d rest none is a =
    let all : count is_tick (owed s P) ≡ bit (is_tick d) + count is_tick rest = ap (count is_tick) is ∙ count-cons is_tick d rest in
    let quiet_d : is_tick d ≡ false = no_bit (is_tick d) (omega (arith, all, none)) in
    let quiet_e : is_tick e ≡ false = answer_tick s P e d quiet_d a in
    let left : count is_tick (drop 1 (owed s P)) ≡ count is_tick rest = ap (λ (ds : List Entry). count is_tick (drop 1 ds)) is in
    let calls = quiet_calls s P e (answer-follows s P e d a) quiet_e in
    (quiet_d, record { no_tick = quiet_e; after = omega (arith, count-append is_tick (calls_for s P e) (drop 1 (owed s P)), calls, left, all, none) })
  where
    no_bit : (b : Bool) → bit b ≡ 0 → b ≡ false
    no_bit true h = absurd (omega (arith, h))
    no_bit false h = refl

now-quiet : (e : Entry) (P : Past) → is_tick e ≡ false → now (e ∷ P) ≡ now P
now-quiet (Tick t) P h = absurd (true≢false h)
now-quiet _ P h = refl

-- where no tick is owed, none comes
now_stays : (s : Setting) (P : Past) (es : List Entry) → count is_tick (owed s P) ≡ 0 → follow s P es ≡ true → now (onto es P) ≡ now P
now_stays s P [] none h = refl
now_stays s P (e ∷ es) none h =
    let p = and_parts (not (is_nothing (owed s P)) && next s P e (owed s P)) (follow s (e ∷ P) es) h in
    let d = some_owed s P e (owed s P) p.0 in
    let q = (quietly s P e d.0 d.1 none d.2 d.3).1 in
    now_stays s (e ∷ P) es q.after p.1 ∙ now-quiet e P q.no_tick

ended : (b : Bool) → b ≡ true → not b ≡ true → ⊥
ended true h g = false≢true g
ended false h g = false≢true h

-- and then the rest is told
one_follow : (s : Setting) (P : Past) (es ds : List Entry) → count is_tick (owed s P) ≡ 0 → follow s P es ≡ true → follow s P ds ≡ true → es ≡ ds
one_follow s P [] [] none h g = refl
one_follow s P [] (d ∷ ds) none h g = absurd (ended (is_nothing (owed s P)) h (and_parts _ _ (and_parts _ _ g).0).0)
one_follow s P (e ∷ es) [] none h g = absurd (ended (is_nothing (owed s P)) g (and_parts _ _ (and_parts _ _ h).0).0)
one_follow s P (e ∷ es) (d ∷ ds) none h g =
    let p = and_parts (not (is_nothing (owed s P)) && next s P e (owed s P)) (follow s (e ∷ P) es) h in
    let q = and_parts (not (is_nothing (owed s P)) && next s P d (owed s P)) (follow s (d ∷ P) ds) g in
    let a = some_owed s P e (owed s P) p.0 in
    let b = some_owed s P d (owed s P) q.0 in
    let heads : a.0 ∷ a.1 ≡ b.0 ∷ b.1 = sym a.2 ∙ b.2 in
    let head : a.0 ≡ b.0 = cc in
    let quiet = quietly s P e a.0 a.1 none a.2 a.3 in
    let first_one : e ≡ d = sym (comes_as s P e a.0 quiet.0 a.3) ∙ (ap (wanted s P) head ∙ comes_as s P d b.0 (ap is_tick (sym head) ∙ quiet.0) b.3) in
    let g_e : follow s (e ∷ P) ds ≡ true = subst (λ (x : Entry). follow s (x ∷ P) ds ≡ true) (sym first_one) q.1 in
    let rest : es ≡ ds = one_follow s (e ∷ P) es ds quiet.1.after p.1 g_e in
    cc

pub is_Tick : (s : Setting) (P : Past) (e : Entry) (u : ℕ) → answers s P e (Tick u) ≡ true → (t : ℕ) × (e ≡ Tick t)
is_Tick s P (Tick t) u h = (t, refl)
is_Tick s P _ u h = absurd (false≢true h)

-- after the tick of a load
pub ticked : (s : Setting) (P : Past) (u : ℕ) (es : List Entry) → owed s P ≡ Tick u ∷ [] → follow s P es ≡ true
    → (t : ℕ) × (rest : List Entry) × (es ≡ Tick t ∷ rest) × (follow s (Tick t ∷ P) rest ≡ true) × (now (onto es P) ≡ t)
    × (count is_tick (owed s (Tick t ∷ P)) ≡ 0)
ticked s P u [] is h = absurd (false≢true (ap is_nothing (sym is) ∙ h))
ticked s P u (e ∷ es) is h =
    let p = and_parts (not (is_nothing (owed s P)) && next s P e (owed s P)) (follow s (e ∷ P) es) h in
    let d = some_owed s P e (owed s P) p.0 in
    let heads : d.0 ∷ d.1 ≡ Tick u ∷ [] = sym d.2 ∙ is in
    let head : d.0 ≡ Tick u = cc in
    let t = is_Tick s P e u (subst (λ (x : Entry). answers s P e x ≡ true) head d.3) in
    let on : follow s (Tick t.0 ∷ P) es ≡ true = subst (λ (x : Entry). follow s (x ∷ P) es ≡ true) t.1 p.1 in
    let left : count is_tick (drop 1 (owed s P)) ≡ 0 = ap (λ (ds : List Entry). count is_tick (drop 1 ds)) is in
    let none : count is_tick (owed s (Tick t.0 ∷ P)) ≡ 0 =
    omega (arith, count-append is_tick (calls_for s P (Tick t.0)) (drop 1 (owed s P)), looks-ticks s (Tick t.0 ∷ P) (node_numbers s), left) in
    let ends : now (onto es (e ∷ P)) ≡ t.0 = ap (λ (x : Entry). now (onto es (x ∷ P))) t.1 ∙ now_stays s (Tick t.0 ∷ P) es none on in
    (t.0, es, ap (λ (x : Entry). x ∷ es) t.1, on, ends, none)

one_part : (s : Setting) (P : Past) (owing es ds : List Entry) → owed s P ≡ owing → TickAlone owing → follow s P es ≡ true → follow s P ds ≡ true
    → now (onto es P) ≡ now (onto ds P) → es ≡ ds
one_part s P owing es ds is (inl none) h g n = one_follow s P es ds (ap (count is_tick) is ∙ none) h g
one_part s P [] es ds is (inr few) h g n = one_follow s P es ds (ap (count is_tick) is) h g
one_part s P (Tick u ∷ []) es ds is (inr few) h g n =
    let a = ticked s P u es is h in
    let b = ticked s P u ds is g in
    let tick : a.0 ≡ b.0 = sym a.4 ∙ (n ∙ b.4) in
    let b_on : follow s (Tick a.0 ∷ P) b.1 ≡ true = subst (λ (t : ℕ). follow s (Tick t ∷ P) b.1 ≡ true) (sym tick) b.3 in
    let rest : a.1 ≡ b.1 = one_follow s (Tick a.0 ∷ P) a.1 b.1 a.5 a.3 b_on in
    a.2 ∙ (ap (λ (t : ℕ). Tick t ∷ a.1) tick ∙ (ap (λ (xs : List Entry). Tick b.0 ∷ xs) rest ∙ sym b.2))
one_part s P (d ∷ []) es ds is (inr few) h g n = one_follow s P es ds (ap (count is_tick) is) h g
one_part s P (d ∷ x ∷ xs) es ds is (inr few) h g n = absurd (omega (arith, few))

one_rest : (s : Setting) (P : Past) (e : Entry) (es ds : List Entry) → is_history s P ≡ true → is_move s P (e ∷ es) ≡ true → is_move s P (e ∷ ds) ≡ true
    → now (onto (e ∷ es) P) ≡ now (onto (e ∷ ds) P) → es ≡ ds
one_rest s P e es ds h m n same =
    let a = and_parts (first s P e) (follow s (e ∷ P) es) m in
    let b = and_parts (first s P e) (follow s (e ∷ P) ds) n in
    let legal : is_legal s (e ∷ P) ≡ true = legal-first s P e h a.0 in
    one_part s (e ∷ P) (owed s (e ∷ P)) es ds refl (tick_alone s (e ∷ P) legal) a.1 b.1 same

pub move_laws : MoveLaws
move_laws = record { legal = cut-history; whole = whole; one_way = one_way; one_rest = one_rest; own_hand = own_hand }
