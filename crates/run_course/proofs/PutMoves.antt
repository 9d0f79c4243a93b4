-- The move of a put: it is legal, and what it makes.
use Rattle.std.proofs.Common.{◌≡◌, ◌∙◌, ℕ, zero, suc, true, false, Bool, [], ◌∷◌, Option, Some, None, refl, sym, ap, subst}
use Rattle.std.specs.Prelude.{slice_get, if◌then◌else◌}
use Rattle.std.proofs.lemmas.Bool.{and_from, eq-eqb, false≢true}
use Rattle.std.proofs.lemmas.List.{get_or-map}
use Rattle.std.proofs.lemmas.Option.{get_or_from_slice_get, slice_get_within}
use Rattle.nd_base.specs.Array.{Array, StackValue}
use Rattle.nd_base.specs.declared.frame.FrameName.{FrameName}
use Rattle.nd_base.specs.declared.graph.Graph.{Graph}
use Rattle.nd_base.specs.declared.graph.Kind.{Kind}
use Rattle.nd_base.specs.declared.graph.Kind.TheVariants.{Roi, Stats, Circular, File, Scatter}
use Rattle.nd_base.specs.declared.graph.NodeRule.{NodeRule}
use Rattle.flow_journal.specs.declared.entry.Entry.{Entry}
use Rattle.flow_journal.specs.declared.entry.Entry.TheVariants.{Take, TakeBlock, Put}
use Rattle.flow_journal.specs.Setting.{Setting, Work, Makes, Passes, Watches, Saves, Node, no_node, node, makes, is_maker}
use Rattle.flow_journal.specs.RunSetting.{node_of, work_of}
use Rattle.flow_journal.specs.Unsaved.{is_file}
use Rattle.flow_journal.specs.Pasts.{Past, frame, same}
use Rattle.flow_journal.specs.Hands.{hand}
use Rattle.flow_journal.specs.FirstEntries.{first, both, is_result_of}
use Rattle.flow_journal.specs.Following.{result}
use Rattle.flow_journal.specs.Histories.{is_legal, is_history}
use Rattle.flow_journal.specs.Pushes.{history-owes, push-first}
use Rattle.flow_journal.proofs.Steps.{same_refl}
use Rattle.board_rules.specs.States.{BoardState, past, plain}
use Rattle.board_rules.specs.Moving.{moved, with_all}
use Rattle.flow_journal.specs.ResultNames.{result_name}
use Rattle.board_rules.specs.RunMeasures.{run_setting, run_measure, kind_measure}
use Rattle.chain_plain.specs.Content.{content}
use Rattle.run_course.specs.Puts.{saves_all, put_of, fires_for}
use Rattle.run_course.proofs.Handed.{JobOn, IsGrantedFor}

both-same : (b : Bool) → both b b ≡ true
both-same true = refl
both-same false = refl

-- the row of a put, for the job in hand
pub put-first : (s : Setting) (v r : ℕ) (a : FrameName) (f : Bool) (P : Past) → JobOn s v r a P → f ≡ fires_for s v a → first s P (put_of s r v a f) ≡ true
put-first s v r a f P job fires = and_from _ _ (by job.entry job.has.held job.kind) (subst (λ b. both f b ≡ true) fires (both-same f)) where
  by : (e : Entry) → hand r P ≡ Some e → IsGrantedFor s v a e → is_result_of v (frame (result_name s v a).maker a.index) (hand r P) ≡ true
  by (Take q w m k) held kind =
      let name : result_name s v a ≡ a = rw kind.0 refl in
      rw (held, name) (and_from _ _ (eq-eqb w v kind.1) (subst (λ b. same a b ≡ true) (sym kind.2) (same_refl a)))
  by (TakeBlock g x q w m k b n z) held kind =
      let name : result_name s v a ≡ frame v a.index = rw kind.0 refl in
      rw (held, name) (and_from _ _ (eq-eqb w v kind.1)
      (subst (λ j. same (frame v a.index) (frame v j) ≡ true) (sym (ap (λ (c : FrameName). c.index) kind.2)) (same_refl (frame v a.index))))
  by _ held kind = absurd kind

-- the whole move is legal, and so is its first entry
pub put-legal : (s : Setting) (v r : ℕ) (a : FrameName) (f : Bool) (b : BoardState) → is_history s (past b) ≡ true → JobOn s v r a (past b)
    → f ≡ fires_for s v a → is_legal s (put_of s r v a f ∷ past b) ≡ true
put-legal s v r a f b h job fires =
    (push-first {s = s} {P = past b} (put_of s r v a f) (history-owes {s = s} {P = past b} h) (put-first s v r a f (past b) job fires)).legal

pub whole-name : (s : Setting) (v : ℕ) (a : FrameName) → frame (result_name s v a).maker a.index ≡ result_name s v a
whole-name s v a = by (is_maker s v) where
  by : (b : Bool) → frame (if b then frame v a.index else a).maker a.index ≡ (if b then frame v a.index else a)
  by true = refl
  by false = refl

-- a file node lets nothing out
calls-file : (s : Setting) (v : ℕ) (a : FrameName) (f : Bool) (P : Past) (w : Work) → is_file w ≡ true → result s v a f P w ≡ []
calls-file s v a f P Makes h = absurd (false≢true h)
calls-file s v a f P (Passes d) h = absurd (false≢true h)
calls-file s v a f P (Watches pre post preset) h = absurd (false≢true h)
calls-file s v a f P (Saves whole n) h = refl

pub moved-file : (s : Setting) (r v : ℕ) (a : FrameName) (f : Bool) (b : BoardState) → saves_all s v ≡ true → is_maker s v ≡ false
    → plain (Put r v a.maker a.index f) ∷ b ≡ moved s (plain (put_of s r v a f)) b
moved-file s r v a f b h passes =
    let name : result_name s v a ≡ a = rw passes refl in
    sym (ap (λ ds. with_all s 0 3 ds (plain (put_of s r v a f) ∷ b)) (calls-file s v (frame (result_name s v a).maker a.index) f (past b) (node s v).work h)
    ∙ ap (λ (n : FrameName). plain (Put r v n.maker a.index f) ∷ b) name)

-- MEASURES
-- a node that makes arrays measures none
maker-measures-none : (k : Kind) → makes (work_of k) ≡ true → (x : Option Array) → kind_measure k x ≡ None
maker-measures-none (Roi q) h x = refl
maker-measures-none (Stats q) h x = absurd (false≢true h)
maker-measures-none (Circular q) h x = absurd (false≢true h)
maker-measures-none (File q) h x = absurd (false≢true h)
maker-measures-none Scatter h x = absurd (false≢true h)

none-measured : (g : Graph) (t : StackValue) (v : ℕ) (a : FrameName) → is_maker (run_setting g t) v ≡ true → run_measure g t v a ≡ None
none-measured g t zero a h = refl
none-measured g t (suc k) a h = by (slice_get g.nodes k) refl where
  by : (o : Option NodeRule) → slice_get g.nodes k ≡ o → run_measure g t (suc k) a ≡ None
  by None is = rw is refl
  by (Some n) is =
      let here : node (run_setting g t) (suc k) ≡ node_of n =
      get_or-map node_of g.nodes k n no_node (slice_get_within g.nodes k n is) ∙ ap node_of (get_or_from_slice_get g.nodes k n n is) in
      rw is (maker-measures-none n.kind (sym (ap (λ (m : Node). makes m.work) here) ∙ h) (content g.nodes t.arrays a))

-- what is measured of a job's array is measured of its result
pub result-measures : (g : Graph) (t : StackValue) (v : ℕ) (a : FrameName) → run_measure g t v a ≡ run_measure g t v (result_name (run_setting g t) v a)
result-measures g t v a = by (is_maker (run_setting g t) v) refl where
  by : (b : Bool) → is_maker (run_setting g t) v ≡ b → run_measure g t v a ≡ run_measure g t v (result_name (run_setting g t) v a)
  by true is = none-measured g t v a is ∙ sym (none-measured g t v (result_name (run_setting g t) v a) is)
  by false is =
      let name : result_name (run_setting g t) v a ≡ a = rw is refl in
      ap (run_measure g t v) (sym name)
