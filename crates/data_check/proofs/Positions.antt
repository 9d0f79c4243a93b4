-- The positions of what went out of a node, as the log tells them.
use Rattle.std.proofs.Common.{◌≡◌, ℕ, ◌+◌, ◌<◌, ◌≤◌, Bool, true, false, eqb, ltb, List, [], ◌∷◌, ◌++◌, Option, None, Some, length, take, get_or}
use Rattle.std.proofs.Common.{reverse, filter, refl, sym, ap, ◌∙◌, inl, inr, arith}
use Rattle.std.specs.Prelude.{All, if◌then◌else◌}
use Rattle.std.specs.Bool.{then_some}
use Rattle.std.specs.List.{cons_option, filter_map}
use Rattle.std.specs.Option.{option_map}
use Rattle.std.proofs.lemmas.Bool.{and_parts, cases_Bool, lt-ltb, le-ltb, ltb-true, ltb-false}
use Rattle.std.proofs.lemmas.List.{append-nil, map-append, reverse-append, take_all, take_more}
use Rattle.std.proofs.lemmas.Option.{slice_get_past}
use Rattle.std.proofs.lemmas.List.Elements.{filter-append, filter_map-append, filter_passes, All-weaker}
use Rattle.nd_base.specs.Array.{Array}
use Rattle.nd_base.specs.declared.frame.FrameName.{FrameName}
use Rattle.nd_base.specs.declared.graph.NodeRule.{NodeRule}
use Rattle.nd_base.specs.GraphRules.{rule_at}
use Rattle.nd_roi.specs.Region.{region}
use Rattle.chain_plain.specs.Content.{content}
use Rattle.chain_plain.specs.ContentLaws.{frame}
use Rattle.chain_plain.specs.OneThread.{arrays_out, listed}
use Rattle.chain_plain.specs.Passing.{out_of}
use Rattle.chain_plain.specs.Plans.{makers_of}
use Rattle.flow_journal.specs.declared.entry.Entry.{Entry}
use Rattle.flow_journal.specs.declared.entry.Entry.TheVariants.{Put, Emit}
use Rattle.flow_journal.specs.Setting.{Setting, node}
use Rattle.flow_journal.specs.RunSetting.{work_of}
use Rattle.flow_journal.specs.Accepted.{emitted}
use Rattle.flow_journal.specs.Pasts.{Past, comes_at}
use Rattle.flow_journal.specs.Puts.{puts}
use Rattle.flow_journal.specs.Unsaved.{standing_saves, unsaved, is_file}
use Rattle.flow_journal.specs.DueLaws.{saved_count}
use Rattle.flow_journal.specs.Histories.{is_legal}
use Rattle.flow_journal.proofs.Dues.{due_laws}
use Rattle.board_rules.specs.RunMeasures.{run_setting}
use Rattle.run_laws.specs.Results.{indices, put_out}
use Rattle.run_laws.proofs.Makers.{contents-are, out-named}
use Rattle.run_laws.proofs.Runs.{known}
use Rattle.flow_saver.proofs.Groups.{all-saved}
use Rattle.data_check.specs.Histories.{HistoryValue, IsHistory, position_in, arrays_at, all_arrays}

-- IN A LOG

-- what leaves a node: what is put there, where it saves that, and else what it emits
abbrev pub left : (saves : Bool) → (v : ℕ) → Past → List FrameName
left saves v P = if saves then puts v P else emitted v P

comes-index : (v w : ℕ) (a : FrameName) (xs : List FrameName) → indices (comes_at v w a xs) ≡ indices xs ++ cons_option (then_some (eqb w v) a.index) []
comes-index v w a xs =
    elim (cases_Bool (eqb w v)) [
      | inl here ↦ rw here (map-append (λ (b : FrameName). b.index) xs (a ∷ []))
      | inr away ↦ rw away (sym (append-nil (indices xs)))
    ]

left-more : (saves : Bool) (v : ℕ) (e : Entry) (P : Past) → indices (left saves v (e ∷ P)) ≡ indices (left saves v P) ++ cons_option (position_in saves v e) []
left-more true v (Put r w m k fired) P = comes-index v w (frame m k) (puts v P)
left-more false v (Emit w m k why) P = comes-index v w (frame m k) (emitted v P)
left-more true v _ P = sym (append-nil (indices (puts v P)))
left-more false v _ P = sym (append-nil (indices (emitted v P)))

pub positions-left : (saves : Bool) (v : ℕ) (P : Past) → filter_map (position_in saves v) (reverse P) ≡ indices (left saves v P)
positions-left true v [] = refl
positions-left false v [] = refl
positions-left saves v (e ∷ P) =
    ap (filter_map (position_in saves v)) (reverse-append (e ∷ []) P) ∙ filter_map-append (position_in saves v) (reverse P) (e ∷ [])
    ∙ (ap (λ ks. ks ++ cons_option (position_in saves v e) []) (positions-left saves v P) ∙ sym (left-more saves v e P))

-- one entry more
module _ (saves : Bool) (v frames : ℕ) where
  abbrev told : List Entry → List ℕ
  told es = filter (λ k. ltb k frames) (filter_map (position_in saves v) es)

  pub told-more : (es : List Entry) (i : ℕ) (d : Entry) (ps qs : List ℕ) (o : Option ℕ) → i < length es → ps ≡ told (take i es)
      → o ≡ position_in saves v (get_or es i d)
      → qs ≡ ps ++ filter (λ k. ltb k frames) (cons_option o []) → qs ≡ told (take (i + 1) es)
  told-more es i d ps qs o within before is after =
      let e = get_or es i d in
      let one : told (e ∷ []) ≡ filter (λ k. ltb k frames) (cons_option o []) = ap (λ (p : Option ℕ). filter (λ k. ltb k frames) (cons_option p [])) (sym is) in
      after ∙ (ap (λ ks. ks ++ filter (λ k. ltb k frames) (cons_option o [])) before ∙ ap (λ ks. told (take i es) ++ ks) (sym one))
      ∙ sym (ap told (take_more es i d within) ∙ (ap (filter (λ k. ltb k frames)) (filter_map-append (position_in saves v) (take i es) (e ∷ []))
      ∙ filter-append (λ k. ltb k frames) (filter_map (position_in saves v) (take i es)) (filter_map (position_in saves v) (e ∷ []))))

  pub one-within : (o : Option ℕ) (k : ℕ) → o ≡ Some k → k < frames → k ∷ [] ≡ filter (λ j. ltb j frames) (cons_option o [])
  one-within o k is below = rw (is, lt-ltb k frames below) refl

  pub one-past : (o : Option ℕ) (k : ℕ) → o ≡ Some k → frames ≤ k → [] ≡ filter (λ j. ltb j frames) (cons_option o [])
  one-past o k is past = rw (is, le-ltb k frames past) refl

  pub one-none : (o : Option ℕ) → o ≡ None → [] ≡ filter (λ j. ltb j frames) (cons_option o [])
  one-none o is = rw is refl

-- OF A STACK

module _ (nodes : List NodeRule) (arrays : List Array) (v : ℕ) where
  -- the stack has no other frames
  pub arrays_out-within : (ks : List ℕ) → arrays_out nodes arrays v (filter (λ k. ltb k (length arrays)) ks) ≡ arrays_out nodes arrays v ks
  arrays_out-within [] = refl
  arrays_out-within (k ∷ ks) =
      elim (cases_Bool (ltb k (length arrays))) [
        | inl here ↦ rw here (ap (λ xs. listed (content nodes arrays (frame v k)) ++ xs) (arrays_out-within ks))
        | inr past ↦
            let none : content nodes arrays (frame v k) ≡ None =
            ap (option_map (out_of region nodes v)) (slice_get_past arrays k (ltb-false k (length arrays) past)) in
            rw past (arrays_out-within ks ∙ sym (ap (λ (o : Option Array). listed o ++ arrays_out nodes arrays v ks) none))
      ]

pub all-within : (n : ℕ) (ks : List ℕ) → All (λ k. k < n) (filter (λ k. ltb k n) ks)
all-within n ks = All-weaker (λ k. ltb k n ≡ true) (λ k. k < n) (λ k is. ltb-true k n is) (filter (λ k. ltb k n) ks) (filter_passes (λ k. ltb k n) ks)

-- OF A FINISHED RUN

module _ (h : HistoryValue) (known_ : IsHistory h) (v : ℕ) (n : NodeRule) (rule : rule_at h.graph.nodes v ≡ Some n) where
  abbrev s : Setting
  s = run_setting h.graph h.stack

  pub legal : is_legal s h.past ≡ true
  legal = (and_parts (is_legal s h.past) _ known_.run.legal).0

  work-is : (node s v).work ≡ work_of n.kind
  work-is = (known h.graph (makers_of h.graph.nodes h.stack.shape) h.stack.arrays v n n.kind rule refl).work

  -- a file node saved all that was put there
  pub saves-puts : is_file (work_of n.kind) ≡ true → standing_saves v h.past ≡ puts v h.past
  saves-puts saves =
      let file : is_file (node s v).work ≡ true = ap is_file work-is ∙ saves in
      let number = (known h.graph (makers_of h.graph.nodes h.stack.shape) h.stack.arrays v n n.kind rule refl).number in
      let none : length (unsaved s v h.past) ≡ 0 = ap (λ (ns : List FrameName). length ns) (all-saved s h.past v known_.run.finished number) in
      let counts = due_laws.counts s v h.past legal file in
      due_laws.saved s v h.past legal file ∙ take_all (saved_count v h.past) (puts v h.past) (omega (arith, none, counts))

  -- so that is what went out of it
  pub out-saves : is_file (work_of n.kind) ≡ true → put_out s v h.past ≡ standing_saves v h.past
  out-saves saves = ap (λ b. if b then standing_saves v h.past else emitted v h.past) (ap is_file work-is ∙ saves)

  pub out-emits : is_file (work_of n.kind) ≡ false → put_out s v h.past ≡ emitted v h.past
  out-emits passes = ap (λ b. if b then standing_saves v h.past else emitted v h.past) (ap is_file work-is ∙ passes)

  left-by : (b : Bool) → is_file (work_of n.kind) ≡ b → left b v h.past ≡ put_out s v h.past
  left-by true is = sym (out-saves is ∙ saves-puts is)
  left-by false is = sym (out-emits is)

  -- what left it is what went out of it
  pub left-out : left (is_file (work_of n.kind)) v h.past ≡ put_out s v h.past
  left-out = left-by (is_file (work_of n.kind)) refl

  -- and so are the arrays at its positions
  pub arrays-left : (ks : List ℕ) → ks ≡ filter (λ k. ltb k (length h.stack.arrays)) (filter_map (position_in (is_file (work_of n.kind)) v) (reverse h.past))
      → arrays_at h v ks ≡ all_arrays h v
  arrays-left ks is =
      let makers = makers_of h.graph.nodes h.stack.shape in
      ap (arrays_out h.graph.nodes h.stack.arrays v) (is ∙ ap (filter (λ k. ltb k (length h.stack.arrays)))
      (positions-left (is_file (work_of n.kind)) v h.past ∙ ap indices left-out))
      ∙ (arrays_out-within h.graph.nodes h.stack.arrays v (indices (put_out s v h.past))
      ∙ sym (contents-are h.graph makers h.stack.arrays h.past known_.graph known_.run.legal v (put_out s v h.past)
      (out-named h.graph makers h.stack.arrays h.past known_.graph known_.run.legal v n rule known_.run)))
