-- Worked logs of a node that deals its arrays out to two others, with queues of these sizes.
use Rattle.std.specs.Prelude.{◌≡◌, ℕ, true, false, List, [], ◌∷◌, ◌++◌, reverse, flat_map, pos, refl}
use Rattle.flow_journal.specs.declared.entry.Entry.{Entry}
use Rattle.flow_journal.specs.declared.entry.Entry.TheVariants.{Load, Tick, Issue, Emit, Accept, Full, Take, Put}
use Rattle.flow_journal.specs.declared.entry.Why.TheVariants.{Plain}
use Rattle.flow_journal.specs.Setting.{Setting, Node, Work, Passes}
use Rattle.flow_journal.specs.Histories.{is_history, is_legal}

abbrev one_thread : Work → (input queue : ℕ) → Node
one_thread work input queue = record { work = work; input = input; queue = queue; threads = 1; sort = 0; sort_time = 100 }

abbrev dealing : (a b : ℕ) → Setting
dealing a b =
    record {
      wait = false;
      pooled = true;
      limit = 0;
      nodes = one_thread (Passes true) 0 20 ∷ one_thread (Passes false) 1 a ∷ one_thread (Passes false) 1 b ∷ [];
      ids = pos 1 ∷ pos 2 ∷ pos 3 ∷ pos 4 ∷ [];
      need = λ m. 4;
      fires = λ v k. false;
    }

-- frame k comes to the dealing node
abbrev fed : ℕ → List Entry
fed k = Load 0 k k 4 true 0 false ∷ Tick 0 ∷ Issue 0 k ∷ Emit 0 0 k Plain ∷ Accept 1 0 k ∷ []

-- the node deals it out, and this is what becomes of it
abbrev dealt : ℕ → Entry → List Entry
dealt k e = Take 1 1 0 k ∷ Put 1 1 0 k false ∷ Emit 1 0 k Plain ∷ e ∷ []

abbrev all_fed : List Entry
all_fed = flat_map fed (0 ∷ 1 ∷ 2 ∷ 3 ∷ [])

-- one after the other
in_turns : is_history (dealing 20 20)
    (reverse (all_fed ++ dealt 0 (Accept 2 0 0) ++ dealt 1 (Accept 3 0 1) ++ dealt 2 (Accept 2 0 2) ++ dealt 3 (Accept 3 0 3))) ≡ true
in_turns = refl

-- a full child is passed over
past_a_full_one : is_history (dealing 1 20)
    (reverse (all_fed ++ dealt 0 (Accept 2 0 0) ++ dealt 1 (Accept 3 0 1) ++ dealt 2 (Accept 3 0 2) ++ dealt 3 (Accept 3 0 3))) ≡ true
past_a_full_one = refl

-- where all are full the turns go on
all_full : is_history (dealing 1 1)
    (reverse (all_fed ++ dealt 0 (Accept 2 0 0) ++ dealt 1 (Accept 3 0 1) ++ dealt 2 (Full 2 0 2) ++ dealt 3 (Full 3 0 3))) ≡ true
all_full = refl

-- not to the first child always,
first_always : is_legal (dealing 20 20) (reverse (all_fed ++ dealt 0 (Accept 2 0 0) ++ dealt 1 (Accept 2 0 1))) ≡ false
first_always = refl

-- nor to a full one while another has room
full_one_first : is_legal (dealing 1 20) (reverse (all_fed ++ dealt 0 (Accept 2 0 0) ++ dealt 1 (Accept 3 0 1) ++ dealt 2 (Full 2 0 2))) ≡ false
full_one_first = refl
