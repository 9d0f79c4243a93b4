-- Parts of the worked logs, which stand the oldest entry first.
use Rattle.std.specs.Prelude.{ℕ, Bool, true, false, List, [], ◌∷◌, ◌++◌, reverse, ℤ}
use Rattle.flow_journal.specs.declared.entry.Entry.{Entry}
use Rattle.flow_journal.specs.declared.entry.Entry.TheVariants.{Load, Tick, Issue, Emit, Accept, Full, Take, Put}
use Rattle.flow_journal.specs.declared.entry.Why.TheVariants.{Plain, Step}
use Rattle.flow_journal.specs.Setting.{Setting, Work}
use Rattle.flow_journal.specs.Pasts.{Past}

-- one node on the driver, whose trigger never fires; each array takes 4 bytes
abbrev pub one_node : Work → (queue threads sort sort_time limit : ℕ) → Bool → List ℤ → Setting
one_node work queue threads sort sort_time limit wait ids =
    record {
      wait = wait;
      pooled = true;
      limit = limit;
      nodes = record { work = work; input = 0; queue = queue; threads = threads; sort = sort; sort_time = sort_time } ∷ [];
      ids = ids;
      need = λ m. 4;
      fires = λ v k. false;
    }

-- the past after these entries
abbrev pub after : List Entry → Past
after = reverse

-- frame k is loaded at this tick into a fresh block of its number
abbrev pub loaded : (k tick : ℕ) → List Entry
loaded k tick = Load 0 k k 4 true 0 false ∷ Tick tick ∷ []

-- frame k is issued and accepted
abbrev pub issued : ℕ → List Entry
issued k = Issue 0 k ∷ Emit 0 0 k Plain ∷ Accept 1 0 k ∷ []

-- frame k is issued and finds the queue full
abbrev pub issued_in_vain : ℕ → List Entry
issued_in_vain k = Issue 0 k ∷ Emit 0 0 k Plain ∷ Full 1 0 k ∷ []

abbrev pub fed : ℕ → List Entry
fed k = loaded k 0 ++ issued k

abbrev pub taken : (r k : ℕ) → List Entry
taken r k = Take r 1 0 k ∷ []

abbrev pub put : (r k : ℕ) → List Entry
put r k = Put r 1 0 k false ∷ []

abbrev pub steps_out : ℕ → List Entry
steps_out k = Emit 1 0 k Step ∷ []
