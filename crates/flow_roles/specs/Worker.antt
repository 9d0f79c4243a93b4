-- A worker with a job in hand, and what its result has to be.
use Rattle.std.specs.Prelude.{◌≡◌, ℕ, ◌≤◌, true, List, length, Option, Some, None, is_some, IsTrue}
use Rattle.std.specs.List.{list_all}
use Rattle.std.specs.Option.{option_map_or}
use Rattle.nd_base.specs.Array.{StackValue}
use Rattle.nd_base.specs.GraphRules.{input_of}
use Rattle.nd_base.specs.declared.graph.Graph.{Graph}
use Rattle.frame_store.specs.Sealed.{Sealed}
use Rattle.chain_plain.specs.Nodes.{maker_at}
use Rattle.flow_journal.specs.Setting.{Setting, is_maker}
use Rattle.flow_journal.specs.Hands.{hand}
use Rattle.board_rules.specs.declared.answers.Done.{Done}
use Rattle.board_rules.specs.States.{past, lent_to}
use Rattle.board_rules.specs.InHand.{is_job_on, IsWholeOf, OfSome, IsOfHand}
use Rattle.board_rules.specs.RunMeasures.{run_setting, run_measure}
use Rattle.board_rules.specs.Working.{IsResult, TakeGives, LendsJob}
use Rattle.flow_roles.specs.Passes.{Pass}
use Rattle.flow_roles.specs.RoleMoves.{worker_logs, HasAsked}
use Rattle.flow_roles.specs.Lasts.{said_take}
use Rattle.board_rules.specs.declared.answers.Take.{Take}
use Rattle.flow_roles.specs.Feeder.{name_of, parts_of}

-- the array has the name of the maker of what comes to the node
abbrev pub ComesTo : Graph → ℕ → Sealed → Type 0
ComesTo g v input = input.name.maker ≡ maker_at g.nodes (input_of g.nodes v)

-- there is storage exactly at a maker, with room for an array of the node
pub record FitsNode (g : Graph) (stack : StackValue) (v : ℕ) (blank : Option (List ℕ)) : Type 0 where
  pub maker : is_some blank ≡ is_maker (run_setting g stack) v
  pub room : OfSome (λ b. (run_setting g stack).need v ≤ length b) blank

-- the worker has this job of its node in hand
pub record HasJob (g : Graph) (stack : StackValue) (r v : ℕ) (input : Sealed) (blank : Option (List ℕ)) (p : Pass) : Type 0 where
  pub role : p.role ≡ r
  pub moves : list_all (worker_logs v) (past p.made) ≡ true
  pub job : IsTrue (is_job_on v input.name (hand r (past p.made)))
  pub held : IsOfHand name_of parts_of length (lent_to r p.made) (hand r (past p.made)) (Some input) None blank
  pub comes : ComesTo g v input
  pub fits : FitsNode g stack v blank

-- the result of this job, on this storage
pub record IsJobDone (g : Graph) (stack : StackValue) (v : ℕ) (input : Sealed) (blank : Option (List ℕ)) (done : Done Sealed) : Type 0 where
  pub node : done.node ≡ v
  pub given : done.input ≡ input
  pub result : IsResult name_of (run_measure g stack) (run_setting g stack) done
  pub whole : OfSome (λ f. IsWholeOf (option_map_or length blank 0) (parts_of f)) done.made

-- with nothing in hand before it, the worker made this take, which was answered so
abbrev pub HasAskedTake : {O : Type 0} → Setting → (r v : ℕ) → Take Sealed (List ℕ) O → Pass → Type 0
HasAskedTake s r v a p =
    HasAsked s (worker_logs v) r (λ old new. TakeGives name_of parts_of length s old r v a new) (said_take a) p × LendsJob parts_of length s r v a p.made
