-- The seats where one worker makes a call.
use Rattle.std.proofs.Common.{◌≡◌, ◌⊎◌, ℕ, zero, suc, ◌<◌, List, [], ◌∷◌, length, refl, sym, ap, ◌∙◌, subst, Some, inl, inr}
use Rattle.std.specs.Prelude.{slice_get, slice_set, slice_index_or, Result, Ok, Err, OnOk}
use Rattle.std.proofs.lemmas.List.{length-set}
use Rattle.std.proofs.lemmas.Option.{slice_get-get_or}
use Rattle.nd_base.specs.Array.{StackValue}
use Rattle.nd_base.specs.declared.graph.Graph.{Graph}
use Rattle.frame_store.specs.Sealed.{Sealed}
use Rattle.flow_roles.specs.Passes.{Pass}
use Rattle.board_cases.specs.declared.seats.Feeder.{Feeder}
use Rattle.board_cases.specs.declared.seats.Worker.{Worker}
use Rattle.board_cases.specs.declared.seats.Saver.{Saver}
use Rattle.board_cases.specs.declared.seats.Seats.{Seats}
use Rattle.board_cases.specs.Seats.{IsFeeding, IsWorking, IsSaving, AreSeated}

-- a list in which one item was replaced
at-set : {X : Type 0} (xs : List X) (k : ℕ) (a : X) (j : ℕ) (x : X) → slice_get (slice_set xs k a) j ≡ Some x → ((j ≡ k) × (a ≡ x)) ⊎ (slice_get xs j ≡ Some x)
at-set [] k a j x h = cc
at-set (y ∷ ys) zero a zero x h = let is : a ≡ x = cc in inl (refl, is)
at-set (y ∷ ys) zero a (suc j) x h = inr h
at-set (y ∷ ys) (suc k) a zero x h = inr h
at-set (y ∷ ys) (suc k) a (suc j) x h =
    elim (at-set ys k a j x h) [
      | inl both ↦ inl (ap suc both.0, both.1)
      | inr there ↦ inr there
    ]

module _ {P : Type 0} (ours : P → Type 0) (knows : P → Pass) (g : Graph) (stack : StackValue) (x : Seats Sealed P) (a : AreSeated ours knows g stack x) where
  pub working-at : (r k : ℕ) (w : Worker Sealed P) → r ≡ suc k → k < length x.workers.items
      → w ≡ slice_index_or x.workers.items k w → IsWorking ours knows g stack r w
  working-at r k w is low here =
      subst (λ (q : ℕ). IsWorking ours knows g stack q w) (sym is)
      (a.workers k w (slice_get-get_or x.workers.items k w low ∙ ap (λ (v : Worker Sealed P). Some v) (sym here)))

  pub seated-set : (y : Seats Sealed P) (r k : ℕ) (w : Worker Sealed P) → r ≡ suc k → y.feeder ≡ x.feeder → y.saver ≡ x.saver
      → y.workers.items ≡ slice_set x.workers.items k w
      → IsWorking ours knows g stack r w → AreSeated ours knows g stack y
  seated-set y r k w is feeder saver items h =
      record {
        feeder = subst (λ (f : Feeder P). IsFeeding ours knows g stack f) (sym feeder) a.feeder;
        many = ap (λ (ws : List (Worker Sealed P)). suc (length ws)) items ∙ (ap suc (length-set x.workers.items k w) ∙ a.many);
        workers = λ j v at.
            elim (at-set x.workers.items k w j v (ap (λ (ws : List (Worker Sealed P)). slice_get ws j) (sym items) ∙ at)) [
              | inl both ↦
                  let role : r ≡ suc j = is ∙ ap suc (sym both.0) in
                  subst (λ (q : ℕ). IsWorking ours knows g stack q v) role (subst (λ (u : Worker Sealed P). IsWorking ours knows g stack r u) both.1 h)
              | inr there ↦ a.workers j v there
            ];
        saver = subst (λ (f : Saver Sealed P). IsSaving ours knows g stack f) (sym saver) a.saver;
      }

pub on-ok : {X E : Type 0} (r : Result X E) (A B : Type 0) → (A → B) → OnOk r A → OnOk r B
on-ok (Ok x) A B goes h = goes h
on-ok (Err e) A B goes h = h
