-- What the clauses say of the calls that are made beside this thread, each with one element of a list.
use Rattle.std.specs.Prelude.{◌≡◌, ℕ, ◌<◌, Bool, List, length, slice_index_or}
use denote.Ref.{MutBor}
use denote.Param.Members.{Shared}

module _ {F T : Type 0} (g : Shared F (Bool × (MutBor T × Unit {0})) ((Unit {0}) × (MutBor T × Unit {0}))) (f : F) where
  -- f may be called with a `&mut` to x, whether it has a thread of its own or not
  abbrev pub Accepts : T → Type 0
  Accepts x = (has_thread : Bool) (p : MutBor T) → p.now ≡ x → g.pre f (has_thread, (p, tt))

  -- a call of f with a `&mut` to x may leave y there
  pub record Changes (x y : T) : Type 0 where
    pub has_thread : Bool
    pub argument : MutBor T
    pub argument_is : argument.now ≡ x
    pub after_call : MutBor T
    pub call : g.post f (has_thread, (argument, tt)) (tt, (after_call, tt))
    pub left : after_call.now ≡ y

  -- f may be called so with each element of xs
  abbrev pub AcceptsEach : List T → Type 0
  AcceptsEach xs = (k : ℕ) (has_thread : Bool) (p : MutBor T) → k < length xs → p.now ≡ slice_index_or xs k p.now → g.pre f (has_thread, (p, tt))

  -- each element of ys is what a call of f left at that place of xs
  abbrev pub ChangesEach : List T → List T → Type 0
  ChangesEach xs ys = (k : ℕ) (d : T) → k < length xs → Changes (slice_index_or xs k d) (slice_index_or ys k d)
