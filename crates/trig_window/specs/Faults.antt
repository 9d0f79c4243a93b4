-- The fault of a text that spells no expression, by the grammar alone.
use Rattle.std.specs.Prelude.{◌≡◌, ℕ, ◌≤◌, ◌<◌, ◌⊎◌, List, [], ◌∷◌, ◌++◌, length}
use Rattle.nd_base.specs.declared.graph.Sign.TheVariants.{Minus}
use Rattle.nd_base.specs.Trees.{Tree}
use Rattle.trig_window.specs.Marks.{Symbol}
use Rattle.trig_window.specs.Marks as symbol
use Rattle.trig_window.specs.Marks.{Token}
use Rattle.trig_window.specs.Levels as level
use Rattle.trig_window.specs.declared.expression.CalcFault.{CalcFault}
use Rattle.trig_window.specs.declared.expression.CalcFault.TheVariants.{OutOfMemory, TooLong, Unexpected, TooDeep}
use Rattle.trig_window.specs.Symbols.{tokens}
use Rattle.trig_window.specs.Grammar.{at_level, Spells, symbols_of, IsExpression}

-- an expression begins with these symbols, in which at most `free` signs and parentheses are open at once
pub record Begins (free : ℕ) (xs : List Symbol) : Type 0 where
  pub others : List Symbol
  pub expression : Tree
  pub spelled : Spells free (at_level level.Or) (xs ++ others) expression

-- the first symbol of the text with which none begins in which at most 32 are open at once
pub record StopsAt (text : List ℕ) (before : List Token) (t : Token) : Type 0 where
  pub after : List Token
  pub whole : tokens text ≡ before ++ t ∷ after
  pub before_it : Begins 32 (symbols_of before)
  pub with_it : ¬ Begins 32 (symbols_of (before ++ t ∷ []))

-- no expression begins so, however many are open at once
pub record IsUnexpected (text : List ℕ) (at : ℕ) : Type 0 where
  pub before : List Token
  pub found : Token
  pub stops : StopsAt text before found
  pub none : (free : ℕ) → ¬ Begins free (symbols_of (before ++ found ∷ []))
  pub place : at ≡ found.at

-- an expression begins with the whole text, but it is none
pub record EndsEarly (text : List ℕ) (at : ℕ) : Type 0 where
  pub begins : Begins 32 (symbols_of (tokens text))
  pub none : (e : Tree) → ¬ IsExpression text e
  pub place : at ≡ length text

-- what opens one more: a sign in front, or a parenthesis
pub data Opens : Symbol → Type 0 where
  opens_not : Opens symbol.Not
  opens_minus : Opens (symbol.Sign Minus)
  opens_parenthesis : Opens symbol.Open

-- an expression begins so, but only one in which 33 are open at once
pub record IsTooDeep (text : List ℕ) : Type 0 where
  pub before : List Token
  pub found : Token
  pub stops : StopsAt text before found
  pub opens : Opens found.symbol
  pub deeper : Begins 33 (symbols_of (before ++ found ∷ []))

-- the text has this fault
abbrev pub IsFault : List ℕ → CalcFault → Type 0
IsFault text TooLong = 256 < length text
IsFault text (Unexpected at) = (length text ≤ 256) × (IsUnexpected text at ⊎ EndsEarly text at)
IsFault text TooDeep = (length text ≤ 256) × IsTooDeep text
IsFault text OutOfMemory = ⊥
