-- What the code's symbols and levels stand for.
use Rattle.trig_window.specs.declared.symbols.Symbol as coded
use Rattle.trig_window.specs.declared.symbols.Symbol.TheVariants as coded_symbol
use Rattle.trig_window.specs.declared.expression.Level as coded_levels
use Rattle.trig_window.specs.declared.expression.Level.TheVariants as coded_level
use Rattle.trig_window.specs.Marks as symbol
use Rattle.trig_window.specs.Levels as level

abbrev pub symbol_of : coded.Symbol → symbol.Symbol
symbol_of (coded_symbol.Number v) = symbol.Number v
symbol_of coded_symbol.A = symbol.A
symbol_of coded_symbol.B = symbol.B
symbol_of (coded_symbol.Sign s) = symbol.Sign s
symbol_of coded_symbol.Not = symbol.Not
symbol_of coded_symbol.Open = symbol.Open
symbol_of coded_symbol.Close = symbol.Close
symbol_of coded_symbol.Unknown = symbol.Unknown

abbrev pub level_of : coded_levels.Level → level.Level
level_of coded_level.Or = level.Or
level_of coded_level.And = level.And
level_of coded_level.Comparison = level.Comparison
level_of coded_level.Sum = level.Sum
level_of coded_level.Product = level.Product
