-- Attributes by name.
use Rattle.std.specs.Prelude.{ℕ, List, Option}
use Rattle.std.specs.List.{find}
use Rattle.std.specs.Option.{option_map}
use Rattle.std.specs.Str.{bytes_eq}
use Rattle.nd_base.specs.declared.attribute.Attr.{Attr}
use Rattle.nd_base.specs.declared.attribute.AttrValue.{AttrValue}

-- the value of the first attribute of this name
abbrev pub attr_of : List ℕ → List Attr → Option AttrValue
attr_of name attrs = option_map (λ a. a.value) (find (λ a. bytes_eq a.name name) attrs)
