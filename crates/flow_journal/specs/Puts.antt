-- The results that were put at a node.
use Rattle.std.specs.Prelude.{ℕ, Bool, List, [], ◌∷◌}
use Rattle.nd_base.specs.declared.frame.FrameName.{FrameName}
use Rattle.flow_journal.specs.declared.entry.Entry.TheVariants.{Put}
use Rattle.flow_journal.specs.Pasts.{Past, frame, comes_at}

-- the arrays that were put at the node, in order
abbrev pub puts : ℕ → Past → List FrameName
puts v [] = []
puts v (Put r w m k f ∷ P) = comes_at v w (frame m k) (puts v P)
puts v (e ∷ P) = puts v P

-- whether each of them fired
abbrev pub firings : ℕ → Past → List Bool
firings v [] = []
firings v (Put r w m k f ∷ P) = comes_at v w f (firings v P)
firings v (e ∷ P) = firings v P
