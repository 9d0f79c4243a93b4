-- A file node of the list, which a call changed and that is put back.
use Rattle.std.proofs.Common.{◌≡◌, ℕ, List, Option, Some, set, sym, ap, ◌∙◌}
use Rattle.std.specs.Prelude.{slice_get}
use Rattle.std.proofs.lemmas.Option.{same_Some}
use Rattle.file_out.specs.Streams.{Stream}
use Rattle.graph_files.specs.NodeFiles.{NodeFile}

module _ (xs ys : List NodeFile) (k : ℕ) (y z x : NodeFile) (o : Option Stream) (at : slice_get xs k ≡ Some z) (is : slice_get xs k ≡ Some x)
    (node : y ≡ record z { current = o }) (made : ys ≡ set xs k y) where
  same_node : z ≡ x
  same_node = same_Some z x (sym at ∙ is)

  pub put-back : ys ≡ set xs k (record x { current = o })
  put-back = made ∙ ap (set xs k) (node ∙ ap (λ (w : NodeFile). record w { current = o }) same_node)

  pub this-node : y ≡ record x { current = o }
  this-node = node ∙ ap (λ (w : NodeFile). record w { current = o }) same_node

  pub the-node : z ≡ x
  the-node = same_node
