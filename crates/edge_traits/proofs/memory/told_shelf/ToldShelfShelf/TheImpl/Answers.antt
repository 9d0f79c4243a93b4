use Rattle.edge_traits.proofs.Untold.{always-IfOk}
use Rattle.edge_traits.proofs.memory.told_shelf.ToldShelfShelf.TheImpl.Goals as goal

pub finish_all-tells : goal.finish_all-tells
finish_all-tells g c = record {
  files = c.ensures.files;
  finished = always-IfOk c.result (λ _. tt);
  cause = c.ensures.cause;
}
