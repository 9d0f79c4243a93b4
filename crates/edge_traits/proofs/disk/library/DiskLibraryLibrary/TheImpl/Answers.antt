use Rattle.std.proofs.Common.{refl}
use Rattle.edge_traits.specs.Faults.{SizeCall, ReadCall}
use Rattle.edge_traits.specs.FaultLaws.{Counts-at}
use Rattle.edge_traits.proofs.Untold.{always-IfOk}
use Rattle.edge_traits.proofs.disk.library.DiskLibraryLibrary.TheImpl.Goals as goal

pub size-tells : goal.size-tells
size-tells g c = record {
  files = refl;
  known = always-IfOk c.result (λ _. tt);
  size = always-IfOk c.result (λ n file untold. absurd untold);
  cause = c.ensures.cause;
  at = Counts-at SizeCall c.args.name.now _ _ c.result c.ensures.cause;
}

pub read_at-tells : goal.read_at-tells
read_at-tells g c = record {
  files = refl;
  known = always-IfOk c.result (λ _. tt);
  bound = c.ensures.bound;
  bytes = always-IfOk c.result (λ n file untold. absurd untold);
  end = always-IfOk c.result (λ n file untold. absurd untold);
  cause = c.ensures.cause;
  at = Counts-at ReadCall c.args.name.now _ _ c.result c.ensures.cause;
}
