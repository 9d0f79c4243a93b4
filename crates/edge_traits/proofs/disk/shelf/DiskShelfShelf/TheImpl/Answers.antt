use Rattle.std.proofs.Common.{refl, inl}
use Rattle.edge_traits.proofs.Untold.{always-IfOk, always-IfErr}
use Rattle.edge_traits.proofs.disk.shelf.DiskShelfShelf.TheImpl.Goals as goal

pub create-tells : goal.create-tells
create-tells g c = record {
  ok = always-IfOk c.result (λ _. refl);
  err = always-IfErr c.result (λ _. inl refl);
  cause = c.ensures.cause;
}

pub append-tells : goal.append-tells
append-tells g c = record {
  ok = always-IfOk c.result (λ _. refl);
  err = always-IfErr c.result (λ _. (0, refl));
  cause = c.ensures.cause;
}

pub patch-tells : goal.patch-tells
patch-tells g c = record {
  ok = always-IfOk c.result (λ _. refl);
  err = always-IfErr c.result (λ _. (c.args.bytes.now, refl, refl));
  cause = c.ensures.cause;
}

pub finish-tells : goal.finish-tells
finish-tells g c = record {
  files = refl;
  finishes = always-IfOk c.result (λ _. c.ensures.let_go);
  cause = c.ensures.cause;
}
