-- A hand with nothing in it.
use Rattle.std.proofs.Common.{◌≡◌, ℕ, true, Option, Some, None, refl}
use Rattle.flow_journal.specs.declared.entry.Entry.{Entry}
use Rattle.flow_journal.specs.declared.entry.Entry.TheVariants.{Load, Take, TakeBlock, Save, Reclaim, Issue, Put, Saved}
use Rattle.course_parts.specs.declared.hand.Hand.TheVariants.{Free}
use Rattle.std.proofs.lemmas.Bool.{false≢true}
use Rattle.flow_journal.specs.declared.entry.Entry.TheVariants.{LoadRefused, Tick, Emit, Accept, Full, PoolDrop, SortDrop, Settle, Close, Leave}
use Rattle.flow_journal.specs.Hands.{takes_up}
use Rattle.course_parts.specs.RoleStates.{hand_of}

pub hand-free : (r : ℕ) (o : Option Entry) → ((e : Entry) → o ≡ Some e → takes_up r e ≡ true) → hand_of o ≡ Free → o ≡ None
hand-free r None up h = refl
hand-free r (Some (Load q k b n f g x)) up h = cc
hand-free r (Some (Take q w m k)) up h = cc
hand-free r (Some (TakeBlock f x q w m k b n g)) up h = cc
hand-free r (Some (Save q w m k g)) up h = cc
hand-free r (Some (LoadRefused q k n y)) up h = absurd (false≢true (up (LoadRefused q k n y) refl))
hand-free r (Some (Tick t)) up h = absurd (false≢true (up (Tick t) refl))
hand-free r (Some (Issue q k)) up h = absurd (false≢true (up (Issue q k) refl))
hand-free r (Some (Emit v m k why)) up h = absurd (false≢true (up (Emit v m k why) refl))
hand-free r (Some (Accept v m k)) up h = absurd (false≢true (up (Accept v m k) refl))
hand-free r (Some (Full v m k)) up h = absurd (false≢true (up (Full v m k) refl))
hand-free r (Some (PoolDrop q v m k n y)) up h = absurd (false≢true (up (PoolDrop q v m k n y) refl))
hand-free r (Some (Put q v m k f)) up h = absurd (false≢true (up (Put q v m k f) refl))
hand-free r (Some (SortDrop v m k)) up h = absurd (false≢true (up (SortDrop v m k) refl))
hand-free r (Some (Settle q v)) up h = absurd (false≢true (up (Settle q v) refl))
hand-free r (Some (Saved q v m k)) up h = absurd (false≢true (up (Saved q v m k) refl))
hand-free r (Some (Close q)) up h = absurd (false≢true (up (Close q) refl))
hand-free r (Some (Leave q)) up h = absurd (false≢true (up (Leave q) refl))
hand-free r (Some (Reclaim q)) up h = absurd (false≢true (up (Reclaim q) refl))
