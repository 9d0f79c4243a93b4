use Rattle.kept_blocks.proofs.Granting.{next-place, old-place, room-holds, room-keeps, room-of-lent, anew-law, fresh-anew, wants-law, home-of, used-of}
use Rattle.kept_blocks.proofs.Granting.{refused-law, put-back-law, apart-from, lendable-law, refused-lent-law, forget-law}
use Rattle.kept_blocks.proofs.Loads.{emptied-law, load-law, take-block-law, take-lent-law}
use Rattle.kept_blocks.proofs.grants_find_storage.Goals as goal

pub returns : goal.returns
returns g c =
    let parts = g.F.Held.parts in
    record {
      next = next-place parts;
      old = old-place parts;
      room = room-holds parts;
      room_keeps = room-keeps;
      room_of_lent = room-of-lent;
      anew = anew-law parts;
      used = used-of parts;
      fresh_anew = fresh-anew parts;
      wants = wants-law parts;
      sized = λ s told t need b z given i tell. let home = home-of parts s told t need b z given i tell in home.sized;
      refused = refused-law parts;
      put_back = put-back-law parts;
      apart = λ s told t need b z f given v c a i next on. apart-from parts s told t need b z f given i v c a next on;
      lendable = lendable-law parts;
      refused_lent = refused-lent-law parts;
      emptied = emptied-law parts;
      load = load-law parts;
      take = take-block-law parts;
      take_lent = take-lent-law parts;
      forget = forget-law parts;
    }
