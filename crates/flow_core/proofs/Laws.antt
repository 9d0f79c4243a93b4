-- The laws of kept blocks, as lists.
use Rattle.std.proofs.Common.{ℕ, Option}
use Rattle.nd_base.specs.declared.frame.FrameName.{FrameName}
use Rattle.nd_base.specs.Parts.{Parts}
use Rattle.kept_blocks.specs.GrantLaws.{GrantLaws}
use Rattle.kept_blocks.specs.MoveLaws.{MoveLaws}
use Rattle.kept_blocks.proofs.Granting.{next-place, old-place, room-holds, room-keeps, room-of-lent, anew-law, fresh-anew, wants-law, home-of, used-of}
use Rattle.kept_blocks.proofs.Granting.{refused-law, put-back-law, apart-from, lendable-law, refused-lent-law, forget-law}
use Rattle.kept_blocks.proofs.Loads.{emptied-law, load-law, take-block-law, take-lent-law}
use Rattle.kept_blocks.proofs.Lending.{take-law, save-law}
use Rattle.kept_blocks.proofs.Returns.{still-law, issue-law, saved-law}
use Rattle.kept_blocks.proofs.Puts.{put-plain, put-made}
use Rattle.kept_blocks.proofs.Reclaims.{back-load, back-take, back-block, back-piece}

pub grant_laws : {F : Type 0} (parts : F → Option Parts) → GrantLaws parts
grant_laws parts =
    record {
      next = next-place parts;
      old = old-place parts;
      room = room-holds parts;
      room_keeps = room-keeps;
      room_of_lent = room-of-lent;
      anew = anew-law parts;
      used = used-of parts;
      fresh_anew = fresh-anew parts;
      wants = wants-law parts;
      sized = λ s told t need b z given i tell. let home = home-of parts s told t need b z given i tell in home.sized;
      refused = refused-law parts;
      put_back = put-back-law parts;
      apart = λ s told t need b z f given v c a i next on. apart-from parts s told t need b z f given i v c a next on;
      lendable = lendable-law parts;
      refused_lent = refused-lent-law parts;
      emptied = emptied-law parts;
      load = load-law parts;
      take = take-block-law parts;
      take_lent = take-lent-law parts;
      forget = forget-law parts;
    }

pub move_laws : {F B : Type 0} (O : Type 0) (name_of : F → FrameName) (parts : F → Option Parts) (bytes_of : B → ℕ) → MoveLaws O name_of parts bytes_of
move_laws O name_of parts bytes_of =
    record {
      still = still-law parts;
      take = take-law parts;
      save = save-law parts;
      issue = issue-law name_of parts;
      saved = saved-law name_of parts;
      put = λ s B t r v m c f fired run h job on own made legal. put-plain name_of parts s B t r v m c f fired run h on own legal job made;
      put_made =
          λ s B t r v m b c f made fired run h job on own grant kind whole legal.
          put-made name_of parts s B t r v m c f fired run h on own legal b made job grant kind whole;
      reclaim_load = λ is_used s B t r left q k b n f g x may held. back-load name_of parts bytes_of s B t r left may is_used q k b n f g x held;
      reclaim_take = λ s B t r left q v m k c may held on. back-take name_of parts bytes_of s B t r left may q v m k c held on;
      reclaim_block = λ is_used s B t r left q v m k b n c f g x may held on. back-block name_of parts bytes_of s B t r left may is_used q v m k b n c f g
          x held on;
      reclaim_piece = λ s B t r left q v m k g c may held on. back-piece name_of parts bytes_of s B t r left may q v m k g c held on;
    }
