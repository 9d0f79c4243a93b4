use Rattle.kept_blocks.proofs.Lending.{take-law, save-law}
use Rattle.kept_blocks.proofs.Returns.{still-law, issue-law, saved-law}
use Rattle.kept_blocks.proofs.Puts.{put-plain, put-made}
use Rattle.kept_blocks.proofs.Reclaims.{back-load, back-take, back-block, back-piece}
use Rattle.kept_blocks.proofs.moves_keep_blocks.Goals as goal

pub returns : goal.returns
returns g c =
    let name_of = g.F.Named.name_of in
    let parts = g.F.Held.parts in
    let bytes_of = g.F.Held.bytes_of in
    record {
      still = still-law parts;
      take = take-law parts;
      save = save-law parts;
      issue = issue-law name_of parts;
      saved = saved-law name_of parts;
      put = λ s B t r v m c f fired run h job on own made legal. put-plain name_of parts s B t r v m c f fired run h on own legal job made;
      put_made =
          λ s B t r v m b c f made fired run h job on own grant kind whole legal.
          put-made name_of parts s B t r v m c f fired run h on own legal b made job grant kind whole;
      reclaim_load = λ is_used s B t r left q k b n f g x may held. back-load name_of parts bytes_of s B t r left may is_used q k b n f g x held;
      reclaim_take = λ s B t r left q v m k c may held on. back-take name_of parts bytes_of s B t r left may q v m k c held on;
      reclaim_block = λ is_used s B t r left q v m k b n c f g x may held on. back-block name_of parts bytes_of s B t r left may is_used q v m k b n c f g
          x held on;
      reclaim_piece = λ s B t r left q v m k g c may held on. back-piece name_of parts bytes_of s B t r left may q v m k g c held on;
    }
