use Rattle.std.proofs.Common.{rules, ◌≡◌, ◌-◌, ◌/◌, ◌<◌, ◌∙◌, length, ap, subst, arith, IfOk, FitsSigned, w32, to_z, of_z}
use Rattle.std.proofs.lemmas.Int.{to_z-of_z}
use Rattle.std.proofs.lemmas.List.Elements.{All-from_get_or}
use Rattle.nd_base.specs.SampleLaws.{AreBytes}
use Rattle.nd_stats.specs.Measured.{measure_of}
use Rattle.nd_stats.proofs.Cuts.{cut_for, front_samples, chunk_samples, can_take_chunk, takes_chunk}
use Rattle.nd_stats.proofs.Pieces.{frame_of}
use Rattle.nd_stats.proofs.chunks.+chunks.Goals as goal

pub join-later-requires-after_bounds : goal.join-later-requires-after_bounds
join-later-requires-after_bounds g t c κs within =
    let dims = c.args.dims.now in
    let bytes = c.args.samples.now in
    let are : AreBytes bytes = All-from_get_or (λ b. b < 256) bytes 0 (λ i _. (c.type_inv.samples i).fits) in
    let cut = cut_for c.args.rule.now c.args.kind dims c.width-wide.result c.args.threads bytes c.split_at.result.0.now c.split_at.result.1.now
    (frame_of c.args.rule.now dims c.requires.rule c.requires.dimensions c.requires.few) are c.width-wide.ensures c.requires.whole
    (omega (arith, c.if-threads-lt2.false)) (omega (arith, c.if-count-threads.false)) c.requires.within c.split_at.ensures.front c.split_at.ensures.back in
    let chunk = chunk_samples c.args.rule.now c.args.kind dims _ _ bytes c.split_at.result.0.now c.split_at.result.1.now cut in
    let front = front_samples c.args.rule.now c.args.kind dims _ _ bytes c.split_at.result.0.now c.split_at.result.1.now cut in (
      (c.requires.rule, c.requires.dimensions, c.requires.few, chunk.0, chunk.1, omega (arith, chunk.2, cut.more, cut.within)),
      (
        search rules,
        (
          (λ _ has. has),
          (
            (
              search rules,
              c.requires.rule,
              c.requires.dimensions,
              c.requires.few,
              front.0,
              front.1,
              omega (arith, front.2, cut.more, cut.within),
              c.if-threads-lt2.false,
            ),
            search rules,
          ),
        ),
      ),
    )

pub merge-requires : goal.merge-requires
merge-requires g t c =
    let dims = c.args.dims.now in
    let bytes = c.args.samples.now in
    let are : AreBytes bytes = All-from_get_or (λ b. b < 256) bytes 0 (λ i _. (c.type_inv.samples i).fits) in
    let cut = cut_for c.args.rule.now c.args.kind dims c.width-wide.result c.args.threads bytes c.split_at.result.0.now c.split_at.result.1.now
    (frame_of c.args.rule.now dims c.requires.rule c.requires.dimensions c.requires.few) are c.width-wide.ensures c.requires.whole
    (omega (arith, c.if-threads-lt2.false)) (omega (arith, c.if-count-threads.false)) c.requires.within c.split_at.ensures.front c.split_at.ensures.back in
    let count = length bytes / c.width-wide.result in
    let id = to_z w32 (of_z w32 c.args.id) in
    let one = subst (λ r. IfOk r (λ m. m ≡ measure_of c.args.rule.now id c.args.kind dims 0 c.split_at.result.0.now)) c.in_ok-whole.was
    c.join-later.ensures.second in
    let two = subst (λ r. IfOk r (λ m. m ≡ measure_of c.args.rule.now id c.args.kind dims (count - count / c.args.threads) c.split_at.result.1.now)) c.in_ok-later.was
    c.join-later.ensures.first in
    can_take_chunk c.args.rule.now c.args.kind dims _ _ bytes c.split_at.result.0.now c.split_at.result.1.now cut
    id c.in_ok-whole.whole c.in_ok-later.field-0 one two

pub returns : goal.returns
returns g t c =
    let dims = c.args.dims.now in
    let bytes = c.args.samples.now in
    let are : AreBytes bytes = All-from_get_or (λ b. b < 256) bytes 0 (λ i _. (c.type_inv.samples i).fits) in
    let cut = cut_for c.args.rule.now c.args.kind dims c.width-wide.result c.args.threads bytes c.split_at.result.0.now c.split_at.result.1.now
    (frame_of c.args.rule.now dims c.requires.rule c.requires.dimensions c.requires.few) are c.width-wide.ensures c.requires.whole
    (omega (arith, c.if-threads-lt2.false)) (omega (arith, c.if-count-threads.false)) c.requires.within c.split_at.ensures.front c.split_at.ensures.back in
    let count = length bytes / c.width-wide.result in
    let id = to_z w32 (of_z w32 c.args.id) in
    let one = subst (λ r. IfOk r (λ m. m ≡ measure_of c.args.rule.now id c.args.kind dims 0 c.split_at.result.0.now)) c.in_ok-whole.was
    c.join-later.ensures.second in
    let two = subst (λ r. IfOk r (λ m. m ≡ measure_of c.args.rule.now id c.args.kind dims (count - count / c.args.threads) c.split_at.result.1.now)) c.in_ok-later.was
    c.join-later.ensures.first in
    takes_chunk c.args.rule.now c.args.kind dims _ _ bytes c.split_at.result.0.now c.split_at.result.1.now cut
    id c.in_ok-whole.whole c.in_ok-later.field-0 one two c.merge.new.self c.merge.ensures
    ∙ ap (λ j. measure_of c.args.rule.now j c.args.kind dims 0 bytes) (to_z-of_z w32 c.args.id (let fits : FitsSigned w32 c.args.id = search rules in fits))
