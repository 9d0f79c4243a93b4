use Rattle.std.proofs.Common.{◌≡◌, ◌∙◌, ◌+◌, ◌-◌, ◌≤◌, ◌++◌, length, take, drop, refl, sym, arith}
use Rattle.std.proofs.lemmas.List.{length-take}
use Rattle.edge_traits.specs.Files.{IsTold}
use Rattle.data_check.proofs.Unread.{none-then}
use Rattle.data_check.proofs.Parts.{part-more, part-piece, part-within, pieces-alike, pieces-unlike, read-front}
use Rattle.data_check.proofs.part.has_part.Goals as goal
use Rattle.data_check.proofs.part.has_part.Goals.{then-count-eq0-via-then-count-eq0, then-count-eq0-via-else-count-eq0+then-ne}

pub returns-then-count-eq0-clause-same : goal.returns-then-count-eq0-clause-same
returns-then-count-eq0-clause-same g c = λ file told.
    let e = c.in_ok-count.ensures in
    let bytes = c.args.bytes.now in
    let done = c.loop-done.done in
    let count = c.in_ok-count.count in
    let buf = c.read_at.new.buf in
    let rest = drop c.min-asked.result c.loop-done.piece in
    let told_then : IsTold (g.L.Library.holds c.loop-done.library) c.args.name.now file = rw c.loop-done.invariant.same told in
    let long : done + count - done ≡ count = omega arith in
    elim c.then-count-eq0.branch [
      | then-count-eq0-via-then-count-eq0 w ↦
          let ended : length file ≤ c.args.off + done =
          e.end file told_then w.if-count-eq0.true (omega (arith, c.read_at.auto.buf, length-take c.min-asked.result c.loop-done.piece)) in
          ((λ no. cc), (λ has. absurd (omega (arith, ended, part-within file bytes c.args.off done c.loop-done-test.true has))))
      | then-count-eq0-via-else-count-eq0+then-ne w ↦ (
        (λ no. cc),
        (λ has. absurd (pieces-unlike (take count (buf ++ rest)) (drop done bytes) (done + count - done) count long w.if-ne.ensures
            (read-front (buf ++ rest) buf rest count refl e.bound ∙ e.bytes file told_then ∙ part-piece file bytes c.args.off done count
            (omega (arith, e.bound, c.read_at.auto.buf, length-take c.min-asked.result c.loop-done.piece, c.min-asked.ensures)) has))),
      )
    ]

pub loop-done-preserved : goal.loop-done-preserved
loop-done-preserved g c =
    let holds = g.L.Library.holds in
    let e = c.in_ok-count.ensures in
    let i = c.loop-done.invariant in
    let bytes = c.args.bytes.now in
    let done = c.loop-done.done in
    let count = c.in_ok-count.count in
    let asked = c.min-asked.result in
    let buf = c.read_at.new.buf in
    let rest = drop asked c.loop-done.piece in
    let long : done + count - done ≡ count = omega arith in
    let alike : take count (buf ++ rest) ≡ take count (drop done bytes) =
    pieces-alike (take count (buf ++ rest)) (drop done bytes) (done + count - done) count long c.if-ne.ensures in
    record {
      within = omega (arith, e.bound, c.read_at.auto.buf, length-take asked c.loop-done.piece, c.min-asked.ensures);
      same = e.files ∙ i.same;
      none = e.cause ∙ i.none;
      at = none-then (g.L.Library.faults_at c.args.library.now) (g.L.Library.faults_at c.loop-done.library) (g.L.Library.faults_at c.read_at.new.self) i.at e.at;
      front =
          λ file told.
          let told_then : IsTold (holds c.loop-done.library) c.args.name.now file = rw i.same told in
          part-more file bytes c.args.off done count (i.front file told)
          (sym (e.bytes file told_then) ∙ sym (read-front (buf ++ rest) buf rest count refl e.bound) ∙ alike);
    }
