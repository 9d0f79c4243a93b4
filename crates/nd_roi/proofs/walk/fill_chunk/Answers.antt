use Rattle.std.proofs.Common.{◌∙◌, ap, pos, length, reverse}
use Rattle.std.specs.Int.RustNames.{int_div}
use Rattle.std.specs.List.{range_with_len, flat_map}
use Rattle.nd_roi.specs.Walk.{line_total, bytes_of}
use Rattle.nd_roi.proofs.Gather.{low_bytes, undivided}
use Rattle.nd_roi.proofs.walk.fill_chunk.Goals as goal
use Rattle.nd_roi.proofs.walk.fill_chunk.Goals.{then-job-eq1, else-job-eq1}

pub returns : goal.returns
returns c =
    let job = c.args.job.now in
    let total = line_total job.kind c.args.input.now job.line (reverse job.slower.now) c.args.base in
    let outs = range_with_len c.args.done (length c.args.sums.now) in
    c.write_samples.ensures
    ∙ elim c.if-job-eq1.branch [
      | then-job-eq1 w ↦ ap (flat_map (bytes_of job.out_kind)) (w.sums-is ∙ w.gather_low.ensures) ∙ low_bytes job.out_kind total outs
          ∙ undivided job.out_kind total job.scale outs w.if-job-eq1.true
      | else-job-eq1 w ↦ ap (flat_map (bytes_of job.out_kind)) (w.sums-is ∙ w.gather_divided.ensures)
          ∙ low_bytes job.out_kind (λ out. int_div (total out) (pos job.scale)) outs
    ]
