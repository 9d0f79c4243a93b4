use Rattle.std.proofs.Common.{◌≡◌, ap, ◌∙◌}
use Rattle.edge_traits.specs.Files.{file_at}
use Rattle.file_out.specs.SavingLaws.{file_at-MayCount, file_at-with_count}
use Rattle.file_out.specs.Streams.{Stream, with_count}
use Rattle.file_out.specs.StreamLaws.{HasFile-with_count}
use Rattle.file_out.proofs.Counting.{Stands-with_count}
use Rattle.file_out.proofs.stream.StreamFile.end.Goals as goal

pub finish-requires : goal.finish-requires
finish-requires g c =
    let s = c.args.self in
    let name : c.text.result.now ≡ s.name = c.text.ensures ∙ ap (λ (f : Stream). f.name) c.self.view_is in
    rw (name, c.in_ok-put_count.ensures.ok) (Stands-with_count (g.K.Shelf.held c.args.shelf.now) s.name s.numrecs s.count c.requires.stands)

pub returns-clause-layout : goal.returns-clause-layout
returns-clause-layout g c =
    let s = c.args.self in
    let held = g.K.Shelf.held in
    let written : held c.finish.new.self ≡ with_count (held c.args.shelf.now) s.name s.numrecs s.count = c.in_ok-finish.ensures.files
    ∙ c.in_ok-put_count.ensures.ok in
    λ arrays rows. rw written (HasFile-with_count (held c.args.shelf.now) s arrays c.requires.counted rows)

pub returns-in_err-put_count-clause-others : goal.returns-in_err-put_count-clause-others
returns-in_err-put_count-clause-others g c q other =
    file_at-MayCount (g.K.Shelf.held c.args.shelf.now) _ c.args.self.name c.args.self.numrecs c.args.self.count q c.in_err-put_count.ensures.err other

pub returns-in_err-finish-clause-others : goal.returns-in_err-finish-clause-others
returns-in_err-finish-clause-others g c q other =
    ap (λ w. file_at w q) (c.in_err-finish.ensures.files ∙ c.in_ok-put_count.ensures.ok)
    ∙ file_at-with_count (g.K.Shelf.held c.args.shelf.now) c.args.self.name c.args.self.numrecs c.args.self.count q other

pub returns-clause-others : goal.returns-clause-others
returns-clause-others g c q other =
    ap (λ w. file_at w q) (c.in_ok-finish.ensures.files ∙ c.in_ok-put_count.ensures.ok)
    ∙ file_at-with_count (g.K.Shelf.held c.args.shelf.now) c.args.self.name c.args.self.numrecs c.args.self.count q other
