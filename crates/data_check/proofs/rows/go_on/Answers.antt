use Rattle.std.proofs.Common.{◌≡◌, ℕ, List, [], ◌∷◌, ◌++◌, ◌+◌, take, drop, get_or, sym, ap, subst, ◌∙◌, append_assoc}
use Rattle.std.specs.Prelude.{Bool, Option}
use Rattle.std.specs.List.{flat_map}
use Rattle.edge_traits.specs.Files.{Files}
use Rattle.data_check.specs.Fronts.{HasFront, LacksFront, GoesOn}
use Rattle.data_check.specs.Histories.{arrays_at}
use Rattle.data_check.specs.Rows.{row_by}
use Rattle.data_check.proofs.Fronts.{lacks-more}
use Rattle.data_check.proofs.RowSteps.{rows-more, rows-parts}
use Rattle.data_check.proofs.rows.go_on.Goals as goal

pub returns-then-not-branch-clause-goes : goal.returns-then-not-branch-clause-goes
returns-then-not-branch-clause-goes g c = λ before h.
    let held : Option Files = g.L.Library.holds c.args.library.now in
    let w = c.args.history.now in
    let v = c.args.node in
    let row = row_by c.args.kind in
    let ks = c.args.positions.now in
    let i = c.loop-index.index-index in
    let k = get_or ks i 0 in
    let done : List ℕ = flat_map row (arrays_at w v (take i ks)) in
    let next : List ℕ = flat_map row (arrays_at w v (k ∷ [])) in
    let rest : List ℕ = flat_map row (arrays_at w v (drop (i + 1) ks)) in
    let front = c.goes_on.new.self in
    let read : HasFront (g.L.Library.holds c.loop-index.library) c.loop-index.front (before ++ done) =
    subst (λ (told : Option Files). HasFront told c.loop-index.front (before ++ done)) (sym c.loop-index.invariant.same)
    (c.loop-index.invariant.goes before h) in
    let off : LacksFront (g.L.Library.holds c.loop-index.library) front.name ((before ++ done) ++ c.deref.result.now) =
    subst (λ (b : Bool). GoesOn b (g.L.Library.holds c.loop-index.library) front ((before ++ done) ++ c.deref.result.now)) c.if-not-branch.true
    (c.in_ok-goes_on.ensures.goes (before ++ done) read) in
    let short : LacksFront held front.name ((before ++ done) ++ next) =
    subst (λ (told : Option Files). LacksFront told front.name ((before ++ done) ++ next)) c.loop-index.invariant.same
    (subst (λ (bytes : List ℕ). LacksFront (g.L.Library.holds c.loop-index.library) front.name ((before ++ done) ++ bytes))
    (c.deref.ensures.value ∙ c.in_ok-row.ensures) off) in
    let whole : ((before ++ done) ++ next) ++ rest ≡ before ++ flat_map row (arrays_at w v ks) =
    append_assoc (before ++ done) next rest ∙ (append_assoc before done (next ++ rest) ∙ ap (λ bytes. before ++ bytes) (sym (append_assoc done next rest)
    ∙ (ap (λ bytes. bytes ++ rest) (sym (rows-more w.graph.nodes w.stack.arrays v row ks i 0 c.loop-index-test.true))
    ∙ sym (rows-parts w.graph.nodes w.stack.arrays v row ks (i + 1))))) in
    subst (LacksFront held front.name) whole (lacks-more held front.name ((before ++ done) ++ next) rest short)
