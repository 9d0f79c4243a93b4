use Rattle.std.proofs.Common.{◌≡◌, ◌-◌, ◌/◌, ◌%◌, ◌≤◌, length, get_or, sym, ap, subst, ◌∙◌, arith}
use Rattle.std.specs.Prelude.{◌==◌, false, slice_get}
use Rattle.std.specs.Option.{option_map_or}
use Rattle.std.proofs.lemmas.Option.{slice_get_within}
use Rattle.graph_files.proofs.Ends.{item}
use Rattle.plain_saver.specs.declared.passes.Pass.{Pass}
use Rattle.plain_saver.specs.Passes.{pass_at}
use Rattle.plain_saver.specs.Saved.{group_size}
use Rattle.plain_saver.proofs.Gone.{next-is}
use Rattle.plain_saver.proofs.Writing.{pass-read}
use Rattle.plain_saver.proofs.saver.Saver.next_place.Goals as goal

pub overflow_sub-node : goal.overflow_sub-node
overflow_sub-node c =
    let i = item c.args.self.now.files c.args.at c.requires.at in
    subst (λ n. 1 ≤ n) (sym (c.node.ensures i.0 i.1)) (c.requires.node i.0 i.1).first

pub index-pass-requires : goal.index-pass-requires
index-pass-requires c =
    let i = item c.args.self.now.files c.args.at c.requires.at in
    let r = c.requires.node i.0 i.1 in
    let n = c.node.ensures i.0 i.1 in
    omega (arith, n, r.first, r.within)

pub overflow_cast-all : goal.overflow_cast-all
overflow_cast-all c =
    let i = item c.args.self.now.files c.args.at c.requires.at in
    let ps = c.args.self.now.passes.items in
    let r = c.requires.node i.0 i.1 in
    let p : c.index-pass.result.now ≡ pass_at ps i.0.node =
    pass-read ps i.0.node c.index-pass.result.now r.first r.within
    (c.index-pass.ensures ∙ ap (λ k. get_or ps (k - 1) c.index-pass.result.now) (c.node.ensures i.0 i.1)) in
    let size : length c.as_slice.result.now ≡ length (pass_at ps i.0.node).positions =
    ap length c.as_slice.ensures ∙ ap (λ (q : Pass). length q.positions) p in
    omega (arith, size, r.few)

pub group_place-requires-clause-some : goal.group_place-requires-clause-some
group_place-requires-clause-some c =
    let i = item c.args.self.now.files c.args.at c.requires.at in
    subst (λ n. 1 ≤ n) (sym (c.group_count.ensures i.0 i.1)) (c.requires.node i.0 i.1).some

pub group_place-requires-clause-left : goal.group_place-requires-clause-left
group_place-requires-clause-left c =
    let q = c.index-pass.result.now in
    let here = next-is (slice_get q.positions q.gone) c.args.index (sym c.is_next.ensures ∙ c.if-not-is_next.false) in
    let size : length c.as_slice.result.now ≡ length q.positions = ap length c.as_slice.ensures in
    let low = slice_get_within q.positions q.gone c.args.index here in
    omega (arith, low, size)

pub returns-clause-some : goal.returns-clause-some
returns-clause-some c = λ x is.
    let ps = c.args.self.now.passes.items in
    let q = c.index-pass.result.now in
    let r = c.requires.node x is in
    let p : q ≡ pass_at ps x.node =
    pass-read ps x.node q r.first r.within (c.index-pass.ensures ∙ ap (λ k. get_or ps (k - 1) q) (c.node.ensures x is)) in
    let gone : q.gone ≡ (pass_at ps x.node).gone = ap (λ (z : Pass). z.gone) p in
    let count = c.group_count.ensures x is in
    let size : length c.as_slice.result.now ≡ length (pass_at ps x.node).positions = ap length c.as_slice.ensures ∙ ap (λ (z : Pass). length z.positions) p in
    record {
      next =
          ap (λ (z : Pass). option_map_or (λ k. k == c.args.index) (slice_get z.positions z.gone) false) (sym p) ∙ sym c.is_next.ensures
          ∙ c.if-not-is_next.false;
      group_is = c.group_place.ensures.group ∙ ap (λ k. k / c.group_count.result) gone ∙ ap (λ k. (pass_at ps x.node).gone / k) count;
      place_is = c.group_place.ensures.place ∙ ap (λ k. k % c.group_count.result) gone ∙ ap (λ k. (pass_at ps x.node).gone % k) count;
      of_is =
          c.group_place.ensures.of ∙ ap (λ k. group_size k (length c.as_slice.result.now) q.gone) count
          ∙ ap (λ k. group_size x.count k q.gone) size ∙ ap (group_size x.count (length (pass_at ps x.node).positions)) gone;
    }
