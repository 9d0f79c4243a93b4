-- How one array more goes out of a node.
use Rattle.std.proofs.Common.{◌≡◌, ◌≢◌, inl, inr, ℕ, zero, suc, ◌+◌, ◌-◌, ◌<◌, ◌≤◌, true, false, List, [], ◌∷◌, ◌++◌, Option, None, Some, length, take}
use Rattle.std.proofs.Common.{get_or, set, refl, sym, ap, subst, ◌∙◌, arith}
use Rattle.std.specs.Prelude.{◌==◌, slice_get}
use Rattle.std.specs.Option.{option_map_or}
use Rattle.std.proofs.lemmas.Bool.{false≢true, eq-eqb, eqb-true}
use Rattle.std.proofs.lemmas.List.{length-set, get_or-set_same, get_or-set_other, take_more, length-take-le}
use Rattle.std.proofs.lemmas.List.Elements.{All-take}
use Rattle.std.proofs.lemmas.Option.{same_Some, slice_get_within, get_or_from_slice_get}
use Rattle.nd_base.specs.Array.{Array, StackValue}
use Rattle.nd_base.specs.declared.graph.Graph.{Graph}
use Rattle.chain_plain.specs.Content.{content}
use Rattle.chain_plain.specs.ContentLaws.{frame}
use Rattle.chain_plain.specs.OneThread.{arrays_out}
use Rattle.chain_plain.specs.PlainRun.{passed}
use Rattle.chain_plain.specs.PassedLaws.{passed-frames}
use Rattle.graph_files.specs.NodeFileLaws.{cases_eq}
use Rattle.graph_files.specs.OutgoingLaws.{arrays_out-more, length-arrays_out}
use Rattle.plain_saver.specs.declared.passes.Pass.{Pass}
use Rattle.plain_saver.specs.Passes.{no_pass, pass_at, ArePasses, with_gone, with_one_gone, is_next}
use Rattle.plain_saver.specs.Saved.{written}

-- what is known of other nodes stays
pub pass_at-others : (ps : List Pass) (v n w : ℕ) → 1 ≤ v → w ≢ v → pass_at (with_gone ps v n) w ≡ pass_at ps w
pass_at-others ps v n zero some ne = refl
pass_at-others ps v n (suc k) some ne =
    get_or-set_other ps (v - 1) k (record (pass_at ps v) { gone = (pass_at ps v).gone + n }) no_pass
    (λ e. ne (let same : suc k ≡ v = omega (arith, e, some) in same))

pub pass_at-gone : (ps : List Pass) (v n : ℕ) → 1 ≤ v → v ≤ length ps → pass_at (with_gone ps v n) v ≡ record (pass_at ps v) { gone = (pass_at ps v).gone + n }
pass_at-gone ps zero n some within = absurd (omega (arith, some))
pass_at-gone ps (suc k) n some within =
    let e : suc k - 1 ≡ k = omega arith in
    ap (λ i. get_or (set ps i (record (pass_at ps (suc k)) { gone = (pass_at ps (suc k)).gone + n })) k no_pass) e
    ∙ get_or-set_same ps k (record (pass_at ps (suc k)) { gone = (pass_at ps (suc k)).gone + n }) no_pass (omega (arith, within))

-- where one more has gone
pub pass_at-other : (ps : List Pass) (v w : ℕ) → 1 ≤ v → w ≢ v → pass_at (with_one_gone ps v) w ≡ pass_at ps w
pass_at-other ps v w some ne = pass_at-others ps v 1 w some ne

pub pass_at-same : (ps : List Pass) (v : ℕ) → 1 ≤ v → v ≤ length ps → pass_at (with_one_gone ps v) v ≡ record (pass_at ps v) { gone = (pass_at ps v).gone + 1 }
pass_at-same ps v some within = pass_at-gone ps v 1 some within

-- the next position is this one
pub next-is : (o : Option ℕ) (k : ℕ) → option_map_or (λ p. p == k) o false ≡ true → o ≡ Some k
next-is None k is = absurd (false≢true is)
next-is (Some p) k is = ap Some (eqb-true p k is)

pub next-not : (o : Option ℕ) (k : ℕ) → option_map_or (λ p. p == k) o false ≡ false → o ≢ Some k
next-not None k is e = absurd (cc)
next-not (Some p) k is e =
    let same : p ≡ k = same_Some p k e in
    absurd (false≢true (sym is ∙ eq-eqb p k same))

module _ (g : Graph) (s : StackValue) (ps : List Pass) (v : ℕ) (some : 1 ≤ v) (within : v ≤ length g.nodes) (passes : ArePasses g s ps) where
  inside : v ≤ length ps
  inside = subst (λ n. v ≤ n) (sym passes.count) within

  module _ (k : ℕ) (next : is_next ps v k ≡ true) where
    -- it is one of those that are passed on
    pub at-next : slice_get (passed g s v) (pass_at ps v).gone ≡ Some k
    at-next =
        ap (λ (ks : List ℕ). slice_get ks (pass_at ps v).gone) (sym (passes.positions v some within))
        ∙ next-is (slice_get (pass_at ps v).positions (pass_at ps v).gone) k next

    pub gone-below : (pass_at ps v).gone < length (passed g s v)
    gone-below = slice_get_within (passed g s v) (pass_at ps v).gone k at-next

    pub next-frame : k < length s.arrays
    next-frame =
        subst (λ n. n < length s.arrays) (get_or_from_slice_get (passed g s v) (pass_at ps v).gone k 0 at-next)
        (passed-frames g s v (pass_at ps v).gone 0 gone-below)

    pub passes-more : ArePasses g s (with_one_gone ps v)
    passes-more = record {
      count = length-set ps (v - 1) (record (pass_at ps v) { gone = (pass_at ps v).gone + 1 }) ∙ passes.count;
      positions = λ w above below. elim (cases_eq w v) [
        | inl same ↦
            ap (λ n. (pass_at (with_one_gone ps v) n).positions) same ∙ ap (λ (p : Pass). p.positions) (pass_at-same ps v some inside)
            ∙ passes.positions v some within ∙ ap (passed g s) (sym same)
        | inr ne ↦ ap (λ (p : Pass). p.positions) (pass_at-other ps v w some ne) ∙ passes.positions w above below
      ];
      gone = λ w above below. elim (cases_eq w v) [
        | inl same ↦
            let here : (pass_at (with_one_gone ps v) w).gone ≡ (pass_at ps v).gone + 1 =
            ap (λ n. (pass_at (with_one_gone ps v) n).gone) same ∙ ap (λ (p : Pass). p.gone) (pass_at-same ps v some inside) in
            let long : length (passed g s w) ≡ length (passed g s v) = ap (λ n. length (passed g s n)) same in
            omega (arith, here, long, gone-below)
        | inr ne ↦
            subst (λ (p : Pass). p.gone ≤ length (passed g s w)) (sym (pass_at-other ps v w some ne)) (passes.gone w above below)
      ];
    }

    pub written-more : (a : Array) → content g.nodes s.arrays (frame v k) ≡ Some a → written g s (with_one_gone ps v) v ≡ written g s ps v ++ a ∷ []
    written-more a made =
        ap (λ (p : Pass). arrays_out g.nodes s.arrays v (take p.gone (passed g s v))) (pass_at-same ps v some inside)
        ∙ ap (arrays_out g.nodes s.arrays v)
        (take_more (passed g s v) (pass_at ps v).gone 0 gone-below
        ∙ ap (λ n. take (pass_at ps v).gone (passed g s v) ++ n ∷ []) (get_or_from_slice_get (passed g s v) (pass_at ps v).gone k 0 at-next))
        ∙ arrays_out-more g.nodes s.arrays v (take (pass_at ps v).gone (passed g s v)) k a made

  pub written-other : (w : ℕ) → w ≢ v → written g s (with_one_gone ps v) w ≡ written g s ps w
  written-other w ne = ap (λ (p : Pass). arrays_out g.nodes s.arrays w (take p.gone (passed g s w))) (pass_at-other ps v w some ne)

-- HOW MANY HAVE GONE OUT

pub length-gone : (g : Graph) (s : StackValue) (ps : List Pass) (v : ℕ) → 1 ≤ v → v ≤ length g.nodes → ArePasses g s ps
    → length (written g s ps v) ≡ (pass_at ps v).gone
length-gone g s ps v some within passes =
    let below = passes.gone v some within in
    let front : length (take (pass_at ps v).gone (passed g s v)) ≡ (pass_at ps v).gone = length-take-le (pass_at ps v).gone (passed g s v) below in
    length-arrays_out g.nodes s.arrays v (take (pass_at ps v).gone (passed g s v))
    (All-take (λ (i : ℕ). i < length s.arrays) (pass_at ps v).gone (passed g s v) (passed-frames g s v))
    ∙ front
