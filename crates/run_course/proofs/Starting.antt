-- A course of which nothing is logged.
use Rattle.std.proofs.Common.{◌≡◌, ◌∙◌, ℕ, ℤ, ◌+◌, ◌*◌, zero, suc, false, List, [], ◌∷◌, Option, Some, length, map, replicate, refl, sym, ap, subst, arith}
use Rattle.std.specs.Prelude.{slice_get, sum_by, fold}
use Rattle.std.proofs.lemmas.List.{length-map, length-replicate}
use Rattle.std.proofs.lemmas.List.Elements.{All-nil}
use Rattle.nd_base.specs.declared.frame.FrameName.{FrameName}
use Rattle.nd_base.specs.declared.measure.Measure.{Measure}
use Rattle.pool_ledger.specs.Ledger.{empty_ledger}
use Rattle.flow_journal.specs.Setting.{Setting, Node, last_role}
use Rattle.flow_journal.specs.LengthLaws.{most_entries}
use Rattle.pool_account.specs.Account.{IsAccount}
use Rattle.pool_account.proofs.Laws.{hold_laws}
use Rattle.told_log.specs.ToldLogs.{ToldState}
use Rattle.course_parts.specs.declared.hand.Hand.TheVariants.{Free}
use Rattle.course_parts.specs.declared.hand.RoleState.{RoleState}
use Rattle.course_parts.specs.declared.node.NodeState.{NodeState}
use Rattle.course_parts.specs.declared.rules.NodeRules.{NodeRules}
use Rattle.course_parts.specs.declared.rules.Rules.{Rules}
use Rattle.run_course.specs.Courses.{IsCourse}
use Rattle.course_parts.specs.Facts.{facts_of}
use Rattle.run_course.specs.FrameBlocks.{AreBlocks}
use Rattle.flow_journal.specs.Having.{HasBlock}
use Rattle.course_parts.specs.NodeStates.{AreNodes}
use Rattle.course_parts.specs.RoleStates.{AreRoles}
use Rattle.course_parts.specs.RunRules.{AreRules, as_node}

abbrev Measuring : Type 0
Measuring = ℕ → FrameName → Option Measure

abbrev pub empty_log : (room reclaims : ℕ) → ToldState
empty_log room reclaims = record { told = []; room = room; reclaims = reclaims }

all-same : {X : Type 0} (n i : ℕ) (x y : X) → slice_get (replicate n x) i ≡ Some y → y ≡ x
all-same zero i x y h = cc
all-same (suc n) zero x y h = cc
all-same (suc n) (suc i) x y h = all-same n i x y h

abbrev pub free_role : RoleState
free_role = record { hand = Free; has_left = false; was_reclaimed = false }

-- roles of which nothing is logged have nothing in hand
pub roles-none : (s : Setting) (rs : List RoleState) (n : ℕ) → rs ≡ replicate n free_role → n ≡ last_role s + 1 → AreRoles s [] rs
roles-none s rs n are count =
    record {
      all = ap length are ∙ (length-replicate n free_role ∙ count);
      each = λ r x at. all-same n r free_role x (ap (λ (xs : List RoleState). slice_get xs r) (sym are) ∙ at);
    }

blocks-none : (s : Setting) (bs : List ℕ) (n : ℕ) → bs ≡ replicate n 0 → n ≡ (length s.nodes + 1) * length s.ids → AreBlocks s [] bs
blocks-none s bs n are count =
    record {
      all = ap length are ∙ (length-replicate n 0 ∙ count);
      each = λ a b has. absurd (cc);
    }

threads-map : (ns : List NodeRules) → sum_by (λ (n : Node). n.threads) (map as_node ns) ≡ sum_by (λ (n : NodeRules). n.threads) ns
threads-map ns = from ns 0 where
  from : (ns : List NodeRules) (k : ℕ) → fold (λ (a : ℕ) (x : Node). a + x.threads) k (map as_node ns) ≡ fold (λ (a : ℕ) (x : NodeRules). a + x.threads) k ns
  from [] k = refl
  from (n ∷ ns) k = from ns (k + n.threads)

-- the number of the last role
pub last-is : (s : Setting) (ru : Rules) → AreRules ru s → sum_by (λ (n : NodeRules). n.threads) ru.nodes + 1 ≡ last_role s
last-is s ru are = ap (λ k. k + 1) (sym (threads-map ru.nodes) ∙ ap (λ ns. sum_by (λ (n : Node). n.threads) ns) are.nodes)

pub course-none : (measure : Measuring) (s : Setting) (ru : Rules) (ns : List NodeState) (rs : List RoleState) (bs : List ℕ) (last : ℕ) → AreRules ru s
    → AreNodes measure s [] ns → last ≡ sum_by (λ (n : NodeRules). n.threads) ru.nodes + 1
    → rs ≡ replicate (last + 1) free_role → bs ≡ replicate ((length ru.nodes + 1) * length ru.ids) 0
    → IsCourse measure s (record {
      log = empty_log (most_entries s) last;
      rules = ru;
      nodes = ns;
      roles = rs;
      pool = empty_ledger ru.limit 0;
      blocks = bs;
      facts = facts_of [];
      transit = [];
      room = 4097;
    })
course-none measure s ru ns rs bs last ruled nodes is roles blocks =
    let l : last ≡ last_role s = is ∙ last-is s ru ruled in
    let many : length ru.nodes ≡ length s.nodes = sym (length-map ru.nodes as_node) ∙ ap length ruled.nodes in
    record {
      ruled = ruled;
      legal = refl;
      nodes = nodes;
      roles = roles-none s rs (last + 1) roles (ap (λ k. k + 1) l);
      account = subst (λ n. IsAccount s [] [] (empty_ledger n 0)) (sym ruled.limit) (hold_laws.start s 0);
      standing = All-nil (HasBlock []);
      blocks =
          blocks-none s bs ((length ru.nodes + 1) * length ru.ids) blocks
          (ap (λ n. (n + 1) * length ru.ids) many ∙ ap (λ (is_ : List ℤ). (length s.nodes + 1) * length is_) ruled.ids);
      facts = refl;
      log_room = refl;
      reclaims = omega (arith, l);
      moving = omega arith;
      transit_room = omega arith;
    }
