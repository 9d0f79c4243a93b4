-- Jobs in hand, and their results.
use Rattle.std.proofs.Common.{◌≡◌, ℕ, Bool, true, false, not, ◌&&◌, cond}
use Rattle.std.proofs.Common.{refl, sym, ap, ◌∙◌, subst, eqb, Option, Some, None, inl, inr}
use Rattle.std.proofs.Math.Bool.{beq}
use Rattle.std.proofs.lemmas.Bool.{and_parts, and_from, false≢true, true≢false, eq-eqb, eqb-true, cases_Bool, leb-true}
use Rattle.std.proofs.lemmas.Bool.{not-true}
use Rattle.nd_base.specs.declared.frame.FrameName.{FrameName}
use Rattle.flow_journal.specs.declared.entry.Entry.{Entry}
use Rattle.flow_journal.specs.Setting.{Setting, node, is_node, is_maker, last_role, is_role}
use Rattle.flow_journal.specs.Pasts.{Past, frame, same}
use Rattle.flow_journal.specs.Hands.{hand}
use Rattle.flow_journal.specs.ResultNames.{result_name}
use Rattle.flow_journal.specs.FirstEntries.{both, fires_at, is_result_of}
use Rattle.flow_journal.specs.declared.entry.Entry.TheVariants.{Take, TakeBlock, Put}
use Rattle.flow_journal.specs.Following.{owed}
use Rattle.flow_journal.specs.Histories.{is_legal, is_history, is_nothing}
use Rattle.board_rules.specs.InHand.{is_job_on}
use Rattle.flow_journal.proofs.Steps.{same_refl, same-true}
use Rattle.journal_check.specs.Tries.{Tries, IsJobFor}
use Rattle.board_rules.specs.States.{past, plain}
use Rattle.board_rules.specs.Moving.{moved}
use Rattle.run_course.specs.Puts.{put_of}
use Rattle.board_rules.proofs.Makers.{hand-suits}
use Rattle.course_parts.specs.declared.hand.Block.{Block}
use Rattle.course_parts.specs.declared.hand.Hand.TheVariants.{Job}
use Rattle.course_parts.specs.RoleStates.{hand_of}
use Rattle.run_course.proofs.Reclaiming.{job-node}
use Rattle.run_course.specs.Courses.{Coursed}
use Rattle.journal_check.proofs.Refusals.{false-by, and_false}

job-there : (s : Setting) (r v : ℕ) (a : FrameName) (P : Past) (o : Option Entry) → is_legal s P ≡ true → hand r P ≡ o → is_result_of v a o ≡ true
    → is_node s v ≡ true
job-there s r v a P None h is res = absurd (false≢true res)
job-there s r v a P (Some (Take q w m k)) h is res =
    let here = eqb-true w v (and_parts (eqb w v) (same a (frame m k)) res).0 in
    subst (λ (u : ℕ). is_node s u ≡ true) here (job-node s r w (Take q w m k) P h is refl)
job-there s r v a P (Some (TakeBlock f x q w m k b n g)) h is res =
    let here = eqb-true w v (and_parts (eqb w v) (same a (frame v k)) res).0 in
    subst (λ (u : ℕ). is_node s u ≡ true) here (job-node s r w (TakeBlock f x q w m k b n g) P h is refl)
job-there s r v a P (Some _) h is res = absurd (false≢true res)

pub result_nowhere : (s : Setting) (r v : ℕ) (a : FrameName) (P : Past) → is_history s P ≡ true → is_node s v ≡ false → is_result_of v a (hand r P) ≡ false
result_nowhere s r v a P h none =
    false-by (is_result_of v a (hand r P))
    (λ yes_. true≢false (sym (job-there s r v a P (hand r P) (and_parts (is_legal s P) (is_nothing (owed s P)) h).0 refl yes_) ∙ none))

made-there : (u v k : ℕ) (a : FrameName) → (eqb u v && same a (frame v k)) ≡ (eqb u v && same a (frame u k))
made-there u v k a =
    elim (cases_Bool (eqb u v)) [
      | inl here ↦ ap (λ (i : ℕ). eqb u v && same a (frame i k)) (sym (eqb-true u v here))
      | inr away ↦ rw away refl
    ]

result-by : (s : Setting) (r v w : ℕ) (a c : FrameName) (b : Option Block) (P : Past) (o : Option Entry) → is_legal s P ≡ true → hand r P ≡ o
    → hand_of o ≡ Job w c b → is_result_of v a o ≡ (eqb w v && same a (result_name s w c))
result-by s r v w a c b P None legal e j = cc
result-by s r v w a c b P (Some (Take q u m k)) legal e j =
    let at_ : u ≡ w = cc in
    let name_ : frame m k ≡ c = cc in
    let plain_ : is_maker s u ≡ false = not-true (is_maker s u) (hand-suits s P r (Take q u m k) legal e) in
    subst (λ (i : ℕ). (eqb u v && same a (frame m k)) ≡ (eqb i v && same a (result_name s i c))) at_
    (subst (λ (d : FrameName). (eqb u v && same a (frame m k)) ≡ (eqb u v && same a (result_name s u d))) name_ (rw plain_ refl))
result-by s r v w a c b P (Some (TakeBlock f x q u m k n z g)) legal e j =
    let at_ : u ≡ w = cc in
    let name_ : frame m k ≡ c = cc in
    let makes_ : is_maker s u ≡ true = hand-suits s P r (TakeBlock f x q u m k n z g) legal e in
    subst (λ (i : ℕ). (eqb u v && same a (frame v k)) ≡ (eqb i v && same a (result_name s i c))) at_
    (subst (λ (d : FrameName). (eqb u v && same a (frame v k)) ≡ (eqb u v && same a (result_name s u d))) name_ (rw makes_ (made-there u v k a)))
result-by s r v w a c b P (Some _) legal e j = cc

-- of a job the result has the name that it goes on under
result-named : (s : Setting) (r v w : ℕ) (a c : FrameName) (b : Option Block) (P : Past) → is_history s P ≡ true → hand_of (hand r P) ≡ Job w c b
    → is_result_of v a (hand r P) ≡ (eqb w v && same a (result_name s w c))
result-named s r v w a c b P h is = result-by s r v w a c b P (hand r P) (and_parts (is_legal s P) (is_nothing (owed s P)) h).0 refl is

other-way : (a b : FrameName) → same b a ≡ false → same a b ≡ false
other-way a b h = false-by (same a b) (λ e. true≢false (sym (subst (λ (c : FrameName). same c a ≡ true) (same-true a b e) (same_refl a)) ∙ h))

pub no-job : (s : Setting) (r v w : ℕ) (a c : FrameName) (b : Option Block) (P : Past) → is_history s P ≡ true → hand_of (hand r P) ≡ Job w c b
    → (w ≡ v → same (result_name s v c) a ≡ false) → is_result_of v a (hand r P) ≡ false
no-job s r v w a c b P h is other =
    elim (cases_Bool (eqb w v)) [
      | inl here ↦
          let at_ : w ≡ v = eqb-true w v here in
          let apart : same a (result_name s w c) ≡ false =
          subst (λ (i : ℕ). same a (result_name s i c) ≡ false) (sym at_) (other-way a (result_name s v c) (other at_)) in
          result-named s r v w a c b P h is ∙ rw apart (and_false (eqb w v))
      | inr away ↦ result-named s r v w a c b P h is ∙ rw away refl
    ]

hand-on : (v : ℕ) (c : FrameName) (b : Option Block) (o : Option Entry) → hand_of o ≡ Job v c b → is_job_on v c o ≡ true
hand-on v c b None j = cc
hand-on v c b (Some (Take q u m k)) j =
    let at_ : u ≡ v = cc in
    let name_ : frame m k ≡ c = cc in
    and_from _ _ (eq-eqb u v at_) (subst (λ (d : FrameName). same d (frame m k) ≡ true) name_ (same_refl (frame m k)))
hand-on v c b (Some (TakeBlock f x q u m k n z g)) j =
    let at_ : u ≡ v = cc in
    let name_ : frame m k ≡ c = cc in
    and_from _ _ (eq-eqb u v at_) (subst (λ (d : FrameName). same d (frame m k) ≡ true) name_ (same_refl (frame m k)))
hand-on v c b (Some _) j = cc

pub one-job : (s : Setting) (r v w : ℕ) (a c : FrameName) (b : Option Block) (P : Past) → is_history s P ≡ true → is_role s r ≡ true → is_node s v ≡ true
    → hand_of (hand r P) ≡ Job w c b → w ≡ v → same (result_name s v c) a ≡ true → IsJobFor s r v a c P
one-job s r v w a c b P h role node is at_ named =
    let here : hand_of (hand r P) ≡ Job v c b = is ∙ ap (λ (i : ℕ). Job i c b) at_ in
    let name_ : result_name s v c ≡ a = same-true (result_name s v c) a named in
    let own : same a (result_name s v c) ≡ true = subst (λ (d : FrameName). same d (result_name s v c) ≡ true) name_ (same_refl (result_name s v c)) in
    record {
      role = leb-true r (last_role s) role;
      node = node;
      hand = hand-on v c b (hand r P) here;
      result = result-named s r v v a c b P h here ∙ and_from _ _ (eq-eqb v v refl) own;
      named = name_;
    }

-- a result has the index of its array
pub result-index : (s : Setting) (v : ℕ) (c a : FrameName) → result_name s v c ≡ a → c.index ≡ a.index
result-index s v c a is = by (is_maker s v) ∙ ap (λ (d : FrameName). d.index) is
  where
    by : (b : Bool) → c.index ≡ (cond b (frame v c.index) c).index
    by true = refl
    by false = refl

both-same : (a b : Bool) → not (beq a b) ≡ false → both a b ≡ true
both-same true true h = refl
both-same false false h = refl
both-same _ _ h = absurd (true≢false h)

-- the put of the result of a job is the move of its entry
pub put-tries : (s : Setting) (r v : ℕ) (a c : FrameName) (f : Bool) (old new : Coursed) → IsJobFor s r v a c (past old.told)
    → not (beq f (fires_at s v a.index (node s v).work)) ≡ false → new ≡ record old { told = moved s (plain (put_of s r v c f)) old.told }
    → Tries s 0 (Put r v a.maker a.index f) old.told true new.told
put-tries s r v a c f old new job fires is =
    let same_ : put_of s r v c f ≡ Put r v a.maker a.index f =
    ap (λ (n : FrameName). Put r v n.maker c.index f) job.named ∙ ap (λ (k : ℕ). Put r v a.maker k f) (result-index s v c a job.named) in (
      and_from _ _ job.result (both-same f (fires_at s v a.index (node s v).work) fires),
      ap (λ (x : Coursed). x.told) is ∙ ap (λ (e : Entry). moved s (plain e) old.told) same_,
    )
