-- What a job in hand lets go when its result is put.
use Rattle.std.proofs.Common.{◌≡◌, ◌∙◌, ℕ, true, false, Bool, ◌||◌, [], ◌∷◌, ◌++◌, Option, Some, None, refl, sym, ap, subst, eqb}
use Rattle.std.specs.List.{All, flat_map}
use Rattle.std.proofs.lemmas.Bool.{and_parts, eqb-true, true≢false, false≢true, not-true}
use Rattle.std.proofs.lemmas.List.{append-nil}
use Rattle.std.proofs.lemmas.List.Elements.{All-cons, All-nil}
use Rattle.nd_base.specs.declared.frame.FrameName.{FrameName}
use Rattle.flow_journal.specs.declared.entry.Entry.{Entry}
use Rattle.flow_journal.specs.declared.entry.Entry.TheVariants.{Take, TakeBlock}
use Rattle.flow_journal.specs.Setting.{Setting, is_maker}
use Rattle.flow_journal.specs.Pasts.{Past, frame, same}
use Rattle.flow_journal.specs.Hands.{hand, is_job}
use Rattle.flow_journal.specs.Accounts.{block_of, blocks_in_hand}
use Rattle.flow_journal.specs.Histories.{is_legal}
use Rattle.flow_journal.proofs.AccountChanges.{block_laws}
use Rattle.flow_journal.proofs.Steps.{same-true}
use Rattle.board_rules.specs.InHand.{is_job_on}
use Rattle.board_rules.proofs.Makers.{hand-suits}
use Rattle.flow_journal.specs.Having.{HasBlock}
use Rattle.run_course.specs.Puts.{job_arrays}
use Rattle.run_course.proofs.Having.{hand-block}

-- a job of the node, which the role has
pub record HasJob (v r : ℕ) (P : Past) (h : Entry) : Type 0 where
  pub held : hand r P ≡ Some h
  pub job : is_job v h ≡ true

-- the arrays of a job have the blocks of the hand
pub record HasArrays (s : Setting) (v : ℕ) (a : FrameName) (P : Past) (h : Entry) : Type 0 where
  pub blocks : flat_map (block_of P) (job_arrays s v a) ≡ blocks_in_hand P h
  pub standing : All (HasBlock P) (job_arrays s v a)

-- at a maker a block was granted with the job, and at no other node
abbrev pub IsGrantedFor : Setting → ℕ → FrameName → Entry → Type 0
IsGrantedFor s v a (Take q w m k) = (is_maker s v ≡ false) × (w ≡ v) × (frame m k ≡ a)
IsGrantedFor s v a (TakeBlock f x q w m k b n g) = (is_maker s v ≡ true) × (w ≡ v) × (frame m k ≡ a)
IsGrantedFor s v a _ = ⊥

-- the hand is a job of the node on this array
pub record JobOn (s : Setting) (v r : ℕ) (a : FrameName) (P : Past) : Type 0 where
  pub entry : Entry
  pub has : HasJob v r P entry
  pub kind : IsGrantedFor s v a entry

pub job-on : (s : Setting) (v r : ℕ) (a : FrameName) (P : Past) → is_legal s P ≡ true → is_job_on v a (hand r P) ≡ true → JobOn s v r a P
job-on s v r a P legal h = by (hand r P) refl h where
  on : (e : Entry) → hand r P ≡ Some e → is_job v e ≡ true → IsGrantedFor s v a e → JobOn s v r a P
  on e held job kind = record { entry = e; has = record { held = held; job = job }; kind = kind }

  by : (o : Option Entry) → hand r P ≡ o → is_job_on v a o ≡ true → JobOn s v r a P
  by None is h = absurd (false≢true h)
  by (Some (Take q w m k)) is h =
      let p = and_parts (eqb w v) (same a (frame m k)) h in
      let here : w ≡ v = eqb-true w v p.0 in
      on (Take q w m k) is p.0 (
        subst (λ u. is_maker s u ≡ false) here (not-true (is_maker s w) (hand-suits s P r (Take q w m k) legal is)),
        here,
        sym (same-true a (frame m k) p.1),
      )
  by (Some (TakeBlock f x q w m k b n g)) is h =
      let p = and_parts (eqb w v) (same a (frame m k)) h in
      let here : w ≡ v = eqb-true w v p.0 in
      on (TakeBlock f x q w m k b n g) is p.0
      (subst (λ u. is_maker s u ≡ true) here (hand-suits s P r (TakeBlock f x q w m k b n g) legal is), here, sym (same-true a (frame m k) p.1))
  by (Some _) is h = absurd (false≢true h)

pub has-arrays : (s : Setting) (v r : ℕ) (a : FrameName) (P : Past) (e : Entry) → is_legal s P ≡ true → hand r P ≡ Some e
    → IsGrantedFor s v a e → HasArrays s v a P e
has-arrays s v r a P (Take q w m k) legal held kind =
    let alone : job_arrays s v a ≡ a ∷ [] = rw kind.0 refl in
    record {
      blocks = ap (flat_map (block_of P)) alone ∙ (append-nil (block_of P a) ∙ ap (block_of P) (sym kind.2));
      standing =
          subst (All (HasBlock P)) (sym alone)
          (All-cons (HasBlock P) a [] (subst (HasBlock P) kind.2 (hand-block s r (Take q w m k) (frame m k) P legal held (λ h. h))) (All-nil (HasBlock P)));
    }
has-arrays s v r a P (TakeBlock f x q w m k b n g) legal held kind =
    let pair : job_arrays s v a ≡ frame v a.index ∷ a ∷ [] = rw kind.0 refl in
    let index : k ≡ a.index = ap (λ (c : FrameName). c.index) kind.2 in
    let own : block_of P (frame v a.index) ≡ b ∷ [] =
    subst (λ j. block_of P (frame v j) ≡ b ∷ []) index
    (subst (λ u. block_of P (frame u k) ≡ b ∷ []) kind.1 (block_laws.in_hand_block s r q w m k b n f g x P legal held)) in
    record {
      blocks =
          ap (flat_map (block_of P)) pair
          ∙ (ap (λ bs. bs ++ (block_of P a ++ [])) own ∙ ap (λ bs. b ∷ bs) (append-nil (block_of P a) ∙ ap (block_of P) (sym kind.2)));
      standing =
          subst (All (HasBlock P)) (sym pair) (All-cons (HasBlock P) (frame v a.index) (a ∷ []) (b, own) (All-cons (HasBlock P) a [] (subst (HasBlock P) kind.2
          (hand-block s r (TakeBlock f x q w m k b n g) (frame m k) P legal held (λ h. (or-parts _ _ h).1))) (All-nil (HasBlock P))));
    } where
      or-parts : (c d : Bool) → (c || d) ≡ false → (c ≡ false) × (d ≡ false)
      or-parts false d h = (refl, h)
      or-parts true d h = absurd (true≢false h)
has-arrays s v r a P _ legal held kind = absurd kind

-- the job as it was taken
pub taken-as : (s : Setting) (v r : ℕ) (a : FrameName) (P : Past) → JobOn s v r a P → is_maker s v ≡ false
    → (q : ℕ) × (hand r P ≡ Some (Take q v a.maker a.index))
taken-as s v r a P job passes = by job.entry job.has.held job.kind where
  by : (e : Entry) → hand r P ≡ Some e → IsGrantedFor s v a e → (q : ℕ) × (hand r P ≡ Some (Take q v a.maker a.index))
  by (Take q w m k) held kind = (q, held ∙ (ap (λ u. Some (Take q u m k)) kind.1 ∙ ap (λ (c : FrameName). Some (Take q v c.maker c.index)) kind.2))
  by (TakeBlock f x q w m k b n g) held kind = absurd (true≢false (sym kind.0 ∙ passes))
  by _ held kind = absurd kind

-- the same at a maker, with the block that was granted
pub record GrantedAs (v r : ℕ) (a : FrameName) (P : Past) : Type 0 where
  pub role : ℕ
  pub maker : ℕ
  pub block : ℕ
  pub size : ℕ
  pub fresh : Bool
  pub given : ℕ
  pub regrown : Bool
  pub held : hand r P ≡ Some (TakeBlock fresh regrown role v maker a.index block size given)
  pub name : frame maker a.index ≡ a

pub granted-as : (s : Setting) (v r : ℕ) (a : FrameName) (P : Past) → JobOn s v r a P → is_maker s v ≡ true → GrantedAs v r a P
granted-as s v r a P job makes = by job.entry job.has.held job.kind where
  by : (e : Entry) → hand r P ≡ Some e → IsGrantedFor s v a e → GrantedAs v r a P
  by (Take q w m k) held kind = absurd (true≢false (sym makes ∙ kind.0))
  by (TakeBlock f x q w m k b n g) held kind =
      let index : k ≡ a.index = ap (λ (c : FrameName). c.index) kind.2 in
      record {
        role = q;
        maker = m;
        block = b;
        size = n;
        fresh = f;
        given = g;
        regrown = x;
        held = held ∙ (ap (λ u. Some (TakeBlock f x q u m k b n g)) kind.1 ∙ ap (λ j. Some (TakeBlock f x q v m j b n g)) index);
        name = ap (λ j. frame m j) (sym index) ∙ kind.2;
      }
  by _ held kind = absurd kind
