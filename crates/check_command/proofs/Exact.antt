-- At most one answer is right.
use Rattle.std.proofs.Common.{◌≡◌, ◌≢◌, ℕ, ◌<◌, true, ◌&&◌, List, [], ◌∷◌, ◌++◌, length, reverse, All, Some, refl, ap, sym, subst, ◌∙◌, inl, inr}
use Rattle.std.proofs.Common.{arith, append_assoc, Result, Ok, Err}
use Rattle.std.specs.Prelude.{◌⊎◌}
use Rattle.std.proofs.lemmas.Bool.{and_from, and_parts}
use Rattle.std.proofs.lemmas.List.{reverse-reverse}
use Rattle.std.proofs.lemmas.List.Elements.{All-head, All-tail}
use Rattle.edge_traits.specs.Files.{Files}
use Rattle.flow_journal.specs.declared.entry.Entry.{Entry}
use Rattle.flow_journal.specs.declared.read.LogFault.TheVariants as text
use Rattle.flow_journal.specs.Finished.{is_finished}
use Rattle.flow_journal.specs.Histories.{is_history}
use Rattle.flow_journal.specs.Pasts.{Past}
use Rattle.flow_journal.specs.Setting.{Setting}
use Rattle.flow_journal.specs.Spelling.{line, text_of}
use Rattle.flow_journal.specs.TextFaults.{Fits, IsFirstBadLine}
use Rattle.flow_journal.proofs.OneText.{one_text, no_bad_line, same_line}
use Rattle.journal_check.specs.Verdicts.{Checks, is_whole}
use Rattle.journal_check.specs.declared.fault.CheckFault.{CheckFault}
use Rattle.journal_check.specs.declared.fault.CheckFault.TheVariants as verdict
use Rattle.journal_check.proofs.Verdicts.{one-verdict}
use Rattle.run_laws.specs.Results.{IsFinishedRun}
use Rattle.data_check.specs.ComparedFiles.{AreAllSame, IsFirstDifference}
use Rattle.data_check.specs.declared.difference.Difference.{Difference}
use Rattle.data_check.proofs.Alike.{none-where-same, one-difference}
use Rattle.tool_commands.specs.Outcomes.{Leads}
use Rattle.tool_commands.specs.Reads.{IsSized}
use Rattle.tool_commands.specs.Works.{Source, sources}
use Rattle.tool_commands.specs.declared.status.Status.{Status}
use Rattle.tool_commands.specs.declared.status.Status.TheVariants.{Done, Usage, GraphText, GraphRule, StackBytes, Limit, Sizes, ReadFault, ShelfFault, OutFault}
use Rattle.tool_commands.specs.declared.status.Status.TheVariants.{OutOfMemory}
use Rattle.check_command.specs.CheckAnswers.{IsLogRead, IsBadText, IsAnswer, setting_of, most_log_bytes}
use Rattle.check_command.specs.CheckCommand.{CheckCommand}
use Rattle.check_command.specs.CheckLaws.{OneAnswer}
use Rattle.check_command.specs.declared.status.CheckStatus.{CheckStatus}
use Rattle.check_command.specs.declared.status.CheckStatus.TheVariants.{Common, LongLog, LogBytes, LogRefused, FileDiffers}
use Rattle.check_command.proofs.Leads.{one_file, leads_once}

-- A BAD LINE

-- lines before the first bad one are as many, whichever way they are counted
as_many : (before others : List Entry) (rest behind : List ℕ) → All Fits before → All Fits others → text_of before ++ rest ≡ text_of others ++ behind
    → ((e : Entry) (back : List ℕ) → Fits e → rest ≢ line e ++ back) → ((e : Entry) (back : List ℕ) → Fits e → behind ≢ line e ++ back)
    → length before ≡ length others
as_many [] [] rest behind fb fo same bad ill = refl
as_many [] (d ∷ others) rest behind fb fo same bad ill =
    absurd (bad d (text_of others ++ behind) (All-head Fits d others fo) (same ∙ append_assoc (line d) (text_of others) behind))
as_many (e ∷ before) [] rest behind fb fo same bad ill =
    absurd (ill e (text_of before ++ rest) (All-head Fits e before fb) (sym same ∙ append_assoc (line e) (text_of before) rest))
as_many (e ∷ before) (d ∷ others) rest behind fb fo same bad ill =
    let one =
    same_line (text_of (e ∷ before) ++ rest) e d (text_of before ++ rest) (text_of others ++ behind) (All-head Fits e before fb)
    (All-head Fits d others fo) (append_assoc (line e) (text_of before) rest) (same ∙ append_assoc (line d) (text_of others) behind) in
    let less : length before ≡ length others =
    as_many before others rest behind (All-tail Fits e before fb) (All-tail Fits d others fo) one.1 bad ill in
    omega (arith, less)

one_bad_line : (bytes : List ℕ) (n m : ℕ) → IsFirstBadLine bytes n → IsFirstBadLine bytes m → n ≡ m
one_bad_line bytes n m a b =
    let many : length a.before ≡ length b.before = as_many a.before b.before a.rest b.rest a.fit b.fit (sym a.whole ∙ b.whole) a.bad b.bad in
    omega (arith, many, a.number, b.number)

-- ONE AFTER THE OTHER: a stage that ends a check, or lets it go on

abbrev Chain : {X A : Type 0} → (Result X A → Type 0) → (X → A → Type 0) → A → Type 0
Chain {X} {A} Ends Next a = Ends (Err a) ⊎ ((x : X) × Ends (Ok x) × Next x a)

-- where a stage has one end, and so has what comes after it, they have one end together
chain_once : {X A : Type 0} (Ends : Result X A → Type 0) (Next : X → A → Type 0) → ((r q : Result X A) → Ends r → Ends q → r ≡ q)
    → ((x : X) (a b : A) → Next x a → Next x b → a ≡ b) → (a b : A) → Chain Ends Next a → Chain Ends Next b → a ≡ b
chain_once Ends Next once next_once a b (inl p) (inl q) = let same : Err a ≡ Err b = once (Err a) (Err b) p q in cc
chain_once Ends Next once next_once a b (inl p) (inr q) = let same : Err a ≡ Ok q.0 = once (Err a) (Ok q.0) p q.1 in absurd (cc)
chain_once Ends Next once next_once a b (inr p) (inl q) = let same : Ok p.0 ≡ Err b = once (Ok p.0) (Err b) p.1 q in absurd (cc)
chain_once {X} Ends Next once next_once a b (inr p) (inr q) =
    let both : Ok p.0 ≡ Ok q.0 = once (Ok p.0) (Ok q.0) p.1 q.1 in
    let same : q.0 ≡ p.0 = cc in
    next_once p.0 a b p.2 (subst (λ (x : X). Next x b) same q.2)

-- THE STAGES

-- reading the graph and the stack
data SourceEnd (files : Files) (c : CheckCommand) : Result Source CheckStatus → Type 0 where
  Read : (source : Source) → Leads (Some files) (sources c.graph c.stack) (Ok source) → SourceEnd files c (Ok source)
  Unread : (status : Status) → Leads (Some files) (sources c.graph c.stack) (Err status) → SourceEnd files c (Err (Common status))

source_once : (files : Files) (c : CheckCommand) (r q : Result Source CheckStatus) → SourceEnd files c r → SourceEnd files c q → r ≡ q
source_once files c r q (Read s a) (Read t b) = let same : Ok s ≡ Ok t = leads_once files (sources c.graph c.stack) (Ok s) (Ok t) a b in cc
source_once files c r q (Read s a) (Unread t b) = let same : Ok s ≡ Err t = leads_once files (sources c.graph c.stack) (Ok s) (Err t) a b in absurd (cc)
source_once files c r q (Unread s a) (Read t b) = let same : Err s ≡ Ok t = leads_once files (sources c.graph c.stack) (Err s) (Ok t) a b in absurd (cc)
source_once files c r q (Unread s a) (Unread t b) = let same : Err s ≡ Err t = leads_once files (sources c.graph c.stack) (Err s) (Err t) a b in cc

-- reading the log's text
data TextEnd (files : Files) (name : List ℕ) : Result Past CheckStatus → Type 0 where
  Told : (P : Past) → IsLogRead (Some files) name P → TextEnd files name (Ok P)
  Long : (bytes : ℕ) → most_log_bytes < bytes → IsSized (Some files) name bytes → TextEnd files name (Err (LongLog bytes))
  Bad : (n : ℕ) → IsBadText (Some files) name n → TextEnd files name (Err (LogBytes (text.Line n)))

module _ (files : Files) (name : List ℕ) where
  one_past : (P Q : Past) → IsLogRead (Some files) name P → IsLogRead (Some files) name Q → P ≡ Q
  one_past P Q a b =
      let turned : reverse P ≡ reverse Q =
      one_text (reverse P) (reverse Q) a.fits b.fits (one_file files name (text_of (reverse P)) (text_of (reverse Q)) a.file b.file) in
      sym (reverse-reverse P) ∙ (ap reverse turned ∙ reverse-reverse Q)

  short_or_long : (P : Past) (n : ℕ) → IsLogRead (Some files) name P → most_log_bytes < n → IsSized (Some files) name n → ⊥
  short_or_long P n a long b =
      let same : text_of (reverse P) ≡ b.bytes = one_file files name (text_of (reverse P)) b.bytes a.file b.file in
      omega (arith, a.within, long, b.size, ap length same)

  good_or_bad : (P : Past) (n : ℕ) → IsLogRead (Some files) name P → IsBadText (Some files) name n → ⊥
  good_or_bad P n a b =
      no_bad_line (reverse P) n a.fits
      (subst (λ (bytes : List ℕ). IsFirstBadLine bytes n) (one_file files name b.bytes (text_of (reverse P)) b.file a.file) b.line)

  bad_or_long : (n m : ℕ) → most_log_bytes < n → IsSized (Some files) name n → IsBadText (Some files) name m → ⊥
  bad_or_long n m long a b =
      let same : a.bytes ≡ b.bytes = one_file files name a.bytes b.bytes a.file b.file in
      omega (arith, long, a.size, b.within, ap length same)

  one_size : (n m : ℕ) → IsSized (Some files) name n → IsSized (Some files) name m → n ≡ m
  one_size n m a b = a.size ∙ (ap length (one_file files name a.bytes b.bytes a.file b.file) ∙ sym b.size)

  one_line : (n m : ℕ) → IsBadText (Some files) name n → IsBadText (Some files) name m → n ≡ m
  one_line n m a b =
      one_bad_line b.bytes n m (subst (λ (bytes : List ℕ). IsFirstBadLine bytes n) (one_file files name a.bytes b.bytes a.file b.file) a.line) b.line

  text_once : (r q : Result Past CheckStatus) → TextEnd files name r → TextEnd files name q → r ≡ q
  text_once r q (Told P a) (Told Q b) = ap Ok (one_past P Q a b)
  text_once r q (Told P a) (Long n l b) = absurd (short_or_long P n a l b)
  text_once r q (Told P a) (Bad n b) = absurd (good_or_bad P n a b)
  text_once r q (Long n l a) (Told Q b) = absurd (short_or_long Q n b l a)
  text_once r q (Long n l a) (Long m k b) = ap (λ (bytes : ℕ). Err (LongLog bytes)) (one_size n m a b)
  text_once r q (Long n l a) (Bad m b) = absurd (bad_or_long n m l a b)
  text_once r q (Bad n a) (Told Q b) = absurd (good_or_bad Q n b a)
  text_once r q (Bad n a) (Long m k b) = absurd (bad_or_long m n k b a)
  text_once r q (Bad n a) (Bad m b) = ap (λ (k : ℕ). Err (LogBytes (text.Line k))) (one_line n m a b)

-- the verdict on the log
data VerdictEnd (source : Source) (P : Past) : Result (Unit {0}) CheckStatus → Type 0 where
  Legal : IsFinishedRun (setting_of source) P → VerdictEnd source P (Ok tt)
  Illegal : (fault : CheckFault) → fault ≢ verdict.OutOfMemory → Checks (setting_of source) (reverse P) (Err fault) → VerdictEnd source P (Err (LogRefused fault))

finished_whole : (source : Source) (P : Past) → IsFinishedRun (setting_of source) P → is_whole (setting_of source) (reverse P) ≡ true
finished_whole source P run =
    subst (λ (Q : Past). (is_history (setting_of source) Q && is_finished (setting_of source) Q) ≡ true) (sym (reverse-reverse P)) (and_from (is_history (setting_of source) P) (is_finished (setting_of source) P) run.legal run.finished)

pub whole_finished : (s : Setting) (P : Past) → is_whole s (reverse P) ≡ true → IsFinishedRun s P
whole_finished s P whole =
    let both =
    and_parts (is_history s P) (is_finished s P)
    (subst (λ (Q : Past). (is_history s Q && is_finished s Q) ≡ true) (reverse-reverse P) whole) in
    record { legal = both.0; finished = both.1 }

legal_or_not : (source : Source) (P : Past) (fault : CheckFault) → IsFinishedRun (setting_of source) P → Checks (setting_of source) (reverse P) (Err fault) → ⊥
legal_or_not source P fault run checks = let same : Err fault ≡ Ok tt = checks.whole.1 (finished_whole source P run) in absurd (cc)

verdict_once : (source : Source) (P : Past) (r q : Result (Unit {0}) CheckStatus) → VerdictEnd source P r → VerdictEnd source P q → r ≡ q
verdict_once source P r q (Legal a) (Legal b) = refl
verdict_once source P r q (Legal a) (Illegal fault some b) = absurd (legal_or_not source P fault a b)
verdict_once source P r q (Illegal fault some a) (Legal b) = absurd (legal_or_not source P fault b a)
verdict_once source P r q (Illegal fault some a) (Illegal other more b) =
    let same : Err fault ≡ Err other = one-verdict (setting_of source) (reverse P) (Err fault) (Err other) (λ e. some (let one : fault ≡ verdict.OutOfMemory = cc in one)) a b in
    let one : fault ≡ other = cc in
    ap (λ (f : CheckFault). Err (LogRefused f)) one

-- comparing the files
data FilesEnd (files : Files) (source : Source) (prefix : List ℕ) (P : Past) : CheckStatus → Type 0 where
  Same : AreAllSame (Some files) source.graph source.stack prefix P → FilesEnd files source prefix P (Common Done)
  First : (d : Difference) → IsFirstDifference (Some files) source.graph source.stack prefix P d → FilesEnd files source prefix P (FileDiffers d)

files_once : (files : Files) (source : Source) (prefix : List ℕ) (P : Past) (a b : CheckStatus) → FilesEnd files source prefix P a
    → FilesEnd files source prefix P b → a ≡ b
files_once files source prefix P a b (Same x) (Same y) = refl
files_once files source prefix P a b (Same x) (First d y) = absurd (none-where-same files source.graph source.stack prefix P d x y)
files_once files source prefix P a b (First d x) (Same y) = absurd (none-where-same files source.graph source.stack prefix P d y x)
files_once files source prefix P a b (First d x) (First e y) = ap FileDiffers (one-difference files source.graph source.stack prefix P d e x y)

-- THE WHOLE

module _ (files : Files) (c : CheckCommand) where
  abbrev IsStaged : CheckStatus → Type 0
  IsStaged =
      Chain (SourceEnd files c)
      (λ source. Chain (TextEnd files c.log) (λ P. Chain (VerdictEnd source P) (λ legal a. FilesEnd files source c.prefix P a)))

  staged_once : (a b : CheckStatus) → IsStaged a → IsStaged b → a ≡ b
  staged_once =
      chain_once (SourceEnd files c) _ (source_once files c)
      (λ source. chain_once (TextEnd files c.log) _ (text_once files c.log)
      (λ P. chain_once (VerdictEnd source P) _ (verdict_once source P) (λ legal a b. files_once files source c.prefix P a b)))

  staged : (a : CheckStatus) → IsAnswer (Some files) c a → IsStaged a
  staged (Common Done) (source, read, (P, log, w)) = inr (source, Read source read, inr (P, Told P log, inr (tt, Legal w.run, Same w.files)))
  staged (Common Usage) is = absurd is
  staged (Common GraphText) is = inl (Unread GraphText is)
  staged (Common (GraphRule fault)) is = inl (Unread (GraphRule fault) is)
  staged (Common (StackBytes fault)) is = inl (Unread (StackBytes fault) is)
  staged (Common (Limit fault)) is = inl (Unread (Limit fault) is)
  staged (Common Sizes) is = absurd is
  staged (Common ReadFault) is = absurd is
  staged (Common ShelfFault) is = absurd is
  staged (Common OutFault) is = absurd is
  staged (Common OutOfMemory) is = absurd is
  staged (LongLog bytes) (source, read, (long, sized)) = inr (source, Read source read, inl (Long bytes long sized))
  staged (LogBytes text.OutOfMemory) is = absurd is
  staged (LogBytes (text.Line n)) (source, read, bad) = inr (source, Read source read, inl (Bad n bad))
  staged (LogRefused fault) (source, read, (P, log, (checks, some))) =
      inr (source, Read source read, inr (P, Told P log, inl (Illegal fault some checks)))
  staged (FileDiffers d) (source, read, (P, log, w)) = inr (source, Read source read, inr (P, Told P log, inr (tt, Legal w.run, First d w.first)))

  one_answer : (a b : CheckStatus) → IsAnswer (Some files) c a → IsAnswer (Some files) c b → a ≡ b
  one_answer a b is also = staged_once a b (staged a is) (staged b also)

pub exact : OneAnswer
exact files c a b is also = one_answer files c a b is also
