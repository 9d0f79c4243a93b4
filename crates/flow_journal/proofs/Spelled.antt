-- What the spelling of an entry is read as.
use Rattle.std.proofs.Common.{◌≡◌, ◌≢◌, ℕ, suc, ◌+◌, ◌-◌, ◌*◌, ◌/◌, ◌%◌, ◌^◌, ◌<◌, min, Bool, true, false, not, ◌&&◌, eqb, List, [], ◌∷◌, ◌++◌, length}
use Rattle.std.proofs.Common.{refl, sym, ap, subst, ◌∙◌, arith, append_assoc, length-append, Option, Some, None}
use Rattle.std.specs.Prelude.{slice_get, unwrap_or}
use Rattle.std.specs.Char.{is_ascii_digit}
use Rattle.std.specs.Fmt.{decimal}
use Rattle.std.proofs.lemmas.Bool.{and_parts, and_from, le-leb, eq-eqb, ne_eqb}
use lib.Pointwise.{pointwise}
use Rattle.std.proofs.lemmas.List.{append-nil}
use Rattle.std.proofs.lemmas.Fmt.{decimal_by_steps}
use Rattle.flow_journal.specs.declared.entry.Entry.{Entry}
use Rattle.flow_journal.specs.declared.entry.Entry.TheVariants.{Load, LoadRefused, Tick, Issue, Emit, Accept, Full, Take, TakeBlock, PoolDrop, Put}
use Rattle.flow_journal.specs.declared.entry.Entry.TheVariants.{SortDrop, Settle, Save, Saved, Close, Leave, Reclaim}
use Rattle.flow_journal.specs.declared.entry.Why.{Why}
use Rattle.flow_journal.specs.declared.entry.Why.TheVariants.{Plain, Step, Late, Flush, Ring, Now}
use Rattle.flow_journal.specs.declared.kind.Kind.{Kind}
use Rattle.flow_journal.specs.declared.kind.Kind.TheVariants as K
use Rattle.flow_journal.specs.Spelling.{flag, why_word, spelling}
use Rattle.flow_journal.specs.Reading.{kind_in, with_digit, numbers_after, numbers_in, why_at_end, why_in, entry_of}
use Rattle.flow_journal.specs.TextFaults.{Fits}

-- KINDS

abbrev pub kind_of : Entry → Kind
kind_of (Load r k b n f g x) = K.Load
kind_of (LoadRefused r k n h) = K.LoadRefused
kind_of (Tick t) = K.Tick
kind_of (Issue r k) = K.Issue
kind_of (Emit v m k why) = K.Emit
kind_of (Accept v m k) = K.Accept
kind_of (Full v m k) = K.Full
kind_of (Take r v m k) = K.Take
kind_of (TakeBlock f x r v m k b n g) = K.TakeBlock
kind_of (PoolDrop r v m k n h) = K.PoolDrop
kind_of (Put r v m k f) = K.Put
kind_of (SortDrop v m k) = K.SortDrop
kind_of (Settle r v) = K.Settle
kind_of (Save r v m k g) = K.Save
kind_of (Saved r v m k) = K.Saved
kind_of (Close r) = K.Close
kind_of (Leave r) = K.Leave
kind_of (Reclaim r) = K.Reclaim

pub kind_in-spelling : (e : Entry) → kind_in (spelling e) ≡ Some (kind_of e)
kind_in-spelling (Load r k b n f g x) = refl
kind_in-spelling (LoadRefused r k n h) = refl
kind_in-spelling (Tick t) = refl
kind_in-spelling (Issue r k) = refl
kind_in-spelling (Emit v m k why) = refl
kind_in-spelling (Accept v m k) = refl
kind_in-spelling (Full v m k) = refl
kind_in-spelling (Take r v m k) = refl
kind_in-spelling (TakeBlock f x r v m k b n g) = refl
kind_in-spelling (PoolDrop r v m k n h) = refl
kind_in-spelling (Put r v m k f) = refl
kind_in-spelling (SortDrop v m k) = refl
kind_in-spelling (Settle r v) = refl
kind_in-spelling (Save r v m k g) = refl
kind_in-spelling (Saved r v m k) = refl
kind_in-spelling (Close r) = refl
kind_in-spelling (Leave r) = refl
kind_in-spelling (Reclaim r) = refl

-- NUMBERS

is_digit : (d : ℕ) → d < 10 → is_ascii_digit (48 + d) ≡ true
is_digit d h = and_from _ _ (le-leb 48 (48 + d) (omega arith)) (le-leb (48 + d) 57 (omega arith))

one_digit : (o : Option ℕ) (d m : ℕ) (rest : List ℕ) → d < 10 → min (unwrap_or o 0 * 10 + d) (2 ^ 64 - 1) ≡ m
    → numbers_after o ((48 + d) ∷ rest) ≡ numbers_after (Some m) rest
one_digit o d m rest h e =
    let same : with_digit o (48 + d) ≡ m = ap (λ x. min (unwrap_or o 0 * 10 + x) (2 ^ 64 - 1)) (let back : 48 + d - 48 ≡ d = omega arith in back) ∙ e in
    rw (is_digit d h) (ap (λ x. numbers_after (Some x) rest) same)

-- digits are one number
pub digits_after : (n : ℕ) → n < 2 ^ 64 → n < 2 ^ 64 → (rest : List ℕ) → numbers_after None (decimal n ++ rest) ≡ numbers_after (Some n) rest
digits_after =
    decimal_by_steps (λ m ds. m < 2 ^ 64 → (rest : List ℕ) → numbers_after None (ds ++ rest) ≡ numbers_after (Some m) rest)
    (λ m small _ rest. one_digit None m m rest small (omega arith))
    (λ m ds large more h rest.
    ap (numbers_after None) (append_assoc ds ((48 + m % 10) ∷ []) rest)
    ∙ (more (omega arith) ((48 + m % 10) ∷ rest) ∙ one_digit (Some (m / 10)) (m % 10) m rest (omega arith) (omega arith)))

wide_then : (n : ℕ) (rest ns : List ℕ) → n < 2 ^ 64 → numbers_after None rest ≡ ns → numbers_after None (decimal n ++ 32 ∷ rest) ≡ n ∷ ns
wide_then n rest ns h e = digits_after n h h (32 ∷ rest) ∙ ap (λ xs. n ∷ xs) e

wide_last : (n : ℕ) → n < 2 ^ 64 → numbers_after None (decimal n) ≡ n ∷ []
wide_last n h = ap (numbers_after None) (sym (append-nil (decimal n))) ∙ digits_after n h h []

small_then : (n : ℕ) (rest ns : List ℕ) → n < 2 ^ 32 → numbers_after None rest ≡ ns → numbers_after None (decimal n ++ 32 ∷ rest) ≡ n ∷ ns
small_then n rest ns h = wide_then n rest ns (omega arith)

small_last : (n : ℕ) → n < 2 ^ 32 → numbers_after None (decimal n) ≡ n ∷ []
small_last n h = wide_last n (omega arith)

abbrev pub bit : Bool → ℕ
bit true = 1
bit false = 0

flag_then : (f : Bool) (rest ns : List ℕ) → numbers_after None rest ≡ ns → numbers_after None (flag f ++ 32 ∷ rest) ≡ bit f ∷ ns
flag_then true rest ns e = ap (λ xs. 1 ∷ xs) e
flag_then false rest ns e = ap (λ xs. 0 ∷ xs) e

flag_last : (f : Bool) → numbers_after None (flag f) ≡ bit f ∷ []
flag_last true = refl
flag_last false = refl

abbrev pub numbers_of : Entry → List ℕ
numbers_of (Load r k b n f g x) = r ∷ k ∷ b ∷ n ∷ bit f ∷ g ∷ bit x ∷ []
numbers_of (LoadRefused r k n h) = r ∷ k ∷ n ∷ h ∷ []
numbers_of (Tick t) = t ∷ []
numbers_of (Issue r k) = r ∷ k ∷ []
numbers_of (Emit v m k why) = v ∷ m ∷ k ∷ []
numbers_of (Accept v m k) = v ∷ m ∷ k ∷ []
numbers_of (Full v m k) = v ∷ m ∷ k ∷ []
numbers_of (Take r v m k) = r ∷ v ∷ m ∷ k ∷ []
numbers_of (TakeBlock f x r v m k b n g) = r ∷ v ∷ m ∷ k ∷ b ∷ n ∷ bit f ∷ g ∷ bit x ∷ []
numbers_of (PoolDrop r v m k n h) = r ∷ v ∷ m ∷ k ∷ n ∷ h ∷ []
numbers_of (Put r v m k f) = r ∷ v ∷ m ∷ k ∷ bit f ∷ []
numbers_of (SortDrop v m k) = v ∷ m ∷ k ∷ []
numbers_of (Settle r v) = r ∷ v ∷ []
numbers_of (Save r v m k g) = r ∷ v ∷ m ∷ k ∷ g ∷ []
numbers_of (Saved r v m k) = r ∷ v ∷ m ∷ k ∷ []
numbers_of (Close r) = r ∷ []
numbers_of (Leave r) = r ∷ []
numbers_of (Reclaim r) = r ∷ []

-- the word of a reason has no number
no_number : (why : Why) → numbers_after None (why_word why) ≡ []
no_number Plain = refl
no_number Step = refl
no_number Late = refl
no_number Flush = refl
no_number Ring = refl
no_number Now = refl

pub numbers_in-spelling : (e : Entry) → Fits e → numbers_in (spelling e) ≡ numbers_of e
numbers_in-spelling (Load r k b n f g x) p =
    small_then r _ _ p.0 (small_then k _ _ p.1 (small_then b _ _ p.2 (small_then n _ _ p.3 (flag_then f _ _ (small_then g _ _ p.4 (flag_last x))))))
numbers_in-spelling (LoadRefused r k n h) p = small_then r _ _ p.0 (small_then k _ _ p.1 (small_then n _ _ p.2 (wide_last h p.3)))
numbers_in-spelling (Tick t) p = wide_last t p
numbers_in-spelling (Issue r k) p = small_then r _ _ p.0 (small_last k p.1)
numbers_in-spelling (Emit v m k why) p = small_then v _ _ p.0 (small_then m _ _ p.1 (small_then k _ _ p.2 (no_number why)))
numbers_in-spelling (Accept v m k) p = small_then v _ _ p.0 (small_then m _ _ p.1 (small_last k p.2))
numbers_in-spelling (Full v m k) p = small_then v _ _ p.0 (small_then m _ _ p.1 (small_last k p.2))
numbers_in-spelling (Take r v m k) p = small_then r _ _ p.0 (small_then v _ _ p.1 (small_then m _ _ p.2 (small_last k p.3)))
numbers_in-spelling (TakeBlock f x r v m k b n g) p =
    small_then r _ _ p.0 (small_then v _ _ p.1
    (small_then m _ _ p.2 (small_then k _ _ p.3 (small_then b _ _ p.4 (small_then n _ _ p.5 (flag_then f _ _ (small_then g _ _ p.6 (flag_last x))))))))
numbers_in-spelling (PoolDrop r v m k n h) p =
    small_then r _ _ p.0 (small_then v _ _ p.1 (small_then m _ _ p.2 (small_then k _ _ p.3 (small_then n _ _ p.4 (wide_last h p.5)))))
numbers_in-spelling (Put r v m k f) p = small_then r _ _ p.0 (small_then v _ _ p.1 (small_then m _ _ p.2 (small_then k _ _ p.3 (flag_last f))))
numbers_in-spelling (SortDrop v m k) p = small_then v _ _ p.0 (small_then m _ _ p.1 (small_last k p.2))
numbers_in-spelling (Settle r v) p = small_then r _ _ p.0 (small_last v p.1)
numbers_in-spelling (Save r v m k g) p = small_then r _ _ p.0 (small_then v _ _ p.1 (small_then m _ _ p.2 (small_then k _ _ p.3 (small_last g p.4))))
numbers_in-spelling (Saved r v m k) p = small_then r _ _ p.0 (small_then v _ _ p.1 (small_then m _ _ p.2 (small_last k p.3)))
numbers_in-spelling (Close r) p = small_last r p
numbers_in-spelling (Leave r) p = small_last r p
numbers_in-spelling (Reclaim r) p = small_last r p

-- ENTRIES

is_small : (n : ℕ) → n < 2 ^ 32 → min n (2 ^ 32 - 1) ≡ n
is_small n h = omega arith

is_bit : (f : Bool) → eqb (bit f) 1 ≡ f
is_bit true = refl
is_bit false = refl

-- the numbers of an entry and its reason make it again
entry_of-numbers : (e : Entry) (why : Why) → Fits e → ((v m k : ℕ) (w : Why) → e ≡ Emit v m k w → why ≡ w) → entry_of (kind_of e) (numbers_of e) why ≡ e
entry_of-numbers (Load r k b n f g x) why p same = rw (is_small r p.0, is_small k p.1, is_small b p.2, is_small n p.3, is_bit f, is_small g p.4, is_bit x) refl
entry_of-numbers (LoadRefused r k n h) why p same = rw (is_small r p.0, is_small k p.1, is_small n p.2) refl
entry_of-numbers (Tick t) why p same = refl
entry_of-numbers (Issue r k) why p same = rw (is_small r p.0, is_small k p.1) refl
entry_of-numbers (Emit v m k w) why p same = rw (is_small v p.0, is_small m p.1, is_small k p.2, same v m k w refl) refl
entry_of-numbers (Accept v m k) why p same = rw (is_small v p.0, is_small m p.1, is_small k p.2) refl
entry_of-numbers (Full v m k) why p same = rw (is_small v p.0, is_small m p.1, is_small k p.2) refl
entry_of-numbers (Take r v m k) why p same = rw (is_small r p.0, is_small v p.1, is_small m p.2, is_small k p.3) refl
entry_of-numbers (TakeBlock f x r v m k b n g) why p same =
    rw (is_small r p.0, is_small v p.1, is_small m p.2, is_small k p.3, is_small b p.4, is_small n p.5, is_bit f, is_small g p.6, is_bit x) refl
entry_of-numbers (PoolDrop r v m k n h) why p same = rw (is_small r p.0, is_small v p.1, is_small m p.2, is_small k p.3, is_small n p.4) refl
entry_of-numbers (Put r v m k f) why p same = rw (is_small r p.0, is_small v p.1, is_small m p.2, is_small k p.3, is_bit f) refl
entry_of-numbers (SortDrop v m k) why p same = rw (is_small v p.0, is_small m p.1, is_small k p.2) refl
entry_of-numbers (Settle r v) why p same = rw (is_small r p.0, is_small v p.1) refl
entry_of-numbers (Save r v m k g) why p same = rw (is_small r p.0, is_small v p.1, is_small m p.2, is_small k p.3, is_small g p.4) refl
entry_of-numbers (Saved r v m k) why p same = rw (is_small r p.0, is_small v p.1, is_small m p.2, is_small k p.3) refl
entry_of-numbers (Close r) why p same = rw (is_small r p) refl
entry_of-numbers (Leave r) why p same = rw (is_small r p) refl
entry_of-numbers (Reclaim r) why p same = rw (is_small r p) refl

-- REASONS

get-append : (xs ys : List ℕ) (n : ℕ) → slice_get (xs ++ ys) (length xs + n) ≡ slice_get ys n
get-append [] ys n = ap (slice_get ys) (let e : 0 + n ≡ n = omega arith in e)
get-append (x ∷ xs) ys n = ap (slice_get (x ∷ (xs ++ ys))) (let e : suc (length xs) + n ≡ suc (length xs + n) = omega arith in e) ∙ get-append xs ys n

-- the last letter of a text is that of its end
last-append : (xs : List ℕ) (c : ℕ) (cs : List ℕ) → slice_get (xs ++ c ∷ cs) (length (xs ++ c ∷ cs) - 1) ≡ slice_get (c ∷ cs) (length cs)
last-append xs c cs =
    ap (slice_get (xs ++ c ∷ cs)) (let e : length (xs ++ c ∷ cs) - 1 ≡ length xs + length cs = omega (arith, length-append xs (c ∷ cs)) in e)
    ∙ get-append xs (c ∷ cs) (length cs)

last-word : (why : Why) → why_at_end (slice_get (32 ∷ why_word why) (length (why_word why))) ≡ why
last-word Plain = refl
last-word Step = refl
last-word Late = refl
last-word Flush = refl
last-word Ring = refl
last-word Now = refl

-- what stands before the reason of an Emit
abbrev emit_front : (v m k : ℕ) → List ℕ
emit_front v m k = 101 ∷ 109 ∷ 105 ∷ 116 ∷ 32 ∷ (decimal v ++ 32 ∷ (decimal m ++ 32 ∷ decimal k))

emit-parts : (v m k : ℕ) (why : Why) → spelling (Emit v m k why) ≡ emit_front v m k ++ 32 ∷ why_word why
emit-parts v m k why =
    ap (λ xs. 101 ∷ 109 ∷ 105 ∷ 116 ∷ 32 ∷ xs) (sym (append_assoc (decimal v) (32 ∷ (decimal m ++ 32 ∷ decimal k)) (32 ∷ why_word why)
    ∙ ap (λ xs. decimal v ++ 32 ∷ xs) (append_assoc (decimal m) (32 ∷ decimal k) (32 ∷ why_word why))))

why_in-Emit : (v m k : ℕ) (why : Why) → why_in (spelling (Emit v m k why)) ≡ why
why_in-Emit v m k why =
    ap why_in (emit-parts v m k why) ∙ (ap why_at_end (last-append (emit_front v m k) 32 (why_word why)) ∙ last-word why)

-- a spelled entry is read as itself
pub reads-spelling : (e : Entry) → Fits e → entry_of (kind_of e) (numbers_in (spelling e)) (why_in (spelling e)) ≡ e
reads-spelling e h =
    ap (λ ns. entry_of (kind_of e) ns (why_in (spelling e))) (numbers_in-spelling e h)
    ∙ entry_of-numbers e (why_in (spelling e)) h (λ v m k w same. ap (λ (d : Entry). why_in (spelling d)) same ∙ why_in-Emit v m k w)

-- NEWLINES

-- no newline is in these bytes
abbrev pub has_no_newline : List ℕ → Bool
has_no_newline [] = true
has_no_newline (c ∷ cs) = not (eqb c 10) && has_no_newline cs

no_newline-append : (xs ys : List ℕ) → has_no_newline xs ≡ true → has_no_newline ys ≡ true → has_no_newline (xs ++ ys) ≡ true
no_newline-append [] ys h g = g
no_newline-append (c ∷ xs) ys h g =
    let p = and_parts (not (eqb c 10)) (has_no_newline xs) h in and_from _ _ p.0 (no_newline-append xs ys p.1 g)

no_newline-digit : (d : ℕ) → has_no_newline ((48 + d) ∷ []) ≡ true
no_newline-digit d = let ne : 48 + d ≢ 10 = omega arith in rw (ne_eqb (48 + d) 10 ne) refl

no_newline-decimal : (n : ℕ) → n < 2 ^ 64 → has_no_newline (decimal n) ≡ true
no_newline-decimal =
    decimal_by_steps (λ m ds. has_no_newline ds ≡ true) (λ m _. no_newline-digit m)
    (λ m ds _ h. no_newline-append ds ((48 + m % 10) ∷ []) h (no_newline-digit (m % 10)))

wide_plain : (n : ℕ) (rest : List ℕ) → n < 2 ^ 64 → has_no_newline rest ≡ true → has_no_newline (decimal n ++ rest) ≡ true
wide_plain n rest h g = no_newline-append (decimal n) rest (no_newline-decimal n h) g

small_plain : (n : ℕ) (rest : List ℕ) → n < 2 ^ 32 → has_no_newline rest ≡ true → has_no_newline (decimal n ++ rest) ≡ true
small_plain n rest h = wide_plain n rest (omega arith)

flag_plain : (f : Bool) (rest : List ℕ) → has_no_newline rest ≡ true → has_no_newline (flag f ++ rest) ≡ true
flag_plain true rest g = g
flag_plain false rest g = g

small_end : (n : ℕ) → n < 2 ^ 32 → has_no_newline (decimal n) ≡ true
small_end n h = no_newline-decimal n (omega arith)

flag_end : (f : Bool) → has_no_newline (flag f) ≡ true
flag_end true = refl
flag_end false = refl

word_plain : (why : Why) → has_no_newline (why_word why) ≡ true
word_plain Plain = refl
word_plain Step = refl
word_plain Late = refl
word_plain Flush = refl
word_plain Ring = refl
word_plain Now = refl

pub no_newline-spelling : (e : Entry) → Fits e → has_no_newline (spelling e) ≡ true
no_newline-spelling (Load r k b n f g x) p =
    small_plain r _ p.0 (small_plain k _ p.1 (small_plain b _ p.2 (small_plain n _ p.3 (flag_plain f _ (small_plain g _ p.4 (flag_end x))))))
no_newline-spelling (LoadRefused r k n h) p = small_plain r _ p.0 (small_plain k _ p.1 (small_plain n _ p.2 (no_newline-decimal h p.3)))
no_newline-spelling (Tick t) p = no_newline-decimal t p
no_newline-spelling (Issue r k) p = small_plain r _ p.0 (small_end k p.1)
no_newline-spelling (Emit v m k why) p = small_plain v _ p.0 (small_plain m _ p.1 (small_plain k _ p.2 (word_plain why)))
no_newline-spelling (Accept v m k) p = small_plain v _ p.0 (small_plain m _ p.1 (small_end k p.2))
no_newline-spelling (Full v m k) p = small_plain v _ p.0 (small_plain m _ p.1 (small_end k p.2))
no_newline-spelling (Take r v m k) p = small_plain r _ p.0 (small_plain v _ p.1 (small_plain m _ p.2 (small_end k p.3)))
no_newline-spelling (TakeBlock f x r v m k b n g) p =
    small_plain r _ p.0 (small_plain v _ p.1
    (small_plain m _ p.2 (small_plain k _ p.3 (small_plain b _ p.4 (small_plain n _ p.5 (flag_plain f _ (small_plain g _ p.6 (flag_end x))))))))
no_newline-spelling (PoolDrop r v m k n h) p =
    small_plain r _ p.0 (small_plain v _ p.1 (small_plain m _ p.2 (small_plain k _ p.3 (small_plain n _ p.4 (no_newline-decimal h p.5)))))
no_newline-spelling (Put r v m k f) p = small_plain r _ p.0 (small_plain v _ p.1 (small_plain m _ p.2 (small_plain k _ p.3 (flag_end f))))
no_newline-spelling (SortDrop v m k) p = small_plain v _ p.0 (small_plain m _ p.1 (small_end k p.2))
no_newline-spelling (Settle r v) p = small_plain r _ p.0 (small_end v p.1)
no_newline-spelling (Save r v m k g) p = small_plain r _ p.0 (small_plain v _ p.1 (small_plain m _ p.2 (small_plain k _ p.3 (small_end g p.4))))
no_newline-spelling (Saved r v m k) p = small_plain r _ p.0 (small_plain v _ p.1 (small_plain m _ p.2 (small_end k p.3)))
no_newline-spelling (Close r) p = small_end r p
no_newline-spelling (Leave r) p = small_end r p
no_newline-spelling (Reclaim r) p = small_end r p

-- where a line is the spelling of an entry, what is read of it is spelled as the line
pub read-again : (text : List ℕ) (kind : Kind) (e d : Entry) → kind_in text ≡ Some kind → d ≡ entry_of kind (numbers_in text) (why_in text) → Fits e
    → text ≡ spelling e → spelling d ≡ text
read-again text kind e d k made fits same =
    let is_kind : Some (kind_of e) ≡ Some kind = sym (ap kind_in same ∙ kind_in-spelling e) ∙ k in
    let one : kind_of e ≡ kind = cc in
    let again : entry_of kind (numbers_in text) (why_in text) ≡ e =
    subst (λ (q : Kind). entry_of q (numbers_in text) (why_in text) ≡ e) one
    (subst (λ (t : List ℕ). entry_of (kind_of e) (numbers_in t) (why_in t) ≡ e) (sym same) (reads-spelling e fits)) in
    ap spelling (made ∙ again) ∙ sym same

pointwise_self : (xs : List ℕ) → pointwise eqb xs xs ≡ true
pointwise_self [] = refl
pointwise_self (x ∷ xs) = and_from _ _ (eq-eqb x x refl) (pointwise_self xs)

-- equal bytes compare as equal
pub same-pointwise : (xs ys : List ℕ) → xs ≡ ys → pointwise eqb xs ys ≡ true
same-pointwise xs ys same = subst (λ (zs : List ℕ). pointwise eqb xs zs ≡ true) same (pointwise_self xs)
