-- A text is that of one list of entries.
use Rattle.std.proofs.Common.{◌≡◌, ℕ, List, [], ◌∷◌, ◌++◌, length, drop, All, refl, sym, ap, ◌∙◌, arith, length-append, append_assoc, Some}
use Rattle.std.proofs.Math.Seq.{drop-append_seam}
use Rattle.std.proofs.lemmas.List.Elements.{All-head, All-tail}
use Rattle.flow_journal.specs.declared.entry.Entry.{Entry}
use Rattle.flow_journal.specs.declared.kind.Kind.{Kind}
use Rattle.flow_journal.specs.Spelling.{spelling, line, text_of}
use Rattle.flow_journal.specs.Reading.{kind_in, numbers_in, why_in, entry_of}
use Rattle.flow_journal.specs.TextFaults.{Fits, IsFirstBadLine}
use Rattle.flow_journal.proofs.Spelled.{kind_of, kind_in-spelling, reads-spelling}
use Rattle.flow_journal.proofs.LineEnds.{line_end-line, taken-line}

-- entries of one spelling are one
one_entry : (e d : Entry) → Fits e → Fits d → spelling e ≡ spelling d → e ≡ d
one_entry e d fe fd same =
    let kinds : Some (kind_of e) ≡ Some (kind_of d) = sym (kind_in-spelling e) ∙ (ap kind_in same ∙ kind_in-spelling d) in
    let one : kind_of e ≡ kind_of d = cc in
    sym (reads-spelling e fe)
    ∙ (ap (λ (t : List ℕ). entry_of (kind_of e) (numbers_in t) (why_in t)) same
    ∙ (ap (λ (k : Kind). entry_of k (numbers_in (spelling d)) (why_in (spelling d))) one ∙ reads-spelling d fd))

-- a text begins with one line
pub same_line : (text : List ℕ) (e d : Entry) (back after : List ℕ) → Fits e → Fits d → text ≡ line e ++ back → text ≡ line d ++ after → (e ≡ d) × (back ≡ after)
same_line text e d back after fe fd he hd =
    let ends = line_end-line text e back fe he in
    let one : e ≡ d =
    one_entry e d fe fd (sym (taken-line text (length (spelling e)) e back fe ends he) ∙ taken-line text (length (spelling e)) d after fd ends hd) in
    let at_d : text ≡ line d ++ back = he ∙ ap (λ (x : Entry). line x ++ back) one in
    (one, sym (drop-append_seam (line d) back) ∙ (ap (drop (length (line d))) (sym at_d ∙ hd) ∙ drop-append_seam (line d) after))

-- lines at the front of a text are those of its first entries
pub front_entries : (es before : List Entry) (rest : List ℕ) → All Fits es → All Fits before → text_of es ≡ text_of before ++ rest
    → (ds : List Entry) × (es ≡ before ++ ds) × (rest ≡ text_of ds) × All Fits ds
front_entries es [] rest fes fit same = (es, refl, sym same, fes)
front_entries [] (d ∷ before) rest fes fit same =
    absurd (omega (
      arith,
      ap length same,
      length-append (text_of (d ∷ before)) rest,
      length-append (line d) (text_of before),
      length-append (spelling d) (10 ∷ []),
    ))
front_entries (e ∷ es) (d ∷ before) rest fes fit same =
    let whole : text_of (e ∷ es) ≡ line d ++ (text_of before ++ rest) = same ∙ append_assoc (line d) (text_of before) rest in
    let one = same_line (text_of (e ∷ es)) e d (text_of es) (text_of before ++ rest) (All-head Fits e es fes) (All-head Fits d before fit) refl whole in
    let more = front_entries es before rest (All-tail Fits e es fes) (All-tail Fits d before fit) one.1 in
    (more.0, ap (λ (x : Entry). x ∷ es) one.0 ∙ ap (λ (xs : List Entry). d ∷ xs) more.1, more.2, more.3)

no_text : (ds : List Entry) → [] ≡ text_of ds → ds ≡ []
no_text [] h = refl
no_text (d ∷ ds) h = absurd (omega (arith, ap length h, length-append (line d) (text_of ds), length-append (spelling d) (10 ∷ [])))

append_none : {X : Type 0} (xs : List X) → xs ++ [] ≡ xs
append_none [] = refl
append_none (x ∷ xs) = ap (λ ys. x ∷ ys) (append_none xs)

pub one_text : (es ds : List Entry) → All Fits es → All Fits ds → text_of es ≡ text_of ds → es ≡ ds
one_text es ds fes fds same =
    let front = front_entries es ds [] fes fds (same ∙ sym (append_none (text_of ds))) in
    front.1 ∙ (ap (λ (xs : List Entry). ds ++ xs) (no_text front.0 front.2) ∙ append_none ds)

begins : (ds : List Entry) (rest : List ℕ) → All Fits ds → rest ≡ text_of ds → (rest ≡ [] → ⊥)
    → ((e : Entry) (back : List ℕ) → Fits e → rest ≡ line e ++ back → ⊥) → ⊥
begins [] rest fit is more bad = more is
begins (d ∷ ds) rest fit is more bad = bad d (text_of ds) (All-head Fits d ds fit) is

pub no_bad_line : (es : List Entry) (n : ℕ) → All Fits es → IsFirstBadLine (text_of es) n → ⊥
no_bad_line es n fes b =
    let front = front_entries es b.before b.rest fes b.fit b.whole in
    begins front.0 b.rest front.3 front.2 b.more b.bad
