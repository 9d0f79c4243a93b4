-- A line that is the spelling of some entry is spelled again as it is.
use Rattle.std.proofs.Common.{◌≡◌, ap, sym, ◌∙◌, List, ℕ, Some, ◌++◌}
use Rattle.std.proofs.lemmas.Bool.{true≢false}
use Rattle.flow_journal.specs.Spelling.{spelling}
use Rattle.flow_journal.specs.Reading.{kind_in, numbers_in, why_in, entry_of}
use Rattle.flow_journal.proofs.Spelled.{read-again, same-pointwise}
use Rattle.flow_journal.proofs.read.Lines.entry.Goals as goal

pub returns-else-eq : goal.returns-else-eq
returns-else-eq c e fits same =
    let kind : kind_in c.args.line.now ≡ Some c.in-Some.kind = sym c.of_line.ensures ∙ c.in-Some.is in
    let numbers : c.deref.result.now ≡ numbers_in c.args.line.now = c.deref.ensures.value ∙ c.in_ok-read_numbers.ensures in
    let made : c.entry-entry.result ≡ entry_of c.in-Some.kind (numbers_in c.args.line.now) (why_in c.args.line.now) = cc c.entry-entry.ensures in
    let again : spelling c.entry-entry.result ≡ c.args.line.now = read-again c.args.line.now c.in-Some.kind e c.entry-entry.result kind made fits same in
    let written : c.as_bytes.result.now ≡ c.args.line.now =
    c.as_bytes.ensures.value ∙ (c.in_ok-write.ensures.bytes ∙ (ap (λ (xs : List ℕ). xs ++ spelling c.entry-entry.result) c.clear.ensures.bytes ∙ again)) in
    true≢false (sym (same-pointwise c.as_bytes.result.now c.args.line.now written) ∙ (sym c.eq.ensures ∙ c.if-eq.false))
