-- The first newline ends the first line, which is the spelling of an entry or not.
use Rattle.std.proofs.Common.{◌≡◌, ◌+◌, ◌-◌, sym, subst, ap, ◌∙◌, Some, None, List, ℕ, take, drop, length, ◌++◌, arith, length-drop, ◌==◌}
use Rattle.std.specs.Prelude.{position}
use Rattle.std.proofs.lemmas.List.{take_all}
use Rattle.flow_journal.specs.Spelling.{line}
use Rattle.flow_journal.specs.TextFaults.{IsReading}
use Rattle.flow_journal.proofs.LineEnds.{line_end-line, taken-line, line-parts}
use Rattle.flow_journal.proofs.read.Lines.first_entry.Goals as goal

pub returns-in_default : goal.returns-in_default
returns-in_default c e back fits same =
    let found = line_end-line c.args.text.now e back fits same in
    let none : c.line_end.result ≡ None = c.in_default.is in
    cc (c.line_end.ensures, found, none)

pub returns-in_default-2 : goal.returns-in_default-2
returns-in_default-2 c e back fits same =
    let ends : position (λ d. d == 10) c.args.text.now ≡ Some c.in-Some.end = sym c.line_end.ensures ∙ c.in-Some.is in
    let unread : IsReading (take c.in-Some.end c.args.text.now) None =
    subst (IsReading (take c.in-Some.end c.args.text.now)) c.in_default-2.is c.in_ok-entry.ensures in
    unread e fits (taken-line c.args.text.now c.in-Some.end e back fits ends same)

pub returns : goal.returns
returns c =
    let ends : position (λ d. d == 10) c.args.text.now ≡ Some c.in-Some.end = sym c.line_end.ensures ∙ c.in-Some.is in
    let read : IsReading (take c.in-Some.end c.args.text.now) (Some c.in-Some-2.entry) =
    subst (IsReading (take c.in-Some.end c.args.text.now)) c.in-Some-2.is c.in_ok-entry.ensures in
    let parts = line-parts c.args.text.now c.in-Some.end c.in-Some-2.entry ends read.1 in
    let behind : List ℕ = drop (c.in-Some.end + 1) c.args.text.now in
    let whole : take (length c.args.text.now - (c.in-Some.end + 1)) behind ≡ behind =
    take_all (length c.args.text.now - (c.in-Some.end + 1)) behind (omega (arith, length-drop (c.in-Some.end + 1) c.args.text.now)) in
    (read.0, parts ∙ ap (λ (ys : List ℕ). line c.in-Some-2.entry ++ ys) (sym whole))
