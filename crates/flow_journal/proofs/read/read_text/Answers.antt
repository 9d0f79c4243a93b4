-- One more line, and its entry.
use Rattle.std.proofs.Common.{◌≡◌, ◌+◌, ◌≤◌, sym, subst, Some, List, [], ◌∷◌, ◌++◌, length, All, arith, length-append}
use Rattle.flow_journal.specs.declared.entry.Entry.{Entry}
use Rattle.flow_journal.specs.Spelling.{text_of}
use Rattle.flow_journal.specs.TextFaults.{IsLineRead, Fits}
use Rattle.flow_journal.proofs.Texts.{whole-more, All-more, fewer}
use Rattle.flow_journal.proofs.read.read_text.Goals as goal

pub loop-rest-preserved : goal.loop-rest-preserved
loop-rest-preserved c =
    let read : IsLineRead c.loop-rest.rest.now (Some (record { entry = c.in-Some.entry; rest = c.in-Some.after.now })) =
    rw c.in-Some.is at c.in_ok-entry.ensures in
    let es : List Entry = c.loop-rest.entries.items in
    let items : es ++ c.in-Some.entry ∷ [] ≡ c.push.new.self.items = sym c.in_ok-push.ensures.items in
    record {
      whole =
          subst (λ (xs : List Entry). c.args.text.now ≡ text_of xs ++ c.in-Some.after.now) items
          (whole-more c.args.text.now c.loop-rest.rest.now c.in-Some.after.now es c.in-Some.entry c.loop-rest.invariant.whole read.1);
      fit = subst (All Fits) items (All-more Fits es c.in-Some.entry c.loop-rest.invariant.fit read.0);
      few =
          subst (λ (xs : List Entry). length xs + length c.in-Some.after.now ≤ length c.args.text.now) items (omega (
            arith,
            length-append es (c.in-Some.entry ∷ []),
            fewer c.loop-rest.rest.now c.in-Some.after.now c.in-Some.entry read.1,
            c.loop-rest.invariant.few,
          ));
    }
