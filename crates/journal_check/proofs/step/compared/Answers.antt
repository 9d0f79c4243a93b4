use Rattle.journal_check.proofs.Following.{comes-ended, comes-bad}
use Rattle.journal_check.proofs.step.compared.Goals as goal

pub returns-then-count-entries : goal.returns-then-count-entries
returns-then-count-entries c = λ s P Q b.
    comes-ended s P c.args.made.now c.args.entries.now Q c.count_alike-count.result b c.count_alike-count.ensures c.if-count-made.false c.if-count-entries.true

pub returns-else-count-entries : goal.returns-else-count-entries
returns-else-count-entries c = λ s P Q b.
    comes-bad s P c.args.made.now c.args.entries.now Q c.count_alike-count.result b c.count_alike-count.ensures c.if-count-made.false c.if-count-entries.false
