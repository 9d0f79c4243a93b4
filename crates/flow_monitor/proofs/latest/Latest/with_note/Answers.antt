use Rattle.std.proofs.Common.{◌≡◌, length, sym, ◌∙◌, ap}
use Rattle.flow_monitor.proofs.Appending.{appends}
use Rattle.flow_monitor.proofs.latest.Latest.with_note.Goals as goal

pub compare_exchange-found-requires : goal.compare_exchange-found-requires
compare_exchange-found-requires c =
    let word = c.requires in
    let seen = c.again-seen.ensures in
    let offer = c.plain-offer.ensures in
    let pen = c.no_pen-pen.ensures in
    let home = ap (λ s. s.book) seen ∙ sym (ap (λ w. w.book) word) in
    let fits : length c.again-seen.result.log ≡ c.args.self.now.count = ap (λ s. length s.log) seen ∙ sym c.args.self.now.count_is in (
      ap (λ w. w.tracked) word,
      home,
      pen.0 ∙ home,
      offer.0,
      rw (ap (λ w. w.key) word, pen.1, offer.1, offer.3) (appends c.again-seen.result.log c.args.note.now c.args.self.now.count fits),
    )
