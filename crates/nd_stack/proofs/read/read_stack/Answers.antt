use Rattle.std.proofs.Common.{◌≡◌, List, ℕ, length, sym, ◌∙◌, subst}
use Rattle.nd_base.specs.Stacks.{FitsFile}
use Rattle.nd_stack.specs.Columns.{frame_count, column_of}
use Rattle.nd_stack.specs.StackRules.{heads_of}
use Rattle.nd_stack.specs.Sound.{IsSoundHeader}
use Rattle.nd_stack.specs.SoundLaws.{Reads-IsSoundHeader}
use Rattle.nd_stack.proofs.Accepted.{frames_of-IsAccepted}
use Rattle.nd_stack.proofs.Fits.{array_data-IsSoundVar, accepted-FitsFile}
use Rattle.nd_stack.proofs.read.read_stack.Goals as goal

pub frames_of-requires-clause-ranks : goal.frames_of-requires-clause-ranks
frames_of-requires-clause-ranks c =
    let sound = Reads-IsSoundHeader c.deref.result.now c.in_ok-header.header c.in_ok-header.ensures.ok in
    λ i d within. (sound.vars i d within).rank

pub frames_of-requires-clause-small : goal.frames_of-requires-clause-small
frames_of-requires-clause-small c =
    let sound = Reads-IsSoundHeader c.deref.result.now c.in_ok-header.header c.in_ok-header.ensures.ok in
    λ i d within. (sound.vars i d within).small

pub parts_of-requires-clause-sound : goal.parts_of-requires-clause-sound
parts_of-requires-clause-sound c =
    let h = c.in_ok-header.header in
    let sound = Reads-IsSoundHeader c.deref.result.now h c.in_ok-header.ensures.ok in
    let same : c.deref.result.now ≡ c.deref-2.result.now = c.deref.ensures.value ∙ sym c.deref-2.ensures.value in
    subst (λ (bytes : List ℕ). IsSoundHeader (length bytes) h) same sound

pub column_of-column-requires : goal.column_of-column-requires
column_of-column-requires c =
    let h = c.in_ok-header.header in
    let sound = Reads-IsSoundHeader c.deref.result.now h c.in_ok-header.ensures.ok in
    let accepted = frames_of-IsAccepted h c.in_ok-var.var.now c.in_ok-var.kind c.in_ok-var.ensures in
    (array_data-IsSoundVar (length c.deref.result.now) h c.in_ok-var.var.now c.in_ok-var.kind sound accepted).small

pub new-requires : goal.new-requires
new-requires c =
    let h = c.in_ok-header.header in
    let v = c.in_ok-var.var.now in
    let kind = c.in_ok-var.kind in
    let bytes = c.deref-2.result.now in
    let same : c.deref.result.now ≡ bytes = c.deref.ensures.value ∙ sym c.deref-2.ensures.value in
    let sound = subst (λ (bytes : List ℕ). IsSoundHeader (length bytes) h) same (Reads-IsSoundHeader c.deref.result.now h c.in_ok-header.ensures.ok) in
    let fits = accepted-FitsFile bytes h v kind sound (frames_of-IsAccepted h v kind c.in_ok-var.ensures) in
    let one =
    subst (λ s. FitsFile s (heads_of bytes h (frame_count h v)) bytes (column_of h v).first (column_of h v).step) (sym c.in_ok-shape.ensures.shape) fits in
    let two =
    subst (λ heads. FitsFile c.in_ok-shape.shape heads bytes (column_of h v).first (column_of h v).step)
    (sym (c.new-heads.ensures ∙ c.in_ok-shape.ensures.heads)) one in
    let three =
    subst (λ list. FitsFile c.in_ok-shape.shape c.new-heads.result list (column_of h v).first (column_of h v).step)
    (c.deref-2.ensures.value ∙ sym c.new-bytes.ensures) two in
    subst (λ col. FitsFile c.in_ok-shape.shape c.new-heads.result c.new-bytes.result col.first col.step) (sym c.column_of-column.ensures) three
