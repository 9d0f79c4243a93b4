use Rattle.std.proofs.Common.{◌≡◌, ◌∙◌, ◌++◌, ◌+◌, ◌≤◌, length, take, drop}
use Rattle.tool_commands.proofs.Files.{piece_added, added_within, length-read, asked_within}
use Rattle.tool_commands.proofs.reading.read_pieces.Goals as goal

pub loop-bytes-preserved : goal.loop-bytes-preserved
loop-bytes-preserved g c =
    let e = c.in_ok-count.ensures in
    let i = c.loop-bytes.invariant in
    let size = c.args.size in
    let done = c.loop-bytes.bytes.items in
    let at = c.len-at.result in
    let asked = c.min-asked.result in
    let count = c.in_ok-count.count in
    let buf = c.read_at.new.buf in
    let piece = c.loop-bytes.piece in
    let made : length buf ≡ length (take asked piece) = c.read_at.auto.buf in
    let added : c.extend_from_slice.new.self.items ≡ done ++ take count (buf ++ drop asked piece) = c.in_ok-extend_from_slice.ensures.items in
    let here : at ≡ length done = c.len-at.ensures ∙ c.loop-bytes.bytes.ok.0 in
    let within : at ≤ size = rw here i.within in
    let left : at + length buf ≤ size = asked_within buf piece asked at size within c.min-asked.ensures made in
    record {
      room = rw (length-read buf piece asked made) i.room;
      within = rw added (added_within done buf (drop asked piece) at count size here e.bound left);
      same = c.read_at.ensures.files ∙ i.same;
      none = e.cause ∙ i.none;
      others = λ call name. e.at call name ∙ i.others call name;
      bytes =
          λ file told. rw added (piece_added done buf (drop asked piece) file at count here e.bound (i.bytes file told)
          (e.bytes file (rw i.same told)));
    }
