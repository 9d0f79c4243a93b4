use Rattle.std.proofs.Common.{◌≡◌, ◌≢◌, ℕ, length, sym, ◌∙◌, map, string_bytes}
use Rattle.std.proofs.lemmas.List.{length-map}
use Rattle.tool_commands.proofs.Commands.{no_command}
use Rattle.tool_commands.proofs.words.command_in.Goals as goal

pub returns-else-count-eq9-clause-told : goal.returns-else-count-eq9-clause-told
returns-else-count-eq9-clause-told c =
    let words = c.args.words.now in
    let long : length (map string_bytes words) ≡ length words = length-map words string_bytes in
    let other : (n : ℕ) → length words ≢ n → length (map string_bytes words) ≢ n = λ n ne e. ne (sym long ∙ e) in
    sym (no_command (map string_bytes words) (other 2 c.if-count-eq2.false) (other 3 c.if-count-eq3.false) (other 4 c.if-count-eq4.false)
    (other 5 c.if-count-eq5.false) (other 7 c.if-count-eq7.false) (other 9 c.if-count-eq9.false))
