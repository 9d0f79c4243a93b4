use Rattle.std.proofs.lemmas.Result.{on_ok_weaker, on_err_weaker}
use Rattle.plain_saver.proofs.saver.Saver.end.Goals as goal

pub returns-clause-ok : goal.returns-clause-ok
returns-clause-ok g c = on_ok_weaker c.end_files.result (λ ended before h. ended before (c.in_ok-put_all_rows.ensures.saved before h)) c.end_files.ensures.ok

pub returns-clause-err : goal.returns-clause-err
returns-clause-err g c = on_err_weaker c.end_files.result (λ stops before h. stops before (c.in_ok-put_all_rows.ensures.saved before h)) c.end_files.ensures.err
