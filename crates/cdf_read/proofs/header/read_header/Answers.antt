use Rattle.std.proofs.Common.{List, ℕ, Result, Ok, Err}
use Rattle.std.specs.Prelude.{IfOk}
use Rattle.cdf_read.specs.declared.fault.CdfFault.{CdfFault}
use Rattle.cdf_read.specs.declared.head.Header.{Header}
use Rattle.cdf_read.specs.Grammar.{Reads}
use Rattle.cdf_read.specs.HeaderReading.{Gives, header_of}
use Rattle.cdf_read.specs.HeaderLaws.{header_of-found}
use Rattle.cdf_read.proofs.header.read_header.Goals as goal

found : (bytes : List ℕ) (r : Result Header CdfFault) → Gives (λ h. h) r (header_of bytes) → IfOk r (Reads bytes)
found bytes (Ok h) e = header_of-found bytes h e
found bytes (Err fault) e = tt

pub returns-clause-ok : goal.returns-clause-ok
returns-clause-ok c = found c.args.bytes.now c.read_parts.result c.read_parts.ensures
