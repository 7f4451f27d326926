use Rattle.std.proofs.Common.{inl, inr}
use Rattle.route_lines.specs.CommandLineLaws.{answers-whole_lines, begins-to_answer, on_read}
use Rattle.route_lines.specs.CommandLineLaws.{on_write}
use Rattle.route_book.proofs.command_line.run_and_tell.Goals as goal

pub returns-in-Err-Read-clause-fault : goal.returns-in-Err-Read-clause-fault
returns-in-Err-Read-clause-fault g c rooms new one =
    let fault = c.in-Err-Read.ensures in
    let is = c.in-Err-Read.field-0-is in
    let read = on_read _ _ _ is fault.read in
    let failed = on_read _ _ _ is fault.read_failed in
    inl (
      answers-whole_lines _ _ _ _ _ _ _ _ _ read.0 new read.1 read.2,
      inl failed.0,
      failed.1,
      c.tell.ensures,
    )

pub returns-in-Err-Write-clause-fault : goal.returns-in-Err-Write-clause-fault
returns-in-Err-Write-clause-fault g c rooms new one =
    let fault = c.in-Err-Write.ensures in
    let is = c.in-Err-Write.field-0-is in
    let write = on_write _ _ _ is fault.write in
    let failed = on_write _ _ _ is fault.write_failed in
    inr (
      begins-to_answer _ _ _ _ _ _ _ _ _ write.0 new write.1 write.2,
      failed.0,
      failed.1,
      c.tell-in-Err-Write.ensures,
    )
