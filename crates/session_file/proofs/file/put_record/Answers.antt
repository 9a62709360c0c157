-- `session_file::file::put_record` meets its contract: a record that ends the file.
use Rattle.std.proofs.Common.{◌≢◌, sym, arith}
use Rattle.refusals.specs.Number.{number}
use Rattle.auction_engine.proofs.Steps.{numbered}
use Rattle.session_file.proofs.Stepping.{ends}
use Rattle.session_file.proofs.file.put_record.Goals as goal

pub returns-in-Err-clause-place : goal.returns-in-Err-clause-place
returns-in-Err-clause-place c =
    let k = c.in-Err in
    let z : number k.refusal ≢ 0 = λ e. omega (arith, e, numbered k.refusal) in
    rw k.ensures.kept.0 (ends c.args.input.now c.args.place.now c.args.session.now k.refusal k.ensures.refusal z).0

pub returns-in-Err-clause-lines : goal.returns-in-Err-clause-lines
returns-in-Err-clause-lines c =
    let k = c.in-Err in
    let z : number k.refusal ≢ 0 = λ e. omega (arith, e, numbered k.refusal) in
    rw (sym (ends c.args.input.now c.args.place.now c.args.session.now k.refusal k.ensures.refusal z).2, ← k.ensures.kept.1) c.put_refused.ensures.lines
