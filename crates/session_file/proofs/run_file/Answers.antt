-- `session_file::run_file` meets its contract: each record's lines are written behind those before, and the last line behind them.
use Rattle.std.proofs.Common.{◌-◌, length, refl, arith}
use Rattle.session_file.proofs.Lines.{onward}
use Rattle.session_file.proofs.Running.{passed_on, running_start, running_more, running_long, running_end, running_over}
use Rattle.session_file.proofs.run_file.Goals as goal

pub loop-place-init : goal.loop-place-init
loop-place-init c =
    running_start c.args.input.now c.args.out.now c.unopened-session.result c.first_place-place.result c.requires c.unopened-session.ensures c.first_place-place.ensures

pub returns-in_err-at : goal.returns-in_err-at
returns-in_err-at c =
    let l = c.loop-place in
    let p = c.put_record in
    rw (passed_on c.from_residual.result c.in_err-at.was c.from_residual.ensures.1)
    (running_long l.invariant (length l.out - l.at) refl p.new.out p.auto.out c.loop-place-test.true p.ensures.lines c.in_err-at.was)

pub overflow_add-at : goal.overflow_add-at
overflow_add-at c =
    let l = c.loop-place in
    let p = c.put_record in
    let more = running_more l.invariant (length l.out - l.at) refl p.new.out p.auto.out c.loop-place-test.true p.ensures.lines c.in_ok-at.was in
    omega (arith, more.room)

pub loop-place-smaller : goal.loop-place-smaller
loop-place-smaller c =
    let l = c.loop-place in
    let on = onward c.args.input.now l.place l.session c.loop-place-test.true in
    rw c.put_record.ensures.place (omega (arith, on.on, on.within))

pub loop-place-preserved : goal.loop-place-preserved
loop-place-preserved c =
    let l = c.loop-place in
    let p = c.put_record in
    rw (p.ensures.place, p.ensures.session)
    (running_more l.invariant (length l.out - l.at) refl p.new.out p.auto.out c.loop-place-test.true p.ensures.lines c.in_ok-at.was)

pub returns-in_err-put_last : goal.returns-in_err-put_last
returns-in_err-put_last c =
    let l = c.loop-place in
    let p = c.put_last in
    rw (passed_on c.from_residual-in_err-put_last.result c.in_err-put_last.was c.from_residual-in_err-put_last.ensures.1)
    (running_over l.invariant (length l.out - l.at) refl p.new.out p.auto.out c.loop-place-test.false p.ensures.line c.in_err-put_last.was)

pub overflow_add-result : goal.overflow_add-result
overflow_add-result c =
    let l = c.loop-place in
    let p = c.put_last in
    let e = running_end l.invariant (length l.out - l.at) refl p.new.out p.auto.out c.loop-place-test.false p.ensures.line c.in_ok-put_last.was in
    omega (arith, e.0)

pub returns : goal.returns
returns c =
    let l = c.loop-place in
    let p = c.put_last in
    let e = running_end l.invariant (length l.out - l.at) refl p.new.out p.auto.out c.loop-place-test.false p.ensures.line c.in_ok-put_last.was in e.1
