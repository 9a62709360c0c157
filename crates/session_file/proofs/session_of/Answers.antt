-- `session_file::session_of` meets its contract: the records are made in turn, up to one that ends the file.
use Rattle.std.proofs.Common.{◌≢◌, sym, ◌∙◌, arith}
use Rattle.refusals.specs.Number.{number}
use Rattle.auction_engine.proofs.Steps.{numbered}
use Rattle.session_file.proofs.Lines.{onward}
use Rattle.laws.proofs.Checking.{refused_as}
use Rattle.session_file.proofs.Ended.{reading_start, reading_more, reading_stop, reading_end, by_length, by_record, by_header, leaves_session}
use Rattle.session_file.proofs.session_of.Goals as goal

pub returns-then-input-gt-MAX_INPUT : goal.returns-then-input-gt-MAX_INPUT
returns-then-input-gt-MAX_INPUT c = record { refusal = by_length c.args.input.now c.if-input-gt-MAX_INPUT.true; session = tt }

pub loop-place-init : goal.loop-place-init
loop-place-init c = reading_start c.args.input.now c.first_place-place.result c.unopened-session.result c.first_place-place.ensures c.unopened-session.ensures

pub returns-in_err-put_read : goal.returns-in_err-put_read
returns-in_err-put_read c =
    let l = c.loop-place in
    let r = c.in_err-put_read.field-0.0 in
    let e = c.in_err-put_read.ensures.refusal in
    let z : number r ≢ 0 = λ q. omega (arith, q, numbered r) in
    let stop = reading_stop c.args.input.now l.place l.session c.loop-place-test.true l.invariant (λ q. z (e ∙ q)) in
    rw (refused_as c.from_residual.result c.from_residual.ensures.1) (record {
      refusal = e ∙ stop ∙ by_record c.args.input.now c.if-input-gt-MAX_INPUT.false (λ q. z (e ∙ stop ∙ q));
      session = tt;
    })

pub loop-place-smaller : goal.loop-place-smaller
loop-place-smaller c =
    let l = c.loop-place in
    let on = onward c.args.input.now l.place l.session c.loop-place-test.true in
    rw c.in_ok-put_read.ensures.place (omega (arith, on.on, on.within))

pub loop-place-preserved : goal.loop-place-preserved
loop-place-preserved c =
    let l = c.loop-place in
    let p = c.in_ok-put_read.ensures in
    rw (p.place, p.session) (reading_more c.args.input.now l.place l.session c.loop-place-test.true l.invariant (sym p.refusal))

pub returns-then-place-eq-NO_KIND : goal.returns-then-place-eq-NO_KIND
returns-then-place-eq-NO_KIND c =
    let l = c.loop-place in
    let e = reading_end c.args.input.now l.place l.session l.invariant c.loop-place-test.false in
    record { refusal = by_header c.args.input.now c.if-input-gt-MAX_INPUT.false l.place l.session e c.if-place-eq-NO_KIND.true; session = tt }

pub returns : goal.returns
returns c =
    let l = c.loop-place in
    let e = reading_end c.args.input.now l.place l.session l.invariant c.loop-place-test.false in
    let s = leaves_session c.args.input.now c.if-input-gt-MAX_INPUT.false l.place l.session e c.if-place-eq-NO_KIND.false in
    record { refusal = s.0; session = s.1 }
