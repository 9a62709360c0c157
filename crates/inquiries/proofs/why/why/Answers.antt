-- `inquiries::why::why` meets its contract: the checks of the session, that of the order, and the line.
use Rattle.std.proofs.Common.{sym, ltb-true}
use Rattle.laws.proofs.Checking.{refused_as}
use Rattle.inquiries.proofs.Asking.{passed_asked, refused_session, refused_order, told_line}
use Rattle.inquiries.proofs.why.why.Goals as goal

pub returns-in_err-found : goal.returns-in_err-found
returns-in_err-found c =
    rw (refused_as c.from_residual.result c.from_residual.ensures.1)
    (refused_session c.args.session.now c.args.order c.args.out.now c.in_err-found.field-0.0 c.in_err-found.ensures.refusal)

pub returns-in_err-check : goal.returns-in_err-check
returns-in_err-check c =
    rw (refused_as c.from_residual-in_err-check.result c.from_residual-in_err-check.ensures.1)
    (refused_order c.args.session.now c.args.order c.args.out.now c.in_ok-found.ensures.refusal c.in_err-check.field-0.0 c.in_err-check.ensures.refusal)

pub cause_of-requires-clause-asked : goal.cause_of-requires-clause-asked
cause_of-requires-clause-asked c = passed_asked c.args.session.now (sym c.in_ok-found.ensures.refusal)

pub returns : goal.returns
returns c =
    told_line c.args.session.now c.args.order c.args.out.now c.in_ok-found.ensures.refusal (ltb-true _ _ c.in_ok-check.ensures.held) c.cause_of.result c.cause_of.ensures
    c.put_cause.result c.put_cause.new.out (record { answer = c.put_cause.ensures.answer; bytes = c.put_cause.ensures.bytes })
