-- `file_inquiries::ask_why` meets its contract: no session is left, or the one that is left is asked.
use Rattle.laws.proofs.Checking.{refused_as}
use Rattle.file_inquiries.proofs.Asking.{refused_file, told_file}
use Rattle.file_inquiries.proofs.ask_why.Goals as goal

pub returns-in_err-session : goal.returns-in_err-session
returns-in_err-session c =
    rw (refused_as c.from_residual.result c.from_residual.ensures.1)
    (refused_file c.args.input.now c.args.order c.args.out.now c.in_err-session.field-0.0 c.in_err-session.ensures.refusal)

pub returns : goal.returns
returns c =
    let k = c.in_ok-session in
    told_file c.args.input.now c.args.order c.args.out.now k.ensures.refusal k.session k.ensures.session c.why.result c.why.new.out c.why.ensures
