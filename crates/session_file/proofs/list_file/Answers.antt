-- `session_file::list_file` meets its contract, by its three returns.
use Rattle.session_file.proofs.Entry.{listed_big, listed_long, listed_fits}
use Rattle.session_file.proofs.list_file.Goals as goal

pub returns-then-input-gt-MAX_INPUT : goal.returns-then-input-gt-MAX_INPUT
returns-then-input-gt-MAX_INPUT c = listed_big _ _ _ c.if-input-gt-MAX_INPUT.true (c.fill.ensures.after (λ y e. e))

pub returns-in-Ok : goal.returns-in-Ok
returns-in-Ok c = listed_fits c.args.input.now c.if-input-gt-MAX_INPUT.false c.in-Ok.ensures

pub returns-in-Err : goal.returns-in-Err
returns-in-Err c = listed_long c.args.input.now c.if-input-gt-MAX_INPUT.false c.in-Err.ensures _ (c.fill-in-Err.ensures.after (λ y e. e))
