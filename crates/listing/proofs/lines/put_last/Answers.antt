-- `put_last` meets its contract: a word and two figures, or the nine bytes.
use Rattle.std.proofs.Common.{arith}
use Rattle.listing.specs.Lines.{end_line}
use Rattle.listing.proofs.lines.put_last.Goals as goal

pub returns : goal.returns
unfolding end_line
returns c =
    let f = rw (c.into.ensures, c.into-2.ensures) at c.put_bare.ensures.0 in
    (rw c.if-not-accepted.false f, omega (arith, c.put_bare.ensures.1))
