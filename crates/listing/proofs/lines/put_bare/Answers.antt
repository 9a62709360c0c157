-- `put_bare` meets its contract: a word and the figures behind it.
use Rattle.std.proofs.Common.{append_assoc, arith}
use Rattle.octets.proofs.Fitting.{puts_at}
use Rattle.octets.proofs.Spliced.{puts_puts}
use Rattle.listing.proofs.lines.put_bare.Goals as goal

pub returns : goal.returns
returns c =
    let p = puts_at c.put_bytes-end.ensures (omega arith) in
    let f = c.put_figures.ensures.0 in
    (rw append_assoc (puts_puts p f (omega arith)), omega (arith, p.place))
