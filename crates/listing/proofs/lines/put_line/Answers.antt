-- `put_line` meets its contract: the number, a space, the word and the figures stand one after the other.
use Rattle.std.proofs.Common.{arith, length-set}
use Rattle.octets.proofs.Fitting.{puts_at, puts_room}
use Rattle.listing.proofs.Fields.{puts_line}
use Rattle.listing.proofs.lines.put_line.Goals as goal

pub returns : goal.returns
returns c =
    let p = c.put_dec-k in
    let d = puts_room p.ensures.0 p.ensures.1 (omega arith) in
    let w = puts_at c.put_bytes-end.ensures (simp length-set (omega arith)) in
    (puts_line c.args.number c.args.word.now c.args.figures.now d w c.put_figures.ensures.0 (omega arith), omega arith)
