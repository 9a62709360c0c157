-- `put_figures` meets its contract, figure by figure.
use Rattle.std.proofs.Common.{arith, length-set}
use Rattle.octets.proofs.Fitting.{puts_room}
use Rattle.listing.proofs.Fields.{puts_field, puts_end}
use Rattle.listing.proofs.lines.put_figures.Goals as goal

pub loop-figure-preserved : goal.loop-figure-preserved
loop-figure-preserved c =
    let l = c.loop-figure in
    let p = c.put_dec-k in
    let d = puts_room p.ensures.0 p.ensures.1 (simp length-set (omega arith)) in
    (omega (arith, d.place, p.ensures.1), puts_field l.figure-index c.args.figures.now l.invariant.1 d (omega arith) (omega arith) (omega arith))

pub returns : goal.returns
returns c =
    let l = c.loop-figure in
    (puts_end l.figure-index c.args.figures.now l.invariant.1 (omega arith) (omega arith) (omega arith), omega arith)
