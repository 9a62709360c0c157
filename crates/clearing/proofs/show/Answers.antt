-- Each part lies within the buffer, which has room for any, and so leaves fewer parts.
use Rattle.std.proofs.Common.{arith, sym, length-take-le}
use borrow.Author.Tests.{not-true}
use Rattle.clearing.proofs.Showing.{showing_less, written_within}
use Rattle.clearing.proofs.show.Goals as goal

pub slice_bounds-out-end : goal.slice_bounds-out-end
slice_bounds-out-end g c = written_within c.in-Ok.is c.put_next-part.ensures.writes c.put_next-part.auto.out

pub slice_bounds-put-end : goal.slice_bounds-put-end
slice_bounds-put-end g c = let h = written_within c.in-Ok.is c.put_next-part.ensures.writes c.put_next-part.auto.out in sym (length-take-le _ _ h)

pub loop-s-smaller : goal.loop-s-smaller
loop-s-smaller g c = showing_less c.args.input.now (not-true _ c.loop-s-test.true) (omega arith) c.put_next-part.ensures
