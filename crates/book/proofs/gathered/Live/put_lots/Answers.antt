-- Pro-rata's lots over the side's orders, stored.
use lib.Seq.{length-take-le}
use Rattle.book.proofs.Sides.{side_stored}
use Rattle.book.proofs.gathered.Live.put_lots.Goals as goal

pub returns : goal.returns
returns c = λ orders n g w. side_stored orders n _ _ (c.side_orders-side.ensures orders n g) w _ _ _ _ _ (length-take-le _ _ c.side_orders-side.result.few) c.allocate_pro_rata.ensures.lots c.put.ensures
