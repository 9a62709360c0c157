-- Demand 3 and completion, as specs/Demand3.antt states them. Assumes nothing.
use mathlib.Core.Path.{◌≡◌, ap, ◌∙◌}
use native.Mathlib.Omega.{arith}
use lib.Dec.{ltb}
use Rattle.laws.proofs.Sums.{count_same}
use Rattle.auction_engine.specs.declared.Session.{Session}
use Rattle.auction_engine.specs.Session.{order_at}
use Rattle.course.specs.Demand3.{JustCleared, after, lot_of, orders_with_lot, Demand3, Completion}
use Rattle.course.proofs.Matching.{lot_count}
use Rattle.course.proofs.ToCome.{few_to_come, lots_few}
use Rattle.course.proofs.Invariant.{few_made, reached}
use Rattle.course.proofs.Ends.{ends_agree, ends_printed, ends_sold, ends_volume, ends_past}
use Rattle.course.proofs.Start.{Starts, starts}
use Rattle.course.proofs.Completes.{completes}

pub same_lots : {s : Session} (j : JustCleared s) → Starts j → lot_count s ≡ orders_with_lot j
same_lots {s} j S = count_same (λ i. ltb 0 (order_at s i).alloc) (λ i. ltb 0 (lot_of j i)) s.order_count (λ i l. ap (ltb 0) (S.lot i l))

pub demand3 : Demand3
demand3 s j =
    let S = starts s j in
    let A = S.allotted in
    record {
      agree = ends_agree s A;
      one_print = ends_printed s A;
      fewer = λ l. omega (arith, few_made s A (after s l) (reached s A l), few_to_come s A, same_lots j S);
      sellers = λ l c i h e. ends_sold s A l c i h e ∙ S.lot i h;
      volume = λ l f. ends_volume s A l f ∙ S.volume;
    }

pub completion : Completion
completion s j l m x =
    let A = (starts s j).allotted in
    let c = completes s A l (omega (arith, m, few_to_come s A, lots_few s, A.few)) x in
    (c, ends_past s A l c)
