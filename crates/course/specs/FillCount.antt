-- 'The number of fills, before the crank': the figure of a session just cleared, and what its cranks make. proofs/FillCount.antt proves it.
use Rattle.std.specs.Prelude.{◌≡◌, true, false, List, ◌++◌, ℕ, ◌≤◌, ◌<◌}
use Rattle.laws.specs.Lists.{table}
use Rattle.fills.specs.FillCount.{fill_count, fill_count_answer}
use Rattle.auction_engine.specs.declared.Session.{Session}
use Rattle.auction_engine.specs.Session.{order_at}
use Rattle.auction_engine.specs.declared.Call.{Call}
use Rattle.course.specs.Demand3.{after, JustCleared, lot_of, orders_with_lot, allowances, expires}

-- 'the lots alone, lent with their sides in book order'
abbrev pub lots_of : {s : Session} → JustCleared s → List ℕ
lots_of {s} j = table (lot_of j) s.order_count

abbrev pub sides_of : Session → List ℕ
sides_of s = table (λ i. (order_at s i).side) s.order_count

-- the figure of a session just cleared
abbrev pub figure : {s : Session} → JustCleared s → ℕ
figure {s} j = fill_count (lots_of j) (sides_of s)

-- the lots as its orders hold them
abbrev pub held_lots : Session → List ℕ
held_lots s = table (λ i. (order_at s i).alloc) s.order_count

-- of one session just cleared
pub record ExactFigure {s : Session} (j : JustCleared s) : Type 0 where
  -- lent the lots and sides that the session holds, `fill_count` refuses nothing and gives the figure
  pub answered : fill_count_answer (held_lots s) (sides_of s) ≡ record { refusal = 0; count = figure j }
  -- 'The figure must equal the fills made by any cranks that complete the matching of a just cleared file session'
  pub exact : (l : List Call) → (after s l).complete ≡ true → (after s l).crank_fills ≡ figure j
  -- and it stays so whatever calls follow, an expire too
  pub stays : (l k : List Call) → (after s l).complete ≡ true → (after s (l ++ k)).crank_fills ≡ figure j
  -- there are such lists: allowances that add up to the figure complete every matching that no expire ends
  pub completed : (l : List Call) → figure j ≤ allowances l → expires s l ≡ false → (after s l).complete ≡ true
  -- 'Operators pay per fill account and must fund them ahead': no list of calls makes more, complete or not
  pub most : (l : List Call) → (after s l).crank_fills ≤ figure j
  -- 'Demand 3 only bounds it': the figure is below the orders with a lot, and so are the fills of any list
  pub below : figure j < orders_with_lot j

abbrev pub FillsBeforeCrank : Type 0
FillsBeforeCrank = (s : Session) (j : JustCleared s) → ExactFigure j
