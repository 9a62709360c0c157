-- A session just cleared is told, with the price and the lots of its clear: proofs/JustCleared.antt.
use Rattle.std.specs.Prelude.{◌≡◌, List, ℕ}
use Rattle.auction_engine.specs.declared.Session.{Session}
use Rattle.auction_engine.specs.declared.Call.{Call}
use Rattle.auction_engine.specs.Session.{allocating}
use Rattle.course.specs.Demand3 as course
use Rattle.course.specs.Demand3.{JustCleared, after}
use Rattle.inquiries.specs.Why.{price, lot_of}
use Rattle.inquiries.specs.Claims.{Asked}

-- 'For a session just cleared', and after any calls while it is still Allocating: nothing but the order's number and the output's length can refuse
-- the question, and price and lots are those of the clear
pub record ToldAsCleared {s : Session} (j : JustCleared s) (t : Session) : Type 0 where
  pub asked : Asked t
  pub price_is : price t ≡ j.price
  pub lot_is : (i : ℕ) → lot_of t i ≡ course.lot_of j i

pub record ClearedIsTold {s : Session} (j : JustCleared s) : Type 0 where
  pub at : s.phase ≡ allocating
  pub still : (l : List Call) → (after s l).session.phase ≡ allocating → ToldAsCleared j (after s l).session

abbrev pub JustClearedIsTold : Type 0
JustClearedIsTold = (s : Session) (j : JustCleared s) → ClearedIsTold j
