-- What escrows cover once a session that `SI` opened is cleared: document 02, ticket 1. proofs/Covered.antt proves it.
use Rattle.std.specs.Prelude.{◌≡◌, ℕ, ◌≤◌, ◌<◌, Some}
use Rattle.book.specs.Book.{buy_side, sell_side}
use Rattle.escrow.specs.Cover.{gross}
use Rattle.auction_engine.specs.declared.Session.{Session}
use Rattle.auction_engine.specs.Session.{order_at}
use Rattle.course.specs.Demand3.{JustCleared, lot_of}

-- the cash for a buy's lot at the clearing price, rounded up, is at most its escrow, and so is a sell's lot
pub record LotsAreCovered {s : Session} (j : JustCleared s) (decimals : ℕ) : Type 0 where
  pub buy : (i : ℕ) → i < s.order_count → (order_at s i).side ≡ buy_side → gross (lot_of j i) j.price decimals ≤ (order_at s i).escrowed
  pub sell : (i : ℕ) → i < s.order_count → (order_at s i).side ≡ sell_side → lot_of j i ≤ (order_at s i).escrowed

abbrev pub CoveredAtClear : Type 0
CoveredAtClear = (s : Session) (j : JustCleared s) (decimals : ℕ) → j.opening.cover ≡ Some decimals → LotsAreCovered j decimals
