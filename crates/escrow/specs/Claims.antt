-- What an accepted order's escrow covers: proofs/Covers.antt.
use Rattle.std.specs.Prelude.{◌≡◌, true, ℕ, ◌≤◌, Some}
use Rattle.book.specs.Book.{buy_side, sell_side}
use Rattle.book.specs.declared.Row.{Row}
use Rattle.escrow.specs.Cover.{gross, cover_refusal}

-- the escrow covers all that the order can ever pay: any lot of it at any price that its limit allows
pub record Covers (decimals : ℕ) (row : Row) : Type 0 where
  pub buy : row.side ≡ buy_side → (lot price : ℕ) → lot ≤ row.qty → price ≤ row.limit → gross lot price decimals ≤ row.escrowed
  pub sell : row.side ≡ sell_side → (lot : ℕ) → lot ≤ row.qty → lot ≤ row.escrowed

abbrev pub NotRefusedCovers : Type 0
NotRefusedCovers = (decimals : ℕ) (row : Row) → row.revealed ≡ true → cover_refusal (Some decimals) row ≡ 0 → Covers decimals row
