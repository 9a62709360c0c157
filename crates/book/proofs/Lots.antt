-- Where `compute_clear` gives lots, they are its allocations at the price, of a volume that both sides have there. Assumes nothing.
use mathlib.Core.Path.{◌≡◌, ap}
use mathlib.Core.Logic.{⊎_elim}
use mathlib.Core.Bool.{false, not, ◌&&◌}
use mathlib.Core.List.{List}
use Prim.Native.Nat.{ℕ, ◌≤◌, ◌<◌}
use native.Mathlib.Omega.{arith}
use lib.ListN.{length}
use Rattle.laws.proofs.Tests.{is_false, lt_or_le}
use Rattle.book.specs.Clear.{live_orders, allocations, compute_clear, Outcome}
use Rattle.book.specs.Gathered.{Within}
use Rattle.book.specs.Claims.{RightClear, no_crossing, too_large, has_price}
use Rattle.book.specs.declared.Order.{Order}
use Rattle.book.specs.declared.Params.{Params}
use Rattle.book.specs.declared.Given.{Given}
use Rattle.book.proofs.Outcomes.{executed_within}
use Rattle.book.proofs.Theorems.{clear_is_right}

-- the allocations at a price, of a volume that both sides have there
pub record Allots (orders : List Order) (n : ℕ) (o : Outcome) : Type 0 where
  pub lots : o.lots ≡ allocations orders n o.price o.volume
  pub both_have : Within orders n o.price o.volume

module _ (p : Params) (g : Given) (orders : List Order) (n : ℕ) where
  abbrev found : Outcome
  found = compute_clear p g orders n

  -- a clear that does not fail was of a book that can be cleared
  enough : found.failed ≡ 0 → p.min_reveals ≤ length (live_orders orders n)
  enough f =
      ⊎_elim
      (λ (l : length (live_orders orders n) < p.min_reveals).
      absurd (omega (arith, f, ap (λ (o : Outcome). o.failed) ((clear_is_right p g orders n).too_few l))))
      (λ (h : p.min_reveals ≤ length (live_orders orders n)). h)
      (lt_or_le (length (live_orders orders n)) p.min_reveals)

  marked : found.failed ≡ 0 → (not p.forced && not g.mark) ≡ false
  marked f =
      is_false (not p.forced && not g.mark) (λ t. absurd (omega (arith, f, ap (λ (o : Outcome). o.failed) ((clear_is_right p g orders n).unmarked (enough f) t))))

  allots_right : (o : Outcome) → RightClear p g orders n o → o.refusal ≡ 0 → o.failed ≡ 0 → Allots orders n o
  allots_right o (no_crossing h e) r f = absurd (omega (arith, f, ap (λ (x : Outcome). x.failed) e))
  allots_right o (too_large q h l e) r f = absurd (omega (arith, r, ap (λ (x : Outcome). x.refusal) e))
  allots_right o (has_price h) r f = record { lots = h.lots.pro_rata; both_have = rw h.volume (executed_within orders n o.price) }

  pub allots : found.refusal ≡ 0 → found.failed ≡ 0 → Allots orders n found
  allots r f = allots_right found ((clear_is_right p g orders n).right (record { enough = enough f; marked = marked f })) r f
