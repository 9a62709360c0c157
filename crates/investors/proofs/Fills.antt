-- Those seen in one fill more. Assumes nothing.
use Rattle.std.proofs.Common.{◌≡◌, ℕ, ◌+◌, cond, not, ◌&&◌, ◌==◌, List, add-one}
use Rattle.laws.specs.Bits.{is_set}
use Rattle.book.specs.Book.{fill_in}
use Rattle.book.specs.declared.Order.{Order}
use Rattle.book.specs.declared.Fill.{Fill}
use Rattle.investors.specs.Participants.{noted, moved, participant, seen}

-- a fill notes its two, where it moved
pub seen_more : (orders : List Order) (n : ℕ) (fills : List Fill) (skipped m : ℕ) → seen orders n fills skipped (m + 1)
    ≡ cond (not ((fill_in fills m).qty == 0) && not (is_set skipped m)) (noted (noted (seen orders n fills skipped m) (participant orders n (fill_in fills m).buyer)) (participant orders n (fill_in fills m).seller)) (seen orders n fills skipped m)
unfolding seen moved
seen_more orders n fills skipped m = rw add-one
