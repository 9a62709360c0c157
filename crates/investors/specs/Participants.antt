-- `distinct_participants`: 'a wallet whose first order has a nonzero id counts as that id, any other as itself'.
use Rattle.std.specs.Prelude.{Bool, false, if◌then◌else◌, not, ◌&&◌, ◌||◌, List, [], ◌∷◌, ℕ, zero, suc, min, nat_lt, ◌==◌, length}
use Rattle.laws.specs.Search.{first}
use Rattle.laws.specs.Lists.{same}
use Rattle.laws.specs.Bits.{is_set}
use Rattle.credit_math.specs.Limits.{max_orders}
use Rattle.book.specs.Limits.{max_fills}
use Rattle.book.specs.Book.{order_in, fill_in, no_investor}
use Rattle.book.specs.declared.Order.{Order}
use Rattle.book.specs.declared.Fill.{Fill}
use Rattle.investors.specs.declared.seen.Participant.{Participant}
use Rattle.investors.specs.declared.seen.Participant.TheVariants.{Investor, Wallet}

-- who traded: an Investor by its id, or a wallet
abbrev pub same_participant : Participant → Participant → Bool
same_participant (Investor a) (Investor b) = same a b
same_participant (Investor a) (Wallet b) = false
same_participant (Wallet a) (Investor b) = false
same_participant (Wallet a) (Wallet b) = same a b

-- 'seen.contains(&p)'
unfoldable pub contains : List Participant → Participant → Bool
contains [] p = false
contains (x ∷ seen) p = same_participant x p || contains seen p

abbrev pub noted : List Participant → Participant → List Participant
noted seen p = if contains seen p then seen else p ∷ seen

-- 'Fills of quantity 0 and skipped fills don't count'
unfoldable pub moved : List Fill → (skipped i : ℕ) → Bool
moved fills skipped i = not ((fill_in fills i).qty == 0) && not (is_set skipped i)

module _ (orders : List Order) (n : ℕ) where
  -- a wallet's first order among the first n; past them where it has none
  unfoldable pub first_order : (key : List ℕ) → ℕ
  first_order key = first (λ i. same (order_in orders i).owner key) (min n max_orders)

  -- who a wallet counts as
  unfoldable pub participant : (key : List ℕ) → Participant
  participant key =
      if nat_lt (first_order key) (min n max_orders) && not (same (order_in orders (first_order key)).investor_id no_investor)
      then Investor (order_in orders (first_order key)).investor_id
      else Wallet key

  module _ (fills : List Fill) (skipped : ℕ) where
    -- those seen in the first m fills, buyer before seller
    unfoldable pub seen : ℕ → List Participant
    seen zero = []
    seen (suc m) =
        if moved fills skipped m
        then noted (noted (seen m) (participant (fill_in fills m).buyer)) (participant (fill_in fills m).seller)
        else seen m

    -- their number (a count above the limit is read as the limit)
    unfoldable pub distinct_participants : ℕ → ℕ
    distinct_participants m = length (seen (min m max_fills))
