-- 'Why this order got this lot': the cause of each order's lot, and what the question is answered.
use Rattle.std.specs.Prelude.{◌≡◌, Bool, if◌then◌else◌, not, ◌&&◌, List, map, ℕ, ◌+◌, ◌==◌, nat_lt, nat_le, length, slice_index, Result, IfOk}
use Rattle.laws.specs.Search.{first}
use Rattle.laws.specs.Checks.{unless, ◌then◌}
use Rattle.credit_math.specs.ProRata.{residue, turns}
use Rattle.book.specs.Book.{is_buy, is_excluded}
use Rattle.book.specs.Clear.{side_orders}
use Rattle.refusals.specs.declared.Refusal.{Refusal}
use Rattle.refusals.specs.Number.{refusal_in}
use Rattle.octets.specs.Writing.{splice}
use Rattle.listing.specs.declared.causes.Cause.{Cause}
use Rattle.listing.specs.declared.causes.Cause.TheVariants.{Unrevealed, Excluded, Priced, Share, Residue}
use Rattle.listing.specs.Causes.{cause_line}
use Rattle.auction_engine.specs.declared.Session.{Session}
use Rattle.auction_engine.specs.Session.{order_at, allocating}
use Rattle.auction_engine.specs.Call.{limits_refusal, fields_refusal}
use Rattle.auction_engine.specs.Clearing.{outcome, all_ready}

module _ (s : Session) where
  -- 'Price and lots are what `compute_clear` gives'
  abbrev pub price : ℕ
  price = (outcome s).price

  abbrev pub lot_of : ℕ → ℕ
  lot_of i = slice_index (outcome s).lots i

  -- the order's limit lies on the wrong side of the price: a buy's below it, a sell's above it
  unfoldable pub out_of_price : ℕ → Bool
  out_of_price i = if is_buy (order_at s i) then nat_lt (order_at s i).limit price else nat_lt price (order_at s i).limit

  -- the orders of a side that share the volume, and their quantities: what `compute_clear` hands to pro-rata
  abbrev pub sharers : (buys : Bool) → List ℕ
  sharers buys = side_orders s.orders s.order_count buys price

  abbrev pub quantities : (buys : Bool) → List ℕ
  quantities buys = map (λ i. (order_at s i).qty) (sharers buys)

  -- how many units their shares leave, and the orders in the turn in which these go to them, one unit each
  abbrev pub units_of : (buys : Bool) → ℕ
  units_of buys = residue (quantities buys) (outcome s).volume

  abbrev pub in_turn : (buys : Bool) → List ℕ
  in_turn buys = map (λ k. slice_index (sharers buys) k) (turns (sharers buys) (quantities buys))

  -- how many of the order's side have their turn before it
  unfoldable pub turns_before : ℕ → ℕ
  turns_before i =
      let l : List ℕ = in_turn (is_buy (order_at s i)) in
      first (λ k. slice_index l k == i) (length l)

  -- 'the first of these lines that applies': `unrevealed I`; `excluded I KIND`; `priced I LIMIT PRICE`; then `residue I LOT TURN` 'for one with a
  -- residue unit, turns from 1', and `share I LOT` 'for a share alone'
  unfoldable pub cause_of : ℕ → Cause
  cause_of i =
      if not (order_at s i).revealed then Unrevealed
      else if is_excluded (order_at s i) then Excluded (order_at s i).exclusion
      else if out_of_price i then Priced (order_at s i).limit price
      else if nat_lt (turns_before i) (units_of (is_buy (order_at s i))) then Residue (lot_of i) (turns_before i + 1)
      else Share (lot_of i)

  abbrev pub why_line : ℕ → List ℕ
  why_line i = cause_line i (cause_of i)

  -- `compute_clear` gives lots: nothing refuses it, and it does not fail
  abbrev pub gives_lots : Bool
  gives_lots = (outcome s).refusal == 0 && (outcome s).failed == 0

  -- 9 and 4, as any library call; 'In any phase but Allocating, with a revealed order unscreened, or where `compute_clear` gives no lots, the answer
  -- is 10; after that check, an order not in the book gets 12, then a lent output too short gets 27'
  unfoldable pub why_refusal : (i room : ℕ) → ℕ
  why_refusal i room =
      limits_refusal s
      then fields_refusal s
      then unless (s.phase == allocating) 10
      then unless (all_ready s) 10
      then unless gives_lots 10
      then unless (nat_lt i s.order_count) 12
      then unless (nat_le (length (why_line i)) room) 27

  -- the answer: the refusal, or the line at the start of the output and its length. The output 'is untouched' by a refusal, and 'lent memory past an
  -- answer stays as it was'
  pub record Told (i : ℕ) (r : Result ℕ Refusal) (before after : List ℕ) : Type 0 where
    pub refusal : refusal_in r ≡ why_refusal i (length before)
    pub len : IfOk r (λ n. n ≡ length (why_line i))
    pub output : after ≡ (if why_refusal i (length before) == 0 then splice 0 (why_line i) before else before)
