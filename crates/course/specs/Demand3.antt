-- Demand 3, to be read beside 'Lists of calls' of document 01. proofs/Demand3.antt proves it.
use Rattle.std.specs.Prelude.{◌≡◌, ◌↔◌, ◌≢◌, Bool, true, false, ◌&&◌, ◌||◌, List, [], ◌∷◌, ℕ, suc, ◌+◌, ◌≤◌, ◌<◌, ◌==◌, nat_lt, ℤ, length, slice_index}
use Rattle.laws.specs.Sums.{sum_over, only, count}
use Rattle.laws.specs.Lists.{Member, same}
use Rattle.credit_math.specs.Limits.{max_orders}
use Rattle.book.specs.Book.{no_fill, sell_side}
use Rattle.book.specs.declared.Fill.{Fill}
use Rattle.events.specs.declared.Event.{Event}
use Rattle.events.specs.declared.Event.TheVariants.{Cleared}
use Rattle.auction_engine.specs.declared.Session.{Session}
use Rattle.auction_engine.specs.Session.{order_at, allocating}
use Rattle.auction_engine.specs.declared.Call.{Call}
use Rattle.auction_engine.specs.declared.Call.TheVariants.{Screen, Clear, Allocate, Exercise, Close, Settle, Skip, Finish, Expire}
use Rattle.auction_engine.specs.Clearing.{outcome}
use Rattle.auction_engine.specs.Engine.{refusal, effect, events}
use Rattle.auction_engine.specs.Opening.{Opening, opened}
use Rattle.course.specs.Course.{Run, begin, run}

-- the run of a list of calls that starts from s
abbrev pub after : Session → List Call → Run
after s calls = run (begin s) calls

-- 'Its session opens with a header and orders that the `SH` and `OR` rows below accept, goes through any calls, and is just cleared when a
-- clear hands it back with a `clear` line'
pub record JustCleared (s : Session) : Type 0 where
  pub opening : Opening
  pub calls : List Call
  pub now : ℤ
  pub accepted : refusal (after (opened opening) calls).session (Clear now) ≡ 0
  pub price : ℕ
  pub volume : ℕ
  pub reserve : ℕ
  pub reference : ℕ
  pub others : List Event
  pub line : events (after (opened opening) calls).session (Clear now) ≡ Cleared price volume reserve reference ∷ others
  pub is : s ≡ effect (after (opened opening) calls).session (Clear now)

-- 'An order's lot is what `compute_clear` allots it by pro-rata, otherwise 0'
abbrev pub lot_of : {s : Session} → JustCleared s → ℕ → ℕ
lot_of j i = slice_index (outcome (after (opened j.opening) j.calls).session).lots i

-- 'an order with a lot has more than 0'
abbrev pub orders_with_lot : {s : Session} → JustCleared s → ℕ
orders_with_lot {s} j = count (λ i. nat_lt 0 (lot_of j i)) s.order_count

-- 'For every two such lists that both finish'
abbrev pub Finishes : Run → Type 0
Finishes r = 0 < length r.prints

-- 'alike in the issuer's purchases and their order, in the fills settled and in the fills skipped'
pub record Alike (r t : Run) : Type 0 where
  pub purchases : r.purchases ≡ t.purchases
  pub settled : (i : ℕ) → Member i r.settled ↔ Member i t.settled
  pub skipped : (i : ℕ) → Member i r.skipped ↔ Member i t.skipped

-- 'A seller's fills are all in the session that name its order as the sell order, those of issuer purchases included': what a fill sells for
-- a wallet, and all fills of a session
abbrev pub sold_by : (owner : List ℕ) → Fill → ℕ
sold_by owner f = only (same f.seller owner) f.qty

abbrev pub sold : Session → (owner : List ℕ) → ℕ
sold s owner = sum_over (sold_by owner) no_fill s.fills s.fill_count

-- an allocate's allowance
abbrev pub allowance : Call → ℕ
allowance (Screen now i side verdict has_id id) = 0
allowance (Clear now) = 0
allowance (Allocate now n) = n
allowance (Exercise now issuer i q) = 0
allowance (Close now caller) = 0
allowance (Settle i) = 0
allowance (Skip now i reason) = 0
allowance (Finish now) = 0
allowance (Expire now) = 0

-- those of a list, refused ones included, added up
abbrev pub allowances : List Call → ℕ
allowances [] = 0
allowances (c ∷ calls) = allowance c + allowances calls

-- the list has an accepted expire: from any run on
abbrev pub is_expire : Call → Bool
is_expire (Screen now i side verdict has_id id) = false
is_expire (Clear now) = false
is_expire (Allocate now n) = false
is_expire (Exercise now issuer i q) = false
is_expire (Close now caller) = false
is_expire (Settle i) = false
is_expire (Skip now i reason) = false
is_expire (Finish now) = false
is_expire (Expire now) = true

abbrev pub expires : Session → List Call → Bool
expires s [] = false
expires s (c ∷ calls) = (is_expire c && refusal s c == 0) || expires (run (begin s) (c ∷ [])).session calls

-- the demand, of one just cleared session
pub record Agreement {s : Session} (j : JustCleared s) : Type 0 where
  -- 'every field of the session and the print are equal'
  pub agree : (l k : List Call) → Finishes (after s l) → Finishes (after s k) → Alike (after s l) (after s k)
      → ((after s l).session ≡ (after s k).session) × ((after s l).prints ≡ (after s k).prints)
  -- a list that finishes has one print
  pub one_print : (l : List Call) → Finishes (after s l) → length (after s l).prints ≡ 1
  -- 'After every such list the cranks' fills number fewer than the orders with a lot'
  pub fewer : (l : List Call) → (after s l).crank_fills < orders_with_lot j
  -- 'once the matching is complete, each seller's fills, with the issuer's, add up to the lot'
  pub sellers : (l : List Call) → (after s l).complete ≡ true → (i : ℕ) → i < s.order_count → (order_at s i).side ≡ sell_side
      → sold (after s l).session (order_at s i).owner ≡ lot_of j i
  -- 'and if it finishes, before disclosure printed plus skipped quantity is the cleared volume'
  pub volume : (l : List Call) → Finishes (after s l) → (after s l).printed_qty + (after s l).skipped_qty ≡ j.volume

-- Demand 3
abbrev pub Demand3 : Type 0
Demand3 = (s : Session) (j : JustCleared s) → Agreement j

-- Beside it: allowances that add up to one less than the most orders complete every matching that no expire ends
abbrev pub Completion : Type 0
Completion =
    (s : Session) → JustCleared s → (l : List Call) → max_orders ≤ suc (allowances l) → expires s l ≡ false
    → ((after s l).complete ≡ true) × ((after s l).session.phase ≢ allocating)
