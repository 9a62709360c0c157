-- Allocate: the first buy order with something left and the first such sell order are paired, at most as often as the call allows.
use Rattle.std.specs.Prelude.{Bool, false, if◌then◌else◌, not, ◌&&◌, ◌||◌, List, [], ◌∷◌, ◌++◌, ℕ, zero, suc, ◌+◌, ◌-◌, min, nat_lt, nat_le, ◌==◌, set}
use Rattle.laws.specs.Search.{first, every}
use Rattle.laws.specs.Lists.{same}
use Rattle.laws.specs.Checks.{unless, ◌then◌}
use Rattle.book.specs.Limits.{max_fills}
use Rattle.book.specs.Book.{buy_side, sell_side, no_wallet, order_in, reorder}
use Rattle.book.specs.declared.Order.{Order}
use Rattle.book.specs.declared.Fill.{Fill}
use Rattle.events.specs.declared.Event.{Event}
use Rattle.events.specs.declared.Event.TheVariants.{FillAllocated, PhaseChanged}
use Rattle.auction_engine.specs.declared.Session.{Session}
use Rattle.auction_engine.specs.Session.{order_at, left, remake, at_phase, settling, issuer_rofr}
use Rattle.auction_engine.specs.Call.{allocate_kind, admits, limits_refusal, fields_refusal}

-- the order with q less of its lot left
abbrev pub less_left : Order → ℕ → Order
less_left o q = reorder o o.alloc (o.alloc_left - q) o.screened o.eligible o.exclusion o.investor_id

-- an order of that side with something left
abbrev pub due_on : (side : ℕ) → Order → Bool
due_on side o = o.side == side && nat_lt 0 o.alloc_left

-- the first such order among the first n, or n
abbrev pub first_due : List Order → (n side : ℕ) → ℕ
first_due os n side = first (λ i. due_on side (order_in os i)) n

unfoldable pub due_at : Session → (side : ℕ) → ℕ
due_at s side = first_due s.orders s.order_count side

abbrev pub buy_at : Session → ℕ
buy_at s = due_at s buy_side

abbrev pub sell_at : Session → ℕ
sell_at s = due_at s sell_side

-- a fill is due
unfoldable pub due : Session → Bool
due s = nat_lt (buy_at s) s.order_count && nat_lt (sell_at s) s.order_count

-- the quantity of the fill that is due: the smaller of what the two have left
abbrev pub due_qty : Session → ℕ
due_qty s = min (left s (buy_at s)) (left s (sell_at s))

-- a fill of q as it is first written
abbrev pub fill_of : (buy sell : Order) → ℕ → Fill
fill_of buy sell q = record { buyer = buy.owner; seller = sell.owner; qty = q; rofr = false; settled = false }

-- order b buys q of order a
unfoldable pub pair : Session → (b a q : ℕ) → Session
pair s b a q =
    remake s s.cleared s.phase s.rofr_qty s.fills_settled s.skipped_fills
    (set (set s.orders b (less_left (order_at s b) q)) a (less_left (order_at s a) q))
    (set s.fills s.fill_count (fill_of (order_at s b) (order_at s a) q))
    (s.fill_count + 1)

-- one fill, where one is due
unfoldable pub one : Session → Session
one s = if due s then pair s (buy_at s) (sell_at s) (due_qty s) else s

-- at most n fills
unfoldable pub after_fills : ℕ → Session → Session
after_fills zero s = s
after_fills (suc n) s = after_fills n (one s)

-- 'a fill due with 24 held, the call's own counted', within n fills
unfoldable pub overfull : ℕ → Session → Bool
overfull zero s = false
overfull (suc n) s = (due s && nat_le max_fills s.fill_count) || overfull n (one s)

-- what any call checks, and the phase
abbrev pub allocate_checks : Session → ℕ
allocate_checks s = (limits_refusal s then fields_refusal s) then unless (admits s.phase allocate_kind) 10

-- Allocate | 10; 18 a fill due with 24 held, the call's own counted
unfoldable pub allocate_refusal : Session → (n : ℕ) → ℕ
allocate_refusal s n = unless (admits s.phase allocate_kind) 10 then unless (not (overfull n s)) 18

-- every lot is paired
unfoldable pub done : Session → Bool
done s = every (λ i. left s i == 0) s.order_count

-- the phase after the last fill: IssuerRofr with an authority, else Settling
unfoldable pub phase_after : Session → ℕ
phase_after s = if same s.params.rofr_authority no_wallet then settling else issuer_rofr

abbrev pub matched : Session → Session
matched s = if done s then at_phase s (phase_after s) else s

unfoldable pub allocate_effect : Session → (n : ℕ) → Session
allocate_effect s n = matched (after_fills n s)

-- `fill K B S QTY` for each of at most n fills
unfoldable pub fill_events : ℕ → Session → List Event
fill_events zero s = []
fill_events (suc n) s = if due s then FillAllocated s.fill_count (buy_at s) (sell_at s) (due_qty s) ∷ fill_events n (one s) else []

-- the fills, then the change of phase where every lot is paired
unfoldable pub allocate_events : Session → (n : ℕ) → List Event
allocate_events s n = fill_events n s ++ (if done (after_fills n s) then PhaseChanged s.phase (phase_after s) ∷ [] else [])
