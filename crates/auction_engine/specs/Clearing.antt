-- Clear.
use Rattle.std.specs.Prelude.{Bool, if◌then◌else◌, not, ◌||◌, List, [], ◌∷◌, ℕ, zero, suc, ◌==◌, ℤ, slice_index, set}
use Rattle.laws.specs.Search.{every}
use Rattle.laws.specs.Checks.{unless, ◌then◌}
use Rattle.book.specs.Book.{order_in, reorder}
use Rattle.book.specs.Clear.{compute_clear, floor_of, Outcome}
use Rattle.book.specs.declared.Order.{Order}
use Rattle.events.specs.declared.Event.{Event}
use Rattle.events.specs.declared.Event.TheVariants as event
use Rattle.auction_engine.specs.declared.Session.{Session}
use Rattle.auction_engine.specs.Session.{order_at, remake, at_phase, allocating, failed}
use Rattle.auction_engine.specs.Call.{clear_kind, admits, in_window}

-- what `compute_clear` finds in the session
abbrev pub outcome : Session → Outcome
outcome s = compute_clear s.params s.given s.orders s.order_count

-- no revealed order is unscreened
abbrev pub all_ready : Session → Bool
all_ready s = every (λ i. not (order_at s i).revealed || (order_at s i).screened) s.order_count

-- Clear | 11; 10; 16 a revealed order unscreened
abbrev pub clear_checks : Session → (now : ℤ) → ℕ
clear_checks s now =
    unless (in_window s now) 11
    then unless (admits s.phase clear_kind) 10
    then unless (all_ready s) 16

-- then 17 volume above 64 bits, which the outcome has
unfoldable pub clear_refusal : Session → (now : ℤ) → ℕ
clear_refusal s now = clear_checks s now then (outcome s).refusal

-- an order with its lot, none of it paired yet
abbrev pub with_lot : Order → ℕ → Order
with_lot o a = reorder o a a o.screened o.eligible o.exclusion o.investor_id

-- the first n orders with their lots
unfoldable pub with_lots : List Order → List ℕ → ℕ → List Order
with_lots orders lots zero = orders
with_lots orders lots (suc n) = set (with_lots orders lots n) n (with_lot (order_in orders n) (slice_index lots n))

-- a price: its figures and lots, in phase Allocating; a failure: phase Failed
unfoldable pub cleared_by : Session → Outcome → Session
cleared_by s found =
    if found.failed == 0 then
    (remake s
    (record { clear_price = found.price; cleared_volume = found.volume; reserve_price = floor_of s.params s.given; reference_mark = s.given.reference })
    allocating s.rofr_qty s.fills_settled s.skipped_fills
    (with_lots s.orders found.lots s.order_count)
    s.fills s.fill_count)
    else at_phase s failed

abbrev pub clear_effect : Session → Session
clear_effect s = cleared_by s (outcome s)

-- `clear PRICE VOLUME RESERVE REFERENCE` or `failed R`, then the change of phase
unfoldable pub clear_lines : Session → Outcome → List Event
clear_lines s found =
    if found.failed == 0
    then event.Cleared found.price found.volume (floor_of s.params s.given) s.given.reference ∷ event.PhaseChanged s.phase allocating ∷ []
    else event.SessionFailed found.failed ∷ event.PhaseChanged s.phase failed ∷ []

abbrev pub clear_events : Session → List Event
clear_events s = clear_lines s (outcome s)
