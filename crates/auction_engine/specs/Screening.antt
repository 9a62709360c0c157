-- Screen: `begin_screen`, the exclusion, `finish_screen`.
use Rattle.std.specs.Prelude.{Bool, true, if◌then◌else◌, not, List, [], ◌∷◌, ◌++◌, ℕ, nat_lt, ◌==◌, ℤ, set}
use Rattle.laws.specs.Checks.{unless, ◌then◌}
use Rattle.book.specs.Book.{reorder}
use Rattle.book.specs.declared.Order.{Order}
use Rattle.investors.specs.Exclusion.{investor_exclusion}
use Rattle.events.specs.declared.Event.{Event}
use Rattle.events.specs.declared.Event.TheVariants.{OrderScreened, PhaseChanged}
use Rattle.auction_engine.specs.declared.Session.{Session}
use Rattle.auction_engine.specs.Session.{order_at, remake, clearing}
use Rattle.auction_engine.specs.Call.{screen_kind, admits, in_window}

-- Screen | 11 window; 10 phase; 12 no such order; 13 side; 14 not revealed; 15 screened
unfoldable pub screen_refusal : Session → (now : ℤ) (i side : ℕ) → ℕ
screen_refusal s now i side =
    unless (in_window s now) 11
    then unless (admits s.phase screen_kind) 10
    then unless (nat_lt i s.order_count) 12
    then unless ((order_at s i).side == side) 13
    then unless (order_at s i).revealed 14
    then unless (not (order_at s i).screened) 15

-- 'a verdict other than 0 is the exclusion. With verdict 0 and an id', those of the investor
unfoldable pub exclusion_of : Session → (i verdict : ℕ) (has_id : Bool) (id : List ℕ) → ℕ
exclusion_of s i verdict has_id id =
    if verdict == 0
    then (if has_id then investor_exclusion s.orders s.order_count i id s.params.max_cash else 0)
    else verdict

-- 'A given id is stored even when the order is excluded'; 'Exclusion kinds .. must be kept in the order from screening on'
abbrev pub screened_as : Order → (exclusion : ℕ) (has_id : Bool) (id : List ℕ) → Order
screened_as o e has_id id = reorder o o.alloc o.alloc_left true (e == 0) e (if has_id then id else o.investor_id)

-- the order is screened, in phase Clearing
unfoldable pub screen_effect : Session → (i verdict : ℕ) (has_id : Bool) (id : List ℕ) → Session
screen_effect s i verdict has_id id =
    remake s s.cleared clearing s.rofr_qty s.fills_settled s.skipped_fills
    (set s.orders i (screened_as (order_at s i) (exclusion_of s i verdict has_id id) has_id id))
    s.fills s.fill_count

-- a change of phase on the first screen, then `screen I E`
abbrev pub screen_lines : (from i exclusion : ℕ) → List Event
screen_lines from i e = (if from == clearing then [] else PhaseChanged from clearing ∷ []) ++ (OrderScreened i e ∷ [])

unfoldable pub screen_events : Session → (i verdict : ℕ) (has_id : Bool) (id : List ℕ) → List Event
screen_events s i verdict has_id id = screen_lines s.phase i (exclusion_of s i verdict has_id id)
