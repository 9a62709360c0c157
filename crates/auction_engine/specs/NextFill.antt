-- What the private functions of an allocate keep on the way. proofs/ shows that they come to Matching.antt.
use Rattle.std.specs.Prelude.{if◌then◌else◌, ◌&&◌, List, ℕ, nat_lt, Option, Some, None}
use Rattle.book.specs.Book.{buy_side, sell_side}
use Rattle.book.specs.declared.Order.{Order}
use Rattle.auction_engine.specs.declared.Session.{Session}
use Rattle.auction_engine.specs.Matching.{first_due, after_fills, overfull, fill_events}
use Rattle.auction_engine.specs.Engine.{Answered, refused_by}

-- the two orders that the next fill pairs, if one is due
abbrev pub next_pair : List Order → ℕ → Option (ℕ × ℕ)
next_pair os n =
    let b : ℕ = first_due os n buy_side in
    let a : ℕ = first_due os n sell_side in
    if nat_lt b n && nat_lt a n then Some (b, a) else None

-- at most n fills; 18, and the session as it was, where one more fill is due and no place is free
abbrev pub filled_by : Session → (n : ℕ) → Answered
filled_by s n = if overfull n s then refused_by s 18 else record { refusal = 0; session = after_fills n s; events = fill_events n s }
