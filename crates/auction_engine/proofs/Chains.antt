-- What the chains over a session's orders and fills say, as the definitions have it: laws of `every` and `some` at each test. Assumes nothing.
use Rattle.std.proofs.Common.{◌≡◌, ℕ, ◌≤◌, List, not, ◌&&◌, ◌||◌, length, take, nat_le, ◌∙◌}
use Rattle.std.specs.List.{list_all, list_any}
use Rattle.laws.specs.Search.{every, some}
use Rattle.laws.specs.Lists.{same}
use Rattle.laws.proofs.Chains.{every_of, some_of}
use Rattle.laws.proofs.Search.{every_both}
use Rattle.book.specs.Book.{no_order, kind_fits}
use Rattle.auction_engine.specs.declared.Session.{Session}
use Rattle.auction_engine.specs.Session.{order_at}

module _ (s : Session) (h : s.order_count ≤ length s.orders) where
  pub orders_every : list_all (λ o. nat_le o.side 1 && kind_fits o) (take s.order_count s.orders)
      ≡ (every (λ i. nat_le (order_at s i).side 1) s.order_count && every (λ i. kind_fits (order_at s i)) s.order_count)
  orders_every =
      every_of (λ o. nat_le o.side 1 && kind_fits o) no_order s.orders s.order_count h
      ∙ every_both (λ i. nat_le (order_at s i).side 1) (λ i. kind_fits (order_at s i)) s.order_count

  pub ready_every : list_all (λ o. not o.revealed || o.screened) (take s.order_count s.orders) ≡ every (λ i. not (order_at s i).revealed || (order_at s i).screened) s.order_count
  ready_every = every_of (λ o. not o.revealed || o.screened) no_order s.orders s.order_count h

  -- an order of that owner
  pub owner_some : (owner : List ℕ) → list_any (λ o. same o.owner owner) (take s.order_count s.orders) ≡ some (λ i. same (order_at s i).owner owner) s.order_count
  owner_some owner = some_of (λ o. same o.owner owner) no_order s.orders s.order_count h
