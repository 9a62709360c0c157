-- Who a wallet counts as, by the first of its orders as `find` answers it. Assumes nothing.
use Rattle.std.proofs.Common.{◌≡◌, ℕ, ◌<◌, ◌≤◌, min, Bool, cond, not, ◌&&◌, ltb, Option, Some, None, List, length, get_or, take, refl, ◌∙◌, sym, arith, length-take, ⊎_elim, le_refl}
use native.Mathlib.Nat.{min-eq_left}
use Rattle.std.specs.List.{find, position_or_len, slice_get}
use Rattle.std.proofs.lemmas.List.{get_or-take, length-take-le, take_all}
use Rattle.std.proofs.lemmas.List.Sums.{position_or_len_is}
use Rattle.std.proofs.lemmas.List.Folds.{find_at}
use Rattle.std.proofs.lemmas.Option.{slice_get-get_or, slice_get_past}
use borrow.Author.Tests.{lt-ltb, le-ltb}
use Rattle.laws.specs.Search.{first}
use Rattle.laws.specs.Lists.{same}
use Rattle.laws.proofs.Tests.{lt_or_le}
use Rattle.laws.proofs.Search.{first_le, first_below, first_holds}
use Rattle.credit_math.specs.Limits.{max_orders}
use Rattle.book.specs.Book.{order_in, no_order, no_investor}
use Rattle.book.specs.declared.Order.{Order}
use Rattle.investors.specs.Participants.{first_order, participant}
use Rattle.investors.specs.declared.seen.Participant.{Participant}
use Rattle.investors.specs.declared.seen.Participant.TheVariants.{Investor, Wallet}

-- the first place of std's is that of `first`, among the first n
position_is_first : {X : Type 0} (p : X → Bool) (xs : List X) (n : ℕ) (d : X) → n ≤ length xs → position_or_len p (take n xs) ≡ first (λ i. p (get_or xs i d)) n
position_is_first p xs n d h =
    let q = λ (i : ℕ). p (get_or xs i d) in
    let l : first q n ≤ n = first_le q n in
    position_or_len_is p (take n xs) (first q n) d (omega (arith, length-take n xs))
    (λ k m. rw (get_or-take n xs k d (omega arith)) (first_below q n k m))
    (λ m. rw (get_or-take n xs (first q n) d (omega (arith, length-take n xs))) (first_holds q n (omega (arith, length-take n xs))))

-- who a wallet counts as, by what is found
abbrev pub counts_as : Option Order → List ℕ → Participant
counts_as None key = Wallet key
counts_as (Some o) key = cond (not (same o.investor_id no_investor)) (Investor o.investor_id) (Wallet key)

module _ (orders : List Order) (n m : ℕ) (key : List ℕ) (e : m ≡ min n max_orders) (h : m ≤ length orders) where
  -- the first order among the m counted is the one found there
  by_find : participant orders n key ≡ counts_as (find (λ o. same o.owner key) (take m orders)) key
  unfolding participant first_order
  by_find =
      rw (← e, find_at (λ (o : Order). same o.owner key) (take m orders), position_is_first (λ (o : Order). same o.owner key) orders m no_order h)
      (at_place (first (λ i. same (order_in orders i).owner key) m))
    where
      -- what the order at a place says, where there is one
      at_place : (k : ℕ)
          → cond (ltb k m && not (same (order_in orders k).investor_id no_investor)) (Investor (order_in orders k).investor_id) (Wallet key) ≡ counts_as (slice_get (take m orders) k) key
      at_place k =
          ⊎_elim
          (λ (l : k < m). rw (lt-ltb k m l, slice_get-get_or (take m orders) k no_order (omega (arith, length-take-le m orders h)), get_or-take m orders k no_order l))
          (λ (g : m ≤ k). rw (le-ltb k m g, slice_get_past (take m orders) k (omega (arith, length-take-le m orders h))))
          (lt_or_le k m)

-- by what is found in a list of orders within the limit
pub participant_found : (orders : List Order) (key : List ℕ) (r : Option Order) → length orders ≤ max_orders → r ≡ find (λ o. same o.owner key) orders → participant orders (length orders) key ≡ counts_as r key
participant_found orders key r h e = rw (by_find orders (length orders) (length orders) key (sym (min-eq_left h)) (le_refl (length orders)), take_all (length orders) orders (le_refl (length orders)), ← e)

-- among the orders counted it counts as the same
pub participant_counted : (orders : List Order) (n : ℕ) (key : List ℕ) → min n max_orders ≤ length orders
    → participant (take (min n max_orders) orders) (length (take (min n max_orders) orders)) key ≡ participant orders n key
participant_counted orders n key h =
    participant_found (take (min n max_orders) orders) key _ (omega (arith, length-take (min n max_orders) orders)) refl ∙ sym (by_find orders n (min n max_orders) key refl h)
