-- The search for the two orders of the next fill, as the definitions have it. Assumes nothing.
use Rattle.std.proofs.Common.{◌≡◌, ℕ, List, Bool, true, false, Option, Some, None, if◌then◌else◌, ◌&&◌, ◌≤◌, length, length-take, take, nat_lt, refl, arith}
use Rattle.std.specs.List.{position, position_or_len}
use Rattle.std.proofs.lemmas.List.{get_or-take}
use Rattle.std.proofs.lemmas.List.Sums.{position_or_len_is}
use Rattle.laws.specs.Search.{first}
use Rattle.laws.proofs.Search.{first_le, first_below, first_holds}
use Rattle.book.specs.Book.{no_order, order_in, buy_side, sell_side}
use Rattle.book.specs.declared.Order.{Order}
use Rattle.auction_engine.specs.Matching.{due_on, first_due}
use Rattle.auction_engine.specs.NextFill.{next_pair}

-- the two places, where both searches find one
abbrev both_found : Option ℕ → Option ℕ → Option (ℕ × ℕ)
both_found None a = None
both_found (Some b) None = None
both_found (Some b) (Some a) = Some (b, a)

module _ (os : List Order) (n : ℕ) (h : n ≤ length os) where
  -- std's search among the first n of a list is that of the definitions
  due_first : (side : ℕ) → position (λ o. due_on side o) (take n os) ≡ (if nat_lt (first_due os n side) n then Some (first_due os n side) else None)
  due_first side =
      let q : ℕ → Bool = λ i. due_on side (order_in os i) in
      let l : first q n ≤ n = first_le q n in
      let e : position_or_len (λ o. due_on side o) (take n os) ≡ first q n =
      position_or_len_is (λ o. due_on side o) (take n os) (first q n) no_order (omega (arith, length-take n os))
      (λ k m. rw (get_or-take n os k no_order (omega arith)) (first_below q n k m))
      (λ m. rw (get_or-take n os (first q n) no_order (omega (arith, length-take n os))) (first_holds q n (omega (arith, length-take n os)))) in
      let m : length (take n os) ≡ n = omega (arith, length-take n os) in
      rw (e, m) refl

  found : both_found (position (λ o. due_on buy_side o) (take n os)) (position (λ o. due_on sell_side o) (take n os)) ≡ next_pair os n
  found =
      let b : ℕ = first_due os n buy_side in
      let a : ℕ = first_due os n sell_side in
      rw (due_first buy_side, due_first sell_side) (go (nat_lt b n) (nat_lt a n) b a)
    where
      go : (t u : Bool) (b a : ℕ) → both_found (if t then Some b else None) (if u then Some a else None) ≡ (if t && u then Some (b, a) else None)
      go true true b a = refl
      go true false b a = refl
      go false u b a = refl

  -- by what the two searches find
  pub next_without_buy : None ≡ position (λ o. due_on buy_side o) (take n os) → None ≡ next_pair os n
  next_without_buy e = rw (← e) at found

  pub next_without_sell : (b : ℕ) → Some b ≡ position (λ o. due_on buy_side o) (take n os) → None ≡ position (λ o. due_on sell_side o) (take n os) → None ≡ next_pair os n
  next_without_sell b e f = rw (← e, ← f) at found

  pub next_found : (b a : ℕ) → Some b ≡ position (λ o. due_on buy_side o) (take n os) → Some a ≡ position (λ o. due_on sell_side o) (take n os) → Some (b, a) ≡ next_pair os n
  next_found b a e f = rw (← e, ← f) at found
