-- The orders of a side that trade at p, by order number: what they have together, their ranks and their lots. Assumes nothing.
use mathlib.Core.Path.{◌≡◌, refl, ◌∙◌, ap}
use mathlib.Core.Bool.{Bool, true, false, ◌&&◌}
use mathlib.Core.List.{List, [], ◌∷◌, map}
use Prim.Native.Nat.{ℕ, zero, suc, ◌+◌, ◌≤◌, ◌<◌, min}
use native.Mathlib.Omega.{arith}
use lib.Dec.{ltb}
use lib.ListN.{length, get_or, length-map}
use borrow.Author.Tests.{eq-eqb, ne_eqb}
use Rattle.std.proofs.lemmas.List.{get_or-map}
use Rattle.std.proofs.lemmas.Bool.Decides.{nat_tests}
use Rattle.laws.specs.Sums.{sum_below, only, count, sum_of, sum_over}
use Rattle.laws.specs.Lists.{table, keep}
use Rattle.laws.specs.Lex.{lex}
use Rattle.laws.proofs.Sums.{sum_same}
use Rattle.laws.proofs.Lists.{length_table, get_or_table, get_or_member, member_place, sum_map}
use Rattle.laws.proofs.Kept.{sum_keep}
use Rattle.credit_math.specs.Limits.{max_orders}
use Rattle.credit_math.specs.ProRata.{share, residue}
use Rattle.credit_math.specs.Ranks.{before, rank, lot}
use Rattle.credit_math.proofs.Sorted.{lots_at_lem}
use Rattle.book.specs.Book.{order_in, is_live, is_buy}
use Rattle.book.specs.Clear.{live_orders, trades_at, side_orders, side_lots, allocations}
use Rattle.book.specs.Gathered.{Within}
use Rattle.book.specs.declared.Order.{Order}
use Rattle.book.proofs.Live.{live_inside, side_inside}
use Rattle.book.proofs.Stored.{Once, value_at, value_none}
use Rattle.book.proofs.Allocations.{once, of_side, by_side}

-- a number that stands once stands at one place
pub once_at : (l : List ℕ) (j k : ℕ) → Once l → j < length l → k < length l → get_or l j 0 ≡ get_or l k 0 → j ≡ k
once_at [] j k o h g e = absurd (omega arith)
once_at (x ∷ l) zero zero o h g e = refl
once_at (x ∷ l) zero (suc k) o h g e = absurd (o.0 (rw e (get_or_member l k (omega arith))))
once_at (x ∷ l) (suc j) zero o h g e = absurd (o.0 (rw (← e) (get_or_member l j (omega arith))))
once_at (x ∷ l) (suc j) (suc k) o h g e = ap suc (once_at l j k o.1 (omega arith) (omega arith) e)

-- and is given the value of its place
value_here : (places values : List ℕ) (k : ℕ) → Once places → k < length places → value_at places values (get_or places k 0) ≡ get_or values k 0
unfolding value_at
value_here [] values k o h = absurd (omega arith)
value_here (j ∷ places) [] k o h = refl
value_here (j ∷ places) (v ∷ values) zero o h = omega (arith, ap (λ (b : Bool). only b v) (eq-eqb j j refl), value_none places values j o.0)
value_here (j ∷ places) (v ∷ values) (suc k) o h =
    omega (
      arith,
      ap (λ (b : Bool). only b v) (ne_eqb j (get_or places k 0) (λ e. o.0 (rw e (get_or_member places k (omega arith))))),
      value_here places values k o.1 (omega arith),
    )

-- numbers that are equal at one place only are in order by the numbers alone
lex_once : (a b j k : ℕ) → (a ≡ b → j ≡ k) → lex a b (ltb j k) ≡ ltb a b
unfolding lex
lex_once a b j k h = grind (arith, nat_tests)

only_both : (a b : Bool) (n : ℕ) → only a (only b n) ≡ only (a && b) n
only_both true b n = refl
only_both false b n = refl

module _ (orders : List Order) (n : ℕ) (few : n ≤ max_orders) (buys : Bool) (p : ℕ) where
  abbrev q : ℕ → ℕ
  q j = (order_in orders j).qty

  abbrev ids : List ℕ
  ids = side_orders orders n buys p

  abbrev qs : List ℕ
  qs = map q ids

  -- an order shares in the volume
  abbrev pub shares : ℕ → Bool
  shares j = is_live (order_in orders j) && trades_at orders n buys p j

  -- a sum over the side's orders
  sum_side : (f : ℕ → ℕ) → sum_over f 0 ids (length ids) ≡ sum_below (λ j. only (shares j) (f j)) n
  unfolding side_orders live_orders sum_over
  sum_side f =
      let live : ℕ → Bool = λ i. is_live (order_in orders i) in
      let trades : ℕ → Bool = trades_at orders n buys p in
      let all : List ℕ = table (λ i. i) (min n max_orders) in
      let m : length all ≡ n = length_table (λ (i : ℕ). i) (min n max_orders) ∙ omega arith in
      sum_keep f 0 trades (keep live all)
      ∙ sum_keep (λ j. only (trades j) (f j)) 0 live all
      ∙ rw m
      (sum_same (λ k. only (live (get_or all k 0)) (only (trades (get_or all k 0)) (f (get_or all k 0)))) (λ j. only (shares j) (f j)) n
      (λ k h. rw (get_or_table (λ (i : ℕ). i) (min n max_orders) k 0 (omega arith)) (only_both (live k) (trades k) (f k))))

  -- what they have together
  pub sharers_sum : sum_of qs ≡ sum_below (λ j. only (shares j) (q j)) n
  sharers_sum = sum_map q 0 ids ∙ sum_side q

  -- an order's rank is the number of those that share and come before it: the larger quantity, then the lower number
  abbrev ahead : ℕ → ℕ → Bool
  ahead j i = lex (q i) (q j) (ltb j i)

  pub sharers_before : (j k : ℕ) → j < length ids → k < length ids → before ids qs j k ≡ ahead (get_or ids j 0) (get_or ids k 0)
  unfolding before
  sharers_before j k h g =
      rw (get_or-map q ids k 0 0 g, get_or-map q ids j 0 0 h)
      (ap (lex (q (get_or ids k 0)) (q (get_or ids j 0))) (lex_once (get_or ids j 0) (get_or ids k 0) j k (once_at ids j k (once orders n p buys) h g)))

  pub sharers_rank : (k : ℕ) → k < length ids → rank ids qs k ≡ count (λ j. shares j && ahead j (get_or ids k 0)) n
  unfolding rank count sum_over
  sharers_rank k h =
      let i : ℕ = get_or ids k 0 in
      rw (length-map ids q)
      (sum_same (λ j. only (before ids qs j k) 1) (λ j. only (ahead (get_or ids j 0) i) 1) (length ids) (λ j g. ap (λ (b : Bool). only b 1) (sharers_before j k g h))
      ∙ sum_side (λ j. only (ahead j i) 1)
      ∙ sum_same (λ j. only (shares j) (only (ahead j i) 1)) (λ j. only (shares j && ahead j i) 1) n (λ j _. only_both (shares j) (ahead j i) 1))

  -- which orders they are
  pub sharer_in : (k : ℕ) → k < length ids
      → (get_or ids k 0 < n) × (is_live (order_in orders (get_or ids k 0)) ≡ true) × (trades_at orders n buys p (get_or ids k 0) ≡ true)
  sharer_in k h =
      let s = (side_inside orders n buys p (get_or ids k 0)).0 (get_or_member ids k h) in
      let l = (live_inside orders n (get_or ids k 0)).0 s.0 in
      (omega (arith, l.0), l.1, s.1)

  pub sharer_place : (i : ℕ) → i < n → is_live (order_in orders i) ≡ true → trades_at orders n buys p i ≡ true → (k : ℕ) × (k < length ids) × (i ≡ get_or ids k 0)
  sharer_place i h l t = member_place i ids ((side_inside orders n buys p i).1 ((live_inside orders n i).1 (omega arith, l), t))

  pub sharer_side : (k : ℕ) → k < length ids → is_buy (order_in orders (get_or ids k 0)) ≡ buys
  sharer_side k h = of_side orders n p buys (get_or ids k 0) (get_or_member ids k h)

  -- an order's lot is its share, and one unit more where its rank is below the residue
  pub sharer_lot : (v : ℕ) → Within orders n p v → (k : ℕ) → k < length ids
      → get_or (allocations orders n p v) (get_or ids k 0) 0 ≡ share v (sum_of qs) (q (get_or ids k 0)) + only (ltb (rank ids qs k) (residue qs v)) 1
  unfolding lot side_lots
  sharer_lot v w k h =
      by_side orders n p v w (get_or ids k 0) buys (sharer_side k h)
      ∙ value_here ids (side_lots orders n buys p v) k (once orders n p buys) h
      ∙ lots_at_lem ids qs v k (omega (arith, length-map ids q))
      ∙ ap (λ (x : ℕ). share v (sum_of qs) x + only (ltb (rank ids qs k) (residue qs v)) 1) (get_or-map q ids k 0 0 h)
