-- Matching: what each fill keeps. Assumes nothing.
use mathlib.Core.Path.{◌≡◌, refl, sym, ap, ◌∙◌}
use mathlib.Core.Logic.{◌≢◌}
use mathlib.Core.Bool.{true, false}
use mathlib.Core.List.{List}
use Prim.Native.Nat.{ℕ, ◌+◌, ◌-◌, ◌≤◌, ◌<◌}
use native.Mathlib.Decide.{ℕ_discrete}
use native.Mathlib.Numerals.{add-one}
use native.Mathlib.Omega.{arith}
use borrow.Author.Tests.{ltb-true, eqb-true}
use lib.Dec.{ltb, eqb}
use lib.ListN.{length, get_or, set, length-set}
use lib.Seq.{get_or-set_same, get_or-set_other}
use Rattle.laws.specs.Sums.{sum_over, only, count}
use Rattle.laws.proofs.Tests.{both}
use Rattle.laws.proofs.Sums.{sum_same, sum_zero, over_set, over_push}
use Rattle.laws.proofs.Search.{first_holds}
use Rattle.laws.proofs.Lists.{unseen}
use Rattle.laws.proofs.Only.{only_eq, only_ne, only_same, only_other}
use Rattle.credit_math.specs.Limits.{max_orders}
use Rattle.book.specs.Limits.{max_fills}
use Rattle.book.specs.Book.{no_order, no_fill, buy_side, sell_side}
use Rattle.book.specs.declared.Order.{Order}
use Rattle.book.specs.declared.Fill.{Fill}
use Rattle.auction_engine.specs.declared.Session.{Session}
use Rattle.auction_engine.specs.Session.{order_at, fill_at, left, allocating}
use Rattle.auction_engine.specs.Call.{limits_refusal, fields_refusal}
use Rattle.auction_engine.specs.Matching.{less_left, due_on, due_at, buy_at, sell_at, due, due_qty, pair, one}
use Rattle.course.specs.Demand3.{sold_by, sold}

-- an order's lot, and what is left of it, on one side only
abbrev pub lot_on : (side : ℕ) → Order → ℕ
lot_on side o = only (eqb o.side side) o.alloc

abbrev pub left_on : (side : ℕ) → Order → ℕ
left_on side o = only (eqb o.side side) o.alloc_left

-- the orders with a lot
abbrev pub lot_count : Session → ℕ
lot_count s = count (λ i. ltb 0 (order_at s i).alloc) s.order_count

-- what is used of a session just cleared: every lot is whole, and each side's lots add up to the volume
pub record Allotted (s : Session) : Type 0 where
  pub at : s.phase ≡ allocating
  pub limits : limits_refusal s ≡ 0
  pub fields : fields_refusal s ≡ 0
  pub few : s.order_count ≤ max_orders
  pub sides : (i : ℕ) → i < s.order_count → (order_at s i).side ≤ 1
  pub order_places : length s.orders ≡ max_orders
  pub fill_places : length s.fills ≡ max_fills
  pub no_fills : s.fill_count ≡ 0
  pub none_settled : s.fills_settled ≡ 0
  pub none_skipped : s.skipped_fills ≡ 0
  pub owners : (i j : ℕ) → i < s.order_count → j < s.order_count → (order_at s i).owner ≡ (order_at s j).owner → i ≡ j
  pub whole : (i : ℕ) → i < s.order_count → left s i ≡ (order_at s i).alloc
  pub traded : 0 < s.cleared.cleared_volume
  pub bought : sum_over (lot_on buy_side) no_order s.orders s.order_count ≡ s.cleared.cleared_volume
  pub given : sum_over (lot_on sell_side) no_order s.orders s.order_count ≡ s.cleared.cleared_volume

-- what fills and purchases keep
pub record Kept (s₀ t : Session) : Type 0 where
  pub order_places : length t.orders ≡ max_orders
  pub fill_places : length t.fills ≡ max_fills
  pub orders : t.order_count ≡ s₀.order_count
  pub owner : (i : ℕ) → (order_at t i).owner ≡ (order_at s₀ i).owner
  pub side : (i : ℕ) → (order_at t i).side ≡ (order_at s₀ i).side
  pub sells : (i : ℕ) → i < s₀.order_count → (order_at s₀ i).side ≡ sell_side → sold t (order_at s₀ i).owner + left t i ≡ (order_at s₀ i).alloc
  pub volume : sum_over (λ f. f.qty) no_fill t.fills t.fill_count + sum_over (left_on buy_side) no_order t.orders t.order_count ≡ s₀.cleared.cleared_volume

-- order b can buy q of order a
pub record Fits (t : Session) (b a q : ℕ) : Type 0 where
  pub b<n : b < t.order_count
  pub a<n : a < t.order_count
  pub buys : (order_at t b).side ≡ buy_side
  pub sells : (order_at t a).side ≡ sell_side
  pub b_has : q ≤ left t b
  pub a_has : q ≤ left t a

module _ (s₀ t : Session) (A : Allotted s₀) (K : Kept s₀ t) (b a q : ℕ) (F : Fits t b a q) where
  b_place : b < length t.orders
  b_place = omega (arith, F.b<n, A.few, K.order_places, K.orders)

  a_place : a < length t.orders
  a_place = omega (arith, F.a<n, A.few, K.order_places, K.orders)

  apart : b ≢ a
  apart e = omega (arith, F.buys, F.sells, ap (λ i. (order_at t i).side) e)

  -- the orders after the buyer's part
  half : List Order
  half = set t.orders b (less_left (order_at t b) q)

  half_at : get_or half a no_order ≡ order_at t a
  unfolding half
  half_at = get_or-set_other t.orders b a (less_left (order_at t b) q) no_order (λ e. apart (sym e))

  pub seller_left : left (pair t b a q) a ≡ left t a - q
  unfolding pair half
  seller_left = ap (λ (o : Order). o.alloc_left) (get_or-set_same half a (less_left (order_at t a) q) no_order (rw length-set a_place))

  left_half : (i : ℕ) → i ≢ a → left (pair t b a q) i ≡ (get_or half i no_order).alloc_left
  unfolding pair half
  left_half i e = ap (λ (o : Order). o.alloc_left) (get_or-set_other half a i (less_left (order_at t a) q) no_order e)

  pub buyer_left : left (pair t b a q) b ≡ left t b - q
  unfolding half
  buyer_left = left_half b apart ∙ ap (λ (o : Order). o.alloc_left) (get_or-set_same t.orders b (less_left (order_at t b) q) no_order b_place)

  pub other_left : (i : ℕ) → i ≢ b → i ≢ a → left (pair t b a q) i ≡ left t i
  unfolding half
  other_left i p r = left_half i r ∙ ap (λ (o : Order). o.alloc_left) (get_or-set_other t.orders b i (less_left (order_at t b) q) no_order p)

  -- a reading of orders that does not see what is left
  fixed : {B : Type 0} (f : Order → B) → ((o : Order) → f (less_left o q) ≡ f o) → (i : ℕ) → f (order_at (pair t b a q) i) ≡ f (order_at t i)
  unfolding pair half
  fixed f e i =
      unseen f half a (less_left (order_at t a) q) no_order (e (order_at t a) ∙ ap f (sym half_at)) i
      ∙ unseen f t.orders b (less_left (order_at t b) q) no_order (e (order_at t b)) i

  -- a sum over the orders
  pub orders_sum : (f : Order → ℕ)
      → sum_over f no_order (pair t b a q).orders t.order_count + f (order_at t b) + f (order_at t a)
      ≡ sum_over f no_order t.orders t.order_count + f (less_left (order_at t b) q) + f (less_left (order_at t a) q)
  unfolding pair half
  orders_sum f =
      omega (
        arith,
        over_set f no_order t.orders t.order_count b (less_left (order_at t b) q) F.b<n b_place,
        over_set f no_order half t.order_count a (less_left (order_at t a) q) F.a<n (rw length-set a_place),
        ap f half_at,
      )

  module _ (r : t.fill_count < max_fills) where
    -- a sum over the fills
    fills_sum : (f : Fill → ℕ) → sum_over f no_fill (pair t b a q).fills (pair t b a q).fill_count
        ≡ sum_over f no_fill t.fills t.fill_count + f (record { buyer = (order_at t b).owner; seller = (order_at t a).owner; qty = q; rofr = false; settled = false })
    unfolding pair
    fills_sum f = rw (add-one t.fill_count) (over_push f no_fill t.fills t.fill_count _ (omega (arith, K.fill_places)))

    pair_sells : (i : ℕ) → i < s₀.order_count → (order_at s₀ i).side ≡ sell_side
        → sold (pair t b a q) (order_at s₀ i).owner + left (pair t b a q) i ≡ (order_at s₀ i).alloc
    pair_sells i l h = go (ℕ_discrete i a)
      where
        go : Dec (i ≡ a) → sold (pair t b a q) (order_at s₀ i).owner + left (pair t b a q) i ≡ (order_at s₀ i).alloc
        go (yes e) =
            omega (
              arith,
              K.sells i l h,
              F.a_has,
              fills_sum (sold_by (order_at s₀ i).owner),
              only_same (order_at t a).owner (order_at s₀ i).owner q (K.owner a ∙ ap (λ j. (order_at s₀ j).owner) (sym e)),
              ap (λ j. left t j) e,
              ap (λ j. left (pair t b a q) j) e,
              seller_left,
            )
        go (no e) =
            omega (
              arith,
              K.sells i l h,
              fills_sum (sold_by (order_at s₀ i).owner),
              only_other (order_at t a).owner (order_at s₀ i).owner q
                  (λ w. e (sym (A.owners a i (omega (arith, F.a<n, K.orders)) l (sym (K.owner a) ∙ w)))),
              other_left i (λ w. omega (arith, h, F.buys, ap (λ j. (order_at t j).side) w, K.side i)) e,
            )

    pub pair_kept : Kept s₀ (pair t b a q)
    unfolding pair
    pair_kept =
        record {
          order_places = rw (length-set, length-set) K.order_places;
          fill_places = rw length-set K.fill_places;
          orders = K.orders;
          owner = λ i. fixed (λ o. o.owner) (λ o. refl) i ∙ K.owner i;
          side = λ i. fixed (λ o. o.side) (λ o. refl) i ∙ K.side i;
          sells = pair_sells;
          volume = omega (
            arith,
            K.volume,
            F.b_has,
            fills_sum (λ f. f.qty),
            orders_sum (left_on buy_side),
            only_eq (order_at t b).side buy_side (left t b) F.buys,
            only_eq (order_at t b).side buy_side (left t b - q) F.buys,
            only_ne (order_at t a).side buy_side (left t a) (λ e. omega (arith, F.sells)),
            only_ne (order_at t a).side buy_side (left t a - q) (λ e. omega (arith, F.sells)),
          );
        }

-- where a fill is due
pub record Due (t : Session) : Type 0 where
  pub fits : Fits t (buy_at t) (sell_at t) (due_qty t)
  pub b_left : 0 < left t (buy_at t)
  pub a_left : 0 < left t (sell_at t)

pub due_at_lem : (t : Session) → due t ≡ true → Due t
unfolding due due_at
due_at_lem t e =
    let h = both _ _ e in
    let b<n = ltb-true _ _ h.0 in
    let a<n = ltb-true _ _ h.1 in
    let b = both _ _ (first_holds (λ i. due_on buy_side (order_at t i)) t.order_count b<n) in
    let a = both _ _ (first_holds (λ i. due_on sell_side (order_at t i)) t.order_count a<n) in
    record {
      fits = record { b<n = b<n; a<n = a<n; buys = eqb-true _ _ b.0; sells = eqb-true _ _ a.0; b_has = omega arith; a_has = omega arith };
      b_left = ltb-true _ _ b.1;
      a_left = ltb-true _ _ a.1;
    }

pub due_count : (t : Session) (b a q : ℕ) → (pair t b a q).fill_count ≡ t.fill_count + 1
unfolding pair
due_count t b a q = refl

pub one_due : (t : Session) → due t ≡ true → one t ≡ pair t (buy_at t) (sell_at t) (due_qty t)
unfolding one
one_due t e = rw e

pub one_idle : (t : Session) → due t ≡ false → one t ≡ t
unfolding one
one_idle t e = rw e

module _ (s : Session) (A : Allotted s) where
  pub whole_on : (side : ℕ) → sum_over (left_on side) no_order s.orders s.order_count ≡ sum_over (lot_on side) no_order s.orders s.order_count
  unfolding sum_over
  whole_on side =
      sum_same (λ i. left_on side (order_at s i)) (λ i. lot_on side (order_at s i)) s.order_count (λ i l. ap (only (eqb (order_at s i).side side)) (A.whole i l))

  no_fills : (f : Fill → ℕ) → sum_over f no_fill s.fills s.fill_count ≡ 0
  unfolding sum_over
  no_fills f = sum_zero (λ i. f (fill_at s i)) s.fill_count (λ i l. absurd (omega (arith, A.no_fills)))

  pub start_kept : Kept s s
  start_kept =
      record {
        order_places = A.order_places;
        fill_places = A.fill_places;
        orders = refl;
        owner = λ i. refl;
        side = λ i. refl;
        sells = λ i l _. omega (arith, A.whole i l, no_fills (sold_by (order_at s i).owner));
        volume = omega (arith, A.bought, no_fills (λ f. f.qty), whole_on buy_side);
      }
