-- The orders that share the volume and their turns, by order number: what they have together, how many have their turn before an order, and that an
-- order's lot is its share, with one unit more where its turn is among the units of the residue. Assumes nothing.
use mathlib.Core.Path.{◌≡◌, sym, ap, ap₂, ◌∙◌, subst}
use mathlib.Core.Logic.{⊎_elim, inl, inr}
use mathlib.Core.Bool.{Bool, true, false, cond, not, ◌&&◌}
use mathlib.Core.List.{List}
use Prim.Native.Nat.{ℕ, ◌+◌, ◌≤◌, ◌<◌}
use native.Mathlib.Omega.{arith}
use borrow.Author.Tests.{ltb-true, ltb-false, le-ltb, lt-ltb, le-leb, leb-true, eqb-true}
use lib.Dec.{ltb, leb, eqb}
use lib.ListN.{length, get_or, length-map}
use Rattle.std.proofs.lemmas.List.{get_or-map}
use Rattle.laws.specs.Sums.{sum_below, only, count, sum_of}
use Rattle.laws.specs.Search.{first}
use Rattle.laws.specs.Lex.{lex}
use Rattle.laws.proofs.Tests.{both}
use Rattle.laws.proofs.Sums.{count_le}
use Rattle.laws.proofs.Lex.{lex_true}
use Rattle.laws.proofs.Placed.{first_place}
use Rattle.credit_math.specs.Limits.{max_orders}
use Rattle.credit_math.specs.ProRata.{share, turns}
use Rattle.credit_math.specs.Ranks.{rank}
use Rattle.credit_math.proofs.Sequence.{length_turns, turn_below, turn_rank, rank_below, rank_turn, rank_before}
use Rattle.credit_math.proofs.Shares.{residue_le}
use Rattle.book.specs.Book.{is_live, is_buy}
use Rattle.book.specs.Clear.{trades_at, allocations}
use Rattle.book.proofs.Sides.{side_has}
use Rattle.book.proofs.Allocations.{once}
use Rattle.book.proofs.Sharers.{once_at, sharers_sum, sharers_rank, sharers_before, sharer_in, sharer_place, sharer_side, sharer_lot}
use Rattle.book.proofs.Lots.{Allots, allots}
use Rattle.auction_engine.specs.declared.Session.{Session}
use Rattle.auction_engine.specs.Session.{order_at}
use Rattle.auction_engine.specs.Clearing.{outcome}
use Rattle.inquiries.specs.Why.{price, lot_of, out_of_price, sharers, quantities, units_of, in_turn, turns_before, gives_lots}
use Rattle.inquiries.specs.Claims.{share_of, Precedes}

-- an order trades on its own side where the price is not beyond its limit, and the other way round
trades_own : (b : Bool) (l p : ℕ) → cond b (ltb l p) (ltb p l) ≡ false → cond b (b && leb p l) (not b && leb l p) ≡ true
trades_own true l p e = le-leb p l (ltb-false l p e)
trades_own false l p e = le-leb l p (ltb-false p l e)

trading_in : (side b : Bool) (l p : ℕ) → b ≡ side → cond side (b && leb p l) (not b && leb l p) ≡ true → cond b (ltb l p) (ltb p l) ≡ false
trading_in side true l p e t = le-ltb l p (leb-true p l (rw (← e) at t))
trading_in side false l p e t = le-ltb p l (leb-true l p (rw (← e) at t))

-- a share with a unit where a test holds is above the share where it does
above_share : (t : Bool) (a b : ℕ) → a ≡ b + only t 1 → t ≡ ltb b a
above_share true a b e = sym (lt-ltb b a (omega arith))
above_share false a b e = sym (le-ltb b a (omega arith))

-- one order comes before another by the larger quantity, then by the lower number
precedes_by : (s : Session) (x y : ℕ) → lex (order_at s y).qty (order_at s x).qty (ltb x y) ≡ true → Precedes s x y
precedes_by s x y t = ⊎_elim inl (λ e. inr (sym e.0, ltb-true x y e.1)) (lex_true (order_at s y).qty (order_at s x).qty (ltb x y) t)

module _ (s : Session) (few : s.order_count ≤ max_orders) where
  abbrev n : ℕ
  n = s.order_count

  -- an order shares the volume on a side
  abbrev shares : (buys : Bool) (j : ℕ) → Bool
  shares buys j = is_live (order_at s j) && trades_at s.orders n buys (price s) j

  -- what a side's orders have together
  pub quantities_sum : (buys : Bool)
      → sum_of (quantities s buys) ≡ sum_below (λ j. only (is_live (order_at s j) && trades_at s.orders n buys (price s) j) (order_at s j).qty) n
  quantities_sum buys = sharers_sum s.orders n few buys (price s)

  module _ (buys : Bool) where
    abbrev ids : List ℕ
    ids = sharers s buys

    abbrev qs : List ℕ
    qs = quantities s buys

    -- as many quantities, and turns, as orders
    same_length : length qs ≡ length ids
    same_length = length-map ids (λ i. (order_at s i).qty)

    pub length_in_turn : length (in_turn s buys) ≡ length ids
    length_in_turn = length-map (turns ids qs) (λ k. get_or ids k 0) ∙ length_turns ids qs ∙ same_length

    turned : (m : ℕ) → m < length ids → get_or (in_turn s buys) m 0 ≡ get_or ids (get_or (turns ids qs) m 0) 0
    turned m h = get_or-map (λ k. get_or ids k 0) (turns ids qs) m 0 0 (omega (arith, length_turns ids qs, same_length))

    turned_below : (m : ℕ) → m < length ids → get_or (turns ids qs) m 0 < length ids
    turned_below m h = omega (arith, turn_below ids qs m (omega (arith, same_length)), same_length)

    turned_rank : (m : ℕ) → m < length ids → rank ids qs (get_or (turns ids qs) m 0) ≡ m
    turned_rank m h = turn_rank ids qs m (omega (arith, same_length))

    -- an order stands among the turns at its rank, and nowhere else
    ranked_below : (k : ℕ) → k < length ids → rank ids qs k < length ids
    ranked_below k h = omega (arith, rank_below ids qs k (omega (arith, same_length)), same_length)

    ranked : (k : ℕ) → k < length ids → get_or (in_turn s buys) (rank ids qs k) 0 ≡ get_or ids k 0
    ranked k h = turned (rank ids qs k) (ranked_below k h) ∙ ap (λ m. get_or ids m 0) (rank_turn ids qs k (omega (arith, same_length)))

    ranked_once : (k m : ℕ) → k < length ids → m < length ids → get_or (in_turn s buys) m 0 ≡ get_or ids k 0 → m ≡ rank ids qs k
    ranked_once k m h g e =
        sym (turned_rank m g)
        ∙ ap (rank ids qs) (once_at ids (get_or (turns ids qs) m 0) k (once s.orders n (price s) buys) (turned_below m g) h (sym (turned m g) ∙ e))

    first_turn : (k i : ℕ) → k < length ids → i ≡ get_or ids k 0 → first (λ m. eqb (get_or (in_turn s buys) m 0) i) (length (in_turn s buys)) ≡ rank ids qs k
    first_turn k i h e =
        first_place (in_turn s buys) i (rank ids qs k) (omega (arith, length_in_turn, ranked_below k h)) (ranked k h ∙ sym e)
        (λ m g f. ranked_once k m h (omega (arith, length_in_turn)) (f ∙ e))

    -- who stands among the turns shares the volume
    pub record Sharing (i : ℕ) : Type 0 where
      pub below : i < n
      pub live : is_live (order_at s i) ≡ true
      pub priced : out_of_price s i ≡ false
      pub side : is_buy (order_at s i) ≡ buys

    pub sharing : (m : ℕ) → m < length ids → Sharing (get_or (in_turn s buys) m 0)
    unfolding out_of_price trades_at
    sharing m h =
        let k = get_or (turns ids qs) m 0 in
        let g : k < length ids = turned_below m h in
        let r = sharer_in s.orders n few buys (price s) k g in
        let side : is_buy (order_at s (get_or ids k 0)) ≡ buys = sharer_side s.orders n few buys (price s) k g in
        subst Sharing (sym (turned m h))
        (record {
          below = r.0;
          live = r.1;
          priced = trading_in buys (is_buy (order_at s (get_or ids k 0))) (order_at s (get_or ids k 0)).limit (price s) side r.2;
          side = side;
        })

    -- of two orders that share, the earlier turn is that of the one that comes before
    pub turns_precede : (m w : ℕ) → m < w → w < length ids → Precedes s (get_or (in_turn s buys) m 0) (get_or (in_turn s buys) w 0)
    turns_precede m w h g =
        let j : ℕ = get_or (turns ids qs) m 0 in
        let k : ℕ = get_or (turns ids qs) w 0 in
        let a : j < length ids = turned_below m (omega arith) in
        let b : k < length ids = turned_below w g in
        let before = rank_before ids qs j k (omega (arith, turned_rank m (omega arith), turned_rank w g)) in
        rw (turned m (omega arith), turned w g) (precedes_by s (get_or ids j 0) (get_or ids k 0) (sym (sharers_before s.orders n few buys (price s) j k a b) ∙ before))

  -- an order that shares the volume
  module _ (i : ℕ) (h : i < n) (live : is_live (order_at s i) ≡ true) (priced : out_of_price s i ≡ false) where
    abbrev b : Bool
    b = is_buy (order_at s i)

    trades : trades_at s.orders n b (price s) i ≡ true
    unfolding trades_at out_of_price
    trades = trades_own b (order_at s i).limit (price s) priced

    place : (k : ℕ) × (k < length (sharers s b)) × (i ≡ get_or (sharers s b) k 0)
    place = sharer_place s.orders n few b (price s) i h live trades

    at_rank : turns_before s i ≡ rank (sharers s b) (quantities s b) place.0
    unfolding turns_before
    at_rank = first_turn b place.0 i place.1 place.2

    -- so many that share come before it
    pub turns_before_count : turns_before s i
        ≡ count (λ j. (is_live (order_at s j) && trades_at s.orders n b (price s) j) && lex (order_at s i).qty (order_at s j).qty (ltb j i)) n
    turns_before_count =
        at_rank ∙ sharers_rank s.orders n few b (price s) place.0 place.1
        ∙ ap (λ x. count (λ j. shares b j && lex (order_at s x).qty (order_at s j).qty (ltb j x)) n) (sym place.2)

    -- its turn is one of its side's, there it stands, and nowhere else
    pub turn_inside : turns_before s i < length (sharers s b)
    turn_inside = omega (arith, at_rank, ranked_below b place.0 place.1)

    pub stands_in_turn : get_or (in_turn s b) (turns_before s i) 0 ≡ i
    stands_in_turn = ap (λ m. get_or (in_turn s b) m 0) at_rank ∙ ranked b place.0 place.1 ∙ sym place.2

    pub stands_once : (m : ℕ) → m < length (sharers s b) → get_or (in_turn s b) m 0 ≡ i → m ≡ turns_before s i
    stands_once m g e = ranked_once b place.0 m place.1 g (e ∙ place.2) ∙ sym at_rank

module _ (s : Session) (few : s.order_count ≤ max_orders) (gives : gives_lots s ≡ true) where
  A : Allots s.orders s.order_count (outcome s)
  A =
      let g = both (eqb (outcome s).refusal 0) (eqb (outcome s).failed 0) gives in
      allots s.params s.given s.orders s.order_count (eqb-true (outcome s).refusal 0 g.0) (eqb-true (outcome s).failed 0 g.1)

  -- no more units than orders
  pub units_few : (buys : Bool) → units_of s buys ≤ length (sharers s buys)
  units_few buys =
      let qs : List ℕ = quantities s buys in
      omega (
        arith,
        residue_le qs (outcome s).volume (side_has s.orders s.order_count (price s) buys A.both_have),
        count_le (λ k. ltb 0 (get_or qs k 0)) (length qs),
        same_length s few buys,
      )

  module _ (i : ℕ) (h : i < s.order_count) (live : is_live (order_at s i) ≡ true) (priced : out_of_price s i ≡ false) where
    abbrev own : Bool
    own = is_buy (order_at s i)

    -- the lot is the share, and one unit more where the turn is among the units
    pub lot_by_turn : lot_of s i ≡ share_of s i + only (ltb (turns_before s i) (units_of s own)) 1
    lot_by_turn =
        let P = place s few i h live priced in
        let v : ℕ = (outcome s).volume in
        ap (λ l. get_or l i 0) A.lots
        ∙ ap (λ x. get_or (allocations s.orders s.order_count (price s) v) x 0) P.2
        ∙ sharer_lot s.orders s.order_count few own (price s) v A.both_have P.0 P.1
        ∙ ap₂ (λ x r. share v (sum_of (quantities s own)) (order_at s x).qty + only (ltb r (units_of s own)) 1) (sym P.2) (sym (at_rank s few i h live priced))

    -- so the lot is above the share where the turn is among the units
    pub unit_above_share : ltb (turns_before s i) (units_of s own) ≡ ltb (share (outcome s).volume (sum_of (quantities s own)) (order_at s i).qty) (lot_of s i)
    unit_above_share = above_share (ltb (turns_before s i) (units_of s own)) (lot_of s i) (share_of s i) lot_by_turn
