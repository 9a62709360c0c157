-- How many fills complete a matching: until it is complete each that is allowed is made, so as many as are to come at the start are enough.
-- Assumes nothing.
use mathlib.Core.Path.{◌≡◌, refl, sym, ap, ◌∙◌}
use mathlib.Core.Bool.{Bool, true, false, ◌&&◌, and-false, false≢true}
use Prim.Native.Nat.{ℕ, zero, suc, ◌+◌, ◌-◌, ◌≤◌, ◌<◌}
use native.Mathlib.Decide.{dec_le}
use native.Mathlib.Omega.{arith}
use borrow.Author.Tests.{ltb-false, eq-eqb, lt-leb}
use lib.Dec.{ltb, eqb}
use Rattle.laws.specs.Sums.{sum_over, only}
use Rattle.laws.specs.Search.{every}
use Rattle.laws.proofs.Sums.{sum_zero, sum_ge, only_none}
use Rattle.laws.proofs.Only.{only_eq, only_ne}
use Rattle.laws.proofs.Search.{every_all}
use Rattle.book.specs.Limits.{max_fills}
use Rattle.book.specs.Book.{no_order, buy_side, sell_side}
use Rattle.auction_engine.specs.declared.Session.{Session}
use Rattle.auction_engine.specs.Session.{order_at, left}
use Rattle.auction_engine.specs.Matching.{due_at, buy_at, sell_at, due, due_qty, pair, one, after_fills, overfull, done}
use Rattle.course.proofs.Matching.{Allotted, Kept, Fits, lot_on, left_on, orders_sum, due_at_lem, due_count, one_due, one_idle, whole_on}
use Rattle.course.proofs.ToCome.{KeptByFills, to_come, before_due, room, one_keeps, kept_by_fills, at_most}
use Rattle.course.proofs.Fills.{after_fills_last, done_after_fills, done_left}

-- what one side has left
abbrev side_left : (side : ℕ) → Session → ℕ
side_left side t = sum_over (left_on side) no_order t.orders t.order_count

side_out : (t : Session) (side : ℕ) → t.order_count ≤ due_at t side → side_left side t ≡ 0
unfolding sum_over
side_out t side h =
    sum_zero (λ i. left_on side (order_at t i)) t.order_count (λ i l. before_due t side i (omega (arith, l, h)))

none_on : (t : Session) (side : ℕ) → side_left side t ≡ 0 → (i : ℕ) → i < t.order_count → (order_at t i).side ≡ side → left t i ≡ 0
unfolding sum_over
none_on t side z i l h =
    omega (arith, z, only_eq (order_at t i).side side (left t i) h, sum_ge (λ j. left_on side (order_at t j)) t.order_count i l)

-- the two sides have the same left
abbrev Level : Session → Type 0
Level t = side_left buy_side t ≡ side_left sell_side t

pair_level : (s₀ t : Session) → Allotted s₀ → Kept s₀ t → (b a q : ℕ) → Fits t b a q → Level t → Level (pair t b a q)
unfolding pair
pair_level s₀ t A K b a q F e =
    omega (
      arith,
      e,
      F.b_has,
      F.a_has,
      orders_sum s₀ t A K b a q F (left_on buy_side),
      orders_sum s₀ t A K b a q F (left_on sell_side),
      only_eq (order_at t b).side buy_side (left t b) F.buys,
      only_eq (order_at t b).side buy_side (left t b - q) F.buys,
      only_ne (order_at t b).side sell_side (left t b) (λ e. omega (arith, F.buys)),
      only_ne (order_at t b).side sell_side (left t b - q) (λ e. omega (arith, F.buys)),
      only_eq (order_at t a).side sell_side (left t a) F.sells,
      only_eq (order_at t a).side sell_side (left t a - q) F.sells,
      only_ne (order_at t a).side buy_side (left t a) (λ e. omega (arith, F.sells)),
      only_ne (order_at t a).side buy_side (left t a - q) (λ e. omega (arith, F.sells)),
    )

one_level : (s₀ t : Session) → Allotted s₀ → Kept s₀ t → Level t → Level (one t)
one_level s₀ t A K E = go (due t) refl
  where
    go : (x : Bool) → due t ≡ x → Level (one t)
    go false e = rw (one_idle t e) E
    go true e = rw (one_due t e) (pair_level s₀ t A K (buy_at t) (sell_at t) (due_qty t) (due_at_lem t e).fits E)

-- a level session in which no fill is due has nothing left
idle_done : (s₀ t : Session) → Allotted s₀ → Kept s₀ t → Level t → due t ≡ false → done t ≡ true
unfolding due done
idle_done s₀ t A K E e = go (ltb (buy_at t) t.order_count) (ltb (sell_at t) t.order_count) refl refl e
  where
    none : side_left buy_side t ≡ 0 → (i : ℕ) → i < t.order_count → eqb (left t i) 0 ≡ true
    none z i l = eq-eqb (left t i) 0 (pick (dec_le (order_at t i).side 0))
      where
        pick : Dec ((order_at t i).side ≤ 0) → left t i ≡ 0
        pick (yes h) = none_on t buy_side z i l (omega arith)
        pick (no h) = none_on t sell_side (sym E ∙ z) i l (omega (arith, A.sides i (omega (arith, K.orders)), K.side i))

    go : (x y : Bool) → ltb (buy_at t) t.order_count ≡ x → ltb (sell_at t) t.order_count ≡ y → x && y ≡ false
        → every (λ i. eqb (left t i) 0) t.order_count ≡ true
    go true true p q h = absurd (false≢true (sym h))
    go true false p q h = every_all _ t.order_count (none (E ∙ side_out t sell_side (ltb-false _ _ q)))
    go false y p q h = every_all _ t.order_count (none (side_out t buy_side (ltb-false _ _ p)))

module _ (s : Session) (A : Allotted s) where
  level : (k : ℕ) → Level (after_fills k s)
  unfolding after_fills
  level zero = whole_on s A buy_side ∙ A.bought ∙ sym A.given ∙ sym (whole_on s A sell_side)
  level (suc k) = rw (after_fills_last k s) (one_level s (after_fills k s) A (kept_by_fills s A k).kept (level k))

  open_due : (k : ℕ) → done (after_fills k s) ≡ false → due (after_fills k s) ≡ true
  open_due k e = go (due (after_fills k s)) refl
    where
      go : (x : Bool) → due (after_fills k s) ≡ x → due (after_fills k s) ≡ true
      go true d = d
      go false d = absurd (false≢true (sym e ∙ idle_done s (after_fills k s) A (kept_by_fills s A k).kept (level k) d))

  one_more : (k : ℕ) → done (after_fills k s) ≡ false → (after_fills (suc k) s).fill_count ≡ (after_fills k s).fill_count + 1
  one_more k e = ap (λ (t : Session). t.fill_count) (after_fills_last k s ∙ one_due (after_fills k s) (open_due k e)) ∙ due_count (after_fills k s) _ _ _

  -- until the matching is complete each fill that is allowed is made
  used : (k : ℕ) → done (after_fills k s) ≡ false → (after_fills k s).fill_count ≡ k
  unfolding after_fills
  used zero e = A.no_fills
  used (suc k) e = go (done (after_fills k s)) refl (used k)
    where
      go : (x : Bool) → done (after_fills k s) ≡ x → (done (after_fills k s) ≡ false → (after_fills k s).fill_count ≡ k) → (after_fills (suc k) s).fill_count ≡ suc k
      go false d ih = omega (arith, one_more k d, ih d)
      go true d ih = absurd (false≢true (sym e ∙ ap done (after_fills_last k s ∙ done_after_fills 1 (after_fills k s) d) ∙ d))

  -- as many as are to come at the start are enough
  pub enough : (k : ℕ) → to_come s ≤ k → done (after_fills k s) ≡ true
  enough k l = go (done (after_fills k s)) refl
    where
      go : (x : Bool) → done (after_fills k s) ≡ x → done (after_fills k s) ≡ true
      go true d = d
      go false d = absurd (omega (arith, l, at_most s A (suc k), one_more k d, used k d))

  -- at the start the matching is open
  pub open_start : done s ≡ false
  unfolding sum_over
  open_start = go (done s) refl
    where
      go : (x : Bool) → done s ≡ x → done s ≡ false
      go false d = d
      go true d =
          absurd (omega (
            arith,
            A.traded,
            A.bought,
            sum_zero (λ i. lot_on buy_side (order_at s i)) s.order_count
                (λ i l. ap (only (eqb (order_at s i).side buy_side)) (sym (A.whole i l) ∙ done_left s d i l) ∙ only_none (eqb (order_at s i).side buy_side)),
          ))

-- no fill is due with 24 held
pub never_full : (s : Session) → Allotted s → (n : ℕ) (t : Session) → KeptByFills s t → overfull n t ≡ false
unfolding overfull
never_full s A zero t C = refl
never_full s A (suc n) t C = rw (lt-leb max_fills t.fill_count (room s t A C), and-false (due t)) (never_full s A n (one t) (one_keeps s t A C))
