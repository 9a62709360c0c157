-- The fills to come: each fill leaves one fewer, so those made and those to come are as many as at the start. Assumes nothing.
use mathlib.Core.Path.{◌≡◌, refl, sym, ap, ap₂, ◌∙◌}
use mathlib.Core.Logic.{◌≢◌}
use mathlib.Core.Bool.{Bool, true, false, ◌&&◌}
use mathlib.Core.List.{List, [], ◌∷◌}
use Prim.Native.Nat.{ℕ, zero, suc, ◌+◌, ◌-◌, ◌≤◌, ◌<◌, min}
use native.Mathlib.Decide.{ℕ_discrete}
use native.Mathlib.Omega.{arith}
use borrow.Author.Tests.{ltb-false}
use lib.Dec.{ltb, eqb}
use Rattle.laws.specs.Sums.{sum_over, only, count}
use Rattle.laws.specs.Lists.{table}
use Rattle.laws.proofs.Sums.{sum_same, sum_add, sum_le_sum, count_le, only_none}
use Rattle.laws.proofs.Search.{first_below}
use Rattle.laws.proofs.Only.{only_eq, only_ne}
use Rattle.book.specs.Limits.{max_fills}
use Rattle.book.specs.Book.{buy_side, sell_side}
use Rattle.book.specs.declared.Order.{Order}
use Rattle.fills.specs.Steps.{nonzero, fills_of}
use Rattle.fills.proofs.Fills.{fill_next, same_fills, no_fills}
use Rattle.fills.proofs.Places.{Split, split, nothing}
use Rattle.fills.proofs.Bounds.{fills_below}
use Rattle.auction_engine.specs.declared.Session.{Session}
use Rattle.auction_engine.specs.Session.{order_at, left}
use Rattle.auction_engine.specs.Matching.{due_on, due_at, buy_at, sell_at, due, due_qty, pair, one, after_fills}
use Rattle.course.proofs.Matching.{Allotted, Kept, Due, left_on, lot_count, other_left, buyer_left, seller_left, pair_kept, due_at_lem, due_count, one_due, one_idle, whole_on, start_kept}

-- what is left to each order on one side
abbrev pub lefts : (side : ℕ) → Session → List ℕ
lefts side t = table (λ i. left_on side (order_at t i)) t.order_count

-- the fills to come
abbrev pub to_come : Session → ℕ
to_come t = fills_of (lefts buy_side t) (lefts sell_side t)

-- an order that is not due on a side has nothing left on it
not_due : (side : ℕ) (o : Order) → due_on side o ≡ false → left_on side o ≡ 0
not_due side o = go (eqb o.side side)
  where
    go : (x : Bool) → x && ltb 0 o.alloc_left ≡ false → only x o.alloc_left ≡ 0
    go false e = refl
    go true e = omega (arith, ltb-false 0 o.alloc_left e)

-- nor have those before the first that is due
pub before_due : (t : Session) (side i : ℕ) → i < due_at t side → left_on side (order_at t i) ≡ 0
unfolding due_at
before_due t side i l = not_due side (order_at t i) (first_below (λ j. due_on side (order_at t j)) t.order_count i l)

module _ (s₀ t : Session) (A : Allotted s₀) (K : Kept s₀ t) (D : Due t) (r : t.fill_count < max_fills) where
  abbrev b : ℕ
  b = buy_at t

  abbrev a : ℕ
  a = sell_at t

  abbrev next : Session
  next = pair t b a (due_qty t)

  side_stays : (j : ℕ) → (order_at next j).side ≡ (order_at t j).side
  side_stays j = (pair_kept s₀ t A K b a (due_qty t) D.fits r).side j ∙ sym (K.side j)

  -- on one side a fill touches one order, i; the other one, k, is of the other side
  others : (side i k : ℕ) → (order_at t k).side ≢ side → ((j : ℕ) → j ≢ i → j ≢ k → left next j ≡ left t j) → (j : ℕ) → j ≢ i
      → left_on side (order_at next j) ≡ left_on side (order_at t j)
  others side i k s e j h = go (ℕ_discrete j k)
    where
      go : Dec (j ≡ k) → left_on side (order_at next j) ≡ left_on side (order_at t j)
      go (yes w) =
          let z : (order_at t j).side ≢ side = λ x. s (ap (λ m. (order_at t m).side) (sym w) ∙ x) in
          only_ne (order_at next j).side side (left next j) (λ x. z (sym (side_stays j) ∙ x)) ∙ sym (only_ne (order_at t j).side side (left t j) z)
      go (no w) = ap₂ (λ x y. only (eqb x side) y) (side_stays j) (e j h w)

  other : (j : ℕ) → j ≢ b → j ≢ a → left next j ≡ left t j
  other = other_left s₀ t A K b a (due_qty t) D.fits

  buys : Split (λ i. left_on buy_side (order_at t i)) (λ i. left_on buy_side (order_at next i)) t.order_count b
  buys = split _ _ t.order_count b D.fits.b<n (before_due t buy_side) (λ j _. others buy_side b a (λ e. omega (arith, e, D.fits.sells)) other j)

  sells : Split (λ i. left_on sell_side (order_at t i)) (λ i. left_on sell_side (order_at next i)) t.order_count a
  sells =
      split _ _ t.order_count a D.fits.a<n (before_due t sell_side) (λ j _. others sell_side a b (λ e. omega (arith, e, D.fits.buys)) (λ j p q. other j q p) j)

  buyer_old : left_on buy_side (order_at t b) ≡ left t b
  buyer_old = only_eq (order_at t b).side buy_side (left t b) D.fits.buys

  seller_old : left_on sell_side (order_at t a) ≡ left t a
  seller_old = only_eq (order_at t a).side sell_side (left t a) D.fits.sells

  -- the smaller of the two is taken off both
  buyer_new : left_on buy_side (order_at next b) ≡ left t b - left t a
  buyer_new =
      only_eq (order_at next b).side buy_side (left next b) (side_stays b ∙ D.fits.buys) ∙ buyer_left s₀ t A K b a (due_qty t) D.fits
      ∙ (let e : left t b - min (left t b) (left t a) ≡ left t b - left t a = omega arith in e)

  seller_new : left_on sell_side (order_at next a) ≡ left t a - left t b
  seller_new =
      only_eq (order_at next a).side sell_side (left next a) (side_stays a ∙ D.fits.sells) ∙ seller_left s₀ t A K b a (due_qty t) D.fits
      ∙ (let e : left t a - min (left t b) (left t a) ≡ left t a - left t b = omega arith in e)

  -- one fill fewer to come
  pair_counts : to_come t ≡ suc (to_come next)
  unfolding pair
  pair_counts =
      same_fills (lefts buy_side t) (lefts sell_side t) (left t b ∷ buys.rest) (left t a ∷ sells.rest)
      (buys.old ∙ ap (λ x. nonzero (x ∷ buys.rest)) buyer_old) (sells.old ∙ ap (λ x. nonzero (x ∷ sells.rest)) seller_old)
      ∙ fill_next (left t b) (left t a) buys.rest sells.rest D.b_left D.a_left
      ∙ ap suc (same_fills ((left t b - left t a) ∷ buys.rest) ((left t a - left t b) ∷ sells.rest) (lefts buy_side next) (lefts sell_side next)
      (ap (λ x. nonzero (x ∷ buys.rest)) (sym buyer_new) ∙ sym buys.new) (ap (λ x. nonzero (x ∷ sells.rest)) (sym seller_new) ∙ sym sells.new))

-- an order counts on its own side only
one_side : (side x : ℕ) → only (ltb 0 (only (eqb side buy_side) x)) 1 + only (ltb 0 (only (eqb side sell_side) x)) 1 ≤ only (ltb 0 x) 1
one_side side x = go (ℕ_discrete side buy_side)
  where
    go : Dec (side ≡ buy_side) → only (ltb 0 (only (eqb side buy_side) x)) 1 + only (ltb 0 (only (eqb side sell_side) x)) 1 ≤ only (ltb 0 x) 1
    go (yes e) = rw (only_eq side buy_side x e, only_ne side sell_side x (λ d. omega (arith, e, d))) (omega arith)
    go (no e) = rw (only_ne side buy_side x e) (pick (ℕ_discrete side sell_side))
      where
        pick : Dec (side ≡ sell_side) → 0 + only (ltb 0 (only (eqb side sell_side) x)) 1 ≤ only (ltb 0 x) 1
        pick (yes d) = rw (only_eq side sell_side x d) (omega arith)
        pick (no d) = rw (only_ne side sell_side x d) (omega arith)

-- at the start there are fewer to come than orders with a lot
pub few_to_come : (s : Session) → Allotted s → to_come s < lot_count s
unfolding sum_over count
few_to_come s A =
    let n = s.order_count in
    let buy : ℕ → ℕ = λ i. left_on buy_side (order_at s i) in
    let sell : ℕ → ℕ = λ i. left_on sell_side (order_at s i) in
    omega (
      arith,
      fills_below buy sell n (whole_on s A buy_side ∙ A.bought ∙ sym A.given ∙ sym (whole_on s A sell_side)) (omega (arith, whole_on s A buy_side, A.bought, A.traded)),
      sum_add (λ i. only (ltb 0 (buy i)) 1) (λ i. only (ltb 0 (sell i)) 1) n,
      sum_le_sum (λ i. only (ltb 0 (buy i)) 1 + only (ltb 0 (sell i)) 1) (λ i. only (ltb 0 (left s i)) 1) n (λ i _. one_side (order_at s i).side (left s i)),
      sum_same (λ i. only (ltb 0 (left s i)) 1) (λ i. only (ltb 0 (order_at s i).alloc) 1) n (λ i l. ap (λ x. only (ltb 0 x) 1) (A.whole i l)),
    )

pub lots_few : (s : Session) → lot_count s ≤ s.order_count
lots_few s = count_le (λ i. ltb 0 (order_at s i).alloc) s.order_count

-- what fills keep: also how many there are in all, made and to come
pub record KeptByFills (s₀ t : Session) : Type 0 where
  pub kept : Kept s₀ t
  pub all : t.fill_count + to_come t ≡ to_come s₀

pub room : (s₀ t : Session) → Allotted s₀ → KeptByFills s₀ t → t.fill_count < max_fills
room s₀ t A C = omega (arith, C.all, few_to_come s₀ A, lots_few s₀, A.few)

pub one_keeps : (s₀ t : Session) → Allotted s₀ → KeptByFills s₀ t → KeptByFills s₀ (one t)
one_keeps s₀ t A C = go (due t) refl
  where
    go : (x : Bool) → due t ≡ x → KeptByFills s₀ (one t)
    go false e = rw (one_idle t e) C
    go true e =
        let D = due_at_lem t e in
        let r = room s₀ t A C in
        rw (one_due t e) (record {
          kept = pair_kept s₀ t A C.kept (buy_at t) (sell_at t) (due_qty t) D.fits r;
          all = omega (arith, C.all, due_count t (buy_at t) (sell_at t) (due_qty t), pair_counts s₀ t A C.kept D r);
        })

pub after_fills_keeps : (s₀ : Session) → Allotted s₀ → (n : ℕ) (t : Session) → KeptByFills s₀ t → KeptByFills s₀ (after_fills n t)
unfolding after_fills
after_fills_keeps s₀ A zero t C = C
after_fills_keeps s₀ A (suc n) t C = after_fills_keeps s₀ A n (one t) (one_keeps s₀ t A C)

module _ (s : Session) (A : Allotted s) where
  pub kept_by_fills : (k : ℕ) → KeptByFills s (after_fills k s)
  kept_by_fills k = after_fills_keeps s A k s (record { kept = start_kept s A; all = omega (arith, A.no_fills) })

  -- no number of fills that are allowed makes more
  pub at_most : (k : ℕ) → (after_fills k s).fill_count ≤ to_come s
  at_most k = omega (arith, (kept_by_fills k).all)

-- with nothing left none is to come
pub none_to_come : (t : Session) → ((i : ℕ) → i < t.order_count → left t i ≡ 0) → to_come t ≡ 0
none_to_come t z =
    let none : (side : ℕ) → nonzero (lefts side t) ≡ [] =
    λ side. nothing _ t.order_count (λ i l. ap (only (eqb (order_at t i).side side)) (z i l) ∙ only_none (eqb (order_at t i).side side)) in
    no_fills (lefts buy_side t) (lefts sell_side t) (none buy_side) (none sell_side)
