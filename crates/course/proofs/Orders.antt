-- What calls keep of an order: its row, a kind that fits, and from screening on its kind. Lots and fills keep all of it but its lot. Assumes nothing.
use mathlib.Core.Path.{◌≡◌, refl, sym, ap, ◌∙◌}
use mathlib.Core.Bool.{Bool, true, false, cond, ◌&&◌, false≢true}
use mathlib.Core.List.{List, [], ◌∷◌}
use Prim.Native.Nat.{ℕ, zero, suc, ◌≤◌}
use native.Mathlib.Omega.{arith}
use borrow.Author.Tests.{lt-ltb, le-leb, ne_eqb}
use lib.Dec.{ltb, eqb}
use lib.ListN.{set}
use Rattle.laws.proofs.Lists.{unseen}
use Rattle.book.specs.Book.{no_order, order_in, is_buy, is_excluded, kind_fits, max_kind}
use Rattle.book.specs.declared.Order.{Order}
use Rattle.book.specs.declared.Row.{Row}
use Rattle.investors.specs.Exclusion.{self_trade, self_trade_exclusion, cash_of, cap_exclusion, investor_exclusion}
use Rattle.auction_engine.specs.declared.Session.{Session}
use Rattle.auction_engine.specs.Session.{order_at}
use Rattle.auction_engine.specs.Screening.{exclusion_of, screened_as}
use Rattle.auction_engine.specs.Clearing.{with_lot, with_lots}
use Rattle.auction_engine.specs.Matching.{less_left, pair, after_fills}
use Rattle.course.proofs.Fills.{after_fills_frame}

-- the row that an order was listed by
abbrev pub row_of : Order → Row
row_of o = record { owner = o.owner; side = o.side; escrowed = o.escrowed; revealed = o.revealed; limit = o.limit; qty = o.qty }

-- an order but for its lot
abbrev pub lotless : Order → Order
lotless o = with_lot o 0

-- what calls keep of o, if p is what they make of it
pub record OrderKept (o p : Order) : Type 0 where
  pub row : row_of p ≡ row_of o
  pub fits : kind_fits o ≡ true → kind_fits p ≡ true
  pub screened : o.screened ≡ true → p.screened ≡ true
  pub kind : o.screened ≡ true → p.exclusion ≡ o.exclusion

pub but_for_lot : (o p : Order) → lotless p ≡ lotless o → OrderKept o p
unfolding kind_fits is_excluded
but_for_lot o p e = record {
  row = ap row_of e;
  fits = λ h. ap kind_fits e ∙ h;
  screened = λ h. ap (λ (q : Order). q.screened) e ∙ h;
  kind = λ h. ap (λ (q : Order). q.exclusion) e;
}

pub order_same : (o : Order) → OrderKept o o
order_same o = but_for_lot o o refl

pub kept_on : (o p q : Order) → OrderKept o p → OrderKept p q → OrderKept o q
kept_on o p q a b = record {
  row = b.row ∙ a.row;
  fits = λ h. b.fits (a.fits h);
  screened = λ h. b.screened (a.screened h);
  kind = λ h. b.kind (a.screened h) ∙ a.kind h;
}

-- what is kept of the order of a place is kept of all
pub set_kept : (orders : List Order) (j : ℕ) (p : Order) → OrderKept (order_in orders j) p → (i : ℕ) → OrderKept (order_in orders i) (order_in (set orders j p) i)
set_kept [] j p k i = order_same no_order
set_kept (o ∷ orders) zero p k zero = k
set_kept (o ∷ orders) zero p k (suc i) = order_same (order_in orders i)
set_kept (o ∷ orders) (suc j) p k zero = order_same o
set_kept (o ∷ orders) (suc j) p k (suc i) = set_kept orders j p k i

-- ---- lots and fills
pub lots_lotless : (orders : List Order) (lots : List ℕ) (n i : ℕ) → lotless (order_in (with_lots orders lots n) i) ≡ lotless (order_in orders i)
unfolding with_lots
lots_lotless orders lots zero i = refl
lots_lotless orders lots (suc n) i = unseen lotless (with_lots orders lots n) n _ no_order (sym (lots_lotless orders lots n n)) i ∙ lots_lotless orders lots n i

pair_lotless : (t : Session) (b a q i : ℕ) → lotless (order_at (pair t b a q) i) ≡ lotless (order_at t i)
unfolding pair
pair_lotless t b a q i =
    let half : List Order = set t.orders b (less_left (order_at t b) q) in
    let kept : (j : ℕ) → lotless (order_in half j) ≡ lotless (order_at t j) = unseen lotless t.orders b (less_left (order_at t b) q) no_order refl in
    unseen lotless half a (less_left (order_at t a) q) no_order (sym (kept a)) i ∙ kept i

pub after_fills_lotless : (n : ℕ) (s : Session) (i : ℕ) → lotless (order_at (after_fills n s) i) ≡ lotless (order_at s i)
after_fills_lotless n s i = after_fills_frame (λ t. lotless (order_at t i)) (λ t b a q. pair_lotless t b a q i) n s

-- ---- a screen
-- an exclusion is a kind
pub exclusion_known : (s : Session) (i verdict : ℕ) (has_id : Bool) (id : List ℕ) → verdict ≤ 6 → exclusion_of s i verdict has_id id ≤ max_kind
unfolding exclusion_of investor_exclusion
exclusion_known s i verdict has_id id h =
    go (eqb verdict 0) has_id (self_trade s.orders s.order_count i id) (is_buy (order_at s i) && ltb s.params.max_cash (cash_of s.orders s.order_count i id))
  where
    go : (a b c d : Bool) → cond a (cond b (cond c self_trade_exclusion (cond d cap_exclusion 0)) 0) verdict ≤ max_kind
    go true true true d = omega arith
    go true true false true = omega arith
    go true true false false = omega arith
    go true false c d = omega arith
    go false b c d = omega (arith, h)

screened_fits : (o : Order) (e : ℕ) (has_id : Bool) (id : List ℕ) → e ≤ max_kind → kind_fits (screened_as o e has_id id) ≡ true
unfolding kind_fits is_excluded
screened_fits o zero has_id id h = refl
screened_fits o (suc e) has_id id h = rw (ne_eqb (suc e) 0 (omega arith), lt-ltb 0 (suc e) (omega arith), le-leb (suc e) max_kind h)

-- an order that was not screened
pub screened_kept : (o : Order) (e : ℕ) (has_id : Bool) (id : List ℕ) → o.screened ≡ false → e ≤ max_kind → OrderKept o (screened_as o e has_id id)
screened_kept o e has_id id f h = record {
  row = refl;
  fits = λ _. screened_fits o e has_id id h;
  screened = λ _. refl;
  kind = λ t. absurd (false≢true (sym f ∙ t));
}
