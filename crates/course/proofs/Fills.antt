-- Fills: they do not depend on how they are divided among allocates. Assumes nothing.
use mathlib.Core.Path.{◌≡◌, refl, sym, ap, ◌∙◌}
use mathlib.Core.Bool.{Bool, true, false}
use Prim.Native.Nat.{ℕ, zero, suc, ◌+◌, ◌-◌, ◌≤◌, ◌<◌}
use native.Mathlib.Nat.{zero-add, suc-add, le_refl}
use native.Mathlib.Decide.{dec_le}
use native.Mathlib.Omega.{arith}
use borrow.Author.Tests.{eqb-true}
use Rattle.laws.proofs.Search.{every_at}
use Rattle.auction_engine.specs.declared.Session.{Session}
use Rattle.auction_engine.specs.Session.{left}
use Rattle.auction_engine.specs.Matching.{buy_at, sell_at, due, due_qty, pair, one, after_fills, done}
use Rattle.course.proofs.Matching.{due_at_lem, due_count, one_due, one_idle}

pub after_fills_add : (a b : ℕ) (s : Session) → after_fills (a + b) s ≡ after_fills b (after_fills a s)
unfolding after_fills
after_fills_add zero b s = rw (zero-add b)
after_fills_add (suc a) b s = rw (suc-add a b) (after_fills_add a b (one s))

pub after_fills_last : (n : ℕ) (s : Session) → after_fills (suc n) s ≡ one (after_fills n s)
unfolding after_fills
after_fills_last zero s = refl
after_fills_last (suc n) s = after_fills_last n (one s)

-- what no fill touches
one_frame : {B : Type 0} (f : Session → B) (t : Session) → ((b a q : ℕ) → f (pair t b a q) ≡ f t) → f (one t) ≡ f t
one_frame f t e = go (due t) refl
  where
    go : (x : Bool) → due t ≡ x → f (one t) ≡ f t
    go true d = ap f (one_due t d) ∙ e (buy_at t) (sell_at t) (due_qty t)
    go false d = ap f (one_idle t d)

pub after_fills_frame : {B : Type 0} (f : Session → B) → ((t : Session) (b a q : ℕ) → f (pair t b a q) ≡ f t) → (n : ℕ) (t : Session) → f (after_fills n t) ≡ f t
unfolding after_fills
after_fills_frame f e zero t = refl
after_fills_frame f e (suc n) t = after_fills_frame f e n (one t) ∙ one_frame f t (e t)

module _ (n : ℕ) (s : Session) where
  pub after_fills_phase : (after_fills n s).phase ≡ s.phase
  unfolding pair
  after_fills_phase = after_fills_frame (λ t. t.phase) (λ t b a q. refl) n s

  pub after_fills_params : (after_fills n s).params ≡ s.params
  unfolding pair
  after_fills_params = after_fills_frame (λ t. t.params) (λ t b a q. refl) n s

  pub after_fills_given : (after_fills n s).given ≡ s.given
  unfolding pair
  after_fills_given = after_fills_frame (λ t. t.given) (λ t b a q. refl) n s

  pub after_fills_settled : (after_fills n s).fills_settled ≡ s.fills_settled
  unfolding pair
  after_fills_settled = after_fills_frame (λ t. t.fills_settled) (λ t b a q. refl) n s

  pub after_fills_skipped : (after_fills n s).skipped_fills ≡ s.skipped_fills
  unfolding pair
  after_fills_skipped = after_fills_frame (λ t. t.skipped_fills) (λ t b a q. refl) n s

-- the number of fills only grows
one_grows : (t : Session) → t.fill_count ≤ (one t).fill_count
one_grows t = go (due t) refl
  where
    go : (x : Bool) → due t ≡ x → t.fill_count ≤ (one t).fill_count
    go true d = omega (arith, due_count t (buy_at t) (sell_at t) (due_qty t), ap (λ (s : Session). s.fill_count) (one_due t d))
    go false d = omega (arith, ap (λ (s : Session). s.fill_count) (one_idle t d))

pub after_fills_grows : (n : ℕ) (t : Session) → t.fill_count ≤ (after_fills n t).fill_count
unfolding after_fills
after_fills_grows zero t = le_refl t.fill_count
after_fills_grows (suc n) t = omega (arith, one_grows t, after_fills_grows n (one t))

-- where every lot is paired nothing is left, and no fill is due
pub done_left : (t : Session) → done t ≡ true → (i : ℕ) → i < t.order_count → left t i ≡ 0
unfolding done
done_left t e i l = eqb-true _ _ (every_at _ _ i e l)

done_one : (t : Session) → done t ≡ true → one t ≡ t
done_one t e = go (due t) refl
  where
    go : (x : Bool) → due t ≡ x → one t ≡ t
    go false d = one_idle t d
    go true d = let D = due_at_lem t d in absurd (omega (arith, done_left t e (buy_at t) D.fits.b<n, D.b_left))

pub done_after_fills : (n : ℕ) (t : Session) → done t ≡ true → after_fills n t ≡ t
unfolding after_fills
done_after_fills zero t e = refl
done_after_fills (suc n) t e = ap (after_fills n) (done_one t e) ∙ done_after_fills n t e

-- all numbers of fills that complete the matching reach the same session
pub same_end : (a b : ℕ) (s : Session) → done (after_fills a s) ≡ true → done (after_fills b s) ≡ true → after_fills a s ≡ after_fills b s
same_end a b s da db = go (dec_le a b)
  where
    to : (m n : ℕ) → m ≤ n → done (after_fills m s) ≡ true → after_fills m s ≡ after_fills n s
    to m n l d =
        let e : n ≡ m + (n - m) = omega arith in
        sym (ap (λ k. after_fills k s) e ∙ after_fills_add m (n - m) s ∙ done_after_fills (n - m) (after_fills m s) d)

    go : Dec (a ≤ b) → after_fills a s ≡ after_fills b s
    go (yes l) = to a b l da
    go (no l) = sym (to b a (omega arith) db)
