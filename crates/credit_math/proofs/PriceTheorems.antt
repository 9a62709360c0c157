-- The price is right, and the totals have no more bits than document 01 says.
-- Assumes nothing.
use mathlib.Core.Path.{◌≡◌, refl, sym, ◌∙◌, ap}
use mathlib.Core.Logic.{◌↔◌, inl, ⊎_elim}
use mathlib.Core.Bool.{Bool}
use mathlib.Core.List.{List, [], ◌∷◌}
use Prim.Native.Nat.{ℕ, ◌^◌}
use native.Mathlib.Nat.{lt_of_lt_of_le}
use native.Mathlib.Omega.{arith}
use lib.Dec.{lit<, lit≤}
use Rattle.laws.specs.Lists.{Member}
use Rattle.laws.proofs.Checking.{check_in, unless_in}
use Rattle.credit_math.specs.Limits.{max_orders, volume_bits}
use Rattle.credit_math.specs.Error.{bad_length, no_cross}
use Rattle.credit_math.specs.Price.{Best, none, at, Found, refused, failed, cross, priced, executed, better, clear_price, price_refusal, find_uniform_clear_price}
use Rattle.credit_math.specs.Claims.{Executes, BestPrice, RightPrice, turned_away, no_crossing, cross_at, PriceIsRight, TotalsFit}
use Rattle.credit_math.proofs.Best.{BestOf, best_beats, beats_one}
use Rattle.credit_math.proofs.Price.{better_irrefl, better_trans, better_total, clear_price_best, no_refusal}
use Rattle.credit_math.proofs.Totals.{buy_below, sell_below, executed_below}

-- lists are refused with 30 or not at all
price_refusals : (is_buy : List Bool) (limits qtys : List ℕ) → Member (price_refusal is_buy limits qtys) (0 ∷ bad_length ∷ [])
unfolding price_refusal
price_refusals is_buy limits qtys =
    let only : List ℕ = bad_length ∷ [] in
    let in_row : Member bad_length only = inl refl in
    check_in only _ bad_length _ in_row (check_in only _ bad_length _ in_row (unless_in only _ bad_length in_row))

module _ (is_buy : List Bool) (limits qtys : List ℕ) (reserve reference : ℕ) where
  -- the search, the order, the candidates that execute and what is right, in short
  abbrev search : Found
  search = find_uniform_clear_price is_buy limits qtys reserve reference

  abbrev B : ℕ → ℕ → Bool
  B = better is_buy limits qtys reference

  abbrev P : ℕ → Type 0
  P = Executes is_buy limits qtys reserve

  abbrev IsBest : ℕ → Type 0
  IsBest = BestPrice is_buy limits qtys reserve reference

  abbrev Right : Found → Type 0
  Right = RightPrice is_buy limits qtys reserve reference

  -- the best of those that execute is better than any other
  is_best : (p : ℕ) → BestOf B P (at p) → IsBest p
  is_best p h = record {
    executes = h.0;
    beats = λ q m ne. best_beats B (better_irrefl is_buy limits qtys reference) (better_trans is_buy limits qtys reference) (better_total is_buy limits qtys reference) P p q h m ne;
  }

  right_best : price_refusal is_buy limits qtys ≡ 0 → (b : Best) → BestOf B P b → Right (priced (executed is_buy limits qtys) b)
  right_best z none h = no_crossing z h refl
  right_best z (at p) h = cross_at z p (is_best p h) refl

  refused_with_lem : price_refusal is_buy limits qtys ≡ bad_length → search ≡ refused bad_length
  unfolding find_uniform_clear_price
  refused_with_lem e = rw e

  right : Right search
  right =
      ⊎_elim
      (λ (z : price_refusal is_buy limits qtys ≡ 0).
      rw (no_refusal is_buy limits qtys reserve reference z) (right_best z (clear_price is_buy limits qtys reserve reference) (clear_price_best is_buy limits qtys reference reserve)))
      (λ m. ⊎_elim (λ (e : price_refusal is_buy limits qtys ≡ bad_length). turned_away e (refused_with_lem e)) absurd m)
      (price_refusals is_buy limits qtys)

  one_best : (p q : ℕ) → IsBest p → IsBest q → p ≡ q
  one_best p q h k =
      beats_one B (better_irrefl is_buy limits qtys reference) (better_trans is_buy limits qtys reference) (better_total is_buy limits qtys reference) p q
      (h.beats q k.executes) (k.beats p h.executes)

  one_answer : (a b : Found) → Right a → Right b → a ≡ b
  one_answer a b (turned_away z e) (turned_away y f) = e ∙ sym f
  one_answer a b (turned_away z e) (no_crossing y h f) = absurd (omega arith)
  one_answer a b (turned_away z e) (cross_at y p h f) = absurd (omega arith)
  one_answer a b (no_crossing z h e) (turned_away y f) = absurd (omega arith)
  one_answer a b (no_crossing z h e) (no_crossing y k f) = e ∙ sym f
  one_answer a b (no_crossing z h e) (cross_at y p k f) = absurd (h p k.executes)
  one_answer a b (cross_at z p h e) (turned_away y f) = absurd (omega arith)
  one_answer a b (cross_at z p h e) (no_crossing y k f) = absurd (k p h.executes)
  one_answer a b (cross_at z p h e) (cross_at y q k f) = e ∙ ap (λ (x : ℕ). cross x (executed is_buy limits qtys x)) (one_best p q h k) ∙ sym f

  exactly : price_refusal is_buy limits qtys ≡ 0 → (a : Found) → Right a → (a ≡ failed no_cross) ↔ ((p : ℕ) → P p → ⊥)
  exactly z a (turned_away y e) = absurd (omega arith)
  exactly z a (no_crossing y h e) = (λ _. h, λ _. e)
  exactly z a (cross_at y p h e) = (λ f. absurd (let x : ◌≡◌ {A = ℕ} 0 1 = cc in omega arith), λ none. absurd (none p h.executes))

pub price_is_right : (is_buy : List Bool) (limits qtys : List ℕ) (reserve reference : ℕ) → PriceIsRight is_buy limits qtys reserve reference
price_is_right is_buy limits qtys reserve reference = record {
  right = right is_buy limits qtys reserve reference;
  one_best = one_best is_buy limits qtys reserve reference;
  one_answer = λ a h. one_answer is_buy limits qtys reserve reference a (find_uniform_clear_price is_buy limits qtys reserve reference) h (right is_buy limits qtys reserve reference);
  no_cross_exactly = λ z. exactly is_buy limits qtys reserve reference z (find_uniform_clear_price is_buy limits qtys reserve reference) (right is_buy limits qtys reserve reference);
}

pub totals_fit : (is_buy : List Bool) (limits qtys : List ℕ) → TotalsFit is_buy limits qtys
totals_fit is_buy limits qtys few short = record {
  buys = λ p. lt_of_lt_of_le (buy_below is_buy limits qtys p max_orders 64 (lit< tt) few short) (lit≤ tt);
  sells = λ p. lt_of_lt_of_le (sell_below is_buy limits qtys p max_orders 64 (lit< tt) few short) (lit≤ tt);
  volume = λ p. executed_below is_buy limits qtys p max_orders 64 (lit< tt) few short (2 ^ volume_bits) (lit≤ tt);
}
