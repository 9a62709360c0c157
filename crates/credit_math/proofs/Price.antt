-- The order of prices is strict and total, so any walk over the orders' limits finds what the source's walk over the sorted candidates finds.
-- Assumes nothing.
use mathlib.Core.Path.{◌≡◌, ◌∙◌}
use mathlib.Core.Logic.{◌↔◌}
use mathlib.Core.Bool.{Bool, true, false, ◌&&◌}
use mathlib.Core.List.{List}
use Prim.Native.Nat.{ℕ, ◌≤◌}
use native.Mathlib.Nat.{le_antisymm, lt_trans, le_refl}
use lib.Dec.{ltb, leb}
use lib.ListN.{length}
use borrow.Author.Tests.{lt-ltb, le-ltb, ltb-true, ltb-false, le-leb, leb-true, eq-eqb, eqb-true}
use Rattle.laws.specs.Checks.{unless, first_of}
use Rattle.laws.specs.Lists.{Member, keep}
use Rattle.laws.specs.Sort.{sort}
use Rattle.laws.proofs.Checking.{check_zero, unless_zero}
use Rattle.laws.proofs.Tests.{both}
use Rattle.laws.proofs.Lists.{keep_members}
use Rattle.laws.proofs.Sort.{sort_members, dedup_members}
use Rattle.laws.proofs.Lex.{lex_same, lex_trans, lex_total}
use Rattle.wide.specs.Value.{apart}
use Rattle.credit_math.specs.Limits.{max_orders}
use Rattle.credit_math.specs.Price.{Best, none, walk, executed, imbalance, executes, better, candidates, clear_price, priced, price_refusal, find_uniform_clear_price}
use Rattle.credit_math.specs.Claims.{Executes}
use Rattle.credit_math.proofs.Best.{BestOf, Counted, best_of, walk_best, best_one}

-- a price that counts on the way through all limits: it is at or above the reserve, and executes
abbrev pub counts : List Bool → List ℕ → List ℕ → (reserve p : ℕ) → Bool
counts is_buy limits qtys reserve p = leb reserve p && executes is_buy limits qtys p

module _ (is_buy : List Bool) (limits qtys : List ℕ) (reference : ℕ) where
  -- the order and its keys, in short
  abbrev B : ℕ → ℕ → Bool
  B = better is_buy limits qtys reference

  abbrev e : ℕ → ℕ
  e = executed is_buy limits qtys

  abbrev im : ℕ → ℕ
  im = imbalance is_buy limits qtys

  abbrev d : ℕ → ℕ
  d p = apart p reference

  -- strict and total
  pub better_irrefl : (p : ℕ) → B p p ≡ false
  unfolding better
  better_irrefl p = lex_same (e p) _ ∙ lex_same (im p) _ ∙ lex_same (d p) _ ∙ le-ltb p p (le_refl p)

  pub better_trans : (p q r : ℕ) → B p q ≡ true → B q r ≡ true → B p r ≡ true
  unfolding better
  better_trans p q r h k =
      lex_trans (e r) (e q) (e p) _ _ _
      (λ y x. lex_trans (im p) (im q) (im r) _ _ _ (λ x' y'. lex_trans (d p) (d q) (d r) _ _ _ (λ u v. lt-ltb p r (lt_trans (ltb-true p q u) (ltb-true q r v))) x' y') x y)
      k h

  pub better_total : (p q : ℕ) → B p q ≡ false → B q p ≡ false → p ≡ q
  unfolding better
  better_total p q h k =
      let a = lex_total (e q) (e p) _ _ h k in
      let b = lex_total (im p) (im q) _ _ a.1 a.2 in
      let c = lex_total (d p) (d q) _ _ b.1 b.2 in
      le_antisymm (ltb-false q p c.2) (ltb-false p q c.1)

  module _ (reserve : ℕ) where
    -- the candidates are the limits at or above the reserve
    pub candidates_are : (p : ℕ) → Member p (candidates is_buy limits qtys reserve) ↔ (Member p limits × (leb reserve p ≡ true))
    unfolding candidates
    candidates_are p =
        let kept = keep (leb reserve) limits in
        let once = dedup_members p (sort ltb kept) in
        let sorted = sort_members ltb p kept in
        let above = keep_members (leb reserve) p limits in
        (λ h. above.0 (sorted.0 (once.0 h)), λ h. once.1 (sorted.1 (above.1 h)))

    -- the best of the candidates that execute
    abbrev Right : Best → Type 0
    Right = BestOf B (Executes is_buy limits qtys reserve)

    -- the source's walk finds the best candidate that executes
    pub clear_price_best : Right (clear_price is_buy limits qtys reserve reference)
    unfolding clear_price executes
    clear_price_best =
        best_of B (Counted (executes is_buy limits qtys) (candidates is_buy limits qtys reserve)) (Executes is_buy limits qtys reserve) (clear_price is_buy limits qtys reserve reference)
        (λ p h. let m = (candidates_are p).0 h.0 in record { limit = m.0; floor = leb-true reserve p m.1; some = ltb-true 0 (e p) h.1 })
        (λ p h. ((candidates_are p).1 (h.limit, le-leb reserve p h.floor), lt-ltb 0 (e p) h.some))
        (walk_best B better_irrefl better_trans better_total (executes is_buy limits qtys) (candidates is_buy limits qtys reserve))

    -- and so does the walk over any list of the orders' limits
    abbrev C : ℕ → Bool
    C = counts is_buy limits qtys reserve

    any_walk_best : (rows : List ℕ) → ((x : ℕ) → Member x rows ↔ Member x limits) → Right (walk C B none rows)
    unfolding executes
    any_walk_best rows same =
        best_of B (Counted C rows) (Executes is_buy limits qtys reserve) (walk C B none rows)
        (λ p h. let t = both (leb reserve p) (ltb 0 (e p)) h.1 in record { limit = (same p).0 h.0; floor = leb-true reserve p t.0; some = ltb-true 0 (e p) t.1 })
        (λ p h. ((same p).1 h.limit, simp (le-leb reserve p h.floor, lt-ltb 0 (e p) h.some)))
        (walk_best B better_irrefl better_trans better_total C rows)

    pub any_walk : (rows : List ℕ) → ((x : ℕ) → Member x rows ↔ Member x limits) → walk C B none rows ≡ clear_price is_buy limits qtys reserve reference
    any_walk rows same =
        best_one B better_irrefl better_trans better_total (Executes is_buy limits qtys reserve)
        (walk C B none rows) (clear_price is_buy limits qtys reserve reference) (any_walk_best rows same) clear_price_best

module _ (is_buy : List Bool) (limits qtys : List ℕ) (reserve reference : ℕ) where
  -- where nothing is refused, the answer is the price with its executed quantity
  pub no_refusal : price_refusal is_buy limits qtys ≡ 0
      → find_uniform_clear_price is_buy limits qtys reserve reference ≡ priced (executed is_buy limits qtys) (clear_price is_buy limits qtys reserve reference)
  unfolding find_uniform_clear_price
  no_refusal z = rw (eq-eqb (price_refusal is_buy limits qtys) 0 z)

-- lists of one length, of at most max_orders places, are not refused
pub book_accepted : (is_buy : List Bool) (limits qtys : List ℕ) → length is_buy ≤ max_orders → length limits ≡ length is_buy → length qtys ≡ length is_buy → price_refusal is_buy limits qtys ≡ 0
unfolding price_refusal unless first_of
book_accepted is_buy limits qtys few limits_too qtys_too =
    simp (le-leb (length is_buy) max_orders few, eq-eqb (length limits) (length is_buy) limits_too, eq-eqb (length qtys) (length is_buy) qtys_too)

-- and the other way round
pub accepted_book : (is_buy : List Bool) (limits qtys : List ℕ) → price_refusal is_buy limits qtys ≡ 0 → (length is_buy ≤ max_orders) × (length limits ≡ length is_buy) × (length qtys ≡ length is_buy)
unfolding price_refusal
accepted_book is_buy limits qtys z =
    let first = check_zero _ _ _ z in
    let second = check_zero _ _ _ first.1 in
    (leb-true (length is_buy) max_orders first.0, eqb-true (length limits) (length is_buy) second.0, eqb-true (length qtys) (length is_buy) (unless_zero _ _ second.1))
