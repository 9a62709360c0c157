-- What the functions keep on the way. proofs/Walk.antt shows that it comes to the price search of credit_math.
use Rattle.std.specs.Prelude.{◌≡◌, Bool, if◌then◌else◌, ◌&&◌, List, ℕ, nat_le, Option}
use Rattle.credit_math.specs.Price.{Best, none, buy, sell, better, executes, walk}
use Rattle.credit_math.specs.Steps.{best, AllQuoted}
use Rattle.credit_math.specs.declared.allocation.Quote.{Quote}

-- the total of a side at p
abbrev pub side_total : List Bool → List ℕ → List ℕ → (buys : Bool) (p : ℕ) → ℕ
side_total is_buy limits qtys buys p = if buys then buy is_buy limits qtys p else sell is_buy limits qtys p

-- the best limit, going through the orders in their own sequence
unfoldable pub by_order : List Bool → List ℕ → List ℕ → (reserve reference : ℕ) → Best
by_order is_buy limits qtys reserve reference =
    walk (λ p. nat_le reserve p && executes is_buy limits qtys p) (better is_buy limits qtys reference) none limits

-- the quote of that limit
abbrev pub Found : List Bool → List ℕ → List ℕ → (reserve reference : ℕ) → Option Quote → Type 0
Found is_buy limits qtys reserve reference k =
    (best k ≡ by_order is_buy limits qtys reserve reference) × AllQuoted is_buy limits qtys reference k
