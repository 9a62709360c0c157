-- The worked examples that document 01 marks for proof, as one table. proofs/Examples.antt proves it.
use Rattle.std.specs.Prelude.{◌≡◌, Bool, true, false, List, [], ◌∷◌, ℕ, length, replicate}
use Rattle.credit_math.specs.Error.{no_cross}
use Rattle.credit_math.specs.Price.{Found, failed, cross, find_uniform_clear_price}
use Rattle.credit_math.specs.ProRata.{pro_rata_refusal, allocate_pro_rata}
use Rattle.disclosure.specs.Disclosure.{band_answer}

pub data Example : Type 0 where
  -- the search finds this
  price : (is_buy : List Bool) (limits qtys : List ℕ) (reserve reference : ℕ) → Found → Example
  -- pro-rata writes these lots
  lots_of : (total : ℕ) (ids qtys : List ℕ) → List ℕ → Example
  -- pro-rata refuses with this number
  refused_by : (total : ℕ) (ids qtys : List ℕ) → ℕ → Example
  -- the band of the price p is this
  band_of : (p band_bps : ℕ) → ℕ → Example

abbrev pub Holds : Example → Type 0
Holds (price is_buy limits qtys reserve reference answer) = find_uniform_clear_price is_buy limits qtys reserve reference ≡ answer
Holds (lots_of total ids qtys answer) = allocate_pro_rata ids qtys total (replicate (length qtys) 0) ≡ answer
Holds (refused_by total ids qtys number) = pro_rata_refusal ids qtys (length qtys) total ≡ number
Holds (band_of p band_bps answer) = band_answer p band_bps ≡ record { refusal = 0; price = answer }

abbrev pub All : List Example → Type 0
All [] = Unit
All (e ∷ l) = Holds e × All l

-- buy 5 at 10 against sell 5 at 8
abbrev pub pair : (reserve reference : ℕ) → Found → Example
pair reserve reference answer = price (true ∷ false ∷ []) (10 ∷ 8 ∷ []) (5 ∷ 5 ∷ []) reserve reference answer

abbrev pub examples : List Example
examples =
    -- case L's price and volume
    price (true ∷ true ∷ false ∷ false ∷ []) (12 ∷ 11 ∷ 9 ∷ 11 ∷ []) (5 ∷ 3 ∷ 4 ∷ 3 ∷ []) 9 10 (cross 11 7)
    ∷ lots_of 7 (0 ∷ 1 ∷ []) (5 ∷ 3 ∷ []) (5 ∷ 2 ∷ [])
    ∷ refused_by 1 [] [] 28
    ∷ refused_by 9 (0 ∷ 1 ∷ []) (5 ∷ 3 ∷ []) 29
    ∷ lots_of 2 (7 ∷ 3 ∷ 5 ∷ []) (1 ∷ 1 ∷ 1 ∷ []) (0 ∷ 1 ∷ 1 ∷ [])
    ∷ pair 0 9 (cross 8 5)
    ∷ pair 0 10 (cross 10 5)
    ∷ pair 9 9 (cross 10 5)
    ∷ pair 11 9 (failed no_cross)
    ∷ band_of 11 2500 10
    ∷ band_of 11 0 11
    ∷ band_of 11 10000 11
    ∷ []
