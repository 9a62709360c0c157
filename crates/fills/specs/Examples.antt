-- Worked examples of the number of fills: case L, zero lots, sides unequal in total, sums above 64 bits, and each refusal. proofs/Examples.antt
-- proves the table.
use Rattle.std.specs.Prelude.{◌≡◌, List, [], ◌∷◌, ℕ, ◌+◌, ◌-◌, ◌^◌, replicate}
use Rattle.credit_math.specs.Limits.{max_orders}
use Rattle.fills.specs.FillCount.{fill_count_answer}

pub record Example : Type 0 where
  pub lots : List ℕ
  pub sides : List ℕ
  pub refusal : ℕ
  pub count : ℕ

abbrev pub All : List Example → Type 0
All [] = Unit
All (e ∷ l) = (fill_count_answer e.lots e.sides ≡ record { refusal = e.refusal; count = e.count }) × All l

abbrev pub examples : List Example
examples =
    -- case L: sums 5, 7 and 4, 7
    record { lots = 5 ∷ 2 ∷ 4 ∷ 3 ∷ []; sides = 0 ∷ 0 ∷ 1 ∷ 1 ∷ []; refusal = 0; count = 3 }
    -- a zero lot has no sum
    ∷ record { lots = 0 ∷ 5 ∷ 0 ∷ 5 ∷ []; sides = 0 ∷ 0 ∷ 1 ∷ 1 ∷ []; refusal = 0; count = 1 }
    -- sums 1 and 2, 3: no refusal
    ∷ record { lots = 1 ∷ 2 ∷ 1 ∷ []; sides = 0 ∷ 1 ∷ 1 ∷ []; refusal = 0; count = 3 }
    -- sums 2^64 - 1, 2^65 - 2 and 2^64 - 2: cut at 64 bits the second would be the third
    ∷ record { lots = (2 ^ 64 - 1) ∷ (2 ^ 64 - 1) ∷ (2 ^ 64 - 2) ∷ []; sides = 0 ∷ 0 ∷ 1 ∷ []; refusal = 0; count = 3 }
    -- 30 comes before 4, and 4 also for a zero lot
    ∷ record { lots = 1 ∷ []; sides = []; refusal = 30; count = 0 }
    ∷ record { lots = replicate (max_orders + 1) 0; sides = replicate (max_orders + 1) 2; refusal = 30; count = 0 }
    ∷ record { lots = 0 ∷ []; sides = 2 ∷ []; refusal = 4; count = 0 }
    ∷ []
