-- The refusals of the row 'Public pro-rata and price search', and NoCross, by number.
use Rattle.std.specs.Prelude.{ℕ}

-- 28: a total above 0 with sum 0
abbrev pub invalid_input : ℕ
invalid_input = 28

-- 29: a total above the sum
abbrev pub over_allocation : ℕ
over_allocation = 29

-- 30: over 16 entries, or lent slices of unequal length
abbrev pub bad_length : ℕ
bad_length = 30

-- 'NoCross 2': no candidate executes anything
abbrev pub no_cross : ℕ
no_cross = 2
