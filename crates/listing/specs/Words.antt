-- The words of the listing, as bytes of ASCII.
use Rattle.std.specs.Prelude.{List, [], ◌∷◌, ℕ}

-- open
abbrev pub open_word : List ℕ
open_word = 111 ∷ 112 ∷ 101 ∷ 110 ∷ []

-- order
abbrev pub order_word : List ℕ
order_word = 111 ∷ 114 ∷ 100 ∷ 101 ∷ 114 ∷ []

-- screen
abbrev pub screen_word : List ℕ
screen_word = 115 ∷ 99 ∷ 114 ∷ 101 ∷ 101 ∷ 110 ∷ []

-- clear
abbrev pub clear_word : List ℕ
clear_word = 99 ∷ 108 ∷ 101 ∷ 97 ∷ 114 ∷ []

-- failed
abbrev pub failed_word : List ℕ
failed_word = 102 ∷ 97 ∷ 105 ∷ 108 ∷ 101 ∷ 100 ∷ []

-- fill
abbrev pub fill_word : List ℕ
fill_word = 102 ∷ 105 ∷ 108 ∷ 108 ∷ []

-- rofr
abbrev pub rofr_word : List ℕ
rofr_word = 114 ∷ 111 ∷ 102 ∷ 114 ∷ []

-- close
abbrev pub close_word : List ℕ
close_word = 99 ∷ 108 ∷ 111 ∷ 115 ∷ 101 ∷ []

-- settle
abbrev pub settle_word : List ℕ
settle_word = 115 ∷ 101 ∷ 116 ∷ 116 ∷ 108 ∷ 101 ∷ []

-- skip
abbrev pub skip_word : List ℕ
skip_word = 115 ∷ 107 ∷ 105 ∷ 112 ∷ []

-- print
abbrev pub print_word : List ℕ
print_word = 112 ∷ 114 ∷ 105 ∷ 110 ∷ 116 ∷ []

-- phase
abbrev pub phase_word : List ℕ
phase_word = 112 ∷ 104 ∷ 97 ∷ 115 ∷ 101 ∷ []

-- refused
abbrev pub refused_word : List ℕ
refused_word = 114 ∷ 101 ∷ 102 ∷ 117 ∷ 115 ∷ 101 ∷ 100 ∷ []

-- none
abbrev pub none_word : List ℕ
none_word = 110 ∷ 111 ∷ 110 ∷ 101 ∷ []

-- end
abbrev pub end_word : List ℕ
end_word = 101 ∷ 110 ∷ 100 ∷ []

-- unrevealed
abbrev pub unrevealed_word : List ℕ
unrevealed_word = 117 ∷ 110 ∷ 114 ∷ 101 ∷ 118 ∷ 101 ∷ 97 ∷ 108 ∷ 101 ∷ 100 ∷ []

-- excluded
abbrev pub excluded_word : List ℕ
excluded_word = 101 ∷ 120 ∷ 99 ∷ 108 ∷ 117 ∷ 100 ∷ 101 ∷ 100 ∷ []

-- priced
abbrev pub priced_word : List ℕ
priced_word = 112 ∷ 114 ∷ 105 ∷ 99 ∷ 101 ∷ 100 ∷ []

-- share
abbrev pub share_word : List ℕ
share_word = 115 ∷ 104 ∷ 97 ∷ 114 ∷ 101 ∷ []

-- residue
abbrev pub residue_word : List ℕ
residue_word = 114 ∷ 101 ∷ 115 ∷ 105 ∷ 100 ∷ 117 ∷ 101 ∷ []

abbrev pub space : ℕ
space = 32

abbrev pub newline : ℕ
newline = 10
