-- A number that is no mark's.
-- Assumes nothing.
use Rattle.std.proofs.Common.{◌≡◌, ℕ, ◌≢◌, ne_eqb}
use Rattle.session_file.specs.declared.records.Mark.TheVariants.{Unknown}
use Rattle.session_file.specs.Marks.{letters, mark_of}

-- none of the twelve
abbrev pub NoMark : ℕ → Type 0
NoMark m =
    (((((((((((Unit × (m ≢ letters "S" "H")) × (m ≢ letters "S" "I")) × (m ≢ letters "O" "R")) × (m ≢ letters "S" "C")) × (m ≢ letters "C" "L"))
    × (m ≢ letters "A" "L")) × (m ≢ letters "R" "X")) × (m ≢ letters "R" "C")) × (m ≢ letters "S" "T"))
    × (m ≢ letters "S" "K")) × (m ≢ letters "F" "N")) × (m ≢ letters "E" "X")

pub mark_none : (m : ℕ) → NoMark m → mark_of m ≡ Unknown
unfolding mark_of
mark_none m h =
    rw (
      ne_eqb m (letters "S" "H") h.0.0.0.0.0.0.0.0.0.0.0.1,
      ne_eqb m (letters "S" "I") h.0.0.0.0.0.0.0.0.0.0.1,
      ne_eqb m (letters "O" "R") h.0.0.0.0.0.0.0.0.0.1,
      ne_eqb m (letters "S" "C") h.0.0.0.0.0.0.0.0.1,
      ne_eqb m (letters "C" "L") h.0.0.0.0.0.0.0.1,
      ne_eqb m (letters "A" "L") h.0.0.0.0.0.0.1,
      ne_eqb m (letters "R" "X") h.0.0.0.0.0.1,
      ne_eqb m (letters "R" "C") h.0.0.0.0.1,
      ne_eqb m (letters "S" "T") h.0.0.0.1,
      ne_eqb m (letters "S" "K") h.0.0.1,
      ne_eqb m (letters "F" "N") h.0.1,
      ne_eqb m (letters "E" "X") h.1,
    )
