-- 'Session file': the marks, and what each says of its record.
use Rattle.std.specs.Prelude.{ℕ, ◌+◌, ◌*◌, Bool, if◌then◌else◌, ◌&&◌, List, [], ◌∷◌, ◌==◌, nat_le, nat_lt}
use Prim.Native.Char.{Char, code}
use Rattle.session_file.specs.declared.records.Mark.{Mark}
use Rattle.session_file.specs.declared.records.Mark.TheVariants.{Unknown, SH, SI, OR, SC, CL, AL, RX, RC, ST, SK, FN, EX}

-- 'Each record has a two-byte ASCII mark', read as one little-endian number
abbrev pub letters : Char → Char → ℕ
letters a b = code a + 256 * code b

unfoldable pub mark_of : ℕ → Mark
mark_of m =
    if m == letters "S" "H" then SH
    else if m == letters "S" "I" then SI
    else if m == letters "O" "R" then OR
    else if m == letters "S" "C" then SC
    else if m == letters "C" "L" then CL
    else if m == letters "A" "L" then AL
    else if m == letters "R" "X" then RX
    else if m == letters "R" "C" then RC
    else if m == letters "S" "T" then ST
    else if m == letters "S" "K" then SK
    else if m == letters "F" "N" then FN
    else if m == letters "E" "X" then EX
    else Unknown

-- the kinds of records, in the order in which they stand in a file
abbrev pub no_kind : ℕ
no_kind = 0

abbrev pub header_kind : ℕ
header_kind = 1

abbrev pub order_kind : ℕ
order_kind = 2

abbrev pub call_kind : ℕ
call_kind = 3

-- what a mark says of its record: its kind, how many bytes it has in all, and which of them are flags: 'Forced, revealed and has-id are 0 or 1',
-- and the mark too
pub record Shape : Type 0 where
  pub kind : ℕ
  pub width : ℕ
  pub flags : List ℕ

abbrev pub shape : (kind width : ℕ) (flags : List ℕ) → Shape
shape kind width flags = record { kind = kind; width = width; flags = flags }

unfoldable pub shape_of : Mark → Shape
shape_of Unknown = shape no_kind 2 []
shape_of SH = shape header_kind 94 (35 ∷ 68 ∷ [])
shape_of SI = shape header_kind 95 (35 ∷ 68 ∷ [])
shape_of OR = shape order_kind 60 (43 ∷ [])
shape_of SC = shape call_kind 30 (13 ∷ [])
shape_of CL = shape call_kind 10 []
shape_of AL = shape call_kind 11 []
shape_of RX = shape call_kind 54 []
shape_of RC = shape call_kind 42 []
shape_of ST = shape call_kind 6 []
shape_of SK = shape call_kind 15 []
shape_of FN = shape call_kind 10 []
shape_of EX = shape call_kind 10 []

-- 'One `SH` first, then `OR` records, then calls': a header, `SH` or `SI`, stands first, any other record after a header and after no record of a later kind.
-- before is the kind of the record before, no_kind at the start
unfoldable pub in_place : (before kind : ℕ) → Bool
in_place before kind = if kind == header_kind then before == no_kind else nat_lt 0 before && nat_le before kind
