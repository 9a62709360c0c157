-- The records of a file, in order, from its bytes alone.
use Rattle.std.specs.Prelude.{ℕ, zero, suc, if◌then◌else◌, List, [], ◌∷◌, length, take, drop, ◌==◌, nat_le, nat_lt}
use Rattle.laws.specs.Checks.{unless, ◌then◌}
use Rattle.session_file.specs.declared.records.Mark.{Mark}
use Rattle.octets.specs.Bytes.{word}
use Rattle.session_file.specs.Marks.{mark_of, Shape, shape_of, in_place, no_kind}
use Rattle.session_file.specs.Fields.{Read, refused, fields_of}

-- rest is what is left of a file, from a record's mark on: the mark, its shape, and the record's own bytes
abbrev pub mark_at : (rest : List ℕ) → Mark
mark_at rest = mark_of (word 2 rest 0)

abbrev pub shape_at : (rest : List ℕ) → Shape
shape_at rest = shape_of (mark_at rest)

abbrev pub record_at : (rest : List ℕ) → List ℕ
record_at rest = take (shape_at rest).width rest

-- each flag is 0 or 1, else 4
unfoldable pub flags_refusal : (rec : List ℕ) (flags : List ℕ) → ℕ
flags_refusal rec [] = 0
flags_refusal rec (i ∷ flags) = unless (nat_le (word 1 rec i) 1) 4 then flags_refusal rec flags

-- 'Each record' | 1 no whole mark; 2 unknown mark; 3 out of order; 1 body cut; 4 a flag outside its values
unfoldable pub reading_refusal : (before : ℕ) (rest : List ℕ) → ℕ
reading_refusal before rest =
    unless (nat_le 2 (length rest)) 1
    then unless (nat_lt 0 (shape_at rest).kind) 2
    then unless (in_place before (shape_at rest).kind) 3
    then unless (nat_le (shape_at rest).width (length rest)) 1
    then flags_refusal (record_at rest) (shape_at rest).flags

-- what reading finds next: the refusal, or the record's fields
unfoldable pub read_next : (before : ℕ) (rest : List ℕ) → Read
read_next before rest =
    if reading_refusal before rest == 0 then fields_of (mark_at rest) (record_at rest) else refused (reading_refusal before rest)

-- the records that are left, while bytes are left; after a refusal nothing is read. n is at least the number of bytes left, and each record
-- takes one or more
unfoldable pub reads_from : (n before : ℕ) (rest : List ℕ) → List Read
reads_from zero before rest = []
reads_from (suc n) before rest =
    if nat_lt 0 (length rest)
    then read_next before rest ∷ (if reading_refusal before rest == 0 then reads_from n (shape_at rest).kind (drop (shape_at rest).width rest) else [])
    else []

-- the records of a file; a refusal of reading is the last
abbrev pub reads : List ℕ → List Read
reads s = reads_from (length s) no_kind s
