-- No mark but `SI` asks for cover. Assumes nothing.
use Rattle.std.proofs.Common.{◌≡◌, ℕ, ◌≢◌, List, refl, None, Option}
use Rattle.session_file.specs.declared.records.Mark.{Mark}
use Rattle.session_file.specs.declared.records.Mark.TheVariants.{Unknown, SH, SI, OR, SC, CL, AL, RX, RC, ST, SK, FN, EX}
use Rattle.session_file.specs.Fields.{Read, refused, header, order, call, fields_of}

-- what a record asks of escrows
abbrev pub cover_read : Read → Option ℕ
cover_read (refused number) = None
cover_read (header p g cover) = cover
cover_read (order row) = None
cover_read (call c) = None

pub unasked_read : (rec : List ℕ) (m : Mark) → m ≢ SI → None ≡ cover_read (fields_of m rec)
unfolding fields_of
unasked_read rec Unknown h = refl
unasked_read rec SH h = refl
unasked_read rec SI h = absurd (h refl)
unasked_read rec OR h = refl
unasked_read rec SC h = refl
unasked_read rec CL h = refl
unasked_read rec AL h = refl
unasked_read rec RX h = refl
unasked_read rec RC h = refl
unasked_read rec ST h = refl
unasked_read rec SK h = refl
unasked_read rec FN h = refl
unasked_read rec EX h = refl
