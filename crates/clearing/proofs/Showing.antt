-- The loop over the parts of a listing: each leaves fewer, and lies within the buffer. Assumes nothing.
use mathlib.Core.Path.{◌≡◌}
use mathlib.Core.Bool.{false}
use mathlib.Core.List.{List}
use Prim.Native.Nat.{ℕ, ◌≤◌, ◌<◌}
use lib.ListN.{length}
use borrow.Author.Tests.{eq-eqb}
use Rattle.std.specs.Prelude.{Result, Ok}
use Rattle.refusals.specs.declared.Refusal.{Refusal}
use Rattle.listing.specs.Lines.{max_record}
use Rattle.octets.specs.Writing.{Writes}
use Rattle.octets.proofs.Answers.{answer_small}
use Rattle.session_file.specs.declared.parts.Cursor.{Cursor}
use Rattle.session_file.specs.declared.parts.Part.{Part}
use Rattle.session_file.specs.Parts.{PartPut}
use Rattle.session_file.proofs.PartByPart.{parts_left}
use Rattle.session_file.proofs.PartByPart.{parts_fewer}

pub showing_less : (input : List ℕ) {s : Cursor} {r : Part} {before left : List ℕ} → s.ended ≡ false → max_record ≤ length before → PartPut input s r before left
    → parts_left input r.cursor < parts_left input s
showing_less input {s} h room p = rw (p.cursor, eq-eqb _ 0 (p.fits room)) (parts_fewer input s h)

-- what a writer says that it wrote lies within the buffer
pub written_within : {text before left : List ℕ} {w : Result ℕ Refusal} {n : ℕ} → w ≡ Ok n → Writes text w before left → length left ≡ length before → n ≤ length left
written_within e v same = rw same (answer_small (rw e at v)).1
