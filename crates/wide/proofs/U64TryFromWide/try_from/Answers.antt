-- A number of two words fits one where its upper word is 0, and is then its lower word.
use Rattle.std.proofs.Common.{◌≡◌, ◌^◌, true, false, ltb, Ok, sym, ap, ◌∙◌, eq-eqb, ne_eqb}
use Rattle.wide.specs.Value.{digits}
use Rattle.wide.proofs.Laws.{zero_low, fits_low}
use Rattle.wide.proofs.U64TryFromWide.try_from.Goals as goal

pub returns-then-w-eq0 : goal.returns-then-w-eq0
returns-then-w-eq0 c =
    let w = c.w.inside in
    let fits : ltb (digits 64 w.hi w.lo) (2 ^ 64) ≡ true = sym (fits_low 64 _ _ c.w.invariant.1) ∙ eq-eqb _ 0 c.if-w-eq0.true in
    rw (← c.w.view_is, fits) (ap Ok (zero_low 64 _ _ c.if-w-eq0.true))

pub returns-else-w-eq0 : goal.returns-else-w-eq0
returns-else-w-eq0 c =
    let w = c.w.inside in
    let wider : ltb (digits 64 w.hi w.lo) (2 ^ 64) ≡ false = sym (fits_low 64 _ _ c.w.invariant.1) ∙ ne_eqb _ 0 c.if-w-eq0.false in
    rw (← c.w.view_is, wider)
