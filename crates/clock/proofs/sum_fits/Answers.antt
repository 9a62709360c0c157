-- `clock::sum_fits` meets its contract: the checked sum is some exactly where it fits.
use mir.Facts.{to_z-of_z}
use Rattle.std.proofs.Common.{◌∙◌}
use Rattle.clock.specs.Clock.{sum_fits}
use Rattle.clock.proofs.Laws.{some_where_fits}
use Rattle.clock.proofs.sum_fits.Goals as goal

pub returns : goal.returns
unfolding sum_fits
returns c = c.is_some.ensures ∙ some_where_fits _ _ (rw (to_z-of_z c.ranges.a, to_z-of_z c.ranges.b) at c.checked_add.ensures)
