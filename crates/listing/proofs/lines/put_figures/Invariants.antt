-- The loop's invariant: the first figures are written, each in at most 21 bytes.
use Rattle.std.proofs.Common.{◌+◌, ◌*◌, ◌≤◌, take}
use Rattle.octets.specs.Decimal.{max_digits}
use Rattle.octets.specs.Puts.{Puts}
use Rattle.listing.specs.Lines.{fields}
use Rattle.listing.proofs.lines.put_figures.Given as goal

abbrev pub invariant-loop-figure : goal.invariant-loop-figure
invariant-loop-figure l =
    (l.k ≤ l.at + (1 + max_digits) * l.figure-index) × Puts (fields (take l.figure-index l.figures)) l.at l.k l.initial.out l.out
