-- `single_calls::image::fills_in` meets its contract. The loop's invariant: the fills passed are read.
use Rattle.laws.proofs.Lists.{Writing}
use Rattle.book.specs.Limits.{max_fills}
use Rattle.book.specs.Book.{no_fill}
use Rattle.single_calls.specs.Image.{fill_in}
use Rattle.single_calls.proofs.image.fills_in.Given as goal

abbrev pub invariant-loop-i : goal.invariant-loop-i
invariant-loop-i l = Writing (fill_in l.block) no_fill max_fills l.i l.fills
