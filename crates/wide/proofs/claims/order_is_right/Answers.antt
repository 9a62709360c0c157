-- The derived order of the words is that of the numbers.
use Rattle.std.proofs.Common.{◌/◌, ◌%◌, ◌^◌, div-add-mod', arith}
use Rattle.wide.proofs.Laws.{compares}
use Rattle.wide.proofs.claims.order_is_right.Goals as goal

pub returns : goal.returns
returns c = λ a b _ _.
    let by_words = compares 64 (a / 2 ^ 64) (a % 2 ^ 64) (b / 2 ^ 64) (b % 2 ^ 64) (omega arith) (omega arith) in
    rw (div-add-mod' a (2 ^ 64), div-add-mod' b (2 ^ 64)) at by_words
