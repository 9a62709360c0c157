-- `Wide::div_rem` meets its contract. By 0 and of a smaller number the quotient is 0; numbers of one word are their lower words; a divisor of at least half of all numbers goes once; the rest is the long division.
use Rattle.std.proofs.Common.{◌≡◌, ℕ, ◌*◌, ◌≤◌, ap, ◌∙◌, arith}
use Rattle.std.proofs.lemmas.Grind.{common_steps}
use Rattle.wide.proofs.Laws.{zero_low, low_is}
use Rattle.wide.proofs.Long.{of_parts}
use Rattle.wide.proofs.Wide.div_rem.Goals as goal
use Rattle.wide.proofs.Wide.div_rem.Goals.{then-is_zero-via-then-is_zero, then-is_zero-via-else-is_zero+then-lt}

pub returns-then-is_zero-clause-division : goal.returns-then-is_zero-clause-division
returns-then-is_zero-clause-division c =
    elim c.then-is_zero.branch [
      | then-is_zero-via-then-is_zero w ↦ grind (arith, common_steps)
      | then-is_zero-via-else-is_zero+then-lt w ↦ of_parts _ _ _ (grind (arith, common_steps)) (omega (arith, ap (λ (x : ℕ). x * c.args.d) c.from.ensures))
    ]

pub returns-then-self-eq0-clause-division : goal.returns-then-self-eq0-clause-division
returns-then-self-eq0-clause-division c =
    let goes : c.args.d ≤ c.args.self = grind (arith, common_steps) in
    let all : c.self.inside.lo ≡ c.args.self = zero_low 64 _ _ c.if-self-eq0.true ∙ c.self.view_is in
    let word : c.d.inside.lo ≡ c.args.d = low_is 64 c.d.inside.hi _ (omega arith) ∙ c.d.view_is in
    record { quotient = c.from-then-self-eq0.ensures ∙ rw (all, word); rest = c.from-then-self-eq0-2.ensures ∙ rw (all, word) }

pub returns-then-d-ge9223372036854775808-clause-division : goal.returns-then-d-ge9223372036854775808-clause-division
returns-then-d-ge9223372036854775808-clause-division c =
    let goes : c.args.d ≤ c.args.self = grind (arith, common_steps) in
    of_parts _ _ _ (omega arith) (omega (arith, ap (λ (x : ℕ). x * c.args.d) c.from-then-d-ge9223372036854775808.ensures))
