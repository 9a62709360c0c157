-- `Wide::is_zero` meets its contract. A number is 0 where both of its words are.
use Rattle.std.proofs.Common.{◌≡◌, ℕ, zero, suc, ◌/◌, ◌%◌, ◌^◌, ◌&&◌, eqb, refl, sym, ap, ◌∙◌, ne_eqb, div-add-mod', arith}
use lib.Dec.{eqb-suc-zero}
use Rattle.wide.specs.Value.{digits}
use Rattle.wide.proofs.Laws.{zero_low, zero_high}
use Rattle.wide.proofs.Wide.is_zero.Goals as goal

both_zero : (h l : ℕ) → (eqb h 0 && eqb l 0) ≡ eqb (digits 64 h l) 0
both_zero zero l = ap (λ (n : ℕ). eqb n 0) (zero_low 64 0 l refl)
both_zero (suc h) l = rw eqb-suc-zero (sym (ne_eqb (digits 64 (suc h) l) 0 (λ e. absurd (omega (arith, zero_high 64 (suc h) l e)))))

pub returns : goal.returns
returns c =
    let s = c.args.self in
    rw (c.eq.ensures, c.from.ensures) (both_zero (s / 2 ^ 64) (s % 2 ^ 64) ∙ ap (λ (n : ℕ). eqb n 0) (div-add-mod' s (2 ^ 64)))
