-- `octets::reading::bytes_at` meets its contract: N bytes of the rest, or the rest with zeros behind it.
use Rattle.std.proofs.Common.{◌≡◌, ℕ, ◌<◌, List, ◌++◌, length, drop, arith}
use Rattle.std.proofs.lemmas.Grind.{common_steps}
use Rattle.std.proofs.Math.ListN.{replicate}
use Rattle.laws.proofs.Lists.{is_table}
use Rattle.octets.specs.Bytes.{bytes_at}
use Rattle.octets.proofs.reading.bytes_at.Goals as goal

-- the rest of a list, with zeros behind it
padded : (s t : List ℕ) (at n : ℕ) → t ≡ drop at s → length t < n → t ++ drop (length t) (replicate n 0) ≡ bytes_at n s at
padded s t at n e h = is_table _ n 0 _ (grind (arith, common_steps)) (λ k l. grind (arith, common_steps))

pub returns-in-Some : goal.returns-in-Some
returns-in-Some g c = is_table _ _ 0 _ (grind (arith, common_steps)) (λ k h. grind (arith, common_steps))

pub returns : goal.returns
returns g c =
    let e = padded c.args.rec.now c.unwrap_or-past.result.now c.args.at g.row.N (grind (arith, common_steps)) (grind (arith, common_steps)) in
    cc
