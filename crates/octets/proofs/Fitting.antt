-- A text put at a place where it fits: it is written there, and the other way round.
use mathlib.Core.List.{List}
use Prim.Native.Nat.{ℕ, ◌+◌, ◌≤◌}
use native.Mathlib.Omega.{arith}
use lib.ListN.{length}
use borrow.Author.Tests.{le-leb}
use Rattle.octets.specs.Writing.{PutAt}
use Rattle.octets.specs.Puts.{Puts}

module _ {text : List ℕ} {at next : ℕ} {before left : List ℕ} where
  -- what is written where it fits is put
  pub put_where : Puts text at next before left → at + length text ≤ length before → PutAt text at next before left
  put_where w h = let fits = le-leb (at + length text) (length before) h in record { place = rw fits w.place; bytes = rw fits w.bytes }

  -- what is put where it fits is written
  pub puts_at : PutAt text at next before left → at + length text ≤ length before → Puts text at next before left
  puts_at p h = let fits = le-leb (at + length text) (length before) h in record { place = rw fits at p.place; bytes = rw fits at p.bytes }

  -- the same where n bytes are enough, and n bytes stand from the place on
  pub puts_room : {n : ℕ} → PutAt text at next before left → length text ≤ n → at + n ≤ length before → Puts text at next before left
  puts_room p small h = puts_at p (omega arith)
