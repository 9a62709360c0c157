-- Texts written over a part one after the other, and in what is left of it; the part stays as long as it is.
use mathlib.Core.Path.{◌≡◌, refl, sym}
use mathlib.Core.List.{List, [], ◌∷◌, ◌++◌, append_assoc}
use Prim.Native.Nat.{ℕ, ◌+◌, ◌-◌, ◌<◌, ◌≤◌}
use native.Mathlib.Nat.{add-zero, add_assoc}
use native.Mathlib.Numerals.{add-one}
use native.Mathlib.Omega.{arith}
use lib.ListN.{length, take, drop, set, length-append, length-drop, take-append-drop}
use lib.Seq.{length-take-le, take_at, drop_at, drop-drop, set_split}
use Rattle.std.proofs.lemmas.Grind.{common_steps}
use Rattle.octets.specs.Writing.{splice}
use Rattle.octets.specs.Puts.{Puts}

-- what stands before the rest, together
splice_front : (at : ℕ) (p e : List ℕ) → splice at p e ≡ (take at e ++ p) ++ drop (at + length p) e
splice_front at p e = sym (append_assoc (take at e) p (drop (at + length p) e))

-- its length
front_length : (at : ℕ) (p e : List ℕ) → at ≤ length e → length (take at e ++ p) ≡ at + length p
front_length at p e h = simp (length-append, length-take-le) (omega arith)

-- a text written after another, over what that one left
splice_splice : (at : ℕ) (p q e : List ℕ) → at ≤ length e → splice (at + length p) q (splice at p e) ≡ splice at (p ++ q) e
splice_splice at p q e h =
    let f : length (take at e ++ p) ≡ at + length p = front_length at p e h in
    rw (splice_front at p e, take_at (take at e ++ p) (drop (at + length p) e) (at + length p) f, ← drop-drop, drop_at (take at e ++ p) (drop (at + length p) e) (at + length p) f, drop-drop, append_assoc, append_assoc, length-append, add_assoc)

-- a part stays as long as it is
pub length_puts : {l : List ℕ} {at r : ℕ} {e e' : List ℕ} → Puts l at r e e' → at + length l ≤ length e → length e' ≡ length e
length_puts {l} {at} {r} {e} {e'} w h = rw w.bytes (simp (length-append, length-drop) (omega (arith, length-take-le at e (omega arith))))

-- nothing is written
pub puts_none : (at : ℕ) (e : List ℕ) → Puts [] at at e e
puts_none at e = record { place = sym (add-zero at); bytes = rw (add-zero at) (sym (take-append-drop at e)) }

-- one text after the other
pub puts_puts : {p q : List ℕ} {at r s : ℕ} {e e' e'' : List ℕ} → Puts p at r e e' → Puts q r s e' e'' → at ≤ length e → Puts (p ++ q) at s e e''
puts_puts {p} {q} {at} {r} {s} {e} {e'} {e''} w v h = record {
  place = rw (v.place, w.place, length-append, add_assoc);
  bytes = rw (v.bytes, w.place, w.bytes, splice_splice at p q e h);
}

-- one byte
pub puts_byte : (r v : ℕ) (e : List ℕ) → r < length e → Puts (v ∷ []) r (r + 1) e (set e r v)
puts_byte r v e h = record { place = refl; bytes = rw (set_split e r v h, add-one) }

-- what is put at the start of the part from a place on is put at that place of the whole
pub puts_part : (at : ℕ) (e : List ℕ) {l : List ℕ} {n : ℕ} {left : List ℕ} → Puts l 0 n (take (length e - at) (drop at e)) left
    → Puts l at (at + n) e (take at e ++ (left ++ drop (length e - at) (drop at e)))
puts_part at e p = record { place = grind (arith, common_steps); bytes = grind (arith, common_steps) }
