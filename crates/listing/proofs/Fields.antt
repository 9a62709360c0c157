-- The figures of a line one after the other, and the whole line.
use mathlib.Core.Path.{◌≡◌, refl}
use mathlib.Core.List.{List, [], ◌∷◌, ◌++◌, append_assoc}
use Prim.Native.Nat.{ℕ, ◌+◌, ◌<◌, ◌≤◌}
use native.Mathlib.Omega.{arith}
use lib.ListN.{length, get_or, take, set}
use Rattle.std.specs.List.{flat_map}
use Rattle.std.proofs.lemmas.List.{take_all, take_more, flat_map_more}
use Rattle.octets.specs.Decimal.{decimal}
use Rattle.octets.specs.Puts.{Puts}
use Rattle.octets.proofs.Spliced.{puts_puts, puts_byte}
use Rattle.listing.specs.Words.{space, newline}
use Rattle.listing.specs.Lines.{fields, line}

-- lists joined: one more of the first
pub flat_more : {X Y : Type 0} (f : X → List Y) (i : ℕ) (l : List X) (d : X) → i < length l
    → flat_map f (take (i + 1) l) ≡ flat_map f (take i l) ++ f (get_or l i d)
flat_more f i l d h = rw (take_more l i d h, ← flat_map_more f [] (take i l)) refl

-- the figures as std joins lists
fields_flat : (l : List ℕ) → fields l ≡ flat_map (λ n. space ∷ decimal n) l
unfolding fields
fields_flat [] = refl
fields_flat (n ∷ ns) = rw (fields_flat ns) refl

-- one more of the first figures
fields_more : (i : ℕ) (l : List ℕ) → i < length l → fields (take (i + 1) l) ≡ fields (take i l) ++ (space ∷ decimal (get_or l i 0))
fields_more i l h = rw (fields_flat (take (i + 1) l), fields_flat (take i l)) (flat_more (λ n. space ∷ decimal n) i l 0 h)

-- one figure after those before it
pub puts_field : (i : ℕ) (l : List ℕ) {at k s : ℕ} {e e' e'' : List ℕ} → Puts (fields (take i l)) at k e e'
    → Puts (decimal (get_or l i 0)) (k + 1) s (set e' k space) e'' → i < length l → k < length e' → at ≤ length e → Puts (fields (take (i + 1) l)) at s e e''
puts_field i l {at} {k} {s} {e} {e'} {e''} p d hi hk ha = rw (fields_more i l hi) (puts_puts p (puts_puts (puts_byte k space e' hk) d (omega arith)) ha)

-- all of them, and the newline
pub puts_end : (i : ℕ) (l : List ℕ) {at k : ℕ} {e e' : List ℕ} → Puts (fields (take i l)) at k e e' → length l ≤ i → k < length e' → at ≤ length e
    → Puts (fields l ++ newline ∷ []) at (k + 1) e (set e' k newline)
puts_end i l {k = k} {e' = e'} p all hk ha = puts_puts (rw (take_all i l all) at p) (puts_byte k newline e' hk) ha

-- a line
pub puts_line : (number : ℕ) (word nums : List ℕ) {k m r : ℕ} {e e₁ e₂ e₃ : List ℕ} → Puts (decimal number) 0 k e e₁
    → Puts word (k + 1) m (set e₁ k space) e₂ → Puts (fields nums ++ newline ∷ []) m r e₂ e₃ → k < length e₁ → Puts (line number word nums) 0 r e e₃
unfolding line
puts_line number word nums {k = k} {e₁ = e₁} d w f hk =
    let start = puts_puts (puts_puts d (puts_byte k space e₁ hk) (omega arith)) w (omega arith) in
    rw (append_assoc _ (fields nums) (newline ∷ [])) (puts_puts start f (omega arith))
