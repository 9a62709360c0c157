-- A record's lines: those of its events one after the other.
use mathlib.Core.Path.{◌≡◌, refl}
use mathlib.Core.List.{List, [], ◌∷◌, ◌++◌}
use Prim.Native.Nat.{ℕ, ◌+◌, ◌^◌, ◌<◌, ◌≤◌}
use native.Mathlib.Omega.{arith}
use lib.ListN.{length, get_or, take, length-append}
use Rattle.std.specs.List.{flat_map}
use Rattle.std.proofs.lemmas.List.Folds.{length-flat_map-take}
use Rattle.events.specs.declared.Event.{Event}
use Rattle.events.specs.declared.Event.TheVariants.{Nothing}
use Rattle.octets.specs.Puts.{Puts}
use Rattle.octets.proofs.Decimal.{most_digits}
use Rattle.octets.proofs.Spliced.{puts_puts}
use Rattle.listing.specs.Words.{none_word}
use Rattle.listing.specs.Lines.{fields, line, event_line, event_lines, max_line}
use Rattle.listing.proofs.Fields.{flat_more}

-- the event at a place, as an index reads it
abbrev pub event_at : List Event → ℕ → Event
event_at l i = get_or l i Nothing

-- the lines as std joins lists
lines_flat : (number : ℕ) (l : List Event) → event_lines number l ≡ flat_map (event_line number) l
unfolding event_lines
lines_flat number [] = refl
lines_flat number (e ∷ es) = rw (lines_flat number es) refl

-- one more of the first events' lines, which are no longer than all
pub lines_more : (number i : ℕ) (l : List Event) → i < length l
    → event_lines number (take (i + 1) l) ≡ event_lines number (take i l) ++ event_line number (event_at l i)
lines_more number i l h =
    rw (lines_flat number (take (i + 1) l), lines_flat number (take i l)) (flat_more (event_line number) i l Nothing h)

pub lines_within : (number i : ℕ) (l : List Event) → i < length l
    → length (event_lines number (take i l)) + length (event_line number (event_at l i)) ≤ length (event_lines number l)
lines_within number i l h = rw (lines_flat number (take i l), lines_flat number l) (length-flat_map-take (event_line number) l i Nothing h)

pub lengths_more : (number i : ℕ) (l : List Event) → i < length l
    → length (event_lines number (take (i + 1) l)) ≡ length (event_lines number (take i l)) + length (event_line number (event_at l i))
lengths_more number i l h = rw (lines_more number i l h) (length-append (event_lines number (take i l)) (event_line number (event_at l i)))

-- one event's line after those before it
pub puts_event : (number i : ℕ) (l : List Event) {k r : ℕ} {e e' e'' : List ℕ} → Puts (event_lines number (take i l)) 0 k e e'
    → Puts (event_line number (event_at l i)) k r e' e'' → i < length l → Puts (event_lines number (take (i + 1) l)) 0 r e e''
puts_event number i l w v h = rw (lines_more number i l h) (puts_puts w v (omega arith))

-- `none` is short
pub none_short : (number : ℕ) → number < 2 ^ 64 → length (line number none_word []) ≤ max_line
unfolding line fields
none_short number h = simp length-append (omega (arith, most_digits number h))
