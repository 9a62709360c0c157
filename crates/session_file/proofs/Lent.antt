-- A writer that is lent the part of an output from a place on: what its answer says, and what it leaves in the whole.
-- Assumes nothing.
use Rattle.std.proofs.Common.{◌≡◌, ℕ, ◌+◌, ◌-◌, ◌<◌, ◌≤◌, Bool, true, false, cond, leb, List, [], ◌++◌, length, take, drop, sym, refl, ◌∙◌, append-nil, zero-add, arith, length-append, length-drop, drop_of_length-le, length-take-le, take_all, drop-drop, leb-false, leb-true}
use Rattle.std.specs.Prelude.{Result, Ok, Err}
use Rattle.refusals.specs.declared.Refusal.{Refusal}
use Rattle.refusals.specs.declared.Refusal.TheVariants.{OutputTooSmall}
use Rattle.octets.specs.Writing.{splice, written, after, Writes}
use Rattle.octets.specs.Puts.{Puts}

-- ---- by its answer, a text stands at the start of the part, or is longer than it
module _ {text before left : List ℕ} {w : Result ℕ Refusal} (v : Writes text w before left) where
  pub fits : {n : ℕ} → w ≡ Ok n → (length text ≤ length before) × Puts text 0 n before left
  unfolding written after
  fits {n} z = go (leb (length text) (length before)) refl v.answer v.bytes
    where
      go : (t : Bool) → leb (length text) (length before) ≡ t → w ≡ cond t (Ok (length text)) (Err OutputTooSmall)
          → left ≡ cond t (splice 0 text before) before → (length text ≤ length before) × Puts text 0 n before left
      go true e a b = let l : n ≡ length text = cc in (leb-true (length text) (length before) e, record { place = l ∙ sym (zero-add (length text)); bytes = b })
      go false e a b = absurd cc

  pub longer : {r : Refusal} → w ≡ Err r → (length before < length text) × (w ≡ Err OutputTooSmall)
  unfolding written
  longer {r} z = go (leb (length text) (length before)) refl v.answer
    where
      go : (t : Bool) → leb (length text) (length before) ≡ t → w ≡ cond t (Ok (length text)) (Err OutputTooSmall)
          → (length before < length text) × (w ≡ Err OutputTooSmall)
      go true e a = absurd cc
      go false e a = (leb-false (length text) (length before) e, a)

-- ---- the whole, after its part from at on was lent, and left so
abbrev pub lent : (at k : ℕ) (whole left : List ℕ) → List ℕ
lent at k whole left = take at whole ++ (left ++ drop k (drop at whole))

module _ (at k : ℕ) (whole : List ℕ) (kept : k ≡ length whole - at) where
  pub to_end : take k (drop at whole) ≡ drop at whole
  to_end = take_all k (drop at whole) (rw (length-drop, kept) (omega arith))

  nothing_after : drop k (drop at whole) ≡ []
  nothing_after = drop_of_length-le (drop at whole) {i = k} (rw (length-drop, kept) (omega arith))

  -- what is put at the part's start is put at its place in the whole
  pub puts_lent : {text : List ℕ} {n : ℕ} {left : List ℕ} → Puts text 0 n (take k (drop at whole)) left → Puts text at (at + n) whole (lent at k whole left)
  puts_lent p = record { place = rw (p.place, zero-add); bytes = rw (nothing_after, append-nil, p.bytes, to_end, zero-add, drop-drop) }

  -- and the whole stays as long as it is
  pub length_lent : (left : List ℕ) → at ≤ length whole → length left ≡ length (take k (drop at whole)) → length (lent at k whole left) ≡ length whole
  length_lent left h same =
      let f : length left ≡ length whole - at = same ∙ rw (to_end, length-drop) in
      rw (nothing_after, append-nil, length-append) (omega (arith, length-take-le at whole h))
