-- The answers and the outputs of the file function and of the C entry, by the way they return.
-- Assumes nothing.
use Rattle.std.proofs.Common.{◌≡◌, ℕ, zero, suc, ◌-◌, ◌^◌, ◌<◌, ◌≤◌, Bool, true, false, cond, leb, ◌≢◌, List, length, replicate, pos, negsuc, ◌-ℤ◌, refl, arith, to_z-of_z, w64, SFits, to_z, of_z, lt-ltb, le-leb, leb-true}
use mir.Facts.{to_z_pos}
use borrow.Author.Tests.{lt-leb}
use Rattle.std.specs.Prelude.{Result, Ok, Err}
use Rattle.refusals.specs.Number.{number}
use Rattle.refusals.specs.declared.Refusal.{Refusal}
use Rattle.refusals.specs.declared.Refusal.TheVariants.{InputTooLong, OutputTooSmall}
use Rattle.octets.specs.Writing.{written}
use Rattle.session_file.specs.File.{max_input, listing}
use Rattle.session_file.specs.Entry.{entry_answer, entry_output, Entered, list_answer, Listed}
use Rattle.session_file.specs.Steps.{Ran}

-- ---- the file function: an input above the limit, a listing that does not fit, and one that does
pub listed_big : (s e e' : List ℕ) → max_input < length s → e' ≡ replicate (length e) 0 → Listed s (Err InputTooLong) e e'
unfolding list_answer entry_output
listed_big s e e' h zeros = record { answer = rw (lt-leb (length s) max_input h); output = rw (lt-leb (length s) max_input h) zeros }

module _ (s : List ℕ) {e e₁ : List ℕ} (h : length s ≤ max_input) where
  answer_is : {w : Result ℕ Refusal} → Ran s w e e₁ → w ≡ list_answer s e
  unfolding list_answer written
  answer_is ran = rw (le-leb (length s) max_input h) ran.answer

  pub listed_long : {r : Refusal} → Ran s (Err r) e e₁ → (e' : List ℕ) → e' ≡ replicate (length e₁) 0 → Listed s (Err r) e e'
  unfolding entry_output written
  listed_long {r} ran e' zeros = record { answer = answer_is ran; output = rw (le-leb (length s) max_input h, go (leb (length (listing s)) (length e)) ran.answer, ← ran.same_length) zeros }
    where
      go : (t : Bool) → Err r ≡ cond t (Ok (length (listing s))) (Err OutputTooSmall) → t ≡ false
      go true a = absurd cc
      go false a = refl

  pub listed_fits : {n : ℕ} → Ran s (Ok n) e e₁ → Listed s (Ok n) e e₁
  unfolding entry_output written
  listed_fits {n} ran =
      let f = go (leb (length (listing s)) (length e)) ran.answer in
      record { answer = answer_is ran; output = rw (le-leb (length s) max_input h, f) (ran.bytes (leb-true (length (listing s)) (length e) f)) }
    where
      go : (t : Bool) → Ok n ≡ cond t (Ok (length (listing s))) (Err OutputTooSmall) → t ≡ true
      go true a = refl
      go false a = absurd cc

-- ---- the C entry says the same in one number: the length that the output has room for, or the refusal negated
entry_ok : (s e : List ℕ) (n : ℕ) → Ok n ≡ list_answer s e → (n ≤ length e) × (pos n ≡ entry_answer s e)
unfolding entry_answer list_answer
entry_ok s e n a = go (leb (length s) max_input) (leb (length (listing s)) (length e)) refl a
  where
    go : (small fits : Bool) → leb (length (listing s)) (length e) ≡ fits
        → Ok n ≡ cond small (cond fits (Ok (length (listing s))) (Err OutputTooSmall)) (Err InputTooLong)
        → (n ≤ length e) × (pos n ≡ cond small (cond fits (pos (length (listing s))) (negsuc 26)) (negsuc 25))
    go true true f a = let l : n ≡ length (listing s) = cc in (rw l (leb-true _ _ f), rw l)
    go true false f a = absurd cc
    go false fits f a = absurd cc

entry_err : (s e : List ℕ) (r : Refusal) → Err r ≡ list_answer s e → (number r < 256) × ((number r ≢ 0) × (negsuc (number r - 1) ≡ entry_answer s e))
unfolding entry_answer list_answer
entry_err s e r a = go (leb (length s) max_input) (leb (length (listing s)) (length e)) a
  where
    go : (small fits : Bool)
        → Err r ≡ cond small (cond fits (Ok (length (listing s))) (Err OutputTooSmall)) (Err InputTooLong)
        → (number r < 256) × ((number r ≢ 0) × (negsuc (number r - 1) ≡ cond small (cond fits (pos (length (listing s))) (negsuc 26)) (negsuc 25)))
    go true true a = absurd cc
    go true false a = let q : r ≡ OutputTooSmall = cc in rw q (omega arith, ((λ z. omega arith), refl))
    go false fits a = let q : r ≡ InputTooLong = cc in rw q (omega arith, ((λ z. omega arith), refl))

-- a byte negated, as the code does it
pub minus : (n : ℕ) → n < 256 → n ≢ 0 → pos 0 -ℤ to_z w64 n ≡ negsuc (n - 1)
minus zero h z = absurd (z refl)
minus (suc n) h z = rw (to_z_pos w64 {n = suc n} (omega arith), lt-ltb 0 (suc n) (omega arith))

pub minus_fits : (n : ℕ) → n < 256 → SFits w64 (pos 0 -ℤ to_z w64 n)
minus_fits zero h = record { sfits = omega arith }
minus_fits (suc n) h = rw (minus (suc n) h (omega arith)) (record { sfits = omega arith })

module _ {s e e' : List ℕ} where
  -- the length that is answered
  pub len_within : {n : ℕ} → Listed s (Ok n) e e' → n ≤ length e
  len_within {n} listed = (entry_ok s e n listed.answer).0

  pub entered_refused : {r : Refusal} → Listed s (Err r) e e' → Entered s (to_z w64 (of_z w64 (pos 0 -ℤ to_z w64 (number r)))) e e'
  entered_refused {r} listed =
      let a = entry_err s e r listed.answer in
      record { answer = rw (to_z-of_z (minus_fits (number r) a.0), minus (number r) a.0 a.1.0) a.1.1; output = listed.output }

  pub entered_fits : {n : ℕ} → length e < 2 ^ 63 → Listed s (Ok n) e e' → Entered s (to_z w64 n) e e'
  entered_fits {n} h listed =
      let a = entry_ok s e n listed.answer in
      record { answer = rw (to_z_pos w64 {n = n} (omega (arith, a.0))) a.1; output = listed.output }
