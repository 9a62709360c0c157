-- 'C entry | 26; 27 listing longer than the output': the number negated and the output zeroed, else the length, later bytes untouched.
use Rattle.std.specs.Prelude.{◌≡◌, ℕ, if◌then◌else◌, List, length, replicate, ℤ, pos, negsuc, nat_le, Result, Ok, Err}
use Rattle.octets.specs.Writing.{splice}
use Rattle.refusals.specs.declared.Refusal.{Refusal}
use Rattle.refusals.specs.declared.Refusal.TheVariants.{InputTooLong, OutputTooSmall}
use Rattle.session_file.specs.File.{max_input, listing}

-- negsuc n is - (n + 1)
unfoldable pub entry_answer : (input output : List ℕ) → ℤ
entry_answer s out =
    if nat_le (length s) max_input
    then (if nat_le (length (listing s)) (length out) then pos (length (listing s)) else negsuc 26)
    else negsuc 25

unfoldable pub entry_output : (input output : List ℕ) → List ℕ
entry_output s out =
    if nat_le (length s) max_input
    then (if nat_le (length (listing s)) (length out) then splice 0 (listing s) out else replicate (length out) 0)
    else replicate (length out) 0

pub record Entered (input : List ℕ) (r : ℤ) (before after : List ℕ) : Type 0 where
  pub answer : r ≡ entry_answer input before
  pub output : after ≡ entry_output input before

-- the library's function: the same, with the refusal and the length apart
unfoldable pub list_answer : (input output : List ℕ) → Result ℕ Refusal
list_answer s out =
    if nat_le (length s) max_input
    then (if nat_le (length (listing s)) (length out) then Ok (length (listing s)) else Err OutputTooSmall)
    else Err InputTooLong

pub record Listed (input : List ℕ) (r : Result ℕ Refusal) (before after : List ℕ) : Type 0 where
  pub answer : r ≡ list_answer input before
  pub output : after ≡ entry_output input before
