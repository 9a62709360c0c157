-- The loop over a file's records: what is written and what is left to list make up the listing.
-- Assumes nothing.
use Rattle.std.proofs.Common.{◌≡◌, ℕ, zero, suc, ◌+◌, ◌-◌, ◌<◌, ◌≤◌, List, [], ◌++◌, length, take, drop, sym, refl, ap, ◌∙◌, append_assoc, arith, length-append, length-drop, le-leb}
use borrow.Author.Tests.{lt-leb}
use Rattle.std.specs.Prelude.{Result, Ok, Err, IsErrAnd}
use Rattle.laws.proofs.Checking.{refused_as}
use Rattle.refusals.specs.declared.Refusal.{Refusal}
use Rattle.refusals.specs.declared.Refusal.TheVariants.{OutputTooSmall}
use Rattle.listing.specs.Lines.{record_lines}
use Rattle.octets.specs.Writing.{written, Writes}
use Rattle.octets.specs.Puts.{Puts}
use Rattle.octets.proofs.Spliced.{puts_none, puts_puts}
use Rattle.auction_engine.specs.declared.Session.{Session}
use Rattle.session_file.specs.declared.file.Place.{Place}
use Rattle.session_file.specs.File.{unopened, last_line, max_input, listing}
use Rattle.session_file.specs.Parts.{state_at, first_place, after_record}
use Rattle.session_file.specs.Steps.{Ran}
use Rattle.session_file.proofs.Lines.{lines_at, lines_start, lines_end, lines_record, onward}
use Rattle.session_file.proofs.Lent.{fits, longer, lent, to_end, puts_lent, length_lent}

-- ---- what is left to list, while bytes are left
abbrev next_lines : (number : ℕ) (s : List ℕ) → Place → Session → List ℕ
next_lines number s p x = record_lines number (after_record s p x).said

more_left : (n number : ℕ) (s : List ℕ) (p : Place) (x : Session) → p.at < length s → length s ≤ p.at + n
    → (m : ℕ) × (n ≡ suc m) × (lines_at n number s p x ≡ next_lines number s p x ++ lines_at m (number + 1) s (after_record s p x).place (after_record s p x).session)
more_left zero number s p x h e = absurd (omega arith)
more_left (suc m) number s p x h e = (m, refl, lines_record s p x h m number)

-- ---- a text written so far, up to at; the file at place p with session x; number records read
pub record Running (s before : List ℕ) (p : Place) (x : Session) (number at : ℕ) (after : List ℕ) : Type 0 where
  pub text : List ℕ
  -- enough for the records that are left
  pub fuel : ℕ
  pub enough : length s ≤ p.at + fuel
  pub within : p.at ≤ length s
  pub count : number ≤ p.at
  pub same : length after ≡ length before
  pub room : at ≤ length before
  pub puts : Puts text 0 at before after
  pub left : text ++ lines_at fuel number s p x ≡ listing s

pub running_start : (s e : List ℕ) (x : Session) (p : Place) → length s ≤ max_input → x ≡ unopened → p ≡ first_place → Running s e p x 0 0 e
running_start s e x p h is at_first = rw (is, at_first) (record {
  text = [];
  fuel = length s;
  enough = omega arith;
  within = omega arith;
  count = omega arith;
  same = refl;
  room = omega arith;
  puts = puts_none 0 e;
  left = lines_start s h;
})

-- an answer that `?` passes on
pub passed_on : (r : Result ℕ Refusal) {w : Result ℕ Refusal} {x : Refusal} → w ≡ Err x → IsErrAnd r (λ e. e ≡ x) → r ≡ w
passed_on r e h = refused_as r h ∙ sym e

-- ---- an output with the listing, and one that is too short for it
ran_fits : (s e e' : List ℕ) (n : ℕ) → n ≤ length e → length e' ≡ length e → Puts (listing s) 0 n e e' → Ran s (Ok n) e e'
unfolding written
ran_fits s e e' n h same p =
    let l : n ≡ length (listing s) = omega (arith, p.place) in
    record { answer = rw (← l, le-leb n (length e) h); bytes = λ f. p.bytes; same_length = same }

ran_long : (s e e' : List ℕ) (w : Result ℕ Refusal) → w ≡ Err OutputTooSmall → length e < length (listing s) → length e' ≡ length e → Ran s w e e'
unfolding written
ran_long s e e' w is h same = record { answer = rw (lt-leb (length (listing s)) (length e) h) is; bytes = λ f. absurd (omega arith); same_length = same }

module _ {s e : List ℕ} {p : Place} {x : Session} {number at : ℕ} {e' : List ℕ} (v : Running s e p x number at e') where
  at_end : length s ≤ p.at → v.text ++ last_line (state_at p x) ≡ listing s
  at_end h = ap (λ (l : List ℕ). v.text ++ l) (sym (lines_end v.fuel number s p x h)) ∙ v.left

-- ---- a writer was lent the part from at on, answered w and left y
module _ {s e : List ℕ} {p : Place} {x : Session} {number at : ℕ} {e' : List ℕ} (v : Running s e p x number at e') (k : ℕ) (kept : k ≡ length e' - at)
    (y : List ℕ) (same : length y ≡ length (take k (drop at e'))) where
  running_length : length (lent at k e' y) ≡ length e
  running_length = length_lent at k e' kept y (omega (arith, v.room, v.same)) same ∙ v.same

  text_more : {w : Result ℕ Refusal} {n : ℕ} (line : List ℕ) → Writes line w (take k (drop at e')) y → w ≡ Ok n
      → (at + n ≤ length e) × Puts (v.text ++ line) 0 (at + n) e (lent at k e' y)
  text_more line d z =
      let f = fits d z in (
        omega (arith, v.room, v.same, f.1.place, rw (to_end at k e' kept, length-drop) at f.0),
        puts_puts v.puts (puts_lent at k e' kept f.1) (omega arith),
      )

  text_long : {w : Result ℕ Refusal} {r : Refusal} (line : List ℕ) → Writes line w (take k (drop at e')) y → w ≡ Err r → length e < length v.text + length line
  text_long line d z = omega (arith, v.room, v.same, v.puts.place, rw (to_end at k e' kept, length-drop) at (longer d z).0)

  -- a record's lines are written
  pub running_more : {w : Result ℕ Refusal} {n : ℕ} → p.at < length s → Writes (next_lines number s p x) w (take k (drop at e')) y → w ≡ Ok n
      → Running s e (after_record s p x).place (after_record s p x).session (number + 1) (at + n) (lent at k e' y)
  running_more h d z =
      let f = more_left v.fuel number s p x h v.enough in
      let o = onward s p x h in
      let q = text_more (next_lines number s p x) d z in
      record {
        text = v.text ++ next_lines number s p x;
        fuel = f.0;
        enough = omega (arith, v.enough, f.1, o.on);
        within = o.within;
        count = omega (arith, o.on, v.count);
        same = running_length;
        room = q.0;
        puts = q.1;
        left = append_assoc v.text (next_lines number s p x) _ ∙ (ap (λ (l : List ℕ). v.text ++ l) (sym f.2) ∙ v.left);
      }

  -- they do not fit: then the listing does not
  pub running_long : {w : Result ℕ Refusal} {r : Refusal} → p.at < length s → Writes (next_lines number s p x) w (take k (drop at e')) y → w ≡ Err r → Ran s w e (lent at k e' y)
  running_long {w} h d z =
      let f = more_left v.fuel number s p x h v.enough in
      let n = ap length (ap (λ (l : List ℕ). v.text ++ l) (sym f.2) ∙ v.left) in
      ran_long s e (lent at k e' y) w (longer d z).1 (omega (arith, text_long (next_lines number s p x) d z, simp length-append at n)) running_length

  -- the last line is written, or does not fit
  pub running_end : {w : Result ℕ Refusal} {n : ℕ} → length s ≤ p.at → Writes (last_line (state_at p x)) w (take k (drop at e')) y → w ≡ Ok n
      → (at + n ≤ length e) × Ran s (Ok (at + n)) e (lent at k e' y)
  running_end {w} {n} h d z =
      let q = text_more (last_line (state_at p x)) d z in
      (q.0, ran_fits s e (lent at k e' y) (at + n) q.0 running_length (rw (at_end v h) at q.1))

  pub running_over : {w : Result ℕ Refusal} {r : Refusal} → length s ≤ p.at → Writes (last_line (state_at p x)) w (take k (drop at e')) y → w ≡ Err r → Ran s w e (lent at k e' y)
  running_over {w} h d z =
      let n = ap length (at_end v h) in
      ran_long s e (lent at k e' y) w (longer d z).1 (omega (arith, text_long (last_line (state_at p x)) d z, simp length-append at n)) running_length
