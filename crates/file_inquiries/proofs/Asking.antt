-- What is answered of a file: what leaves no session, and what its session is told. Assumes nothing.
use Rattle.std.proofs.Common.{◌≡◌, ℕ, zero, suc, ◌-◌, ◌^◌, ◌<◌, ◌≤◌, ◌≢◌, List, length, Result, Ok, Err, pos, negsuc, ◌-ℤ◌, w64, to_z, of_z, to_z-of_z, sym, refl, ap, ◌∙◌, subst, ne_eqb, arith}
use mir.Facts.{to_z_pos}
use Rattle.refusals.specs.declared.Refusal.{Refusal}
use Rattle.refusals.specs.Number.{number}
use Rattle.laws.specs.Checks.{◌then◌}
use Rattle.laws.proofs.Checking.{then_zero}
use Rattle.auction_engine.specs.declared.Session.{Session}
use Rattle.auction_engine.proofs.Steps.{passed, stopped, numbered}
use Rattle.inquiries.specs.Why.{why_refusal}
use Rattle.inquiries.specs.Why as session
use Rattle.inquiries.proofs.Asking.{line_fits}
use Rattle.session_file.proofs.Entry.{minus, minus_fits}
use Rattle.session_file.specs.Ended.{session_refusal, session_of}
use Rattle.file_inquiries.specs.Entry.{refusal_of, negated, Entered, Told}

-- a refusal's number is a byte, and negated
small : (r : Refusal) → number r < 256
small r = grind arith

negative : (n : ℕ) → n ≢ 0 → negsuc (n - 1) ≡ negated n
negative zero z = absurd (z refl)
negative (suc n) z = let e : suc n - 1 ≡ n = omega arith in rw e refl

module _ (input : List ℕ) (order : ℕ) (out : List ℕ) where
  -- no session is left
  pub refused_file : (r : Refusal) → number r ≡ session_refusal input → Told input order (Err r) out out
  unfolding refusal_of
  refused_file r e =
      let m : number r ≡ refusal_of input order (length out) =
      sym (stopped (number r) (why_refusal (session_of input) order (length out)) (numbered r)) ∙ ap (λ (n : ℕ). n then why_refusal (session_of input) order (length out)) e in
      record { refusal = m; len = tt; output = rw (← m, ne_eqb (number r) 0 (λ z. omega (arith, z, numbered r))) refl }

  -- one is, and it is asked
  pub told_file : 0 ≡ session_refusal input → (x : Session) → x ≡ session_of input → (r : Result ℕ Refusal) (left : List ℕ)
      → session.Told x order r out left → Told input order r out left
  unfolding refusal_of
  told_file z x is r left t =
      let u : session.Told (session_of input) order r out left = subst (λ (s : Session). session.Told s order r out left) is t in
      let m : why_refusal (session_of input) order (length out) ≡ refusal_of input order (length out) =
      sym (passed (session_refusal input) (why_refusal (session_of input) order (length out)) (sym z)) in
      record { refusal = u.refusal ∙ m; len = u.len; output = rw m at u.output }

  -- the line fits
  pub told_within : (n : ℕ) (left : List ℕ) → Told input order (Ok n) out left → n ≤ length out
  unfolding refusal_of
  told_within n left t = omega (arith, t.len, line_fits (session_of input) order (length out) (then_zero (session_refusal input) _ (sym t.refusal)).1)

  -- the number for a host
  pub told_length : (n : ℕ) (left : List ℕ) → length out < 2 ^ 63 → Told input order (Ok n) out left → Entered input order (to_z w64 n) out left
  told_length n left h t = record {
    answer = rw (to_z_pos w64 {n = n} (omega (arith, told_within n left t)), ← t.refusal) (ap pos t.len);
    output = t.output;
  }

  pub told_number : (r : Refusal) (left : List ℕ) → Told input order (Err r) out left → Entered input order (to_z w64 (of_z w64 (pos 0 -ℤ to_z w64 (number r)))) out left
  told_number r left t =
      let z : number r ≢ 0 = λ e. omega (arith, e, numbered r) in
      record {
        answer = rw (to_z-of_z (minus_fits (number r) (small r)), ← t.refusal, ne_eqb (number r) 0 z) (minus (number r) (small r) z ∙ negative (number r) z);
        output = t.output;
      }
