-- A file that leaves no session is refused by a number of document 01's rows, and one that leaves one is a course to it: its session passes 9 and 4,
-- and what a clear in it found is told by it. Assumes nothing.
use Rattle.std.proofs.Common.{◌≡◌, ℕ, Bool, true, false, cond, not, eqb, List, [], ◌∷◌, ◌++◌, length, ℤ, sym, refl, ap, ◌∙◌, subst, inl, inr, ⊎_elim, append-nil, None, Option, Some}
use borrow.Author.Tests.{eqb-false}
use mathlib.Core.Bool.{false≢true}
use Rattle.laws.specs.Checks.{unless}
use Rattle.laws.specs.Lists.{Member, has}
use Rattle.laws.proofs.Members.{all_in, member_in}
use Rattle.laws.proofs.Checking.{then_zero, then_in, check_in, unless_in, unless_zero, check_zero}
use Rattle.events.specs.declared.Event.{Event}
use Rattle.events.specs.declared.Event.TheVariants.{Cleared}
use Rattle.auction_engine.specs.declared.Call.TheVariants.{Clear}
use Rattle.course.specs.Demand3.{after}
use Rattle.course.proofs.Refusals.{arguments_in}
use Rattle.course.proofs.Passing.{Passes, checks_pass}
use Rattle.session_file.specs.Marks.{no_kind}
use Rattle.session_file.specs.Fields.{Read, refused, header, order, call}
use Rattle.session_file.specs.Reads.{reads}
use Rattle.session_file.specs.File.{State, start, file_refusal, made, left, said_of}
use Rattle.session_file.specs.Claims.{before_end, made_all, calls_in, IsCourse, order_numbers}
use Rattle.session_file.specs.Ended.{ended_by, session_refusal, session_of}
use Rattle.session_file.proofs.Course.{file_is_course, ClearedCourse, course_at_clear, calls_from_clear}
use Rattle.session_file.proofs.Refusals.{each_record, header_in, order_in_lem, Known, AllKnown, reads_known}

-- ---- numbers
-- 'Whole input'; 'Each record'; `SH`, `SI`; `OR`
abbrev pub ending : List ℕ
ending = 26 ∷ 1 ∷ 2 ∷ 3 ∷ 4 ∷ 5 ∷ 6 ∷ 31 ∷ 7 ∷ 8 ∷ []

among : (cover : Option ℕ) (n : ℕ) → Member n (0 ∷ order_numbers cover) → Member n (0 ∷ ending)
unfolding all_in has
among None n m = member_in (0 ∷ order_numbers None) (0 ∷ ending) refl n m
among (Some decimals) n m = member_in (0 ∷ order_numbers (Some decimals)) (0 ∷ ending) refl n m

record_ending : (f : State) (x : Read) → Known x → Member (file_refusal f x) (0 ∷ ending)
unfolding file_refusal all_in has
record_ending f (refused n) k = inr (member_in each_record ending refl n k)
record_ending f (header p g asked) k = member_in (0 ∷ 4 ∷ 5 ∷ 6 ∷ []) (0 ∷ ending) refl _ (header_in f.cover p g asked)
record_ending f (order row) k = among f.cover _ (order_in_lem f.session f.cover row)
record_ending f (call c) k = member_in (0 ∷ 4 ∷ []) (0 ∷ ending) refl _ (arguments_in (4 ∷ []) c (inl refl))

records_ending : (f : State) (l : List Read) → AllKnown l → Member (ended_by f l) (0 ∷ ending)
records_ending f [] k = inl refl
records_ending f (x ∷ l) k = go (eqb (file_refusal f x) 0) (records_ending (made f x) l k.1) (record_ending f x k.0)
  where
    go : (t : Bool) → Member (ended_by (made f x) l) (0 ∷ ending) → Member (file_refusal f x) (0 ∷ ending)
        → Member (cond t (ended_by (made f x) l) (file_refusal f x)) (0 ∷ ending)
    go true a b = a
    go false a b = b

pub session_ending : (s : List ℕ) → Member (session_refusal s) (0 ∷ ending)
unfolding session_refusal
session_ending s =
    check_in ending _ 26 _ (inl refl) (then_in ending _ _ (records_ending start (reads s) (reads_known (length s) no_kind s)) (unless_in ending _ 1 (inr (inl refl))))

-- ---- no record ends the file
whole : (f : State) (l : List Read) → ended_by f l ≡ 0 → (before_end f l ≡ l) × (left f l ≡ made_all f l)
whole f [] h = (refl, refl)
whole f (x ∷ l) h = go (eqb (file_refusal f x) 0) refl (whole (made f x) l) h
  where
    go : (t : Bool) → eqb (file_refusal f x) 0 ≡ t
        → (ended_by (made f x) l ≡ 0 → (before_end (made f x) l ≡ l) × (left (made f x) l ≡ made_all (made f x) l))
        → cond t (ended_by (made f x) l) (file_refusal f x) ≡ 0
        → (cond t (x ∷ before_end (made f x) l) [] ≡ x ∷ l) × (cond t (left (made f x) l) f ≡ made_all (made f x) l)
    go true e ih h = let r = ih h in (ap (λ (m : List Read). x ∷ m) r.0, r.1)
    go false e ih h = absurd (eqb-false (file_refusal f x) 0 e h)

made_append : (f : State) (l k : List Read) → made_all f (l ++ k) ≡ made_all (made_all f l) k
made_append f [] k = refl
made_append f (x ∷ l) k = made_append (made f x) l k

module _ (s : List ℕ) (z : session_refusal s ≡ 0) where
  passed_checks : (ended_by start (reads s) ≡ 0) × (unless (not (eqb (left start (reads s)).stage no_kind)) 1 ≡ 0)
  unfolding session_refusal
  passed_checks = then_zero (ended_by start (reads s)) _ (check_zero _ 25 _ z).1

  records : (before_end start (reads s) ≡ reads s) × (left start (reads s) ≡ made_all start (reads s))
  records = whole start (reads s) passed_checks.0

  opened_lem : (left start (reads s)).stage ≡ no_kind → ⊥
  opened_lem e = absurd (go (eqb (left start (reads s)).stage no_kind) refl (unless_zero _ 0 passed_checks.1))
    where
      go : (t : Bool) → eqb (left start (reads s)).stage no_kind ≡ t → not t ≡ true → ⊥
      go true q h = false≢true h
      go false q h = eqb-false (left start (reads s)).stage no_kind q e

  is_course : IsCourse (reads s) (made_all start (reads s))
  is_course =
      ⊎_elim
      (λ (n : reads s ≡ []). absurd (opened_lem (ap (λ (f : State). f.stage) records.1 ∙ ap (λ (l : List Read). (made_all start l).stage) n)))
      (λ (o : IsCourse (reads s) (made_all start (reads s))). o)
      (file_is_course s (reads s) [] (records.0 ∙ sym (append-nil (reads s))))

  -- the session that the file leaves passes the checks 9 and 4 of any call
  pub leaves_passing : Passes (session_of s)
  leaves_passing =
      let o = is_course in
      subst Passes (sym (ap (λ (f : State). f.session) records.1 ∙ o.session_is)) (checks_pass o.opening (calls_in (reads s)))

  -- a clear in it with a `clear` line, and the calls after that one
  module _ (l k : List Read) (now : ℤ) (price volume reserve reference : ℕ) (others : List Event)
      (e : reads s ≡ l ++ (call (Clear now) ∷ k)) (q : said_of (made_all start l) (call (Clear now)) ≡ Cleared price volume reserve reference ∷ others) where
    abbrev f : State
    f = made_all start l

    until_end : before_end start (reads s) ≡ l ++ (call (Clear now) ∷ k)
    until_end = records.0 ∙ e

    pub clear_course : ClearedCourse f now price
    clear_course = course_at_clear s l k now price volume reserve reference others until_end q

    pub calls_after : session_of s ≡ (after (made f (call (Clear now))).session (calls_in k)).session
    calls_after =
        ap (λ (g : State). g.session) (records.1 ∙ ap (made_all start) e ∙ made_append start l (call (Clear now) ∷ k))
        ∙ (calls_from_clear s l k now price volume reserve reference others until_end q).calls_after k [] (sym (append-nil k))
