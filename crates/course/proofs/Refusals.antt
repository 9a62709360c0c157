-- A call's refusal is a number of its row, check by check. Assumes nothing.
use mathlib.Core.Path.{◌≡◌, refl, ap, subst, sym, ◌∙◌}
use mathlib.Core.Logic.{inl, inr, ⊎_elim}
use mathlib.Core.Bool.{Bool, true, false, cond, not, ◌&&◌}
use mathlib.Core.List.{List, [], ◌∷◌}
use Prim.Native.Nat.{ℕ, ◌≤◌}
use lib.Dec.{eqb, leb}
use lib.ListN.{length}
use borrow.Author.Tests.{eqb-true}
use Rattle.laws.specs.Lists.{Member, has}
use Rattle.laws.specs.Checks.{unless, ◌then◌}
use Rattle.laws.proofs.Tests.{tested, lt_or_le}
use Rattle.laws.proofs.Members.{has_member}
use Rattle.laws.proofs.Checking.{then_pass, then_in, unless_in, check_in}
use Rattle.book.specs.Clear.{live_orders, math_overflow, Outcome}
use Rattle.book.specs.Claims as book
use Rattle.book.specs.Claims.{ClearIsRight}
use Rattle.book.proofs.Theorems.{clear_is_right}
use Rattle.auction_engine.specs.declared.Session.{Session}
use Rattle.auction_engine.specs.Call.{expire_kind, limits_refusal, fields_refusal, arguments_refusal}
use Rattle.auction_engine.specs.declared.Call.{Call}
use Rattle.auction_engine.specs.declared.Call.TheVariants.{Screen, Clear, Allocate, Exercise, Close, Settle, Skip, Finish, Expire}
use Rattle.auction_engine.specs.Screening.{screen_refusal}
use Rattle.auction_engine.specs.Clearing.{outcome, clear_checks, clear_refusal}
use Rattle.auction_engine.specs.Matching.{allocate_refusal}
use Rattle.auction_engine.specs.Rofr.{exercise_refusal, close_refusal}
use Rattle.auction_engine.specs.Settlement.{settle_refusal, skip_refusal, finish_refusal, expire_refusal}
use Rattle.auction_engine.specs.Engine.{own_refusal, refusal, refused_by, answer, call_of, applied}
use Rattle.course.specs.Refusals.{numbers_of, RefusedByItsRow, RecordRefusedByItsRow}

-- all numbers of a call
abbrev row : Call → List ℕ
row c = 9 ∷ 4 ∷ numbers_of c

module _ (s : Session) (l : List ℕ) where
  limits_in : Member 9 l → Member (limits_refusal s) (0 ∷ l)
  unfolding limits_refusal
  limits_in m = check_in l _ 9 _ m (check_in l _ 9 _ m (check_in l _ 9 _ m (check_in l _ 9 _ m (unless_in l _ 9 m))))

  fields_in_lem : Member 4 l → Member (fields_refusal s) (0 ∷ l)
  unfolding fields_refusal
  fields_in_lem m = check_in l _ 4 _ m (check_in l _ 4 _ m (check_in l _ 4 _ m (unless_in l _ 4 m)))

  -- an outcome is refused with 17 or not at all
  outcome_in : Member math_overflow l → Member (outcome s).refusal (0 ∷ l)
  outcome_in m =
      ⊎_elim (λ h. inl (ap (λ (o : Outcome). o.refusal) (C.too_few h)))
      (λ (h : s.params.min_reveals ≤ live).
      ⊎_elim (λ (t : unmarked ≡ true). inl (ap (λ (o : Outcome). o.refusal) (C.unmarked h t)))
      (λ (t : unmarked ≡ false). go (outcome s) (C.right (record { enough = h; marked = t })))
      (tested unmarked))
      (lt_or_le live s.params.min_reveals)
    where
      C : ClearIsRight s.params s.given s.orders s.order_count
      C = clear_is_right s.params s.given s.orders s.order_count

      live : ℕ
      live = length (live_orders s.orders s.order_count)

      unmarked : Bool
      unmarked = not s.params.forced && not s.given.mark

      go : (o : Outcome) → book.RightClear s.params s.given s.orders s.order_count o → Member o.refusal (0 ∷ l)
      go o (book.no_crossing h e) = inl (ap (λ (x : Outcome). x.refusal) e)
      go o (book.too_large q b h e) = inr (subst (λ (n : ℕ). Member n l) (sym (ap (λ (x : Outcome). x.refusal) e)) m)
      go o (book.has_price h) = inl h.refusal

pub arguments_in : (l : List ℕ) (c : Call) → Member 4 l → Member (arguments_refusal c) (0 ∷ l)
unfolding arguments_refusal
arguments_in l (Screen now i side verdict has_id id) m = check_in l _ 4 _ m (check_in l _ 4 _ m (check_in l _ 4 _ m (unless_in l _ 4 m)))
arguments_in l (Clear now) m = inl refl
arguments_in l (Allocate now n) m = inl refl
arguments_in l (Exercise now issuer i q) m = inl refl
arguments_in l (Close now caller) m = inl refl
arguments_in l (Settle i) m = inl refl
arguments_in l (Skip now i reason) m = unless_in l _ 4 m
arguments_in l (Finish now) m = inl refl
arguments_in l (Expire now) m = inl refl

-- one check of a row, and the last
pub check : (l : List ℕ) (n : ℕ) (t : Bool) (rest : ℕ) → has l n ≡ true → Member rest (0 ∷ l) → Member (unless t n then rest) (0 ∷ l)
check l n t rest h k = check_in l t n rest (has_member l n h) k

pub last : (l : List ℕ) (n : ℕ) (t : Bool) → has l n ≡ true → Member (unless t n) (0 ∷ l)
last l n t h = unless_in l t n (has_member l n h)

-- the call's own row, by kind
own_in : (s : Session) (c : Call) → Member (own_refusal s c) (0 ∷ numbers_of c)
unfolding own_refusal screen_refusal clear_refusal allocate_refusal exercise_refusal close_refusal settle_refusal skip_refusal finish_refusal expire_refusal has
own_in s (Screen now i side verdict has_id id) =
    let l : List ℕ = numbers_of (Screen now i side verdict has_id id) in
    check l 11 _ _ refl
    (check l 10 _ _ refl
    (check l 12 _ _ refl
    (check l 13 _ _ refl
    (check l 14 _ _ refl
    (last l 15 _ refl)))))
own_in s (Clear now) =
    let l : List ℕ = numbers_of (Clear now) in
    then_in l (clear_checks s now) _
    (check l 11 _ _ refl (check l 10 _ _ refl (last l 16 _ refl)))
    (outcome_in s l (has_member l 17 refl))
own_in s (Allocate now n) =
    let l : List ℕ = numbers_of (Allocate now n) in
    check l 10 _ _ refl (last l 18 _ refl)
own_in s (Exercise now issuer i q) =
    let l : List ℕ = numbers_of (Exercise now issuer i q) in
    check l 10 _ _ refl
    (check l 11 _ _ refl
    (check l 19 _ _ refl
    (check l 20 _ _ refl
    (check l 18 _ _ refl
    (check l 21 _ _ refl
    (check l 21 _ _ refl
    (check l 21 _ _ refl
    (last l 22 _ refl))))))))
own_in s (Close now caller) =
    let l : List ℕ = numbers_of (Close now caller) in
    check l 10 _ _ refl (last l 19 _ refl)
own_in s (Settle i) =
    let l : List ℕ = numbers_of (Settle i) in
    check l 10 _ _ refl (check l 21 _ _ refl (last l 23 _ refl))
own_in s (Skip now i reason) =
    let l : List ℕ = numbers_of (Skip now i reason) in
    check l 10 _ _ refl
    (check l 21 _ _ refl (check l 23 _ _ refl (last l 24 _ refl)))
own_in s (Finish now) =
    let l : List ℕ = numbers_of (Finish now) in
    check l 10 _ _ refl (check l 25 _ _ refl (last l 17 _ refl))
own_in s (Expire now) =
    let l : List ℕ = numbers_of (Expire now) in
    check l 10 _ _ refl (last l 11 _ refl)

-- with the numbers of any call
any_in : (n : ℕ) (c : Call) → Member n (0 ∷ numbers_of c) → Member n (0 ∷ row c)
any_in n c m = ⊎_elim inl (λ k. inr (inr (inr k))) m

refusal_in : (s : Session) (c : Call) → Member (refusal s c) (0 ∷ row c)
unfolding refusal
refusal_in s c =
    let l = row c in
    then_in l (limits_refusal s) _ (limits_in s l (inl refl))
    (then_in l (fields_refusal s) _ (fields_in_lem s l (inr (inl refl)))
    (then_in l (arguments_refusal c) (own_refusal s c) (arguments_in l c (inr (inl refl))) (any_in (own_refusal s c) c (own_in s c))))

-- where the checks of any call pass it is a number of the row
pub own_numbers : (s : Session) (c : Call) → limits_refusal s ≡ 0 → fields_refusal s ≡ 0 → arguments_refusal c ≡ 0 → Member (refusal s c) (0 ∷ numbers_of c)
unfolding refusal
own_numbers s c limits fields arguments =
    subst (λ (n : ℕ). Member n (0 ∷ numbers_of c))
    (then_pass (arguments_refusal c) _ arguments ∙ then_pass (fields_refusal s) _ fields ∙ then_pass (limits_refusal s) _ limits)
    (own_in s c)

-- the number of an answer is the refusal's
pub answers_refusal : (s : Session) (c : Call) → (answer s c).refusal ≡ refusal s c
unfolding answer
answers_refusal s c =
    ⊎_elim (λ (t : eqb (refusal s c) 0 ≡ true). rw t (sym (eqb-true (refusal s c) 0 t))) (λ (t : eqb (refusal s c) 0 ≡ false). rw t) (tested (eqb (refusal s c) 0))

pub refused_by_its_row : RefusedByItsRow
refused_by_its_row s c = subst (λ (n : ℕ). Member n (0 ∷ row c)) (sym (answers_refusal s c)) (refusal_in s c)

pub record_refused_by_its_row : RecordRefusedByItsRow
unfolding applied
record_refused_by_its_row s r = go (leb r.kind expire_kind)
  where
    go : (x : Bool) → Member (cond x (answer s (call_of r)) (refused_by s (limits_refusal s then 4))).refusal (0 ∷ 9 ∷ 4 ∷ cond x (numbers_of (call_of r)) [])
    go true = refused_by_its_row s (call_of r)
    go false = let l : List ℕ = 9 ∷ 4 ∷ [] in then_in l (limits_refusal s) 4 (limits_in s l (inl refl)) (inr (inr (inl refl)))
