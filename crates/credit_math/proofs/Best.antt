-- What a walk keeps is the best by a strict total order, so it does not depend on the sequence of the list, or on repeats.
-- Assumes nothing.
use mathlib.Core.Path.{◌≡◌, refl, sym, ◌∙◌, ap}
use mathlib.Core.Logic.{◌≢◌, ◌⊎◌, inl, inr, ⊎_elim}
use mathlib.Core.Bool.{Bool, true, false}
use mathlib.Core.List.{List, [], ◌∷◌}
use Prim.Native.Nat.{ℕ}
use native.Mathlib.Decide.{ℕ_discrete}
use Rattle.laws.specs.Lists.{Member}
use Rattle.laws.proofs.Tests.{tested, clash, is_false}
use Rattle.credit_math.specs.Price.{Best, none, at, improves, step, walk}

-- b is the best of those with P: there is none, or b is one of them and none of them is better
abbrev pub BestOf : (better : ℕ → ℕ → Bool) → (ℕ → Type 0) → Best → Type 0
BestOf better P none = (p : ℕ) → P p → ⊥
BestOf better P (at q) = P q × ((p : ℕ) → P p → better p q ≡ false)

-- those of a list that count
abbrev pub Counted : (ℕ → Bool) → List ℕ → ℕ → Type 0
Counted counts l p = Member p l × (counts p ≡ true)

-- those with P, and p where it counts
abbrev With : (ℕ → Bool) → (ℕ → Type 0) → ℕ → ℕ → Type 0
With counts P p x = P x ⊎ ((x ≡ p) × (counts x ≡ true))

module _ (better : ℕ → ℕ → Bool) where
  -- the best of the same things
  pub best_of : (P Q : ℕ → Type 0) (b : Best) → ((p : ℕ) → P p → Q p) → ((p : ℕ) → Q p → P p) → BestOf better P b → BestOf better Q b
  best_of P Q none f g h = λ p m. h p (g p m)
  best_of P Q (at q) f g h = (f q h.0, λ p m. h.1 p (g p m))

module _ (better : ℕ → ℕ → Bool)
    (irrefl : (p : ℕ) → better p p ≡ false)
    (trans : (p q r : ℕ) → better p q ≡ true → better q r ≡ true → better p r ≡ true)
    (total : (p q : ℕ) → better p q ≡ false → better q p ≡ false → p ≡ q) where
  module _ (counts : ℕ → Bool) where
    -- one more that counts is taken where it is better
    taken : (P : ℕ → Type 0) (b : Best) (p : ℕ) → BestOf better P b → counts p ≡ true → improves counts better b p ≡ true → BestOf better (With counts P p) (at p)
    taken P none p g t i = (inr (refl, t), λ x m. ⊎_elim (λ h. absurd (g x h)) (λ e. ap (λ (y : ℕ). better y p) e.0 ∙ irrefl p) m)
    taken P (at q) p g t i = (
      inr (refl, t),
      λ x m. ⊎_elim (λ h. is_false (better x p) (λ w. clash (better x q) (trans x p q w i) (g.1 x h))) (λ e. ap (λ (y : ℕ). better y p) e.0 ∙ irrefl p) m,
    )

    -- and left where it does not count or is not better
    left : (P : ℕ → Type 0) (b : Best) (p : ℕ) → BestOf better P b → (counts p ≡ true → improves counts better b p ≡ false) → BestOf better (With counts P p) b
    left P none p g n = λ x m. ⊎_elim (g x) (λ e. clash true refl (n (sym (ap counts e.0) ∙ e.1))) m
    left P (at q) p g n = (inl g.0, λ x m. ⊎_elim (g.1 x) (λ e. ap (λ (y : ℕ). better y q) e.0 ∙ n (sym (ap counts e.0) ∙ e.1)) m)

    step_best : (P : ℕ → Type 0) (b : Best) (p : ℕ) → BestOf better P b → BestOf better (With counts P p) (step counts better b p)
    step_best P b p g =
        ⊎_elim
        (λ (t : counts p ≡ true).
        ⊎_elim (λ (i : improves counts better b p ≡ true). rw (t, i) (taken P b p g t i))
        (λ (i : improves counts better b p ≡ false). rw (t, i) (left P b p g (λ _. i)))
        (tested (improves counts better b p)))
        (λ (t : counts p ≡ false). rw t (left P b p g (λ u. absurd (clash (counts p) u t))))
        (tested (counts p))

    walk_on : (P : ℕ → Type 0) (b : Best) (l : List ℕ) → BestOf better P b → BestOf better (λ x. P x ⊎ Counted counts l x) (walk counts better b l)
    walk_on P b [] g = best_of better P (λ x. P x ⊎ Counted counts [] x) b (λ x h. inl h) (λ x h. ⊎_elim (λ a. a) (λ m. absurd m.0) h) g
    walk_on P b (p ∷ l) g =
        best_of better (λ x. With counts P p x ⊎ Counted counts l x) (λ x. P x ⊎ Counted counts (p ∷ l) x) (walk counts better (step counts better b p) l)
        (λ x h. ⊎_elim (λ a. ⊎_elim inl (λ e. inr (inl e.0, e.1)) a) (λ m. inr (inr m.0, m.1)) h)
        (λ x h. ⊎_elim (λ a. inl (inl a)) (λ m. ⊎_elim (λ e. inl (inr (e, m.1))) (λ n. inr (n, m.1)) m.0) h)
        (walk_on (With counts P p) (step counts better b p) l (step_best P b p g))

    -- the walk of a list keeps the best of those that count
    pub walk_best : (l : List ℕ) → BestOf better (Counted counts l) (walk counts better none l)
    walk_best l =
        best_of better (λ x. ⊥ ⊎ Counted counts l x) (Counted counts l) (walk counts better none l) (λ x h. ⊎_elim absurd (λ m. m) h) (λ x m. inr m)
        (walk_on (λ x. ⊥) none l (λ p h. h))

  -- there is one best
  pub best_one : (P : ℕ → Type 0) (a b : Best) → BestOf better P a → BestOf better P b → a ≡ b
  best_one P none none h k = refl
  best_one P none (at q) h k = absurd (h q k.0)
  best_one P (at p) none h k = absurd (k p h.0)
  best_one P (at p) (at q) h k = ap at (total p q (k.1 p h.0) (h.1 q k.0))

  -- the best is better than any other, one that is better than any other is the best, and there is one such
  pub best_beats : (P : ℕ → Type 0) (p q : ℕ) → BestOf better P (at p) → P q → q ≢ p → better p q ≡ true
  best_beats P p q h m ne = go (better p q) refl
    where
      go : (b : Bool) → better p q ≡ b → better p q ≡ true
      go true e = e
      go false e = absurd (ne (sym (total p q e (h.1 q m))))

  pub beats_not : (p q : ℕ) → (q ≢ p → better p q ≡ true) → better q p ≡ false
  beats_not p q f = go (ℕ_discrete q p)
    where
      go : Dec (q ≡ p) → better q p ≡ false
      go (yes e) = ap (λ (x : ℕ). better x p) e ∙ irrefl p
      go (no e) = is_false (better q p) (λ t. clash (better q q) (trans q p q t (f e)) (irrefl q))

  pub beats_one : (p q : ℕ) → (q ≢ p → better p q ≡ true) → (p ≢ q → better q p ≡ true) → p ≡ q
  beats_one p q f g = total p q (beats_not q p g) (beats_not p q f)
