-- The fills of two lines of lots: each takes the smaller of the two first lots off both, and leaves one fewer. Assumes nothing.
use mathlib.Core.Path.{◌≡◌, refl, ap, ◌∙◌}
use mathlib.Core.Bool.{true, false}
use mathlib.Core.List.{List, [], ◌∷◌, ◌++◌, map}
use Prim.Native.Nat.{ℕ, suc, ◌+◌, ◌-◌, ◌≤◌, ◌<◌}
use native.Mathlib.Omega.{arith}
use borrow.Author.Tests.{lt-ltb, le-ltb}
use Rattle.std.proofs.lemmas.Grind.{common_steps}
use Rattle.laws.specs.Lists.{keep, has}
use Rattle.laws.proofs.Gathering.{map_append}
use Rattle.laws.proofs.Members.{has_append}
use Rattle.fills.specs.FillCount.{partial_sums, distinct}
use Rattle.fills.specs.Steps.{nonzero, fills_of}

-- every lot is above 0
abbrev Above : List ℕ → Type 0
Above [] = Unit
Above (x ∷ l) = (0 < x) × Above l

-- the lots that are kept are above 0
nonzero_above : (l : List ℕ) → Above (nonzero l)
unfolding nonzero keep
nonzero_above [] = tt
nonzero_above (x ∷ l) = grind (arith, common_steps, nonzero_above l)

-- a lot above 0 is kept
pub nonzero_some : (x : ℕ) (l : List ℕ) → 0 < x → nonzero (x ∷ l) ≡ x ∷ nonzero l
unfolding nonzero keep
nonzero_some x l h = rw (lt-ltb 0 x h)

-- a zero lot is left out
pub nonzero_none : (x : ℕ) (l : List ℕ) → x ≡ 0 → nonzero (x ∷ l) ≡ nonzero l
unfolding nonzero keep
nonzero_none x l e = rw (le-ltb 0 x (omega arith))

-- values all moved up by m
abbrev up : (m : ℕ) → List ℕ → List ℕ
up m l = map (λ x. m + x) l

-- moved up twice
up_up : (m d : ℕ) (l : List ℕ) → up (m + d) l ≡ up m (up d l)
up_up m d [] = refl
up_up m d (x ∷ l) = grind (arith, up_up m d l)

-- a value stands among values as it does moved up among them moved up
pub has_up : (m x : ℕ) (l : List ℕ) → has (up m l) (m + x) ≡ has l x
unfolding has
has_up m x [] = refl
has_up m x (y ∷ l) = grind (arith, common_steps, has_up m x l)

-- values moved up are as many
distinct_up : (m : ℕ) (l : List ℕ) → distinct (up m l) ≡ distinct l
unfolding distinct
distinct_up m [] = refl
distinct_up m (x ∷ l) = grind (arith, has_up, distinct_up m l)

-- nothing below m stands among values moved up by m
has_below : (m x : ℕ) (l : List ℕ) → x < m → has (up m l) x ≡ false
unfolding has
has_below m x [] h = refl
has_below m x (y ∷ l) h = grind (arith, common_steps, has_below m x l)

-- no partial sum of lots above 0 is 0, and so none after a first lot is that lot
past_first : (m : ℕ) (l : List ℕ) → Above l → has (up m (partial_sums l)) m ≡ false
unfolding partial_sums has
past_first m [] p = refl
past_first m (x ∷ l) p = grind (arith, common_steps, has_up m 0, has_below x 0)

-- a first lot, of which m is passed
pass : (m b : ℕ) (l : List ℕ) → m ≤ b → partial_sums (b ∷ l) ≡ up m (partial_sums ((b - m) ∷ l))
unfolding partial_sums
pass m b l h = grind (arith, up_up m (b - m) (partial_sums l))

-- a value that stands nowhere else counts one
distinct_new : (l k : List ℕ) (x : ℕ) → has l x ≡ false → has k x ≡ false → distinct (l ++ (x ∷ k)) ≡ suc (distinct (l ++ k))
unfolding distinct has
distinct_new [] k x p q = rw q
distinct_new (y ∷ l) k x p q = grind (arith, common_steps, distinct_new l k x, has_append)

-- a value that stands again counts none
distinct_again : (l : List ℕ) (x : ℕ) → has l x ≡ true → distinct (x ∷ l) ≡ distinct l
unfolding distinct
distinct_again l x e = rw e

-- the sums of two lines, all moved up by m
together : (m : ℕ) (l k : List ℕ) → distinct (up m l ++ up m k) ≡ distinct (l ++ k)
together m l k = grind (arith, map_append {A = ℕ} {B = ℕ}, distinct_up)

module _ (b c : ℕ) (l k : List ℕ) (pl : Above l) (pk : Above k) where
  -- the fills of two lines of lots above 0
  abbrev sums : List ℕ → List ℕ → ℕ
  sums buys sells = distinct (partial_sums buys ++ partial_sums sells)

  -- the first buy lot is the smaller
  low : 0 < b → b < c → sums (b ∷ l) (c ∷ k) ≡ suc (sums l ((c - b) ∷ k))
  unfolding partial_sums has
  low h d =
      let K = partial_sums ((c - b) ∷ k) in
      ap (λ x. distinct (b ∷ (up b (partial_sums l) ++ x))) (pass b c k (omega (arith, d)))
      ∙ distinct_new [] (up b (partial_sums l) ++ up b K) b refl
      (has_append (up b (partial_sums l)) (up b K) b ∙ rw (past_first b l pl, past_first b ((c - b) ∷ k) (omega (arith, d), pk)))
      ∙ ap suc (together b (partial_sums l) K)

  -- the first sell lot is the smaller
  high : 0 < c → c < b → sums (b ∷ l) (c ∷ k) ≡ suc (sums ((b - c) ∷ l) k)
  unfolding partial_sums
  high h d =
      let L = partial_sums ((b - c) ∷ l) in
      ap (λ x. distinct (x ++ (c ∷ up c (partial_sums k)))) (pass c b l (omega (arith, d)))
      ∙ distinct_new (up c L) (up c (partial_sums k)) c (past_first c ((b - c) ∷ l) (omega (arith, d), pl)) (past_first c k pk)
      ∙ ap suc (together c L (partial_sums k))

  -- the first two lots are equal
  level : sums (b ∷ l) (b ∷ k) ≡ suc (sums l k)
  unfolding partial_sums has
  level =
      grind (
        arith,
        common_steps,
        distinct_again,
        distinct_new (up b (partial_sums l)),
        has_append,
        past_first b l pl,
        past_first b k pk,
        together b,
      )

-- a fill takes the smaller of the two first lots off both, and one fewer is to come
pub fill_next : (b c : ℕ) (l k : List ℕ) → 0 < b → 0 < c → fills_of (b ∷ l) (c ∷ k) ≡ suc (fills_of ((b - c) ∷ l) ((c - b) ∷ k))
unfolding fills_of
fill_next b c l k hb hc =
    let pl = nonzero_above l in
    let pk = nonzero_above k in
    grind (
      arith,
      nonzero_some,
      nonzero_none,
      low b c (nonzero l) (nonzero k) pl pk,
      high b c (nonzero l) (nonzero k) pl pk,
      level b c (nonzero l) (nonzero k) pl pk,
    )

-- where the sell line has run out a fill is a whole buy lot
pub lone_buy : (x : ℕ) (l k : List ℕ) → 0 < x → nonzero k ≡ [] → fills_of (x ∷ l) k ≡ suc (fills_of l k)
unfolding fills_of partial_sums has
lone_buy x l k h e =
    let L = nonzero l in
    grind (
      arith,
      common_steps,
      nonzero_some x l,
      distinct_new [] (up x (partial_sums L)) x,
      past_first x L (nonzero_above l),
      distinct_up x,
    )

-- where the buy line has run out a fill is a whole sell lot
pub lone_sell : (x : ℕ) (l k : List ℕ) → 0 < x → nonzero l ≡ [] → fills_of l (x ∷ k) ≡ suc (fills_of l k)
unfolding fills_of partial_sums has
lone_sell x l k h e =
    let K = nonzero k in
    grind (
      arith,
      common_steps,
      nonzero_some x k,
      distinct_new [] (up x (partial_sums K)) x,
      past_first x K (nonzero_above k),
      distinct_up x,
    )

-- zero lots make no difference
pub same_fills : (l k l' k' : List ℕ) → nonzero l ≡ nonzero l' → nonzero k ≡ nonzero k' → fills_of l k ≡ fills_of l' k'
unfolding fills_of
same_fills l k l' k' e f = rw (e, f)

-- nothing left, nothing to come
pub no_fills : (l k : List ℕ) → nonzero l ≡ [] → nonzero k ≡ [] → fills_of l k ≡ 0
unfolding fills_of partial_sums distinct
no_fills l k e f = rw (e, f)
