-- Settling and skipping in any order: the session is told by the sets of fills settled and skipped. Assumes nothing.
use mathlib.Core.Path.{◌≡◌, refl, sym, ap, ap₂, ◌∙◌}
use mathlib.Core.Logic.{◌≢◌, ◌↔◌}
use mathlib.Core.Bool.{Bool, true, false, not, ◌||◌, or-true}
use mathlib.Core.List.{List, [], ◌∷◌}
use Prim.Native.Nat.{ℕ, ◌+◌, ◌^◌, ◌≤◌, ◌<◌}
use native.Mathlib.Decide.{ℕ_discrete}
use native.Mathlib.Omega.{arith}
use lib.Dec.{eqb}
use lib.ListN.{length, get_or, set, length-set}
use lib.Seq.{get_or-set_same, get_or-set_other, ext_get_or}
use Rattle.laws.specs.Sums.{sum_below, sum_over, only, count}
use Rattle.laws.specs.Lists.{Member, has}
use Rattle.laws.specs.Bits.{bit, is_set, with_bit}
use Rattle.laws.proofs.Tests.{neither}
use Rattle.laws.proofs.Sums.{sum_same, sum_zero, sum_add, count_le, count_same}
use Rattle.laws.proofs.Only.{only_not, only_is}
use Rattle.laws.proofs.Bits.{bit_of_or, bit_zero, bit_same, bit_other, bits_ext}
use Rattle.laws.proofs.Members.{has_head, has_tail, has_same, has_sum, has_count}
use Rattle.book.specs.Limits.{max_fills}
use Rattle.book.specs.Book.{no_fill}
use Rattle.book.specs.declared.Fill.{Fill}
use Rattle.auction_engine.specs.declared.Session.{Session}
use Rattle.auction_engine.specs.Session.{fill_at, remake}
use Rattle.auction_engine.specs.Settlement.{as_settled, settle_effect, skip_effect, moved_volume}
use Rattle.course.specs.Demand3.{sold_by, sold}

-- a session without the four fields that settling, skipping and finishing write
abbrev pub blank : Session → Session
blank s = remake s s.cleared 0 s.rofr_qty 0 0 s.orders [] s.fill_count

session_ext : (s t : Session) → blank s ≡ blank t → s.phase ≡ t.phase → s.fills ≡ t.fills → s.fills_settled ≡ t.fills_settled
    → s.skipped_fills ≡ t.skipped_fills → s ≡ t
session_ext s t e p f n k = λ i. remake (e i) (e i).cleared (p i) (e i).rofr_qty (n i) (k i) (e i).orders (f i) (e i).fill_count

-- a fill, settled where the test holds
abbrev pub mark : Bool → Fill → Fill
mark false f = f
mark true f = as_settled f

abbrev pub marked : List ℕ → List ℕ → ℕ → Bool
marked ls lk i = has ls i || has lk i

-- s is b with the fills of the list ls settled and those of lk skipped, of quantity `lost` in all
pub record Marked (b : Session) (ls lk : List ℕ) (lost : ℕ) (s : Session) : Type 0 where
  pub rest : blank s ≡ blank b
  pub places : length s.fills ≡ length b.fills
  pub each : (i : ℕ) → fill_at s i ≡ mark (marked ls lk i) (fill_at b i)
  pub tally : s.fills_settled ≡ count (has ls) b.fill_count
  pub bits : (i : ℕ) → bit s.skipped_fills i ≡ only (has lk i) 1
  pub lose : lost ≡ sum_below (λ i. only (has lk i) (fill_at b i).qty) b.fill_count

-- so it is told by the two sets
pub marks_tell : (b : Session) (ls lk ms mk : List ℕ) (p q : ℕ) (s t : Session) → Marked b ls lk p s → Marked b ms mk q t
    → ((i : ℕ) → Member i ls ↔ Member i ms) → ((i : ℕ) → Member i lk ↔ Member i mk) → s.phase ≡ t.phase → s ≡ t
marks_tell b ls lk ms mk p q s t M N es ek ph =
    let settles : (i : ℕ) → has ls i ≡ has ms i = λ i. has_same ls ms i (es i) in
    let skips : (i : ℕ) → has lk i ≡ has mk i = λ i. has_same lk mk i (ek i) in
    session_ext s t (M.rest ∙ sym N.rest) ph
    (ext_get_or no_fill s.fills t.fills (M.places ∙ sym N.places)
    (λ i _. M.each i ∙ ap₂ (λ x y. mark (x || y) (fill_at b i)) (settles i) (skips i) ∙ sym (N.each i)))
    (M.tally ∙ count_same (has ls) (has ms) b.fill_count (λ i _. settles i) ∙ sym N.tally)
    (bits_ext s.skipped_fills t.skipped_fills (λ i. M.bits i ∙ ap (λ x. only x 1) (skips i) ∙ sym (N.bits i)))

-- nothing settled, nothing skipped
pub unmarked : (b s : Session) → blank s ≡ blank b → s.fills ≡ b.fills → s.fills_settled ≡ 0 → s.skipped_fills ≡ 0 → Marked b [] [] 0 s
unfolding count has
unmarked b s e f n k =
    record {
      rest = e;
      places = ap length f;
      each = λ i. ap (λ l. get_or l i no_fill) f;
      tally = n ∙ sym (sum_zero (λ _. 0) b.fill_count (λ _ _. refl));
      bits = λ i. ap (λ m. bit m i) k ∙ bit_zero i;
      lose = sym (sum_zero (λ _. 0) b.fill_count (λ _ _. refl));
    }

mark_twice : (x : Bool) (f : Fill) → as_settled (mark x f) ≡ as_settled f
mark_twice true f = refl
mark_twice false f = refl

mark_qty : (x : Bool) (f : Fill) → (mark x f).qty ≡ f.qty
mark_qty true f = refl
mark_qty false f = refl

unmarked_fill : (x : Bool) (f : Fill) → (mark x f).settled ≡ false → x ≡ false
unmarked_fill true f e = cc
unmarked_fill false f e = refl

-- one more fill is marked
mark_more : (fs bs : List Fill) (i : ℕ) (x y : ℕ → Bool) → i < length fs → y i ≡ true → ((j : ℕ) → j ≢ i → y j ≡ x j)
    → ((j : ℕ) → get_or fs j no_fill ≡ mark (x j) (get_or bs j no_fill)) → (j : ℕ)
    → get_or (set fs i (as_settled (get_or fs i no_fill))) j no_fill ≡ mark (y j) (get_or bs j no_fill)
mark_more fs bs i x y l yi yj e j = go (ℕ_discrete j i)
  where
    go : Dec (j ≡ i) → get_or (set fs i (as_settled (get_or fs i no_fill))) j no_fill ≡ mark (y j) (get_or bs j no_fill)
    go (yes p) = rw (p, yi, get_or-set_same fs i (as_settled (get_or fs i no_fill)) no_fill l, e i) (mark_twice (x i) (get_or bs i no_fill))
    go (no p) = get_or-set_other fs i j _ no_fill p ∙ e j ∙ ap (λ z. mark z (get_or bs j no_fill)) (sym (yj j p))

module _ (b : Session) (ls lk : List ℕ) (lost : ℕ) (s : Session) (M : Marked b ls lk lost s) (i : ℕ) (i<n : i < s.fill_count)
    (few : s.fill_count ≤ max_fills) (places : length s.fills ≡ max_fills) (free : (fill_at s i).settled ≡ false) where
  -- the fill is in neither list
  new : (has ls i ≡ false) × (has lk i ≡ false)
  new = neither _ _ (unmarked_fill _ (fill_at b i) (sym (ap (λ (f : Fill). f.settled) (M.each i)) ∙ free))

  fills : s.fill_count ≡ b.fill_count
  fills = ap (λ (t : Session). t.fill_count) M.rest

  pub settle_marked : Marked b (i ∷ ls) lk lost (settle_effect s i)
  unfolding settle_effect
  settle_marked =
      record {
        rest = M.rest;
        places = rw length-set M.places;
        each = mark_more s.fills b.fills i (marked ls lk) (marked (i ∷ ls) lk) (omega (arith, places))
            (ap (λ x. x || has lk i) (has_head i ls)) (λ j q. ap (λ x. x || has lk j) (has_tail i j ls q)) M.each;
        tally = omega (arith, M.tally, fills, has_count b.fill_count i ls (omega (arith, fills)) new.0, count_le (has ls) b.fill_count);
        bits = M.bits;
        lose = M.lose;
      }

  skip_bits : (j : ℕ) → Dec (j ≡ i) → bit (with_bit s.skipped_fills i) j ≡ only (has (i ∷ lk) j) 1
  unfolding with_bit
  skip_bits j (yes p) =
      rw (p, has_head i lk) (omega (arith, bit_of_or s.skipped_fills (2 ^ i) i, bit_same i, M.bits i, ap (λ x. only x 1) new.1))
  skip_bits j (no p) = rw (has_tail i j lk p) (omega (arith, bit_of_or s.skipped_fills (2 ^ i) j, bit_other i j (λ e. p (sym e)), M.bits j))

  pub skip_marked : Marked b ls (i ∷ lk) (lost + (fill_at s i).qty) (skip_effect s i)
  unfolding skip_effect
  skip_marked =
      record {
        rest = M.rest;
        places = rw length-set M.places;
        each = mark_more s.fills b.fills i (marked ls lk) (marked ls (i ∷ lk)) (omega (arith, places))
            (ap (λ x. has ls i || x) (has_head i lk) ∙ or-true (has ls i)) (λ j q. ap (λ x. has ls j || x) (has_tail i j lk q)) M.each;
        tally = M.tally;
        bits = λ j. skip_bits j (ℕ_discrete j i);
        lose = omega (
          arith,
          M.lose,
          has_sum (λ j. (fill_at b j).qty) b.fill_count i lk (omega (arith, fills)) new.1,
          ap (λ (f : Fill). f.qty) (M.each i),
          mark_qty (marked ls lk i) (fill_at b i),
        );
      }

-- what moved and what was skipped are the quantity of all fills
pub moved_and_lost : (b : Session) (ls lk : List ℕ) (lost : ℕ) (s : Session) → Marked b ls lk lost s
    → moved_volume s + lost ≡ sum_over (λ (f : Fill). f.qty) no_fill b.fills b.fill_count
unfolding moved_volume sum_over
moved_and_lost b ls lk lost s M =
    let kept : ℕ → ℕ = λ i. only (not (has lk i)) (fill_at b i).qty in
    let gone : ℕ → ℕ = λ i. only (has lk i) (fill_at b i).qty in
    let e : moved_volume s ≡ sum_below kept b.fill_count =
    ap (sum_below (λ i. only (not (is_set s.skipped_fills i)) (fill_at s i).qty)) (ap (λ (t : Session). t.fill_count) M.rest)
    ∙ sum_same _ kept b.fill_count (λ i _. ap₂ (λ x y. only (not x) y) (ap (λ m. eqb m 1) (M.bits i) ∙ only_is (has lk i))
    (ap (λ (f : Fill). f.qty) (M.each i) ∙ mark_qty (marked ls lk i) (fill_at b i))) in
    ap₂ ◌+◌ e M.lose ∙ sym (sum_add kept gone b.fill_count) ∙ sum_same _ _ b.fill_count (λ i _. only_not (has lk i) (fill_at b i).qty)

-- what each wallet sells is not marked
pub mark_sold : (owner : List ℕ) (x : Bool) (f : Fill) → sold_by owner (mark x f) ≡ sold_by owner f
mark_sold owner true f = refl
mark_sold owner false f = refl

pub marked_sold : (b : Session) (ls lk : List ℕ) (lost : ℕ) (s : Session) → Marked b ls lk lost s → (owner : List ℕ) → sold s owner ≡ sold b owner
unfolding sum_over
marked_sold b ls lk lost s M owner =
    ap (sum_below (λ i. sold_by owner (fill_at s i))) (ap (λ (t : Session). t.fill_count) M.rest)
    ∙ sum_same _ _ b.fill_count (λ i _. ap (sold_by owner) (M.each i) ∙ mark_sold owner (marked ls lk i) (fill_at b i))
