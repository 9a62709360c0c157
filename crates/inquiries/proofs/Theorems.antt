-- Each order is told its true cause, and the turns of a side are 1 up to its units, each told to one order by the rule of the residue. Assumes nothing.
use mathlib.Core.Path.{◌≡◌, refl, sym, ap, ap₂, ◌∙◌, subst}
use mathlib.Core.Bool.{Bool, true, false, cond, not, ◌&&◌, ◌||◌}
use Prim.Native.Nat.{ℕ, ◌+◌, ◌-◌, ◌≤◌, ◌<◌}
use native.Mathlib.Omega.{arith}
use borrow.Author.Tests.{ltb-true, ltb-false, lt-ltb, le-ltb, leb-true}
use lib.Dec.{ltb, leb}
use lib.ListN.{length, get_or}
use Rattle.laws.specs.Sums.{only}
use Rattle.laws.proofs.Tests.{clash, both}
use Rattle.laws.proofs.Search.{every_at}
use Rattle.laws.proofs.Checking.{then_both}
use Rattle.book.specs.Book.{is_live, is_buy, is_excluded, kind_fits, max_kind}
use Rattle.book.specs.declared.Order.{Order}
use Rattle.listing.specs.declared.causes.Cause.{Cause}
use Rattle.listing.specs.declared.causes.Cause.TheVariants.{Unrevealed, Excluded, Priced, Share, Residue}
use Rattle.auction_engine.specs.declared.Session.{Session}
use Rattle.auction_engine.specs.Session.{order_at}
use Rattle.auction_engine.specs.Call.{limits_refusal, fields_refusal}
use Rattle.auction_engine.proofs.Checks.{Within as Limits, checked_within}
use Rattle.inquiries.specs.Why.{price, lot_of, out_of_price, sharers, units_of, in_turn, turns_before, cause_of}
use Rattle.inquiries.specs.Claims.{Asked, Beyond, Within, share_of, HasTurn, TrueCause, Precedes, TurnTold, Beside, CausesAreTrue}
use Rattle.inquiries.proofs.Turns.{Sharing, sharing, turns_precede, turn_inside, stands_in_turn, stands_once, units_few, lot_by_turn, unit_above_share}

-- a live order was revealed and is not excluded; the other way round where it was screened
live_shown : (o : Order) → is_live o ≡ true → (o.revealed ≡ true) × (is_excluded o ≡ false)
unfolding is_live is_excluded
live_shown o e =
    let a = both (o.revealed && o.screened) o.eligible e in
    let b = both o.revealed o.screened a.0 in
    (b.0, ap₂ (λ x y. x && not y) b.1 a.1)

shown_live : (o : Order) → (not o.revealed || o.screened) ≡ true → o.revealed ≡ true → is_excluded o ≡ false → is_live o ≡ true
unfolding is_live is_excluded
shown_live o e r x = go o.revealed o.screened o.eligible r e x
  where
    go : (r s l : Bool) → r ≡ true → (not r || s) ≡ true → (s && not l) ≡ false → (r && s && l) ≡ true
    go true true true p q w = refl
    go true true false p q w = sym w
    go true false l p q w = q
    go false s l p q w = p

-- a kind that fits
kind_known : (o : Order) → kind_fits o ≡ true → is_excluded o ≡ true → (0 < o.exclusion) × (o.exclusion ≤ max_kind)
unfolding kind_fits
kind_known o e x =
    let h = both (ltb 0 o.exclusion) (leb o.exclusion max_kind) (rw x at e) in
    (ltb-true 0 o.exclusion h.0, leb-true o.exclusion max_kind h.1)

-- a limit and the price
beyond_is : (b : Bool) (l p : ℕ) → cond b (ltb l p) (ltb p l) ≡ true → (b ≡ true → l < p) × (b ≡ false → p < l)
beyond_is true l p e = (λ _. ltb-true l p e, λ f. absurd (clash true refl f))
beyond_is false l p e = (λ f. absurd (clash false f refl), λ _. ltb-true p l e)

is_beyond : (b : Bool) (l p : ℕ) → (b ≡ true → l < p) × (b ≡ false → p < l) → cond b (ltb l p) (ltb p l) ≡ true
is_beyond true l p h = lt-ltb l p (h.0 refl)
is_beyond false l p h = lt-ltb p l (h.1 refl)

within_is : (b : Bool) (l p : ℕ) → cond b (ltb l p) (ltb p l) ≡ false → (b ≡ true → p ≤ l) × (b ≡ false → l ≤ p)
within_is true l p e = (λ _. ltb-false l p e, λ f. absurd (clash true refl f))
within_is false l p e = (λ f. absurd (clash false f refl), λ _. ltb-false p l e)

is_within : (b : Bool) (l p : ℕ) → (b ≡ true → p ≤ l) × (b ≡ false → l ≤ p) → cond b (ltb l p) (ltb p l) ≡ false
is_within true l p h = le-ltb l p (h.0 refl)
is_within false l p h = le-ltb p l (h.1 refl)

module _ (s : Session) (A : Asked s) where
  limits : Limits s
  limits = checked_within s (then_both (limits_refusal s) (fields_refusal s) A.limits A.fields)

  module _ (i : ℕ) (h : i < s.order_count) where
    abbrev o : Order
    o = order_at s i

    abbrev units : ℕ
    units = units_of s (is_buy o)

    abbrev t : ℕ
    t = turns_before s i

    -- what the checks say of an order
    pub live : o.revealed ≡ true → is_excluded o ≡ false → is_live o ≡ true
    live = shown_live o (every_at (λ j. not (order_at s j).revealed || (order_at s j).screened) s.order_count i A.ready h)

    fits : kind_fits o ≡ true
    fits = every_at (λ j. kind_fits (order_at s j)) s.order_count i limits.kinds h

    -- its limit and the price
    beyond : out_of_price s i ≡ true → Beyond s i
    unfolding out_of_price
    beyond = beyond_is (is_buy o) o.limit (price s)

    out : Beyond s i → out_of_price s i ≡ true
    unfolding out_of_price
    out = is_beyond (is_buy o) o.limit (price s)

    within : out_of_price s i ≡ false → Within s i
    unfolding out_of_price
    within = within_is (is_buy o) o.limit (price s)

    not_out : Within s i → out_of_price s i ≡ false
    unfolding out_of_price
    not_out = is_within (is_buy o) o.limit (price s)

    -- the first of five that applies
    abbrev chain : (r x b u : Bool) → Cause
    chain r x b u =
        cond (not r) Unrevealed (cond x (Excluded o.exclusion) (cond b (Priced o.limit (price s)) (cond u (Residue (lot_of s i) (t + 1)) (Share (lot_of s i)))))

    cause_is : (r x b u : Bool) → o.revealed ≡ r → is_excluded o ≡ x → out_of_price s i ≡ b → ltb t units ≡ u → cause_of s i ≡ chain r x b u
    unfolding cause_of
    cause_is r x b u e f g k = λ j. chain (e j) (f j) (g j) (k j)

    -- the lot of an order that shares
    module _ (l : is_live o ≡ true) (p : out_of_price s i ≡ false) where
      with_unit : ltb t units ≡ true → lot_of s i ≡ share_of s i + 1
      with_unit u = lot_by_turn s limits.orders A.lots i h l p ∙ ap (λ (x : Bool). share_of s i + only x 1) u

      alone : ltb t units ≡ false → lot_of s i ≡ share_of s i
      alone u = omega (arith, lot_by_turn s limits.orders A.lots i h l p, ap (λ (x : Bool). only x 1) u)

      -- and the other way round
      has_unit : share_of s i < lot_of s i → ltb t units ≡ true
      has_unit g = unit_above_share s limits.orders A.lots i h l p ∙ lt-ltb (share_of s i) (lot_of s i) g

      no_unit : lot_of s i ≤ share_of s i → ltb t units ≡ false
      no_unit g = unit_above_share s limits.orders A.lots i h l p ∙ le-ltb (share_of s i) (lot_of s i) g

      -- so what it is told goes by its lot and its share
      pub told_residue : share_of s i < lot_of s i → Residue (lot_of s i) (t + 1) ≡ cause_of s i
      told_residue g = let r = live_shown o l in sym (cause_is true false false true r.0 r.1 p (has_unit g))

      pub told_share : lot_of s i ≤ share_of s i → Share (lot_of s i) ≡ cause_of s i
      told_share g = let r = live_shown o l in sym (cause_is true false false false r.0 r.1 p (no_unit g))

      turn : ltb t units ≡ true → HasTurn s i (t + 1)
      turn u = record { before = t; from_one = refl; some_left = ltb-true t units u; stands = stands_in_turn s limits.orders i h l p }

      -- its turn is the one that it has
      turn_is : (k : ℕ) → HasTurn s i k → k ≡ t + 1
      turn_is k T =
          let below : T.before < length (sharers s (is_buy o)) = omega (arith, T.some_left, units_few s limits.orders A.lots (is_buy o)) in
          omega (arith, T.from_one, stands_once s limits.orders i h l p T.before below T.stands)

    right : TrueCause s i (cause_of s i)
    right = go o.revealed (is_excluded o) (out_of_price s i) (ltb t units) refl refl refl refl
      where
        go : (r x b u : Bool) → o.revealed ≡ r → is_excluded o ≡ x → out_of_price s i ≡ b → ltb t units ≡ u → TrueCause s i (cause_of s i)
        go false x b u e f g k = rw (cause_is false x b u e f g k) e
        go true true b u e f g k = let d = kind_known o fits f in rw (cause_is true true b u e f g k) (e, f, refl, d.0, d.1)
        go true false true u e f g k = rw (cause_is true false true u e f g k) (live e f, beyond g, refl, refl)
        go true false false true e f g k = rw (cause_is true false false true e f g k) (live e f, within g, refl, with_unit (live e f) g k, turn (live e f) g k)
        go true false false false e f g k = rw (cause_is true false false false e f g k) (live e f, within g, refl, alone (live e f) g k)

    one_cause : (c : Cause) → TrueCause s i c → c ≡ cause_of s i
    one_cause Unrevealed d = sym (cause_is false (is_excluded o) (out_of_price s i) (ltb t units) d refl refl refl)
    one_cause (Excluded kind) d = ap Excluded d.2 ∙ sym (cause_is true true (out_of_price s i) (ltb t units) d.0 d.1 refl refl)
    one_cause (Priced limit p) d =
        let r = live_shown o d.0 in
        ap₂ Priced d.2 d.3 ∙ sym (cause_is true false true (ltb t units) r.0 r.1 (out d.1) refl)
    one_cause (Share lot) d = ap Share d.2 ∙ told_share d.0 (not_out d.1) (omega (arith, d.2, d.3))
    one_cause (Residue lot turn) d =
        let p = not_out d.1 in
        ap₂ Residue d.2 (turn_is d.0 p turn d.4) ∙ told_residue d.0 p (omega (arith, d.2, d.3))

    -- an order that is told a turn has it
    residue_told : (a turn : ℕ) → cause_of s i ≡ Residue a turn → HasTurn s i turn
    residue_told a turn e = (subst (TrueCause s i) e right).4

    -- and one that is told a share alone stands behind all units
    record Behind : Type 0 where
      pub past : units ≤ t
      pub below : t < length (sharers s (is_buy o))
      pub stands : get_or (in_turn s (is_buy o)) t 0 ≡ i

    share_told : (a : ℕ) → cause_of s i ≡ Share a → Behind
    share_told a e =
        let d = subst (TrueCause s i) e right in
        let p = not_out d.1 in
        record {
          past = ltb-false t units (no_unit d.0 p (omega (arith, d.2, d.3)));
          below = turn_inside s limits.orders i h d.0 p;
          stands = stands_in_turn s limits.orders i h d.0 p;
        }

  -- each turn of a side is told
  each : (buys : Bool) (turn : ℕ) → 0 < turn → turn ≤ units_of s buys → TurnTold s buys turn
  each buys turn p h =
      let m : ℕ = turn - 1 in
      let i : ℕ = get_or (in_turn s buys) m 0 in
      let S : Sharing s limits.orders buys i = sharing s limits.orders buys m (omega (arith, units_few s limits.orders A.lots buys)) in
      let T : HasTurn s i turn =
      record {
        before = m;
        from_one = omega arith;
        some_left = rw S.side (omega arith);
        stands = ap (λ (b : Bool). get_or (in_turn s b) m 0) S.side;
      } in
      let e : turn ≡ turns_before s i + 1 = turn_is i S.below S.live S.priced turn T in
      let left : turns_before s i < units_of s (is_buy (order_at s i)) = omega (arith, T.some_left, T.from_one) in
      let u : ltb (turns_before s i) (units_of s (is_buy (order_at s i))) ≡ true = lt-ltb (turns_before s i) (units_of s (is_buy (order_at s i))) left in
      record {
        order = i;
        below = S.below;
        side = S.side;
        told = sym (one_cause i S.below (Residue (lot_of s i) turn) (S.live, within i S.below S.priced, refl, with_unit i S.below S.live S.priced u, T));
      }

  module _ (i j : ℕ) (B : Beside s i j) where
    abbrev side : Bool
    side = is_buy (order_at s j)

    -- what the first is told, on the side of the second
    first_units : units_of s (is_buy (order_at s i)) ≡ units_of s side
    first_units = ap (units_of s) B.one_side

    first_stands : (m : ℕ) → get_or (in_turn s (is_buy (order_at s i))) m 0 ≡ get_or (in_turn s side) m 0
    first_stands m = ap (λ b. get_or (in_turn s b) m 0) B.one_side

    once : (a b turn : ℕ) → cause_of s i ≡ Residue a turn → cause_of s j ≡ Residue b turn → i ≡ j
    once a b turn e f =
        let T = residue_told i B.first_below a turn e in
        let U = residue_told j B.second_below b turn f in
        sym T.stands ∙ first_stands T.before ∙ ap (λ m. get_or (in_turn s side) m 0) (omega (arith, T.from_one, U.from_one)) ∙ U.stands

    -- the earlier turn is that of the order that comes before
    precede : (m w : ℕ) → m < w → w < length (sharers s side) → get_or (in_turn s (is_buy (order_at s i))) m 0 ≡ i → get_or (in_turn s side) w 0 ≡ j → Precedes s i j
    precede m w h g e f =
        subst (λ x. Precedes s x j) (sym (first_stands m) ∙ e)
        (subst (Precedes s (get_or (in_turn s side) m 0)) f (turns_precede s limits.orders side m w h g))

    in_order : (a b t u : ℕ) → cause_of s i ≡ Residue a t → cause_of s j ≡ Residue b u → t < u → Precedes s i j
    in_order a b t u e f h =
        let T = residue_told i B.first_below a t e in
        let U = residue_told j B.second_below b u f in
        precede T.before U.before (omega (arith, T.from_one, U.from_one)) (omega (arith, U.some_left, units_few s limits.orders A.lots side)) T.stands U.stands

    behind : (a b t : ℕ) → cause_of s i ≡ Residue a t → cause_of s j ≡ Share b → Precedes s i j
    behind a b t e f =
        let T = residue_told i B.first_below a t e in
        let U = share_told j B.second_below b f in
        precede T.before (turns_before s j) (omega (arith, T.some_left, first_units, U.past)) U.below T.stands U.stands

  no_other : (i : ℕ) → i < s.order_count → (a turn : ℕ) → cause_of s i ≡ Residue a turn → (0 < turn) × (turn ≤ units_of s (is_buy (order_at s i)))
  no_other i h a turn e = let T = residue_told i h a turn e in (omega (arith, T.from_one), omega (arith, T.from_one, T.some_left))

-- 'Each order gets exactly one line, its true cause'
pub causes_are_true : CausesAreTrue
causes_are_true s A = record {
  right = right s A;
  one_cause = one_cause s A;
  each = each s A;
  once = once s A;
  no_other = no_other s A;
  in_order = in_order s A;
  behind = behind s A;
}
