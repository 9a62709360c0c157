-- What refuses the question, and what answers it, as the code comes to them. Assumes nothing.
use Rattle.std.proofs.Common.{◌≡◌, ℕ, ◌+◌, ◌≤◌, ◌<◌, Bool, true, false, eqb, ltb, leb, List, Result, Ok, Err, refl, subst, lt-ltb, ne_eqb, eqb-true, leb-true, not, ◌&&◌, ◌||◌, length, take, get_or, sym, ap, ap₂, ◌∙◌, arith, length-take}
use Rattle.std.specs.List.{list_all}
use Rattle.laws.specs.Checks.{unless, ◌then◌, first_of}
use Rattle.laws.proofs.Checking.{then_zero, then_assoc, check_zero, unless_zero}
use Rattle.refusals.specs.declared.Refusal.{Refusal}
use Rattle.refusals.specs.Number.{number}
use Rattle.octets.specs.Writing.{written, after, Writes}
use Rattle.laws.specs.Sums.{sum_below, only, count}
use Rattle.laws.specs.Lex.{lex}
use Rattle.credit_math.specs.Limits.{max_orders}
use Rattle.credit_math.specs.ProRata.{share}
use Rattle.book.specs.Book.{is_live, is_buy}
use Rattle.book.specs.Clear.{Outcome, outcome_of, trades_at}
use Rattle.book.specs.declared.clear.Cross.{Cross}
use Rattle.auction_engine.specs.declared.Session.{Session}
use Rattle.auction_engine.specs.Session.{order_at, allocating}
use Rattle.auction_engine.specs.Call.{limits_refusal, fields_refusal}
use Rattle.auction_engine.specs.Clearing.{outcome, all_ready}
use Rattle.listing.specs.declared.causes.Cause.{Cause}
use Rattle.listing.specs.declared.causes.Cause.TheVariants.{Share, Residue}
use Rattle.listing.specs.Causes.{cause_line}
use Rattle.auction_engine.proofs.Chains.{ready_every}
use Rattle.auction_engine.proofs.Steps.{passed, stopped, numbered}
use Rattle.inquiries.specs.Why.{price, lot_of, out_of_price, turns_before, cause_of, why_line, gives_lots, why_refusal, Told}
use Rattle.inquiries.specs.Claims.{Asked, share_of}
use Rattle.inquiries.proofs.Turns.{quantities_sum, turns_before_count}
use Rattle.inquiries.proofs.Theorems.{told_share, told_residue}

-- the test of a slice of a session's orders that has as many as it counts
pub ready_now : (s : Session) → length (take s.order_count s.orders) ≡ s.order_count
    → list_all (λ o. not o.revealed || o.screened) (take s.order_count s.orders) ≡ all_ready s
ready_now s h = ready_every s (omega (arith, h, length-take s.order_count s.orders))

-- what the checks of the session want
pub ruleset asking = (passed, stopped, ready_now, numbered)

-- what `compute_clear` found is what the definitions speak of
module _ (s : Session) (c : Cross) (is : outcome_of (Ok (Ok c)) ≡ outcome s) where
  pub price_found : c.price ≡ price s
  price_found = ap (λ (o : Outcome). o.price) is

  volume_found : c.volume ≡ (outcome s).volume
  volume_found = ap (λ (o : Outcome). o.volume) is

  lot_found : (i : ℕ) → get_or c.lots i 0 ≡ lot_of s i
  lot_found i = ap (λ (o : Outcome). get_or o.lots i 0) is

  -- an order that shares the volume of its side
  module _ (A : Asked s) (few : s.order_count ≤ max_orders) (i : ℕ) (h : i < s.order_count) (l : is_live (order_at s i) ≡ true) (b : out_of_price s i ≡ false) where
    abbrev own : Bool
    own = is_buy (order_at s i)

    -- the sharers at a price
    abbrev part : (p j : ℕ) → Bool
    part p j = is_live (order_at s j) && trades_at s.orders s.order_count own p j

    share_found : (q sum : ℕ) → q ≡ share c.volume sum (order_at s i).qty
        → sum ≡ sum_below (λ j. only (part c.price j) (order_at s j).qty) s.order_count → q ≡ share_of s i
    share_found q sum e f =
        e ∙ ap (λ (v : ℕ). share v sum (order_at s i).qty) volume_found
        ∙ ap (λ (m : ℕ). share (outcome s).volume m (order_at s i).qty)
        (f ∙ ap (λ (p : ℕ). sum_below (λ j. only (part p j) (order_at s j).qty) s.order_count) price_found ∙ sym (quantities_sum s few own))

    pub says_share : (q sum : ℕ) → q ≡ share c.volume sum (order_at s i).qty
        → sum ≡ sum_below (λ j. only (part c.price j) (order_at s j).qty) s.order_count → get_or c.lots i 0 ≤ q → Share (get_or c.lots i 0) ≡ cause_of s i
    says_share q sum e f m = ap Share (lot_found i) ∙ told_share s A i h l b (omega (arith, m, lot_found i, share_found q sum e f))

    pub says_residue : (q sum t : ℕ) → q ≡ share c.volume sum (order_at s i).qty
        → sum ≡ sum_below (λ j. only (part c.price j) (order_at s j).qty) s.order_count → q < get_or c.lots i 0
        → t ≡ count (λ j. part c.price j && lex (order_at s i).qty (order_at s j).qty (ltb j i)) s.order_count
        → Residue (get_or c.lots i 0) (t + 1) ≡ cause_of s i
    says_residue q sum t e f m g =
        let turn : t ≡ turns_before s i =
        g ∙ ap (λ (p : ℕ). count (λ j. part p j && lex (order_at s i).qty (order_at s j).qty (ltb j i)) s.order_count) price_found ∙ sym (turns_before_count s few i h l b) in
        ap₂ Residue (lot_found i) (ap (λ (n : ℕ). n + 1) turn) ∙ told_residue s A i h l b (omega (arith, m, lot_found i, share_found q sum e f))

-- ---- the answer
module _ (s : Session) where
  -- the checks of the session, as the code groups them
  abbrev pub of_session : ℕ
  of_session =
      (limits_refusal s then fields_refusal s) then unless (eqb s.phase allocating) 10 then unless (all_ready s) 10 then unless (gives_lots s) 10

  pub passed_asked : of_session ≡ 0 → Asked s
  passed_asked h =
      let a = then_zero (limits_refusal s then fields_refusal s) _ h in
      let b = then_zero (limits_refusal s) _ a.0 in
      let phase = check_zero _ 9 _ a.1 in
      let ready = check_zero _ 9 _ phase.1 in
      record { limits = b.0; fields = b.1; phase = eqb-true s.phase allocating phase.0; ready = ready.0; lots = unless_zero _ 9 ready.1 }

  module _ (i : ℕ) (out : List ℕ) where
    -- the checks of the order and of the output
    abbrev room_check : ℕ
    room_check = unless (leb (length (why_line s i)) (length out)) 27

    abbrev of_order : ℕ
    of_order = unless (ltb i s.order_count) 12 then room_check

    staged : why_refusal s i (length out) ≡ (of_session then of_order)
    unfolding why_refusal
    staged = sym (simp then_assoc refl)

    refused : (r : Refusal) → number r ≡ why_refusal s i (length out) → Told s i (Err r) out out
    refused r e = record { refusal = e; len = tt; output = rw (← e, ne_eqb (number r) 0 (λ z. omega (arith, z, numbered r))) refl }

    pub refused_session : (r : Refusal) → number r ≡ of_session → Told s i (Err r) out out
    refused_session r e =
        refused r (sym (stopped (number r) of_order (numbered r)) ∙ ap (λ (m : ℕ). m then of_order) e ∙ sym staged)

    module _ (z : 0 ≡ of_session) where
      past : why_refusal s i (length out) ≡ of_order
      past = staged ∙ passed of_session of_order (sym z)

      pub refused_order : (r : Refusal) → number r ≡ unless (ltb i s.order_count) 12 → Told s i (Err r) out out
      refused_order r e = refused r (sym (stopped (number r) room_check (numbered r)) ∙ ap (λ (m : ℕ). m then room_check) e ∙ sym past)

      -- past it the output's length decides
      last_check : i < s.order_count → why_refusal s i (length out) ≡ room_check
      unfolding unless first_of
      last_check h = past ∙ rw (lt-ltb i s.order_count h) refl

      by_room : i < s.order_count → (b : Bool) → leb (length (why_line s i)) (length out) ≡ b → (r : Result ℕ Refusal) (left : List ℕ)
          → r ≡ written (why_line s i) out → left ≡ after (why_line s i) out → Told s i r out left
      unfolding unless written after
      by_room h true e r left a b =
          let q : why_refusal s i (length out) ≡ 0 = rw e at last_check h in
          rw (rw e at a) (record { refusal = sym q; len = refl; output = rw q (rw e at b) })
      by_room h false e r left a b =
          let q : why_refusal s i (length out) ≡ 27 = rw e at last_check h in
          rw (rw e at a) (record { refusal = sym q; len = tt; output = rw q (rw e at b) })

      pub told_line : i < s.order_count → (c : Cause) → c ≡ cause_of s i → (r : Result ℕ Refusal) (left : List ℕ) → Writes (cause_line i c) r out left → Told s i r out left
      told_line h c k r left w =
          let v : Writes (why_line s i) r out left = subst (λ (x : Cause). Writes (cause_line i x) r out left) k w in
          by_room h (leb (length (why_line s i)) (length out)) refl r left v.answer v.bytes

-- an answer's line fits the output
pub line_fits : (s : Session) (i room : ℕ) → why_refusal s i room ≡ 0 → length (why_line s i) ≤ room
unfolding why_refusal
line_fits s i room h =
    let a = then_zero (fields_refusal s) _ (then_zero (limits_refusal s) _ h).1 in
    let b = check_zero _ 9 _ (check_zero _ 9 _ (check_zero _ 9 _ a.1).1).1 in
    leb-true _ _ (unless_zero _ 26 (check_zero _ 11 _ b.1).1)
