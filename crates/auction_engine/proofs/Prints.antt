-- Finishing: what moved and that it fits two words, what an accepted finish passed, and the print as the code comes to it. Assumes nothing.
use mathlib.Core.Path.{◌≡◌, refl, sym, ◌∙◌, ap}
use mathlib.Core.Bool.{Bool, cond, not, true, false}
use mathlib.Core.List.{List}
use Prim.Native.Nat.{ℕ, ◌+◌, ◌*◌, ◌%◌, ◌^◌, ◌<◌, ◌≤◌}
use lib.Dec.{eqb, ltb, lit≤}
use lib.IntN.{ℤ}
use lib.ListN.{length, take}
use native.Mathlib.Omega.{arith}
use borrow.Author.Tests.{ltb-true, le-leb}
use borrow.Author.Rules.{rules}
use Rattle.std.specs.Prelude.{Result, Ok, Err}
use Rattle.std.specs.List.{list_all}
use Rattle.std.proofs.lemmas.List.{get_or-take, length-take-le}
use Rattle.laws.specs.Checks.{unless, ◌then◌}
use Rattle.laws.specs.Search.{every}
use Rattle.laws.proofs.Chains.{every_of}
use Rattle.laws.proofs.Sums.{sum_same}
use Rattle.laws.specs.Sums.{sum_below, only}
use Rattle.laws.specs.Bits.{is_set}
use Rattle.laws.proofs.Widths.{Summing, summing_more, summing_mod}
use Rattle.laws.proofs.Checking.{then_pass, check_zero, unless_zero, unless_pass}
use Rattle.wide.specs.Value.{modulus, Narrows}
use Rattle.wide.specs.declared.TooWide.{TooWide}
use Rattle.book.specs.Limits.{max_fills}
use Rattle.book.specs.Book.{fill_in, no_fill}
use Rattle.book.specs.declared.Fill.{Fill}
use Rattle.investors.specs.Participants.{distinct_participants}
use Rattle.disclosure.specs.Disclosure.{max_band, banded, shown, disclose_answer, Disclosed}
use Rattle.events.specs.declared.Print.{Print}
use Rattle.auction_engine.specs.declared.Session.{Session}
use Rattle.auction_engine.specs.Session.{fill_at}
use Rattle.auction_engine.specs.Call.{finish_kind, admits, limits_refusal, fields_refusal, arguments_refusal}
use Rattle.auction_engine.specs.declared.Call.TheVariants.{Finish}
use Rattle.auction_engine.specs.Settlement.{moved_volume, finish_refusal, print_of}
use Rattle.auction_engine.specs.Engine.{refusal, own_refusal}
use Rattle.auction_engine.proofs.Checks.{Within, accepted, own_decides}

-- the quantities of all the fills fit two words
pub fills_fit : max_fills * 2 ^ 64 ≤ modulus
unfolding modulus
fills_fit = lit≤ tt

-- the quantity of a fill that moved
abbrev pub moved_at : List Fill → (skipped i : ℕ) → ℕ
moved_at fills skipped i = only (not (is_set skipped i)) (fill_in fills i).qty

-- the sum goes on by a fill that moved, not by one that was skipped, and at the end it is that of all
module _ (fills : List Fill) (skipped i sum sum' : ℕ) (s : Summing 64 (moved_at fills skipped) i sum) where
  pub moved_on : is_set skipped i ≡ false → i < max_fills → (fill_in fills i).qty < 2 ^ 64 → sum' ≡ (sum + (fill_in fills i).qty) % modulus
      → Summing 64 (moved_at fills skipped) (i + 1) sum'
  moved_on h l f e = summing_mod modulus max_fills fills_fit (fill_in fills i).qty sum' s l (rw h) f e

  pub moved_not : is_set skipped i ≡ true → sum' ≡ sum → Summing 64 (moved_at fills skipped) (i + 1) sum'
  moved_not h e = summing_more 0 sum' s (rw h) (omega arith) (omega (arith, e))

pub moved_all : (fills : List Fill) (skipped i sum : ℕ) → Summing 64 (moved_at fills skipped) i sum → i ≡ length fills → sum ≡ sum_below (moved_at fills skipped) (length fills)
moved_all fills skipped i sum s e = rw e at s.is

-- what an accepted finish passed
pub finish_passed : (s : Session) (now : ℤ) → refusal s (Finish now) ≡ 0
    → (s.fill_count ≤ max_fills) × (s.given.band_bps ≤ max_band) × (s.given.policy ≤ 3) × (moved_volume s < 2 ^ 64)
unfolding own_refusal finish_refusal
finish_passed s now h =
    let a = accepted s (Finish now) h in
    let pending = check_zero _ 24 _ (check_zero _ 9 _ a.own).1 in
    (a.within.fills, a.within.band, a.within.policy, ltb-true _ _ (unless_zero _ 16 pending.1))

-- a band and a policy within their limits: what the policy shows
disclosed_as : (policy band price volume : ℕ) → band ≤ max_band → policy ≤ 3 → disclose_answer policy band price volume ≡ shown policy band price volume
unfolding disclose_answer
disclosed_as policy band price volume h g = rw (le-leb band max_band h, le-leb policy 3 g)

-- of a session: the test of its fills, and what of them moved
module _ (s : Session) (h : s.fill_count ≤ length s.fills) where
  pub settled_every : list_all (λ f. f.settled) (take s.fill_count s.fills) ≡ every (λ i. (fill_at s i).settled) s.fill_count
  settled_every = every_of (λ f. f.settled) no_fill s.fills s.fill_count h

  pub moved_take : sum_below (moved_at (take s.fill_count s.fills) s.skipped_fills) (length (take s.fill_count s.fills)) ≡ moved_volume s
  unfolding moved_volume
  moved_take =
      rw (length-take-le s.fill_count s.fills h)
      (sum_same _ _ s.fill_count (λ i l. ap (λ f. only (not (is_set s.skipped_fills i)) f.qty) (get_or-take s.fill_count s.fills i no_fill l)))

-- past all checks of a finish but that of the volume, that one decides
pub volume_decides : (s : Session) (now : ℤ) (n : ℕ) → (limits_refusal s then fields_refusal s) ≡ 0 → admits s.phase finish_kind ≡ true
    → every (λ i. (fill_at s i).settled) s.fill_count ≡ true → n ≡ unless (ltb (moved_volume s) (2 ^ 64)) 17 → n ≡ refusal s (Finish now)
unfolding arguments_refusal own_refusal finish_refusal
volume_decides s now n z a e h =
    own_decides s (Finish now) 0 (sym z) refl refl n
    (h ∙ then_pass _ _ (unless_pass _ 25 e) ∙ then_pass _ _ (unless_pass _ 10 a))

-- what is shown is not refused
shown_passes : (policy band price volume : ℕ) → (shown policy band price volume).refusal ≡ 0
unfolding shown
shown_passes policy band price volume = go (eqb policy 0) (eqb policy 1) (eqb policy 2)
  where
    said : (price volume : ℕ) → Disclosed
    said price volume = record { refusal = 0; price = price; volume = volume }

    go : (a b c : Bool) → (cond {A = Disclosed} a (said price volume) (cond b (said (banded price band) volume) (cond c (said 0 volume) (said 0 0)))).refusal ≡ 0
    go true b c = refl
    go false true c = refl
    go false false true = refl
    go false false false = refl

-- a volume in one word or not
pub wide_refused : (w : ℕ) (x : TooWide) (r : Result ℕ TooWide) → r ≡ Err x → Narrows w r → 17 ≡ unless (ltb w (2 ^ 64)) 17
unfolding unless
wide_refused w x r e n = go (ltb w (2 ^ 64)) (sym e ∙ n)
  where
    go : (t : Bool) → Err x ≡ cond {A = Result ℕ TooWide} t (Ok w) (Err (record {})) → ◌≡◌ {A = ℕ} 17 (cond {A = ℕ} t 0 17)
    go true h = search (rules, h)
    go false h = refl

pub narrow_passes : (w m : ℕ) (r : Result ℕ TooWide) → r ≡ Ok m → Narrows w r → (m ≡ w) × (0 ≡ unless (ltb w (2 ^ 64)) 17)
unfolding unless
narrow_passes w m r e n = go (ltb w (2 ^ 64)) (sym e ∙ n)
  where
    go : (t : Bool) → Ok m ≡ cond {A = Result ℕ TooWide} t (Ok w) (Err (record {})) → (m ≡ w) × (◌≡◌ {A = ℕ} 0 (cond t 0 17))
    go true h = (search (rules, h), refl)
    go false h = search (rules, h)

-- a session that any call's checks pass is disclosed, and its print is as the code comes to it
module _ (s : Session) (w : Within s) where
  shows : (volume : ℕ) → disclose_answer s.given.policy s.given.band_bps s.cleared.clear_price volume ≡ shown s.given.policy s.given.band_bps s.cleared.clear_price volume
  shows volume = disclosed_as s.given.policy s.given.band_bps s.cleared.clear_price volume w.band w.policy

  pub discloses : (volume : ℕ) → (disclose_answer s.given.policy s.given.band_bps s.cleared.clear_price volume).refusal ≡ 0
  discloses volume = rw (shows volume) (shown_passes s.given.policy s.given.band_bps s.cleared.clear_price volume)

  pub print_as : (volume count price shown_volume : ℕ) → volume ≡ moved_volume s → count ≡ distinct_participants s.orders s.order_count s.fills s.skipped_fills s.fill_count
      → ◌≡◌ {A = Disclosed} (record { refusal = 0; price = price; volume = shown_volume }) (disclose_answer s.given.policy s.given.band_bps s.cleared.clear_price volume)
      → ◌≡◌ {A = Print} (record {
        price = price;
        volume = shown_volume;
        n_investor_ids = count;
        forced_sale = s.params.forced;
        policy = s.given.policy;
        partial = not (eqb s.skipped_fills 0);
      })
      (print_of s)
  unfolding print_of
  print_as volume count price shown_volume e f g =
      let d = g ∙ shows volume in
      rw (← e, f, ← d)
