-- The numbers that refuse a question of a file, and what a cleared file is told. Assumes nothing.
use Rattle.std.proofs.Common.{◌≡◌, ℕ, true, false, eqb, List, [], ◌∷◌, sym, refl, ap, ◌∙◌, subst, inl, inr, ⊎_elim, eqb-true}
use borrow.Author.Tests.{eqb-false}
use Rattle.laws.specs.Lists.{Member, has}
use Rattle.laws.proofs.Tests.{tested}
use Rattle.laws.proofs.Members.{all_in, member_in}
use Rattle.laws.proofs.Checking.{then_in, then_stop, check_in, unless_in}
use Rattle.auction_engine.specs.declared.Session.{Session}
use Rattle.auction_engine.specs.Call.{limits_refusal, fields_refusal}
use Rattle.inquiries.specs.Why.{price, lot_of, why_refusal}
use Rattle.inquiries.specs.Claims.{Asked}
use Rattle.inquiries.proofs.JustCleared.{just_cleared_is_told}
use Rattle.session_file.specs.Claims.{calls_in}
use Rattle.session_file.specs.Ended.{session_refusal, session_of}
use Rattle.session_file.proofs.Endings.{ending, session_ending, leaves_passing, clear_course, calls_after}
use Rattle.file_inquiries.specs.Entry.{refusal_of}
use Rattle.file_inquiries.specs.Claims.{RefusedByNumber, RefusedByQuestion, ClearedFileIsTold}

-- the question's own numbers, and all
abbrev own : List ℕ
own = 10 ∷ 12 ∷ 27 ∷ []

abbrev all : List ℕ
all = 26 ∷ 1 ∷ 2 ∷ 3 ∷ 4 ∷ 5 ∷ 6 ∷ 31 ∷ 7 ∷ 8 ∷ 10 ∷ 12 ∷ 27 ∷ []

-- of a session that passes 9 and 4
why_in : (s : Session) (i room : ℕ) → limits_refusal s ≡ 0 → fields_refusal s ≡ 0 → Member (why_refusal s i room) (0 ∷ own)
unfolding why_refusal
why_in s i room a b =
    then_in own _ _ (inl a)
    (then_in own _ _ (inl b)
    (check_in own _ 10 _ (inl refl)
    (check_in own _ 10 _ (inl refl)
    (check_in own _ 10 _ (inl refl)
    (check_in own _ 12 _ (inr (inl refl))
    (unless_in own _ 27 (inr (inr (inl refl)))))))))

pub refused_by_question : RefusedByQuestion
unfolding refusal_of
refused_by_question input order room z =
    let p = leaves_passing input z in
    then_in own (session_refusal input) _ (inl z) (why_in (session_of input) order room p.limits p.fields)

pub refused_by_number : RefusedByNumber
unfolding refusal_of all_in has
refused_by_number input order room =
    ⊎_elim
    (λ (t : eqb (session_refusal input) 0 ≡ true).
    member_in (0 ∷ own) (0 ∷ all) refl (refusal_of input order room) (refused_by_question input order room (eqb-true (session_refusal input) 0 t)))
    (λ (t : eqb (session_refusal input) 0 ≡ false).
    subst (λ (n : ℕ). Member n (0 ∷ all)) (then_stop (session_refusal input) (why_refusal (session_of input) order room) (eqb-false (session_refusal input) 0 t))
    (member_in (0 ∷ ending) (0 ∷ all) refl (session_refusal input) (session_ending input)))
    (tested (eqb (session_refusal input) 0))

pub cleared_file_is_told : ClearedFileIsTold
cleared_file_is_told input l k now clear_price volume reserve reference others z e q at =
    let c = clear_course input z l k now clear_price volume reserve reference others e q in
    let is = calls_after input z l k now clear_price volume reserve reference others e q in
    let phase = sym (ap (λ (s : Session). s.phase) is) ∙ at in
    let t = (just_cleared_is_told _ c.just_cleared).still (calls_in k) phase in
    record {
      asked = subst Asked (sym is) t.asked;
      price_is = ap price is ∙ t.price_is ∙ c.price_is;
      lot_is = λ i. ap (λ (s : Session). lot_of s i) is ∙ t.lot_is i ∙ c.lot_is i;
    }
