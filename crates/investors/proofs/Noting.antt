-- Whom the array contains, in the order they came, was seen. Assumes nothing.
use Rattle.std.proofs.Common.{◌≡◌, ◌||◌, List, reverse, refl, sym, ◌∙◌}
use Rattle.std.specs.List.{list_any}
use Rattle.std.proofs.lemmas.List.Recursion.{same_from_clauses}
use Rattle.std.proofs.lemmas.List.Sorted.{list_any-IsPermutation, IsPermutation-reverse}
use Rattle.investors.specs.Participants.{same_participant, contains}
use Rattle.investors.specs.declared.seen.Participant.{Participant}
use Rattle.investors.specs.declared.seen.Participant.TheVariants.{Investor, Wallet}
use Rattle.investors.specs.contracts.seen.ParticipantPartialEq.TheImpl.{ghosts}

-- the derived `==` tells whether two are the same
same_is : (x y : Participant) → ghosts.eq x y ≡ same_participant x y
same_is (Investor a) (Investor b) = refl
same_is (Investor a) (Wallet b) = refl
same_is (Wallet a) (Investor b) = refl
same_is (Wallet a) (Wallet b) = refl

-- the order does not matter
pub contains_reverse : (l : List Participant) (p : Participant) → contains (reverse l) p ≡ list_any (λ x. ghosts.eq x p) l
unfolding contains
contains_reverse l p =
    same_from_clauses (λ s. contains s p) (list_any (λ x. ghosts.eq x p)) (λ x b. same_participant x p || b) refl (λ _ _. refl) (λ x s. rw (same_is x p)) (reverse l)
    ∙ sym (list_any-IsPermutation (λ x. ghosts.eq x p) l (reverse l) (IsPermutation-reverse l))
