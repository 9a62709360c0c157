-- Why an order got its lot, as a line 'without record number'.
use Rattle.std.specs.Prelude.{◌≡◌, List, [], ◌∷◌, ℕ}
use Rattle.listing.specs.declared.causes.Cause.{Cause}
use Rattle.listing.specs.declared.causes.Cause.TheVariants.{Unrevealed, Excluded, Priced, Share, Residue}
use Rattle.listing.specs.Words.{unrevealed_word, excluded_word, priced_word, share_word, residue_word}
use Rattle.listing.specs.Lines.{bare_line}

-- '`unrevealed I`; `excluded I KIND`; `priced I LIMIT PRICE`; `share I LOT` for a share alone; `residue I LOT TURN` for one with a residue unit'
abbrev pub cause_line : (order : ℕ) → Cause → List ℕ
cause_line order Unrevealed = bare_line unrevealed_word (order ∷ [])
cause_line order (Excluded kind) = bare_line excluded_word (order ∷ kind ∷ [])
cause_line order (Priced limit price) = bare_line priced_word (order ∷ limit ∷ price ∷ [])
cause_line order (Share lot) = bare_line share_word (order ∷ lot ∷ [])
cause_line order (Residue lot turn) = bare_line residue_word (order ∷ lot ∷ turn ∷ [])

-- 'no two different causes or figures yield equal words': equal lines are of one order and one cause. proofs/OneToOne.antt proves it
abbrev pub OneToOne : Type 0
OneToOne = (i j : ℕ) (c d : Cause) → cause_line i c ≡ cause_line j d → (i ≡ j) × (c ≡ d)
