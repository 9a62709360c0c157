-- Case L with three buys more, one unrevealed, one excluded, one below the price: what each order is told after the clear. proofs/Examples.antt proves it.
use Rattle.std.specs.Prelude.{◌≡◌, false, [], ◌∷◌, ◌++◌, pos, replicate}
use Rattle.laws.specs.Lists.{table}
use Rattle.book.specs.Book.{no_investor}
use Rattle.book.specs.declared.Row.{Row}
use Rattle.listing.specs.declared.causes.Cause.TheVariants.{Unrevealed, Excluded, Priced, Share, Residue}
use Rattle.auction_engine.specs.declared.Session.{Session}
use Rattle.auction_engine.specs.declared.Call.TheVariants.{Screen, Clear}
use Rattle.auction_engine.specs.Session.{fresh}
use Rattle.auction_engine.specs.Opening.{with_rows}
use Rattle.course.specs.CaseL.{params, given, row, rows, passed}
use Rattle.course.specs.Demand3.{after}
use Rattle.inquiries.specs.Why.{cause_of, why_line, why_refusal}

-- an order that is not revealed
abbrev pub hidden : Row
hidden = record { owner = replicate 32 5; side = 0; escrowed = 9; revealed = false; limit = 0; qty = 0 }

abbrev pub larger_case_l : Session
larger_case_l =
    (after (with_rows (fresh params given) (rows ++ (hidden ∷ row 6 0 24 12 2 ∷ row 7 0 10 10 1 ∷ [])))
    (passed 0 0 1 ∷ passed 1 0 2 ∷ passed 2 1 3 ∷ passed 3 1 4 ∷ Screen (pos 150) 5 0 3 false no_investor ∷ passed 6 0 6 ∷ Clear (pos 150) ∷ [])).session

-- a volume of 13 over buys of 5, 7, 5, 7 and 1: shares of 2, 3, 2, 3 and 0, and three units
abbrev pub three_units : Session
three_units =
    (after (with_rows (fresh params given) (row 1 0 1 9 5 ∷ row 2 0 1 9 7 ∷ row 3 0 1 9 5 ∷ row 4 0 1 9 7 ∷ row 5 0 1 9 1 ∷ row 6 1 1 9 13 ∷ []))
    (passed 0 0 1 ∷ passed 1 0 2 ∷ passed 2 0 3 ∷ passed 3 0 4 ∷ passed 4 0 5 ∷ passed 5 1 6 ∷ Clear (pos 150) ∷ [])).session

pub record Examples : Type 0 where
  pub causes : table (cause_of larger_case_l) 7 ≡ Residue 5 1 ∷ Share 2 ∷ Share 4 ∷ Share 3 ∷ Unrevealed ∷ Excluded 3 ∷ Priced 10 11 ∷ []
  -- `residue 0 5 1`, 14 bytes with the newline; one byte too little, and the order behind the last
  pub line : why_line larger_case_l 0 ≡ 114 ∷ 101 ∷ 115 ∷ 105 ∷ 100 ∷ 117 ∷ 101 ∷ 32 ∷ 48 ∷ 32 ∷ 53 ∷ 32 ∷ 49 ∷ 10 ∷ []
  pub refusals : why_refusal larger_case_l 0 14 ∷ why_refusal larger_case_l 0 13 ∷ why_refusal larger_case_l 7 0 ∷ [] ≡ 0 ∷ 27 ∷ 12 ∷ []
  -- the largest first, and of equal ones the first
  pub turns : table (cause_of three_units) 6 ≡ Residue 3 3 ∷ Residue 4 1 ∷ Share 2 ∷ Residue 4 2 ∷ Share 0 ∷ Share 13 ∷ []
