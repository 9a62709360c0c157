-- A bare line says its word and its figures: figures are read back from their digits, and a byte of at most 32 ends each. Assumes nothing.
use mathlib.Core.Path.{◌≡◌, refl, sym, ap, ◌∙◌}
use mathlib.Core.Bool.{cond}
use mathlib.Core.List.{List, [], ◌∷◌, ◌++◌, append_assoc}
use Prim.Native.Nat.{ℕ, ◌≤◌}
use native.Mathlib.Omega.{arith}
use lib.Dec.{eqb}
use lib.ListN.{get_or}
use Rattle.octets.specs.Decimal.{decimal}
use Rattle.octets.proofs.Distinct.{decimal_same, Plain, plain_decimal}
use Rattle.listing.specs.declared.causes.Cause.{Cause}
use Rattle.listing.specs.declared.causes.Cause.TheVariants.{Unrevealed, Excluded, Priced, Share, Residue}
use Rattle.listing.specs.Words.{unrevealed_word, excluded_word, priced_word, share_word, residue_word, space, newline}
use Rattle.listing.specs.Lines.{fields, bare_line}
use Rattle.listing.specs.Causes.{cause_line, OneToOne}

-- two texts that are equal, up to the end of a plain part of each, have that part, the end and what follows in common
part_same : (a b : List ℕ) (x y : ℕ) (u v : List ℕ) → Plain a → Plain b → x ≤ space → y ≤ space → a ++ (x ∷ u) ≡ b ++ (y ∷ v) → (a ≡ b) × (x ≡ y) × (u ≡ v)
part_same [] [] x y u v p q h k e = (refl, cc, cc)
part_same [] (c ∷ b) x y u v p q h k e = absurd (omega (arith, q.0, ap (λ (l : List ℕ). get_or l 0 0) e))
part_same (c ∷ a) [] x y u v p q h k e = absurd (omega (arith, p.0, ap (λ (l : List ℕ). get_or l 0 0) e))
part_same (c ∷ a) (d ∷ b) x y u v p q h k e =
    let r = part_same a b x y u v p.1 q.1 h k cc in
    let s : c ≡ d = cc in
    (ap (λ (l : List ℕ). c ∷ l) r.0 ∙ ap (λ (z : ℕ). z ∷ b) s, r.1, r.2)

-- what follows a word or a figure: the figures left, and the newline
abbrev left : List ℕ → List ℕ
left ns = fields ns ++ (newline ∷ [])

record Ends (l : List ℕ) : Type 0 where
  end : ℕ
  more : List ℕ
  is : l ≡ end ∷ more
  low : end ≤ space

ends : (ns : List ℕ) → Ends (left ns)
unfolding fields
ends [] = record { end = newline; more = []; is = refl; low = omega arith }
ends (n ∷ ns) = record { end = space; more = (decimal n ++ fields ns) ++ (newline ∷ []); is = refl; low = omega arith }

text_same : (a b ns ms : List ℕ) → Plain a → Plain b → a ++ left ns ≡ b ++ left ms → (a ≡ b) × (left ns ≡ left ms)
text_same a b ns ms p q e =
    let x = ends ns in
    let y = ends ms in
    let r = part_same a b x.end y.end x.more y.more p q x.low y.low (ap (λ (l : List ℕ). a ++ l) (sym x.is) ∙ e ∙ ap (λ (l : List ℕ). b ++ l) y.is) in
    (r.0, x.is ∙ ap (λ (z : ℕ). z ∷ x.more) r.1 ∙ ap (λ (l : List ℕ). y.end ∷ l) r.2 ∙ sym y.is)

-- the figures left, one by one
left_more : (n : ℕ) (ns : List ℕ) → left (n ∷ ns) ≡ space ∷ (decimal n ++ left ns)
unfolding fields
left_more n ns = ap (λ (l : List ℕ). space ∷ l) (append_assoc (decimal n) (fields ns) (newline ∷ []))

left_none : left [] ≡ newline ∷ []
unfolding fields
left_none = refl

abbrev tail : List ℕ → List ℕ
tail [] = []
tail (x ∷ l) = l

figures_same : (ns ms : List ℕ) → left ns ≡ left ms → ns ≡ ms
figures_same [] [] e = refl
figures_same [] (m ∷ ms) e = absurd (omega (arith, ap (λ (l : List ℕ). get_or l 0 0) (sym left_none ∙ e ∙ left_more m ms)))
figures_same (n ∷ ns) [] e = absurd (omega (arith, ap (λ (l : List ℕ). get_or l 0 0) (sym left_none ∙ sym e ∙ left_more n ns)))
figures_same (n ∷ ns) (m ∷ ms) e =
    let r = text_same (decimal n) (decimal m) ns ms (plain_decimal n) (plain_decimal m) (ap tail (sym (left_more n ns) ∙ e ∙ left_more m ms)) in
    ap (λ (z : ℕ). z ∷ ns) (decimal_same n m r.0) ∙ ap (λ (l : List ℕ). m ∷ l) (figures_same ns ms r.1)

-- equal bare lines have equal words and equal figures
pub bare_same : (w v ns ms : List ℕ) → Plain w → Plain v → bare_line w ns ≡ bare_line v ms → (w ≡ v) × (ns ≡ ms)
bare_same w v ns ms p q e =
    let r = text_same w v ns ms p q (sym (append_assoc w (fields ns) (newline ∷ [])) ∙ e ∙ append_assoc v (fields ms) (newline ∷ [])) in
    (r.0, figures_same ns ms r.1)

-- ---- a cause as a word and figures
abbrev word_of : Cause → List ℕ
word_of Unrevealed = unrevealed_word
word_of (Excluded kind) = excluded_word
word_of (Priced limit price) = priced_word
word_of (Share lot) = share_word
word_of (Residue lot turn) = residue_word

abbrev figures_of : (order : ℕ) → Cause → List ℕ
figures_of order Unrevealed = order ∷ []
figures_of order (Excluded kind) = order ∷ kind ∷ []
figures_of order (Priced limit price) = order ∷ limit ∷ price ∷ []
figures_of order (Share lot) = order ∷ lot ∷ []
figures_of order (Residue lot turn) = order ∷ lot ∷ turn ∷ []

line_is : (i : ℕ) (c : Cause) → cause_line i c ≡ bare_line (word_of c) (figures_of i c)
line_is i Unrevealed = refl
line_is i (Excluded kind) = refl
line_is i (Priced limit price) = refl
line_is i (Share lot) = refl
line_is i (Residue lot turn) = refl

plain_word : (c : Cause) → Plain (word_of c)
plain_word Unrevealed = omega arith
plain_word (Excluded kind) = omega arith
plain_word (Priced limit price) = omega arith
plain_word (Share lot) = omega arith
plain_word (Residue lot turn) = omega arith

-- and read back: the five words differ in their first letter
abbrev cause_from : (letter : ℕ) → List ℕ → Cause
cause_from letter ns =
    cond (eqb letter 117) Unrevealed
    (cond (eqb letter 101) (Excluded (get_or ns 1 0))
    (cond (eqb letter 112) (Priced (get_or ns 1 0) (get_or ns 2 0))
    (cond (eqb letter 115) (Share (get_or ns 1 0)) (Residue (get_or ns 1 0) (get_or ns 2 0)))))

read_back : (i : ℕ) (c : Cause) → cause_from (get_or (word_of c) 0 0) (figures_of i c) ≡ c
read_back i Unrevealed = refl
read_back i (Excluded kind) = refl
read_back i (Priced limit price) = refl
read_back i (Share lot) = refl
read_back i (Residue lot turn) = refl

order_back : (i : ℕ) (c : Cause) → get_or (figures_of i c) 0 0 ≡ i
order_back i Unrevealed = refl
order_back i (Excluded kind) = refl
order_back i (Priced limit price) = refl
order_back i (Share lot) = refl
order_back i (Residue lot turn) = refl

pub one_to_one : OneToOne
one_to_one i j c d e =
    let r = bare_same (word_of c) (word_of d) (figures_of i c) (figures_of j d) (plain_word c) (plain_word d) (sym (line_is i c) ∙ e ∙ line_is j d) in (
      sym (order_back i c) ∙ ap (λ (l : List ℕ). get_or l 0 0) r.1 ∙ order_back j d,
      sym (read_back i c) ∙ ap (λ (w : List ℕ). cause_from (get_or w 0 0) (figures_of i c)) r.0 ∙ ap (cause_from (get_or (word_of d) 0 0)) r.1 ∙ read_back j d,
    )
