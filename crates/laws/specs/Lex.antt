-- Lexicographic order.
use Rattle.std.specs.Prelude.{Bool, true, false, if◌then◌else◌, ℕ, nat_lt}

-- a below b; where they are equal, as the rest says
unfoldable pub lex : ℕ → ℕ → Bool → Bool
lex a b rest = if nat_lt a b then true else if nat_lt b a then false else rest
