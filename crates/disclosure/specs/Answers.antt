-- The declared answers in this paper's numbers: a refusal gives no figure.
use Rattle.std.specs.Prelude.{◌≡◌, ℕ, ◌<◌, Result, Ok, Err}
use Rattle.refusals.specs.Number.{number}
use Rattle.refusals.specs.declared.Refusal.{Refusal}
use Rattle.refusals.specs.declared.Refusal.TheVariants.{BadField}
use Rattle.disclosure.specs.Disclosure as paper
use Rattle.disclosure.specs.declared.Policy.{Policy}
use Rattle.disclosure.specs.declared.Policy.TheVariants.{Public, Banded, AggregateOnly, DataRoom}
use Rattle.disclosure.specs.declared.Disclosed.{Disclosed}

abbrev pub banded_of : Result ℕ Refusal → paper.Banded
banded_of (Ok price) = record { refusal = 0; price = price }
banded_of (Err r) = record { refusal = number r; price = 0 }

abbrev pub disclosed_of : Result Disclosed Refusal → paper.Disclosed
disclosed_of (Ok d) = record { refusal = 0; price = d.price; volume = d.volume }
disclosed_of (Err r) = record { refusal = number r; price = 0; volume = 0 }

-- 'Public 0, Banded 1, AggregateOnly 2, DataRoom 3'
abbrev pub policy_number : Policy → ℕ
policy_number Public = 0
policy_number Banded = 1
policy_number AggregateOnly = 2
policy_number DataRoom = 3

-- the policy of a number, or 4
abbrev pub Reads : ℕ → Result Policy Refusal → Type 0
Reads n (Ok p) = policy_number p ≡ n
Reads n (Err r) = (3 < n) × (r ≡ BadField)

-- what a policy shows
abbrev pub Shows : Policy → (band_bps price volume : ℕ) → Disclosed → Type 0
Shows policy band_bps price volume d = disclosed_of (Ok d) ≡ paper.shown (policy_number policy) band_bps price volume
