-- `band` and `disclose`.
use Rattle.std.specs.Prelude.{if◌then◌else◌, ℕ, ◌*◌, ◌/◌, max, nat_le, ◌==◌}

-- the number of a refusal or 0, and the price in its band
pub record Banded : Type 0 where
  pub refusal : ℕ
  pub price : ℕ

-- the number of a refusal or 0, and what is disclosed
pub record Disclosed : Type 0 where
  pub refusal : ℕ
  pub price : ℕ
  pub volume : ℕ

-- 'band_bps 8 (at most 10,000)'
abbrev pub max_band : ℕ
max_band = 10000

-- the width of a band: that part of the price, at least 1
unfoldable pub width : (price band_bps : ℕ) → ℕ
width price band_bps = max (price * band_bps / 10000) 1

-- `band`: the price rounded down to its band
unfoldable pub banded : (price band_bps : ℕ) → ℕ
banded price band_bps = price / width price band_bps * width price band_bps

-- 'Public band ..' | 9 band above 10,000
unfoldable pub band_answer : (price band_bps : ℕ) → Banded
band_answer price band_bps = if nat_le band_bps max_band then record { refusal = 0; price = banded price band_bps } else record { refusal = 9; price = 0 }

-- policies: Public 0, Banded 1, AggregateOnly 2, DataRoom 3; 'undisclosed 0'
unfoldable pub shown : (policy band_bps price volume : ℕ) → Disclosed
shown policy band_bps price volume =
    if policy == 0 then record { refusal = 0; price = price; volume = volume }
    else if policy == 1 then record { refusal = 0; price = banded price band_bps; volume = volume }
    else if policy == 2 then record { refusal = 0; price = 0; volume = volume }
    else record { refusal = 0; price = 0; volume = 0 }

-- 'Public .. disclose' | 9 band above 10,000; then 4 a policy above 3; a refusal gives no figure
unfoldable pub disclose_answer : (policy band_bps price volume : ℕ) → Disclosed
disclose_answer policy band_bps price volume =
    if nat_le band_bps max_band
    then (if nat_le policy 3 then shown policy band_bps price volume else record { refusal = 4; price = 0; volume = 0 })
    else record { refusal = 9; price = 0; volume = 0 }
