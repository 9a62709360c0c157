-- Every field of a default is a zero.
use mathlib.Core.Path.{◌∙◌}
use Rattle.auction_engine.specs.Session.{fresh}
use Rattle.auction_engine.proofs.Zeros.{zeros}
use Rattle.session_file.specs.File.{unopened}
use Rattle.session_file.proofs.file.unopened.Goals as goal

pub returns : goal.returns
unfolding unopened
returns c =
    let d = c.default.ensures in
    let g = c.default-2.ensures in
    let wallet = zeros c.default.result.rofr_authority 32 d.1.1.1.1.1.1 in
    c.new.ensures
    ∙ (λ i. fresh
    (record {
      reveal_end = d.0 i;
      rofr_window = d.1.0 i;
      settle_deadline = d.1.1.0 i;
      max_cash = d.1.1.1.0 i;
      min_reveals = d.1.1.1.1.0 i;
      forced = d.1.1.1.1.1.0 i;
      rofr_authority = wallet i;
    })
    (record { mark = g.0 i; reserve = g.1.0 i; reference = g.1.1.0 i; policy = g.1.1.1.0 i; band_bps = g.1.1.1.1 i }))
