-- `auction_engine::Session::new` meets its contract. From what an empty order and an empty fill are.
use Rattle.std.proofs.Common.{◌≡◌}
use Rattle.book.specs.Book.{empty_order, empty_fill}
use Rattle.auction_engine.specs.Session.{fresh}
use Rattle.auction_engine.proofs.Zeros.{zeros}
use Rattle.auction_engine.proofs.Session.new.Goals as goal

pub returns : goal.returns
unfolding fresh
returns c =
    let o = c.default-2.ensures in
    let f = c.default-3.ensures in
    let n = c.default.ensures in
    let owner = zeros c.default-2.result.owner 32 o.0 in
    let investor = zeros c.default-2.result.investor_id 16 o.1.1.1.1.1.1.1.1.1.1.1 in
    let buyer = zeros c.default-3.result.buyer 32 f.0 in
    let seller = zeros c.default-3.result.seller 32 f.1.0 in
    let order : c.default-2.result ≡ empty_order =
    λ i. record {
      owner = owner i;
      side = o.1.0 i;
      escrowed = o.1.1.0 i;
      revealed = o.1.1.1.0 i;
      limit = o.1.1.1.1.0 i;
      qty = o.1.1.1.1.1.0 i;
      alloc = o.1.1.1.1.1.1.0 i;
      alloc_left = o.1.1.1.1.1.1.1.0 i;
      screened = o.1.1.1.1.1.1.1.1.0 i;
      eligible = o.1.1.1.1.1.1.1.1.1.0 i;
      exclusion = o.1.1.1.1.1.1.1.1.1.1.0 i;
      investor_id = investor i;
    } in
    let fill : c.default-3.result ≡ empty_fill = λ i. record { buyer = buyer i; seller = seller i; qty = f.1.1.0 i; rofr = f.1.1.1.0 i; settled = f.1.1.1.1 i } in
    let none : c.default.result ≡ record { clear_price = 0; cleared_volume = 0; reserve_price = 0; reference_mark = 0 } =
    λ i. record { clear_price = n.0 i; cleared_volume = n.1.0 i; reserve_price = n.1.1.0 i; reference_mark = n.1.1.1 i } in
    rw (order, fill, none)
