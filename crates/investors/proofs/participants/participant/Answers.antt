-- `find` answers the first order of the wallet.
use Rattle.std.proofs.Common.{◌≡◌, length, rules, tests}
use Rattle.std.specs.Option.{option_map}
use Rattle.std.proofs.lemmas.Iterator.{YieldsList-from_slice}
use Rattle.std.proofs.lemmas.Iterator.Search.{find_from_yields_List}
use Rattle.laws.specs.Lists.{same}
use Rattle.book.specs.declared.Order.{Order}
use Rattle.investors.specs.Participants.{participant}
use Rattle.investors.proofs.FirstOrder.{participant_found, counts_as}
use Rattle.investors.proofs.participants.participant.Goals as goal
use Rattle.investors.proofs.participants.participant.Goals.{After-find, in_default-via-in-Some+else-ne, in_default-via-in_default}

-- the wallet counts as what was found says
found : (c : After-find) → participant c.args.orders.now (length c.args.orders.now) c.args.wallet.now ≡ counts_as (option_map (λ o. o.now) c.find.result) c.args.wallet.now
found c =
    participant_found c.args.orders.now c.args.wallet.now _ c.requires
    (find_from_yields_List (λ (o : Order). same o.owner c.args.wallet.now) _ _ c.find.result c.find.ensures.ran (YieldsList-from_slice c.args.orders.now (cc)) (λ x b q k. search (rules, tests)))

pub returns-in-Some : goal.returns-in-Some
returns-in-Some c = rw (found (goal.at.returns-in-Some c).After-find, c.in-Some.is, ← c.ne.ensures, c.if-ne.true)

pub returns-in_default : goal.returns-in_default
returns-in_default c =
    let f = found (goal.at.returns-in_default c).After-find in
    elim c.in_default.branch [
      | in_default-via-in-Some+else-ne w ↦ rw (f, w.in-Some.is, ← w.ne.ensures, w.if-ne.false)
      | in_default-via-in_default w ↦ rw (f, w.in_default.is)
    ]
