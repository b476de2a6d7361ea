use Rattle.pip_apart.proofs.Telling.{all_stay_on, not_all_stay}
use Rattle.pip_apart.proofs.searching.all_stay.Goals as goal

pub returns-then-not-stays : goal.returns-then-not-stays
returns-then-not-stays c =
    not_all_stay c.args.guests.now c.loop-guest.guest-index c.guest-item.result c.stays.result c.guest-item.is
    c.loop-guest-test.true c.stays.ensures.is c.if-not-stays.true

pub loop-guest-preserved : goal.loop-guest-preserved
loop-guest-preserved c =
    all_stay_on c.args.guests.now c.loop-guest.guest-index c.guest-item.result c.stays.result c.guest-item.is
    c.loop-guest-test.true c.stays.ensures.is c.if-not-stays.false c.loop-guest.invariant
