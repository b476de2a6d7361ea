use Rattle.std.proofs.Common.{false, refl, inl, inr}
use Rattle.std.proofs.lemmas.Bool.{both_ways}
use Rattle.bitflags.specs.Sets.{known_from}
use Rattle.pip_lend.proofs.AddVAddr.Rights.{rights_unknown, rights_within, rights_without}
use Rattle.pip_lend.proofs.calls.add_vaddr.granted.Goals as goal
use Rattle.pip_lend.proofs.calls.add_vaddr.granted.Goals.{else-contains-via-then-contains+else-contains-2}
use Rattle.pip_lend.proofs.calls.add_vaddr.granted.Goals.{else-contains-via-else-contains}

pub returns-in_err-rights : goal.returns-in_err-rights
unfolding known_from
returns-in_err-rights c = rw c.from_residual.ensures
    (rights_unknown c.args.rights c.args.own.0 (λ e. both_ways false refl ((c.in_err-rights.ensures.known tt).1 e)))

pub returns-then-contains-2 : goal.returns-then-contains-2
unfolding known_from
returns-then-contains-2 c =
    let same = c.in_ok-rights.ensures.value tt in (
      rights_within c.args.rights c.args.own.0 c.in_ok-rights.rights.0 same ((c.in_ok-rights.ensures.known tt).0 refl)
          c.contains.result c.contains-then-contains.result (c.contains.ensures tt)
          (c.contains-then-contains.ensures tt) c.if-contains.true c.if-contains-2.true,
      same,
    )

pub returns-else-contains : goal.returns-else-contains
unfolding known_from
returns-else-contains c = elim c.else-contains.branch [
  | else-contains-via-then-contains+else-contains-2 w ↦
      rights_without c.args.rights c.args.own.0 c.in_ok-rights.rights.0 (c.in_ok-rights.ensures.value tt)
      ((c.in_ok-rights.ensures.known tt).0 refl)
      c.contains.result w.contains-then-contains.result (c.contains.ensures tt) (w.contains-then-contains.ensures tt)
      (inr (w.if-contains.true, w.if-contains-2.false))
  | else-contains-via-else-contains w ↦
      rights_without c.args.rights c.args.own.0 c.in_ok-rights.rights.0 (c.in_ok-rights.ensures.value tt)
      ((c.in_ok-rights.ensures.known tt).0 refl)
      c.contains.result _ (c.contains.ensures tt) refl (inl w.if-contains.false)
]
