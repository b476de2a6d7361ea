use Rattle.std.proofs.Common.{◌≡◌, ◌||◌, length, arith, inl, inr, sym, ap, ◌∙◌, true, ne_eqb}
use Rattle.std.proofs.lemmas.Bool.{cases_eq}
use Rattle.pip_model.specs.ReadOff.{leaf_stop}
use Rattle.pip_model.proofs.Audit.AuditLaw.{first_none_back}
use Rattle.pip_model.proofs.Audit.Over.{first_none}
use Rattle.pip_audit.specs.FrameSets.{contains}
use Rattle.pip_audit.proofs.Walks.{read_set}
use Rattle.pip_audit.proofs.auditor.Auditor.stop_of_table.Goals as goal

pub returns-then-contains-clause-stop : goal.returns-then-contains-clause-stop
returns-then-contains-clause-stop g c =
    let m = g.M.Frames.memory c.args.mem.now in
    let read = contains c.args.self.now.sets.read in
    let was : read c.args.table ≡ true =
    ap read (sym c.number.ensures.same) ∙ sym c.contains.ensures ∙ c.if-contains.true in
    sym (first_none (leaf_stop m c.args.table) 0 1024
    (λ i lo hi. c.requires.tables c.args.table i was (omega (arith, hi))))

pub returns-clause-sets : goal.returns-clause-sets
returns-clause-sets g c = read_set (length (g.M.Frames.memory c.args.mem.now)) c.args.self.now.sets
    c.insert-is_new.new.self c.requires.sets c.insert-is_new.ensures.room

pub returns-clause-tables : goal.returns-clause-tables
returns-clause-tables g c = λ f i e hi.
    let m = g.M.Frames.memory c.args.mem.now in
    let a = c.args.self.now in
    let n = c.number-2.result in
    elim (cases_eq f n) [
      | inl q ↦
          ap (λ z. leaf_stop m z i) (q ∙ c.number-2.ensures.same)
          ∙ first_none_back (leaf_stop m c.args.table) 0 1024 (sym c.first_bad_leaf.ensures ∙ c.in_default.is) i
          (omega arith) (omega (arith, hi))
      | inr ne ↦ c.requires.tables f i
          (sym (ap (λ b. b || contains a.sets.read f) (ne_eqb f n ne)) ∙ sym (c.insert-is_new.ensures.set f) ∙ e) hi
    ]
