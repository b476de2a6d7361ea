use Rattle.std.proofs.Common.{◌∙◌}
use Rattle.pip_asm.proofs.Naming.{named-map, named-table, table_found}
use Rattle.pip_asm.proofs.names.Addresses.find.Goals as goal

pub returns-in-Some : goal.returns-in-Some
returns-in-Some c =
    named-table c.args.self.now c.args.name.now c.found_in.result c.in-Some.address
    (table_found c.args.self.now c.args.name.now c.deref.result.now c.deref-2.result.now c.mixed-hash.result
    c.mark_of.result c.home_of-home.result c.found_in.result c.mixed-hash.ensures c.mark_of.ensures
    c.deref.ensures.value c.home_of-home.ensures.home c.deref-2.ensures.value c.found_in.ensures)
    c.in-Some.is

pub returns-in-None : goal.returns-in-None
returns-in-None c =
    c.copied.ensures ∙ c.get.ensures.value
    ∙ named-map c.args.self.now c.args.name.now c.found_in.result
    (table_found c.args.self.now c.args.name.now c.deref.result.now c.deref-2.result.now c.mixed-hash.result
    c.mark_of.result c.home_of-home.result c.found_in.result c.mixed-hash.ensures c.mark_of.ensures
    c.deref.ensures.value c.home_of-home.ensures.home c.deref-2.ensures.value c.found_in.ensures)
    c.in-None.is
