use Rattle.std.proofs.Common.{◌∙◌, ap, sym, refl, None, Some}
use Rattle.std.specs.Prelude.{is_some}
use Rattle.std.proofs.lemmas.Map.Text.{btree_map_updates_str}
use Rattle.pip_asm.proofs.Naming.{IsPut, named-both, put-added, put-kept}
use Rattle.pip_asm.proofs.names.Addresses.add_other.Goals as goal

is_put : (c : goal.In-Ok-None) → IsPut c.args.self.now c.args.name c.args.address c.insert.new.self
is_put c = record {
  kept = c.requires.kept;
  none = c.requires.fresh;
  full = c.requires.full;
  update = btree_map_updates_str c.args.name.now c.args.self.now.others c.insert.new.self (Some c.args.address)
      c.in-Ok-None.ensures.updates;
}

pub returns-in-Ok-None-clause-kept : goal.returns-in-Ok-None-clause-kept
returns-in-Ok-None-clause-kept c = put-kept c.args.self.now c.args.name c.args.address c.insert.new.self (is_put c)

pub returns-in-Ok-None-clause-fresh : goal.returns-in-Ok-None-clause-fresh
returns-in-Ok-None-clause-fresh c = named-both c.args.self.now c.args.name.now None c.requires.fresh
    (sym c.in-Ok-None.ensures.old ∙ c.in-Ok-None.field-0-is)

pub returns-in-Ok-None-clause-added : goal.returns-in-Ok-None-clause-added
returns-in-Ok-None-clause-added c = put-added c.args.self.now c.args.name c.args.address c.insert.new.self (is_put c)

pub returns-in-Ok-Some-clause-stopped : goal.returns-in-Ok-Some-clause-stopped
returns-in-Ok-Some-clause-stopped c = (
  rw (named-both c.args.self.now c.args.name.now (Some c.in-Ok-Some.field-0-0) c.requires.fresh
      (sym c.in-Ok-Some.ensures.old ∙ c.in-Ok-Some.field-0-is)),
  refl,
)
