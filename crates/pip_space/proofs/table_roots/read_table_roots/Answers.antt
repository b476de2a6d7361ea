use Rattle.std.proofs.Common.{◌∙◌, sym, arith}
use Rattle.pip_space.proofs.RootWords.{few_tables, roots_inside, list_small, part_inside, read_list_frame, read_tables}
use Rattle.pip_space.proofs.table_roots.read_table_roots.Goals as goal

pub word-requires-clause-frame : goal.word-requires-clause-frame
word-requires-clause-frame g c = let n = c.requires in part_inside _ n.node n.cells n.is_in c.args.part n.name

pub new-requires : goal.new-requires
new-requires g c = let n = c.requires in omega (arith, list_small _ n.node n.cells n.is_in c.args.part n.name)

pub word-requires-2-clause-frame : goal.word-requires-2-clause-frame
word-requires-2-clause-frame g c = let n = c.requires in part_inside _ n.node n.cells n.is_in c.args.part n.name

pub returns-clause-roots : goal.returns-clause-roots
returns-clause-roots g c x cells node name = record {
  part = sym name;
  list = c.new.ensures ∙ (c.word.ensures.word ∙ read_list_frame _ x cells node c.args.part name);
  tables = c.word-2.ensures.word ∙ read_tables _ x cells node c.args.part name;
  mmu = c.directory.ensures.frame x cells node name;
  shadow1 = c.directory-2.ensures.frame x cells node name;
  shadow2 = c.directory-3.ensures.frame x cells node name;
}

pub returns-clause-inside : goal.returns-clause-inside
returns-clause-inside g c = let n = c.requires in
    roots_inside _ n.node n.cells n.is_in _ (returns-clause-roots g c n.node n.cells n.is_in n.name)

pub returns-clause-few : goal.returns-clause-few
returns-clause-few g c =
    let n = c.requires in
    omega (arith, few_tables _ n.node n.cells n.is_in, read_tables _ n.node n.cells n.is_in c.args.part n.name)
