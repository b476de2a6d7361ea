use Rattle.pip_table.proofs.Laws.{IsDirectory-put_dir, leaf_at-put_dir}
use Rattle.pip_table.proofs.table.set_dir.Goals as goal

pub returns-clause-table : goal.returns-clause-table
returns-clause-table g c = λ fits. rw (
  c.set_word.ensures.words,
  c.pack_dir.ensures,
) (IsDirectory-put_dir _ c.args.top c.args.i c.args.d c.requires.table c.requires.index fits)

pub returns-clause-map : goal.returns-clause-map
returns-clause-map g c = λ fits v small. rw (
  c.set_word.ensures.words,
  c.pack_dir.ensures,
) (leaf_at-put_dir _ c.args.top c.args.i c.args.d v c.requires.table c.requires.index fits small)
