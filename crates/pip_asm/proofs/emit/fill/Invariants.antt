use Rattle.std.proofs.Common.{◌≡◌, length, drop}
use Rattle.pip_asm.specs.Names.{address_of_name}
use Rattle.pip_asm.specs.Emitted.{AreNotes, fill_in}
use Rattle.pip_asm.proofs.emit.fill.Given as goal

abbrev pub invariant-loop-note : goal.invariant-loop-note
invariant-loop-note l = record {
  same : fill_in (address_of_name l.names) (drop l.note-index l.notes) l.pages ≡ fill_in (address_of_name l.names)
      l.notes l.fn.pages;
  notes : AreNotes (length l.pages) (drop l.note-index l.notes);
}
