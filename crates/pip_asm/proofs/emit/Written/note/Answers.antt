use Rattle.std.proofs.Common.{rules, refl, ◌≡◌, ◌++◌, ◌∷◌, [], ◌-◌, length}
use Rattle.std.proofs.lemmas.Result.{on_ok_weaker}
use Rattle.byteorder.specs.Endian.{little_bytes}
use Rattle.pip_asm.specs.declared.emit.Note.{Note}
use Rattle.pip_asm.proofs.Filling.{note_adds}
use Rattle.pip_asm.proofs.emit.Written.note.Goals as goal

pub returns : goal.returns
returns c =
    let x : Note = record {
      line = c.args.line;
      place = c.len.result - c.args.self.now.head;
      next = c.args.next;
      cell = c.args.cell;
    } in
    let place : x.place ≡ length c.args.self.now.bytes.items - c.args.self.now.head = search rules in
    let notes : c.push.new.self.items ≡ c.args.self.now.notes.items ++ x ∷ [] = search rules in
    on_ok_weaker c.push_word.result
    (λ e. note_adds c.args.self.now
    (record { bytes = c.push_word.new.bytes; head = c.args.self.now.head; notes = c.push.new.self }) x
    (little_bytes 4 c.args.cell.number) c.requires.whole c.requires.room place refl refl notes e)
    c.push_word.ensures
