use Rattle.std.proofs.Common.{rules, arith, ap, ◌≡◌, ◌∷◌, [], length, length-append}
use Rattle.pip_io.specs.Texts.{text_bytes}
use Rattle.pip_model.specs.DisText.{without_last_zeros}
use Rattle.pip_model.specs.Text.{line_text}
use Rattle.pip_asm.proofs.Trimming.{trimmed_short}
use Rattle.pip_asm.proofs.dis.output.push_part.Goals as goal

pub push_words-requires : goal.push_words-requires
push_words-requires c =
    let words : c.trim.result.now ≡ without_last_zeros c.args.words.now = search rules in
    let size : length c.args.words.now ≡ 1024 = search rules in
    let line = c.page_line.result.bytes in
    omega (
      arith,
      ap length words,
      size,
      trimmed_short c.args.words.now,
      ap length c.push_line-in-Page.ensures,
      length-append (text_bytes c.args.text.now) (line_text line),
      length-append line (10 ∷ []),
      ap length c.requires,
      c.page_line.ensures.short,
    )
