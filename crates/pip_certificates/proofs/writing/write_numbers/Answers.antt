use Rattle.pip_certificates.proofs.writing.write_numbers.Goals as goal

pub returns : goal.returns
returns g c =
    let n = c.args.numbers.now in
    rw (
      c.push_str.ensures.bytes,
      c.push_word-5.ensures.bytes,
      c.push_word-4.ensures.bytes,
      c.push_word-3.ensures.bytes,
      c.push_word-2.ensures.bytes,
      c.push_word.ensures.bytes,
      c.new-text.ensures,
    ) at
    c.write_line.ensures
