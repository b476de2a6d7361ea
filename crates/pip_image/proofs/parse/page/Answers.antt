use Rattle.std.proofs.Common.{rules, arith, ◌≡◌, length, drop, true, false}
use Rattle.pip_model.specs.Images.{word_of_bytes, words_in, front_page, has_row, is_seen}
use Rattle.pip_image.proofs.PageWords.{words_cut, page_is}
use Rattle.pip_image.proofs.parse.page.Goals as goal

pub returns-clause-same : goal.returns-clause-same
unfolding front_page
returns-clause-same c =
    let bs = c.args.bytes.now in
    let number : c.read_u32-number.result ≡ word_of_bytes bs = search rules in
    let page : c.new.result ≡ word_of_bytes bs = search rules in
    let unread : is_seen c.read_u32-number.result c.args.before.now ≡ false = search rules in
    let unseen : is_seen (word_of_bytes bs) c.args.before.now ≡ false = rw (← number) unread in
    let is_row : has_row c.args.frames c.read_u32-number.result ≡ true = search rules in
    let row : has_row c.args.frames (word_of_bytes bs) ≡ true = rw (← number) is_row in
    page_is _ _ _ _ (length bs) (is_seen (word_of_bytes bs) c.args.before.now)
    (has_row c.args.frames (word_of_bytes bs)) (word_of_bytes bs) c.new.result (words_in 1024 (drop 4 bs))
    c.page_words.new.words (drop 4100 bs) (omega arith) unseen row page
    (words_cut bs c.page_words.new.words (omega arith) c.page_words.ensures)

pub returns-clause-unseen : goal.returns-clause-unseen
returns-clause-unseen c =
    let page : c.read_u32-number.result ≡ c.new.result = search rules in
    let unread : is_seen c.read_u32-number.result c.args.before.now ≡ false = search rules in
    rw (← page) unread
