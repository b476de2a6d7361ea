use Rattle.std.proofs.Common.{rules, ◌≡◌, ◌∙◌, Some, sym}
use Rattle.pip_image.proofs.RootPages.{frame_small}
use Rattle.pip_image.proofs.load.load_page.Goals as goal

pub fill_page-requires : goal.fill_page-requires
fill_page-requires g c =
    let is : c.root_frame.result ≡ Some c.unwrap-frame.result = search rules in
    rw c.requires.count (frame_small c.args.frames c.args.vpage c.unwrap-frame.result c.requires.least c.requires.most
    (sym c.root_frame.ensures ∙ is))
