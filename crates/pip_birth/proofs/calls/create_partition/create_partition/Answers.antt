use Rattle.std.proofs.Common.{◌∙◌, ap, arith}
use Rattle.pip_model.specs.Answers.{accept, answer_unless, five_of}
use Rattle.pip_model.specs.CreatePartition.{create_partition, tree_with_newborn}
use Rattle.pip_model.proofs.Calls.Create.{create-sound}
use Rattle.pip_model.proofs.Trees.Lookup.{found_is_name}
use Rattle.pip_kern.proofs.Calls.{accepted-does, refused-does}
use Rattle.pip_birth.proofs.CreatePartition.Call.{base_frames, created_in, created_laid, first_can, first_some}
use Rattle.pip_birth.proofs.CreatePartition.Call.{others_can}
use Rattle.pip_birth.proofs.calls.create_partition.create_partition.Goals as goal

pub returns-in-Err-clause-does : goal.returns-in-Err-clause-does
returns-in-Err-clause-does g c =
    let p = c.args.caller in
    let a = five_of c.args.pages.now in
    refused-does p (λ t. create_partition t p a) (g.M.Frames.memory c.args.mem.now) c.in-Err.status
    (λ t x s lays found.
    rw (c.in-Err.ensures.tested t x s lays found))

pub give_page-requires-clause-can : goal.give_page-requires-clause-can
give_page-requires-clause-can g c =
    let r = c.requires in
    first_can r.tree r.sound c.args.caller r.node r.found c.args.pages.now c.in-Ok.base
    (c.in-Ok.ensures.tested r.tree r.node r.sound r.laid r.found)
    (g.M.Frames.memory c.args.mem.now) r.laid c.of_address-born.result c.of_address-born.ensures

pub give_page-requires-clause-given : goal.give_page-requires-clause-given
give_page-requires-clause-given g c =
    let r = c.requires in
    let place = c.of_address-born.ensures in (
      omega arith,
      first_some r.tree r.sound c.args.caller r.node r.found c.args.pages.now c.in-Ok.base
          (c.in-Ok.ensures.tested r.tree r.node r.sound r.laid r.found)
          (g.M.Frames.memory c.args.mem.now) r.laid c.of_address-born.result place,
    )

pub give_pages-requires-clause-can : goal.give_pages-requires-clause-can
give_pages-requires-clause-can g c =
    let r = c.requires in
    others_can r.tree r.sound c.args.caller r.node r.found c.args.pages.now c.in-Ok.base
    (c.in-Ok.ensures.tested r.tree r.node r.sound r.laid r.found)
    (g.M.Frames.memory c.args.mem.now) r.laid c.of_address-born.result c.of_address-born.ensures
    (g.M.Frames.memory c.give_page.new.mem) c.give_page.ensures.given c.as_slice.result.now c.as_slice.ensures

pub give_pages-requires-clause-place : goal.give_pages-requires-clause-place
give_pages-requires-clause-place g c =
    let r = c.requires in
    first_some r.tree r.sound c.args.caller r.node r.found c.args.pages.now c.in-Ok.base
    (c.in-Ok.ensures.tested r.tree r.node r.sound r.laid r.found)
    (g.M.Frames.memory c.args.mem.now) r.laid c.of_address-born.result c.of_address-born.ensures

pub write_newborn-requires : goal.write_newborn-requires
write_newborn-requires g c =
    let r = c.requires in
    base_frames r.tree r.sound c.args.caller r.node r.found c.args.pages.now c.in-Ok.base
    (c.in-Ok.ensures.tested r.tree r.node r.sound r.laid r.found)
    (g.M.Frames.memory c.args.mem.now) r.laid c.of_address-born.result c.of_address-born.ensures
    (g.M.Frames.memory c.give_page.new.mem) c.give_page.ensures.given c.as_slice.result.now c.as_slice.ensures
    (g.M.Frames.memory c.give_pages.new.mem) c.give_pages.ensures.given

pub returns-clause-does : goal.returns-clause-does
returns-clause-does g c =
    let p = c.args.caller in
    let a = five_of c.args.pages.now in
    accepted-does p (λ t. create_partition t p a) 0 (λ t. tree_with_newborn t p a) (g.M.Frames.memory c.args.mem.now)
    (g.M.Frames.memory c.write_newborn.new.mem)
    (c.write_newborn.ensures.count ∙ (c.give_pages.ensures.count ∙ c.give_page.ensures.count))
    (λ t x s lays found.
    ap (λ o. answer_unless t o (accept 0 (tree_with_newborn t p a))) (c.in-Ok.ensures.tested t x s lays found).0)
    (λ t x s lays found. create-sound t p a s (found_is_name t p x found))
    (λ t x s lays found.
    created_laid t s p x found c.args.pages.now c.in-Ok.base (c.in-Ok.ensures.tested t x s lays found)
    (g.M.Frames.memory c.args.mem.now) lays c.of_address-born.result c.of_address-born.ensures
    (g.M.Frames.memory c.give_page.new.mem) c.give_page.ensures.given c.as_slice.result.now c.as_slice.ensures
    (g.M.Frames.memory c.give_pages.new.mem) c.give_pages.ensures.given
    (g.M.Frames.memory c.write_newborn.new.mem) c.write_newborn.ensures.node)

pub returns-clause-chain : goal.returns-clause-chain
returns-clause-chain g c t x s lays found =
    omega (
      arith,
      created_in t s c.args.caller x found c.args.pages.now c.in-Ok.base
          (c.in-Ok.ensures.tested t x s lays found) (g.M.Frames.memory c.args.mem.now) lays c.of_address-born.result
          c.of_address-born.ensures (g.M.Frames.memory c.give_page.new.mem) c.give_page.ensures.given
          c.as_slice.result.now c.as_slice.ensures _ c.give_page.new.steps _ c.give_page.ensures.chain
          c.give_pages.ensures.chain,
    )
