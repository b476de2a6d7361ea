use Rattle.std.proofs.Common.{arith}
use Rattle.pip_birth.proofs.DeletePartition.Writes.Base.{base_is, part_inside, small_list, small_mmu, small_self}
use Rattle.pip_birth.proofs.DeletePartition.Writes.Base.{small_shadow1, small_shadow2}
use Rattle.pip_birth.proofs.ending.base_of.Goals as goal

pub read_pair-requires : goal.read_pair-requires
read_pair-requires g c = let n = c.requires in
    record {
      frame = part_inside (g.M.Frames.memory c.args.mem.now) c.args.part n;
      index = omega arith;
      small = small_self (g.M.Frames.memory c.args.mem.now) c.args.part n.node n.cells n.is_in n.name;
    }

pub read_pair-requires-2 : goal.read_pair-requires-2
read_pair-requires-2 g c = let n = c.requires in
    record {
      frame = part_inside (g.M.Frames.memory c.args.mem.now) c.args.part n;
      index = omega arith;
      small = small_mmu (g.M.Frames.memory c.args.mem.now) c.args.part n.node n.cells n.is_in n.name;
    }

pub read_pair-requires-3 : goal.read_pair-requires-3
read_pair-requires-3 g c = let n = c.requires in
    record {
      frame = part_inside (g.M.Frames.memory c.args.mem.now) c.args.part n;
      index = omega arith;
      small = small_shadow1 (g.M.Frames.memory c.args.mem.now) c.args.part n.node n.cells n.is_in n.name;
    }

pub read_pair-requires-4 : goal.read_pair-requires-4
read_pair-requires-4 g c = let n = c.requires in
    record {
      frame = part_inside (g.M.Frames.memory c.args.mem.now) c.args.part n;
      index = omega arith;
      small = small_shadow2 (g.M.Frames.memory c.args.mem.now) c.args.part n.node n.cells n.is_in n.name;
    }

pub read_pair-requires-5 : goal.read_pair-requires-5
read_pair-requires-5 g c = let n = c.requires in
    record {
      frame = part_inside (g.M.Frames.memory c.args.mem.now) c.args.part n;
      index = omega arith;
      small = small_list (g.M.Frames.memory c.args.mem.now) c.args.part n.node n.cells n.is_in n.name;
    }

pub returns-clause-base : goal.returns-clause-base
returns-clause-base g c x cells node name =
    base_is (g.M.Frames.memory c.args.mem.now) c.args.part x cells node name c.read_pair.result c.read_pair-2.result
    c.read_pair-3.result c.read_pair-4.result c.read_pair-5.result
    c.read_pair.ensures.va c.read_pair.ensures.frame c.read_pair-2.ensures.va c.read_pair-2.ensures.frame
    c.read_pair-3.ensures.va c.read_pair-3.ensures.frame
    c.read_pair-4.ensures.va c.read_pair-4.ensures.frame c.read_pair-5.ensures.va c.read_pair-5.ensures.frame
