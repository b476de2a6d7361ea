use Rattle.pip_io.proofs.Buffers.{part_after, part_few}
use Rattle.pip_io.proofs.window.Window.take.Goals as goal

pub returns : goal.returns
returns c =
    let self = c.args.self.now in
    part_after c.args.count self.start self.end self.bytes self.order
    (part_few c.args.count self.start self.end self.bytes c.requires)
