use Rattle.std.proofs.Common.{◌≡◌, ◌≤◌, ◌+◌, ◌*◌, ◌-◌, [], true, false, cond, length}
use Rattle.std.specs.Io.KnownBytes.{IsAtEnd}
use Rattle.pip_io.specs.Moments.{streams}
use Rattle.pip_io.specs.Texts.{text_bytes}
use Rattle.pip_io.specs.Windows.{window_bytes}
use Rattle.pip_io.proofs.Driving.{Driving}
use Rattle.pip_io.proofs.driver.drive.Given as goal

abbrev pub invariant-loop-room : goal.invariant-loop-room
invariant-loop-room g l =
    let all = streams g.S.Source.history g.K.Sink.history in
    record {
      is_open : l.ended ≡ false → g.S.Source.is_open l.source;
      over : l.ended ≡ true → IsAtEnd (g.S.Source.history l.source).left;
      room : length (window_bytes l.window) ≤ g.M.Transducer.room l.transducer;
      none : text_bytes l.text ≡ [];
      out : l.buffered ≡ false → (g.K.Sink.history l.sink).written.buffered ≡ [];
      loose : l.buffered ≡ true → g.M.Transducer.is_loose ≡ true;
      done : Driving (g.M.Transducer.due l.fn.transducer) (g.M.Transducer.due l.transducer)
          (window_bytes l.window) (all l.fn.source l.fn.sink) (all l.source l.sink);
    }

abbrev pub decreases-loop-room : goal.decreases-loop-room
decreases-loop-room g l = 16386 * g.M.Transducer.parts l.transducer +
    (16384 - length (window_bytes l.window)) + cond l.ended 0 1
