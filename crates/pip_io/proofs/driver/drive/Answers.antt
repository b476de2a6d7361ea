use Rattle.std.proofs.Common.{rules, arith, ℕ, [], inl, inr, ap, length, length-append, length-drop}
use Rattle.pip_io.proofs.Taken.{cut_sent, part_sent, Appends-nil}
use Rattle.pip_io.specs.Windows.{window_bytes}
use Rattle.pip_io.proofs.Driving.{last_failed, reads, flushes, starts, takes, way_of, write_failed}
use Rattle.pip_io.proofs.driver.drive.Goals as goal

pub loop-room-init : goal.loop-room-init
loop-room-init g c = record {
  is_open = λ _. c.requires.is_open;
  over = λ e. absurd (cc);
  room = omega (arith, ap length c.new-window.ensures);
  none = search rules;
  out = λ _. c.requires.none;
  loose = λ e. absurd (cc);
  done = rw c.new-window.ensures (starts _ _ c.requires.none);
}

pub returns-in-Err : goal.returns-in-Err
returns-in-Err g c =
    let was = c.loop-room.invariant in
    let wants = c.in-Read.ensures in
    let failed = c.in-Err.ensures in
    write_failed _ _ _ _ _ was.done [] _ _ (cut_sent _ _ _ [] (Appends-nil _) failed.kept failed.some.1)
    failed.cause.failed _ (g.met.M.Transducer.loose c.args.transducer.now) (inr (was.loose failed.some.0))
    (inr (was.loose failed.some.0)) (rw c.as_slice.ensures at
    (wants.leads.midway _ _ _ (wants.pending (was.loose failed.some.0))))

pub loop-room-preserved-in-Ok-eq0 : goal.loop-room-preserved-in-Ok-eq0
loop-room-preserved-in-Ok-eq0 g c =
    let was = c.loop-room.invariant in
    let wants = c.in-Read.ensures in
    let out = c.in-Ok.ensures in
    let read = c.in-Ok-eq0.ensures in
    record {
      is_open = λ e. absurd (cc);
      over = λ e. read.reads.ended (search rules);
      room = omega (
        arith,
        wants.fits,
        ap length read.reads.bytes,
        length-append {A = ℕ},
        read.reads.few,
        read.reads.size,
        ap length c.as_slice.ensures,
      );
      none = wants.none;
      out = λ _. out.none;
      loose = λ e. absurd (cc);
      done = reads _ _ _ _ _ (flushes _ _ _ _ _ was.done _ _ _ wants.leads out.kept out.cause.no_faults)
          read.reads.more _ _ _
          read.reads.read read.reads.bytes read.cause.no_faults;
    }

pub loop-room-preserved-in-Ok-read_on : goal.loop-room-preserved-in-Ok-read_on
loop-room-preserved-in-Ok-read_on g c =
    let was = c.loop-room.invariant in
    let wants = c.in-Read.ensures in
    let out = c.in-Ok.ensures in
    let read = c.in-Ok-read_on.ensures in
    record {
      is_open = λ e. search (rules, arith);
      over = λ e. absurd (cc (wants.unended, e));
      room = omega (
        arith,
        wants.fits,
        ap length read.reads.bytes,
        length-append {A = ℕ},
        read.reads.few,
        read.reads.size,
        ap length c.as_slice.ensures,
      );
      none = wants.none;
      out = λ _. out.none;
      loose = λ e. absurd (cc);
      done = reads _ _ _ _ _ (flushes _ _ _ _ _ was.done _ _ _ wants.leads out.kept out.cause.no_faults)
          read.reads.more _ _ _
          read.reads.read read.reads.bytes read.cause.no_faults;
    }

pub loop-room-preserved-in-Ok-write_pieces : goal.loop-room-preserved-in-Ok-write_pieces
loop-room-preserved-in-Ok-write_pieces g c =
    let was = c.loop-room.invariant in
    let says = c.in-Say.ensures in
    let wrote = c.in-Ok-write_pieces.ensures in
    record {
      is_open = was.is_open;
      over = was.over;
      room = omega (
        arith,
        ap length c.take.ensures,
        length-drop c.in-Say.count (window_bytes c.loop-room.window),
        says.takes.rest,
        ap length c.as_slice.ensures,
      );
      none = search rules;
      out = λ e. absurd (cc);
      loose = λ _. says.loose;
      done = takes _ _ _ _ _ was.done _ c.in-Say.count _ _ _ _ (rw c.as_slice.ensures at says.takes.leads)
          c.take.ensures (wrote.whole) wrote.cause.no_faults;
    }

pub returns-in-Err-write_pieces : goal.returns-in-Err-write_pieces
returns-in-Err-write_pieces g c =
    let was = c.loop-room.invariant in
    let failed = c.in-Err-write_pieces.ensures in
    write_failed _ _ _ _ _ was.done _ _ _ (part_sent _ _ _ failed.prefix)
    failed.cause.failed _ (g.met.M.Transducer.loose c.args.transducer.now)
    (way_of _ _ c.loop-room.buffered was.out was.loose) (inr c.in-Say.ensures.loose)
    (rw c.as_slice.ensures at c.in-Say.ensures.takes.midway)

pub loop-room-preserved : goal.loop-room-preserved
loop-room-preserved g c =
    let was = c.loop-room.invariant in
    let took = c.in-Write.ensures in
    let wrote = c.in-Ok-write_text.ensures in
    record {
      is_open = was.is_open;
      over = was.over;
      room = omega (
        arith,
        ap length c.take-in-Ok-write_text.ensures,
        length-drop c.in-Write.count
            (window_bytes c.loop-room.window),
        took.rest,
        ap length c.as_slice.ensures,
      );
      none = search rules;
      out = λ _. wrote.none;
      loose = λ e. absurd (cc);
      done = takes _ _ _ _ _ was.done _ c.in-Write.count _ _ _ _ (rw c.as_slice.ensures at took.leads)
          c.take-in-Ok-write_text.ensures (wrote.whole) wrote.cause.no_faults;
    }

pub returns-in-Err-write_text : goal.returns-in-Err-write_text
returns-in-Err-write_text g c =
    let was = c.loop-room.invariant in
    let failed = c.in-Err-write_text.ensures in
    write_failed _ _ _ _ _ was.done _ _ _ failed.part failed.cause.failed
    _ (g.met.M.Transducer.loose c.args.transducer.now)
    (way_of _ _ c.loop-room.buffered was.out was.loose)
    (elim failed.some [
      | inl some ↦ inl some
      | inr buffered ↦ inr (was.loose buffered)
    ])
    (rw c.as_slice.ensures at c.in-Write.ensures.midway)

pub returns-in-Err-write_text-2 : goal.returns-in-Err-write_text-2
returns-in-Err-write_text-2 g c =
    let was = c.loop-room.invariant in
    let failed = c.in-Err-write_text-2.ensures in
    let is = c.in-End.ensures in
    last_failed _ _ _ _ _ was.done _ _ _ failed.part failed.cause.failed _
    (g.met.M.Transducer.loose c.args.transducer.now) (way_of _ _ c.loop-room.buffered was.out was.loose)
    (elim failed.some [
      | inl some ↦ inl some
      | inr buffered ↦ inr (was.loose buffered)
    ]) c.in-End.last (rw c.as_slice.ensures at is.is) (elim is.decided [
      | inl enough ↦ inl (rw c.as_slice.ensures at enough)
      | inr over ↦ inr (was.over over)
    ])
