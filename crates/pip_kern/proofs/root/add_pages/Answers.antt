use Rattle.std.proofs.Common.{arith, sym, subst, refl, ◌≡◌, ℕ, ◌+◌, ◌-◌, ◌≤◌}
use Rattle.pip_model.specs.Boot.{boot_root, boot_tree, first_user}
use Rattle.pip_model.specs.FullRows.{full_rows}
use Rattle.pip_model.proofs.Trees.Boot.{root-frame_last}
use Rattle.pip_kern.specs.Boot.{HoldsRoot, pages_from}
use Rattle.pip_kern.proofs.RootFilled.{frame_at_place, has_room, mapped, no_pages, pages_all, pages_more}
use Rattle.pip_kern.proofs.root.add_pages.Goals as goal

-- what the memory's number of frames says of the argument
least_is : (n k : ℕ) → n ≡ k → 16 ≤ k → 16 ≤ n
least_is n k e h = omega arith

most_is : (n k : ℕ) → n ≡ k → k ≤ 4096 → n ≤ 4096
most_is n k e h = omega arith

pub loop-f-init : goal.loop-f-init
loop-f-init g c =
    no_pages c.args.n (c.args.first - c.args.first) (g.M.Frames.memory c.args.mem.now) (omega arith) c.requires.root

pub map-requires-clause-room : goal.map-requires-clause-room
map-requires-clause-room g c =
    let least = least_is c.args.n _ c.requires.count (g.met.M.Frames.bounds c.args.mem.now).0 in
    let most = most_is c.args.n _ c.requires.count (g.met.M.Frames.bounds c.args.mem.now).1 in
    let first = c.requires.first in
    let low = c.loop-f.auto.f in
    let test = c.loop-f-test.true in
    has_room c.args.n least most (pages_from (first_user c.args.n) (c.loop-f.f - c.args.first))
    (g.M.Frames.memory c.loop-f.mem) c.loop-f.invariant (1024 + (c.loop-f.f - c.args.first)) c.loop-f.f
    (frame_at_place c.args.n least most (1024 + (c.loop-f.f - c.args.first)) c.loop-f.f (omega arith) (omega arith)
    (omega arith))
    c.new-root.result c.new.result c.new-root.ensures (sym c.new.ensures)

pub loop-f-preserved : goal.loop-f-preserved
loop-f-preserved g c =
    let least = least_is c.args.n _ c.requires.count (g.met.M.Frames.bounds c.args.mem.now).0 in
    let most = most_is c.args.n _ c.requires.count (g.met.M.Frames.bounds c.args.mem.now).1 in
    let first = c.requires.first in
    let low = c.loop-f.auto.f in
    let test = c.loop-f-test.true in
    let next : c.loop-f.f - c.args.first + 1 ≡ c.loop-f.f + 1 - c.args.first = omega arith in
    rw (← next) (mapped c.args.n least most (pages_from (first_user c.args.n) (c.loop-f.f - c.args.first))
    (g.M.Frames.memory c.loop-f.mem) c.loop-f.invariant (1024 + (c.loop-f.f - c.args.first)) c.loop-f.f
    (frame_at_place c.args.n least most (1024 + (c.loop-f.f - c.args.first)) c.loop-f.f (omega arith)
    (omega arith) (omega arith)) (g.M.Frames.memory c.map.new.mem) c.new-root.result c.new.result _
    (pages_from (first_user c.args.n) (c.loop-f.f - c.args.first + 1)) c.new-root.ensures
    (sym c.new.ensures) c.user_row.ensures
    (pages_more (first_user c.args.n) (c.loop-f.f - c.args.first)
    (1024 + (c.loop-f.f - c.args.first)) c.loop-f.f refl (omega arith)) c.map.ensures.rows
    c.map.ensures.others)

pub map-requires-2-clause-room : goal.map-requires-2-clause-room
map-requires-2-clause-room g c =
    let least = least_is c.args.n _ c.requires.count (g.met.M.Frames.bounds c.args.mem.now).0 in
    let most = most_is c.args.n _ c.requires.count (g.met.M.Frames.bounds c.args.mem.now).1 in
    has_room c.args.n least most (pages_from (first_user c.args.n)
    (c.loop-f.f - c.args.first)) (g.M.Frames.memory c.loop-f.mem) c.loop-f.invariant 1048575 (c.args.n - 1)
    (root-frame_last c.args.n 1048575 (c.args.n - 1) least most refl refl)
    c.new-root.result c.new-2.result c.new-root.ensures (sym c.new-2.ensures)

pub returns : goal.returns
returns g c =
    let least = least_is c.args.n _ c.requires.count (g.met.M.Frames.bounds c.args.mem.now).0 in
    let most = most_is c.args.n _ c.requires.count (g.met.M.Frames.bounds c.args.mem.now).1 in
    let first = c.requires.first in
    let low = c.loop-f.auto.f in
    let high = c.loop-f.auto.f-end in
    let test = c.loop-f-test.false in
    mapped c.args.n least most (pages_from (first_user c.args.n)
    (c.loop-f.f - c.args.first)) (g.M.Frames.memory c.loop-f.mem) c.loop-f.invariant 1048575 (c.args.n - 1)
    (root-frame_last c.args.n 1048575 (c.args.n - 1) least most refl refl)
    (g.M.Frames.memory c.map-2.new.mem) c.new-root.result c.new-2.result _ (full_rows (boot_tree c.args.n)
    (boot_root c.args.n)) c.new-root.ensures (sym c.new-2.ensures) c.user_row-2.ensures
    (pages_all c.args.n least most 1048575 (c.args.n - 1) (c.loop-f.f - c.args.first) refl refl (omega arith))
    c.map-2.ensures.rows c.map-2.ensures.others
