-- The law of slots, said of machines: what run_slots says of a plan, and the law of the model.
use Rattle.std.proofs.Common.{ℕ}
use Rattle.pip_model.specs.Acts.{after_acts}
use Rattle.pip_model.specs.Run.{image_world}
use Rattle.pip_model.specs.Tree.{Node, node}
use Rattle.pip_model.specs.Worlds.{IsSoundWorld, World}
use Rattle.pip_model.proofs.Trees.Children.{child_is}
use Rattle.pip_model.proofs.Trees.Free.{node_found}
use Rattle.pip_model.proofs.Trees.Lookup.{in_other, root_found}
use Rattle.pip_native.specs.Watching.{ready_world}
use Rattle.pip_slots.specs.Machines.{MachinesBegin, MachinesSeparate}
use Rattle.pip_slots.specs.Slots.{IsRootsChild, slot_run}
use Rattle.pip_slots.proofs.Closing.{Slotted}
use Rattle.pip_slots.proofs.Images.{images_agree, images_begin}
use Rattle.pip_slots.proofs.Kids.{Kid, kid_of, kid_other}
use Rattle.pip_slots.proofs.Slots.{run_alike}
use Rattle.pip_slots.proofs.Texts.{texts_joined}

-- a child of the root is found at its address
child_of_kid : (w : World) (d p : ℕ) → IsSoundWorld w → Kid d p w.tree → IsRootsChild w d p
child_of_kid w d p s k =
    let t = w.tree in
    let x : Node = node t p in
    record {
      node = x;
      child = rw (← k.born) (child_is t s.tree t.root.name x.name t.root x (root_found t)
          (in_other t s.tree x (kid_other d p t s.tree k)) k.up);
      name = (node_found t p k.name).1;
    }

pub machines_separate : MachinesSeparate
machines_separate d p m n m2 n2 old new old2 new2 ss t both all run run2 =
    let w = both.left in
    let v = both.right in
    let start : Slotted d p w v = record {
      left = both.between_left;
      right = both.between_right;
      kid = kid_of w d p both.between_left.sound both.child;
      guest = both.guest;
    } in
    let h = run_alike d p ss t w v start all in
    let a = run w both.stands_left in
    let b = run2 v both.stands_right in
    record {
      wrote = rw (texts_joined w ss t) a.text;
      wrote_there = rw (texts_joined v ss t) b.text;
      texts = h.texts;
      next = record {
        left = after_acts w (slot_run w ss t);
        right = after_acts v (slot_run v ss t);
        stands_left = a.world;
        stands_right = b.world;
        between_left = h.next.left;
        between_right = h.next.right;
        child = child_of_kid (after_acts w (slot_run w ss t)) d p h.next.left.sound h.next.kid;
        guest = h.next.guest;
      };
    }

pub machines_begin : MachinesBegin
machines_begin a b n k m m2 low ra rb g s s2 =
    let h = images_agree a b n k low ra rb g in (
      h.0,
      record {
        left = ready_world (image_world a) n;
        right = ready_world (image_world b) n;
        stands_left = s;
        stands_right = s2;
        between_left = (images_begin a n ra).0;
        between_right = (images_begin b n rb).0;
        child = h.1;
        guest = h.2;
      },
    )
