-- p can store to the pages of the pool that the child has not.
use Rattle.std.proofs.Common.{◌≡◌, ℕ, zero, suc, ◌+◌, ◌/◌, ◌%◌, ◌≤◌, ◌<◌, ◌==◌, ◌||◌, Bool, true, false, not, cond}
use Rattle.std.proofs.Common.{List, ◌++◌, length, refl, sym, ap, ap₂, ◌∙◌, subst, arith, eqb-true, eq-eqb, Option, Some}
use Rattle.std.proofs.Common.{None, bit_and}
use Rattle.std.specs.Prelude.{is_some, unwrap_or, option_map}
use Rattle.std.specs.List.{list_any}
use Rattle.pip_base.specs.declared.types.Access.TheVariants.{Store}
use Rattle.pip_base.specs.declared.types.Size.TheVariants.{Word}
use Rattle.pip_model.specs.Answers.{page_of}
use Rattle.pip_model.specs.Lists.{has}
use Rattle.pip_model.specs.Reach.{Hidden, Faulted, Place, reach, reach_by_row, Right, Alignment}
use Rattle.pip_model.specs.Sound.{IsSound}
use Rattle.pip_model.specs.Tree.{Node, Row, Tree, config, hidden, holds, node, row_at, row_pages, vpage}
use Rattle.pip_model.proofs.OnLists.Members.{In-append_left, find_in, has_in, in_has}
use Rattle.pip_model.proofs.Trees.Free.{IsName, hidden_from, node_found, unheld-config}
use Rattle.pip_model.proofs.Trees.Numbers.{node-numbers}
use Rattle.pip_parent.specs.declared.wants.Want.{Want}
use Rattle.pip_parent.specs.Wants.{is_bad, need, opened_before, opens, pages_used}
use Rattle.pip_parent.specs.Pool.{HasPool, pool_at}
use Rattle.pip_parent.specs.Built.{built_before, child_with, lists_more}
use Rattle.pip_parent.specs.Stages.{CanLink}
use Rattle.pip_parent.proofs.Counting.{place_opens, place_within}
use Rattle.pip_parent.proofs.Lent.{new_other, usable_at}
use Rattle.pip_parent.proofs.Seen.{same_node}
use Rattle.pip_parent.proofs.Tabled.{not_in}

write_right : (r : ℕ) → r < 8 → (bit_and 3 r == 3) ≡ true → (bit_and 2 r == 2) ≡ true
write_right zero l e = cc
write_right (suc zero) l e = cc
write_right (suc (suc zero)) l e = cc
write_right (suc (suc (suc zero))) l e = refl
write_right (suc (suc (suc (suc zero)))) l e = cc
write_right (suc (suc (suc (suc (suc zero))))) l e = cc
write_right (suc (suc (suc (suc (suc (suc zero)))))) l e = cc
write_right (suc (suc (suc (suc (suc (suc (suc zero))))))) l e = refl
write_right (suc (suc (suc (suc (suc (suc (suc (suc r)))))))) l e = absurd (let z : ⊥ = omega arith in z)

module _ (t : Tree) (p : ℕ) (pool : List ℕ) (ws : List Want) (s : IsSound t) (n : IsName t p) (h : HasPool t p pool)
    (room : need ws ≤ length pool) (i : ℕ) (low : i < length ws)
    (fits : (j : ℕ) → j < length ws → is_bad ws j ≡ false) where
  abbrev now : Tree
  now = built_before t p pool ws i

  abbrev before : Node
  before = child_with t p pool ws i i

  not_hidden : (k : ℕ) → pages_used ws i ≤ k → k < length pool → hidden now (page_of t p (pool_at pool k)) ≡ false
  not_hidden k a b = parts (has (config t.root) (page_of t p (pool_at pool k))) (has (config before)
      (page_of t p (pool_at pool k))) (list_any (λ x. has (config x) (page_of t p (pool_at pool k))) t.others) old
      (new (has (config before) (page_of t p (pool_at pool k))) refl)
    where
      parts : (a b c : Bool) → (a || c) ≡ false → b ≡ false → (a || (b || c)) ≡ false
      parts true b c e f = cc
      parts false b c e f = ap (λ z. z || c) f ∙ e

      new : (c : Bool) → has (config before) (page_of t p (pool_at pool k)) ≡ c → c ≡ false
      new false e = refl
      new true e =
          let f : holds before (page_of t p (pool_at pool k)) ≡ true =
          in_has _ (config before ++ row_pages before) (In-append_left (page_of t p (pool_at pool k))
          (config before) (row_pages before) (has_in (page_of t p (pool_at pool k)) (config before) e)) in
          let z = not_in t p pool ws s n h room now.words i low fits k a b in
          absurd (grind (arith, f, z))

      old : hidden t (page_of t p (pool_at pool k)) ≡ false
      old = go (hidden t (page_of t p (pool_at pool k))) refl
        where
          go : (c : Bool) → hidden t (page_of t p (pool_at pool k)) ≡ c → c ≡ false
          go false e = refl
          go true e =
              let (x, j, c) = hidden_from t (page_of t p (pool_at pool k)) e in
              let u = usable_at t p pool ws s n h room k b in
              let f = node_found t p n in
              absurd (unheld-config t p (page_of t p (pool_at pool k)) s (node t p) f.0 f.1 u.row u.unheld x j c)

  -- the page of a row
  reached : (k : ℕ) → pages_used ws i ≤ k → k < length pool
      → reach now p (pool_at pool k) Store Word ≡ Place (page_of now p (pool_at pool k)) 0
  reached k a b =
      let al = eqb-true (pool_at pool k % 4096) 0 (h.places k b) in
      let four : pool_at pool k % 4 ≡ 0 = omega arith in
      ap (λ c. cond (not c) (Faulted Alignment) (reach_by_row now (pool_at pool k) Store
      (row_at (node now p).rows (vpage (pool_at pool k))))) (eq-eqb (pool_at pool k % 4) 0 four)
      ∙ ap (λ x. reach_by_row now (pool_at pool k) Store (row_at x.rows (vpage (pool_at pool k)))) here
      ∙ go (row_at (node t p).rows (vpage (pool_at pool k))) refl (h.mapped k b)
      ∙ ap (λ x. Place (unwrap_or (option_map (λ r. r.frame) (row_at x.rows (vpage (pool_at pool k)))) 0) 0) (sym here)
    where
      here : node now p ≡ node t p
      here = same_node t p before now.words (new_other t p pool ws s n h room i i) refl

      go : (o : Option Row) → row_at (node t p).rows (vpage (pool_at pool k)) ≡ o → is_some o ≡ true
          → reach_by_row now (pool_at pool k) Store o
          ≡ Place (unwrap_or (option_map (λ r. r.frame) (row_at (node t p).rows (vpage (pool_at pool k)))) 0) 0
      go None e m = cc
      go (Some q) e m =
          let g : page_of t p (pool_at pool k) ≡ q.frame = ap (λ o. unwrap_or (option_map (λ r. r.frame) o) 0) e in
          let f : hidden now q.frame ≡ false = subst (λ z. hidden now z ≡ false) g (not_hidden k a b) in
          let wr : (bit_and 3 q.rights == 3) ≡ true =
          subst (λ o. (bit_and 3 (unwrap_or (option_map (λ r. r.rights) o) 0) == 3) ≡ true) e (h.writable k b) in
          let ri = ((node-numbers t s (node t p) (node_found t p n).0).rows q
          (find_in (λ r. r.at == vpage (pool_at pool k)) q (node t p).rows e).0).1 in
          let w2 = write_right q.rights ri wr in
          let al = eqb-true (pool_at pool k % 4096) 0 (h.places k b) in
          let index : pool_at pool k % 4096 / 4 ≡ 0 = omega arith in
          ap₂ (λ x y.
          cond x (Faulted Hidden) (cond (not y) (Faulted Right) (Place q.frame (pool_at pool k % 4096 / 4)))) f w2
          ∙ ap₂ (λ x y. Place x y) (sym g) index

  pub can_link : opens ws i ≡ true → CanLink now p pool (pages_used ws i) (suc (suc (lists_more (opened_before ws i))))
  can_link o m l = let q = place_within ws i low in let r = place_opens ws i o in
      reached (pages_used ws i + m) (omega arith) (omega arith)
