-- Line by line, what was taken of a text is the text of the words read so far.
use Rattle.std.specs.Prelude.{◌≡◌, ◌≢◌, refl, IfSome, ℕ, zero, suc, ◌+◌, ◌*◌, ◌/◌, ◌%◌, ◌-◌, ◌<◌, ◌≤◌, ◌^◌, ◌==◌, ◌&&◌}
use Rattle.std.specs.Prelude.{Bool, true, false, not, List, [], ◌∷◌, ◌++◌, length, flat_map, Option, Some, None, codes}
use Rattle.std.specs.Prelude.{decimal, nat_le, nat_lt, slice_index}
use Rattle.std.specs.List.{AllByRecursion, join_with_byte, list_any, slice_split}
use Rattle.std.proofs.Common.{inl, inr, ap, sym, subst, ◌∙◌, arith, cond, append_assoc, append-nil}
use Rattle.std.proofs.lemmas.Bool.Decides.{nat_tests}
use Rattle.std.proofs.lemmas.Bool.{eqb-true, eqb-false, leb-true, ltb-true}
use Rattle.std.proofs.lemmas.List.Splits.{join_with_byte-slice_split}
use Rattle.pip_base.specs.Memory.{IsMemory, Memory, put_words, word_at}
use Rattle.pip_base.proofs.Memory.{IsMemory-put_words, IsMemory-replicate_zeros, length-put_words}
use Rattle.pip_base.proofs.Memory.{length-replicate_zeros, word_at-put_words_frame, word_at-put_words_here}
use Rattle.pip_base.proofs.Memory.{word_at-put_words_index, word_at-replicate_zeros}
use Rattle.pip_model.specs.Dump.{group_text, with_frame_line, index_text, numbers_from}
use Rattle.pip_model.specs.Run.{end_line}
use Rattle.pip_model.specs.Text.{line_text}
use Rattle.pip_audit.specs.declared.core_text.line.CoreLine.{CoreLine}
use Rattle.pip_audit.specs.declared.core_text.line.CoreLine.TheVariants as L
use Rattle.pip_audit.specs.Lines.{core_line}
use Rattle.pip_audit.specs.Core.{Bad, BadAt, CoreState, CoreStep, Ends, Goes, Whole, above, after_step, at_first}
use Rattle.pip_audit.specs.Core.{core_from, core_step, core_text, is_closed, is_nothing, on_group, takes_frame}
use Rattle.pip_audit.specs.Core.{takes_group}
use Rattle.pip_audit.specs.CoreTexts.{core_words}
use Rattle.pip_audit.proofs.LinesBack.{IsTold, line_back}
use Rattle.pip_audit.proofs.Rising.{IsPlaced, and_both, goes_if, step_rises}
use Rattle.pip_audit.proofs.Canonical.{ended_frame, not_nothing, quiet_frame, quiet_group, same_group, upto}
use Rattle.pip_audit.proofs.Canonical.{upto_more, upto_next, upto_same, written_group}

abbrev next : Option ℕ → ℕ
next None = 0
next (Some i) = i / 8 + 1

all_at : (ws : List ℕ) (j : ℕ) → AllByRecursion (λ w. w < 2 ^ 32) ws → j < length ws → slice_index ws j < 2 ^ 32
all_at [] j h low = absurd (omega (arith, low))
all_at (w ∷ ws) zero h low = h.0
all_at (w ∷ ws) (suc j) h low = all_at ws j h.1 (omega (arith, low))

module _ (n c : ℕ) (is_c : c ≡ 128) where
  abbrev frame_lines : Memory → ℕ → List ℕ
  frame_lines mm f = with_frame_line f (upto (group_text (word_at mm f)) c)

  -- in frame f
  pub record AtFrame (f : ℕ) (g : Option ℕ) (mm : Memory) (taken : List ℕ) : Type 0 where
    pub low : f < n
    pub is : taken ≡ upto (frame_lines mm) f
        ++ (line_text (codes "frame " ++ decimal f) ++ upto (group_text (word_at mm f)) (next g))
    pub here : (j : ℕ) → 8 * next g ≤ j → j < 1024 → word_at mm f j ≡ 0
    pub after : (h j : ℕ) → f < h → h < n → j < 1024 → word_at mm h j ≡ 0
    pub loud : is_closed (Some f) g ≡ true → upto (group_text (word_at mm f)) (next g) ≢ []

  abbrev TextAt : Option ℕ → Option ℕ → Memory → List ℕ → Type 0
  TextAt None g mm taken = (taken ≡ []) × ((h j : ℕ) → h < n → j < 1024 → word_at mm h j ≡ 0)
  TextAt (Some f) g mm taken = AtFrame f g mm taken

  pub record Kept (s : CoreState) (taken : List ℕ) : Type 0 where
    pub shape : IsMemory s.memory
    pub count : length s.memory ≡ n
    pub small : (h j : ℕ) → h < n → j < 1024 → word_at s.memory h j < 2 ^ 32
    pub placed : IsPlaced n s.frame s.group
    pub text : TextAt s.frame s.group s.memory taken

  pub record IsUpto (f : ℕ) (mm : Memory) (taken : List ℕ) : Type 0 where
    pub is : taken ≡ upto (frame_lines mm) f
    pub none : (h j : ℕ) → f ≤ h → h < n → j < 1024 → word_at mm h j ≡ 0

  -- all frames up to one that comes
  upto_frame : (frame g : Option ℕ) (mm : Memory) (taken : List ℕ) (f : ℕ) → f ≤ n → IsPlaced n frame g
      → TextAt frame g mm taken → is_closed frame g ≡ true → IfSome frame (λ e. e < f) → IsUpto f mm taken
  upto_frame None g mm taken f low at t closed high = record {
    is = t.0 ∙ sym (upto_more (frame_lines mm) 0 f (omega arith)
        (λ h a b. quiet_frame h c (word_at mm h) is_c (λ j x. t.1 h j (omega (arith, b, low)) x)));
    none = λ h j a b x. t.1 h j b x;
  }
  upto_frame (Some e) None mm taken f low at t closed high = absurd cc
  upto_frame (Some e) (Some i) mm taken f low at t closed high =
      let most = at.even.0 in
      record {
        is = t.is
            ∙ ap (λ l. upto (frame_lines mm) e
            ++ l) (sym (ended_frame e c (i / 8 + 1) (word_at mm e) is_c (omega (arith, most)) t.here (t.loud refl)))
            ∙ sym (upto_next (frame_lines mm) e)
            ∙ sym (upto_more (frame_lines mm) (e + 1) f (omega (arith, high)) (λ h a b.
            quiet_frame h c (word_at mm h) is_c (λ j x. t.after h j (omega (arith, a)) (omega (arith, b, low)) x)));
        none = λ h j a b x. t.after h j (omega (arith, a, high)) b x;
      }

  above_some : (frame : Option ℕ) (f : ℕ) → above frame f ≡ true → IfSome frame (λ e. e < f)
  above_some None f h = tt
  above_some (Some e) f h = ltb-true e f h

  -- a frame is named
  frame_kept : (s u : CoreState) (taken line : List ℕ) (f : ℕ) → Kept s taken → IsPlaced n u.frame u.group
      → takes_frame n s.frame s.group f ≡ true
      → record { frame = Some f; group = None; memory = s.memory } ≡ u → line ≡ codes "frame " ++ decimal f
      → Kept u (taken ++ (line ++ 10 ∷ []))
  frame_kept s u taken line f k placed test is line_is =
      let closed = and_both (is_closed s.frame s.group) (above s.frame f && nat_lt f n) test in
      let tests = and_both (above s.frame f) (nat_lt f n) closed.1 in
      let low = ltb-true f n tests.1 in
      let up = upto_frame s.frame s.group s.memory taken f (omega (arith, low)) k.placed k.text closed.0
      (above_some s.frame f tests.0) in
      let at : IsPlaced n (Some f) None = subst (λ (v : CoreState). IsPlaced n v.frame v.group) (sym is) placed in
      subst (λ v. Kept v (taken ++ (line ++ 10 ∷ []))) is (record {
        shape = k.shape;
        count = k.count;
        small = k.small;
        placed = at;
        text = record {
          low = low;
          is =
              ap (λ l. l ++ (line ++ 10 ∷ [])) up.is ∙ ap (λ l. upto (frame_lines s.memory) f ++ (l ++ 10 ∷ [])) line_is
              ∙ ap (λ l. upto (frame_lines s.memory) f
              ++ l) (sym (append-nil (line_text (codes "frame " ++ decimal f))));
          here = λ j a b. up.none f j (omega arith) low b;
          after = λ h j a b x. up.none h j (omega (arith, a)) b x;
          loud = λ e. absurd cc;
        };
      })

  -- a group is written
  group_kept : (g : Option ℕ) (mm : Memory) (taken line : List ℕ) (f i : ℕ) (ws : List ℕ) → IsMemory mm → length mm ≡ n
      → ((h j : ℕ) → h < n → j < 1024 → word_at mm h j < 2 ^ 32)
      → IsPlaced n (Some f) (Some i) → IsPlaced n (Some f) g → AtFrame f g mm taken → above g i ≡ true
      → list_any (λ w. not (w == 0)) ws ≡ true → length ws ≡ 8 → AllByRecursion (λ w. w < 2 ^ 32) ws
      → line ≡ index_text i ++ codes ":" ++ core_words ws
      → Kept (record { frame = Some f; group = Some i; memory = put_words mm f i ws }) (taken ++ (line ++ 10 ∷ []))
  group_kept g mm taken line f i ws shape count small placed was t high loud size words line_is =
      record {
        shape = IsMemory-put_words mm f i ws shape inside;
        count = length-put_words mm f i ws ∙ count;
        small = small_now;
        placed = placed;
        text = record {
          low = low;
          is = ap (λ l. l ++ (line ++ 10 ∷ [])) t.is
              ∙ append_assoc (upto (frame_lines mm) f) (head ++ upto (group_text (word_at mm f)) (next g))
              (line ++ 10 ∷ [])
              ∙ ap (λ l. upto (frame_lines mm) f
              ++ l) (append_assoc head (upto (group_text (word_at mm f)) (next g)) (line ++ 10 ∷ []))
              ∙ ap (λ l. l ++ (head ++ (upto (group_text (word_at mm f)) (next g) ++ (line ++ 10 ∷ [])))) (sym before)
              ∙ ap (λ l. upto (frame_lines new) f ++ (head ++ l)) (sym groups);
          here = λ j a b. word_at-put_words_index mm f i ws j shape inside fits (inr (omega (arith, a, size, even)))
              ∙ t.here j (omega (arith, a, follows)) b;
          after = λ h j a b x. word_at-put_words_frame mm f i ws h j shape inside fits (λ e. omega (arith, e, a))
              ∙ t.after h j a b x;
          loud = λ e none. not_nothing (upto (group_text (word_at mm f)) (next g)) (48 + i / 1000) _
              (sym (groups ∙ ap (λ l. upto (group_text (word_at mm f)) (next g) ++ (l ++ 10 ∷ [])) line_is) ∙ none);
        };
      }
    where
      new : Memory
      new = put_words mm f i ws

      head : List ℕ
      head = line_text (codes "frame " ++ decimal f)

      k : ℕ
      k = i / 8

      low : f < n
      low = t.low

      most : i ≤ 1016
      most = placed.even.0

      even : 8 * (i / 8) ≡ i
      even = let e = placed.even.1 in omega (arith, e)

      inside : f < length mm
      inside = subst (λ x. f < x) (sym count) low

      fits : i + length ws ≤ 1024
      fits = omega (arith, size, most)

      follows : next g ≤ i / 8
      follows = go g was high
        where
          go : (o : Option ℕ) → IsPlaced n (Some f) o → above o i ≡ true → next o ≤ i / 8
          go None p a = omega arith
          go (Some j) p a = let l = ltb-true j i a in let x = p.even.1 in let y = placed.even.1 in
              omega (arith, l, x, y)

      before : upto (frame_lines new) f ≡ upto (frame_lines mm) f
      before = upto_same (frame_lines new) (frame_lines mm) f
          (λ h a. ap (λ w. with_frame_line h (upto (group_text w) c))
          (λ d j. word_at-put_words_frame mm f i ws h j shape inside fits (λ e. omega (arith, e, a)) d))

      groups : upto (group_text (word_at new f)) (i / 8 + 1)
          ≡ upto (group_text (word_at mm f)) (next g) ++ (line ++ 10 ∷ [])
      groups =
          upto_next (group_text (word_at new f)) (i / 8)
          ∙ ap (λ l. l ++ group_text (word_at new f) (i / 8))
          (upto_same (group_text (word_at new f)) (group_text (word_at mm f))
          (i / 8) (λ l a. same_group (word_at new f) (word_at mm f) l
          (λ j x y. word_at-put_words_index mm f i ws j shape inside fits (inl (omega (arith, y, a, even)))))
          ∙ upto_more (group_text (word_at mm f)) (next g) (i / 8) follows (λ l a b.
          quiet_group (word_at mm f) l (λ j x y. t.here j (omega (arith, x, a)) (omega (arith, y, b, even, most)))))
          ∙ ap (λ l. upto (group_text (word_at mm f)) (next g) ++ l)
          (written_group (word_at new f) (i / 8) ws size loud
          (λ j a. ap (λ x. word_at new f (x + j)) even ∙ word_at-put_words_here mm f i ws j shape inside fits a)
          ∙ ap (λ x. line_text (index_text x ++ codes ":" ++ core_words ws)) even
          ∙ ap (λ l. l ++ 10 ∷ []) (sym line_is))

      small_now : (h j : ℕ) → h < n → j < 1024 → word_at (put_words mm f i ws) h j < 2 ^ 32
      small_now h j a b = elim (h == f) as (λ t. (h == f) ≡ t → word_at (put_words mm f i ws) h j < 2 ^ 32) [
        | false ↦ λ e. subst (λ w. w
            < 2 ^ 32) (sym (word_at-put_words_frame mm f i ws h j shape inside fits (eqb-false h f e))) (small h j a b)
        | true ↦ λ e. subst (λ x. word_at (put_words mm f i ws) x j < 2 ^ 32) (sym (eqb-true h f e)) (in_frame j b)
      ] refl
        where
          in_frame : (j : ℕ) → j < 1024 → word_at (put_words mm f i ws) f j < 2 ^ 32
          in_frame j b = elim (nat_lt j i) as (λ t. nat_lt j i ≡ t → word_at (put_words mm f i ws) f j < 2 ^ 32) [
            | true ↦ λ e. let l = ltb-true j i e in
                subst (λ w. w < 2 ^ 32) (sym (word_at-put_words_index mm f i ws j shape inside fits (inl l)))
                (small f j low b)
            | false ↦ λ e.
                elim (nat_lt j (i + 8)) as (λ t. nat_lt j (i + 8) ≡ t → word_at (put_words mm f i ws) f j < 2 ^ 32) [
                  | true ↦ λ d.
                      let up : i ≤ j = grind (arith, nat_tests, e) in
                      let down = ltb-true j (i + 8) d in
                      let at : i + (j - i) ≡ j = omega (arith, up) in
                      let few : j - i < length ws = omega (arith, size, up, down) in
                      subst (λ w. w < 2 ^ 32) (sym (ap (word_at (put_words mm f i ws) f) (sym at)
                      ∙ word_at-put_words_here mm f i ws (j - i) shape inside fits few)) (all_at ws (j - i) words few)
                  | false ↦ λ d.
                      let up : i + 8 ≤ j = grind (arith, nat_tests, d) in
                      subst (λ w. w < 2 ^ 32) (sym (word_at-put_words_index mm f i ws j shape inside fits
                      (inr (omega (arith, size, up))))) (small f j low b)
                ] refl
          ] refl

  -- a line after which reading goes on
  step_kept : (s u : CoreState) (taken line : List ℕ) (l : CoreLine) → Kept s taken → IsTold line l
      → core_step n s (Some l) ≡ Goes u → Kept u (taken ++ (line ++ 10 ∷ []))
  step_kept s u taken line (L.Frame f) k told h =
      let g =
      goes_if (takes_frame n s.frame s.group f) (record { frame = Some f; group = None; memory = s.memory }) u h in
      frame_kept s u taken line f k (step_rises n s u (Some (L.Frame f)) k.placed h).placed g.0 g.1 told.is
  step_kept s u taken line (L.Group i ws) k told h = go s.frame refl k.placed k.text h
    where
      rises : IsPlaced n u.frame u.group
      rises = (step_rises n s u (Some (L.Group i ws)) k.placed h).placed

      go : (o : Option ℕ) → s.frame ≡ o → IsPlaced n o s.group → TextAt o s.group s.memory taken
          → on_group o s i ws ≡ Goes u → Kept u (taken ++ (line ++ 10 ∷ []))
      go None e p t h = absurd cc
      go (Some f) e p t h =
          let g = goes_if (takes_group s.group i ws)
          (record { frame = Some f; group = Some i; memory = put_words s.memory f i ws }) u h in
          let tests = and_both (i % 8 == 0 && nat_le i 1016) (above s.group i && list_any (λ w. not (w == 0)) ws) g.0 in
          let back = and_both (above s.group i) (list_any (λ w. not (w == 0)) ws) tests.1 in
          subst (λ v. Kept v (taken ++ (line ++ 10 ∷ []))) g.1
          (group_kept s.group s.memory taken line f i ws k.shape k.count k.small (subst (λ (v : CoreState).
          IsPlaced n v.frame v.group) (sym g.1) rises) p t back.0 back.1 told.proper.1 told.proper.2 told.is)
  step_kept s u taken line (L.End t) k told h = ends (is_closed s.frame s.group && nat_le t 10000000) h
    where
      ends : (b : Bool) → cond b (Ends s.memory) Bad ≡ Goes u → Kept u (taken ++ (line ++ 10 ∷ []))
      ends true h = absurd cc
      ends false h = absurd cc

  pub record IsWhole (bytes : List ℕ) (m : Memory) : Type 0 where
    pub shape : IsMemory m
    pub count : length m ≡ n
    pub small : (h j : ℕ) → h < length m → j < 1024 → word_at m h j < 2 ^ 32
    pub last : ℕ
    pub few : last ≤ 10000000
    pub is : bytes ≡ flat_map (frame_lines m) (numbers_from 0 n) ++ end_line last

  -- the last line
  end_kept : (s : CoreState) (m : Memory) (taken line : List ℕ) (l : CoreLine) → Kept s taken → IsTold line l
      → core_step n s (Some l) ≡ Ends m → IsWhole (taken ++ (line ++ 10 ∷ [])) m
  end_kept s m taken line (L.Frame f) k told h =
      no (takes_frame n s.frame s.group f) (record { frame = Some f; group = None; memory = s.memory }) h
    where
      no : (b : Bool) (v : CoreState) → cond b (Goes v) Bad ≡ Ends m → IsWhole (taken ++ (line ++ 10 ∷ [])) m
      no true v h = absurd cc
      no false v h = absurd cc
  end_kept s m taken line (L.Group i ws) k told h = go s.frame h
    where
      no : (b : Bool) (v : CoreState) → cond b (Goes v) Bad ≡ Ends m → IsWhole (taken ++ (line ++ 10 ∷ [])) m
      no true v h = absurd cc
      no false v h = absurd cc

      go : (o : Option ℕ) → on_group o s i ws ≡ Ends m → IsWhole (taken ++ (line ++ 10 ∷ [])) m
      go None h = absurd cc
      go (Some f) h = no (takes_group s.group i ws)
          (record { frame = Some f; group = Some i; memory = put_words s.memory f i ws }) h
  end_kept s m taken line (L.End t) k told h = go (is_closed s.frame s.group && nat_le t 10000000) refl h
    where
      under : (frame : Option ℕ) → IsPlaced n frame s.group → IfSome frame (λ e. e < n)
      under None p = tt
      under (Some f) p = p.low

      go : (b : Bool) → (is_closed s.frame s.group && nat_le t 10000000) ≡ b → cond b (Ends s.memory) Bad ≡ Ends m
          → IsWhole (taken ++ (line ++ 10 ∷ [])) m
      go false e h = absurd cc
      go true e h =
          let tests = and_both (is_closed s.frame s.group) (nat_le t 10000000) e in
          let up = upto_frame s.frame s.group s.memory taken n (omega arith) k.placed k.text tests.0
          (under s.frame k.placed) in
          let same : s.memory ≡ m = cc in
          subst (IsWhole (taken ++ (line ++ 10 ∷ []))) same (record {
            shape = k.shape;
            count = k.count;
            small = λ h j a b. k.small h j (subst (λ x. h < x) k.count a) b;
            last = t;
            few = leb-true t 10000000 tests.1;
            is = ap (λ l. l ++ (line ++ 10 ∷ [])) up.is
                ∙ ap (λ l. upto (frame_lines s.memory) n ++ (l ++ 10 ∷ [])) told.is;
          })

  nothing_is : (next : List ℕ) (lines : List (List ℕ)) → is_nothing (next ∷ lines) ≡ true
      → join_with_byte 10 (next ∷ lines) ≡ []
  nothing_is [] [] h = refl
  nothing_is [] (l ∷ ls) h = absurd cc
  nothing_is (b ∷ bs) lines h = absurd cc

  joined : (taken line : List ℕ) (next : List ℕ) (lines : List (List ℕ)) → (taken ++ (line ++ 10 ∷ []))
      ++ join_with_byte 10 (next ∷ lines) ≡ taken ++ join_with_byte 10 (line ∷ next ∷ lines)
  joined taken line next lines =
      append_assoc taken (line ++ 10 ∷ []) (join_with_byte 10 (next ∷ lines))
      ∙ ap (λ l. taken ++ l) (append_assoc line (10 ∷ []) (join_with_byte 10 (next ∷ lines)))

  run : (lines : List (List ℕ)) (l : ℕ) (s : CoreState) (taken : List ℕ) (m : Memory) → Kept s taken
      → core_from n l s lines ≡ Whole m → IsWhole (taken ++ join_with_byte 10 lines) m
  unfolding core_from
  run [] l s taken m k h = absurd cc
  run (rest ∷ []) l s taken m k h = absurd cc
  run (line ∷ next ∷ lines) l s taken m k h = by_line (core_line line) refl (run (next ∷ lines)) h
    where
      by_line : (o : Option CoreLine) → core_line line ≡ o
          → ((l : ℕ) (s : CoreState) (taken : List ℕ) (m : Memory) → Kept s taken
          → core_from n l s (next ∷ lines) ≡ Whole m → IsWhole (taken ++ join_with_byte 10 (next ∷ lines)) m)
          → after_step (core_step n s o) l (is_nothing (next ∷ lines)) (λ u. core_from n (l + 1) u (next ∷ lines))
          ≡ Whole m
          → IsWhole (taken ++ join_with_byte 10 (line ∷ next ∷ lines)) m
      by_line None e more h = absurd cc
      by_line (Some x) e more h = by_step (core_step n s (Some x)) refl h
        where
          told : IsTold line x
          told = line_back line x e

          at_end : (b : Bool) (m' : Memory) → is_nothing (next ∷ lines) ≡ b → core_step n s (Some x) ≡ Ends m' → cond b
              (Whole m') (BadAt (l + 1)) ≡ Whole m → IsWhole (taken ++ join_with_byte 10 (line ∷ next ∷ lines)) m
          at_end false m' none step h = absurd cc
          at_end true m' none step h =
              let same : m' ≡ m = cc in
              let whole = subst (IsWhole (taken ++ (line ++ 10 ∷ []))) same (end_kept s m' taken line x k told step) in
              subst (λ bs. IsWhole bs m) (sym (append-nil (taken ++ (line ++ 10 ∷ []))) ∙ ap (λ r. (taken
              ++ (line ++ 10 ∷ [])) ++ r) (sym (nothing_is next lines none)) ∙ joined taken line next lines) whole

          by_step : (st : CoreStep) → core_step n s (Some x) ≡ st
              → after_step st l (is_nothing (next ∷ lines)) (λ u. core_from n (l + 1) u (next ∷ lines)) ≡ Whole m
              → IsWhole (taken ++ join_with_byte 10 (line ∷ next ∷ lines)) m
          by_step Bad step h = absurd cc
          by_step (Goes u) step h = subst (λ bs. IsWhole bs m) (joined taken line next lines)
              (more (l + 1) u (taken ++ (line ++ 10 ∷ [])) m (step_kept s u taken line x k told step) h)
          by_step (Ends m') step h = at_end (is_nothing (next ∷ lines)) m' refl step h

  pub only_texts : (bytes : List ℕ) (m : Memory) → core_text n bytes ≡ Whole m → IsWhole bytes m
  only_texts bytes m h =
      subst (λ bs. IsWhole bs m) (join_with_byte-slice_split 10 bytes)
      (run (slice_split (λ b. b == 10) bytes) 1 (at_first n) [] m (record {
        shape = IsMemory-replicate_zeros n;
        count = length-replicate_zeros n;
        small = λ h j a b. subst (λ w. w < 2 ^ 32) (sym (word_at-replicate_zeros n h j)) (omega arith);
        placed = record { low = tt; even = tt };
        text = (refl, λ h j a b. word_at-replicate_zeros n h j);
      }) h)
