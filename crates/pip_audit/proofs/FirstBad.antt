-- The line that is named is the first bad one.
use Rattle.std.specs.Prelude.{◌≡◌, ◌⊎◌, refl, ℕ, ◌+◌, ◌<◌, ◌==◌, ◌||◌, Bool, true, false, List, [], ◌∷◌, ◌++◌, length}
use Rattle.std.specs.Prelude.{flat_map, Option, Some, None}
use Rattle.std.specs.List.{AllByRecursion, join_with_byte, list_any, onto_first}
use Rattle.std.proofs.Common.{inl, inr, ap, sym, ◌∙◌, arith, cond, append_assoc, append-nil}
use Rattle.std.proofs.lemmas.List.Splits.{join_with_byte-slice_split}
use Rattle.pip_base.specs.Memory.{Memory, put_words}
use Rattle.pip_script.specs.Lines.{HasNoNewline}
use Rattle.pip_model.specs.Run.{end_line}
use Rattle.pip_model.specs.Text.{line_text}
use Rattle.pip_audit.specs.Lines.{core_line}
use Rattle.pip_audit.specs.Core.{Bad, BadAt, CoreState, CoreStep, Ends, Goes, Whole, after_step, at_first}
use Rattle.pip_audit.specs.Core.{core_after, core_from, core_step, core_text, is_nothing}
use Rattle.pip_audit.specs.CoreLaws.{BeginsWith, IsFirstBad}
use Rattle.pip_audit.proofs.LineTexts.{group_body, group_plain}
use Rattle.pip_audit.proofs.Reading.{line_follows}
use Rattle.pip_audit.proofs.RoundTrip.{end_ends, group_goes, line_goes}
use Rattle.pip_audit.proofs.Splitting.{has_part, some_parts, split}

-- ---- parts

first_plain : (b : ℕ) (parts : List (List ℕ)) → (b == 10) ≡ false → AllByRecursion HasNoNewline parts
    → AllByRecursion HasNoNewline (onto_first b parts)
first_plain b [] h a = (ap (λ t. t || false) h, tt)
first_plain b (p ∷ ps) h a = (ap (λ t. t || list_any (λ c. c == 10) p) h ∙ a.0, a.1)

pub parts_plain : (bytes : List ℕ) → AllByRecursion HasNoNewline (split bytes)
parts_plain [] = (refl, tt)
parts_plain (b ∷ bs) =
    let more : List (List ℕ) = split bs in
    elim (b == 10) as (λ t. (b == 10) ≡ t → AllByRecursion HasNoNewline (cond t ([] ∷ more) (onto_first b more))) [
      | true ↦ λ e. (refl, parts_plain bs)
      | false ↦ λ e. first_plain b more e (parts_plain bs)
    ] refl

all_more : (ls : List (List ℕ)) (l : List ℕ) → AllByRecursion HasNoNewline ls → HasNoNewline l
    → AllByRecursion HasNoNewline (ls ++ l ∷ [])
all_more [] l a h = (h, tt)
all_more (x ∷ ls) l a h = (a.0, all_more ls l a.1 h)

flat_more : (ls : List (List ℕ)) (l : List ℕ) → flat_map line_text (ls ++ l ∷ []) ≡ flat_map line_text ls ++ line_text l
flat_more [] l = append-nil (line_text l)
flat_more (x ∷ ls) l =
    ap (λ r. line_text x ++ r) (flat_more ls l) ∙ sym (append_assoc (line_text x) (flat_map line_text ls) (line_text l))

count_more : (ls : List (List ℕ)) (l : List ℕ) → length (ls ++ l ∷ []) ≡ length ls + 1
count_more [] l = refl
count_more (x ∷ ls) l = let c = count_more ls l in omega (arith, c)

-- the first of the parts that are left
begins_parts : (part : List ℕ) (parts : List (List ℕ)) → HasNoNewline part
    → BeginsWith part (join_with_byte 10 (part ∷ parts))
begins_parts part [] h = record { plain = h; is = inl refl }
begins_parts part (q ∷ qs) h = record { plain = h; is = inr (join_with_byte 10 (q ∷ qs), refl) }

-- ---- any place can be gone on from

abbrev ones : ℕ → ℕ → ℕ
ones f i = 1

pub record CanEnd (n l : ℕ) (s : CoreState) : Type 0 where
  pub rest : List ℕ
  pub memory : Memory
  pub is : core_after n l s rest ≡ Whole memory

pub can_end : (n l : ℕ) (frame group : Option ℕ) (mm : Memory)
    → CanEnd n l (record { frame = frame; group = group; memory = mm })
can_end n l None g mm = record {
  rest = end_line 0;
  memory = mm;
  is = end_ends n ones l 0 (record { frame = None; group = g; memory = mm }) (omega arith) refl;
}
can_end n l (Some f) (Some i) mm = record {
  rest = end_line 0;
  memory = mm;
  is = end_ends n ones l 0 (record { frame = Some f; group = Some i; memory = mm }) (omega arith) refl;
}
can_end n l (Some f) None mm =
    let new = put_words mm f 0 (1 ∷ 1 ∷ 1 ∷ 1 ∷ 1 ∷ 1 ∷ 1 ∷ 1 ∷ []) in
    record {
      rest = (group_body (ones f) 0 ++ 10 ∷ []) ++ end_line 0;
      memory = new;
      is = line_goes n ones l (record { frame = Some f; group = None; memory = mm })
          (record { frame = Some f; group = Some 0; memory = new }) (group_body (ones f) 0) (end_line 0) (Whole new)
          (group_plain (ones f) 0)
          (group_goes n ones f 0 None mm (omega arith) (λ i h. omega arith) refl refl)
          (end_ends n ones (l + 1) 0 (record { frame = Some f; group = Some 0; memory = new }) (omega arith) refl);
    }

-- ---- the lines, one by one

module _ (n : ℕ) where
  -- lines that were read, and where they lead
  pub record Passed (l : ℕ) (s : CoreState) (lines : List (List ℕ)) : Type 0 where
    pub number : length lines + 1 ≡ l
    pub plain : AllByRecursion HasNoNewline lines
    pub is : (rest : List ℕ) → core_text n (flat_map line_text lines ++ rest) ≡ core_after n l s rest

  pass : (l : ℕ) (s : CoreState) (lines : List (List ℕ)) (line rest : List ℕ) → Passed l s lines → HasNoNewline line
      → core_text n (flat_map line_text (lines ++ line ∷ []) ++ rest)
      ≡ after_step (core_step n s (core_line line)) l (is_nothing (split rest)) (λ u. core_after n (l + 1) u rest)
  pass l s lines line rest p h =
      ap (λ bs. core_text n (bs ++ rest)) (flat_more lines line)
      ∙ ap (core_text n) (append_assoc (flat_map line_text lines) (line_text line) rest)
      ∙ p.is (line_text line ++ rest)
      ∙ line_follows n l s line rest h

  no_whole : (k : ℕ) (m : Memory) → BadAt k ≡ Whole m → ⊥
  no_whole k m h = cc

  same_number : (a b : ℕ) → BadAt a ≡ BadAt b → a ≡ b
  same_number a b h = cc

  at_line : (bytes : List ℕ) (k l : ℕ) (s : CoreState) (lines : List (List ℕ)) (part : List ℕ) (parts : List (List ℕ))
      → Passed l s lines → bytes ≡ flat_map line_text lines ++ join_with_byte 10 (part ∷ parts) → HasNoNewline part
      → l ≡ k → (join_with_byte 10 (part ∷ parts) ≡ part) ⊎ (core_step n s (core_line part) ≡ Bad)
      → IsFirstBad n bytes k
  at_line bytes k l s lines part parts p is plain same why =
      let c = can_end n l s.frame s.group s.memory in
      record {
        lines = lines;
        back = join_with_byte 10 (part ∷ parts);
        is = is;
        number = p.number ∙ same;
        plain = p.plain;
        good = (c.rest, c.memory, p.is c.rest ∙ c.is);
        line = part;
        begins = begins_parts part parts plain;
        bad = elim why [
          | inl e ↦ inl e
          | inr e ↦ inr (λ rest m h. no_whole l m
              (sym (ap (λ bs. core_text n (bs ++ rest)) (sym (flat_more lines part)) ∙ pass l s lines part rest p plain
              ∙ ap (λ t. after_step t l (is_nothing (split rest)) (λ u. core_after n (l + 1) u rest)) e) ∙ h))
        ];
      }

  -- after the last line
  after_last : (bytes : List ℕ) (k l : ℕ) (s : CoreState) (lines : List (List ℕ)) (line part : List ℕ)
      (parts : List (List ℕ)) (mm : Memory) → Passed l s lines → HasNoNewline line → HasNoNewline part
      → bytes ≡ flat_map line_text (lines ++ line ∷ []) ++ join_with_byte 10 (part ∷ parts)
      → core_step n s (core_line line) ≡ Ends mm → l + 1 ≡ k → IsFirstBad n bytes k
  after_last bytes k l s lines line part parts mm p h plain is step same =
      let on : (rest : List ℕ) → core_text n (flat_map line_text (lines ++ line ∷ []) ++ rest)
      ≡ cond (is_nothing (split rest)) (Whole mm) (BadAt (l + 1)) =
      λ rest. pass l s lines line rest p h
      ∙ ap (λ t. after_step t l (is_nothing (split rest)) (λ u. core_after n (l + 1) u rest)) step in
      let number = p.number in
      record {
        lines = lines ++ line ∷ [];
        back = join_with_byte 10 (part ∷ parts);
        is = is;
        number = let c = count_more lines line in omega (arith, c, number, same);
        plain = all_more lines line p.plain h;
        good = ([], mm, on []);
        line = part;
        begins = begins_parts part parts plain;
        bad = inr (λ rest m e. no_whole (l + 1) m (sym (ap (core_text n)
            (append_assoc (flat_map line_text (lines ++ line ∷ [])) (line_text part) rest) ∙ on (line_text part ++ rest)
            ∙ ap (λ t. cond t (Whole mm) (BadAt (l + 1))) (some_parts (line_text part) rest (some_line part))) ∙ e));
      }
    where
      some_line : (xs : List ℕ) → 0 < length (line_text xs)
      some_line [] = omega arith
      some_line (x ∷ xs) = omega arith

  run : (bytes : List ℕ) (k : ℕ) (parts : List (List ℕ)) (l : ℕ) (s : CoreState) (lines : List (List ℕ))
      → 0 < length parts → AllByRecursion HasNoNewline parts → Passed l s lines
      → bytes ≡ flat_map line_text lines ++ join_with_byte 10 parts → core_from n l s parts ≡ BadAt k
      → IsFirstBad n bytes k
  unfolding core_from
  run bytes k [] l s lines some plain p is h = absurd (omega (arith, some))
  run bytes k (part ∷ []) l s lines some plain p is h =
      at_line bytes k l s lines part [] p is plain.0 (same_number l k h) (inl refl)
  run bytes k (part ∷ next ∷ parts) l s lines some plain p is h =
      go (core_step n s (core_line part)) refl (run bytes k (next ∷ parts)) h
    where
      is_more : bytes ≡ flat_map line_text (lines ++ part ∷ []) ++ join_with_byte 10 (next ∷ parts)
      is_more =
          is
          ∙ ap (λ r. flat_map line_text lines
          ++ r) (sym (append_assoc part (10 ∷ []) (join_with_byte 10 (next ∷ parts))))
          ∙ sym (append_assoc (flat_map line_text lines) (line_text part) (join_with_byte 10 (next ∷ parts)))
          ∙ ap (λ r. r ++ join_with_byte 10 (next ∷ parts)) (sym (flat_more lines part))

      over : (b : Bool) (mm : Memory) → cond b (Whole mm) (BadAt (l + 1)) ≡ BadAt k → l + 1 ≡ k
      over true mm h = absurd cc
      over false mm h = cc

      go : (st : CoreStep) → core_step n s (core_line part) ≡ st
          → ((l : ℕ) (s : CoreState) (lines : List (List ℕ)) → 0 < length (next ∷ parts)
          → AllByRecursion HasNoNewline (next ∷ parts) → Passed l s lines
          → bytes ≡ flat_map line_text lines ++ join_with_byte 10 (next ∷ parts)
          → core_from n l s (next ∷ parts) ≡ BadAt k → IsFirstBad n bytes k)
          → after_step st l (is_nothing (next ∷ parts)) (λ u. core_from n (l + 1) u (next ∷ parts)) ≡ BadAt k
          → IsFirstBad n bytes k
      go Bad e more h = at_line bytes k l s lines part (next ∷ parts) p is plain.0 (same_number l k h) (inr e)
      go (Goes u) e more h =
          more (l + 1) u (lines ++ part ∷ []) (omega arith) plain.1 (record {
            number = let c = count_more lines part in let a = p.number in omega (arith, c, a);
            plain = all_more lines part p.plain plain.0;
            is = λ rest. pass l s lines part rest p plain.0
                ∙ ap (λ t. after_step t l (is_nothing (split rest)) (λ u. core_after n (l + 1) u rest)) e;
          }) is_more h
      go (Ends mm) e more h = after_last bytes k l s lines part next parts mm p plain.0 plain.1.0 is_more e
          (over (is_nothing (next ∷ parts)) mm h)

pub first_bad : (n : ℕ) (bytes : List ℕ) (k : ℕ) → core_text n bytes ≡ BadAt k → IsFirstBad n bytes k
first_bad n bytes k h =
    run n bytes k (split bytes) 1 (at_first n) [] (has_part bytes) (parts_plain bytes) (record {
      number = refl;
      plain = tt;
      is = λ rest. refl;
    }) (sym (join_with_byte-slice_split 10 bytes)) h
