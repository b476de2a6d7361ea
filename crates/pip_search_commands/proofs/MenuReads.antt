-- How a menu is read, line by line.
use Rattle.std.proofs.Common.{◌≡◌, ℕ, ◌+◌, ◌-◌, ◌*◌, ◌^◌, ◌≤◌, ◌<◌, inl, inr, Option, List, [], ◌∷◌, ◌++◌}
use Rattle.std.proofs.Common.{length, take, drop, Ok, Err, refl, sym, ap, subst, append-nil, append_assoc, arith}
use Rattle.std.proofs.Common.{length-append, nat_le, nat_lt, cond, ◌&&◌, Bool, true, false}
use Rattle.std.specs.Prelude.{Result}
use Rattle.std.specs.Io.KnownBytes.{Consumes, Keeps, prepend_known}
use Rattle.std.proofs.KnownBytes.{Consumes-trans, Keeps-refl}
use Rattle.std.proofs.lemmas.Bool.{leb-true}
use Rattle.std.proofs.lemmas.List.{length-take-le, take-append-drop, take_all}
use Rattle.pip_audit.specs.CoreRead.{AreWholeLines}
use Rattle.pip_script.specs.Held.{Held}
use Rattle.pip_script.specs.Lines.{HasNoNewline, HoldsLine, HoldsPart, IsLineless, still}
use Rattle.pip_script.specs.declared.input.LineEnd.TheVariants.{End, Last, Newline, Over, TooLong}
use Rattle.pip_script.proofs.LinesOf.{Begins, begins, lines_last, lines_newline}
use Rattle.pip_script.proofs.Taking.{all_read, line_split, took_line}
use Rattle.pip_model.specs.Grammar.{lines_of}
use Rattle.pip_search_commands.specs.MenuReading.{BeginsMenu, TakesBadLine, TakesGoodLines, TakesMenu}
use Rattle.pip_search_commands.specs.MenuText.{Asks, Does, Frees, MenuSaid, Nothing, Said, any_said, can_add}
use Rattle.pip_search_commands.specs.MenuText.{goes_on_after, line_said, menu_from, menu_of, with_freedom}
use Rattle.pip_search_commands.specs.MenuText.{with_line, with_question}
use Rattle.pip_search_commands.specs.declared.commands.against.menu_line.MenuKind.{MenuKind}
use Rattle.pip_search_commands.specs.declared.commands.against.menu_line.MenuKind.TheVariants.{Long, Many}

-- ---- the first of some lines

-- what comes of line n and the further ones, where line n comes to this
came_to : (n : ℕ) (menu : MenuSaid) (line : List ℕ) (lines : List (List ℕ)) (r : Result MenuSaid MenuKind)
    → with_line n menu (line_said line) ≡ r
    → menu_from n menu (line ∷ lines) ≡ goes_on_after n r (λ more. menu_from (n + 1) more lines)
came_to n menu line lines r is = rw is

long_said : (line : List ℕ) → 120 < length line → line_said line ≡ Err Long
long_said line long = go (nat_le (length line) 120) refl
  where
    go : (b : Bool) → nat_le (length line) 120 ≡ b → cond b (any_said line) (Err Long) ≡ Err Long
    go true e = let l = leb-true (length line) 120 e in absurd (omega arith)
    go false e = refl

-- where there is room, too
few_with : (n : ℕ) (room : Bool) (menu more : MenuSaid)
    → cond (nat_le n 65536 && room) (Ok menu) (Err Many) ≡ Ok more → n ≤ 65536
few_with n room menu more is = go (nat_le n 65536) refl is
  where
    go : (b : Bool) → nat_le n 65536 ≡ b → cond (b && room) (Ok menu) (Err Many) ≡ Ok more → n ≤ 65536
    go true e h = leb-true n 65536 e
    go false e h = cc

-- ---- where reading is

-- before line n, after lines that say this
pub record IsAtLine (n : ℕ) (menu : MenuSaid) (held : List ℕ) (left left' : Option (List ℕ)) : Type 0 where
  pub lines : List ℕ
  pub taken : Consumes left (prepend_known held left') lines
  pub whole : AreWholeLines lines
  pub told : (rest : List ℕ) → menu_of (lines ++ rest) ≡ menu_from n menu (lines_of rest)

module _ (n : ℕ) (menu : MenuSaid) (held : List ℕ) (left a : Option (List ℕ)) (at : IsAtLine n menu held left a) where
  -- the lines are a menu that says this
  pub told_lines : menu_of at.lines ≡ Ok menu
  told_lines = rw (← append-nil at.lines, at.told [])

  -- with what is held they were read
  pub read_held : Consumes left a (at.lines ++ held)
  read_held = Consumes-trans left (prepend_known held a) a at.lines held at.taken
      (all_read (prepend_known held a) a held (Keeps-refl (prepend_known held a)))

  good_lines : (rest : List ℕ) → HasNoNewline rest → length rest ≤ 120 → BeginsMenu (at.lines ++ rest)
  good_lines rest plain short = record {
    lines = at.lines;
    rest = rest;
    all = refl;
    whole = at.whole;
    plain = plain;
    short = short;
    good = (menu, told_lines);
  }

  -- more may be read where no line is held
  pub begins_menu : (i : Held) → i.bytes ≡ held → (bytes : List ℕ) → IsLineless i bytes
      → BeginsMenu ((at.lines ++ held) ++ bytes)
  begins_menu i is bytes none =
      rw (append_assoc at.lines held bytes) (good_lines (held ++ bytes)
      (subst (λ h. HasNoNewline (h ++ bytes)) is none.plain) (subst (λ h. length (h ++ bytes) ≤ 120) is none.short))

-- ---- what stands at the head: i was held before, and j is now

module _ (n : ℕ) (menu : MenuSaid) (i j : Held) (left a b : Option (List ℕ)) (at : IsAtLine n menu i.bytes left a)
    (kept : Keeps (prepend_known i.bytes a) (prepend_known j.bytes b)) where
  read_all : Consumes left b (at.lines ++ j.bytes)
  read_all = Consumes-trans left (prepend_known i.bytes a) b at.lines j.bytes at.taken
      (all_read (prepend_known i.bytes a) b j.bytes kept)

  told_after : (bytes rest : List ℕ) → menu_of ((at.lines ++ bytes) ++ rest)
      ≡ menu_from n menu (lines_of (bytes ++ rest))
  told_after bytes rest = rw (append_assoc at.lines bytes rest, at.told (bytes ++ rest))

  -- a read failed
  pub unread : HoldsPart (still i) j → TakesGoodLines left b
  unread part = record {
    bytes = at.lines ++ j.bytes;
    taken = read_all;
    begins = good_lines n menu i.bytes left a at j.bytes part.plain part.short;
  }

  -- the input ends
  pub ends_menu : HoldsLine (still i) j b End → TakesMenu left b menu
  ends_menu holds = record {
    bytes = at.lines ++ j.bytes;
    taken = read_all;
    ended = holds.2;
    is = rw (at.told j.bytes, holds.1);
  }

  -- a line is too long
  pub too_long : HoldsLine (still i) j b TooLong → TakesBadLine left b (record { line = n; kind = Long })
  too_long holds =
      let front = take 121 j.bytes in
      let size : length front ≡ 121 = length-take-le 121 j.bytes (omega arith) in
      record {
        bytes = at.lines ++ j.bytes;
        taken = read_all;
        is = inl (λ rest.
            let line : Begins front (lines_of (front ++ (drop 121 j.bytes ++ rest))) =
            begins front (drop 121 j.bytes ++ rest) holds.2 (omega arith) in
            let more : length (front ++ line.back) ≡ length front + length line.back = length-append front line.back in
            rw (
              told_after j.bytes rest,
              ← take-append-drop 121 j.bytes,
              append_assoc front (drop 121 j.bytes) rest,
              line.is,
              came_to n menu (front ++ line.back) line.more (Err Long)
                  (ap (with_line n menu) (long_said (front ++ line.back) (omega (arith, size, more)))),
            ));
      }

  -- no lines before it have that many bytes
  pub not_over : n ≤ 65537 → 1 ≤ n → 2 ^ 24 ≤ still i + 121 * (n - 1) → HoldsLine (still i) j b Over → ⊥
  not_over few some room over = omega arith

  -- a line with its newline
  module _ (count : ℕ) (line : List ℕ) (is : line ≡ take count j.bytes)
      (holds : HoldsLine (still i) j b (Newline count)) where
    short_line : length line ≤ 120
    short_line =
        let inside = holds.2.inside in
        let size : length line ≡ count = rw (is, length-take-le count j.bytes (omega (arith, inside))) in
        omega arith

    pub bad_line : (kind : MenuKind) → with_line n menu (line_said line) ≡ Err kind
        → TakesBadLine left b (record { line = n; kind = kind })
    bad_line kind bad =
        let back = drop (count + 1) j.bytes in
        let split : j.bytes ≡ (line ++ 10 ∷ []) ++ back =
        cc (line_split count j.bytes holds.2) in
        let plain = subst HasNoNewline (sym is) holds.2.plain in
        record {
          bytes = at.lines ++ j.bytes;
          taken = read_all;
          is = inl (λ rest. rw (
            told_after j.bytes rest,
            split,
            append_assoc (line ++ 10 ∷ []) back rest,
            lines_newline
                line (back ++ rest) plain,
            came_to n menu line (lines_of (back ++ rest)) (Err kind) bad,
          ));
        }

    pub next_line : (more : MenuSaid) (k : Held) → k.bytes ≡ drop (count + 1) j.bytes → k.room ≡ j.room
        → with_line n menu (line_said line) ≡ Ok more → IsAtLine (n + 1) more k.bytes left b
    next_line more k bytes room good =
        let took = took_line count i j k a b kept holds bytes room in
        let plain = subst HasNoNewline (sym is) took.plain in
        record {
          lines = at.lines ++ (line ++ 10 ∷ []);
          taken = Consumes-trans left (prepend_known i.bytes a) (prepend_known k.bytes b) at.lines (line ++ 10 ∷ [])
              at.taken
              (rw is took.taken);
          whole = inr (at.lines ++ line, sym (append_assoc at.lines line (10 ∷ [])));
          told = λ rest. rw (
            told_after (line ++ 10 ∷ []) rest,
            lines_newline line rest plain,
            came_to n menu line
                (lines_of rest) (Ok more) good,
          );
        }

    pub room_left : (k : Held) → k.bytes ≡ drop (count + 1) j.bytes → k.room ≡ j.room → 1 ≤ n
        → 2 ^ 24 ≤ still i + 121 * (n - 1) → 2 ^ 24 ≤ still k + 121 * (n + 1 - 1)
    room_left k bytes room some most =
        let took = took_line count i j k a b kept holds bytes room in
        let size = took.count in
        let few = short_line in
        let same : length (take count j.bytes ++ 10 ∷ []) ≡ length (take count j.bytes) + 1 =
        length-append (take count j.bytes) (10 ∷ []) in
        let line_is : length line ≡ length (take count j.bytes) = rw is in
        omega arith

  -- the last line
  module _ (count : ℕ) (line : List ℕ) (is : line ≡ take count j.bytes)
      (holds : HoldsLine (still i) j b (Last count)) where
    last_is : j.bytes ≡ line
    last_is = let size = holds.1 in cc (take_all count j.bytes (omega (arith, size)))

    last_told : (r : Result MenuSaid MenuKind) → with_line n menu (line_said line) ≡ r
        → menu_of (at.lines ++ j.bytes) ≡ goes_on_after n r (λ more. Ok more)
    last_told r came =
        let some : 0 < length j.bytes = omega arith in
        rw (at.told j.bytes, lines_last j.bytes holds.4 some, last_is, came_to n menu line [] r came)

    pub last_menu : (more : MenuSaid) → with_line n menu (line_said line) ≡ Ok more → TakesMenu left b more
    last_menu more good = record {
      bytes = at.lines ++ j.bytes;
      taken = read_all;
      ended = holds.5;
      is = last_told (Ok more) good;
    }

    pub last_bad : (kind : MenuKind) → with_line n menu (line_said line) ≡ Err kind
        → TakesBadLine left b (record { line = n; kind = kind })
    last_bad kind bad = record {
      bytes = at.lines ++ j.bytes;
      taken = read_all;
      is = inr (last_told (Err kind) bad, holds.5);
    }

-- a line that is good is one of those that a menu may have
pub few_lines : (n : ℕ) (menu : MenuSaid) (r : Result Said MenuKind) (more : MenuSaid) → with_line n menu r ≡ Ok more
    → n ≤ 65536
few_lines n menu (Err kind) more is = cc
few_lines n menu (Ok Nothing) more is = go (nat_le n 65536) refl is
  where
    go : (b : Bool) → nat_le n 65536 ≡ b → cond b (Ok menu) (Err Many) ≡ Ok more → n ≤ 65536
    go true e h = leb-true n 65536 e
    go false e h = cc
few_lines n menu (Ok (Does may)) more is =
    few_with n (nat_lt (length menu.may) 1024) (record menu { may = menu.may ++ may ∷ [] }) more is
few_lines n menu (Ok (Asks q label)) more is =
    few_with n (nat_lt (length menu.again + length menu.comes) 16) (with_question q label menu) more is
few_lines n menu (Ok (Frees freedom)) more is =
    few_with n (can_add freedom menu.out) (record menu { out = with_freedom freedom menu.out }) more is
