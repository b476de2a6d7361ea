-- Words that take from names, put in their places.
use Rattle.std.specs.Prelude.{◌≡◌, refl, ℕ, ◌+◌, ◌-◌, ◌≤◌, List, [], ◌∷◌, ◌++◌, length, take, drop, Option, Result, Ok}
use Rattle.std.specs.Prelude.{Err}
use Rattle.std.proofs.Common.{ap, sym, subst, ◌∙◌, arith, append_assoc, length-append, length-drop}
use Rattle.std.proofs.lemmas.List.{append-nil, drop-append-le, take-append-le, drop_all, take_all, length-take-le}
use Rattle.std.proofs.lemmas.List.{take_at}
use borrow.Rule.Slice.PartMut.{post_of}
use Rattle.byteorder.specs.Endian.{little_bytes}
use Rattle.pip_model.specs.declared.assembly.AsmKind.{AsmKind}
use Rattle.pip_model.specs.Assembly.{LineFault, at_line, and_then, word_of_cell}
use Rattle.pip_model.specs.Images.{bytes_of}
use Rattle.pip_asm.specs.Seen.{HasRoomFor, use_seen}
use Rattle.pip_asm.specs.declared.emit.Note.{Note}
use Rattle.pip_asm.specs.declared.emit.Written.{Written}
use Rattle.pip_asm.specs.Emitted.{Adds, AreNotes, IsEmpty, IsInBounds, cell_word, fill_in, pages_of, put, said, words}

-- ---- answers one after another

pub ok_is : {A E : Type 0} (a b : A) → ◌≡◌ {A = Result A E} (Ok a) (Ok b) → a ≡ b
ok_is {A} {E} a b e = cc
  where
    un : Result A E → A
    un (Ok x) = x
    un (Err k) = a

pub and_same : {A B E : Type 0} (r : Result A E) (f g : A → Result B E) → ((x : A) → r ≡ Ok x → f x ≡ g x)
    → and_then r f ≡ and_then r g
and_same (Ok x) f g h = h x refl
and_same (Err e) f g h = refl

pub and_and : {A B C E : Type 0} (r : Result A E) (f : A → Result B E) (g : B → Result C E)
    → and_then (and_then r f) g ≡ and_then r (λ x. and_then (f x) g)
and_and (Ok x) f g = refl
and_and (Err e) f g = refl

-- ---- one word

pub put_length : (bs four : List ℕ) (p : ℕ) → length four ≡ 4 → p + 4 ≤ length bs
    → length (take p bs ++ (four ++ drop (p + 4) bs)) ≡ length bs
put_length bs four p e h =
    let a = length-append (take p bs) (four ++ drop (p + 4) bs) in
    let b = length-append four (drop (p + 4) bs) in
    let c = length-take-le p bs (omega (arith, h)) in
    let d = length-drop (p + 4) bs in
    omega (arith, a, b, c, d, e, h)

pub put_front : (bs more four : List ℕ) (p : ℕ) → p + 4 ≤ length bs
    → take p (bs ++ more) ++ (four ++ drop (p + 4) (bs ++ more)) ≡ (take p bs ++ (four ++ drop (p + 4) bs)) ++ more
put_front bs more four p h =
    ap (λ t. t ++ (four ++ drop (p + 4) (bs ++ more))) (take-append-le p bs more (omega (arith, h)))
    ∙ ap (λ d. take p bs ++ (four ++ d)) (drop-append-le (p + 4) bs more h)
    ∙ ap (λ t. take p bs ++ t) (sym (append_assoc four (drop (p + 4) bs) more))
    ∙ sym (append_assoc (take p bs) (four ++ drop (p + 4) bs) more)

put_last : (bs old four : List ℕ) (p : ℕ) → length bs ≡ p → length old ≡ 4
    → take p (bs ++ old) ++ (four ++ drop (p + 4) (bs ++ old)) ≡ bs ++ four
put_last bs old four p e o =
    let l = length-append bs old in
    rw (take_at bs old p e, drop_all (p + 4) (bs ++ old) (omega (arith, l, e, o)), append-nil four)

-- ---- all words

notes_more : (m n : ℕ) (ns : List Note) → m ≤ n → AreNotes m ns → AreNotes n ns
notes_more m n [] h a = tt
notes_more m n (x ∷ ns) h a = (omega arith, a.1, notes_more m n ns h a.2)

notes_and : (n : ℕ) (ns : List Note) (x : Note) → AreNotes n ns → x.place + 4 ≤ n → HasRoomFor x.cell.number
    x.cell.takes
    → AreNotes n (ns ++ x ∷ [])
notes_and n [] x a h r = (h, r, tt)
notes_and n (y ∷ ns) x a h r = (a.0, a.1, notes_and n ns x a.2 h r)

-- notes stay within the bytes
pub notes_put : (bs four : List ℕ) (p : ℕ) (ns : List Note) → length four ≡ 4 → p + 4 ≤ length bs
    → AreNotes (length bs) ns → AreNotes (length (take p bs ++ (four ++ drop (p + 4) bs))) ns
notes_put bs four p ns e h a = rw (put_length bs four p e h) a

module _ (names : List ℕ → Option ℕ) where
  word_of : Note → Result ℕ AsmKind
  word_of x = word_of_cell names x.next x.cell.number (use_seen x.cell.takes)

  filled_length : (ns : List Note) (bs cs : List ℕ) → AreNotes (length bs) ns → fill_in names ns bs ≡ Ok cs
      → length cs ≡ length bs
  filled_length [] bs cs a e = rw (← ok_is bs cs e)
  filled_length (x ∷ ns) bs cs a e =
      go (λ w f. filled_length ns (put bs x.place w) cs (notes_put bs (little_bytes 4 w) x.place ns refl a.0 a.2) f
      ∙ put_length bs (little_bytes 4 w) x.place refl a.0)
      (word_of_cell names x.next x.cell.number (use_seen x.cell.takes)) e
    where
      go : ((w : ℕ) → fill_in names ns (put bs x.place w) ≡ Ok cs → length cs ≡ length bs) → (r : Result ℕ AsmKind)
          → at_line x.line r (λ w. fill_in names ns (put bs x.place w)) ≡ Ok cs → length cs ≡ length bs
      go again (Ok w) f = again w f
      go again (Err k) f = absurd (grind (arith, f))

  filled_after : (ns : List Note) (bs more : List ℕ) → AreNotes (length bs) ns
      → fill_in names ns (bs ++ more) ≡ and_then (fill_in names ns bs) (λ cs. Ok (cs ++ more))
  filled_after [] bs more a = refl
  filled_after (x ∷ ns) bs more a =
      go (λ w. ap (fill_in names ns) (put_front bs more (little_bytes 4 w) x.place a.0)
      ∙ filled_after ns (put bs x.place w) more (notes_put bs (little_bytes 4 w) x.place ns refl a.0 a.2))
      (word_of_cell names x.next x.cell.number (use_seen x.cell.takes))
    where
      go : ((w : ℕ) → fill_in names ns (put (bs ++ more) x.place w)
          ≡ and_then (fill_in names ns (put bs x.place w)) (λ cs. Ok (cs ++ more))) → (r : Result ℕ AsmKind)
          → at_line x.line r (λ w. fill_in names ns (put (bs ++ more) x.place w))
          ≡ and_then (at_line x.line r (λ w. fill_in names ns (put bs x.place w))) (λ cs. Ok (cs ++ more))
      go again (Ok w) = again w
      go again (Err k) = refl

  filled_and : (ns : List Note) (x : Note) (bs : List ℕ)
      → fill_in names (ns ++ x ∷ []) bs ≡ and_then (fill_in names ns bs) (λ cs.
      at_line x.line (word_of_cell names x.next x.cell.number (use_seen x.cell.takes)) (λ w. Ok (put cs x.place w)))
  filled_and [] x bs = refl
  filled_and (y ∷ ns) x bs =
      go (λ w. filled_and ns x (put bs y.place w)) (word_of_cell names y.next y.cell.number (use_seen y.cell.takes))
    where
      last : List ℕ → Result (List ℕ) LineFault
      last cs =
          at_line x.line (word_of_cell names x.next x.cell.number (use_seen x.cell.takes)) (λ w. Ok (put cs x.place w))

      go : ((w : ℕ) → fill_in names (ns ++ x ∷ []) (put bs y.place w)
          ≡ and_then (fill_in names ns (put bs y.place w)) last) → (r : Result ℕ AsmKind)
          → at_line y.line r (λ w. fill_in names (ns ++ x ∷ []) (put bs y.place w))
          ≡ and_then (at_line y.line r (λ w. fill_in names ns (put bs y.place w))) last
      go again (Ok w) = again w
      go again (Err k) = refl

  note_after : (ns : List Note) (x : Note) (bs old : List ℕ) → AreNotes (length bs) ns → x.place ≡ length bs
      → length old ≡ 4
      → fill_in names (ns ++ x ∷ []) (bs ++ old) ≡ and_then (fill_in names ns bs) (λ cs. and_then (cell_word x.line
      (word_of_cell names x.next x.cell.number (use_seen x.cell.takes))) (λ ms. Ok (cs ++ ms)))
  note_after ns x bs old a e o =
      rw (
        filled_and ns x (bs ++ old),
        filled_after ns bs old a,
        and_and (fill_in names ns bs) (λ cs. Ok (cs ++ old))
            (λ cs. at_line x.line (word_of_cell names x.next x.cell.number (use_seen x.cell.takes))
            (λ w. Ok (put cs x.place w))),
        and_same (fill_in names ns bs)
            (λ cs. at_line x.line (word_of_cell names x.next x.cell.number (use_seen x.cell.takes))
            (λ w. Ok (put (cs ++ old) x.place w)))
            (λ cs. and_then (cell_word x.line
            (word_of_cell names x.next x.cell.number (use_seen x.cell.takes)))
            (λ ms. Ok (cs ++ ms)))
            (λ cs f. one cs (filled_length ns bs cs a f ∙ sym e)
            (word_of_cell names x.next x.cell.number (use_seen x.cell.takes))),
      )
    where
      one : (cs : List ℕ) → length cs ≡ x.place → (r : Result ℕ AsmKind)
          → at_line x.line r (λ w. Ok (put (cs ++ old) x.place w)) ≡ and_then (cell_word x.line r) (λ ms. Ok (cs ++ ms))
      one cs l (Ok w) = rw (put_last cs old (little_bytes 4 w) x.place l o)
      one cs l (Err k) = refl

-- ---- what was written

pages_after : (s t : Written) (more : List ℕ) → IsInBounds s → t.head ≡ s.head → t.bytes.items ≡ s.bytes.items ++ more
    → pages_of t ≡ pages_of s ++ more
pages_after s t more whole h b = (λ i. drop (h i) (b i)) ∙ drop-append-le s.head s.bytes.items more whole.head

front_stays : (s t : Written) (more : List ℕ) → IsInBounds s → t.head ≡ s.head → t.bytes.items ≡ s.bytes.items ++ more
    → take t.head t.bytes.items ≡ take s.head s.bytes.items
front_stays s t more whole h b = (λ i. take (h i) (b i)) ∙ take-append-le s.head s.bytes.items more whole.head

head_within : (s t : Written) (more : List ℕ) → IsInBounds s → t.head ≡ s.head → t.bytes.items ≡ s.bytes.items ++ more
    → t.head ≤ length t.bytes.items
head_within s t more whole h b = omega (arith, length-append s.bytes.items more, ap length b)

pub words_add : (s t : Written) (ws : List ℕ) → IsInBounds s → t.head ≡ s.head → t.notes.items ≡ s.notes.items
    → t.bytes.items ≡ s.bytes.items ++ bytes_of ws → Adds s (words ws) t
words_add s t ws whole h n b =
    let p = pages_after s t (bytes_of ws) whole h b in
    let l = length-append (pages_of s) (bytes_of ws) in
    let more : AreNotes (length (pages_of s ++ bytes_of ws)) s.notes.items = notes_more (length (pages_of s))
    (length (pages_of s ++ bytes_of ws)) s.notes.items (omega arith) whole.notes in
    record {
      whole = record {
        head = head_within s t (bytes_of ws) whole h b;
        notes = rw n (subst (λ bs. AreNotes (length bs) s.notes.items) (sym p) more);
      };
      front = front_stays s t (bytes_of ws) whole h b;
      says = λ names. (λ i. fill_in names (n i) (p i))
          ∙ filled_after names s.notes.items (pages_of s) (bytes_of ws) whole.notes;
    }

pub note_adds : (s t : Written) (x : Note) (four : List ℕ) → IsInBounds s → HasRoomFor x.cell.number x.cell.takes →
    x.place
    ≡ length s.bytes.items - s.head → length four ≡ 4 → t.head ≡ s.head → t.notes.items ≡ s.notes.items ++ x ∷ []
    → t.bytes.items ≡ s.bytes.items ++ four
    → Adds s (λ names. cell_word x.line (word_of_cell names x.next x.cell.number (use_seen x.cell.takes))) t
note_adds s t x four whole room place o h n b =
    let p = pages_after s t four whole h b in
    let l = length-append (pages_of s) four in
    let d = length-drop s.head s.bytes.items in
    let at : x.place ≡ length (pages_of s) = cc in
    let all : AreNotes (length (pages_of s ++ four)) (s.notes.items ++ x ∷ []) =
    notes_and (length (pages_of s ++ four)) s.notes.items x (notes_more (length (pages_of s))
    (length (pages_of s ++ four)) s.notes.items (omega arith) whole.notes) (omega arith) room in
    record {
      whole = record {
        head = head_within s t four whole h b;
        notes = rw n (subst (λ bs. AreNotes (length bs) (s.notes.items ++ x ∷ [])) (sym p) all);
      };
      front = front_stays s t four whole h b;
      says = λ names. (λ i. fill_in names (n i) (p i))
          ∙ note_after names s.notes.items x (pages_of s) four whole.notes at o;
    }

-- the head in front of nothing
pub record Begun (head : List ℕ) (t : Written) : Type 0 where
  pub whole : IsInBounds t
  pub front : take t.head t.bytes.items ≡ head
  pub said : (names : List ℕ → Option ℕ) → said names t ≡ Ok []

pub begun : (s t : Written) (front : List ℕ) → IsEmpty s → t.bytes.items ≡ s.bytes.items ++ front
    → t.head ≡ length t.bytes.items → t.notes.items ≡ s.notes.items → Begun front t
begun s t front none b h n =
    let bytes : t.bytes.items ≡ front = rw (b, none.bytes) in
    let notes : t.notes.items ≡ [] = n ∙ none.notes in
    let pages : pages_of t ≡ [] = drop_all t.head t.bytes.items (omega arith) in
    record {
      whole =
          record { head = omega arith; notes = rw notes tt };
      front = cc (take_all t.head t.bytes.items (omega (arith, h)));
      said = λ names. (λ i. fill_in names (notes i) (pages i));
    }

-- the bytes after the head, and the number of pages in it
pub completed : (b pages new : List ℕ) (head count : ℕ) (r : Result (List ℕ) LineFault) → (24 ≤ head)
    × (head ≤ length b)
    → r ≡ Ok pages → new ≡ put (take head b ++ (pages ++ post_of head (length b - head) b)) 20 count
    → and_then r (λ rest. Ok (put (take head b) 20 count ++ rest)) ≡ Ok new
completed b pages new head count r h e f =
    let d = length-drop head b in
    let l = length-take-le head b h.1 in
    ap (λ r. and_then r (λ rest. Ok (put (take head b) 20 count ++ rest))) e
    ∙ ap (λ t. Ok t) (sym (
    f
    ∙ ap (λ t. put (take head b ++ (pages ++ t)) 20 count) (drop_all (length b - head) (drop head b) (omega (arith, d)))
    ∙ ap (λ t. put (take head b ++ t) 20 count) (append-nil pages)
    ∙ put_front (take head b) pages (little_bytes 4 count) 20 (omega (arith, l, h.0))))
