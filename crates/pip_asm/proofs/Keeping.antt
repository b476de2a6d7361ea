-- The bytes of all pages, while the lines are taken one after another.
use Rattle.std.specs.Prelude.{◌≡◌, refl, ℕ, ◌+◌, ◌*◌, ◌≤◌, ◌%◌, ◌^◌, Bool, true, false, cond, nat_le, List, [], ◌∷◌}
use Rattle.std.specs.Prelude.{◌++◌, length, take, drop, Option, is_some, Result, Ok, Err, MatchResult}
use Rattle.std.proofs.Common.{ap, sym, subst, ◌∙◌, arith, append_assoc}
use Rattle.std.proofs.lemmas.List.{append-nil, length-take}
use Rattle.std.proofs.Math.Seq.{drop-nil}
use Rattle.pip_base.specs.declared.types.Plan.{Plan}
use Rattle.pip_model.specs.declared.assembly.AsmKind.{AsmKind}
use Rattle.pip_model.specs.declared.assembly.AsmKind.TheVariants as K
use Rattle.pip_model.specs.declared.assembly.Stage.{Stage}
use Rattle.pip_model.specs.declared.assembly.Stage.TheVariants.{Start, Framed, Header, InPage}
use Rattle.pip_model.specs.Grammar.{lines_of}
use Rattle.pip_model.specs.Images.{bytes_of, has_row, is_seen, magic}
use Rattle.pip_model.specs.AsmWords.{Cell}
use Rattle.pip_model.specs.AsmLines.{Statement, Blank, Frames, Cpus, Plans, Begins, Holds, Zeros, Names, statement}
use Rattle.pip_model.specs.Assembly.{LineFault, Gives, AssemblyState, and_then, as_image, assembly, at_line}
use Rattle.pip_model.specs.Assembly.{words_before, first_pass, first_state, given, head_words, one_word, padding}
use Rattle.pip_model.specs.Assembly.{place_statement, second_pass, with_name, word_of_cell}
use Rattle.pip_asm.specs.Emitted.{IsEmpty, SaysMore, StartsWith, cell_word, cell_words, fill_in, first_head, line_words}
use Rattle.pip_asm.specs.Emitted.{prefix, put, said, words}
use Rattle.pip_asm.specs.Names.{address_of_name}
use Rattle.pip_asm.specs.Reading.{KeepsBytes, Refused, bytes_ended, bytes_said, head_of, state_of}
use Rattle.pip_asm.specs.declared.emit.Written.{Written}
use Rattle.pip_asm.specs.declared.reading.Passed.{Passed}
use Rattle.pip_asm.specs.declared.reading.AsmError.{AsmError}
use Rattle.pip_asm.proofs.Bytes.{bytes_append}
use Rattle.pip_asm.proofs.Filling.{ok_is}
use Rattle.pip_asm.proofs.Emitting.{prefix_after, prefix_head, refused_first}

-- ---- the present page, in both passes of the definition

record Stays (g : Gives) (s : AssemblyState) : Type 0 where
  pub stage : g.stage ≡ s.stage
  pub at : g.at ≡ s.at
  pub size : g.size ≡ s.size

meet : (a g : Gives) (s t : AssemblyState) → Stays a s → ◌≡◌ {A = Result AssemblyState AsmKind} (Ok s) (Ok t)
    → ◌≡◌ {A = Result Gives AsmKind} (Ok a) (Ok g) → Stays g t
meet a g s t h e f = rw (← ok_is a g f) (subst (Stays a) (ok_is s t e) h)

chosen : {A E : Type 0} (b : Bool) (r : Result A E) (k : E) (t : A) → cond b r (Err k) ≡ Ok t → r ≡ Ok t
chosen true r k t e = e
chosen false r k t e = absurd (grind (arith, e))

chosen_else : {A E : Type 0} (b : Bool) (r : Result A E) (k : E) (t : A) → cond b (Err k) r ≡ Ok t → r ≡ Ok t
chosen_else true r k t e = absurd (grind (arith, e))
chosen_else false r k t e = e

module _ (names : List ℕ → Option ℕ) (s t : AssemblyState) where
  stays : (st : Statement) (g : Gives) → place_statement s st ≡ Ok t → given names s.stage s.at s.size st ≡ Ok g
      → Stays g t
  stays Blank g e f = meet _ g _ t (record { stage = refl; at = refl; size = refl }) e f
  stays (Frames n) g e f = meet _ g _ t (record { stage = refl; at = refl; size = refl }) e f
  stays (Cpus n) g e f = meet _ g _ t (record { stage = refl; at = refl; size = refl }) e f
  stays (Plans p) g e f = meet _ g (record s { least = p.line + 1; plans = s.plans ++ p ∷ [] }) t
      (record { stage = refl; at = refl; size = refl })
      (chosen (nat_le s.least p.line) (Ok (record s { least = p.line + 1; plans = s.plans ++ p ∷ [] })) K.Range t e) f
  stays (Begins v) g e f =
      let u = record s { stage = InPage; pages = s.pages ++ v ∷ []; at = v * 4096; size = 0 } in
      meet _ g u t (record { stage = refl; at = refl; size = refl }) (chosen_else (is_seen v s.pages) (Ok u) K.Twice t
      (chosen (has_row s.frames v) (cond (is_seen v s.pages) (Err K.Twice) (Ok u)) K.Range t e)) f
  stays (Holds c) g e f = go (word_of_cell names ((s.at + 4 * s.size + 4) % 2 ^ 32) c.number c.takes) f
    where
      go : (r : Result ℕ AsmKind) → one_word s.stage s.at s.size r ≡ Ok g → Stays g t
      go (Ok w) f = meet _ g (record s { size = s.size + 1 }) t (record { stage = refl; at = refl; size = refl })
          (chosen (nat_le (s.size + 1) 1024) (Ok (record s { size = s.size + 1 })) K.Size t e) f
      go (Err k) f = absurd (grind (arith, f))
  stays (Zeros k) g e f = meet _ g (record s { size = s.size + k }) t (record { stage = refl; at = refl; size = refl })
      (chosen (nat_le (s.size + k) 1024) (Ok (record s { size = s.size + k })) K.Size t e) f
  stays (Names m) g e f =
      let u = record s { names = with_name m ((s.at + 4 * s.size) % 2 ^ 32) s.names } in
      meet _ g u t (record { stage = refl; at = refl; size = refl })
      (chosen_else (is_some (s.names m)) (Ok u) K.Twice t e) f

-- ---- a line

pub line_keeps : (s t : Passed) (n : ℕ) (l : List ℕ) (st : Statement) → statement s.stage l ≡ Ok st
    → place_statement (state_of s) st ≡ Ok (state_of t) → SaysMore s.written (line_words n s.stage s.at s.size st)
    t.written
    → KeepsBytes s n l t
line_keeps s t n l st e f w names ls =
    rw (
      e,
      go (given names s.stage s.at s.size st) (λ g q. stays names (state_of s) (state_of t) st g f q)
          (said names s.written),
      ← w names,
    )
  where
    tail : Gives → Result (List ℕ) LineFault
    tail g = words_before g.words (second_pass names g.stage g.at g.size (n + 1) ls)

    after : List ℕ → Result (List ℕ) LineFault
    after bs = prefix bs (second_pass names t.stage t.at t.size (n + 1) ls)

    go : (r : Result Gives AsmKind) → ((g : Gives) → r ≡ Ok g → Stays g (state_of t)) → (o : Result (List ℕ) LineFault)
        → and_then o (λ bs. prefix bs (at_line n r tail)) ≡ and_then (and_then o (λ bs.
        and_then (at_line n r (λ g. Ok (bytes_of g.words))) (λ ms. Ok (bs ++ ms)))) after
    go r h (Err e) = refl
    go (Err k) h (Ok bs) = refl
    go (Ok g) h (Ok bs) =
        let q = h g refl in
        prefix_after bs g.words (second_pass names g.stage g.at g.size (n + 1) ls)
        ∙ (λ i. prefix (bs ++ bytes_of g.words) (second_pass names (q.stage i) (q.at i) (q.size i) (n + 1) ls))

-- a line that gives no words
pub says_nothing : (s t : Written) → t ≡ s → SaysMore s (words []) t
says_nothing s t e names = rw e (go (said names s))
  where
    go : (r : Result (List ℕ) LineFault) → r ≡ and_then r (λ bs. Ok (bs ++ []))
    go (Ok bs) = cc (append-nil bs)
    go (Err e) = refl

-- the words of one piece after those of another
pub says_both : (s t u : Written) (a b : List ℕ) → SaysMore s (words a) t → SaysMore t (words b) u → SaysMore s
    (words (a ++ b)) u
says_both s t u a b f g names =
    rw (g names, f names, go (said names s))
  where
    go : (r : Result (List ℕ) LineFault) → and_then (and_then r (λ bs. Ok (bs ++ bytes_of a)))
        (λ bs. Ok (bs ++ bytes_of b))
        ≡ and_then r (λ bs. Ok (bs ++ bytes_of (a ++ b)))
    go (Ok bs) = rw (append_assoc bs (bytes_of a) (bytes_of b), ← bytes_append a b)
    go (Err e) = refl

-- a cell gives the word that it holds
pub says_cell : (s t : Written) (n : ℕ) (g : Stage) (at size : ℕ) (c : Cell)
    → SaysMore s (cell_words n ((at + 4 * size + 4) % 2 ^ 32) c) t → SaysMore s (line_words n g at size (Holds c)) t
says_cell s t n g at size c h names = h names ∙ ap (λ r. and_then (said names s)
    (λ bs. and_then r (λ ms. Ok (bs ++ ms)))) (go (word_of_cell names ((at + 4 * size + 4) % 2 ^ 32) c.number c.takes))
  where
    go : (r : Result ℕ AsmKind) → cell_word n r ≡ at_line n (one_word g at size r) (λ x. Ok (bytes_of x.words))
    go (Ok w) = refl
    go (Err k) = refl

-- ---- the head

said_none : (names : List ℕ → Option ℕ) (s : Written) → IsEmpty s → said names s ≡ Ok []
said_none names s e = (λ i. fill_in names (e.notes i) (drop s.head (e.bytes i))) ∙ ap (λ t. Ok t) (drop-nil s.head)

-- nothing was written before the first page
pub begun_says : (g : Stage) (size : ℕ) (front : List ℕ) (s t : Written) → (g ≡ InPage → ⊥) → StartsWith g front s
    → ((names : List ℕ → Option ℕ) → said names t ≡ Ok []) → SaysMore s (words (padding g size)) t
begun_says Start size front s t n e h names =
    cc (h names, said_none names s e)
begun_says Framed size front s t n e h names =
    cc (h names, said_none names s e)
begun_says Header size front s t n e h names =
    cc (h names, said_none names s e)
begun_says InPage size front s t n e h names = absurd (n refl)

pub head_long : (w : Written) (f c : ℕ) (plans : List Plan) → take w.head w.bytes.items ≡ first_head f c plans
    → 24 ≤ w.head
head_long w f c plans e = omega (arith, length-take w.head w.bytes.items, ap length e)

-- ---- the whole text

as_prefix : (head : List ℕ) (r : Result (List ℕ) LineFault)
    → as_image head r ≡ and_then (prefix [] r) (λ bs. Ok ((magic ++ bytes_of head) ++ bs))
as_prefix head (Ok ws) = prefix_head head (Ok ws)
as_prefix head (Err e) = refl

pub all_joined : (text : List ℕ) (p : Passed) → first_pass first_state 1 (lines_of text) ≡ Ok (state_of p)
    → ((names : List ℕ → Option ℕ) → prefix [] (second_pass names Start 0 0 1 (lines_of text)) ≡ bytes_ended names p)
    → assembly text ≡ and_then (bytes_ended (address_of_name p.names) p) (λ bs. Ok (head_of (state_of p) ++ bs))
all_joined text p e b =
    ap (λ r. and_then r (λ s. as_image (head_words s) (second_pass s.names Start 0 0 1 (lines_of text)))) e
    ∙ as_prefix (head_words (state_of p)) (second_pass (address_of_name p.names) Start 0 0 1 (lines_of text))
    ∙ ap (λ r. and_then r (λ bs. Ok (head_of (state_of p) ++ bs))) (b (address_of_name p.names))

pub finished : {T : Type 0} (items : T → List ℕ) (text : List ℕ) (p : Passed) (r : Result T AsmError)
    → assembly text ≡ and_then (bytes_ended (address_of_name p.names) p) (λ bs. Ok (head_of (state_of p) ++ bs))
    → MatchResult r (λ image. and_then (bytes_ended (address_of_name p.names) p) (λ bs. Ok (head_of (state_of p) ++ bs))
    ≡ Ok (items image)) (Refused (bytes_ended (address_of_name p.names) p))
    → MatchResult r (λ image. assembly text ≡ Ok (items image)) (Refused (assembly text))
finished items text p (Ok image) j h = cc
finished items text p (Err e) j h = rw j (refused_first (bytes_ended (address_of_name p.names) p)
    (λ bs. Ok (head_of (state_of p) ++ bs)) e h)

-- the number of pages is put into the head
pub ended : {T : Type 0} (items : T → List ℕ) (p q : Passed) (n : ℕ) (r : Result T AsmError) → q ≡ record p {
  written =
      q.written;
} → take q.written.head q.written.bytes.items ≡ first_head p.frames p.cpus p.plans.items
    → SaysMore p.written (words (padding p.stage p.size)) q.written → n ≡ length q.pages.items
    → MatchResult r (λ image. and_then (said (address_of_name q.names) q.written)
    (λ rest. Ok (put (take q.written.head q.written.bytes.items) 20 n ++ rest)) ≡ Ok (items image))
    (Refused (said (address_of_name q.names) q.written))
    → MatchResult r (λ image. and_then (bytes_ended (address_of_name p.names) p) (λ bs. Ok (head_of (state_of p) ++ bs))
    ≡ Ok (items image)) (Refused (bytes_ended (address_of_name p.names) p))
ended {T} items p q n r e front says count h = go r h
  where
    same : said (address_of_name q.names) q.written ≡ bytes_ended (address_of_name p.names) p
    same = rw (e, says (address_of_name p.names))

    head : put (take q.written.head q.written.bytes.items) 20 n ≡ head_of (state_of p)
    head = (λ i. put (front i) 20 ((count ∙ ap (λ x. length x.pages.items) e) i))

    go : (r : Result T AsmError) → MatchResult r (λ image. and_then (said (address_of_name q.names) q.written)
        (λ rest. Ok (put (take q.written.head q.written.bytes.items) 20 n ++ rest)) ≡ Ok (items image))
        (Refused (said (address_of_name q.names) q.written))
        → MatchResult r (λ image. and_then (bytes_ended (address_of_name p.names) p)
        (λ bs. Ok (head_of (state_of p) ++ bs))
        ≡ Ok (items image)) (Refused (bytes_ended (address_of_name p.names) p))
    go (Ok image) h = (λ i. and_then (sym same i) (λ rest. Ok (sym head i ++ rest))) ∙ h
    go (Err k) h = rw (← same) h
