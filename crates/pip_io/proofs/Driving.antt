-- A transducer that is driven: what was read and written so far, and how it ends.
use Rattle.std.proofs.Common.{◌≡◌, ◌≢◌, ◌⊎◌, Bool, true, false, inl, inr, ℕ, List, [], ◌++◌, Option, Some, None, refl}
use Rattle.std.proofs.Common.{sym, subst, ◌∙◌}
use Rattle.std.proofs.Common.{append-nil, append_assoc, take, drop, take-append-drop}
use Rattle.std.specs.Io.KnownBytes.{Consumes, IsAtEnd, Keeps as Keeps-known}
use Rattle.std.proofs.KnownBytes.{Consumes-kept, Consumes-nil, Consumes-trans}
use Rattle.pip_io.specs.Causes.{RoseByOne}
use Rattle.pip_io.specs.Moments.{NoneFailed, Streams}
use Rattle.pip_io.specs.Taken.{Taken, Appends, GrowsInPart, GrowsPast, Keeps, SendsPart, SendsPast}
use Rattle.pip_io.proofs.Taken.{Appends-kept, Appends-nil, Appends-trans, SendsPart-after, past_sent}
use Rattle.pip_io.specs.Due.{DueOf, LeadsAfter, Loose}
use Rattle.pip_io.specs.Ends.{EndsWith, IsAnswer, IsCutShort, IsOut, Waits}

pub LeadsAfter-refl : {V : Type 0} (d : DueOf V) → LeadsAfter d d [] []
LeadsAfter-refl d = record {
  answer = λ more front last v h. h;
  enough = λ more v h. h;
  so_far = λ more said h. h;
  midway = λ more front last h. h;
}

pub LeadsAfter-trans : {V : Type 0} (d e f : DueOf V) (bs t cs u : List ℕ) → LeadsAfter d e bs t → LeadsAfter e f cs u
    → LeadsAfter d f (bs ++ cs) (t ++ u)
LeadsAfter-trans {V} d e f bs t cs u x y = record {
  answer = λ more front last v h. subst (λ l. d.answer l ((t ++ u) ++ front) last v) (sym (append_assoc bs cs more))
      (subst (λ l. d.answer (bs ++ (cs ++ more)) l last v) (sym (append_assoc t u front))
      (x.answer (cs ++ more) (u ++ front) last v (y.answer more front last v h)));
  enough = λ more v h. subst (λ l. d.enough l v) (sym (append_assoc bs cs more))
      (x.enough (cs ++ more) v (y.enough more v h));
  so_far = λ more said h. subst (λ l. d.so_far l ((t ++ u) ++ said)) (sym (append_assoc bs cs more))
      (subst (d.so_far (bs ++ (cs ++ more))) (sym (append_assoc t u said))
      (x.so_far (cs ++ more) (u ++ said) (y.so_far more said h)));
  midway = λ more front last h. subst (λ l. d.midway l ((t ++ u) ++ front) last) (sym (append_assoc bs cs more))
      (subst (λ l. d.midway (bs ++ (cs ++ more)) l last) (sym (append_assoc t u front))
      (x.midway (cs ++ more) (u ++ front) last (y.midway more front last h)));
}

-- from a to b some bytes were taken and their text was written; then the front was read, for which e is due
pub record Driving {V : Type 0} (d e : DueOf V) (front : List ℕ) (a b : Streams) : Type 0 where
  pub bytes : List ℕ
  pub text : List ℕ
  pub read : Consumes a.left b.left (bytes ++ front)
  pub wrote : Appends a.written b.written text
  pub start : a.written.buffered ≡ []
  pub no_faults : NoneFailed a b
  pub leads : LeadsAfter d e bytes text

pub starts : {V : Type 0} (d : DueOf V) (a : Streams) → a.written.buffered ≡ [] → Driving d d [] a a
starts d a none = record {
  bytes = [];
  text = [];
  read = Consumes-nil a.left;
  wrote = Appends-nil a.written;
  start = none;
  no_faults = record { reads = refl; writes = refl };
  leads = LeadsAfter-refl d;
}

-- where nothing was held, nothing is what was out before
past_nothing : (a b : Taken) (text : List ℕ) → a.buffered ≡ [] → SendsPart a b text → SendsPast a b []
past_nothing a b text none part = record { grows = go a.out b.out a.buffered none part.grows }
  where
    go : (o o' : Option (List ℕ)) (held : List ℕ) → held ≡ [] → GrowsInPart o o' (held ++ text)
        → GrowsPast o o' (held ++ [])
    go None o' held none g = tt
    go (Some xs) None held none g = g
    go (Some xs) (Some ys) held none g = (g.0, subst (λ h. ys ≡ xs ++ ((h ++ []) ++ g.0)) (sym none) g.2)

module _ {V : Type 0} (d e : DueOf V) (front : List ℕ) (a b : Streams) (x : Driving d e front a b) where
  pub led : (f : DueOf V) → LeadsAfter e f [] [] → LeadsAfter d f x.bytes x.text
  led f leads = record {
    answer = λ more front last v h. x.leads.answer more front last v (leads.answer more front last v h);
    enough = λ more v h. x.leads.enough more v (leads.enough more v h);
    so_far = λ more said h. x.leads.so_far more said (leads.so_far more said h);
    midway = λ more front last h. x.leads.midway more front last (leads.midway more front last h);
  }

  -- all that was written is out
  pub flushes : (f : DueOf V) (w : Taken) (k : ℕ) → LeadsAfter e f [] [] → Keeps b.written w → k ≡ b.writes
      → Driving d f front a (record b { written = w; writes = k })
  flushes f w k leads kept same = record {
    bytes = x.bytes;
    text = x.text;
    read = x.read;
    wrote = Appends-kept _ _ _ _ x.wrote kept;
    start = x.start;
    no_faults = record { reads = x.no_faults.reads; writes = same ∙ x.no_faults.writes };
    leads = led f leads;
  }

  -- more was read
  pub reads : (piece front' : List ℕ) (left : Option (List ℕ)) (k : ℕ) → Consumes b.left left piece
      → front' ≡ front ++ piece → k ≡ b.reads → Driving d e front' a (record b { left = left; reads = k })
  reads piece front' left k more is same = record {
    bytes = x.bytes;
    text = x.text;
    read = rw (is, ← append_assoc x.bytes front piece) (Consumes-trans _ _ _ _ _ x.read more);
    wrote = x.wrote;
    start = x.start;
    no_faults = record { reads = same ∙ x.no_faults.reads; writes = x.no_faults.writes };
    leads = x.leads;
  }

  -- some bytes of the front were taken, and their text was written
  pub takes : (f : DueOf V) (count : ℕ) (front' t : List ℕ) (w : Taken) (k : ℕ) → LeadsAfter e f (take count front) t
      → front' ≡ drop count front → Appends b.written w t → k ≡ b.writes
      → Driving d f front' a (record b { written = w; writes = k })
  takes f count front' t w k leads is wrote same = record {
    bytes = x.bytes ++ take count front;
    text = x.text ++ t;
    read = rw (is, append_assoc x.bytes (take count front) (drop count front), take-append-drop count front) x.read;
    wrote = Appends-trans _ _ _ _ _ x.wrote wrote;
    start = x.start;
    no_faults = record { reads = x.no_faults.reads; writes = same ∙ x.no_faults.writes };
    leads = LeadsAfter-trans d e f x.bytes x.text (take count front) t x.leads leads;
  }

  -- it waits, and all that was written is out
  pub waits : b.written.buffered ≡ [] → e.so_far front [] → Waits d a b
  waits out due = record {
    so_far = record {
      bytes = x.bytes ++ front;
      text = x.text ++ [];
      read = x.read;
      due = x.leads.so_far front [] due;
      wrote = subst (Appends a.written b.written) (sym (append-nil x.text)) x.wrote;
      out = out;
      writes = x.no_faults.writes;
    };
    reads = x.no_faults.reads;
  }

  -- and a read failed
  pub read_failed : (left : Option (List ℕ)) (k : ℕ) → b.written.buffered ≡ [] → e.so_far front []
      → Keeps-known b.left left
      → RoseByOne b.reads k → IsOut d a (record b { left = left; reads = k }) × RoseByOne a.reads k
  read_failed left k out due kept rose = let w = (waits out due).so_far in (
    record {
      bytes = w.bytes;
      text = w.text;
      read = Consumes-kept _ _ _ _ w.read kept;
      due = w.due;
      wrote = w.wrote;
      out = w.out;
      writes = w.writes;
    },
    subst (λ n. RoseByOne n k) x.no_faults.reads rose,
  )

  -- a write failed, or what is held could not be written
  module _ (t : List ℕ) (w : Taken) (k : ℕ) (part : SendsPart b.written w t) (rose : RoseByOne b.writes k)
      (loose : Bool) (law : loose ≡ true → Loose d) (way : (b.written.buffered ≡ []) ⊎ (loose ≡ true)) where
    cut : (t ≢ []) ⊎ (loose ≡ true)
        → ((v : V) × IsAnswer d (x.bytes ++ front) (x.text ++ []) t b.left v) ⊎ d.midway (x.bytes ++ front)
        (x.text ++ []) t
        → IsCutShort d loose a (record b { written = w; writes = k })
    cut some due =
        let all : SendsPart a.written w ((x.text ++ []) ++ t) =
        rw (append-nil x.text) (SendsPart-after _ _ _ _ _ x.wrote part) in
        let rises = subst (λ n. RoseByOne n k) x.no_faults.writes rose in
        elim way [
          | inl out ↦ record {
            bytes = x.bytes ++ front;
            front = x.text ++ [];
            last = t;
            read = x.read;
            due = due;
            some = some;
            past = rw (append-nil x.text) (past_sent _ _ _ _ _ x.wrote out part);
            part = all;
            rose = rises;
            reads = x.no_faults.reads;
          }
          | inr is ↦ record {
            bytes = x.bytes ++ front;
            front = [];
            last = (x.text ++ []) ++ t;
            read = x.read;
            due = elim due [
              | inl (v, h) ↦ inl (v, record { is = (law is).answer _ _ _ v h.is; decided = h.decided })
              | inr h ↦ inr ((law is).midway _ _ _ h)
            ];
            some = inr is;
            past = past_nothing _ _ _ x.start all;
            part = all;
            rose = rises;
            reads = x.no_faults.reads;
          }
        ]

    -- in the text of the front
    pub write_failed : (t ≢ []) ⊎ (loose ≡ true) → e.midway front [] t
        → IsCutShort d loose a (record b { written = w; writes = k })
    write_failed some midway = cut some (inr (x.leads.midway front [] t midway))

    -- in the last text
    pub last_failed : (t ≢ []) ⊎ (loose ≡ true) → (v : V) → e.answer front [] t v → e.enough front v ⊎ IsAtEnd b.left
        → IsCutShort d loose a (record b { written = w; writes = k })
    last_failed some v is decided = cut some (inl (
      v,
      record {
        is = x.leads.answer front [] t v is;
        decided = elim decided [
          | inl enough ↦ inl (x.leads.enough front v enough)
          | inr end ↦ inr end
        ];
      },
    ))

  -- the last text was written
  pub ends : (t : List ℕ) (v : V) → e.answer front [] t v → e.enough front v ⊎ IsAtEnd b.left → (w : Taken) (k : ℕ)
      → Appends b.written w t → w.buffered ≡ [] → k ≡ b.writes → EndsWith d a (record b { written = w; writes = k }) v
  ends t v is decided w k wrote out same = record {
    bytes = x.bytes ++ front;
    front = x.text ++ [];
    last = t;
    read = x.read;
    answer = record {
      is = x.leads.answer front [] t v is;
      decided = elim decided [
        | inl enough ↦ inl (x.leads.enough front v enough)
        | inr end ↦ inr end
      ];
    };
    wrote = rw (append-nil x.text) (Appends-trans _ _ _ _ _ x.wrote wrote);
    out = out;
    no_faults = record { reads = x.no_faults.reads; writes = same ∙ x.no_faults.writes };
  }

-- by whether something may be held
pub way_of : (A B : Type 0) (held : Bool) → (held ≡ false → A) → (held ≡ true → B) → A ⊎ B
way_of A B true out loose = inr (loose refl)
way_of A B false out loose = inl (out refl)
