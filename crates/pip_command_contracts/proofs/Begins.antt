-- What a run begins with, from how its image was read: from a to b the header, from b to c the pages.
use Rattle.std.proofs.Common.{◌≡◌, ℕ, Option, List, [], ◌++◌, length, refl, replicate, sym, ap, ◌∙◌, subst}
use Rattle.std.proofs.lemmas.List.{length-replicate}
use Rattle.std.specs.Prelude.{Result, Ok, Err, MatchResult, map}
use Rattle.std.specs.Result.{IsErrAnd}
use Rattle.pip_base.specs.Memory.{Memory, zeros}
use Rattle.pip_base.specs.declared.types.Plan.{Plan}
use Rattle.pip_image.specs.Coming.{IsAfter, IsHeader as IsLimited, coming, header_parts}
use Rattle.pip_image.specs.Loading.{IsLoaded, Loads, LoadsAll, LoadsUpTo}
use Rattle.pip_image.specs.Pacing.{IsFaultless}
use Rattle.pip_image.specs.Reading.{Refuses, TakesParts, parts_then}
use Rattle.pip_image.specs.declared.header.Header.{Header}
use Rattle.pip_image.specs.declared.place.Place.{Place}
use Rattle.pip_image.proofs.Loaded.{image_begun, image_loaded, image_with, loads_pages}
use Rattle.pip_image.proofs.Steps.{faultless_after, takes_refused}
use Rattle.pip_io.specs.Moments.{Streams, beside}
use Rattle.pip_io.specs.Pacing.{MayRead}
use Rattle.pip_io.specs.Histories.{Writing}
use Rattle.pip_io.proofs.Pacing.{paced_after}
use Rattle.pip_model.specs.Booted.{HasBooted, IsBooted}
use Rattle.pip_model.specs.Images.{Holds, Page, Part, PartsRead, image_parts, page_parts, plan_parts, image_word}
use Rattle.pip_model.specs.Worlds.{boot_world_with}
use Rattle.pip_model.specs.declared.image.ImageError.{ImageError}
use Rattle.pip_switch.specs.Standing.{StandsAs, State}
use Rattle.pip_command_contracts.specs.Loading.{LacksMemoryAfterHeader, LoadsFrames, LoadsFront, LoadsImage}
use Rattle.pip_command_contracts.specs.Loading.{StoppedAfter}
use Rattle.pip_command_contracts.specs.Loading.{StoppedLoading}
use Rattle.pip_command_contracts.specs.declared.loading.LoadError.{LoadError}
use Rattle.pip_command_contracts.specs.declared.loading.LoadError.TheVariants as T

-- a stop answers an error
pub stops : {A : Type 0} (r : Result A LoadError) (F : A → Type 0) (G : LoadError → Type 0) (s : LoadError)
    → IsErrAnd r (λ e. e ≡ s)
    → G s → MatchResult r F G
stops (Ok a) F G s is h = absurd is
stops (Err e) F G s is h = subst G (sym is) h

is_booted : (h : Header) (pages : List Page) (m : Memory) → IsLimited h → IsLoaded h.frames pages m
    → IsBooted h.frames (image_word h.frames pages) m
is_booted h pages m limits l =
    record { least = limits.least; most = limits.most; small = λ g i low. l.small g i; laid = l.laid }

-- a machine can begin with the frames
pub has_image : (h : Header) (p : Place) (b c : Option (List ℕ)) (m : Memory) → IsLimited h
    → LoadsAll h.frames (coming p) b c m → HasBooted m
has_image h p b c m limits all = record {
  frames = h.frames;
  words = image_word h.frames all.pages;
  booted = is_booted h all.pages m limits all.loaded;
}

pub front_booted : (h : Header) (a c : Option (List ℕ)) (m : Memory) → LoadsFront a c h m → HasBooted m
front_booted h a c m l = record {
  frames = l.parsed.frames;
  words = image_word l.parsed.frames l.parsed.pages;
  booted = l.begins.booted;
}

module _ (h : Header) (p : Place) (a b : Option (List ℕ)) (is : IsAfter h p)
    (none : p.plans ≡ 0) (took : TakesParts image_parts (coming p) (header_parts h) a b) where
  pub loads_frames : (c : Option (List ℕ)) (m : Memory) → IsLimited h → LoadsAll h.frames (coming p) b c m
      → LoadsFrames a c h m
  loads_frames c m limits all =
      let l = image_loaded p h a b c m is none took all in
      record {
        input = l.input;
        parsed = image_with h l.pages;
        read = l.read;
        whole = all.whole;
        good = l.is;
        begins = record {
          frames = refl;
          cpus = refl;
          plans = refl;
          pages = sym l.count;
          booted = is_booted h l.pages m limits l.loaded;
        };
      }

  -- the pages were read, and nothing after them
  pub loads_front : (q : Place) (c : Option (List ℕ)) (seen : List ℕ) (m : Memory) → IsLimited h → q.plans ≡ 0
      → q.pages ≡ 0 → Loads h.frames (coming p) (coming q) b c seen m → LoadsFront a c h m
  loads_front q c seen m limits plans pages all =
      let l = image_begun p h a b c m is none took
      (loads_pages h.frames (coming p) q b c seen m plans pages all) in
      record {
        front = l.input;
        parsed = image_with h l.pages;
        read = l.read;
        good = l.is;
        begins = record {
          frames = refl;
          cpus = refl;
          plans = refl;
          pages = sym l.count;
          booted = is_booted h l.pages m limits l.loaded;
        };
      }

  -- after the header there was no memory
  pub lacks_memory : (l : LacksMemoryAfterHeader a b) × (l.header.fields.frames ≡ h.frames)
  lacks_memory = (
    record {
      bytes = took.bytes;
      read = took.taken;
      header = record {
        fields = record { frames = h.frames; cpus = h.cpus; plans = length h.plans.items; pages = h.pages };
        plans = h.plans.items;
        all = refl;
        at = p.at;
        told = λ rest. took.is rest ∙ ap (parts_then (header_parts h)) (pages_come rest);
      };
    },
    refl,
  )
    where
      pages_come : (rest : List ℕ) → coming p rest ≡ page_parts h.frames [] p.at h.pages rest
      pages_come rest =
          ap (λ k. plan_parts p.at p.line k rest (λ at rest. page_parts p.frames p.seen.items at p.pages rest)) none
          ∙ ap (λ n. page_parts n p.seen.items p.at p.pages rest) is.frames
          ∙ ap (λ seen. page_parts h.frames seen p.at p.pages rest) is.none
          ∙ ap (λ k. page_parts h.frames [] p.at k rest) is.pages

  -- a fault of the pages is one of the image. The numbers count failed reads
  pub page_fault : (c : Option (List ℕ)) (i j k : ℕ) (m : Memory) (e : ImageError) → j ≡ i → LoadsUpTo h.frames
      (coming p) b c j k m e → (parts : List Part) × Refuses image_parts (header_parts h ++ parts) a c i k e
  page_fault c i j k m e later up = (
    map Holds up.pages,
    takes_refused image_parts (coming p) (header_parts h) (map Holds up.pages) a b c i j k e later took up.refused,
  )

-- a stop after the header is one of the whole
pub weaker : (h : Header) (a c : Option (List ℕ)) (i j k : ℕ) → j ≡ i → (s : LoadError) → StoppedAfter h s a c j k
    → StoppedLoading s a c i k
weaker h a c i j k same (T.Image e) x = (_, subst (λ n. Refuses image_parts (header_parts h ++ x.0) a c n k e) same x.1)
weaker h a c i j k same T.Memory x = (x.0, x.2 ∙ same)

pub stopped_after : {A : Type 0} (r : Result A LoadError) (h : Header) (F : A → Type 0) (a c : Option (List ℕ))
    (i j k : ℕ)
    → j ≡ i → MatchResult r F (λ s. StoppedAfter h s a c j k) → MatchResult r F (λ s. StoppedLoading s a c i k)
stopped_after (Ok v) h F a c i j k same x = x
stopped_after (Err s) h F a c i j k same x = weaker h a c i j k same s x

-- a machine of such frames begins a run
pub loads : (h : Header) (a c : Option (List ℕ)) (m : Memory) (s : State) (plans : List Plan) → LoadsFrames a c h m
    → plans ≡ h.plans.items → length s.cpus ≡ h.cpus
    → ((n : ℕ) (words : ℕ → ℕ → ℕ) → IsBooted n words m → StandsAs s (boot_world_with words n h.cpus))
    → LoadsImage a c h.frames h.pages plans s
loads h a c m s plans l same cpus stands = record {
  input = l.input;
  parsed = l.parsed;
  read = l.read;
  whole = l.whole;
  good = l.good;
  begins = record {
    frames = l.begins.frames;
    pages = l.begins.pages;
    plans = same ∙ l.begins.plans;
    cpus = cpus ∙ l.begins.cpus;
    stands = subst (λ k. StandsAs s (boot_world_with (image_word l.parsed.frames l.parsed.pages) l.parsed.frames k))
        l.begins.cpus (stands l.parsed.frames (image_word l.parsed.frames l.parsed.pages) l.begins.booted);
  };
}

-- where an image may be read, its pages may be once the header was, if the sink is the same
pub pages_paced : {K : Type 0} (allows : Streams → Type 0) (told : K → Writing) {sink mid : K}
    {next : List ℕ → PartsRead} {parts : List Part} {a b : Option (List ℕ)} {m n : ℕ} {P : List ℕ → Type 0} → mid ≡ sink
    → n ≡ m → (took : TakesParts image_parts next parts a b)
    → ((bytes : List ℕ) → IsFaultless image_parts (took.bytes ++ bytes) → P (took.bytes ++ bytes))
    → MayRead allows P (beside a m (told sink)) → MayRead allows (IsFaultless next) (beside b n (told mid))
pages_paced allows told {sink} {mid} {next} {parts} {a} {b} {m} {n} {P} kept same took more paced =
    subst (λ k. MayRead allows (IsFaultless next) (beside b n (told k))) (sym kept)
    (paced_after allows P (IsFaultless next) a b m n (told sink) took.bytes same took.taken
    (λ bytes is. more bytes (faultless_after image_parts next parts a b took bytes is)) paced)

-- all frames hold zeros, however many there are
pub are_zeros : (m : Memory) (n : ℕ) → m ≡ replicate n (zeros 1024) → m ≡ replicate (length m) (zeros 1024)
are_zeros m n is = is ∙ ap (λ k. replicate k (zeros 1024)) (sym (ap length is ∙ length-replicate n (zeros 1024)))
