-- Pages that are loaded one after another.
use Rattle.std.specs.Prelude.{◌≡◌, ℕ, zero, suc, ◌+◌, ◌≤◌, true, false, List, ◌∷◌, ◌++◌, drop, length, map, Option}
use Rattle.std.specs.Prelude.{Some, None, Result, Ok, Err, is_some, MatchResult}
use Rattle.std.specs.Io.KnownBytes.{Consumes}
use Rattle.std.proofs.Common.{[], ap, ◌∙◌, refl, append-nil}
use Rattle.std.proofs.KnownBytes.{Consumes-trans}
use Rattle.pip_base.specs.declared.types.Plan.{Plan}
use Rattle.pip_model.specs.declared.image.ImageError.{ImageError}
use Rattle.pip_model.specs.Boot.{frame_of_root}
use Rattle.pip_model.specs.Images.{Image, Page, Line, Holds, PartsRead, goes_on, has_row, image, image_from}
use Rattle.pip_model.specs.Images.{image_parts, image_or_fault, is_seen, front_page, page_parts}
use Rattle.pip_model.specs.Images.{part_before}
use Rattle.pip_model.specs.Layout.{LaysOut}
use Rattle.pip_model.specs.Tree.{Tree}
use Rattle.pip_image.specs.Coming.{IsAfter, coming, header_parts}
use Rattle.pip_image.specs.Reading.{TakesParts, EndsInput, Refuses, parts_then, no_more_parts}
use Rattle.pip_image.specs.Loading.{AreWords, IsLoaded, Loads, LoadsAll, LoadsPages, LoadsUpTo, tree_with}
use Rattle.pip_image.specs.Loading.{with_page}
use Rattle.pip_image.specs.declared.header.Header.{Header}
use Rattle.pip_image.specs.declared.place.Place.{Place}
use Rattle.pip_image.proofs.Held.{lays_more, small_held, small_page, still_open}
use Rattle.pip_image.proofs.RootPages.{frame_open, some_frame}
use Rattle.pip_image.proofs.Steps.{after_fault, after_parts, takes_then, takes_refused, takes_whole}

map_page : {A : Type 0} (v : Page → A) (ps : List Page) (q : Page) → map v (ps ++ q ∷ []) ≡ map v ps ++ v q ∷ []
map_page v [] q = refl
map_page v (p ∷ ps) q = rw (map_page v ps q)

pub loads_page : (n : ℕ) (t u v : List ℕ → PartsRead) (a b c : Option (List ℕ)) (seen : List ℕ) (m k : List (List ℕ))
    (q : Page) → 16 ≤ n → n ≤ 4096 → has_row n q.vpage ≡ true → is_seen q.vpage seen ≡ false → AreWords q.words
    → ((t : Tree) (f : ℕ) → frame_of_root n q.vpage ≡ Some f → is_some (t.words f) ≡ true → LaysOut t m
    → LaysOut (with_page t f q.words) k)
    → Loads n t u a b seen m → TakesParts u v (Holds q ∷ []) b c → Loads n t v a c (seen ++ q.vpage ∷ []) k
loads_page n t u v a b c seen m k q least most row unseen small wrote l x =
    let f = some_frame n q.vpage row in
    let can = frame_open n q.vpage f.0 least most f.1 in
    record {
      pages = l.pages ++ q ∷ [];
      took = rw (map_page Holds l.pages q) (takes_then t u v (map Holds l.pages) (Holds q ∷ []) a b c l.took x);
      vpages = rw (map_page (λ p. p.vpage) l.pages q, l.vpages);
      laid = lays_more n l.pages q f.0 k f.1 can (rw l.vpages unseen)
          (wrote (tree_with n l.pages) f.0 f.1 (still_open n l.pages f.0 can) l.laid);
      small = small_page l.pages q l.small small;
    }

pub loads_all : (n : ℕ) (t u : List ℕ → PartsRead) (a b c : Option (List ℕ)) (seen : List ℕ) (m : List (List ℕ))
    → Loads n t u a b seen m → EndsInput u b c → LoadsAll n t a c m
loads_all n t u a b c seen m l e = let w = takes_whole t u (map Holds l.pages) a b c l.took e in
    record {
      pages = l.pages;
      bytes = w.0;
      read = w.1;
      whole = w.2;
      is = w.3;
      loaded = record { laid = l.laid; small = small_held n l.pages l.small };
    }

pub loads_refused : (n : ℕ) (t u : List ℕ → PartsRead) (a b c : Option (List ℕ)) (seen : List ℕ)
    (i j k : ℕ) (m : List (List ℕ)) (e : ImageError) → j ≡ i → Loads n t u a b seen m → Refuses u [] b c j k e
    → LoadsUpTo n t a c i k m e
loads_refused n t u a b c seen i j k m e h l r = record {
  pages = l.pages;
  refused = rw (← append-nil (map Holds l.pages)) (takes_refused t u (map Holds l.pages) [] a b c i j k e h l.took r);
  loaded = record { laid = l.laid; small = small_held n l.pages l.small };
}

-- after all pages comes the end, or more
pub loads_to_end : {T : Type 0} (n : ℕ) (t u : List ℕ → PartsRead) (a b c : Option (List ℕ)) (seen : List ℕ)
    (i j k : ℕ) (m : List (List ℕ)) (r : Result T ImageError) → j ≡ i → Loads n t u a b seen m
    → MatchResult r (λ _. EndsInput u b c) (Refuses u [] b c j k)
    → MatchResult r (λ _. LoadsAll n t a c m) (LoadsUpTo n t a c i k m)
loads_to_end n t u a b c seen i j k m (Ok v) same l x = loads_all n t u a b c seen m l x
loads_to_end n t u a b c seen i j k m (Err e) same l x = loads_refused n t u a b c seen i j k m e same l x

-- where no part is left, the bytes that were taken are the pages
pub loads_pages : (n : ℕ) (t : List ℕ → PartsRead) (q : Place) (a b : Option (List ℕ)) (seen : List ℕ)
    (m : List (List ℕ)) → q.plans ≡ 0 → q.pages ≡ 0 → Loads n t (coming q) a b seen m → LoadsPages n t a b m
loads_pages n t q a b seen m plans pages l = record {
  pages = l.pages;
  bytes = l.took.bytes;
  read = l.took.taken;
  is = rw (← append-nil l.took.bytes, l.took.is [], none);
  loaded = record { laid = l.laid; small = small_held n l.pages l.small };
}
  where
    none : coming q [] ≡ no_more_parts
    none = rw (plans, pages)

-- ---- the header and the pages are an image

-- the image of a header and pages
abbrev pub image_with : Header → List Page → Image
image_with h pages = record { frames = h.frames; cpus = h.cpus; plans = h.plans.items; pages = pages }

from_pages : (ps : List Page) → image_from (map Holds ps) ≡ record { frames = 0; cpus = 0; plans = []; pages = ps }
from_pages [] = refl
from_pages (p ∷ ps) = ap {A = Image} (λ i. record i { pages = p ∷ i.pages }) (from_pages ps)

from_plans : (ls : List Plan) (ps : List Page)
    → image_from (map Line ls ++ map Holds ps) ≡ record { frames = 0; cpus = 0; plans = ls; pages = ps }
from_plans [] ps = from_pages ps
from_plans (l ∷ ls) ps = ap {A = Image} (λ i. record i { plans = l ∷ i.plans }) (from_plans ls ps)

-- pages that are told to their end are as many as were due
count_pages : (n : ℕ) (seen : List ℕ) (at k : ℕ) (bs : List ℕ) (ps : List Page)
    → (page_parts n seen at k bs).parts ≡ map Holds ps → (page_parts n seen at k bs).fault ≡ None → length ps ≡ k
count_pages n seen at zero [] [] e f = refl
count_pages n seen at zero [] (p ∷ ps) e f = cc
count_pages n seen at zero (b ∷ bs) ps e f = cc
count_pages n seen at (suc k) bs ps e f = more n seen at k (front_page n seen at bs) ps
    (λ p rest qs g h. count_pages n (seen ++ p.vpage ∷ []) (at + 4100) k rest qs g h) e f
  where
    more : (n : ℕ) (seen : List ℕ) (at k : ℕ) (r : Result (Page × List ℕ) ImageError) (ps : List Page)
        → ((p : Page) (rest : List ℕ) (qs : List Page) → (page_parts n (seen ++ p.vpage ∷ []) (at + 4100) k rest).parts
        ≡ map Holds qs → (page_parts n (seen ++ p.vpage ∷ []) (at + 4100) k rest).fault ≡ None → length qs ≡ k)
        → (goes_on r (λ p rest. part_before (Holds p) (page_parts n (seen ++ p.vpage ∷ []) (at + 4100) k rest))).parts
        ≡ map Holds ps
        → (goes_on r (λ p rest. part_before (Holds p) (page_parts n (seen ++ p.vpage ∷ []) (at + 4100) k rest))).fault
        ≡ None → length ps ≡ suc k
    more n seen at k (Err e) ps next g f = cc
    more n seen at k (Ok x) [] next g f = cc
    more n seen at k (Ok x) (q ∷ qs) next g f = rw (next x.0 x.1 qs (ap (drop 1) g) f)

pub count_coming : (h : Header) (p : Place) → IsAfter h p → p.plans ≡ 0 → (bs : List ℕ) (ps : List Page)
    → coming p bs ≡ parts_then (map Holds ps) no_more_parts → length ps ≡ h.pages
count_coming h p b none bs ps is =
    let all_parts : page_parts p.frames p.seen.items p.at p.pages bs ≡ parts_then (map Holds ps) no_more_parts =
    rw none at is in
    count_pages p.frames p.seen.items p.at p.pages bs ps
    (rw (all_parts, after_parts (map Holds ps) no_more_parts, append-nil (map Holds ps)))
    (rw (all_parts, after_fault (map Holds ps) no_more_parts))
    ∙ b.pages

-- what `header` and then `load_pages` took is an image, and its pages are in memory
pub record Holding (a c : Option (List ℕ)) (h : Header) (m : List (List ℕ)) : Type 0 where
  pub input : List ℕ
  pub read : Consumes a c input
  pub pages : List Page
  pub count : length pages ≡ h.pages
  pub is : image input ≡ Ok (image_with h pages)
  pub loaded : IsLoaded h.frames pages m

pub image_begun : (p : Place) (h : Header) (a b c : Option (List ℕ)) (m : List (List ℕ)) → IsAfter h p → p.plans ≡ 0
    → TakesParts image_parts (coming p) (header_parts h) a b → LoadsPages h.frames (coming p) b c m → Holding a c h m
image_begun p h a b c m at_pages none x l =
    let all_parts : image_parts (x.bytes ++ l.bytes) ≡ parts_then (header_parts h)
    (parts_then (map Holds l.pages) no_more_parts) = rw (x.is l.bytes, l.is) in
    record {
      input = x.bytes ++ l.bytes;
      read = Consumes-trans _ _ _ _ _ x.taken l.read;
      pages = l.pages;
      count = count_coming h p at_pages none l.bytes l.pages l.is;
      is = ap (λ t. image_or_fault t.parts t.fault) all_parts ∙ (λ j. image_or_fault (parts j) (fault j)) ∙ ap Ok
          (ap {A = Image} (λ i. record i { frames = h.frames; cpus = h.cpus }) (from_plans h.plans.items l.pages));
      loaded = l.loaded;
    }
  where
    parts : (parts_then (header_parts h) (parts_then (map Holds l.pages) no_more_parts)).parts
        ≡ header_parts h ++ map Holds
        l.pages
    parts = rw (
      after_parts (header_parts h) (parts_then (map Holds l.pages) no_more_parts),
      after_parts (map Holds
          l.pages) no_more_parts,
      append-nil (map Holds l.pages),
    )

    fault : (parts_then (header_parts h) (parts_then (map Holds l.pages) no_more_parts)).fault ≡ None
    fault = after_fault (header_parts h) (parts_then (map Holds l.pages) no_more_parts)
        ∙ after_fault (map Holds l.pages)
        no_more_parts

-- what `header` and then `load_from_joint` took is an image, and the input ends with it
pub image_loaded : (p : Place) (h : Header) (a b c : Option (List ℕ)) (m : List (List ℕ)) → IsAfter h p → p.plans ≡ 0
    → TakesParts image_parts (coming p) (header_parts h) a b → LoadsAll h.frames (coming p) b c m → Holding a c h m
image_loaded p h a b c m at_pages none x l = image_begun p h a b c m at_pages none x
    (search)
