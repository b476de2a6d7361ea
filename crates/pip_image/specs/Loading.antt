-- The words of an image's pages in the boot tree.
use Rattle.std.specs.Prelude.{◌≡◌, ℕ, ◌==◌, ◌&&◌, nat_le, nat_lt, if◌then◌else◌, List, [], ◌∷◌, map, Option, Some, None}
use Rattle.std.specs.Prelude.{slice_index_or}
use Rattle.std.specs.Io.KnownBytes.{Consumes, IsAtEnd}
use Rattle.pip_model.specs.declared.image.ImageError.{ImageError}
use Rattle.pip_model.specs.Boot.{boot_tree, first_user}
use Rattle.pip_model.specs.Images.{Page, Holds, PartsRead, image_word}
use Rattle.pip_model.specs.Layout.{LaysOut}
use Rattle.pip_model.specs.Sound.{IsWord}
use Rattle.pip_model.specs.Tree.{Tree, word_of}
use Rattle.pip_image.specs.Reading.{TakesParts, Refuses, parts_then, no_more_parts}

-- the boot tree of n frames with the words of some pages
abbrev pub tree_with : ℕ → List Page → Tree
tree_with n pages = record (boot_tree n) {
  words = λ g. if nat_le (first_user n) g && nat_lt g n
      then Some (image_word n pages g) else None;
}

-- its frames are the memory, and its words are below 2^32
pub record IsLoaded (n : ℕ) (pages : List Page) (m : List (List ℕ)) : Type 0 where
  pub laid : LaysOut (tree_with n pages) m
  pub small : (g i : ℕ) → IsWord (image_word n pages g i)

-- the tree with the words of a page in frame f
abbrev pub with_page : Tree → ℕ → List ℕ → Tree
with_page t f ws = record t { words = λ h. if h == f then Some (λ j. slice_index_or ws j 0) else t.words h }

-- a page is filled up to word i
abbrev pub filled_before : Tree → ℕ → ℕ → List ℕ → Tree
filled_before t f i ws = record t {
  words = λ h. if h == f
      then Some (λ j. if nat_lt j i then slice_index_or ws j 0 else word_of (t.words f) j) else t.words h;
}

-- each word of a page is below 2^32
abbrev pub AreWords : List ℕ → Type 0
AreWords ws = (i : ℕ) → IsWord (slice_index_or ws i 0)

-- each word of these pages is below 2^32
abbrev pub AreSmall : List Page → Type 0
AreSmall [] = Unit {0}
AreSmall (p ∷ ps) = AreWords p.words × AreSmall ps

-- Some pages were taken, whose vpages are `seen`, and are in memory
pub record Loads (n : ℕ) (tell tell' : List ℕ → PartsRead) (left left' : Option (List ℕ)) (seen : List ℕ)
    (m : List (List ℕ)) : Type 0 where
  pub pages : List Page
  pub took : TakesParts tell tell' (map Holds pages) left left'
  pub vpages : map (λ p. p.vpage) pages ≡ seen
  pub laid : LaysOut (tree_with n pages) m
  pub small : AreSmall pages

-- All pages were taken and are in memory. What is left comes after the image
pub record LoadsPages (n : ℕ) (tell : List ℕ → PartsRead) (left left' : Option (List ℕ))
    (m : List (List ℕ)) : Type 0 where
  pub pages : List Page
  pub bytes : List ℕ
  pub read : Consumes left left' bytes
  pub is : tell bytes ≡ parts_then (map Holds pages) no_more_parts
  pub loaded : IsLoaded n pages m

-- All pages were taken and are in memory, and the input is at its end
pub record LoadsAll (n : ℕ) (tell : List ℕ → PartsRead) (left left' : Option (List ℕ))
    (m : List (List ℕ)) : Type 0 where
  pub pages : List Page
  pub bytes : List ℕ
  pub read : Consumes left left' bytes
  pub whole : IsAtEnd left'
  pub is : tell bytes ≡ parts_then (map Holds pages) no_more_parts
  pub loaded : IsLoaded n pages m

-- A fault after some pages, which are in memory
pub record LoadsUpTo (n : ℕ) (tell : List ℕ → PartsRead) (left left' : Option (List ℕ))
    (before now : ℕ) (m : List (List ℕ)) (e : ImageError) : Type 0 where
  pub pages : List Page
  pub refused : Refuses tell (map Holds pages) left left' before now e
  pub loaded : IsLoaded n pages m
