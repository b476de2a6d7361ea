-- The words of directories, tables and shadows, as numbers. Each is 0 where there is nothing to tell.
use Rattle.std.specs.Prelude.{ℕ, ◌+◌, ◌*◌, Bool, cond}

-- a directory's word: the frame of a table, present
abbrev pub directory_word : ℕ → ℕ
directory_word frame = frame * 4096 + 1

-- a table's word: the frame of a page, present, open to the user or hidden, and the rights
abbrev pub leaf_word : ℕ → Bool → ℕ → ℕ
leaf_word frame user rights = frame * 4096 + 1 + cond user 2 0 + 4 * rights

-- what a first shadow's word says of a page that a child has as its descriptor
abbrev pub as_descriptor : ℕ
as_descriptor = 1

-- what a first shadow's word says of a page that a child has as other configuration
abbrev pub as_configuration : ℕ
as_configuration = 2

-- what a first shadow's word says of a page that a child has for its own use
abbrev pub as_lent : ℕ
as_lent = 3

-- a first shadow's word: to the child whose descriptor is at this vpage, and what for
abbrev pub shadow1_word : ℕ → ℕ → ℕ
shadow1_word kind vpage = vpage * 4096 + kind

-- a second shadow's word: the vpage at which the parent maps the page
abbrev pub shadow2_word : ℕ → ℕ
shadow2_word vpage = vpage * 4096 + 1
