-- Worked texts of trees, of frames and of generated loads, computed from the definitions.
use Rattle.std.specs.Prelude.{◌≡◌, refl, codes, flat_map, List, [], ◌∷◌, ◌++◌}
use Rattle.std.specs.Fmt.{digits}
use Rattle.pip_base.specs.declared.types.Size.TheVariants.{Word}
use Rattle.pip_model.specs.Boot.{boot_tree}
use Rattle.pip_model.specs.Dump.{tree_text, frame_text, numbers_from}
use Rattle.pip_model.specs.Events as E
use Rattle.pip_model.specs.Events.{Event}
use Rattle.pip_model.specs.Generator.{next_state}
use Rattle.pip_model.specs.Happens.{after, with_word}
use Rattle.pip_model.specs.Layout.{layout}
use Rattle.pip_model.specs.NodeWords.{role, role_word}
use Rattle.pip_model.specs.Soak.{five, soak_events, soak_text}
use Rattle.pip_model.specs.Tree.{Tree}
use Rattle.pip_model.specs.Worlds.{boot_world}

-- ---- trees

root_alone : tree_text (boot_tree 16) ≡
    codes "part 1 depth 0 up 1 born 0x00000000 tables 2 rows 4\n"
    ++ codes "row 0x00400000 12 rwx user free\n"
    ++ codes "row 0x00401000 13 rwx user free\n"
    ++ codes "row 0x00402000 14 rwx user free\n"
    ++ codes "row 0xfffff000 15 rwx user free\n"
unfolding digits
root_alone = refl

-- three children, made in another order than that of their addresses; the first has a table and a row
abbrev a_family : List Event
a_family =
    E.Call 0 0 (five 0x406000 0x407000 0x408000 0x409000 0x40a000)
    ∷ E.Call 0 0 (five 0x401000 0x402000 0x403000 0x404000 0x405000)
    ∷ E.Call 0 0 (five 0x40b000 0x40c000 0x40d000 0x40e000 0x40f000)
    ∷ E.Store 0 0x410000 Word 0x411000
    ∷ E.Store 0 0x411000 Word 0x412000
    ∷ E.Call 0 3 (five 0x401000 0x10000000 0x410000 0 0)
    ∷ E.Call 0 5 (five 0x400000 0x401000 0x10000000 5 0)
    ∷ []

three_children : tree_text (after (boot_world 32 1) a_family).tree ≡
    codes "part 1 depth 0 up 1 born 0x00000000 tables 2 rows 20\n"
    ++ codes "row 0x00400000 12 rwx user lent 0x00401000\n"
    ++ codes "row 0x00401000 13 rwx hidden desc 0x00401000\n"
    ++ codes "row 0x00402000 14 rwx hidden conf 0x00401000\n"
    ++ codes "row 0x00403000 15 rwx hidden conf 0x00401000\n"
    ++ codes "row 0x00404000 16 rwx hidden conf 0x00401000\n"
    ++ codes "row 0x00405000 17 rwx hidden conf 0x00401000\n"
    ++ codes "row 0x00406000 18 rwx hidden desc 0x00406000\n"
    ++ codes "row 0x00407000 19 rwx hidden conf 0x00406000\n"
    ++ codes "row 0x00408000 20 rwx hidden conf 0x00406000\n"
    ++ codes "row 0x00409000 21 rwx hidden conf 0x00406000\n"
    ++ codes "row 0x0040a000 22 rwx hidden conf 0x00406000\n"
    ++ codes "row 0x0040b000 23 rwx hidden desc 0x0040b000\n"
    ++ codes "row 0x0040c000 24 rwx hidden conf 0x0040b000\n"
    ++ codes "row 0x0040d000 25 rwx hidden conf 0x0040b000\n"
    ++ codes "row 0x0040e000 26 rwx hidden conf 0x0040b000\n"
    ++ codes "row 0x0040f000 27 rwx hidden conf 0x0040b000\n"
    ++ codes "row 0x00410000 28 rwx hidden conf 0x00401000\n"
    ++ codes "row 0x00411000 29 rwx hidden conf 0x00401000\n"
    ++ codes "row 0x00412000 30 rwx hidden conf 0x00401000\n"
    ++ codes "row 0xfffff000 31 rwx user free\n"
    ++ codes "part 13 depth 1 up 1 born 0x00401000 tables 1 rows 1\n"
    ++ codes "row 0x10000000 12 r-x user free\n"
    ++ codes "part 18 depth 1 up 1 born 0x00406000 tables 0 rows 0\n"
    ++ codes "part 23 depth 1 up 1 born 0x0040b000 tables 0 rows 0\n"
unfolding digits
three_children = refl

-- ---- frames

-- the first page of the root holds four words
abbrev with_words : Tree
with_words = with_word (with_word (with_word (with_word (boot_tree 16) 12 0 0x02100007) 12 1 0x22100000) 12 2
    0x2000000c) 12 3 0x21000040

first_frame : frame_text with_words 1 ≡
    codes "frame 1\n"
    ++ codes "0000: 00000000 00000001 00000000 00000002 00000000 00000003 00000000 00000004\n"
    ++ codes "0008: 00000000 00000005 00000000 00000001 00000002 00000000 00000000 00000000\n"
unfolding digits layout role role_word
first_frame = refl

-- the frames from 12 to 15: those of zeros have no line
last_frames : flat_map (frame_text with_words) (numbers_from 12 4) ≡
    codes "frame 12\n"
    ++ codes "0000: 02100007 22100000 2000000c 21000040 00000000 00000000 00000000 00000000\n"
unfolding digits layout role role_word
last_frames = refl

-- ---- generated loads

-- six steps, each of another kind
six_steps : soak_events 6 74837 ≡
    E.Call 0 8 (five 0x40e000 63 256 0 0)
    ∷ E.Store 1 0x407000 Word 0x408000
    ∷ E.Store 1 0x408000 Word 0x409000
    ∷ E.Call 1 3 (five 0x405000 0x10001000 0x407000 0 0)
    ∷ E.Call 1 8 (five 0x408000 64 63 0 0)
    ∷ E.Store 0 0x407000 Word 0x409000
    ∷ E.Raise 1
    ∷ E.Call 0 5 (five 0x407000 0x40c000 0xfffff000 7 0)
    ∷ []
unfolding next_state
six_steps = refl

nothing_happened : soak_text 0 1 ≡
    codes "events 0\nword 0\ndone 0\nswitch 0\npark 0\nidle 0\n"
    ++ codes "reply 0 0\nreply 1 0\nreply 2 0\nreply 3 0\nreply 4 0\nreply 5 0\nreply 6 0\nreply 7 0\nreply 8 0\n"
    ++ codes "reply 9 0\nreply 10 0\nreply 11 0\nreply 12 0\nreply 13 0\nreply 14 0\nreply 15 0\nreply 16 0\nreply 17 0\nreply 18 0\n"
    ++ codes "parts 1\nrows 52\nhidden 11\nend 0\n"
unfolding digits
nothing_happened = refl

-- the root stores two words and asks for what is no child; nothing runs on the other processor
seven_steps : soak_text 7 3 ≡
    codes "events 9\nword 0\ndone 2\nswitch 0\npark 0\nidle 6\n"
    ++ codes "reply 0 0\nreply 1 0\nreply 2 0\nreply 3 0\nreply 4 0\nreply 5 1\nreply 6 0\nreply 7 0\nreply 8 0\n"
    ++ codes "reply 9 0\nreply 10 0\nreply 11 0\nreply 12 0\nreply 13 0\nreply 14 0\nreply 15 0\nreply 16 0\nreply 17 0\nreply 18 0\n"
    ++ codes "parts 1\nrows 52\nhidden 11\nend 7\n"
unfolding digits next_state
seven_steps = refl
