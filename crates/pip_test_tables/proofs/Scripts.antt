-- Worked scripts, computed from the definitions: from the bytes of a script to the bytes of its text.
use Rattle.std.specs.Prelude.{◌≡◌, [], ◌∷◌, ◌++◌, Some, None, refl, codes}
use Rattle.std.specs.Fmt.{digits}
use Rattle.pip_base.specs.declared.types.Size.TheVariants.{Byte, Word}
use Rattle.pip_model.specs.declared.script.ScriptLine.TheVariants as L
use Rattle.pip_model.specs.Grammar.{line_meaning}
use Rattle.pip_model.specs.Layout.{layout}
use Rattle.pip_model.specs.FullRows.{from_word, full_rows, given_word}
use Rattle.pip_model.specs.NodeWords.{page_word, role, role_word, slots}
use Rattle.pip_model.specs.Text.{script_text}

-- a word that is stored is loaded again, and stands in its frame
stored_word_is_loaded : script_text (
    codes "boot 32 1\nst 0 0x400000 7\nld 0 0x400000\npeek 12 0\n")
    ≡ (
    codes "boot 32 1\ndone\n0x00000007\n0x00000007\n")
unfolding digits from_word full_rows given_word layout page_word role role_word slots
stored_word_is_loaded = refl

-- the words of the root at boot
boot_is_laid_out : script_text (
    codes "boot 32 1\npeek 1 0\npeek 1 1\npeek 1 3\npeek 1 11\npeek 1 12\npeek 2 1\npeek 2 1023\npeek 5 3\n"
    ++ codes "peek 5 13\npeek 6 0\npeek 9 1023\n")
    ≡ (
    codes "boot 32 1\n0x00000000\n0x00000001\n0x00000002\n0x00000001\n0x00000002\n0x00006001\n0x00009001\n"
    ++ codes "0x00000006\n0x0000000b\n0x0000c01f\n0x0001f01f\n")
unfolding digits from_word full_rows given_word layout page_word role role_word slots
boot_is_laid_out = refl

-- a machine has at least 16 frames
too_few_frames : script_text (
    codes "boot 15 1\n")
    ≡ (
    codes "bad line 1\n")
unfolding digits from_word full_rows given_word layout page_word role role_word slots
too_few_frames = refl

-- the smallest machine; a fault that nobody handles parks the processor
fault_without_handler_parks : script_text (
    codes "boot 16 1\nld 0 0x402000\nld 0 0x403000\nld 0 0x402000\n")
    ≡ (
    codes "boot 16 1\n0x00000000\npark 1 14\nidle\n")
unfolding digits from_word full_rows given_word layout page_word role role_word slots
fault_without_handler_parks = refl

-- the context of what was parked is lost where no block can be saved to
parked_context_is_lost : script_text (
    codes "boot 32 1\nld 0 0\nld 0 0x800000\npeek 1 14\npeek 1 16\n")
    ≡ (
    codes "boot 32 1\npark 1 14\nidle\n0x00000000\n0x00000000\n")
unfolding digits from_word full_rows given_word layout page_word role role_word slots
parked_context_is_lost = refl

-- a child is created: its five pages are hidden
child_is_created : script_text (
    codes "boot 32 1\ncall 0 0 0x401000 0x402000 0x403000 0x404000 0x405000\npeek 6 1\npeek 7 1\npeek 7 2\n"
    ++ codes "peek 13 0\npeek 13 1\npeek 13 9\npeek 13 11\nld 0 0x401000\n")
    ≡ (
    codes "boot 32 1\nreply 0 0x00000000\n0x0000d01d\n0x00401001\n0x00401002\n0x00401000\n0x0000000d\n"
    ++ codes "0x00000011\n0x00000001\npark 1 14\n")
unfolding digits from_word full_rows given_word layout page_word role role_word slots
child_is_created = refl

-- each refusal of createPartition, and a number that is no call
creation_is_refused : script_text (
    codes "boot 32 1\ncall 0 0 0x401000 0x402000 0x403000 0x404000 0x401000\n"
    ++ codes "call 0 0 0x401001 0x800000 0x403000 0x404000 0x405000\n"
    ++ codes "call 0 0 0 0x800000 0x403000 0x404000 0x405000\n"
    ++ codes "call 0 0 0x800000 0x402000 0x403000 0x404000 0x405000\ncall 0 12\nreg 0 0\n")
    ≡ (
    codes "boot 32 1\nreply 4 0x00000000\nreply 2 0x00000000\nreply 3 0x00000000\nreply 6 0x00000000\n"
    ++ codes "reply 1 0x00000000\n0x00000001\n")
unfolding digits from_word full_rows given_word layout page_word role role_word slots
creation_is_refused = refl

-- a chain of three pages becomes the tables of a directory index
tables_are_prepared : script_text (
    codes "boot 32 1\ncall 0 0 0x401000 0x402000 0x403000 0x404000 0x405000\ncall 0 2 0x401000 0x10000000\n"
    ++ codes "st 0 0x406000 0x407000\nst 0 0x407000 0x408000\ncall 0 3 0x401000 0x10000000 0x406000\n"
    ++ codes "call 0 3 0x401000 0x10000000 0\npeek 14 64\npeek 13 12\npeek 17 2\npeek 17 3\npeek 6 6\n"
    ++ codes "peek 7 6\n")
    ≡ (
    codes "boot 32 1\nreply 0 0x00000000\nreply 0 0x00000003\ndone\ndone\nreply 0 0x00000003\n"
    ++ codes "reply 0 0x00000000\n0x00012001\n0x00000001\n0x00406000\n0x00000012\n0x0001201d\n0x00401002\n")
unfolding digits from_word full_rows given_word layout page_word role role_word slots
tables_are_prepared = refl

-- they are collected, and are a chain again
tables_come_back : script_text (
    codes "boot 32 1\ncall 0 0 0x401000 0x402000 0x403000 0x404000 0x405000\ncall 0 2 0x401000 0x10000000\n"
    ++ codes "st 0 0x406000 0x407000\nst 0 0x407000 0x408000\ncall 0 3 0x401000 0x10000000 0x406000\n"
    ++ codes "call 0 3 0x401000 0x10000000 0\npeek 14 64\npeek 13 12\npeek 17 2\npeek 17 3\npeek 6 6\n"
    ++ codes "peek 7 6\ncall 0 4 0x401000 0x10000000\nld 0 0x406000\npeek 6 6\npeek 14 64\n"
    ++ codes "call 0 4 0x401000 0x10000000\n")
    ≡ (
    codes "boot 32 1\nreply 0 0x00000000\nreply 0 0x00000003\ndone\ndone\nreply 0 0x00000003\n"
    ++ codes "reply 0 0x00000000\n0x00012001\n0x00000001\n0x00406000\n0x00000012\n0x0001201d\n0x00401002\n"
    ++ codes "reply 0 0x00406000\n0x00407000\n0x0001201f\n0x00000000\nreply 9 0x00000000\n")
unfolding digits from_word full_rows given_word layout page_word role role_word slots
tables_come_back = refl

-- a chain that comes back to itself, and one that ends too early
bad_chain_changes_nothing : script_text (
    codes "boot 32 1\ncall 0 0 0x401000 0x402000 0x403000 0x404000 0x405000\nst 0 0x406000 0x407000\n"
    ++ codes "st 0 0x407000 0x407000\ncall 0 3 0x401000 0x10000000 0x406000\nld 0 0x406000\npeek 13 12\n"
    ++ codes "st 0 0x407000 0\ncall 0 3 0x401000 0x10000000 0x406000\n")
    ≡ (
    codes "boot 32 1\nreply 0 0x00000000\ndone\ndone\nreply 4 0x00000000\n0x00407000\n0x00000000\ndone\n"
    ++ codes "reply 3 0x00000000\n")
unfolding digits from_word full_rows given_word layout page_word role role_word slots
bad_chain_changes_nothing = refl

-- a page is lent, and found again in the child
page_is_lent : script_text (
    codes "boot 32 1\ncall 0 0 0x401000 0x402000 0x403000 0x404000 0x405000\ncall 0 2 0x401000 0x10000000\n"
    ++ codes "st 0 0x406000 0x407000\nst 0 0x407000 0x408000\ncall 0 3 0x401000 0x10000000 0x406000\n"
    ++ codes "call 0 3 0x401000 0x10000000 0\npeek 14 64\npeek 13 12\npeek 17 2\npeek 17 3\npeek 6 6\n"
    ++ codes "peek 7 6\nst 0 0x409000 0x2a\ncall 0 5 0x409000 0x401000 0x10000000 3\npeek 18 0\npeek 20 0\n"
    ++ codes "peek 7 9\ncall 0 7 0x409000\ncall 0 7 0x40a000\nld 0 0x409000\n")
    ≡ (
    codes "boot 32 1\nreply 0 0x00000000\nreply 0 0x00000003\ndone\ndone\nreply 0 0x00000003\n"
    ++ codes "reply 0 0x00000000\n0x00012001\n0x00000001\n0x00406000\n0x00000012\n0x0001201d\n0x00401002\n"
    ++ codes "done\nreply 0 0x00000000\n0x0001500f\n0x00409001\n0x00401003\nreply 0 0x00401000\n"
    ++ codes "reply 0 0x00000000\n0x0000002a\n")
unfolding digits from_word full_rows given_word layout page_word role role_word slots
page_is_lent = refl

-- each refusal of addVAddr, and of removeVAddr where nothing is mapped
lending_is_refused : script_text (
    codes "boot 32 1\ncall 0 0 0x401000 0x402000 0x403000 0x404000 0x405000\ncall 0 2 0x401000 0x10000000\n"
    ++ codes "st 0 0x406000 0x407000\nst 0 0x407000 0x408000\ncall 0 3 0x401000 0x10000000 0x406000\n"
    ++ codes "call 0 3 0x401000 0x10000000 0\npeek 14 64\npeek 13 12\npeek 17 2\npeek 17 3\npeek 6 6\n"
    ++ codes "peek 7 6\nst 0 0x409000 0x2a\ncall 0 5 0x409000 0x401000 0x10000000 3\npeek 18 0\npeek 20 0\n"
    ++ codes "peek 7 9\ncall 0 7 0x409000\ncall 0 7 0x40a000\nld 0 0x409000\n"
    ++ codes "call 0 5 0x409000 0x401000 0x10001000 3\ncall 0 5 0x40a000 0x401000 0x10001000 2\n"
    ++ codes "call 0 5 0x40a000 0x401000 0x20000000 1\ncall 0 5 0x40a000 0x401000 0x10000000 1\n"
    ++ codes "call 0 5 0x800000 0x401000 0x10001000 1\ncall 0 5 0x40a000 0x402000 0x10001000 1\n"
    ++ codes "call 0 6 0x401000 0x10001000\n")
    ≡ (
    codes "boot 32 1\nreply 0 0x00000000\nreply 0 0x00000003\ndone\ndone\nreply 0 0x00000003\n"
    ++ codes "reply 0 0x00000000\n0x00012001\n0x00000001\n0x00406000\n0x00000012\n0x0001201d\n0x00401002\n"
    ++ codes "done\nreply 0 0x00000000\n0x0001500f\n0x00409001\n0x00401003\nreply 0 0x00401000\n"
    ++ codes "reply 0 0x00000000\n0x0000002a\nreply 7 0x00000000\nreply 8 0x00000000\nreply 9 0x00000000\n"
    ++ codes "reply 10 0x00000000\nreply 6 0x00000000\nreply 5 0x00000000\nreply 11 0x00000000\n")
unfolding digits from_word full_rows given_word layout page_word role role_word slots
lending_is_refused = refl

-- tables are collected once no row is in them
emptied_table_is_collected : script_text (
    codes "boot 32 1\ncall 0 0 0x401000 0x402000 0x403000 0x404000 0x405000\ncall 0 2 0x401000 0x10000000\n"
    ++ codes "st 0 0x406000 0x407000\nst 0 0x407000 0x408000\ncall 0 3 0x401000 0x10000000 0x406000\n"
    ++ codes "call 0 3 0x401000 0x10000000 0\npeek 14 64\npeek 13 12\npeek 17 2\npeek 17 3\npeek 6 6\n"
    ++ codes "peek 7 6\nst 0 0x409000 0x2a\ncall 0 5 0x409000 0x401000 0x10000000 3\npeek 18 0\npeek 20 0\n"
    ++ codes "peek 7 9\ncall 0 7 0x409000\ncall 0 7 0x40a000\nld 0 0x409000\ncall 0 4 0x401000 0x10000000\n"
    ++ codes "call 0 6 0x401000 0x10000000\ncall 0 4 0x401000 0x10000000\nld 0 0x406000\nld 0 0x407000\n"
    ++ codes "ld 0 0x408000\nld 0 0x406004\ncall 0 4 0x401000 0x10000000\n")
    ≡ (
    codes "boot 32 1\nreply 0 0x00000000\nreply 0 0x00000003\ndone\ndone\nreply 0 0x00000003\n"
    ++ codes "reply 0 0x00000000\n0x00012001\n0x00000001\n0x00406000\n0x00000012\n0x0001201d\n0x00401002\n"
    ++ codes "done\nreply 0 0x00000000\n0x0001500f\n0x00409001\n0x00401003\nreply 0 0x00401000\n"
    ++ codes "reply 0 0x00000000\n0x0000002a\nreply 13 0x00000000\nreply 0 0x00000000\nreply 0 0x00406000\n"
    ++ codes "0x00407000\n0x00408000\n0x00000000\n0x00000000\nreply 9 0x00000000\n")
unfolding digits from_word full_rows given_word layout page_word role role_word slots
emptied_table_is_collected = refl

-- a child gets a handler table
handler_page_is_lent : script_text (
    codes "boot 64 1\ncall 0 0 0x401000 0x402000 0x403000 0x404000 0x405000\nst 0 0x406000 0x407000\n"
    ++ codes "st 0 0x407000 0x408000\ncall 0 3 0x401000 0xfffff000 0x406000\nst 0 0x409100 0xfffff400\n"
    ++ codes "st 0 0x409400 0x10000000\ncall 0 5 0x409000 0x401000 0xfffff000 3\npeek 18 1023\n")
    ≡ (
    codes "boot 64 1\nreply 0 0x00000000\ndone\ndone\nreply 0 0x00000003\ndone\ndone\nreply 0 0x00000000\n"
    ++ codes "0x0001500f\n")
unfolding digits from_word full_rows given_word layout page_word role role_word slots
handler_page_is_lent = refl

-- a child gets a handler table on a machine of two processors
handler_page_is_lent_on_two_processors : script_text (
    codes "boot 64 2\ncall 0 0 0x401000 0x402000 0x403000 0x404000 0x405000\nst 0 0x406000 0x407000\n"
    ++ codes "st 0 0x407000 0x408000\ncall 0 3 0x401000 0xfffff000 0x406000\nst 0 0x409100 0xfffff400\n"
    ++ codes "st 0 0x409400 0x10000000\ncall 0 5 0x409000 0x401000 0xfffff000 3\npeek 18 1023\n")
    ≡ (
    codes "boot 64 2\nreply 0 0x00000000\ndone\ndone\nreply 0 0x00000003\ndone\ndone\nreply 0 0x00000000\n"
    ++ codes "0x0001500f\n")
unfolding digits from_word full_rows given_word layout page_word role role_word slots
handler_page_is_lent_on_two_processors = refl

-- each refusal of yield, and a number that is no call any more
switches_are_refused : script_text (
    codes "boot 64 1\ncall 0 0 0x401000 0x402000 0x403000 0x404000 0x405000\nst 0 0x406000 0x407000\n"
    ++ codes "st 0 0x407000 0x408000\ncall 0 3 0x401000 0xfffff000 0x406000\nst 0 0x409100 0xfffff400\n"
    ++ codes "st 0 0x409400 0x10000000\ncall 0 5 0x409000 0x401000 0xfffff000 3\n"
    ++ codes "call 0 8 0x401000 65 256\ncall 0 8 0x401000 256 256\ncall 0 8 0x401000 64 257\n"
    ++ codes "call 0 8 0 64 256\ncall 0 8 0x401004 64 256\ncall 0 8 0x401000 64 63\ncall 0 8 1 63 256\n"
    ++ codes "call 0 9\n")
    ≡ (
    codes "boot 64 1\nreply 0 0x00000000\ndone\ndone\nreply 0 0x00000003\ndone\ndone\nreply 0 0x00000000\n"
    ++ codes "reply 16 0x00000000\nreply 15 0x00000000\nreply 15 0x00000000\nreply 5 0x00000000\n"
    ++ codes "reply 2 0x00000000\nreply 18 0x00000000\nreply 16 0x00000000\nreply 1 0x00000000\n")
unfolding digits from_word full_rows given_word layout page_word role role_word slots
switches_are_refused = refl

-- a child is entered, faults, and goes on where it was; the root is saved in a block of its own
fault_goes_to_the_parent : script_text (
    codes "boot 64 1\ncall 0 0 0x401000 0x402000 0x403000 0x404000 0x405000\nst 0 0x406000 0x407000\n"
    ++ codes "st 0 0x407000 0x408000\ncall 0 3 0x401000 0xfffff000 0x406000\nst 0 0x409100 0xfffff400\n"
    ++ codes "st 0 0x409400 0x10000000\ncall 0 5 0x409000 0x401000 0xfffff000 3\n"
    ++ codes "st 0 0xfffff038 0xfffff400\nst 0 0xfffff400 0x400400\nst 0 0xfffff0fc 0xfffff444\n"
    ++ codes "st 0 0x4090fc 0xfffff444\ncall 0 8 0x401000 64 63\nreg 0 16\nreg 0 0\npeek 63 273\n"
    ++ codes "ld 0 0x20000000\nreg 0 16\nreg 0 0\nreg 0 1\nreg 0 2\nreg 0 3\nld 0 0x409444\n"
    ++ codes "call 0 8 0x401000 63 256\nreg 0 16\npeek 13 16\n")
    ≡ (
    codes "boot 64 1\nreply 0 0x00000000\ndone\ndone\nreply 0 0x00000003\ndone\ndone\nreply 0 0x00000000\n"
    ++ codes "done\ndone\ndone\ndone\nswitch 1 13 64\n0x10000000\n0x00000000\n0x00400000\nswitch 13 1 14\n"
    ++ codes "0x00400400\n0x0000000e\n0x20000000\n0x00000001\n0x00401000\n0x10000000\nswitch 1 13 63\n"
    ++ codes "0x10000000\n0x00000000\n")
unfolding digits from_word full_rows given_word layout page_word role role_word slots
fault_goes_to_the_parent = refl

-- a child makes a child of its own, and notifies its parent
grandchild_is_created : script_text (
    codes "boot 64 1\ncall 0 0 0x401000 0x402000 0x403000 0x404000 0x405000\nst 0 0x406000 0x407000\n"
    ++ codes "st 0 0x407000 0x408000\ncall 0 3 0x401000 0xfffff000 0x406000\nst 0 0x409100 0xfffff400\n"
    ++ codes "st 0 0x409400 0x10000000\ncall 0 5 0x409000 0x401000 0xfffff000 3\n"
    ++ codes "st 0 0xfffff104 0xfffff400\nst 0 0xfffff400 0x400100\nst 0 0x40f000 0x77\n"
    ++ codes "call 0 5 0x40a000 0x401000 0xffc0a000 3\ncall 0 5 0x40b000 0x401000 0xffc0b000 3\n"
    ++ codes "call 0 5 0x40c000 0x401000 0xffc0c000 3\ncall 0 5 0x40d000 0x401000 0xffc0d000 3\n"
    ++ codes "call 0 5 0x40e000 0x401000 0xffc0e000 3\ncall 0 5 0x40f000 0x401000 0xffc0f000 1\n"
    ++ codes "call 0 8 0x401000 64 256\ncall 0 0 0xffc0a000 0xffc0b000 0xffc0c000 0xffc0d000 0xffc0f000\n"
    ++ codes "call 0 0 0xffc0a000 0xffc0b000 0xffc0c000 0xffc0d000 0xffc0e000\n"
    ++ codes "call 0 5 0xffc0f000 0xffc0a000 0x10000000 3\ncall 0 5 0xffc0f000 0xffc0a000 0x10000000 1\n"
    ++ codes "peek 6 10\npeek 18 10\npeek 7 10\npeek 19 10\ncall 0 8 0 65 256\nreg 0 3\n"
    ++ codes "call 0 6 0x401000 0xffc0a000\n")
    ≡ (
    codes "boot 64 1\nreply 0 0x00000000\ndone\ndone\nreply 0 0x00000003\ndone\ndone\nreply 0 0x00000000\n"
    ++ codes "done\ndone\ndone\nreply 0 0x00000000\nreply 0 0x00000000\nreply 0 0x00000000\n"
    ++ codes "reply 0 0x00000000\nreply 0 0x00000000\nreply 0 0x00000000\nswitch 1 13 64\n"
    ++ codes "reply 8 0x00000000\nreply 0 0x00000000\nreply 8 0x00000000\nreply 9 0x00000000\n0x0001601d\n"
    ++ codes "0x0001600d\n0x00401003\n0xffc0a001\nswitch 13 1 65\n0x00000000\nreply 12 0x00000000\n")
unfolding digits from_word full_rows given_word layout page_word role role_word slots
grandchild_is_created = refl

-- a child goes with its child: its configuration is zero, and what was lent stays
subtree_is_deleted : script_text (
    codes "boot 64 1\ncall 0 0 0x401000 0x402000 0x403000 0x404000 0x405000\nst 0 0x406000 0x407000\n"
    ++ codes "st 0 0x407000 0x408000\ncall 0 3 0x401000 0xfffff000 0x406000\nst 0 0x409100 0xfffff400\n"
    ++ codes "st 0 0x409400 0x10000000\ncall 0 5 0x409000 0x401000 0xfffff000 3\n"
    ++ codes "st 0 0xfffff104 0xfffff400\nst 0 0xfffff400 0x400100\nst 0 0x40f000 0x77\n"
    ++ codes "call 0 5 0x40a000 0x401000 0xffc0a000 3\ncall 0 5 0x40b000 0x401000 0xffc0b000 3\n"
    ++ codes "call 0 5 0x40c000 0x401000 0xffc0c000 3\ncall 0 5 0x40d000 0x401000 0xffc0d000 3\n"
    ++ codes "call 0 5 0x40e000 0x401000 0xffc0e000 3\ncall 0 5 0x40f000 0x401000 0xffc0f000 1\n"
    ++ codes "call 0 8 0x401000 64 256\ncall 0 0 0xffc0a000 0xffc0b000 0xffc0c000 0xffc0d000 0xffc0f000\n"
    ++ codes "call 0 0 0xffc0a000 0xffc0b000 0xffc0c000 0xffc0d000 0xffc0e000\n"
    ++ codes "call 0 5 0xffc0f000 0xffc0a000 0x10000000 3\ncall 0 5 0xffc0f000 0xffc0a000 0x10000000 1\n"
    ++ codes "peek 6 10\npeek 18 10\npeek 7 10\npeek 19 10\ncall 0 8 0 65 256\nreg 0 3\n"
    ++ codes "call 0 6 0x401000 0xffc0a000\ncall 0 1 0x401000\nld 0 0x40a000\nld 0 0x406000\n"
    ++ codes "ld 0 0x40f000\nld 0 0x409400\npeek 6 10\npeek 7 10\ncall 0 1 0x401000\n")
    ≡ (
    codes "boot 64 1\nreply 0 0x00000000\ndone\ndone\nreply 0 0x00000003\ndone\ndone\nreply 0 0x00000000\n"
    ++ codes "done\ndone\ndone\nreply 0 0x00000000\nreply 0 0x00000000\nreply 0 0x00000000\n"
    ++ codes "reply 0 0x00000000\nreply 0 0x00000000\nreply 0 0x00000000\nswitch 1 13 64\n"
    ++ codes "reply 8 0x00000000\nreply 0 0x00000000\nreply 8 0x00000000\nreply 9 0x00000000\n0x0001601d\n"
    ++ codes "0x0001600d\n0x00401003\n0xffc0a001\nswitch 13 1 65\n0x00000000\nreply 12 0x00000000\n"
    ++ codes "reply 0 0x00000000\n0x00000000\n0x00000000\n0x00000077\n0x10000000\n0x0001601f\n0x00000000\n"
    ++ codes "reply 5 0x00000000\n")
unfolding digits from_word full_rows given_word layout page_word role role_word slots
subtree_is_deleted = refl

-- a child that has deleted its own child is deleted
grandchild_is_deleted_first : script_text (
    codes "boot 64 1\ncall 0 0 0x401000 0x402000 0x403000 0x404000 0x405000\nst 0 0x406000 0x407000\n"
    ++ codes "st 0 0x407000 0x408000\ncall 0 3 0x401000 0xfffff000 0x406000\nst 0 0x409100 0xfffff400\n"
    ++ codes "st 0 0x409400 0x10000000\ncall 0 5 0x409000 0x401000 0xfffff000 3\n"
    ++ codes "st 0 0xfffff104 0xfffff400\nst 0 0xfffff400 0x400100\nst 0 0x40f000 0x77\n"
    ++ codes "call 0 5 0x40a000 0x401000 0xffc0a000 3\ncall 0 5 0x40b000 0x401000 0xffc0b000 3\n"
    ++ codes "call 0 5 0x40c000 0x401000 0xffc0c000 3\ncall 0 5 0x40d000 0x401000 0xffc0d000 3\n"
    ++ codes "call 0 5 0x40e000 0x401000 0xffc0e000 3\ncall 0 5 0x40f000 0x401000 0xffc0f000 1\n"
    ++ codes "call 0 8 0x401000 64 256\ncall 0 0 0xffc0a000 0xffc0b000 0xffc0c000 0xffc0d000 0xffc0f000\n"
    ++ codes "call 0 0 0xffc0a000 0xffc0b000 0xffc0c000 0xffc0d000 0xffc0e000\n"
    ++ codes "call 0 5 0xffc0f000 0xffc0a000 0x10000000 3\ncall 0 5 0xffc0f000 0xffc0a000 0x10000000 1\n"
    ++ codes "peek 6 10\npeek 18 10\npeek 7 10\npeek 19 10\ncall 0 1 0xffc0a000\ncall 0 8 0 65 256\n"
    ++ codes "reg 0 3\ncall 0 6 0x401000 0xffc0a000\n")
    ≡ (
    codes "boot 64 1\nreply 0 0x00000000\ndone\ndone\nreply 0 0x00000003\ndone\ndone\nreply 0 0x00000000\n"
    ++ codes "done\ndone\ndone\nreply 0 0x00000000\nreply 0 0x00000000\nreply 0 0x00000000\n"
    ++ codes "reply 0 0x00000000\nreply 0 0x00000000\nreply 0 0x00000000\nswitch 1 13 64\n"
    ++ codes "reply 8 0x00000000\nreply 0 0x00000000\nreply 8 0x00000000\nreply 9 0x00000000\n0x0001601d\n"
    ++ codes "0x0001600d\n0x00401003\n0xffc0a001\nreply 0 0x00000000\nswitch 13 1 65\n0x00000000\n"
    ++ codes "reply 0 0x00000000\n")
unfolding digits from_word full_rows given_word layout page_word role role_word slots
grandchild_is_deleted_first = refl

-- two processors: what runs is not deleted nor entered again
page_is_taken_from_a_running_child : script_text (
    codes "boot 64 2\ncall 0 0 0x401000 0x402000 0x403000 0x404000 0x405000\nst 0 0x406000 0x407000\n"
    ++ codes "st 0 0x407000 0x408000\ncall 0 3 0x401000 0xfffff000 0x406000\nst 0 0x409100 0xfffff400\n"
    ++ codes "st 0 0x409400 0x10000000\ncall 0 5 0x409000 0x401000 0xfffff000 3\n"
    ++ codes "call 0 5 0x40f000 0x401000 0xffc0f000 1\nst 0 0xfffff084 0xfffff400\n"
    ++ codes "st 0 0xfffff400 0x400200\ncall 0 8 0x401000 64 256\nld 0 0xffc0f000\nraise 1\npoll 1\n"
    ++ codes "call 1 1 0x401000\ncall 1 8 0x401000 64 256\ncall 1 6 0x401000 0xffc0f000\nld 0 0xffc0f000\n"
    ++ codes "call 1 1 0x401000\n")
    ≡ (
    codes "boot 64 2\nreply 0 0x00000000\ndone\ndone\nreply 0 0x00000003\ndone\ndone\nreply 0 0x00000000\n"
    ++ codes "reply 0 0x00000000\ndone\ndone\nswitch 1 13 64\n0x00000000\ndone\nswitch 0 1 33\n"
    ++ codes "reply 14 0x00000000\nreply 14 0x00000000\nreply 0 0x00000000\npark 13 14\n"
    ++ codes "reply 0 0x00000000\n")
unfolding digits from_word full_rows given_word layout page_word role role_word slots
page_is_taken_from_a_running_child = refl

-- a line is taken, the root is saved and goes on by a yield to itself, which ends the mask
lines_wait_while_masked : script_text (
    codes "boot 32 1\nst 0 0xfffff084 0xfffff400\nst 0 0xfffff400 0x400200\nst 0 0xfffff0fc 0xfffff444\n"
    ++ codes "raise 1\npoll 0\nreg 0 0\npeek 1 14\nraise 1\npoll 0\ncall 0 8 1 63 63\nreg 0 16\n"
    ++ codes "ld 0 0xfffff444\nld 0 0xfffff448\npeek 1 14\npoll 0\n")
    ≡ (
    codes "boot 32 1\ndone\ndone\ndone\ndone\nswitch 1 1 33\n0x00000021\n0x00000001\ndone\ndone\n"
    ++ codes "switch 1 1 63\n0x00400000\n0x00400200\n0x00000000\n0x00000000\nswitch 1 1 33\n")
unfolding digits from_word full_rows given_word layout page_word role role_word slots
lines_wait_while_masked = refl

-- bytes of a word, frames and words that are not there, an address that is not aligned
bytes_and_bounds : script_text (
    codes "boot 32 1\nst 0 0x400000 0x11223344\nlb 0 0x400000\nsb 0 0x400003 0xaa\nld 0 0x400000\n"
    ++ codes "peek 32 0\npeek 0 1024\nld 0 0x400002\nreg 0 0\n")
    ≡ (
    codes "boot 32 1\ndone\n0x00000044\ndone\n0xaa223344\nnone\nnone\npark 1 17\nidle\n")
unfolding digits from_word full_rows given_word layout page_word role role_word slots
bytes_and_bounds = refl

-- a vector of a line that a child sends shows by r0, which is 0
forged_line_shows_its_sender : script_text (
    codes "boot 64 1\ncall 0 0 0x401000 0x402000 0x403000 0x404000 0x405000\nst 0 0x406000 0x407000\n"
    ++ codes "st 0 0x407000 0x408000\ncall 0 3 0x401000 0xfffff000 0x406000\nst 0 0x409100 0xfffff400\n"
    ++ codes "st 0 0x409400 0x10000000\ncall 0 5 0x409000 0x401000 0xfffff000 3\n"
    ++ codes "st 0 0xfffff080 0xfffff400\nst 0 0xfffff400 0x400100\nst 0 0x4090fc 0xfffff444\n"
    ++ codes "call 0 8 0x401000 64 256\ncall 0 1 0x401000\ncall 0 5 0xfffff000 0x401000 0x10000000 1\n"
    ++ codes "call 0 0 0xfffff000 0x401000 0x402000 0x403000 0x404000\ncall 0 7 0xfffff000\n"
    ++ codes "call 0 8 0 64 256\ncall 0 10\nraise 0\npoll 0\nreg 0 3\ncall 0 8 0x401000 63 256\n"
    ++ codes "call 0 8 0 32 256\nreg 0 0\n")
    ≡ (
    codes "boot 64 1\nreply 0 0x00000000\ndone\ndone\nreply 0 0x00000003\ndone\ndone\nreply 0 0x00000000\n"
    ++ codes "done\ndone\ndone\nswitch 1 13 64\nreply 5 0x00000000\nreply 5 0x00000000\n"
    ++ codes "reply 6 0x00000000\nreply 0 0x00000000\nreply 16 0x00000000\nreply 0 0x00000000\ndone\n"
    ++ codes "switch 13 1 32\n0x00000000\nswitch 1 13 63\nswitch 13 1 32\n0x00000000\n")
unfolding digits from_word full_rows given_word layout page_word role role_word slots
forged_line_shows_its_sender = refl

-- where a poll of that line has it in r0
polled_line_shows_itself : script_text (
    codes "boot 64 1\ncall 0 0 0x401000 0x402000 0x403000 0x404000 0x405000\nst 0 0x406000 0x407000\n"
    ++ codes "st 0 0x407000 0x408000\ncall 0 3 0x401000 0xfffff000 0x406000\nst 0 0x409100 0xfffff400\n"
    ++ codes "st 0 0x409400 0x10000000\ncall 0 5 0x409000 0x401000 0xfffff000 3\n"
    ++ codes "st 0 0xfffff080 0xfffff400\nst 0 0xfffff400 0x400100\nst 0 0x4090fc 0xfffff444\n"
    ++ codes "call 0 8 0x401000 64 256\ncall 0 1 0x401000\ncall 0 5 0xfffff000 0x401000 0x10000000 1\n"
    ++ codes "call 0 0 0xfffff000 0x401000 0x402000 0x403000 0x404000\ncall 0 7 0xfffff000\n"
    ++ codes "call 0 8 0 64 256\ncall 0 10\nraise 0\npoll 0\nreg 0 0\n")
    ≡ (
    codes "boot 64 1\nreply 0 0x00000000\ndone\ndone\nreply 0 0x00000003\ndone\ndone\nreply 0 0x00000000\n"
    ++ codes "done\ndone\ndone\nswitch 1 13 64\nreply 5 0x00000000\nreply 5 0x00000000\n"
    ++ codes "reply 6 0x00000000\nreply 0 0x00000000\nreply 16 0x00000000\nreply 0 0x00000000\ndone\n"
    ++ codes "switch 13 1 32\n0x00000020\n")
unfolding digits from_word full_rows given_word layout page_word role role_word slots
polled_line_shows_itself = refl

-- a child gives its handler page as configuration: it has no handler any more
handler_page_given_away : script_text (
    codes "boot 64 1\ncall 0 0 0x401000 0x402000 0x403000 0x404000 0x405000\nst 0 0x406000 0x407000\n"
    ++ codes "st 0 0x407000 0x408000\ncall 0 3 0x401000 0xfffff000 0x406000\nst 0 0x409100 0xfffff400\n"
    ++ codes "st 0 0x409400 0x10000000\ncall 0 5 0x409000 0x401000 0xfffff000 3\n"
    ++ codes "st 0 0xfffff104 0xfffff400\nst 0 0xfffff400 0x400100\n"
    ++ codes "call 0 5 0x40a000 0x401000 0xffc0a000 3\ncall 0 5 0x40b000 0x401000 0xffc0b000 3\n"
    ++ codes "call 0 5 0x40c000 0x401000 0xffc0c000 3\ncall 0 5 0x40d000 0x401000 0xffc0d000 3\n"
    ++ codes "call 0 8 0x401000 64 256\ncall 0 0 0xfffff000 0xffc0a000 0xffc0b000 0xffc0c000 0xffc0d000\n"
    ++ codes "call 0 8 0 65 256\ncall 0 8 0x401000 64 256\ncall 0 1 0x401000\nld 0 0x409400\n")
    ≡ (
    codes "boot 64 1\nreply 0 0x00000000\ndone\ndone\nreply 0 0x00000003\ndone\ndone\nreply 0 0x00000000\n"
    ++ codes "done\ndone\nreply 0 0x00000000\nreply 0 0x00000000\nreply 0 0x00000000\nreply 0 0x00000000\n"
    ++ codes "switch 1 13 64\nreply 0 0x00000000\nswitch 13 1 65\nreply 16 0x00000000\n"
    ++ codes "reply 0 0x00000000\n0x00000000\n")
unfolding digits from_word full_rows given_word layout page_word role role_word slots
handler_page_given_away = refl

-- an empty script has an empty text
empty_script : script_text (
    codes "")
    ≡ (
    codes "")
unfolding digits from_word full_rows given_word layout page_word role role_word slots
empty_script = refl

-- where the pages of the smallest machine stand
boot_16 : script_text (
    codes "boot 16 1\npeek 1 12\npeek 6 0\nld 0 0x402000\nst 0 0x402000 1\npeek 14 0\nst 0 0xfffff000 2\n"
    ++ codes "peek 15 0\nld 0 0x403000\n")
    ≡ (
    codes "boot 16 1\n0x00000002\n0x0000c01f\n0x00000000\ndone\n0x00000001\ndone\n0x00000002\npark 1 14\n")
unfolding digits from_word full_rows given_word layout page_word role role_word slots
boot_16 = refl

-- the greatest machine whose root has two tables
boot_1037 : script_text (
    codes "boot 1037 1\npeek 1 12\npeek 6 0\nld 0 0x7ff000\nst 0 0x7ff000 1\npeek 1035 0\n"
    ++ codes "st 0 0xfffff000 2\npeek 1036 0\nld 0 0x800000\n")
    ≡ (
    codes "boot 1037 1\n0x00000002\n0x0000c01f\n0x00000000\ndone\n0x00000001\ndone\n0x00000002\npark 1 14\n")
unfolding digits from_word full_rows given_word layout page_word role role_word slots
boot_1037 = refl

-- the least whose root has three
boot_1038 : script_text (
    codes "boot 1038 1\npeek 1 12\npeek 6 0\nld 0 0x7fd000\nst 0 0x7fd000 1\npeek 1036 0\n"
    ++ codes "st 0 0xfffff000 2\npeek 1037 0\nld 0 0x7fe000\n")
    ≡ (
    codes "boot 1038 1\n0x00000003\n0x0000f01f\n0x00000000\ndone\n0x00000001\ndone\n0x00000002\npark 1 14\n")
unfolding digits from_word full_rows given_word layout page_word role role_word slots
boot_1038 = refl

-- the greatest machine
boot_4096 : script_text (
    codes "boot 4096 1\npeek 1 12\npeek 6 0\nld 0 0x13e9000\nst 0 0x13e9000 1\npeek 4094 0\n"
    ++ codes "st 0 0xfffff000 2\npeek 4095 0\nld 0 0x13ea000\n")
    ≡ (
    codes "boot 4096 1\n0x00000005\n0x0001501f\n0x00000000\ndone\n0x00000001\ndone\n0x00000002\npark 1 14\n")
unfolding digits from_word full_rows given_word layout page_word role role_word slots
boot_4096 = refl

-- the last line may lack its newline; blank lines and remarks count
last_line_without_newline : script_text (
    codes "# a remark\n\nboot 16 1\nld 0 0x400000")
    ≡ (
    codes "boot 16 1\n0x00000000\n")
unfolding digits from_word full_rows given_word layout page_word role role_word slots
last_line_without_newline = refl

-- a bad line ends the text, whatever follows
bad_line_ends_the_text : script_text (
    codes "boot 0x10 1\n\nld 0 00\nld 0 0x400000\n")
    ≡ (
    codes "boot 16 1\nbad line 3\n")
unfolding digits from_word full_rows given_word layout page_word role role_word slots
bad_line_ends_the_text = refl

-- a remark may have 120 bytes
remark_of_120_bytes : script_text (
    codes "########################################################################################################################\n"
    ++ codes "boot 16 4\n")
    ≡ (
    codes "boot 16 4\n")
unfolding digits from_word full_rows given_word layout page_word role role_word slots
remark_of_120_bytes = refl

-- and no more, before the boot line too
remark_of_121_bytes : script_text (
    codes "#########################################################################################################################\n"
    ++ codes "boot 16 4\n")
    ≡ (
    codes "bad line 1\n")
unfolding digits from_word full_rows given_word layout page_word role role_word slots
remark_of_121_bytes = refl

-- no line but a blank one stands before the boot line
line_before_boot : script_text (
    codes "raise 1\nboot 16 1\n")
    ≡ (
    codes "bad line 1\n")
unfolding digits from_word full_rows given_word layout page_word role role_word slots
line_before_boot = refl

-- and it stands once
boot_twice : script_text (
    codes "boot 16 1\nboot 16 1\n")
    ≡ (
    codes "boot 16 1\nbad line 2\n")
unfolding digits from_word full_rows given_word layout page_word role role_word slots
boot_twice = refl

-- a processor is below their number
processor_that_is_not_there : script_text (
    codes "boot 16 2\npoll 1\npoll 2\n")
    ≡ (
    codes "boot 16 2\nidle\nbad line 3\n")
unfolding digits from_word full_rows given_word layout page_word role role_word slots
processor_that_is_not_there = refl

-- a call has at most five arguments
call_with_six_arguments : script_text (
    codes "boot 16 1\ncall 0 12 1 2 3 4 5\ncall 0 12 1 2 3 4 5 6\n")
    ≡ (
    codes "boot 16 1\nreply 1 0x00000000\nbad line 3\n")
unfolding digits from_word full_rows given_word layout page_word role role_word slots
call_with_six_arguments = refl

-- ---- lines that are not in the grammar, on a machine of one processor

bad_two_spaces : line_meaning 1 (codes "ld 0  0") ≡ None
bad_two_spaces = refl

bad_a_space_at_the_end : line_meaning 1 (codes "ld 0 0 ") ≡ None
bad_a_space_at_the_end = refl

bad_a_space_at_the_start : line_meaning 1 (codes " ld 0 0") ≡ None
bad_a_space_at_the_start = refl

bad_no_digit : line_meaning 1 (codes "ld 0 0xg") ≡ None
bad_no_digit = refl

bad_no_digits : line_meaning 1 (codes "ld 0 0x") ≡ None
bad_no_digits = refl

bad_an_upper_case_digit : line_meaning 1 (codes "ld 0 0xA") ≡ None
bad_an_upper_case_digit = refl

bad_nine_hexadecimal_digits : line_meaning 1 (codes "ld 0 0x000000001") ≡ None
bad_nine_hexadecimal_digits = refl

bad_a_0_before_digits : line_meaning 1 (codes "ld 0 01") ≡ None
bad_a_0_before_digits = refl

bad_above_a_word : line_meaning 1 (codes "ld 0 4294967296") ≡ None
bad_above_a_word = refl

bad_above_a_byte : line_meaning 1 (codes "sb 0 0x400000 256") ≡ None
bad_above_a_byte = refl

bad_a_vector_above_255 : line_meaning 1 (codes "trap 0 256 0 0") ≡ None
bad_a_vector_above_255 = refl

bad_a_line_above_15 : line_meaning 1 (codes "raise 16") ≡ None
bad_a_line_above_15 = refl

bad_a_register_above_16 : line_meaning 1 (codes "reg 0 17") ≡ None
bad_a_register_above_16 = refl

bad_too_few_numbers : line_meaning 1 (codes "ld 0") ≡ None
bad_too_few_numbers = refl

bad_too_many : line_meaning 1 (codes "ld 0 0 0") ≡ None
bad_too_many = refl

bad_no_number_of_a_call : line_meaning 1 (codes "call 0") ≡ None
bad_no_number_of_a_call = refl

bad_an_unknown_word : line_meaning 1 (codes "LD 0 0") ≡ None
bad_an_unknown_word = refl

-- and the greatest numbers that are

good_ld_0_4294967295 : line_meaning 1 (codes "ld 0 4294967295") ≡ Some (L.Load 0 4294967295 Word)
good_ld_0_4294967295 = refl

good_lb_0_0xffffffff : line_meaning 1 (codes "lb 0 0xffffffff") ≡ Some (L.Load 0 0xffffffff Byte)
good_lb_0_0xffffffff = refl

good_sb_0_0_255 : line_meaning 1 (codes "sb 0 0 255") ≡ Some (L.Store 0 0 Byte 255)
good_sb_0_0_255 = refl

good_trap_0_255_0_0 : line_meaning 1 (codes "trap 0 255 0 0") ≡ Some (L.Trap 0 255 0 0)
good_trap_0_255_0_0 = refl

good_raise_15 : line_meaning 1 (codes "raise 15") ≡ Some (L.Raise 15)
good_raise_15 = refl

good_reg_0_16 : line_meaning 1 (codes "reg 0 16") ≡ Some (L.Reg 0 16)
good_reg_0_16 = refl

good_call_0_1_2 : line_meaning 1 (codes "call 0 1 2") ≡ Some (L.Call 0 1 (2 ∷ 0 ∷ 0 ∷ 0 ∷ 0 ∷ []))
good_call_0_1_2 = refl
