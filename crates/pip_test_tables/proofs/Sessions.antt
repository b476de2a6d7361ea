-- The sessions that docs/FORMATS.md shows, some more, and the life of a child, computed from the definitions.
use Rattle.std.specs.Prelude.{◌≡◌, ◌++◌, refl, codes}
use Rattle.std.specs.Fmt.{digits}
use Rattle.pip_model.specs.FullRows.{from_word, full_rows, given_word}
use Rattle.pip_model.specs.Layout.{layout}
use Rattle.pip_model.specs.NodeWords.{page_word, role, role_word, slots}
use Rattle.pip_model.specs.Text.{script_text}

-- the worked example of docs/MODEL.md, word by word: a child's life
model_session : script_text (
    codes "boot 32 1\npeek 6 1\ncall 0 0 0x401000 0x402000 0x403000 0x404000 0x405000\npeek 6 1\npeek 7 1\n"
    ++ codes "peek 7 2\npeek 13 11\ncall 0 7 0x402000\ncall 0 2 0x401000 0x10000000\nst 0 0x406000 0x407000\n"
    ++ codes "st 0 0x407000 0x408000\ncall 0 3 0x401000 0x10000000 0x406000\ncall 0 2 0x401000 0x10000000\n"
    ++ codes "peek 14 64\npeek 6 6\npeek 7 6\nst 0 0x409000 0x2a\ncall 0 5 0x409000 0x401000 0x10000000 3\n"
    ++ codes "peek 18 0\npeek 20 0\npeek 7 9\nld 0 0x409000\ncall 0 7 0x409000\n"
    ++ codes "call 0 5 0x409000 0x401000 0x10001000 3\ncall 0 4 0x401000 0x10000000\n"
    ++ codes "call 0 6 0x401000 0x10000000\npeek 18 0\npeek 7 9\ncall 0 1 0x401000\npeek 6 1\npeek 7 1\n"
    ++ codes "ld 0 0x401000\nld 0 0x406000\nld 0 0x409000\ncall 0 1 0x401000\n")
    ≡ (
    codes "boot 32 1\n0x0000d01f\nreply 0 0x00000000\n0x0000d01d\n0x00401001\n0x00401002\n0x00000001\n"
    ++ codes "reply 0 0x00401000\nreply 0 0x00000003\ndone\ndone\nreply 0 0x00000003\nreply 0 0x00000000\n"
    ++ codes "0x00012001\n0x0001201d\n0x00401002\ndone\nreply 0 0x00000000\n0x0001500f\n0x00409001\n"
    ++ codes "0x00401003\n0x0000002a\nreply 0 0x00401000\nreply 7 0x00000000\nreply 13 0x00000000\n"
    ++ codes "reply 0 0x00000000\n0x00000000\n0x00000000\nreply 0 0x00000000\n0x0000d01f\n0x00000000\n"
    ++ codes "0x00000000\n0x00000000\n0x0000002a\nreply 5 0x00000000\n")
unfolding digits from_word full_rows given_word layout page_word role role_word slots
model_session = refl

-- words and bytes, and what parks
words_and_bytes : script_text (
    codes "boot 32 1\nst 0 0x400000 0x11223344\nlb 0 0x400000\nsb 0 0x400003 0xaa\nld 0 0x400000\n"
    ++ codes "peek 12 0\npeek 32 0\ncall 0 12\nreg 0 0\nreg 0 16\nld 0 0x400002\nld 0 0x400000\n")
    ≡ (
    codes "boot 32 1\ndone\n0x00000044\ndone\n0xaa223344\n0xaa223344\nnone\nreply 1 0x00000000\n"
    ++ codes "0x00000001\n0x00400000\npark 1 17\nidle\n")
unfolding digits from_word full_rows given_word layout page_word role role_word slots
words_and_bytes = refl

-- the root's frames after the boot
frames_after_boot : script_text (
    codes "boot 32 1\npeek 1 1\npeek 1 12\npeek 2 1\npeek 2 1023\npeek 5 3\npeek 6 0\npeek 9 1023\n")
    ≡ (
    codes "boot 32 1\n0x00000001\n0x00000002\n0x00006001\n0x00009001\n0x00000006\n0x0000c01f\n0x0001f01f\n")
unfolding digits from_word full_rows given_word layout page_word role role_word slots
frames_after_boot = refl

-- a line waits until the root has a handler
line_waits_for_a_handler : script_text (
    codes "boot 0x20 1\nraise 1\npoll 0\nst 0 0xfffff084 0xfffff400\nst 0 0xfffff400 0x400200\n"
    ++ codes "st 0 0xfffff0fc 0xfffff444\npoll 0\nreg 0 16\nreg 0 0\ncall 0 8 1 63 256\nreg 0 16\n")
    ≡ (
    codes "boot 32 1\ndone\ndone\ndone\ndone\ndone\nswitch 1 1 33\n0x00400200\n0x00000021\nswitch 1 1 63\n"
    ++ codes "0x00400000\n")
unfolding digits from_word full_rows given_word layout page_word role role_word slots
line_waits_for_a_handler = refl

-- blank lines and remarks count
bad_line_after_a_remark : script_text (
    codes "# a remark, then an empty line\n\nboot 16 1\nld 0 0x402000\nld 0 00\nld 0 0x401000\n")
    ≡ (
    codes "boot 16 1\n0x00000000\nbad line 5\n")
unfolding digits from_word full_rows given_word layout page_word role role_word slots
bad_line_after_a_remark = refl
