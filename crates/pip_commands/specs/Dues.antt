-- What is due of each command, and of words of no form.
use Rattle.std.specs.Prelude.{◌≡◌, ℕ, ◌^◌, ◌≤◌, ◌<◌, ◌==◌, ◌⊎◌, false, List, [], ◌∷◌, ◌++◌, length}
use Rattle.std.specs.Prelude.{Option, Some, None, Result, Ok, Err, option_map}
use Rattle.std.specs.Io.KnownBytes.{IsAtEnd}
use Rattle.pip_audit.specs.Core.{BadAt, CoreText, Whole, core_text}
use Rattle.pip_audit.specs.CoreRead.{AreWholeLines, BeginsLines}
use Rattle.pip_asm.specs.Dues.{IsAtPart}
use Rattle.pip_image.specs.Reading.{EndsAtMost}
use Rattle.pip_script.specs.Lines.{HasNoNewline}
use Rattle.pip_model.specs.Assembly.{LineFault, assembly}
use Rattle.pip_model.specs.Audit.{Finding, Lays, Unread, Unsound, Differs, finding}
use Rattle.pip_model.specs.DisText.{dis_text}
use Rattle.pip_model.specs.Dump.{tree_text}
use Rattle.pip_model.specs.Grammar.{line_meaning}
use Rattle.pip_model.specs.Images.{Image, image, image_parts}
use Rattle.pip_model.specs.Run.{run_text, run_world}
use Rattle.pip_model.specs.RunTexts.{core_run_text, stepped_world, tree_run_text}
use Rattle.pip_model.specs.Soak.{soak_text, soak_world}
use Rattle.pip_model.specs.Text.{Ending, finished, bad_at, line_text, transcript, script_text}
use Rattle.pip_model.specs.Tree.{Tree}
use Rattle.pip_model.specs.Worlds.{World}
use Rattle.pip_model.specs.declared.image.ImageError.{ImageError}
use Rattle.pip_model.specs.declared.script.ScriptLine.TheVariants.{Boot}
use Rattle.pip_native.specs.Watching.{native_text, native_world}
use Rattle.pip_children.specs.Dues.{children_due}
use Rattle.pip_command_contracts.specs.Usage.{unknown_due}
use Rattle.pip_commands.specs.AuditTexts.{bad_line, differs_line, unread_line, unsound_line, yes_line}
use Rattle.pip_command_contracts.specs.EndsBy.{Due, Response, plainly}
use Rattle.pip_commands.specs.Faults.{asm_line}
use Rattle.pip_command_contracts.specs.Faults.{image_line}
use Rattle.pip_commands.specs.Words.{usage}
use Rattle.pip_commands.specs.declared.commands.run.report.Report.{Report}
use Rattle.pip_commands.specs.declared.commands.run.report.Report.TheVariants as R
use Rattle.pip_commands.specs.declared.words.Command.{Command}
use Rattle.pip_commands.specs.declared.words.Command.TheVariants as C
use Rattle.pip_command_contracts.specs.ImageDues.{IsHeaderText, image_due, without_reading}

-- `soak`: the text of the load, and its last world
abbrev pub soak_due : ℕ → ℕ → Due
soak_due count seed = without_reading (plainly 0 (soak_text count seed) (Some (soak_world count seed))) (Unit {0})

-- at most this many bytes are taken
abbrev pub max_input : ℕ
max_input = 2 ^ 24

-- the text of all lines and their last world; or the text up to and with `bad line N`
abbrev pub script_answer : Ending → List ℕ → Option World → Response
script_answer finished text world = plainly 0 text world
script_answer (bad_at n) text world = plainly 2 text None

-- whole lines, and then more bytes than a line may have
pub record EndsTooLong (bytes : List ℕ) : Type 0 where
  pub lines : List ℕ
  pub rest : List ℕ
  pub all : bytes ≡ lines ++ rest
  pub whole : AreWholeLines lines
  pub plain : HasNoNewline rest
  pub long : 120 < length rest

-- the last line of these bytes can be judged: it ends with its newline, or is too long
abbrev pub IsJudged : List ℕ → Type 0
IsJudged bytes = AreWholeLines bytes ⊎ EndsTooLong bytes

-- the first of these bytes, within the limit, have a bad line, which can be judged, whatever follows them
pub record HasBadLine (bytes : List ℕ) : Type 0 where
  pub first : List ℕ
  pub beyond : List ℕ
  pub all : bytes ≡ first ++ beyond
  pub limit : length first ≤ max_input
  pub judged : IsJudged first
  pub number : ℕ
  pub bad : (transcript first).ending ≡ bad_at number
  pub fixed : (rest : List ℕ) → transcript (first ++ rest) ≡ transcript first

-- these bytes are whole lines, which are good, and a rest that isn't too long for a line. The text is that of the lines
pub record AreGoodLines (bytes text : List ℕ) : Type 0 where
  pub lines : List ℕ
  pub rest : List ℕ
  pub all : bytes ≡ lines ++ rest
  pub whole : AreWholeLines lines
  pub plain : HasNoNewline rest
  pub short : length rest ≤ 120
  pub good : (transcript lines).ending ≡ finished
  pub same : text ≡ script_text lines

-- these bytes begin, within the limit, with lines that can be judged, and the last is their text
pub record IsAtLine (bytes front last : List ℕ) : Type 0 where
  pub lines : List ℕ
  pub beyond : List ℕ
  pub all : bytes ≡ lines ++ beyond
  pub limit : length lines ≤ max_input
  pub judged : IsJudged lines
  pub none : front ≡ []
  pub text : last ≡ script_text lines

-- a good boot line was read, which ends with its newline or with the input, and before it blank lines alone
pub record IsAtBoot (bytes : List ℕ) (left : Option (List ℕ)) : Type 0 where
  pub before : List ℕ
  pub line : List ℕ
  pub newline : List ℕ
  pub beyond : List ℕ
  pub frames : ℕ
  pub cpus : ℕ
  pub all : bytes ≡ (before ++ (line ++ newline)) ++ beyond
  pub limit : length (before ++ (line ++ newline)) ≤ max_input
  pub ended : (newline ≡ 10 ∷ []) ⊎ ((newline ≡ []) × (beyond ≡ []) × IsAtEnd left)
  pub whole : AreWholeLines before
  pub blank : transcript before ≡ record { text = []; ending = finished; world = None }
  pub boots : line_meaning 0 line ≡ Some (Boot frames cpus)

-- `script` stops at the first bad line, answers line by line, and asks for memory at the boot line
abbrev pub script_due : Due
script_due = record {
  answer = λ input v. v ≡ script_answer (transcript input).ending (transcript input).text (transcript input).world;
  enough = HasBadLine;
  so_far = AreGoodLines;
  midway = IsAtLine;
  asks = IsAtBoot;
  limit = Some max_input;
  unread = λ status. false;
}

-- the image that a text says, or the line that names its first fault
abbrev pub asm_answer : Result (List ℕ) LineFault → Response
asm_answer (Ok bytes) = plainly 0 bytes None
asm_answer (Err fault) = plainly 2 (asm_line fault) None

-- `asm` reads all before it answers, and takes memory all along
abbrev pub asm_due : Due
asm_due = record {
  answer = λ input v. v ≡ asm_answer (assembly input);
  enough = λ bytes. ⊥;
  so_far = λ bytes text. text ≡ [];
  midway = λ bytes front last. ⊥;
  asks = λ bytes left. length bytes ≤ max_input;
  limit = Some max_input;
  unread = λ status. false;
}

-- what a command writes of an image after that many steps by the schedule of a seed
abbrev pub shown : Report → Image → ℕ → ℕ → List ℕ
shown R.Trace = run_text
shown R.Tree = tree_run_text
shown R.Frames = core_run_text

-- and the last world
abbrev pub last_world : Report → Image → ℕ → ℕ → World
last_world R.Trace = run_world
last_world R.Tree = stepped_world
last_world R.Frames = stepped_world

-- the text of the steps of an image, and their last world; or the line that names its first fault
abbrev pub run_answer : Report → ℕ → ℕ → Result Image ImageError → Option Response
run_answer r count seed (Ok i) = Some (plainly 0 (shown r i count seed) (Some (last_world r i count seed)))
run_answer r count seed (Err e) = option_map (λ line. plainly 2 line None) (image_line e)

-- `run`, `tree` and `core` ask for memory after the header
abbrev pub run_due : Report → ℕ → ℕ → Due
run_due r count seed =
    image_due (λ input v. run_answer r count seed (image input) ≡ Some v) (λ bytes left. IsHeaderText bytes)

-- the text of the parts of an image, which is out before the end is read; after that of the parts before a fault, the
-- line that names it
abbrev pub dis_answer : List ℕ → Result Image ImageError → Option Response
dis_answer text (Ok i) = Some (record { status = 0; front = text; last = None; world = None })
dis_answer text (Err e) =
    option_map (λ line. record { status = 2; front = text; last = Some line; world = None }) (image_line e)

-- `dis` writes the text of each part before it reads on, and takes no memory
abbrev pub dis_due : Due
dis_due = record (image_due (λ input v. dis_answer (dis_text input) (image input) ≡ Some v) (λ bytes left. ⊥)) {
  so_far = λ bytes text. EndsAtMost (image_parts bytes).fault × (text ≡ dis_text bytes);
  midway = IsAtPart image_parts;
}

-- `native`: a monitor runs n children of an image for this many steps
abbrev pub native_due : ℕ → ℕ → Due
native_due n count = children_due (λ i. native_text i n count) (λ i. native_world i n count) n

-- the text of a tree, and `yes`
abbrev pub yes_text : Tree → List ℕ
yes_text t = tree_text t ++ yes_line

-- the text of the tree that is found and `yes`, or the line that says why there is none
abbrev pub found_answer : Finding → Response
found_answer (Lays t) = plainly 0 (yes_text t) None
found_answer (Unread stop) = plainly 9 (unread_line stop.frame stop.index) None
found_answer (Unsound part) = plainly 9 (unsound_line part) None
found_answer (Differs d) = plainly 9 (differs_line d.frame d.index d.found d.want) None

-- or the line that names the first bad one
abbrev pub audit_answer : CoreText → Response
audit_answer (Whole m) = found_answer (finding m)
audit_answer (BadAt k) = plainly 2 (bad_line k) None

-- `audit` stops at the first bad line, writes nothing before, and asks for memory before it reads
abbrev pub audit_due : ℕ → Due
audit_due n = record {
  answer = λ input v. v ≡ audit_answer (core_text n input);
  enough = λ bytes. (k : ℕ) × ((rest : List ℕ) → core_text n (bytes ++ rest) ≡ BadAt k);
  so_far = λ bytes text. BeginsLines n bytes × (text ≡ []);
  midway = λ bytes front last. ⊥;
  asks = λ bytes left. Unit {0};
  limit = None;
  unread = λ status. status == 5;
}

-- what is due of the words of the command line
abbrev pub due_of : Option Command → Due
due_of None = unknown_due (line_text usage)
due_of (Some C.Script) = script_due
due_of (Some C.Assemble) = asm_due
due_of (Some C.Disassemble) = dis_due
due_of (Some (C.Run count seed)) = run_due R.Trace count seed
due_of (Some (C.Tree count seed)) = run_due R.Tree count seed
due_of (Some (C.Core count seed)) = run_due R.Frames count seed
due_of (Some (C.Soak count seed)) = soak_due count seed
due_of (Some (C.Native n count)) = native_due n count
due_of (Some (C.Audit frames)) = audit_due frames
