-- What a search of an image comes to.
use Rattle.std.proofs.Common.{◌≡◌, ◌≢◌, ℕ, Option, None, List, [], ◌++◌, length}
use Rattle.std.proofs.Common.{append_assoc, subst, Ok, Err}
use Rattle.std.specs.Prelude.{MatchResult, Result, IsErr, OnErr}
use Rattle.pip_base.specs.Memory.{Memory}
use Rattle.pip_base.specs.declared.types.Plan.{Plan}
use Rattle.pip_every.specs.Again.{AreSaid}
use Rattle.pip_every.specs.Away.{IsAwayReply}
use Rattle.pip_every.specs.Comes.{AreComing, own_classes}
use Rattle.pip_every.specs.Menus.{Menu, menu_model, usual_choices}
use Rattle.pip_every.specs.Moments.{Moment, moment_at}
use Rattle.pip_image.specs.declared.header.Header.{Header}
use Rattle.pip_io.specs.Taken.{Taken, Appends, AppendsPart, Keeps, SendsPart}
use Rattle.pip_io.proofs.Taken.{Appends-kept, cut_sent, part_sent}
use Rattle.pip_model.specs.Images.{Image, image_word}
use Rattle.pip_model.specs.Run.{trace_image_line}
use Rattle.pip_search.specs.Summary.{IsTold, Witness}
use Rattle.pip_search.specs.Ways.{witnesses_of}
use Rattle.pip_every.specs.Texts.{search_text}
use Rattle.pip_command_contracts.specs.EndsBy.{plainly}
use Rattle.pip_command_contracts.specs.Planned.{lines_planned}
use Rattle.pip_search_commands.specs.EveryText.{again_text, against_text, away_text, comes_text, every_text}
use Rattle.pip_search_commands.specs.MenuText.{MenuSaid}
use Rattle.pip_search_commands.specs.SearchDues.{IsSearchedAgainst}
use Rattle.pip_search_commands.specs.SearchDues.{most_choices}
use Rattle.pip_command_contracts.specs.Loading.{BeginsFrames}
use Rattle.pip_search_commands.specs.Searches.{IsToldFrom, told_text, world_after}
use Rattle.pip_search_commands.specs.declared.start.Start.{Start}
use Rattle.pip_search_commands.specs.declared.commands.every.searching.Told.{Told}

-- ---- how it is written

-- a part was given
pub show_cut : {T E : Type 0} (r : Result T E) (a b : Taken) (t : List ℕ) → IsErr r → AppendsPart a b t
    → MatchResult r (λ _. Appends a b t) (λ _. SendsPart a b t)
show_cut (Ok v) a b t bad part = cc
show_cut (Err e) a b t bad part = part_sent a b t part

-- all was given, and then what is held was written, or not
pub show_settled : {T E : Type 0} (r : Result T E) (a b c : Taken) (t : List ℕ) → Appends a b t → Keeps b c
    → OnErr r (c.buffered ≢ []) → MatchResult r (λ _. Appends a c t) (λ _. SendsPart a c t)
show_settled (Ok v) a b c t all kept some = Appends-kept a b c t all kept
show_settled (Err e) a b c t all kept some = cut_sent a b c t all kept some

-- ---- the answer

regrouped : (a b c d : List ℕ) → a ++ ((b ++ c) ++ d) ≡ (a ++ b) ++ (c ++ d)
regrouped a b c d = simp append_assoc

module _ (menu : MenuSaid) (states from : ℕ) (depth : Option ℕ) (start : Start) (h : Header) (m : Memory) (t : Told)
    (i : Image) (b : BeginsFrames i h m) where
  abbrev ws : List Witness
  ws = witnesses_of t.verdict t.search.visits.items t.search.found.items

  abbrev count : ℕ
  count = length t.search.visits.items

  same_front : trace_image_line h.frames h.cpus (length h.plans.items) h.pages
      ++ search_text h.cpus (lines_planned h.plans.items) ws count t.verdict ≡ every_text i ws count t.verdict
  same_front =
      rw (b.frames, b.cpus, b.plans, b.pages)

  abbrev replies_after : List ℕ → ℕ → List Plan → List ℕ
  replies_after front c ps = front ++ ((again_text c (lines_planned ps) menu.again t.replies.again.items
      ++ comes_text c (lines_planned ps) menu.comes t.replies.comes.items)
      ++ away_text c (lines_planned ps) t.replies.away)

  same_text : told_text h t menu ≡ against_text i ws count t.verdict menu t.replies.again.items t.replies.comes.items
      t.replies.away
  same_text =
      cc (
        b.cpus,
        b.plans,
        regrouped (every_text i ws count t.verdict)
            (again_text i.cpus (lines_planned i.plans) menu.again t.replies.again.items)
            (comes_text i.cpus (lines_planned i.plans) menu.comes t.replies.comes.items)
            (away_text i.cpus (lines_planned i.plans) t.replies.away),
      )

  abbrev menu_at : ℕ → List Plan → Menu
  menu_at c ps = record { scope = record { cpus = c; lines = lines_planned ps; from = from }; may = menu.may }

  abbrev begun_at : ℕ → List Plan → Moment
  begun_at c ps = moment_at (world_after (image_word i.frames i.pages) i.frames c ps start.count start.seed)

  abbrev IsFound : ℕ → List Plan → Type 0
  IsFound c ps = IsTold (menu_model m (menu_at c ps)) (begun_at c ps)
      (most_choices depth) states ws count t.verdict
      × (AreSaid (menu_model m (menu_at c ps)) (usual_choices (menu_at c ps))
      (begun_at c ps) menu.again t.verdict t.replies.again.items
      × (AreComing (menu_model m (menu_at c ps)) (own_classes (usual_choices (menu_at c ps)))
      (begun_at c ps) menu.comes t.verdict t.replies.comes.items
      × IsAwayReply m menu.out (menu_at c ps) (begun_at c ps) t.verdict t.replies.away))

  -- what was found from an image's frames is what can happen to the image
  pub searched : IsToldFrom menu states from depth start h m t
      → IsSearchedAgainst menu states from depth start i (plainly 0 (told_text h t menu) None)
  searched found =
      let all : IsFound i.cpus i.plans = rw (← b.plans)
      (subst (λ c. IsFound c h.plans.items) b.cpus (found i.frames (image_word i.frames i.pages) b.booted)) in
      record {
        first = m;
        booted = b.booted;
        found = ws;
        count = count;
        verdict = t.verdict;
        told = all.0;
        again = t.replies.again.items;
        said = all.1.0;
        comes = t.replies.comes.items;
        coming = all.1.1.0;
        away = t.replies.away;
        looks = all.1.1.1;
        text = rw same_text;
      }
