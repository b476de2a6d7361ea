-- What a search of an image says of every program.
use Rattle.std.proofs.Common.{◌≡◌, ◌∙◌, ℕ, zero, suc, ◌<◌, ◌≤◌, List, [], ◌∷◌, Option, Some, None, length, sym, ap}
use Rattle.std.proofs.Common.{Bool, arith, refl, slice_get, subst}
use Rattle.std.specs.Prelude.{option_map, unwrap_or}
use Rattle.pip_away.specs.Blind.{LeftOut, is_left_out, kept_of, look_of, sight_in}
use Rattle.pip_any.specs.Programs.{AreNamedTurns, EachTurn, HostileExits}
use Rattle.pip_any.proofs.Beginning.{images_look_alike}
use Rattle.pip_any.proofs.Naming.{confined_programs_are_named}
use Rattle.pip_model.specs.Acts.{after_acts, text_of}
use Rattle.pip_model.specs.Images.{Image}
use Rattle.pip_model.specs.Run.{image_world, steps}
use Rattle.pip_model.specs.Worlds.{IsSoundWorld, World}
use Rattle.pip_model.specs.declared.processors.Occupant.{Occupant}
use Rattle.pip_guests.specs.Outside.{Alike}
use Rattle.pip_guests.proofs.Entries.{classes_are_sights}
use Rattle.pip_base.specs.Memory.{Memory}
use Rattle.pip_command_contracts.specs.EndsBy.{Response, plainly}
use Rattle.pip_every.specs.Away.{IsAwaySaid}
use Rattle.pip_every.specs.Menus.{Menu, menu_model, name_on}
use Rattle.pip_every.specs.Moments.{Moment}
use Rattle.pip_any.specs.Passing.{HasPassed}
use Rattle.pip_every.specs.declared.away.Away.TheVariants.{Yes}
use Rattle.pip_any.proofs.Testing.{states_pass}
use Rattle.pip_search.specs.Reached.{AreChoices, IsCovered}
use Rattle.pip_search.specs.Summary.{IsAmong}
use Rattle.pip_search.specs.Systems.{after_choices}
use Rattle.pip_search.specs.declared.searching.Extent.{Extent}
use Rattle.pip_search.specs.declared.searching.Extent.TheVariants.{Closed, Stopped, Within}
use Rattle.pip_search_commands.specs.MenuText.{MenuSaid}
use Rattle.pip_search_commands.specs.SearchDues.{IsSearchedAgainst, begun_moment, begun_world, image_menu}
use Rattle.pip_search_commands.specs.SearchDues.{most_choices}
use Rattle.pip_search_commands.specs.declared.start.Start.{Start}
use Rattle.pip_search_commands.proofs.TextNames.{ends_away}
use Rattle.pip_any.specs.AnyProgram.{AnyProgramFromStart, AnyProgramIsNamed, AwayTextsNamePrograms}
use Rattle.pip_any.specs.AnyProgram.{PassedNamesAnyProgram, SearchIsPassed}

pub any_program_is_named : AnyProgramIsNamed
any_program_is_named own look menu states from depth most start i j v s closed cpus away fits alike plans seed n are
    exits =
    let w : World = begun_world j start in
    let k = s.told.counted.all [] tt (subst (λ d. IsCovered d 0) (sym closed) tt) in
    let some : 1 ≤ i.cpus = omega (arith, k.stands.stands.sound.at_least_one, k.stands.cpus) in
    subst (λ c. AreNamedTurns s.found own look w plans seed c n start.count
    (text_of (steps w plans seed c n start.count)))
    (sym cpus)
    (confined_programs_are_named own look s.first (image_menu i from menu.may) (begun_moment i start)
    (most_choices most)
    states s.count depth s.found s.verdict s.told closed some away fits w alike plans seed n start.count are
    (subst (λ c. EachTurn (HostileExits own look (image_menu i from menu.may)) w plans seed c n start.count)
    cpus exits))

begins : (i : Image) (start : Start) → start.count ≡ 0 → begun_world i start ≡ image_world i
begins i start e = rw e

pub any_program_from_start : AnyProgramFromStart
any_program_from_start own look menu states from depth most start i j v s closed none cpus frames words away confines
    plans seed n are exits =
    any_program_is_named own look menu states from depth most start i j v s closed cpus away confines
    (subst (λ w. Alike own look w (begun_world i start)) (sym (begins j start none))
    (subst (Alike own look (image_world j)) (sym (begins i start none))
    (images_look_alike own look j i frames cpus words)))
    plans seed n are exits

module _ (menu : MenuSaid) (states from depth : ℕ) (most : Option ℕ) (start : Start) (i : Image) (v : Response)
    (s : IsSearchedAgainst menu states from most start i v) (closed : s.verdict ≡ Closed depth) where
  abbrev g : Menu
  g = image_menu i from menu.may

  abbrev at : List ℕ → World
  at cs = (after_choices (menu_model s.first g) (begun_moment i start) cs).world

  stands : (cs : List ℕ) → AreChoices (menu_model s.first g) cs
      → IsAmong (menu_model s.first g) s.told.keys (after_choices (menu_model s.first g) (begun_moment i start) cs)
  stands cs can = s.told.counted.all cs can (rw closed tt)

  -- what runs somewhere does so on one of the processors
  there : (cs : List ℕ) (c p : ℕ) → AreChoices (menu_model s.first g) cs → name_on (at cs) c ≡ Some p → c < i.cpus
  there cs c p can named =
      let count = (stands cs can).stands.cpus in
      let less : c < length (at cs).cpus = within (at cs).cpus c p named in omega arith
    where
      within : (os : List (Option Occupant)) (c p : ℕ)
          → option_map (λ r. r.name) (unwrap_or (slice_get os c) None) ≡ Some p → c < length os
      within [] c p e = cc
      within (o ∷ os) zero p e = omega arith
      within (o ∷ os) (suc c) p e = omega (arith, within os c p e)

  sound : (cs : List ℕ) → AreChoices (menu_model s.first g) cs → IsSoundWorld (at cs)
  sound cs can = (stands cs can).stands.stands.sound

pub passed_names_any_program : PassedNamesAnyProgram
passed_names_any_program own look tests menu states from depth most start i j v s is closed cpus pass a plans seed n are
    exits =
    any_program_is_named own look menu states from depth most start i j v s closed cpus
    (λ cs c can lt. (passed cs c can lt).away)
    (λ cs c p can named h. (passed cs c can (there menu states from depth most start i v s closed cs c p can
    named)).confined p named h) a plans seed n are exits
  where
    passed : (cs : List ℕ) (c : ℕ) → AreChoices (menu_model s.first (image_menu i from menu.may)) cs → c < i.cpus
        → HasPassed own look (image_menu i from menu.may) (at menu states from depth most start i v s closed cs) c
    passed cs c can less = states_pass own look tests (image_menu i from menu.may)
        (at menu states from depth most start i v s closed cs) c is
        (sound menu states from depth most start i v s closed cs can) (pass cs c can less)

-- it is said of a search that closed alone
closed_away : (first : Memory) (o : LeftOut) (g : Menu) (m : Moment) (end : Extent)
    → IsAwaySaid first o g m end Yes → (depth : ℕ) × (end ≡ Closed depth)
closed_away first o g m (Closed depth) h = (depth, refl)
closed_away first o g m (Within depth) h = absurd cc
closed_away first o g m (Stopped depth) h = absurd cc

all_away : (first : Memory) (o : LeftOut) (g : Menu) (m : Moment) (end : Extent) (depth : ℕ) → end ≡ Closed depth
    → IsAwaySaid first o g m end Yes → SearchIsPassed o.own (sight_in o) first g m
all_away first o g m (Closed depth) d is h = h
all_away first o g m (Within depth) d is h = absurd cc
all_away first o g m (Stopped depth) d is h = absurd cc

pub away_texts_name_programs : AwayTextsNamePrograms
away_texts_name_programs menu states from most start i j text s out ends cpus a plans seed n are exits =
    let g = image_menu i from menu.may in
    let m = begun_moment i start in
    let (said, (is, holds)) = s.looks.asked out in
    let yes : Some said ≡ Some Yes = cc (ends_away menu states from most start i text s out ends) in
    let same : said ≡ Yes = cc in
    let h : IsAwaySaid s.first menu.out g m s.verdict Yes = rw (← same) holds
    in
    let (depth, closed) = closed_away s.first menu.out g m s.verdict h in
    passed_names_any_program menu.out.own (look_of menu.out) (sight_in menu.out) menu states from depth most start i j
    (plainly 0 text None) s (classes_are_sights menu.out.own (is_left_out menu.out) (kept_of menu.out)) closed cpus
    (all_away s.first menu.out g m s.verdict depth closed h) a plans seed n are
    exits
