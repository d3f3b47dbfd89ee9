-- What the matches of the program's words are, and what they ask for.
use Rattle.std.proofs.Common.{◌≡◌, ◌≢◌, ◌∙◌, ◌∷◌, ◌⊎◌, inl, inr, List, [], Option, Some, None, true, false, Result, Ok, Err, option_map, codes, Box, refl, sym, ap, ap₂, subst}
use Rattle.std.specs.Box.{box_value}
use Rattle.clap.specs.Words.{App, HasMatchesOf, Row, Text, fault_of, first_of, found_of, is_simple, is_simple_and_free, matches_of, rows_of, subcommand_rows, subcommand_rows_of, takes}
use Rattle.clap.specs.Kinds.{IsAmong, Kinds}
use Rattle.clap.specs.Simple.{argument_words, built}
use Rattle.clap.specs.Walk.{nothing_held}
use Rattle.clap.specs.declared.parser.matches.ArgMatches.{ArgMatches}
use Rattle.clap.specs.declared.parser.matches.ArgMatches.TheViews.{out-SubCommand}
use Rattle.clap.specs.declared.parser.matches.SubCommand.{SubCommand}
use Rattle.meson_command.specs.Arguments.{action_within}
use Rattle.clap.specs.declared.error.kind.ErrorKind.{ErrorKind}
use Rattle.clap.specs.declared.error.kind.ErrorKind.TheVariants as kind
use Rattle.clap.specs.declared.error.kind.ErrorKind.TheVariants.{DisplayHelp, DisplayVersion, OutOfMemory}
use Rattle.meson_steps.specs.declared.source_change.SharedLists.{SharedLists}
use Rattle.meson_json.specs.Titles.{is_title}
use Rattle.meson_command.specs.Asking.{answer, answer_by, asked_from, asked_of, flags_in, help, is_dry, names_no_folder, follow_in, texts_fit, title_in, version}
use Rattle.meson_command.specs.Program.{argument, code, command, default_options, history, kwargs, list, program, redo, target, undo}
use Rattle.meson_command.proofs.HelpAlone.{Clean, clean}
use Rattle.meson_command.specs.declared.asked.Action.{Action}
use Rattle.meson_command.specs.declared.asked.Action.TheVariants.{Help, Version}
use Rattle.meson_command.specs.declared.asked.Asked.{Asked}
use Rattle.meson_command.specs.declared.asked.Flags.{Flags}
use Rattle.meson_command.specs.declared.fault.UsageFault.{UsageFault}
use Rattle.meson_command.specs.declared.fault.UsageFault.TheVariants.{Usage, BadTitle}

pub program_is_simple : is_simple program ≡ true
unfolding program target kwargs argument code default_options command undo redo history list
program_is_simple = refl

pub program_is_free : is_simple_and_free program ≡ true
unfolding program target kwargs argument code default_options command undo redo history list
program_is_free = refl

pub rows-of : (a : App) (ws : List Text) (m : ArgMatches) → a ≡ program → HasMatchesOf a ws m → rows_of (found_of m) ≡ matches_of program ws
rows-of a ws m e h = (subst (λ (z : App). HasMatchesOf z ws m) e h program_is_simple).0

pub asked-of : (a : App) (ws : List Text) (m : ArgMatches) → a ≡ program → HasMatchesOf a ws m → asked_of ws ≡ asked_from (rows_of (found_of m)) (subcommand_rows_of m)
asked-of a ws m e h =
    let is = subst (λ (z : App). HasMatchesOf z ws m) e h program_is_simple in
    ap₂ asked_from (sym is.0) (sym is.1)

module _ {Z : Type 0} where
  pub entered_by : (o : Option (Box SubCommand Z)) (name : Text) (rows : List Row) → Some name ≡ option_map (λ b. (out-SubCommand (box_value b)).name.now) o → Some rows ≡ option_map (λ p. p.1) (subcommand_rows o)
      → subcommand_rows o ≡ Some (name, rows)
  entered_by None name rows e k = cc
  entered_by (Some b) name rows e k =
      let same : name ≡ (out-SubCommand (box_value b)).name.now = cc in
      let at : rows ≡ rows_of (found_of (out-SubCommand (box_value b)).matches) = cc in
      ap₂ (λ (n : Text) (r : List Row). Some (n, r)) (sym same) (sym at)

pub asks : (rows : List Row) (sub : Option (Text × List Row)) (name : Text) (inner : List Row) (dir : Option Text) (title : Text) (flags : Flags) (texts : Option Text) (a : Action)
    → sub ≡ Some (name, inner)
    → names_no_folder (first_of (codes "DIR") rows) ≡ false → dir ≡ first_of (codes "DIR") rows → action_within (first_of (codes "FOLDER") rows) (follow_in rows) name inner ≡ Ok a
    → texts_fit a (first_of (codes "FILE") rows) (is_dry rows) ≡ true → texts ≡ first_of (codes "FILE") rows
    → is_title (title_in rows) ≡ true → title ≡ title_in rows → flags ≡ flags_in rows
    → asked_from rows sub ≡ Ok (record { dir = dir; title = title; flags = flags; texts = texts; action = a })
unfolding asked_from
asks rows sub name inner dir title flags texts a is folder at action fit read good same flagged = rw (is, folder, action, fit, good, at, read, same, flagged) refl

pub refuses : (rows : List Row) (sub : Option (Text × List Row)) (name : Text) (inner : List Row) (e : UsageFault) → sub ≡ Some (name, inner)
    → names_no_folder (first_of (codes "DIR") rows) ≡ false → action_within (first_of (codes "FOLDER") rows) (follow_in rows) name inner ≡ Err e → asked_from rows sub ≡ Err e
unfolding asked_from
refuses rows sub name inner e is folder action = rw (is, folder, action) refl

pub refuses_title : (rows : List Row) (sub : Option (Text × List Row)) (name : Text) (inner : List Row) (a : Action) → sub ≡ Some (name, inner)
    → names_no_folder (first_of (codes "DIR") rows) ≡ false → action_within (first_of (codes "FOLDER") rows) (follow_in rows) name inner ≡ Ok a → texts_fit a (first_of (codes "FILE") rows) (is_dry rows) ≡ true
    → is_title (title_in rows) ≡ false → asked_from rows sub ≡ Err BadTitle
unfolding asked_from
refuses_title rows sub name inner a is folder action fit bad = rw (is, folder, action, fit, bad) refl

pub refuses_texts : (rows : List Row) (sub : Option (Text × List Row)) (name : Text) (inner : List Row) (a : Action) → sub ≡ Some (name, inner)
    → names_no_folder (first_of (codes "DIR") rows) ≡ false → action_within (first_of (codes "FOLDER") rows) (follow_in rows) name inner ≡ Ok a → texts_fit a (first_of (codes "FILE") rows) (is_dry rows) ≡ false
    → asked_from rows sub ≡ Err Usage
unfolding asked_from
refuses_texts rows sub name inner a is folder action misfit = rw (is, folder, action, misfit) refl

pub refuses_folder : (rows : List Row) (sub : Option (Text × List Row)) (s : Text × List Row) → sub ≡ Some s → names_no_folder (first_of (codes "DIR") rows) ≡ true → asked_from rows sub ≡ Err Usage
unfolding asked_from
refuses_folder rows sub s is folder = rw (is, folder) refl

pub within : (f g : Option Text) (x y : Option SharedLists) (name : Text) (inner : List Row) (r : Result Action UsageFault) → f ≡ g → x ≡ y → action_within f x name inner ≡ r → action_within g y name inner ≡ r
within f g x y name inner r is read e = sym (ap₂ (λ (folder : Option Text) (follow : Option SharedLists). action_within folder follow name inner) is read) ∙ e

-- ---- the kinds of fault of the program's words

pub help_alone : (ws : List Text) → Clean (fault_of program ws)
unfolding program target kwargs argument code default_options command undo redo history list
help_alone ws = clean (built program) refl refl nothing_held (argument_words program ws)

pub kinds_at : (a : App) (ws : List Text) (P : Kinds → Type 0) → a ≡ program → (is_simple_and_free a ≡ true → P (fault_of a ws)) → P (fault_of program ws)
kinds_at a ws P e h = subst (λ (z : App). is_simple_and_free z ≡ true → P (fault_of z ws)) e h program_is_free

pub as_taken : (ks : Kinds) (asked : Result Asked UsageFault) → ks ≡ [] → answer ks asked ≡ asked
as_taken ks asked none = ap (λ k. answer k asked) none

-- ---- what is answered by the kind that clap finds

abbrev action_in : Result Asked UsageFault → Action
action_in (Ok a) = a.action
action_in (Err fault) = Version

apart : Version ≡ Help [] → ⊥
apart e = let no : ⊥ = cc in no

pub by_help : (k : ErrorKind) → answer_by k ≡ Ok help → k ≡ DisplayHelp
by_help DisplayHelp e = refl
by_help DisplayVersion e = absurd (apart (ap action_in e))
by_help kind.InvalidValue e = absurd (let no : ⊥ = cc in no)
by_help kind.UnknownArgument e = absurd (let no : ⊥ = cc in no)
by_help kind.InvalidSubcommand e = absurd (let no : ⊥ = cc in no)
by_help kind.NoEquals e = absurd (let no : ⊥ = cc in no)
by_help kind.ValueValidation e = absurd (let no : ⊥ = cc in no)
by_help kind.TooManyValues e = absurd (let no : ⊥ = cc in no)
by_help kind.TooFewValues e = absurd (let no : ⊥ = cc in no)
by_help kind.WrongNumberOfValues e = absurd (let no : ⊥ = cc in no)
by_help kind.ArgumentConflict e = absurd (let no : ⊥ = cc in no)
by_help kind.MissingRequiredArgument e = absurd (let no : ⊥ = cc in no)
by_help kind.MissingSubcommand e = absurd (let no : ⊥ = cc in no)
by_help kind.DisplayHelpOnMissingArgumentOrSubcommand e = absurd (let no : ⊥ = cc in no)
by_help kind.Io e = absurd (let no : ⊥ = cc in no)
by_help kind.Format e = absurd (let no : ⊥ = cc in no)
by_help kind.OutOfMemory e = absurd (let no : ⊥ = cc in no)

pub by_version : (k : ErrorKind) → answer_by k ≡ Ok version → k ≡ DisplayVersion
by_version DisplayVersion e = refl
by_version DisplayHelp e = absurd (apart (sym (ap action_in e)))
by_version kind.InvalidValue e = absurd (let no : ⊥ = cc in no)
by_version kind.UnknownArgument e = absurd (let no : ⊥ = cc in no)
by_version kind.InvalidSubcommand e = absurd (let no : ⊥ = cc in no)
by_version kind.NoEquals e = absurd (let no : ⊥ = cc in no)
by_version kind.ValueValidation e = absurd (let no : ⊥ = cc in no)
by_version kind.TooManyValues e = absurd (let no : ⊥ = cc in no)
by_version kind.TooFewValues e = absurd (let no : ⊥ = cc in no)
by_version kind.WrongNumberOfValues e = absurd (let no : ⊥ = cc in no)
by_version kind.ArgumentConflict e = absurd (let no : ⊥ = cc in no)
by_version kind.MissingRequiredArgument e = absurd (let no : ⊥ = cc in no)
by_version kind.MissingSubcommand e = absurd (let no : ⊥ = cc in no)
by_version kind.DisplayHelpOnMissingArgumentOrSubcommand e = absurd (let no : ⊥ = cc in no)
by_version kind.Io e = absurd (let no : ⊥ = cc in no)
by_version kind.Format e = absurd (let no : ⊥ = cc in no)
by_version kind.OutOfMemory e = absurd (let no : ⊥ = cc in no)

by_other : (k : ErrorKind) → k ≢ DisplayHelp → k ≢ DisplayVersion → answer_by k ≡ Err Usage
by_other DisplayHelp n m = absurd (n refl)
by_other DisplayVersion n m = absurd (m refl)
by_other kind.InvalidValue n m = refl
by_other kind.UnknownArgument n m = refl
by_other kind.InvalidSubcommand n m = refl
by_other kind.NoEquals n m = refl
by_other kind.ValueValidation n m = refl
by_other kind.TooManyValues n m = refl
by_other kind.TooFewValues n m = refl
by_other kind.WrongNumberOfValues n m = refl
by_other kind.ArgumentConflict n m = refl
by_other kind.MissingRequiredArgument n m = refl
by_other kind.MissingSubcommand n m = refl
by_other kind.DisplayHelpOnMissingArgumentOrSubcommand n m = refl
by_other kind.Io n m = refl
by_other kind.Format n m = refl
by_other kind.OutOfMemory n m = refl

-- ---- it is among those that may come

-- unless memory ran out
among : (ks : Kinds) (k x : ErrorKind) → k ≡ x → x ≢ OutOfMemory → (k ≡ OutOfMemory) ⊎ IsAmong k ks → IsAmong x ks
among ks k x is n (inl e) = absurd (n (sym is ∙ e))
among ks k x is n (inr h) = subst (λ z. IsAmong z ks) is h

pub shown : (ks : Kinds) (asked : Result Asked UsageFault) (k : ErrorKind) → Clean ks → k ≡ DisplayHelp → (k ≡ OutOfMemory) ⊎ IsAmong k ks → answer ks asked ≡ Ok help
shown ks asked k c is h = ap (λ x. answer x asked) (c.alone (among ks k DisplayHelp is (λ e. cc) h))

pub version_shown : (ks : Kinds) (asked : Result Asked UsageFault) (k : ErrorKind) → Clean ks → k ≡ DisplayVersion → (k ≡ OutOfMemory) ⊎ IsAmong k ks → answer ks asked ≡ Ok version
version_shown ks asked k c is h = ap (λ x. answer x asked) (c.version_alone (among ks k DisplayVersion is (λ e. cc) h))

in_one : (k x : ErrorKind) → IsAmong k (x ∷ []) → k ≡ x
in_one k x h = elim h [ inl e ↦ e | inr none ↦ absurd none ]

-- where one that is neither help nor the version is among them, neither is the first
among_refused : (ks : Kinds) (asked : Result Asked UsageFault) (k : ErrorKind) → Clean ks → k ≢ DisplayHelp → k ≢ DisplayVersion → IsAmong k ks → answer ks asked ≡ Err Usage
among_refused [] asked k c n m h = absurd h
among_refused (x ∷ xs) asked k c n m h =
    by_other x (λ e. n (in_one k DisplayHelp (subst (IsAmong k) (c.alone (inl (sym e))) h))) (λ e. m (in_one k DisplayVersion (subst (IsAmong k) (c.version_alone (inl (sym e))) h)))

pub refused : (ks : Kinds) (asked : Result Asked UsageFault) (k : ErrorKind) → Clean ks → k ≢ DisplayHelp → k ≢ DisplayVersion → k ≢ OutOfMemory → (k ≡ OutOfMemory) ⊎ IsAmong k ks → answer ks asked ≡ Err Usage
refused ks asked k c n m o h = elim h [ inl e ↦ absurd (o e) | inr there ↦ among_refused ks asked k c n m there ]

pub takes_at : (a : App) (ws : List Text) (P : Type 0) → a ≡ program → (takes a ws ≡ true → P) → takes program ws ≡ true → P
takes_at a ws P e h t = subst (λ (z : App). takes z ws ≡ true → P) e h t
