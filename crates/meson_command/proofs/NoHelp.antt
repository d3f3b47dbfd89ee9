-- No subcommand asks for help or the version.
use Rattle.std.proofs.Common.{◌≡◌, ℕ, Bool, true, false, List, Option, Some, None, Result, Ok, Err, codes, refl, ap, subst}
use Rattle.std.specs.Prelude.{not, ◌&&◌, ◌||◌, ◌==◌, length, IfOk, bytes_eq, if◌then◌else◌, is_some, ok_or}
use Rattle.clap.specs.Words.{Row, Text, first_of}
use Rattle.meson_steps.specs.declared.source_change.SharedLists.{SharedLists}
use Rattle.meson_calls.specs.declared.call.Role.{Role}
use Rattle.meson_splice.specs.Patch.{then_ok}
use Rattle.meson_command.specs.Actions.{action_of, count_in, kwargs_action, history_by, kwargs_by, has_flag, list_by, list_with, misplaces_sorted, options_action, options_by, is_json, other_action, rename_action, script_action, target_action, target_by, target_words, undo_of, unknown_members, word_at, words_at}
use Rattle.meson_command.specs.Arguments.{action_within, argument_action, command_meant, misplaces_follow, requested, value_named}
use Rattle.meson_statements.specs.CodeTexts.{statement_code}
use Rattle.meson_command.specs.Codes.{blank_in, code_action, code_word, has_more, insertion_action, place_meant, removal_action, search_meant}
use Rattle.meson_command.specs.Asking.{asked_from, is_dry, names_no_folder, follow_in, texts_fit, title_in, with_texts, with_title, without_help_text, without_text}
use Rattle.meson_command.specs.declared.asked.Action.{Action}
use Rattle.meson_command.specs.declared.asked.Action.TheVariants as action
use Rattle.meson_command.specs.declared.asked.Action.TheVariants.{Run, Info, ScriptText, ScriptFile, Undo, UndoTo, UndoChecked, Redo, History, ForgetOldest, ForgetAll, Sums, Help, Version}
use Rattle.meson_command.specs.declared.asked.Asked.{Asked}
use Rattle.meson_json.specs.Titles.{is_title}
use Rattle.meson_json.specs.Operations.{argument_operation, code_operation, kwargs_operation, role_of}
use Rattle.meson_json.specs.Counts.{count_of}
use Rattle.meson_command.specs.Operations.{options_word}
use Rattle.meson_command.specs.Pairs.{lone_names, pairs_of}
use Rattle.meson_command.specs.declared.fault.UsageFault.TheVariants.{Usage, BadTitle, NotCode}
use Rattle.meson_json.specs.declared.member_check.UnknownMembers.{UnknownMembers}
use Rattle.meson_steps.specs.declared.command.Command.{Command}
use Rattle.meson_json.specs.declared.names.ArgumentOperation.{ArgumentOperation}
use Rattle.meson_json.specs.declared.names.ArgumentOperation.TheVariants as argument
use Rattle.meson_json.specs.declared.names.KwargsOperation.{KwargsOperation}
use Rattle.meson_json.specs.declared.names.KwargsOperation.TheVariants as kwargs
use Rattle.meson_command.specs.declared.operations.OptionsWord.{OptionsWord}
use Rattle.meson_command.specs.declared.operations.OptionsWord.TheVariants as options
use Rattle.meson_json.specs.declared.target.TargetOperation.{TargetOperation}
use Rattle.meson_json.specs.declared.target.TargetOperation.TheVariants as target
use Rattle.meson_json.specs.declared.target.TargetMembers.{TargetMembers}
use Rattle.meson_calls.specs.declared.call.CallName.{CallName}
use Rattle.meson_command.specs.Arguments.{takes_folder}

abbrev pub IsPlain : Action → Type 0
IsPlain (Help text) = ⊥
IsPlain Version = ⊥
IsPlain _ = Unit {0}

-- what it answers, if it answers, is so
pub record Answers {A E : Type 0} (P : A → Type 0) (r : Result A E) : Type 0 where
  pub so : IfOk r P

pub after : {A B E : Type 0} {P : B → Type 0} (r : Result A E) (f : A → Result B E) → ((x : A) → Answers P (f x)) → Answers P (then_ok r f)
after (Ok x) f h = h x
after (Err e) f h = record { so = tt }

after_some : {A B E : Type 0} (Q : A → Type 0) {P : B → Type 0} (r : Result A E) (f : A → Result B E) → Answers Q r → ((x : A) → Q x → Answers P (f x)) → Answers P (then_ok r f)
after_some Q (Ok x) f q h = h x q.so
after_some Q (Err e) f q h = record { so = tt }

pub either : {A E : Type 0} {P : A → Type 0} (b : Bool) (x y : Result A E) → Answers P x → Answers P y → Answers P (if b then x else y)
either true x y h k = h
either false x y h k = k

pub ok : {A E : Type 0} {P : A → Type 0} (x : A) → P x → Answers {E = E} P (Ok x)
ok x h = record { so = h }

pub err : {A E : Type 0} {P : A → Type 0} (e : E) → Answers P (Err e)
err e = record { so = tt }

target-plain : (o : TargetOperation) (w : TargetMembers) → IsPlain (target_by o w)
target-plain target.SourcesAdd w = tt
target-plain target.SourcesRemove w = tt
target-plain target.TargetAdd w = tt
target-plain target.TargetRemove w = tt
target-plain target.ExtraAdd w = tt
target-plain target.ExtraRemove w = tt
target-plain target.Info w = tt

kwargs-plain : (o : KwargsOperation) (r : Role) (id : CallName) (words : List Text) → Answers IsPlain (kwargs_by o r id words)
unfolding kwargs_by
kwargs-plain kwargs.Set r id words = after (pairs_of words) _ (λ _. ok _ tt)
kwargs-plain kwargs.Delete r id words = after (pairs_of words) _ (λ _. ok _ tt)
kwargs-plain kwargs.Add r id words = after (pairs_of words) _ (λ _. ok _ tt)
kwargs-plain kwargs.Remove r id words = after (pairs_of words) _ (λ _. ok _ tt)
kwargs-plain kwargs.RemoveRegex r id words = after (pairs_of words) _ (λ _. err _)
kwargs-plain kwargs.Info r id words = ok _ tt

options-plain : (o : OptionsWord) (words : List Text) → Answers IsPlain (options_by o words)
unfolding options_by
options-plain options.Set words = after (pairs_of words) _ (λ _. ok _ tt)
options-plain options.Delete words = after (pairs_of words) _ (λ _. ok _ tt)
options-plain options.Unset words = after (lone_names words) _ (λ _. ok _ tt)

script-plain : (b : Bool) (word : Text) (unknown : UnknownMembers) → IsPlain (if b then ScriptText word unknown else ScriptFile word unknown)
script-plain true word unknown = tt
script-plain false word unknown = tt

rename_action-plain : (folder : Option Text) (follow : Option SharedLists) (rows : List Row) → Answers IsPlain (rename_action folder follow rows)
unfolding rename_action
rename_action-plain folder follow rows = after _ _ (λ c. ok _ tt)

target_action-plain : (folder : Option Text) (follow : Option SharedLists) (rows : List Row) → Answers IsPlain (target_action folder follow rows)
unfolding target_action
target_action-plain folder follow rows =
    either (misplaces_sorted rows) _ _ (err Usage)
    (either (bytes_eq (word_at (codes "OPERATION") rows) (codes "rename")) _ _ (rename_action-plain folder follow rows) (after _ _ (λ o. ok _ (target-plain o (target_words folder follow rows)))))

kwargs_action-plain : (folder : Option Text) (rows : List Row) → Answers IsPlain (kwargs_action folder rows)
unfolding kwargs_action
kwargs_action-plain folder rows =
    after (ok_or (kwargs_operation (word_at (codes "OPERATION") rows)) Usage) _ (λ o.
    after (ok_or (role_of (word_at (codes "FUNCTION") rows)) Usage) _ (λ r.
    kwargs-plain o r (record { id = word_at (codes "ID") rows; folder = folder }) (words_at (codes "KEY VALUE") rows)))

options_action-plain : (rows : List Row) → Answers IsPlain (options_action rows)
unfolding options_action
options_action-plain rows = after (ok_or (options_word (word_at (codes "OPERATION") rows)) Usage) _ (λ o. options-plain o (words_at (codes "OPTION VALUE") rows))

script_action-plain : (rows : List Row) → IsPlain (script_action rows)
unfolding script_action
script_action-plain rows = script-plain (is_json (word_at (codes "JSON") rows)) (word_at (codes "JSON") rows) (unknown_members (has_flag (codes "strict") rows))

undo_of-plain : (count : Option ℕ) (check : Option Text) → IsPlain (undo_of count check)
undo_of-plain None None = tt
undo_of-plain (Some count) None = tt
undo_of-plain None (Some name) = tt
undo_of-plain (Some count) (Some name) = tt

undo-plain : (word check : Option Text) → Answers IsPlain (then_ok (count_in word) (λ count. Ok (undo_of count check)))
undo-plain word check = after (count_in word) _ (λ count. ok _ (undo_of-plain count check))

history-plain : (word : Option Text) → Answers IsPlain (history_by word)
history-plain None = ok _ tt
history-plain (Some word) = either (bytes_eq word (codes "all")) _ _ (ok _ tt) (after (ok_or (count_of word) Usage) _ (λ n. ok _ tt))

list-plain : (json sums : Bool) → Answers IsPlain (list_by json sums)
list-plain true false = ok _ tt
list-plain false false = ok _ tt
list-plain false true = ok _ tt
list-plain true true = err Usage

listing_of-plain : (is : Bool) (function : Text) (json : Bool) → IsPlain (if is then action.ListAssignments json else action.ListCalls function json)
listing_of-plain true function json = tt
listing_of-plain false function json = tt

list_with-plain : (function : Option Text) (json sums : Bool) → Answers IsPlain (list_with function json sums)
list_with-plain None json sums = list-plain json sums
list_with-plain (Some function) json sums =
    either (sums || length function == 0) _ _ (err Usage) (ok _ (listing_of-plain (bytes_eq function (codes "variable")) function json))

action-plain : (folder : Option Text) (follow : Option SharedLists) (name : Text) (rows : List Row) → Answers IsPlain (action_of folder follow name rows)
unfolding action_of other_action
action-plain folder follow name rows =
    either (bytes_eq name (codes "target")) _ _ (target_action-plain folder follow rows)
    (either (bytes_eq name (codes "kwargs")) _ _ (kwargs_action-plain folder rows)
    (either (bytes_eq name (codes "default-options")) _ _ (options_action-plain rows)
    (either (bytes_eq name (codes "command")) _ _ (ok (script_action rows) (script_action-plain rows))
    (either (bytes_eq name (codes "undo")) _ _ (undo-plain (first_of (codes "N") rows) (first_of (codes "FILE") rows))
    (either (bytes_eq name (codes "redo")) _ _ (ok Redo tt)
    (either (bytes_eq name (codes "history")) _ _ (history-plain (first_of (codes "N") rows))
    (either (bytes_eq name (codes "list")) _ _ (list_with-plain (first_of (codes "FUNCTION") rows) (has_flag (codes "json") rows) (has_flag (codes "sums") rows)) (err Usage))))))))

requested-plain : (o : ArgumentOperation) (c : Command) → IsPlain (requested o c)
requested-plain argument.Info c = tt
requested-plain argument.Set c = tt
requested-plain argument.Add c = tt
requested-plain argument.Remove c = tt
requested-plain argument.Replace c = tt
requested-plain argument.Delete c = tt

argument-plain : (folder : Option Text) (rows : List Row) → Answers IsPlain (argument_action folder rows)
unfolding argument_action
argument-plain folder rows =
    after (ok_or (argument_operation (word_at (codes "OPERATION") rows)) Usage) _ (λ operation.
    after (ok_or (value_named folder operation rows) Usage) _ (λ name.
    after (command_meant operation name (first_of (codes "ELEMENT") rows) (has_flag (codes "sorted") rows) (words_at (codes "VALUE") rows)) _ (λ c. ok _ (requested-plain operation c))))

insertion-plain : (folder : Option Text) (rows : List Row) → Answers IsPlain (insertion_action folder rows)
unfolding insertion_action
insertion-plain folder rows =
    after (ok_or (code_operation (word_at (codes "OPERATION") rows)) Usage) _ (λ operation.
    after (ok_or (code_word operation rows) Usage) _ (λ word.
    after (ok_or (place_meant folder operation rows) Usage) _ (λ place.
    after (blank_in (first_of (codes "N") rows)) _ (λ blank.
    after (ok_or (statement_code word) NotCode) _ (λ code. ok _ tt)))))

removal-plain : (folder : Option Text) (rows : List Row) → Answers IsPlain (removal_action folder rows)
unfolding removal_action
removal-plain folder rows = either (has_more rows) _ _ (err Usage) (after (ok_or (search_meant folder rows) Usage) _ (λ statement. ok _ tt))

code-plain : (folder : Option Text) (rows : List Row) → Answers IsPlain (code_action folder rows)
unfolding code_action
code-plain folder rows =
    either (bytes_eq (word_at (codes "OPERATION") rows) (codes "remove")) _ _ (removal-plain folder rows)
    (either (has_flag (codes "unused") rows) _ _ (err Usage) (insertion-plain folder rows))

within-plain : (folder : Option Text) (follow : Option SharedLists) (name : Text) (rows : List Row) → Answers IsPlain (action_within folder follow name rows)
unfolding action_within
within-plain folder follow name rows =
    either (misplaces_follow follow name rows) _ _ (err Usage)
    (either (bytes_eq name (codes "arg")) _ _ (argument-plain folder rows)
    (either (is_some folder && not (takes_folder name rows)) _ _ (err Usage)
    (either (bytes_eq name (codes "code")) _ _ (code-plain folder rows) (action-plain folder follow name rows))))

titled : (rows : List Row) (a : Action) → IsPlain a → Answers (λ x. IsPlain x.action) (with_title rows a)
titled rows a plain = either (is_title (title_in rows)) _ _ (ok _ plain) (err BadTitle)

texted : (rows : List Row) (a : Action) → IsPlain a → Answers (λ x. IsPlain x.action) (with_texts rows a)
texted rows a plain = either (texts_fit a (first_of (codes "FILE") rows) (is_dry rows)) _ _ (titled rows a plain) (err Usage)

asked : (rows : List Row) (subcommand : Option (Text × List Row)) → Answers (λ a. IsPlain a.action) (asked_from rows subcommand)
unfolding asked_from
asked rows subcommand = after (ok_or subcommand Usage) _ (λ s. either (names_no_folder (first_of (codes "DIR") rows)) _ _ (err _)
    (after_some IsPlain (action_within (first_of (codes "FOLDER") rows) (follow_in rows) s.0 s.1) _ (within-plain (first_of (codes "FOLDER") rows) (follow_in rows) s.0 s.1) (texted rows)))

pub not_help : (rows : List Row) (subcommand : Option (Text × List Row)) (a : Asked) → asked_from rows subcommand ≡ Ok a → IsPlain a.action
not_help rows subcommand a is = subst (λ r. IfOk r (λ x. IsPlain x.action)) is (asked rows subcommand).so

same : (a : Action) → IsPlain a → without_help_text a ≡ a
same (Run script) h = refl
same (Info command) h = refl
same (ScriptText text unknown) h = refl
same (ScriptFile name unknown) h = refl
same Undo h = refl
same (UndoTo count) h = refl
same (UndoChecked count name) h = refl
same Redo h = refl
same History h = refl
same (ForgetOldest count) h = refl
same ForgetAll h = refl
same (action.List json) h = refl
same (action.ListCalls function json) h = refl
same (action.ListAssignments json) h = refl
same Sums h = refl
same (Help text) h = absurd h
same Version h = absurd h

pub no_help : (rows : List Row) (subcommand : Option (Text × List Row)) (a : Asked) → asked_from rows subcommand ≡ Ok a → without_text a ≡ a
no_help rows subcommand a is = ap (λ (x : Action). record a { action = x }) (same a.action (not_help rows subcommand a is))
