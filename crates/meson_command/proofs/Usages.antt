-- Where help and the version are answered, and where the usage is wrong though clap takes the words.
use Rattle.std.proofs.Common.{◌≡◌, ◌≢◌, ◌∙◌, ◌∷◌, ◌||◌, ◌&&◌, ◌==◌, length, ◌⊎◌, inl, inr, ℕ, Bool, true, false, not, List, [], Option, Some, None, Result, Ok, Err, is_some, bytes_eq, codes, refl, sym, ap, arith}
use Rattle.std.specs.Prelude.{find, option_and_then, option_map, unwrap_or, if◌then◌else◌, ok_or}
use Rattle.std.specs.List.{list_any}
use Rattle.std.proofs.lemmas.Bool.Decides.{nat_tests}
use Rattle.std.proofs.lemmas.Slice.Eq.{bytes_eq-Decides}
use Rattle.clap.specs.Facts.{explicit_source}
use Rattle.clap.specs.Faults.{check_fault, defaults_fault, entered_fault, level_fault, settle_fault, walk_fault}
use Rattle.clap.specs.Kinds.{Kinds, check_kinds, or_else}
use Rattle.clap.specs.Simple.{App, Shape, argument_words, built, entered, label_of, names_of, rows_at}
use Rattle.clap.specs.Takes.{is_given}
use Rattle.clap.specs.Walk.{Held, Names, answers_to, finished, nothing_held, settled, walk, walk_from}
use Rattle.clap.specs.Words.{Row, Text, fault_of, first_of, matches_of, subcommand_of}
use Rattle.clap.specs.declared.error.kind.ErrorKind.TheVariants.{DisplayHelp, DisplayVersion}
use Rattle.meson_steps.specs.declared.source_change.SharedLists.{SharedLists}
use Rattle.meson_steps.specs.declared.source_change.SharedLists.TheVariants.{Kept, Changed}
use Rattle.meson_calls.specs.declared.call.Role.{Role}
use Rattle.meson_splice.specs.Patch.{then_ok}
use Rattle.meson_command.specs.Actions.{action_of, count_in, has_flag, history_by, kwargs_action, kwargs_by, list_by, list_with, listing_of, misplaces_sorted, options_action, options_by, other_action, target_action, undo_of, word_at, words_at, rename_action, target_by, target_words}
use Rattle.meson_command.specs.Arguments.{after_meant, action_within, argument_action, changes_sources, command_meant, keys_meant, misplaces_follow, requested, takes_follow, value_named, values_meant}
use Rattle.meson_command.specs.Codes.{code_action}
use Rattle.meson_command.proofs.CodeUsages.{code-unknown}
use Rattle.meson_command.specs.Asking.{answer, asked_as, asked_from, asked_of, help, is_dry, names_no_folder, follow_in, texts_fit, title_in, version, with_texts, with_title}
use Rattle.meson_json.specs.Counts.{count_of}
use Rattle.meson_command.specs.Laws.{ChangesNoSources, FolderIsMisused, FollowIsMisused, MeansUnknown, HelpWhereAsked, IsNoArgument, IsNoCount, IsNoTarget, IsUnknown, TakesNoFollow, TextsAreMisused, UsageMeansUnknown, VersionWhereAsked}
use Rattle.meson_json.specs.Targets.{kept_lists, renaming_of}
use Rattle.meson_json.specs.Titles.{is_title}
use Rattle.meson_json.specs.Arguments.{change_to, command_to, keys_left_out, place_named}
use Rattle.meson_json.specs.Operations.{argument_operation, kwargs_operation, role_of}
use Rattle.meson_json.specs.declared.names.ArgumentOperation.{ArgumentOperation}
use Rattle.meson_json.specs.declared.names.ArgumentOperation.TheVariants as of_argument
use Rattle.meson_steps.specs.declared.argument.PlaceName.{PlaceName}
use Rattle.meson_steps.specs.declared.argument.ValueChange.{ValueChange}
use Rattle.meson_steps.specs.declared.argument.ValueName.{ValueName}
use Rattle.meson_steps.specs.declared.command.Command.{Command}
use Rattle.meson_steps.specs.declared.command.Command.TheVariants as commands
use Rattle.meson_steps.specs.declared.given.Given.{Given}
use Rattle.meson_command.specs.Operations.{operation_of_word, options_word}
use Rattle.meson_command.specs.Pairs.{in_pairs, lone_names, pair_names, pairs_of, repeats}
use Rattle.meson_command.specs.Spelling.{clap_words}
use Rattle.meson_command.specs.Program.{argument, code, command, default_options, history, kwargs, list, program, redo, target, undo}
use Rattle.meson_command.specs.declared.asked.Action.{Action}
use Rattle.meson_command.specs.declared.asked.Asked.{Asked}
use Rattle.meson_command.specs.declared.fault.UsageFault.{UsageFault}
use Rattle.meson_command.specs.declared.fault.UsageFault.TheVariants.{Usage, OddWords, RepeatedKey, BadTitle, NotCode}
use Rattle.meson_command.specs.declared.asked.Action.TheVariants.{ForgetAll, ForgetOldest}
use Rattle.meson_json.specs.declared.names.KwargsOperation.{KwargsOperation}
use Rattle.meson_json.specs.declared.names.KwargsOperation.TheVariants as of_kwargs
use Rattle.meson_command.specs.declared.operations.OptionsWord.{OptionsWord}
use Rattle.meson_command.specs.declared.operations.OptionsWord.TheVariants as of_options
use Rattle.meson_command.proofs.HelpAlone.{Clean}
use Rattle.meson_command.proofs.NoHelp.{not_help}
use Rattle.meson_command.proofs.Taken.{as_taken, by_help, by_version, help_alone}
use Rattle.meson_calls.specs.declared.call.CallName.{CallName}
use Rattle.meson_command.specs.Arguments.{takes_folder}

-- ---- help and the version

shown_by : (ks : Kinds) (words : List Text) → Clean ks → answer ks (asked_of words) ≡ Ok help → ks ≡ DisplayHelp ∷ []
shown_by [] words c e = absurd (not_help _ _ _ e)
shown_by (k ∷ ks) words c e = c.alone (inl (sym (by_help k e)))

version_by : (ks : Kinds) (words : List Text) → Clean ks → answer ks (asked_of words) ≡ Ok version → ks ≡ DisplayVersion ∷ []
version_by [] words c e = absurd (not_help _ _ _ e)
version_by (k ∷ ks) words c e = c.version_alone (inl (sym (by_version k e)))

pub help-law : HelpWhereAsked
help-law words =
    let given = clap_words words in
    (λ e. shown_by (fault_of program given) given (help_alone given) e, λ e. ap (λ ks. answer ks (asked_of given)) e)

pub version-law : VersionWhereAsked
version-law words =
    let given = clap_words words in
    (λ e. version_by (fault_of program given) given (help_alone given) e, λ e. ap (λ ks. answer ks (asked_of given)) e)

-- ---- a command whose subcommand has to be there has one where nothing is wrong

second : (a b : Kinds) → or_else a b ≡ [] → b ≡ []
second [] b e = e
second (k ∷ ks) b e = cc

never : (a b c : Bool) → b ≡ true → check_kinds a b c ≡ [] → ⊥
never true b c h e = cc
never false true c h e = cc
never false false c h e = cc

wanted : (s : Shape) (rows : List Row) (has : Bool) → s.subcommand_required ≡ true → check_fault s rows has ≡ [] → has ≡ true
wanted s rows true needs e = refl
wanted s rows false needs e = absurd (never (s.arg_required_else_help && not (list_any (λ r. explicit_source r.source) rows)) s.subcommand_required
    (not (s.subcommand_negates_reqs && false) && list_any (λ a. a.required && not (is_given a.id rows)) s.rules) needs e)

level-some : (s : Shape) (pair_names : Names) (h : Held) (words : List Text) (has : Bool) (below : Kinds) → s.subcommand_required ≡ true → level_fault s pair_names h words has below ≡ [] → has ≡ true
level-some s pair_names h words has below needs e =
    let end = (walk s.rules pair_names h words).held in
    let checks = check_fault s (finished s.rules end) has in
    let defaults = or_else (defaults_fault (settled s.rules end).rows s.rules) checks in
    let settles = or_else (settle_fault s.rules s.args_override_self end) defaults in
    let first = second (walk_fault s pair_names (walk_from h) words) (or_else below settles) e in
    let next = second below settles first in
    let last = second (settle_fault s.rules s.args_override_self end) defaults next in
    wanted s (finished s.rules end) has needs (second (defaults_fault (settled s.rules end).rows s.rules) checks last)

-- where clap takes the words, there is a subcommand
entered_one : (words : List Text) → fault_of program words ≡ [] → is_some (subcommand_of program words) ≡ true
unfolding program target kwargs argument code default_options command undo redo history list
entered_one words e =
    let stop = (walk (built program).top.rules (names_of (built program)) nothing_held (argument_words program words)).stopped in
    level-some (built program).top (names_of (built program)) nothing_held (argument_words program words) (is_some (entered (built program) stop)) (entered_fault (built program) stop) refl e

-- ---- it is one of the ten

or_true : (b : Bool) → (b || true) ≡ true
or_true true = refl
or_true false = refl

one-name : (b : Bool) (s : Shape) (o : Option Shape) (words : List Text) (name : Text) (rows : List Row) (rest : Bool)
    → option_map (λ x. rows_at x words) (if b then Some s else o) ≡ Some (name, rows) → (option_map (λ x. rows_at x words) o ≡ Some (name, rows) → rest ≡ true) → (bytes_eq name s.name || rest) ≡ true
one-name true s o words name rows rest e h =
    let at : s.name ≡ name = ap (λ (x : Option (Text × List Row)). unwrap_or (option_map (λ p. p.0) x) []) e in
    ap (λ b. b || rest) ((bytes_eq-Decides name s.name).1 (sym at))
one-name false s o words name rows rest e h = ap (λ b. bytes_eq name s.name || b) (h e) ∙ or_true (bytes_eq name s.name)

found-name : (p : Shape → Bool) (subs : List Shape) (words : List Text) (name : Text) (rows : List Row) → option_map (λ s. rows_at s words) (find p subs) ≡ Some (name, rows)
    → list_any (λ s. bytes_eq name s.name) subs ≡ true
found-name p [] words name rows e = cc
found-name p (s ∷ subs) words name rows e = one-name (p s) s (find p subs) words name rows _ e (found-name p subs words name rows)

entered-name : (a : App) (stop : Option (Text × List Text)) (name : Text) (rows : List Row) → entered a stop ≡ Some (name, rows) → list_any (λ s. bytes_eq name s.name) a.subs ≡ true
entered-name a None name rows e = cc
entered-name a (Some p) name rows e = found-name (λ s. answers_to p.0 (label_of s)) a.subs p.1 name rows e

abbrev is_other : Text → Bool
is_other name = bytes_eq name (codes "default-options") || (bytes_eq name (codes "command") || (bytes_eq name (codes "undo")
    || (bytes_eq name (codes "redo") || (bytes_eq name (codes "history") || (bytes_eq name (codes "list") || false)))))

abbrev is_known : Text → Bool
is_known name = bytes_eq name (codes "target") || (bytes_eq name (codes "kwargs") || (bytes_eq name (codes "arg") || (bytes_eq name (codes "code") || is_other name)))

known : (words : List Text) (name : Text) (rows : List Row) → subcommand_of program words ≡ Some (name, rows) → is_known name ≡ true
unfolding program target kwargs argument code default_options command undo redo history list
known words name rows e =
    entered-name (built program) (walk (built program).top.rules (names_of (built program)) nothing_held (argument_words program words)).stopped name rows e

-- ---- which of its words is unknown

abbrev verdict : Bool → List (Text × Text) → Result (List (Text × Text)) UsageFault
verdict b ps = if b then Err RepeatedKey else Ok ps

no_verdict : (b : Bool) (ps : List (Text × Text)) → verdict b ps ≡ Err Usage → ⊥
no_verdict true ps e = cc
no_verdict false ps e = cc

no_pairs : (o : Option (List (Text × Text))) → then_ok (ok_or o OddWords) (λ pairs. verdict (repeats (pair_names pairs)) pairs) ≡ Err Usage → ⊥
no_pairs None e = cc
no_pairs (Some pairs) e = no_verdict (repeats (pair_names pairs)) pairs e

after_pairs : (r : Result (List (Text × Text)) UsageFault) (f : List (Text × Text) → Result Action UsageFault) → (r ≡ Err Usage → ⊥) → ((ps : List (Text × Text)) → f ps ≡ Err Usage → ⊥) → then_ok r f ≡ Err Usage → ⊥
after_pairs (Ok ps) f n h e = h ps e
after_pairs (Err fault) f n h e = n (let at : fault ≡ Usage = cc in ap (λ (u : UsageFault). Err u) at)

pairs-not : (words : List Text) → pairs_of words ≡ Err Usage → ⊥
unfolding pairs_of
pairs-not words e = no_pairs (in_pairs words) e

kwargs-not : (o : KwargsOperation) (role : Role) (id : CallName) (words : List Text) → kwargs_by o role id words ≡ Err Usage → ⊥
unfolding kwargs_by
kwargs-not of_kwargs.Set role id words e = after_pairs (pairs_of words) _ (pairs-not words) (λ ps x. cc) e
kwargs-not of_kwargs.Delete role id words e = after_pairs (pairs_of words) _ (pairs-not words) (λ ps x. cc) e
kwargs-not of_kwargs.Add role id words e = after_pairs (pairs_of words) _ (pairs-not words) (λ ps x. cc) e
kwargs-not of_kwargs.Remove role id words e = after_pairs (pairs_of words) _ (pairs-not words) (λ ps x. cc) e
kwargs-not of_kwargs.RemoveRegex role id words e = after_pairs (pairs_of words) _ (pairs-not words) (λ ps x. cc) e
kwargs-not of_kwargs.Info role id words e = cc

names-kept : (b : Bool) (words : List Text) (f : List Text → Result Action UsageFault) → ((ns : List Text) → f ns ≡ Err Usage → ⊥)
    → then_ok (if b then Err RepeatedKey else Ok words) f ≡ Err Usage → ⊥
names-kept true words f h e = cc
names-kept false words f h e = h words e

names-not : (words : List Text) (f : List Text → Result Action UsageFault) → ((ns : List Text) → f ns ≡ Err Usage → ⊥) → then_ok (lone_names words) f ≡ Err Usage → ⊥
unfolding lone_names
names-not words f h e = names-kept (repeats words) words f h e

options-not : (o : OptionsWord) (words : List Text) → options_by o words ≡ Err Usage → ⊥
unfolding options_by
options-not of_options.Set words e = after_pairs (pairs_of words) _ (pairs-not words) (λ ps x. cc) e
options-not of_options.Delete words e = after_pairs (pairs_of words) _ (pairs-not words) (λ ps x. cc) e
options-not of_options.Unset words e = names-not words _ (λ ns x. cc) e

missing : {A B : Type 0} (o : Option A) (f : A → Result B UsageFault) → ((x : A) → f x ≡ Err Usage → ⊥) → then_ok (ok_or o Usage) f ≡ Err Usage → o ≡ None
missing None f h e = refl
missing (Some x) f h e = absurd (h x e)

one_missing : {A B C : Type 0} (o : Option A) (r : Option B) (f : A → B → Result C UsageFault) → ((x : A) (y : B) → f x y ≡ Err Usage → ⊥)
    → then_ok (ok_or o Usage) (λ x. then_ok (ok_or r Usage) (f x)) ≡ Err Usage → (o ≡ None) ⊎ (r ≡ None)
one_missing None r f h e = inl refl
one_missing (Some x) None f h e = inr refl
one_missing (Some x) (Some y) f h e = absurd (h x y e)

kwargs-unknown : (folder : Option Text) (rows : List Row) → kwargs_action folder rows ≡ Err Usage → (kwargs_operation (word_at (codes "OPERATION") rows) ≡ None) ⊎ (role_of (word_at (codes "FUNCTION") rows) ≡ None)
unfolding kwargs_action
kwargs-unknown folder rows e = one_missing (kwargs_operation (word_at (codes "OPERATION") rows)) (role_of (word_at (codes "FUNCTION") rows)) _ (λ o role. kwargs-not o role _ _) e

options-unknown : (rows : List Row) → options_action rows ≡ Err Usage → options_word (word_at (codes "OPERATION") rows) ≡ None
unfolding options_action
options-unknown rows e = missing (options_word (word_at (codes "OPERATION") rows)) _ (λ o. options-not o (words_at (codes "OPTION VALUE") rows)) e

undo-unknown : (o check : Option Text) → then_ok (count_in o) (λ count. Ok (undo_of count check)) ≡ Err Usage → (word : Text) × IsNoCount o word
undo-unknown None check e = cc
undo-unknown (Some word) check e = (word, (refl, no_count (count_of word) check e))
  where
    no_count : (n : Option ℕ) (check : Option Text) → then_ok (then_ok (ok_or n Usage) (λ count. Ok (Some count))) (λ count. Ok (undo_of count check)) ≡ Err Usage → n ≡ None
    no_count None check e = refl
    no_count (Some count) check e = cc

abbrev forgets : Bool → Text → Result Action UsageFault
forgets every word = if every then Ok ForgetAll else then_ok (ok_or (count_of word) Usage) (λ count. Ok (ForgetOldest count))

not_all : (every : Bool) (word : Text) → forgets every word ≡ Err Usage → (every ≡ false) × (count_of word ≡ None)
not_all true word e = cc
not_all false word e = (refl, missing (count_of word) _ (λ n x. cc) e)

differ : (b : Bool) → b ≡ true → b ≡ false → ⊥
differ true t f = cc
differ false t f = cc

another : (word x : Text) → bytes_eq word x ≡ false → word ≢ x
another word x e is = differ (bytes_eq word x) ((bytes_eq-Decides word x).1 is) e

history-unknown : (o : Option Text) → history_by o ≡ Err Usage → (word : Text) × (word ≢ codes "all") × IsNoCount o word
history-unknown None e = cc
history-unknown (Some word) e =
    let not = not_all (bytes_eq word (codes "all")) word e in
    (word, another word (codes "all") not.0, (refl, not.1))

both-listed : (json sums : Bool) → list_by json sums ≡ Err Usage → (json ≡ true) × (sums ≡ true)
both-listed true true e = (refl, refl)
both-listed true false e = cc
both-listed false true e = cc
both-listed false false e = cc

abbrev AreTwo : Option Text → Bool → Bool → Type 0
AreTwo function json sums = (sums ≡ true) × ((json ≡ true) ⊎ (is_some function ≡ true))

empty : (function : Text) → (length function == 0) ≡ true → Some function ≡ Some []
empty [] is = refl
empty (b ∷ bytes) is = let none : length (b ∷ bytes) ≡ 0 = grind (arith, nat_tests) in absurd (omega (arith, none))

of_function : (function : Text) (json sums : Bool) → list_with (Some function) json sums ≡ Err Usage → AreTwo (Some function) json sums ⊎ (Some function ≡ Some [])
of_function function json true e = inl (refl, inr refl)
of_function function json false e = inr (empty function (which (length function == 0) e))
  where
    which : (b : Bool) → (if b then Err Usage else Ok (listing_of function json)) ≡ Err Usage → b ≡ true
    which true e = refl
    which false e = cc

list-unknown : (function : Option Text) (json sums : Bool) → list_with function json sums ≡ Err Usage → AreTwo function json sums ⊎ (function ≡ Some [])
list-unknown None json sums e = let both = both-listed json sums e in inl (both.1, inl both.0)
list-unknown (Some function) json sums e = of_function function json sums e

by_name : {P : Type 0} (b : Bool) (x y : Result Action UsageFault) (rest : Bool) → (if b then x else y) ≡ Err Usage → (b || rest) ≡ true
    → (b ≡ true → x ≡ Err Usage → P) → (y ≡ Err Usage → rest ≡ true → P) → P
by_name true x y rest e k h n = h refl e
by_name false x y rest e k h n = n e k

named : (name x : Text) → bytes_eq name x ≡ true → name ≡ x
named name x e = (bytes_eq-Decides name x).0 e

other_names : (target : CallName) (names : List Text) (follow : Option SharedLists) → renaming_of target names follow ≡ None → length names ≢ 2
other_names target [] follow e = λ same. omega (arith, same)
other_names target (a ∷ []) follow e = λ same. omega (arith, same)
other_names target (a ∷ b ∷ []) follow e = cc
other_names target (a ∷ b ∷ c ∷ more) follow e = λ same. omega (arith, same)

rename-unknown : (folder : Option Text) (follow : Option SharedLists) (rows : List Row) → rename_action folder follow rows ≡ Err Usage
    → renaming_of (record { id = word_at (codes "ID") rows; folder = folder }) (words_at (codes "SOURCE") rows) follow ≡ None
unfolding rename_action
rename-unknown folder follow rows e =
    missing (renaming_of (record { id = word_at (codes "ID") rows; folder = folder }) (words_at (codes "SOURCE") rows) follow) _ (λ c x. cc) e

misplaced : (given adds : Bool) → (given && not adds) ≡ true → (given ≡ true) × (adds ≡ false)
misplaced true false e = (refl, refl)
misplaced true true e = cc
misplaced false adds e = cc

target-unknown : (folder : Option Text) (follow : Option SharedLists) (rows : List Row) → target_action folder follow rows ≡ Err Usage → IsNoTarget rows
unfolding target_action
target-unknown folder follow rows e = by_sorted (misplaces_sorted rows) refl e
  where
    by_word : (b : Bool) → bytes_eq (word_at (codes "OPERATION") rows) (codes "rename") ≡ b
        → (if b then rename_action folder follow rows
        else then_ok (ok_or (operation_of_word (word_at (codes "OPERATION") rows)) Usage) (λ o. Ok (target_by o (target_words folder follow rows)))) ≡ Err Usage → IsNoTarget rows
    by_word true is e = inr (inl (named (word_at (codes "OPERATION") rows) (codes "rename") is, other_names _ (words_at (codes "SOURCE") rows) follow (rename-unknown folder follow rows e)))
    by_word false is e = inl (another (word_at (codes "OPERATION") rows) (codes "rename") is, missing (operation_of_word (word_at (codes "OPERATION") rows)) _ (λ o x. cc) e)

    by_sorted : (b : Bool) → misplaces_sorted rows ≡ b
        → (if b then Err Usage else (if bytes_eq (word_at (codes "OPERATION") rows) (codes "rename") then rename_action folder follow rows
        else then_ok (ok_or (operation_of_word (word_at (codes "OPERATION") rows)) Usage) (λ o. Ok (target_by o (target_words folder follow rows))))) ≡ Err Usage → IsNoTarget rows
    by_sorted true is e =
        let both = misplaced (has_flag (codes "sorted") rows) (bytes_eq (word_at (codes "OPERATION") rows) (codes "add")) is in
        inr (inr (both.0, another (word_at (codes "OPERATION") rows) (codes "add") both.1))
    by_sorted false is e = by_word (bytes_eq (word_at (codes "OPERATION") rows) (codes "rename")) refl e

-- of another subcommand than `arg` and `code`
unknown : (folder : Option Text) (follow : Option SharedLists) (name : Text) (rows : List Row) → (bytes_eq name (codes "target") || (bytes_eq name (codes "kwargs") || is_other name)) ≡ true
    → action_of folder follow name rows ≡ Err Usage → IsUnknown name rows
unfolding action_of other_action
unknown folder follow name rows k e =
    by_name (bytes_eq name (codes "target")) _ _ _ e k (λ b x. inl (named _ _ b, target-unknown folder follow rows x)) (λ e k.
    by_name (bytes_eq name (codes "kwargs")) _ _ _ e k (λ b x. inr (inl (named _ _ b, kwargs-unknown folder rows x))) (λ e k.
    by_name (bytes_eq name (codes "default-options")) _ _ _ e k (λ b x. inr (inr (inl (named _ _ b, options-unknown rows x)))) (λ e k.
    by_name (bytes_eq name (codes "command")) _ _ _ e k (λ b x. cc) (λ e k.
    by_name (bytes_eq name (codes "undo")) _ _ _ e k (λ b x. inr (inr (inr (inl (named _ _ b, undo-unknown _ (first_of (codes "FILE") rows) x))))) (λ e k.
    by_name (bytes_eq name (codes "redo")) _ _ _ e k (λ b x. cc) (λ e k.
    by_name (bytes_eq name (codes "history")) _ _ _ e k (λ b x. inr (inr (inr (inr (inl (named _ _ b, history-unknown _ x)))))) (λ e k.
    by_name (bytes_eq name (codes "list")) _ _ _ e k (λ b x. inr (inr (inr (inr (inr (inl (named _ _ b, list-unknown _ _ _ x))))))) (λ e k. cc))))))))

-- ---- which of the words of `arg` is unknown

-- the number of values is wrong or the operation does not take an option, as each of them is code or another word
other-values : (o : ArgumentOperation) (name : ValueName) (sorted : Bool) (vs : Option (List Given)) (it : Option (Option Given))
    → then_ok (ok_or vs NotCode) (λ values. then_ok (ok_or it NotCode) (λ after. ok_or (command_to o name after sorted values) Usage)) ≡ Err Usage
    → (values : List Given) × (after : Option Given) × (vs ≡ Some values) × (it ≡ Some after) × (change_to o after sorted values ≡ None)
other-values o name sorted None it e = cc
other-values o name sorted (Some values) None e = cc
other-values o name sorted (Some values) (Some after) e = (values, after, refl, refl, of_values o after sorted e)
  where
    no_change : (c : Option ValueChange) → ok_or (option_map (commands.Argument name) c) Usage ≡ Err Usage → c ≡ None
    no_change None e = refl
    no_change (Some change) e = cc

    of_values : (o : ArgumentOperation) (a : Option Given) (s : Bool) → ok_or (command_to o name a s values) Usage ≡ Err Usage → change_to o a s values ≡ None
    of_values of_argument.Info None false e = refl
    of_values of_argument.Info None true e = refl
    of_values of_argument.Info (Some g) false e = refl
    of_values of_argument.Info (Some g) true e = refl
    of_values of_argument.Set a s e = no_change (change_to of_argument.Set a s values) e
    of_values of_argument.Add a s e = no_change (change_to of_argument.Add a s values) e
    of_values of_argument.Remove a s e = no_change (change_to of_argument.Remove a s values) e
    of_values of_argument.Replace a s e = no_change (change_to of_argument.Replace a s values) e
    of_values of_argument.Delete a s e = no_change (change_to of_argument.Delete a s values) e

after_command : (r : Result Command UsageFault) (f : Command → Action) → then_ok r (λ c. Ok (f c)) ≡ Err Usage → r ≡ Err Usage
after_command (Ok c) f e = cc
after_command (Err fault) f e = let at : fault ≡ Usage = cc in ap (λ (u : UsageFault). Err u) at

abbrev named_in : Option Text → Option (List Text) → Option PlaceName → Option ValueName
named_in folder ks o = option_and_then (λ keys. option_map (λ name. record { place = record { name = name; folder = folder }; keys = keys }) o) ks

no_keys : (folder : Option Text) (name : PlaceName) (ks : Option (List Text)) → named_in folder ks (Some name) ≡ None → ks ≡ None
no_keys folder name None e = refl
no_keys folder name (Some keys) e = cc

argument-unknown : (folder : Option Text) (rows : List Row) → argument_action folder rows ≡ Err Usage → IsNoArgument rows
unfolding argument_action
argument-unknown folder rows e = by_operation (argument_operation (word_at (codes "OPERATION") rows)) refl e
  where
    unnamed : (o : ArgumentOperation) → argument_operation (word_at (codes "OPERATION") rows) ≡ Some o → (w : Option Text) → first_of (codes "KEY") rows ≡ w
        → (p : Option PlaceName) → place_named (word_at (codes "FUNCTION") rows) (word_at (codes "ID") rows) ≡ p → named_in folder (keys_meant o w) p ≡ None → IsNoArgument rows
    unnamed o of w has None is e = inr (inl is)
    unnamed o of None has (Some name) is e = inr (inr (inl (o, of, has, no_keys folder name (keys_left_out o) e)))
    unnamed o of (Some word) has (Some name) is e = cc

    by_name_of : (o : ArgumentOperation) → argument_operation (word_at (codes "OPERATION") rows) ≡ Some o → (n : Option ValueName) → value_named folder o rows ≡ n
        → then_ok (ok_or n Usage) (λ name. then_ok (command_meant o name (first_of (codes "ELEMENT") rows) (has_flag (codes "sorted") rows) (words_at (codes "VALUE") rows)) (λ c. Ok (requested o c))) ≡ Err Usage
        → IsNoArgument rows
    by_name_of o of None is e = unnamed o of (first_of (codes "KEY") rows) refl (place_named (word_at (codes "FUNCTION") rows) (word_at (codes "ID") rows)) refl is
    by_name_of o of (Some name) is e =
        let meant = after_command (command_meant o name (first_of (codes "ELEMENT") rows) (has_flag (codes "sorted") rows) (words_at (codes "VALUE") rows)) (requested o) e in
        let given = other-values o name (has_flag (codes "sorted") rows) (values_meant (words_at (codes "VALUE") rows)) (after_meant (first_of (codes "ELEMENT") rows)) meant in
        inr (inr (inr (o, given.0, given.1, of, given.2, given.3, given.4)))

    by_operation : (o : Option ArgumentOperation) → argument_operation (word_at (codes "OPERATION") rows) ≡ o
        → then_ok (ok_or o Usage) (λ operation.
        then_ok (ok_or (value_named folder operation rows) Usage) (λ name.
        then_ok (command_meant operation name (first_of (codes "ELEMENT") rows) (has_flag (codes "sorted") rows) (words_at (codes "VALUE") rows)) (λ c. Ok (requested operation c)))) ≡ Err Usage
        → IsNoArgument rows
    by_operation None of e = inl of
    by_operation (Some o) of e = by_name_of o of (value_named folder o rows) refl e

-- ---- in the folder that is named

without : (t k a rest : Bool) → a ≡ false → (t || (k || (a || rest))) ≡ true → (t || (k || rest)) ≡ true
without true k a rest is h = refl
without false true a rest is h = refl
without false false true rest is h = cc
without false false false rest is h = h

abbrev MisusesFollow : Option SharedLists → Text → List Row → Type 0
MisusesFollow follow name rows = ((follow ≡ Some Changed) × ChangesNoSources name rows) ⊎ ((follow ≡ Some Kept) × TakesNoFollow name rows)

abbrev WrongWithin : Option Text → Option SharedLists → Text → List Row → Type 0
WrongWithin folder follow name rows =
    IsUnknown name rows ⊎ (((is_some folder ≡ true) × (takes_folder name rows ≡ false) × (name ≢ codes "arg")) ⊎ MisusesFollow follow name rows)

by_code : (folder : Option Text) (follow : Option SharedLists) (name : Text) (rows : List Row)
    → (bytes_eq name (codes "target") || (bytes_eq name (codes "kwargs") || (bytes_eq name (codes "code") || is_other name))) ≡ true
    → (b : Bool) → bytes_eq name (codes "code") ≡ b → (if b then code_action folder rows else action_of folder follow name rows) ≡ Err Usage → IsUnknown name rows
by_code folder follow name rows k true is e = inr (inr (inr (inr (inr (inr (inr (named _ _ is, code-unknown folder rows e)))))))
by_code folder follow name rows k false is e =
    unknown folder follow name rows (without (bytes_eq name (codes "target")) (bytes_eq name (codes "kwargs")) (bytes_eq name (codes "code")) (is_other name) is k) e

not-argument : (name : Text) → bytes_eq name (codes "arg") ≡ false → is_known name ≡ true
    → (bytes_eq name (codes "target") || (bytes_eq name (codes "kwargs") || (bytes_eq name (codes "code") || is_other name))) ≡ true
not-argument name other k =
    without (bytes_eq name (codes "target")) (bytes_eq name (codes "kwargs")) (bytes_eq name (codes "arg")) (bytes_eq name (codes "code") || is_other name) other k

by_place : (folder : Option Text) (follow : Option SharedLists) (name : Text) (rows : List Row) → bytes_eq name (codes "arg") ≡ false → is_known name ≡ true → (b t : Bool) → is_some folder ≡ b → takes_folder name rows ≡ t
    → (if b && not t then Err Usage else (if bytes_eq name (codes "code") then code_action folder rows else action_of folder follow name rows)) ≡ Err Usage
    → WrongWithin folder follow name rows
by_place folder follow name rows other k true false is takes e = inr (inl (is, takes, another name (codes "arg") other))
by_place folder follow name rows other k true true is takes e = inl (by_code folder follow name rows (not-argument name other k) (bytes_eq name (codes "code")) refl e)
by_place folder follow name rows other k false t is takes e = inl (by_code folder follow name rows (not-argument name other k) (bytes_eq name (codes "code")) refl e)

by_subcommand : (folder : Option Text) (follow : Option SharedLists) (name : Text) (rows : List Row) → is_known name ≡ true → (b : Bool) → bytes_eq name (codes "arg") ≡ b
    → (if b then argument_action folder rows else (if is_some folder && not (takes_folder name rows) then Err Usage
    else (if bytes_eq name (codes "code") then code_action folder rows else action_of folder follow name rows))) ≡ Err Usage → WrongWithin folder follow name rows
by_subcommand folder follow name rows k true is e = inl (inr (inr (inr (inr (inr (inr (inl (named _ _ is, argument-unknown folder rows e))))))))
by_subcommand folder follow name rows k false is e = by_place folder follow name rows is k (is_some folder) (takes_folder name rows) refl refl e

not-info : (name operation : Text) (t i : Bool) → bytes_eq name (codes "target") ≡ t → bytes_eq operation (codes "info") ≡ i → (t && i) ≡ false
    → (name ≢ codes "target") ⊎ (operation ≢ codes "info")
not-info name operation false i is at e = inl (another name (codes "target") is)
not-info name operation true false is at e = inr (another operation (codes "info") at)
not-info name operation true true is at e = cc

both_false : (a b : Bool) → (a || b) ≡ false → (a ≡ false) × (b ≡ false)
both_false true b e = cc
both_false false b e = (refl, e)

-- an operation that is not one of three
no-operation : (operation : Text) → (bytes_eq operation (codes "add") || (bytes_eq operation (codes "rm") || bytes_eq operation (codes "rename"))) ≡ false
    → (operation ≢ codes "add") × (operation ≢ codes "rm") × (operation ≢ codes "rename")
no-operation operation e =
    let added = both_false (bytes_eq operation (codes "add")) (bytes_eq operation (codes "rm") || bytes_eq operation (codes "rename")) e in
    let rest = both_false (bytes_eq operation (codes "rm")) (bytes_eq operation (codes "rename")) added.1 in
    (another operation (codes "add") added.0, another operation (codes "rm") rest.0, another operation (codes "rename") rest.1)

no-change : (name operation : Text) (t o : Bool) → bytes_eq name (codes "target") ≡ t
    → (bytes_eq operation (codes "add") || (bytes_eq operation (codes "rm") || bytes_eq operation (codes "rename"))) ≡ o
    → (sorted : Bool) → (t && (o && not sorted)) ≡ false
    → (name ≢ codes "target") ⊎ (((operation ≢ codes "add") × (operation ≢ codes "rm") × (operation ≢ codes "rename")) ⊎ (sorted ≡ true))
no-change name operation false o is changes sorted e = inl (another name (codes "target") is)
no-change name operation true false is changes sorted e = inr (inl (no-operation operation changes))
no-change name operation true true is changes true e = inr (inr refl)
no-change name operation true true is changes false e = cc

changes-none : (name : Text) (rows : List Row) → changes_sources name rows ≡ false → ChangesNoSources name rows
changes-none name rows e = no-change name (word_at (codes "OPERATION") rows) _ _ refl refl (has_flag (codes "sorted") rows) e

not-taken : (name : Text) (rows : List Row) → takes_follow name rows ≡ false → TakesNoFollow name rows
not-taken name rows e =
    let operation = word_at (codes "OPERATION") rows in
    let t : Bool = bytes_eq name (codes "target") in
    let i : Bool = bytes_eq operation (codes "info") in
    let l : Bool = bytes_eq name (codes "list") in
    let h : Bool = bytes_eq name (codes "history") in
    let u : Bool = bytes_eq name (codes "undo") in
    let r : Bool = bytes_eq name (codes "redo") in
    let c : Bool = bytes_eq name (codes "command") in
    let at-change = both_false (changes_sources name rows) ((t && i) || (l || (h || (u || (r || c))))) e in
    let at-info = both_false (t && i) (l || (h || (u || (r || c)))) at-change.1 in
    let at-list = both_false l (h || (u || (r || c))) at-info.1 in
    let at-history = both_false h (u || (r || c)) at-list.1 in
    let at-undo = both_false u (r || c) at-history.1 in
    let at-redo = both_false r c at-undo.1 in (
      changes-none name rows at-change.0,
      not-info name operation t i refl refl at-info.0,
      another name (codes "list") at-list.0,
      another name (codes "history") at-history.0,
      another name (codes "undo") at-undo.0,
      another name (codes "redo") at-redo.0,
      another name (codes "command") at-redo.1,
    )

not_true : (b : Bool) → not b ≡ true → b ≡ false
not_true true e = cc
not_true false e = refl

misused : (follow : Option SharedLists) (name : Text) (rows : List Row) → misplaces_follow follow name rows ≡ true → MisusesFollow follow name rows
misused None name rows e = cc
misused (Some Kept) name rows e = inr (refl, not-taken name rows (not_true (takes_follow name rows) e))
misused (Some Changed) name rows e = inl (refl, changes-none name rows (not_true (changes_sources name rows) e))

by_reading : (folder : Option Text) (follow : Option SharedLists) (name : Text) (rows : List Row) → is_known name ≡ true → (b : Bool) → misplaces_follow follow name rows ≡ b
    → (if b then Err Usage else (if bytes_eq name (codes "arg") then argument_action folder rows else (if is_some folder && not (takes_folder name rows) then Err Usage
    else (if bytes_eq name (codes "code") then code_action folder rows else action_of folder follow name rows)))) ≡ Err Usage → WrongWithin folder follow name rows
by_reading folder follow name rows k true is e = inr (inr (misused follow name rows is))
by_reading folder follow name rows k false is e = by_subcommand folder follow name rows k (bytes_eq name (codes "arg")) refl e

within : (folder : Option Text) (follow : Option SharedLists) (name : Text) (rows : List Row) → is_known name ≡ true → action_within folder follow name rows ≡ Err Usage
    → WrongWithin folder follow name rows
unfolding action_within
within folder follow name rows k e = by_reading folder follow name rows k (misplaces_follow follow name rows) refl e

-- ---- wrong usage

abbrev Wrong : List Row → Option (Text × List Row) → Type 0
Wrong rows sub = (names_no_folder (first_of (codes "DIR") rows) ≡ true)
    ⊎ ((name : Text) × (inner : List Row) × (sub ≡ Some (name, inner)) × ((action_within (first_of (codes "FOLDER") rows) (follow_in rows) name inner ≡ Err Usage) ⊎ TextsAreMisused rows name inner))

abbrev wrong : Result Asked UsageFault
wrong = Err Usage

-- a title that is none is no wrong usage
by_title : (asked : Asked) (b : Bool) → (if b then Ok asked else Err BadTitle) ≡ wrong → ⊥
by_title asked true e = cc
by_title asked false e = cc

by_texts : (rows : List Row) (a : Action) (b : Bool) → texts_fit a (first_of (codes "FILE") rows) (is_dry rows) ≡ b → (if b then with_title rows a else Err Usage) ≡ wrong
    → texts_fit a (first_of (codes "FILE") rows) (is_dry rows) ≡ false
by_texts rows a true is e = absurd (by_title _ (is_title (title_in rows)) e)
by_texts rows a false is e = is

not_done : (rows : List Row) (name : Text) (inner : List Row) (r : Result Action UsageFault) → action_within (first_of (codes "FOLDER") rows) (follow_in rows) name inner ≡ r → then_ok r (with_texts rows) ≡ wrong
    → (action_within (first_of (codes "FOLDER") rows) (follow_in rows) name inner ≡ Err Usage) ⊎ TextsAreMisused rows name inner
not_done rows name inner (Ok a) is e = inr (a, is, by_texts rows a (texts_fit a (first_of (codes "FILE") rows) (is_dry rows)) refl e)
not_done rows name inner (Err fault) is e = inl (let at : fault ≡ Usage = cc in is ∙ ap (λ (u : UsageFault). Err u) at)

by_folder : (rows : List Row) (s : Text × List Row) (b : Bool) → names_no_folder (first_of (codes "DIR") rows) ≡ b
    → (if b then Err Usage else then_ok (action_within (first_of (codes "FOLDER") rows) (follow_in rows) s.0 s.1) (with_texts rows)) ≡ wrong → Wrong rows (Some s)
by_folder rows s true is e = inl is
by_folder rows s false is e = inr (s.0, s.1, refl, not_done rows s.0 s.1 (action_within (first_of (codes "FOLDER") rows) (follow_in rows) s.0 s.1) refl e)

split : (rows : List Row) (sub : Option (Text × List Row)) → is_some sub ≡ true → asked_from rows sub ≡ Err Usage → Wrong rows sub
unfolding asked_from
split rows None has e = cc
split rows (Some s) has e = by_folder rows s (names_no_folder (first_of (codes "DIR") rows)) refl e

kept : (shared own : Bool) → (if shared then Some Changed else kept_lists own) ≡ Some Kept → own ≡ true
kept true own e = cc
kept false true e = refl
kept false false e = cc

changed : (shared own : Bool) → (if shared then Some Changed else kept_lists own) ≡ Some Changed → shared ≡ true
changed true own e = refl
changed false true e = cc
changed false false e = cc

misuse-of : (own : List Row) (name : Text) (rows : List Row) → MisusesFollow (follow_in own) name rows → FollowIsMisused own name rows
misuse-of own name rows misuse =
    let shared = has_flag (codes "follow-shared") own in
    let flag = has_flag (codes "follow") own in
    elim misuse [ inl m ↦ inl (changed shared flag m.0, m.1) | inr m ↦ inr (kept shared flag m.0, m.1) ]

bad_usage : (words : List Text) (name : Text) (rows : List Row) → subcommand_of program words ≡ Some (name, rows)
    → action_within (first_of (codes "FOLDER") (matches_of program words)) (follow_in (matches_of program words)) name rows ≡ Err Usage
    → IsUnknown name rows ⊎ (FolderIsMisused (matches_of program words) name rows
    ⊎ (FollowIsMisused (matches_of program words) name rows ⊎ TextsAreMisused (matches_of program words) name rows))
bad_usage words name rows is bad =
    let own = matches_of program words in
    elim (within (first_of (codes "FOLDER") own) (follow_in own) name rows (known words name rows is) bad) [
      | inl wrong ↦ inl wrong
      | inr other ↦ elim other [ inl folder ↦ inr (inl folder) | inr follow ↦ inr (inr (inl (misuse-of own name rows follow))) ]
    ]

usage-of : (words : List Text) → fault_of program words ≡ [] → asked_as words ≡ Err Usage → MeansUnknown words
usage-of words none e =
    let asked : asked_of words ≡ Err Usage = sym (as_taken (fault_of program words) (asked_of words) none) ∙ e in
    elim (split (matches_of program words) (subcommand_of program words) (entered_one words none) asked) [
      | inl folder ↦ inl folder
      | inr u ↦ inr (u.0, u.1, u.2, elim u.3 [ inl bad ↦ bad_usage words u.0 u.1 u.2 bad | inr texts ↦ inr (inr (inr texts)) ])
    ]

pub usage-law : UsageMeansUnknown
usage-law words none e = usage-of (clap_words words) none e
