-- Words of `arg` mean the command of an entry.
use Rattle.std.proofs.Common.{◌≡◌, ◌∙◌, ◌∷◌, ◌&&◌, ℕ, Bool, true, false, List, [], Option, Some, None, Result, Ok, Err, bytes_eq, codes, refl, ap, ap₂, subst}
use Rattle.std.specs.Prelude.{if◌then◌else◌, is_some, ok_or, option_and_then, option_map, unwrap_or}
use Rattle.clap.specs.Words.{Row, Text, first_of}
use Rattle.serde_json.specs.Data.{Data, array}
use Rattle.serde_json.specs.Find.{as_array, get}
use Rattle.meson_splice.specs.Patch.{then_ok}
use Rattle.meson_steps.specs.Code.{code_of, is_code}
use Rattle.meson_steps.specs.GivenWords.{after_first, begins_colon, meant_by}
use Rattle.meson_steps.specs.declared.argument.PlaceName.{PlaceName}
use Rattle.meson_steps.specs.declared.argument.ValueChange.{ValueChange}
use Rattle.meson_steps.specs.declared.argument.ValueName.{ValueName}
use Rattle.meson_steps.specs.declared.command.Command.{Command}
use Rattle.meson_steps.specs.declared.command.Command.TheVariants as commands
use Rattle.meson_steps.specs.declared.given.Given.{Given}
use Rattle.meson_steps.specs.declared.given.Given.TheVariants as given
use Rattle.meson_json.specs.Arguments.{change_to, command_to, keys_in, place_named}
use Rattle.meson_json.specs.Each.{each_of}
use Rattle.meson_json.specs.Operations.{argument_operation}
use Rattle.meson_json.specs.Scripts.{after_at, argument_entry, entry_of, flag_at, given, sorted_at, value_name, values_at}
use Rattle.meson_json.specs.Settings.{given_value}
use Rattle.meson_json.specs.declared.fault.ScriptFault.{ScriptFault}
use Rattle.meson_json.specs.declared.fault.ScriptFault.TheVariants.{BadField, UnknownOperation}
use Rattle.meson_json.specs.declared.names.ArgumentOperation.{ArgumentOperation}
use Rattle.meson_json.specs.declared.names.ArgumentOperation.TheVariants as operation
use Rattle.meson_command.specs.Actions.{has_flag, run, word_at, words_at}
use Rattle.meson_command.specs.Arguments.{after_meant, argument_action, keys_meant, requested, value_named, values_meant}
use Rattle.meson_command.specs.Entries.{WordsMeanTheEntry, data_of, entry_of_words, items_of}
use Rattle.meson_command.specs.declared.asked.Action.{Action}
use Rattle.meson_command.specs.declared.asked.Action.TheVariants.{Run}
use Rattle.meson_command.specs.declared.fault.UsageFault.{UsageFault}
use Rattle.meson_command.specs.declared.fault.UsageFault.TheVariants.{NotCode, Usage}

-- ---- a value is read from its data

abbrev IsRead : Given → Type 0
IsRead g = given_value (data_of g) ≡ Some g

code-read : (code : Text) (b : Bool) → is_code code ≡ b → (g : Given) → option_map given.Code (if b then Some code else None) ≡ Some g → IsRead g
code-read code true is g e =
    let same : given.Code code ≡ g = cc in
    let read : IsRead (given.Code code) = ap (λ (b : Bool). option_map given.Code (if b then Some code else None)) is in
    subst IsRead same read
code-read code false is g e = cc

plain-read : (word : Text) (t f : Bool) (g : Given) → (if t then Some (given.Switch true) else (if f then Some (given.Switch false) else Some (given.Text word))) ≡ Some g → IsRead g
plain-read word true f g e = let same : given.Switch true ≡ g = cc in subst IsRead same refl
plain-read word false true g e = let same : given.Switch false ≡ g = cc in subst IsRead same refl
plain-read word false false g e = let same : given.Text word ≡ g = cc in subst IsRead same refl

word-read : (word : Text) (colon : Bool) (g : Given)
    → (if colon then option_map given.Code (code_of (after_first word)) else (if bytes_eq word (codes "true") then Some (given.Switch true)
    else (if bytes_eq word (codes "false") then Some (given.Switch false) else Some (given.Text word)))) ≡ Some g → IsRead g
word-read word true g e = code-read (after_first word) (is_code (after_first word)) refl g e
word-read word false g e = plain-read word (bytes_eq word (codes "true")) (bytes_eq word (codes "false")) g e

abbrev AreRead : List Given → Type 0
AreRead gs = each_of given_value (items_of gs) ≡ Some gs

one-more : (word : Text) (o : Option Given) (r : Option (List Given)) (values : List Given) → meant_by word ≡ o → ((gs : List Given) → r ≡ Some gs → AreRead gs)
    → option_and_then (λ value. option_map (λ values. value ∷ values) r) o ≡ Some values → AreRead values
unfolding each_of
one-more word None r values is others e = cc
one-more word (Some g) None values is others e = cc
one-more word (Some g) (Some gs) values is others e =
    let same : (g ∷ gs) ≡ values = cc in
    let read : IsRead g = word-read word (begins_colon word) g is in
    subst AreRead same (ap₂ (λ (o : Option Given) (r : Option (List Given)). option_and_then (λ x. option_map (λ xs. x ∷ xs) r) o) read (others gs refl))

values-read : (words : List Text) (values : List Given) → values_meant words ≡ Some values → AreRead values
unfolding values_meant each_of
values-read [] values e = let same : [] ≡ values = cc in subst AreRead same refl
values-read (word ∷ words) values e = one-more word (meant_by word) (values_meant words) values refl (values-read words) e

-- ---- the command

abbrev made_in : Result Action UsageFault → List Command
made_in (Ok (Run script)) = script.commands
made_in _ = []

abbrev first_or : Command → List Command → Command
first_or other [] = other
first_or other (c ∷ cs) = c

abbrev a_run : Command → Result Action UsageFault
a_run x = Ok (run x)

abbrev made_of : Command → Result Command ScriptFault
made_of x = Ok x

run-of : (x y : Command) → a_run x ≡ a_run y → made_of x ≡ made_of y
run-of x y e = ap (λ (r : Result Action UsageFault). made_of (first_or y (made_in r))) e

abbrev named_in : Option Text → Text → PlaceName → ValueName
named_in folder key name = record { place = record { name = name; folder = folder }; keys = keys_in key }

abbrev value_in : Option Text → List Text → PlaceName → ValueName
value_in folder keys name = record { place = record { name = name; folder = folder }; keys = keys }

abbrev by_words : Option Text → Option Text → Option ArgumentOperation → Option PlaceName → Option Given → Bool → List Given → Result Action UsageFault
by_words folder w o p after sorted values =
    then_ok (ok_or o Usage) (λ operation.
    then_ok (ok_or (option_and_then (λ keys. option_map (value_in folder keys) p) (keys_meant operation w)) Usage) (λ name.
    then_ok (then_ok (ok_or (Some values) NotCode) (λ values. then_ok (ok_or (Some after) NotCode) (λ it. ok_or (command_to operation name it sorted values) Usage))) (λ c. Ok (requested operation c))))

-- the values that an operation reads
abbrev read_by : ArgumentOperation → List Given → List Given
read_by operation.Set values = values
read_by operation.Add values = values
read_by operation.Remove values = values
read_by operation.Replace values = values
read_by operation.Delete values = []
read_by operation.Info values = []

-- and the value after which values are added
abbrev after_by : ArgumentOperation → Option Given → Option Given
after_by operation.Add after = after
after_by o after = None

-- and whether each goes into its place
abbrev sorted_by : ArgumentOperation → Bool → Bool
sorted_by operation.Add sorted = sorted
sorted_by o sorted = false

abbrev Reads : Type 0
Reads = ArgumentOperation → Result (List Given) ScriptFault

abbrev ReadsAfter : Type 0
ReadsAfter = ArgumentOperation → Result (Option Given) ScriptFault

abbrev ReadsSorted : Type 0
ReadsSorted = ArgumentOperation → (has_after : Bool) → Result Bool ScriptFault

-- which is refused beside a value after which values are added
abbrev sorted_read : ℕ → Bool → ReadsSorted
sorted_read i sorted operation has = if sorted_by operation sorted && has then Err (BadField i (codes "sorted")) else Ok (sorted_by operation sorted)

abbrev by_entry : ℕ → Option Text → Text → Option ArgumentOperation → Option PlaceName → ReadsSorted → ReadsAfter → Reads → Result Command ScriptFault
by_entry i folder key o p flag after read =
    then_ok (ok_or o (UnknownOperation i)) (λ operation.
    then_ok (then_ok (ok_or p (BadField i (codes "id"))) (λ place. Ok (named_in folder key place))) (λ name.
    then_ok (read operation) (λ gs. then_ok (after operation) (λ it.
    then_ok (flag operation (is_some it)) (λ sorted. ok_or (command_to operation name it sorted gs) (BadField i (codes "values")))))))

one-change : (i : ℕ) (name : ValueName) (c : Option ValueChange) (made : Command)
    → then_ok (ok_or (option_map (commands.Argument name) c) Usage) (λ k. Ok (run k)) ≡ Ok (run made)
    → ok_or (option_map (commands.Argument name) c) (BadField i (codes "values")) ≡ Ok made
one-change i name None made e = cc
one-change i name (Some change) made e = run-of (commands.Argument name change) made e

-- what is reported is no run
no-run : (folder w : Option Text) (p : Option PlaceName) (after : Option Given) (sorted : Bool) (values : List Given) (made : Command)
    → by_words folder w (Some operation.Info) p after sorted values ≡ Ok (run made) → ⊥
no-run folder None None after sorted values made e = let none : ⊥ = cc in none
no-run folder None (Some name) None false [] made e = let none : ⊥ = cc in none
no-run folder None (Some name) None false (g ∷ gs) made e = let none : ⊥ = cc in none
no-run folder None (Some name) None true values made e = let none : ⊥ = cc in none
no-run folder None (Some name) (Some it) sorted values made e = let none : ⊥ = cc in none
no-run folder (Some key) None after sorted values made e = let none : ⊥ = cc in none
no-run folder (Some key) (Some name) None false [] made e = let none : ⊥ = cc in none
no-run folder (Some key) (Some name) None false (g ∷ gs) made e = let none : ⊥ = cc in none
no-run folder (Some key) (Some name) None true values made e = let none : ⊥ = cc in none
no-run folder (Some key) (Some name) (Some it) sorted values made e = let none : ⊥ = cc in none

abbrev same_change : ℕ → Option Text → Text → PlaceName → (o : ArgumentOperation) → Option Given → Bool → List Given → Command → Type 0
same_change i folder key name o after sorted values made =
    then_ok (ok_or (option_map (commands.Argument (named_in folder key name)) (change_to o after sorted values)) Usage) (λ k. Ok (run k)) ≡ Ok (run made)
    → ok_or (option_map (commands.Argument (named_in folder key name)) (change_to o after sorted values)) (BadField i (codes "values")) ≡ Ok made

made-by : (i : ℕ) (folder : Option Text) (key : Text) (name : PlaceName) (o : ArgumentOperation) (after : Option Given) (sorted : Bool) (values : List Given) (made : Command)
    → same_change i folder key name o after sorted values made
made-by i folder key name o after sorted values made e = one-change i (named_in folder key name) (change_to o after sorted values) made e

same-made : (i : ℕ) (folder w : Option Text) (o : Option ArgumentOperation) (p : Option PlaceName) (after : Option Given) (sorted : Bool) (values : List Given) (made : Command)
    → by_words folder w o p after sorted values ≡ Ok (run made)
    → by_entry i folder (unwrap_or w []) o p (sorted_read i sorted) (λ operation. Ok (after_by operation after)) (λ operation. Ok (read_by operation values)) ≡ Ok made
same-made i folder w None p after sorted values made e = cc
same-made i folder w (Some operation.Info) p after sorted values made e = absurd (no-run folder w p after sorted values made e)
same-made i folder None (Some operation.Set) p after sorted values made e = cc
same-made i folder None (Some operation.Add) p after sorted values made e = cc
same-made i folder None (Some operation.Remove) p after sorted values made e = cc
same-made i folder None (Some operation.Replace) p after sorted values made e = cc
same-made i folder None (Some operation.Delete) p after sorted values made e = cc
same-made i folder (Some key) (Some operation.Set) None after sorted values made e = cc
same-made i folder (Some key) (Some operation.Add) None after sorted values made e = cc
same-made i folder (Some key) (Some operation.Remove) None after sorted values made e = cc
same-made i folder (Some key) (Some operation.Replace) None after sorted values made e = cc
same-made i folder (Some key) (Some operation.Delete) None after sorted values made e = cc
same-made i folder (Some key) (Some operation.Set) (Some name) None false values made e = made-by i folder key name operation.Set None false values made e
same-made i folder (Some key) (Some operation.Add) (Some name) None false values made e = made-by i folder key name operation.Add None false values made e
same-made i folder (Some key) (Some operation.Add) (Some name) None true values made e = made-by i folder key name operation.Add None true values made e
same-made i folder (Some key) (Some operation.Add) (Some name) (Some it) false values made e = made-by i folder key name operation.Add (Some it) false values made e
same-made i folder (Some key) (Some operation.Add) (Some name) (Some it) true values made e = cc
same-made i folder (Some key) (Some operation.Remove) (Some name) None false values made e = made-by i folder key name operation.Remove None false values made e
same-made i folder (Some key) (Some operation.Replace) (Some name) None false values made e = made-by i folder key name operation.Replace None false values made e
same-made i folder (Some key) (Some operation.Delete) (Some name) None false [] made e = made-by i folder key name operation.Delete None false [] made e
same-made i folder (Some key) (Some operation.Delete) (Some name) None false (g ∷ gs) made e = cc
same-made i folder (Some key) (Some operation.Set) (Some name) None true values made e = cc
same-made i folder (Some key) (Some operation.Remove) (Some name) None true values made e = cc
same-made i folder (Some key) (Some operation.Replace) (Some name) None true values made e = cc
same-made i folder (Some key) (Some operation.Delete) (Some name) None true values made e = cc
same-made i folder (Some key) (Some operation.Set) (Some name) (Some it) false values made e = cc
same-made i folder (Some key) (Some operation.Remove) (Some name) (Some it) false values made e = cc
same-made i folder (Some key) (Some operation.Replace) (Some name) (Some it) false values made e = cc
same-made i folder (Some key) (Some operation.Delete) (Some name) (Some it) false values made e = cc
same-made i folder (Some key) (Some operation.Set) (Some name) (Some it) true values made e = cc
same-made i folder (Some key) (Some operation.Remove) (Some name) (Some it) true values made e = cc
same-made i folder (Some key) (Some operation.Replace) (Some name) (Some it) true values made e = cc
same-made i folder (Some key) (Some operation.Delete) (Some name) (Some it) true values made e = cc

by-reads : (i : ℕ) (folder : Option Text) (key : Text) (o : Option ArgumentOperation) (p : Option PlaceName) (after : Option Given) (sorted : Bool) (values : List Given) (made : Command)
    → (flag : ReadsSorted) → ((operation : ArgumentOperation) (has : Bool) → flag operation has ≡ sorted_read i sorted operation has)
    → (last : ReadsAfter) → ((operation : ArgumentOperation) → last operation ≡ Ok (after_by operation after))
    → (read : Reads) → ((operation : ArgumentOperation) → read operation ≡ Ok (read_by operation values))
    → by_entry i folder key o p (sorted_read i sorted) (λ operation. Ok (after_by operation after)) (λ operation. Ok (read_by operation values)) ≡ Ok made
    → by_entry i folder key o p flag last read ≡ Ok made
by-reads i folder key None p after sorted values made flag flags last both read each e = e
by-reads i folder key (Some operation) None after sorted values made flag flags last both read each e = e
by-reads i folder key (Some operation) (Some name) after sorted values made flag flags last both read each e =
    ap₂ (λ (r : Result (List Given) ScriptFault) (a : Result (Option Given) ScriptFault). then_ok r (λ gs. then_ok a (λ it.
    then_ok (flag operation (is_some it)) (λ s. ok_or (command_to operation (named_in folder key name) it s gs) (BadField i (codes "values"))))))
    (each operation) (both operation)
    ∙ ap (λ (f : Result Bool ScriptFault). then_ok f (λ s. ok_or (command_to operation (named_in folder key name) (after_by operation after) s (read_by operation values)) (BadField i (codes "values"))))
    (flags operation (is_some (after_by operation after)))
    ∙ e

-- the request of the words where their values, that of `--after` and whether `--sorted` is given are these
abbrev by_rows : Option Text → List Row → Option (List Given) → Option (Option Given) → Bool → Result Action UsageFault
by_rows folder rows vs a s =
    then_ok (ok_or (argument_operation (word_at (codes "OPERATION") rows)) Usage) (λ operation.
    then_ok (ok_or (value_named folder operation rows) Usage) (λ name.
    then_ok (then_ok (ok_or vs NotCode) (λ values. then_ok (ok_or a NotCode) (λ it. ok_or (command_to operation name it s values) Usage))) (λ c. Ok (requested operation c))))

of-words : (folder : Option Text) (rows : List Row) (after : Option Given) (a : Option (Option Given)) (sorted s : Bool) (values : List Given) (vs : Option (List Given)) (made : Command)
    → a ≡ Some after → s ≡ sorted → vs ≡ Some values → by_rows folder rows vs a s ≡ Ok (run made)
    → by_words folder (first_of (codes "KEY") rows) (argument_operation (word_at (codes "OPERATION") rows))
    (place_named (word_at (codes "FUNCTION") rows) (word_at (codes "ID") rows)) after sorted values ≡ Ok (run made)
of-words folder rows after a sorted s values vs made ends on is e =
    subst (λ (v : Option (List Given)). by_rows folder rows v (Some after) sorted ≡ Ok (run made)) is
    (subst (λ (b : Option (Option Given)). by_rows folder rows vs b sorted ≡ Ok (run made)) ends
    (subst (λ (t : Bool). by_rows folder rows vs a t ≡ Ok (run made)) on e))

entered : (i : ℕ) (folder : Option Text) (rows : List Row) (after : Option Given) (sorted : Bool) (values : List Given) (made : Command)
    → (flag : ReadsSorted) → ((operation : ArgumentOperation) (has : Bool) → flag operation has ≡ sorted_read i sorted operation has)
    → (last : ReadsAfter) → ((operation : ArgumentOperation) → last operation ≡ Ok (after_by operation after))
    → (read : Reads) → ((operation : ArgumentOperation) → read operation ≡ Ok (read_by operation values))
    → has_flag (codes "sorted") rows ≡ sorted → after_meant (first_of (codes "ELEMENT") rows) ≡ Some after → values_meant (words_at (codes "VALUE") rows) ≡ Some values
    → argument_action folder rows ≡ Ok (run made)
    → by_entry i folder (word_at (codes "KEY") rows) (argument_operation (word_at (codes "OPERATION") rows))
    (place_named (word_at (codes "FUNCTION") rows) (word_at (codes "ID") rows)) flag last read ≡ Ok made
unfolding argument_action
entered i folder rows after sorted values made flag flags last both read each on ends meant e =
    by-reads i folder (word_at (codes "KEY") rows) _ _ after sorted values made flag flags last both read each
    (same-made i folder (first_of (codes "KEY") rows) _ _ after sorted values made
    (of-words folder rows after (after_meant (first_of (codes "ELEMENT") rows)) sorted (has_flag (codes "sorted") rows) values (values_meant (words_at (codes "VALUE") rows)) made ends on meant e))

-- ---- what is read of the entry

set-read : (i : ℕ) (rows : List Row) (values : List Given) → values_meant (words_at (codes "VALUE") rows) ≡ Some values
    → ok_or (each_of given_value (items_of values)) (BadField i (codes "values")) ≡ Ok values
set-read i rows values meant =
    ap (λ (r : Option (List Given)). ok_or r (BadField i (codes "values"))) (values-read (words_at (codes "VALUE") rows) values meant)

has-values : (folder : Option Text) (rows : List Row) (after : Option Given) (sorted : Bool) (values : List Given)
    → get (codes "values") (entry_of_words folder rows after sorted values) ≡ Some (array (items_of values))
has-values None rows None false values = refl
has-values None rows None true values = refl
has-values None rows (Some it) false values = refl
has-values None rows (Some it) true values = refl
has-values (Some folder) rows None false values = refl
has-values (Some folder) rows None true values = refl
has-values (Some folder) rows (Some it) false values = refl
has-values (Some folder) rows (Some it) true values = refl

all-read : (i : ℕ) (folder : Option Text) (rows : List Row) (after : Option Given) (sorted : Bool) (values : List Given) → values_meant (words_at (codes "VALUE") rows) ≡ Some values
    → given (λ v. option_and_then (each_of given_value) (as_array v)) i (codes "values") [] (get (codes "values") (entry_of_words folder rows after sorted values)) ≡ Ok values
all-read i folder rows after sorted values meant =
    ap (λ (o : Option Data). given (λ v. option_and_then (each_of given_value) (as_array v)) i (codes "values") [] o) (has-values folder rows after sorted values) ∙ set-read i rows values meant

each-read : (i : ℕ) (folder : Option Text) (rows : List Row) (after : Option Given) (sorted : Bool) (values : List Given) → values_meant (words_at (codes "VALUE") rows) ≡ Some values
    → (operation : ArgumentOperation) → values_at i operation (entry_of_words folder rows after sorted values) ≡ Ok (read_by operation values)
each-read i folder rows after sorted values meant operation.Set = all-read i folder rows after sorted values meant
each-read i folder rows after sorted values meant operation.Add = all-read i folder rows after sorted values meant
each-read i folder rows after sorted values meant operation.Remove = all-read i folder rows after sorted values meant
each-read i folder rows after sorted values meant operation.Replace = all-read i folder rows after sorted values meant
each-read i folder rows after sorted values meant operation.Delete = refl
each-read i folder rows after sorted values meant operation.Info = refl

-- the value of `--after` is read from its data
after-read : (w : Option Text) (g : Given) → after_meant w ≡ Some (Some g) → IsRead g
after-read None g e = cc
after-read (Some word) g e = go (meant_by word) refl e
  where
    go : (o : Option Given) → meant_by word ≡ o → option_map Some o ≡ Some (Some g) → IsRead g
    go None is h = cc
    go (Some x) is h = let same : x ≡ g = cc in word-read word (begins_colon word) g (is ∙ ap Some same)

last-read : (i : ℕ) (folder : Option Text) (rows : List Row) (after : Option Given) (sorted : Bool) (values : List Given) → after_meant (first_of (codes "ELEMENT") rows) ≡ Some after
    → (operation : ArgumentOperation) → after_at i operation (entry_of_words folder rows after sorted values) ≡ Ok (after_by operation after)
last-read i None rows None false values ends operation.Add = refl
last-read i None rows None true values ends operation.Add = refl
last-read i (Some folder) rows None false values ends operation.Add = refl
last-read i (Some folder) rows None true values ends operation.Add = refl
last-read i folder rows (Some g) sorted values ends operation.Add =
    ap (λ (o : Option Given). ok_or (option_map Some o) (BadField i (codes "after"))) (after-read (first_of (codes "ELEMENT") rows) g ends)
last-read i folder rows after sorted values ends operation.Set = refl
last-read i folder rows after sorted values ends operation.Remove = refl
last-read i folder rows after sorted values ends operation.Replace = refl
last-read i folder rows after sorted values ends operation.Delete = refl
last-read i folder rows after sorted values ends operation.Info = refl

has-sorted : (i : ℕ) (folder : Option Text) (rows : List Row) (after : Option Given) (sorted : Bool) (values : List Given)
    → flag_at i (codes "sorted") (entry_of_words folder rows after sorted values) ≡ Ok sorted
has-sorted i None rows None false values = refl
has-sorted i None rows None true values = refl
has-sorted i None rows (Some it) false values = refl
has-sorted i None rows (Some it) true values = refl
has-sorted i (Some folder) rows None false values = refl
has-sorted i (Some folder) rows None true values = refl
has-sorted i (Some folder) rows (Some it) false values = refl
has-sorted i (Some folder) rows (Some it) true values = refl

flag-read : (i : ℕ) (folder : Option Text) (rows : List Row) (after : Option Given) (sorted : Bool) (values : List Given) (operation : ArgumentOperation) (has : Bool)
    → sorted_at i operation has (entry_of_words folder rows after sorted values) ≡ sorted_read i sorted operation has
flag-read i folder rows after sorted values operation.Add has =
    ap (λ (r : Result Bool ScriptFault). then_ok r (λ s. if s && has then Err (BadField i (codes "sorted")) else Ok s)) (has-sorted i folder rows after sorted values)
flag-read i folder rows after sorted values operation.Set has = refl
flag-read i folder rows after sorted values operation.Remove has = refl
flag-read i folder rows after sorted values operation.Replace has = refl
flag-read i folder rows after sorted values operation.Delete has = refl
flag-read i folder rows after sorted values operation.Info has = refl

made-in : (i : ℕ) (folder : Option Text) (rows : List Row) (after : Option Given) (sorted : Bool) (values : List Given) (made : Command)
    → has_flag (codes "sorted") rows ≡ sorted → after_meant (first_of (codes "ELEMENT") rows) ≡ Some after → values_meant (words_at (codes "VALUE") rows) ≡ Some values
    → argument_action folder rows ≡ Ok (run made)
    → by_entry i folder (word_at (codes "KEY") rows) (argument_operation (word_at (codes "OPERATION") rows))
    (place_named (word_at (codes "FUNCTION") rows) (word_at (codes "ID") rows))
    (λ o has. sorted_at i o has (entry_of_words folder rows after sorted values)) (λ o. after_at i o (entry_of_words folder rows after sorted values))
    (λ o. values_at i o (entry_of_words folder rows after sorted values)) ≡ Ok made
made-in i folder rows after sorted values made on ends meant e =
    entered i folder rows after sorted values made (λ o has. sorted_at i o has (entry_of_words folder rows after sorted values)) (flag-read i folder rows after sorted values)
    (λ o. after_at i o (entry_of_words folder rows after sorted values)) (last-read i folder rows after sorted values ends)
    (λ o. values_at i o (entry_of_words folder rows after sorted values)) (each-read i folder rows after sorted values meant) on ends meant e

entry-made : (i : ℕ) (folder : Option Text) (rows : List Row) (after : Option Given) (sorted : Bool) (values : List Given) (made : Command)
    → has_flag (codes "sorted") rows ≡ sorted → after_meant (first_of (codes "ELEMENT") rows) ≡ Some after → values_meant (words_at (codes "VALUE") rows) ≡ Some values
    → argument_action folder rows ≡ Ok (run made) → entry_of i (entry_of_words folder rows after sorted values) ≡ Ok made
unfolding entry_of argument_entry value_name
entry-made i None rows None false values made on ends meant e = made-in i None rows None false values made on ends meant e
entry-made i None rows None true values made on ends meant e = made-in i None rows None true values made on ends meant e
entry-made i None rows (Some it) false values made on ends meant e = made-in i None rows (Some it) false values made on ends meant e
entry-made i None rows (Some it) true values made on ends meant e = made-in i None rows (Some it) true values made on ends meant e
entry-made i (Some folder) rows None false values made on ends meant e = made-in i (Some folder) rows None false values made on ends meant e
entry-made i (Some folder) rows None true values made on ends meant e = made-in i (Some folder) rows None true values made on ends meant e
entry-made i (Some folder) rows (Some it) false values made on ends meant e = made-in i (Some folder) rows (Some it) false values made on ends meant e
entry-made i (Some folder) rows (Some it) true values made on ends meant e = made-in i (Some folder) rows (Some it) true values made on ends meant e

pub entry-law : WordsMeanTheEntry
entry-law i folder rows after values made ends meant e = entry-made i folder rows after (has_flag (codes "sorted") rows) values made refl ends meant e
