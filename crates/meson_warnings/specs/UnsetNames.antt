-- Names of variables that `kwargs set` or `kwargs add` writes, and that no build file sets.
use Rattle.std.specs.Prelude.{ℕ, Bool, false, ◌||◌, if◌then◌else◌, List, [], ◌∷◌, ◌++◌, bytes_eq, codes, flat_map, map, take}
use Rattle.std.specs.List.{list_any}
use Rattle.meson_lex.specs.declared.kinds.Span.{Span}
use Rattle.meson_calls.specs.declared.call.CallName.{CallName}
use Rattle.meson_calls.specs.declared.call.Role.{Role}
use Rattle.meson_calls.specs.Keys.{identifier_list_keys}
use Rattle.meson_calls.specs.Loading.{Loaded, project}
use Rattle.meson_calls.specs.Notes.{a_call, an_assignment, a_loop, notes}
use Rattle.meson_calls.specs.Notes as read
use Rattle.meson_calls.specs.Project.{Placed}
use Rattle.meson_calls.specs.Roles.{one_of}
use Rattle.meson_inventory.specs.Holdings.{calls_held, calls_named}
use Rattle.meson_inventory.specs.declared.holdings.HeldCall.{HeldCall}
use Rattle.meson_steps.specs.Names.{distinct}
use Rattle.meson_steps.specs.declared.command.Setting.{Setting}
use Rattle.meson_steps.specs.declared.command.Setting.TheVariants as setting
use Rattle.meson_variables.specs.Variables.{one_of_names}
use Rattle.meson_explaining.specs.declared.explanation.Note.{Note}
use Rattle.meson_explaining.specs.Notes.{call_note}
use Rattle.meson_warnings.specs.Known.{names_one, setters_known}

-- ---- the names that are written

abbrev pub texts_in : Setting → List (List ℕ)
texts_in (setting.Text text) = text ∷ []
texts_in (setting.Bool b) = []
texts_in (setting.Texts texts) = texts

-- those of a key whose value is a list of variables
abbrev pub names_in : Role → List ℕ × Setting → List (List ℕ)
names_in r pair = if one_of (identifier_list_keys r) pair.0 then texts_in pair.1 else []

-- ---- what sets a variable: an assignment, a loop, or `set_variable`

abbrev pub assigns : List ℕ → read.Note Span → Bool
assigns x (a_call c) = false
assigns x (an_assignment y sets e) = bytes_eq y x
assigns x (a_loop xs) = one_of_names xs x

abbrev pub is_assigned : List ℕ → List (Placed (read.Note Span)) → Bool
is_assigned x ns = list_any (λ n. assigns x n.it) ns

abbrev pub is_set : List HeldCall → List (Placed (read.Note Span)) → List ℕ → Bool
is_set setters ns x = is_assigned x ns || names_one x setters

-- ---- at the calls that are named

abbrev pub unset_words : List ℕ → List ℕ
unset_words x = codes ": " ++ (x ++ codes " is written here, and no build file sets it")

abbrev pub unset_note : List HeldCall → List HeldCall → List (Placed (read.Note Span)) → List ℕ → List Note
unset_note named setters ns x = if is_set setters ns x then [] else map (call_note (unset_words x)) named

abbrev pub unset_at : Loaded → Role → CallName → List (List ℕ) → List Note
unset_at l r name xs = flat_map (unset_note (calls_named l r name) (calls_held l (codes "set_variable")) (notes (project l))) xs

-- of the first 100 names
abbrev pub unset_among : Loaded → Role → CallName → List (List ℕ) → List Note
unset_among l r name [] = []
unset_among l r name (x ∷ more) = if setters_known l then unset_at l r name (take 100 (distinct (x ∷ more))) else []

abbrev pub unset_names : Loaded → Role → CallName → List (List ℕ × Setting) → List Note
unset_names l r name pairs = unset_among l r name (flat_map (names_in r) pairs)
