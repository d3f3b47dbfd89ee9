-- What warnings say is so.
use Rattle.std.specs.Prelude.{◌≡◌, ◌⊎◌, ℕ, Bool, true, false, List, codes, flat_map}
use Rattle.std.specs.List.{All, Contains}
use Rattle.meson_lex.specs.declared.kinds.Span.{Span}
use Rattle.meson_syntax.specs.Tree.{Expression}
use Rattle.meson_calls.specs.declared.call.Role.{Role}
use Rattle.meson_calls.specs.declared.call.Role.TheVariants as role
use Rattle.meson_calls.specs.Loading.{Loaded, project}
use Rattle.meson_calls.specs.Notes.{an_assignment, notes}
use Rattle.meson_calls.specs.Notes as read
use Rattle.meson_calls.specs.Project.{Placed}
use Rattle.meson_inventory.specs.Holdings.{calls_held, calls_named, targets_held}
use Rattle.meson_inventory.specs.declared.holdings.HeldCall.{HeldCall}
use Rattle.meson_steps.specs.declared.command.Setting.{Setting}
use Rattle.meson_explaining.specs.Notes.{call_note, plain_note}
use Rattle.meson_explaining.specs.declared.explanation.Note.{Note}
use Rattle.meson_explaining.specs.declared.explanation.Spot.{Spot}
use Rattle.meson_warnings.specs.Known.{names_one, readers_known, setters_known}
use Rattle.meson_warnings.specs.LeftVariables.{left_note, left_variables, readers, variables_at}
use Rattle.meson_warnings.specs.Reads.{is_in_one, is_inside, reads}
use Rattle.meson_warnings.specs.SharedLists.{is_same, sharers}
use Rattle.meson_warnings.specs.UnsetNames.{assigns, names_in, unset_names, unset_words}
use Rattle.meson_calls.specs.declared.call.CallName.{CallName}

-- ---- names that no build file sets

pub record IsUnset (l : Loaded) (r : Role) (target : CallName) (names : List (List ℕ)) (n : Note) : Type 0 where
  pub name : List ℕ
  pub is_written : Contains names name
  pub all_known : setters_known l ≡ true
  pub not_assigned : All (λ m. assigns name m.it ≡ false) (notes (project l))
  pub not_named : names_one name (calls_held l (codes "set_variable")) ≡ false
  pub call : HeldCall
  pub is_called : Contains (calls_named l r target) call
  pub is_said : n ≡ call_note (unset_words name) call

-- the law: of a name that is said to be unset, nothing that sets a variable is in the project
abbrev pub UnsetAreUnset : Type 0
UnsetAreUnset = (l : Loaded) (r : Role) (target : CallName) (pairs : List (List ℕ × Setting))
    → All (IsUnset l r target (flat_map (names_in r) pairs)) (unset_names l r target pairs)

-- ---- other targets

pub record IsSharer (l : Loaded) (target : CallName) (variables : List (List ℕ)) (n : Note) : Type 0 where
  pub call : HeldCall
  pub is_target : Contains (targets_held l) call
  pub is_other : All (λ c. is_same c call ≡ false) (calls_named l role.Target target)
  pub spot : Spot
  pub is_inside : is_inside call spot ≡ true
  pub variable : List ℕ
  pub is_variable : Contains variables variable
  pub is_read : Contains (reads l variable) spot
  pub is_said : n ≡ call_note (codes ": it uses the list that is changed too") call

-- or it tells a number alone
pub record IsCount (n : Note) : Type 0 where
  pub text : List ℕ
  pub is_said : n ≡ plain_note text

-- the law: the targets that are said to use a list too are other ones, and each reads one of the variables in its call
abbrev pub SharersRead : Type 0
SharersRead = (l : Loaded) (target : CallName) (variables : List (List ℕ)) → All (λ n. IsSharer l target variables n ⊎ IsCount n) (sharers l target variables)

-- ---- variables that are left

pub record IsLeft (l : Loaded) (target : CallName) (n : Note) : Type 0 where
  pub variable : List ℕ
  pub is_its : Contains (variables_at l target) variable
  pub all_known : readers_known l ≡ true
  pub not_read : All (λ s. is_in_one (calls_named l role.Target target) s ≡ true) (reads l variable)
  pub not_named : names_one variable (readers l) ≡ false
  pub set : Placed (read.Note Span)
  pub is_there : Contains (notes (project l)) set
  pub was_set : Bool
  pub value : Expression Span
  pub is_assignment : set.it ≡ an_assignment variable was_set value
  pub is_said : n ≡ left_note variable set.place.file value

-- the law: a variable that is said to be left is read in the removed call alone
abbrev pub LeftAreUnread : Type 0
LeftAreUnread = (l : Loaded) (target : CallName) → All (λ n. IsLeft l target n ⊎ IsCount n) (left_variables l target)
