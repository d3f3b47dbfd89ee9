-- Notes of setters, as they are added after others.
use Rattle.std.specs.Prelude.{◌≡◌, ℕ, ◌-◌, Bool, false, List, ◌++◌, length, take, if◌then◌else◌, Option, None, option_map}
use Rattle.std.specs.Borrow.{Bor}
use Rattle.meson_lex.specs.declared.kinds.Span.{Span}
use Rattle.meson_syntax.specs.declared.tree.Parsed.{Parsed}
use Rattle.meson_syntax.specs.Paths.{expression_on_path}
use Rattle.meson_syntax.specs.View.{text_at, view}
use Rattle.meson_calls.specs.declared.kept.KeptAssignment.{KeptAssignment}
use Rattle.meson_calls.specs.Notes.{Note, an_assignment}
use Rattle.meson_calls.specs.Project.{Placed, place, placed}
use Rattle.meson_calls.specs.Setters.{NoCallSets, is_among, notes_asked}

-- After notes the list has those of the n-th file: all of them, or its setters, if no call in it sets a variable.
pub record ComeBehind (names : List (Bor (List ℕ))) (n : ℕ) (bytes : List ℕ) (t : Parsed) (before after : List (Placed (Note Span))) : Type 0 where
  pub all : Bool
  pub few : all ≡ false → NoCallSets n bytes t
  pub are : after ≡ before ++ notes_asked names all n bytes t

-- the path of what has the value at this path
abbrev pub without_last : List ℕ → List ℕ
without_last path = take (length path - 1) path

-- the note of an assignment that is kept, if it is to one of the variables
abbrev pub kept_note : List (Bor (List ℕ)) → ℕ → List ℕ → Parsed → KeptAssignment → Option (Placed (Note Span))
kept_note names n bytes t k =
    let x = text_at bytes k.name in
    let path = k.value.steps in
    if is_among names x
    then option_map (λ e. placed (place n (without_last path)) (an_assignment x k.sets e)) (expression_on_path (view bytes t) path)
    else None
