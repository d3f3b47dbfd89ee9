-- What is there after a value is set or added at a key that was absent, and after several values take the place of one.
use Rattle.std.specs.Prelude.{◌≡◌, ℕ, ◌≤◌, true, false, List, [], ◌∷◌, ◌++◌, length, map, Some}
use Rattle.meson_lex.specs.declared.kinds.Span.{Span}
use Rattle.meson_syntax.specs.Paths.{ListAt, list_at, nth}
use Rattle.meson_syntax.specs.Tree.{Argument, plain, named, pair, Expression, Nowhere, Plain, bare_name}
use Rattle.meson_edit.specs.Edits.{elements, with_elements}
use Rattle.meson_calls.specs.declared.call.CallRef.{CallRef}
use Rattle.meson_calls.specs.Loading.{Loaded, project}
use Rattle.meson_calls.specs.Project.{child, expression_at}
use Rattle.meson_steps.specs.Steps.{changed_at}
use Rattle.meson_steps.specs.WrittenTexts.{string_of}
use Rattle.meson_steps.specs.declared.given.Given.{Given}
use Rattle.meson_steps.specs.GivenWords.{MayBeGiven}
use Rattle.meson_places.specs.declared.elements.ListKind.{ListKind}
use Rattle.meson_places.specs.declared.elements.ListKind.TheVariants as kind
use Rattle.meson_places.specs.ArrayEffects.{HasValues}
use Rattle.meson_places.specs.Changes.{element_child}
use Rattle.meson_places.specs.Laws.{SlotIs}
use Rattle.meson_places.specs.Several.{AllMayBeGiven, all_written, written_array}
use Rattle.meson_places.specs.Slots.{Child, list_kind}
use Rattle.meson_places.specs.Values.{given_node, is_array}

-- This element is behind all others of the list there, and all else in the trees is as it was.
pub record HasOneMore (list : CallRef) (new : Argument Nowhere) (before after : List Plain) : Type 0 where
  pub tree : Plain
  pub is_tree : nth before list.file ≡ Some tree
  pub place : ListAt Nowhere
  pub is_place : list_at tree list.path.steps ≡ Some place
  pub is_after : changed_at list.file (λ t. Some (place.back (with_elements place.list (elements place.list ++ new ∷ [])))) before ≡ Some after

-- a value with its key: a keyword argument of a call, or an entry of a dictionary, whose key is a literal
abbrev pub keyed : ListKind → (key : List ℕ) → Expression Nowhere → Argument Nowhere
keyed kind.Call key e = named tt (bare_name key) e
keyed kind.Dictionary key e = pair tt (string_of key) e
keyed kind.Array key e = plain e

-- The call or the dictionary at a place has this key with this value, behind its old elements.
pub record KeyAdded (old : Loaded) (list : CallRef) (key : List ℕ) (e : Expression Nowhere) (before after : List Plain) : Type 0 where
  pub value : Expression Span
  pub is_value : expression_at (project old) list ≡ Some value
  pub list_is : ListKind
  pub is_kind : list_kind value ≡ Some list_is
  pub now : HasOneMore list (keyed list_is key e) before after

-- The key has the given value.
pub record GivenAdded (old : Loaded) (g : Given) (list : CallRef) (key : List ℕ) (before after : List Plain) : Type 0 where
  pub may : MayBeGiven g
  pub added : KeyAdded old list key (given_node g may) before after

-- The key has the array of these values.
pub record ArrayAdded (old : Loaded) (gs : List Given) (list : CallRef) (key : List ℕ) (before after : List Plain) : Type 0 where
  pub may : AllMayBeGiven gs
  pub added : KeyAdded old list key (written_array gs may).node before after

-- An array has elements with exactly these values now, if there are any, and another value is the array of them.
pub record ArraySet (old : Loaded) (gs : List Given) (list : CallRef) (n : ℕ) (before after : List Plain) : Type 0 where
  pub may : AllMayBeGiven gs
  pub value : Child Span
  pub is_value : element_child (project old) list n ≡ Some value
  pub elements : 1 ≤ length gs → is_array value.value ≡ true → HasValues (child list value.number) (map (λ w. w.node) (all_written gs may)) before after
  pub now : is_array value.value ≡ false → SlotIs list n (written_array gs may).node before after
