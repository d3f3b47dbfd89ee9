-- Changes of a call are not refused for a name: their words were checked before.
use Rattle.std.proofs.Common.{ℕ, true, false, List, [], ◌∷◌, ◌++◌, length, Option, Some, None}
use Rattle.std.specs.Prelude.{Bool, Ok}
use Rattle.meson_syntax.specs.Tree.{Argument, Expression, Plain}
use Rattle.meson_calls.specs.Calls.{Numbered}
use Rattle.meson_calls.specs.declared.call.CallRef.{CallRef}
use Rattle.meson_calls.specs.declared.refusal.Refusal.{Refusal}
use Rattle.meson_keywords.specs.KeywordEdits.{ValueShape, add_by_shape, add_there, an_array, delete_there, keyword_in, no_array, one_at_most, remove_by_shape, remove_equal, remove_there, set_there, text_in, the_value, value_shape}
use Rattle.meson_keywords.specs.Options.{delete_by_shape, delete_by_value, delete_option_there, entries, of_list, of_lone, options_key, set_by_shape, set_by_value, set_option_there}
use Rattle.meson_keywords.specs.Tasks.{Task, add, delete, delete_option, once, remove, set, set_option}
use Rattle.meson_keywords.specs.TaskSteps.{elements_in, task_steps, tasks_steps, trees_after}
use Rattle.meson_steps.specs.Steps.{Step}
use Rattle.meson_explaining.proofs.NameReasons.{Free, OfNames, after}

module _ (q : Refusal → Bool) (apart : OfNames q) where
  one_free : {X : Type 0} (key : List ℕ) (xs : List X) → Free q (one_at_most key xs)
  one_free key [] = tt
  one_free key (x ∷ []) = tt
  one_free key (x ∷ y ∷ more) = apart.duplicate key

  list_free : (known : Bool) (steps : List Step) → Free q (of_list known steps)
  list_free true steps = tt
  list_free false steps = apart.not_literal options_key

  lone_free : (text : Option (List ℕ)) (steps : List Step) → Free q (of_lone text steps)
  lone_free None steps = apart.not_literal options_key
  lone_free (Some text) steps = tt

  equal_free : (list : CallRef) (key : List ℕ) (known : Bool) (ns : List ℕ) → Free q (remove_equal list key known ns)
  equal_free list key true [] = tt
  equal_free list key false [] = apart.not_literal key
  equal_free list key known (n ∷ more) = tt

  module _ {S : Type 0} where
    add_shape : (c : CallRef) (n : ℕ) (key : List ℕ) (k : _) (values : List (List ℕ)) (text : Option (List ℕ)) (shape : ValueShape S) → Free q (add_by_shape c n key k values text shape)
    add_shape c n key k values text (an_array xs) = tt
    add_shape c n key k values None no_array = apart.not_literal key
    add_shape c n key k values (Some text) no_array = tt

    add_free : (c : CallRef) (many : ℕ) (key : List ℕ) (k : _) (values : List (List ℕ)) (v : Option (Numbered (Expression S))) → Free q (add_there c many key k values v)
    add_free c many key k values None = tt
    add_free c many key k values (Some v) = add_shape c v.number key k values (text_in k v.value) (value_shape v.value)

    remove_shape : (c : CallRef) (n : ℕ) (key : List ℕ) (k : _) (value : List ℕ) (text : Option (List ℕ)) (shape : ValueShape S)
        → Free q (remove_by_shape c n key k value text shape)
    remove_shape c n key k value text (an_array xs) = equal_free _ key _ _
    remove_shape c n key k value None no_array = apart.not_literal key
    remove_shape c n key k value (Some text) no_array = tt

    remove_free : (c : CallRef) (key : List ℕ) (k : _) (value : List ℕ) (v : Option (Numbered (Expression S))) → Free q (remove_there c key k value v)
    remove_free c key k value None = tt
    remove_free c key k value (Some v) = remove_shape c v.number key k value (text_in k v.value) (value_shape v.value)

    set_shape : (c : CallRef) (n : ℕ) (name entry : List ℕ) (text : Option (List ℕ)) (shape : ValueShape S) → Free q (set_by_shape c n name entry text shape)
    set_shape c n name entry text (an_array xs) = list_free _ _
    set_shape c n name entry text no_array = lone_free text _

    set_value : (c : CallRef) (n : ℕ) (name value : List ℕ) (e : Expression S) (xs : Option (List (Argument S))) → Free q (set_by_value c n name value e xs)
    set_value c n name value e (Some xs) = list_free _ _
    set_value c n name value e None = search set_shape

    set_free : (c : CallRef) (many : ℕ) (name value : List ℕ) (v : Option (Numbered (Expression S))) → Free q (set_option_there c many name value v)
    set_free c many name value None = tt
    set_free c many name value (Some v) = set_value c v.number name value v.value (entries v.value)

    delete_shape : (c : CallRef) (n : ℕ) (name : List ℕ) (text : Option (List ℕ)) (shape : ValueShape S) → Free q (delete_by_shape c n name text shape)
    delete_shape c n name text (an_array xs) = list_free _ _
    delete_shape c n name text no_array = lone_free text _

    delete_value : (c : CallRef) (n : ℕ) (name : List ℕ) (e : Expression S) (xs : Option (List (Argument S))) → Free q (delete_by_value c n name e xs)
    delete_value c n name e (Some xs) = list_free _ _
    delete_value c n name e None = search delete_shape

    delete_free : (c : CallRef) (name : List ℕ) (v : Option (Numbered (Expression S))) → Free q (delete_option_there c name v)
    delete_free c name None = tt
    delete_free c name (Some v) = delete_value c v.number name v.value (entries v.value)

    value_free : (key : List ℕ) (xs : List (Argument S)) → Free q (the_value key xs)
    value_free key xs = one_free key (keyword_in key xs)

    task_free : (t : Task) (c : CallRef) (xs : List (Argument S)) → Free q (task_steps t c xs)
    task_free (set key new) c xs = after q (the_value key xs) (λ v. Ok (set_there c (length xs) key new v ∷ [])) (value_free key xs) (λ v. tt)
    task_free (delete key) c xs = after q (the_value key xs) (λ v. Ok (delete_there c v)) (value_free key xs) (λ v. tt)
    task_free (add key k values) c xs = after q (the_value key xs) (add_there c (length xs) key k values) (value_free key xs) (add_free c (length xs) key k values)
    task_free (remove key k value) c xs = after q (the_value key xs) (remove_there c key k value) (value_free key xs) (remove_free c key k value)
    task_free (once key) c xs = after {B = List Step} q (the_value key xs) (λ v. Ok []) (value_free key xs) (λ v. tt)
    task_free (set_option name value) c xs =
        after q (the_value options_key xs) (set_option_there c (length xs) name value) (value_free options_key xs) (set_free c (length xs) name value)
    task_free (delete_option name) c xs = after q (the_value options_key xs) (delete_option_there c name) (value_free options_key xs) (delete_free c name)

  pub tasks_free : (c : CallRef) (ts : List Task) (trees : List Plain) → Free q (tasks_steps c ts trees)
  tasks_free c [] trees = tt
  tasks_free c (t ∷ more) trees =
      after q (task_steps t c (elements_in c trees)) _ (task_free t c (elements_in c trees))
      (λ here. after q (tasks_steps c more (trees_after here trees)) (λ later. Ok (here ++ later)) (tasks_free c more (trees_after here trees)) (λ later. tt))
