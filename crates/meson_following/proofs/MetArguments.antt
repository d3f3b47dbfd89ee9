-- What is met in the arguments of a call, one after another.
use Rattle.std.proofs.Common.{◌≡◌, ℕ, ◌+◌, ◌<◌, ◌≤◌, List, [], ◌∷◌, ◌++◌, length, drop, get_or, refl, sym, ap, arith, append-nil, ◌∙◌}
use Rattle.std.specs.Prelude.{Bool, true, false, Option, Some, None}
use Rattle.std.specs.List.{cons_option}
use Rattle.meson_lex.specs.declared.kinds.Span.{Span}
use Rattle.meson_syntax.specs.declared.tree.Arg.{Arg}
use Rattle.meson_syntax.specs.declared.tree.List as rust
use Rattle.meson_syntax.specs.Tree.{Expression}
use Rattle.meson_calls.specs.declared.call.CallRef.{CallRef}
use Rattle.meson_calls.specs.Calls.{Numbered, value_with_name, value_without_name}
use Rattle.meson_calls.specs.ChosenNotes.{call_with, placed_call}
use Rattle.meson_calls.specs.NamedArguments.{kept_arg, kept_args, kwargs_key, rest, sources_key}
use Rattle.meson_calls.specs.Project.{Project, place, placed}
use Rattle.meson_calls.proofs.KeptArguments.{kept_here}
use Rattle.meson_calls.proofs.Listed.{list_is}
use Rattle.meson_following.specs.declared.site.Site.{Site}
use Rattle.meson_following.specs.CodeArguments.{call_followed, is_in_list, value_by, value_met, values_met}
use Rattle.meson_following.specs.CodeSites.{project_at, way_at}
use Rattle.meson_following.specs.Following.{Following, Mark, follow, follow_call, follow_left, follow_marks, follow_values, hidden, met, nothing_met, opaque, straight, then_follow}
use Rattle.meson_variables.specs.Expansion.{max_followed}
use Rattle.meson_following.proofs.Followed.{follow_nothing, follow_twice}

module _ (s : Site) (c : CallRef) (key : Option (List ℕ)) (source : List ℕ) (args : List Arg) (i : ℕ) (d : Arg) where
  abbrev kept_from : ℕ → List (Numbered (Expression Span))
  kept_from n = kept_args source (value_by key) n (drop n args)

  one_value : (f : Following Span) (o : Option (Numbered (Expression Span))) (more : List (Numbered (Expression Span))) →
      then_follow f (values_met s c key (cons_option o more)) ≡ then_follow (then_follow f (value_met s c key o)) (values_met s c key more)
  one_value f None more = ap (λ g. then_follow g (values_met s c key more)) (sym (follow_nothing f))
  one_value f (Some a) more = follow_twice f (value_met s c key (Some a)) (values_met s c key more)

  pub value_turn : (before after whole : Following Span) → i < length args → after ≡ then_follow before (value_met s c key (kept_arg source (value_by key) i (get_or args i d)))
      → then_follow before (values_met s c key (kept_from i)) ≡ whole → then_follow after (values_met s c key (kept_from (i + 1))) ≡ whole
  value_turn before after whole within step so_far =
      ap (λ g. then_follow g (values_met s c key (kept_from (i + 1)))) step
      ∙ sym (one_value before (kept_arg source (value_by key) i (get_or args i d)) (kept_from (i + 1)))
      ∙ sym (ap (λ xs. then_follow before (values_met s c key xs)) (kept_here source (value_by key) args i d within))
      ∙ so_far

-- ---- the arguments of a target

met_first : (more : List CallRef → Following Span) → then_follow (nothing_met []) more ≡ more []
met_first more = cc

module _ (s : Site) (call : CallRef) (steps : List ℕ) (source : List ℕ) (args : List Arg) (from : ℕ) (f g h : Following Span) (at_left : s.left ≡ max_followed)
    (on_way : way_at s ≡ straight) (here : place s.file steps ≡ call) (none : f ≡ nothing_met []) where
  abbrev values_there : Bool → List (Numbered (Expression Span)) → List CallRef → Following Span
  values_there = follow_values (follow (project_at s)) straight call

  values_are : (key : Option (List ℕ)) (xs : List (Numbered (Expression Span))) → values_met s (place s.file steps) key xs ≡ values_there (is_in_list key) xs
  values_are key xs =
      ap (λ q. values_met s q key xs) here
      ∙ ap (λ w. follow_values (follow_left (project_at s) s.left) w call (is_in_list key) xs) on_way
      ∙ ap (λ n. follow_values (follow_left (project_at s) n) straight call (is_in_list key) xs) at_left

  pub both_met : g ≡ then_follow f (values_met s (place s.file steps) None (kept_args source value_without_name from (drop from args)))
      → rest (kept_args source value_without_name 0 args) ≡ kept_args source value_without_name from (drop from args)
      → h ≡ then_follow g (values_met s (place s.file steps) (Some sources_key) (kept_args source (value_with_name sources_key) 0 args))
      → h ≡ call_followed (project_at s) call source args
  both_met plains others nameds =
      let xs = kept_args source value_without_name from (drop from args) in
      let ys = kept_args source (value_with_name sources_key) 0 args in
      nameds
      ∙ ap (then_follow g) (values_are (Some sources_key) ys)
      ∙ ap (λ g. then_follow g (values_there false ys))
      (plains ∙ ap (then_follow f) (values_are None xs) ∙ ap (λ f. then_follow f (values_there true xs)) none ∙ met_first (values_there true xs)
      ∙ ap (λ xs. values_there true xs []) (sym others))

pub call_is : (p : Project Span) (q : CallRef) (function source : List ℕ) (l : rust.List) → follow_call p (placed_call q function source l) ≡ call_followed p q source l.items
call_is p q function source l = ap (λ list. follow_call p (placed q (call_with function list))) (list_is source l)

-- What is met in all arguments: `kwargs:` hides others.
module _ (p : Project Span) (call : CallRef) (function source : List ℕ) (l : rust.List) (f : Following Span) (is : f ≡ call_followed p call source l.items) where
  abbrev hidden_by : List (Numbered (Expression Span)) → List (Mark Span)
  hidden_by xs = (call_followed p call source l.items).marks ++ hidden xs

  marks_are : follow_marks p (placed_call call function source l) ≡ hidden_by (kept_args source (value_with_name kwargs_key) 0 l.items)
  marks_are = ap (λ list. follow_marks p (placed call (call_with function list))) (list_is source l)

  pub some_hidden : 0 < length (kept_args source (value_with_name kwargs_key) 0 l.items) → (after : Following Span) → after ≡ then_follow f (met opaque)
      → after.marks ≡ follow_marks p (placed_call call function source l)
  some_hidden some after so = go (kept_args source (value_with_name kwargs_key) 0 l.items) refl some
    where
      go : (xs : List (Numbered (Expression Span))) → kept_args source (value_with_name kwargs_key) 0 l.items ≡ xs → 0 < length xs
          → after.marks ≡ follow_marks p (placed_call call function source l)
      go [] at_ some = absurd (omega (arith, some))
      go (x ∷ xs) at_ some = ap (λ g. g.marks) (so ∙ ap (λ g. then_follow g (met opaque)) is) ∙ sym (ap hidden_by at_) ∙ sym marks_are

  pub none_hidden : length (kept_args source (value_with_name kwargs_key) 0 l.items) ≤ 0 → f.marks ≡ follow_marks p (placed_call call function source l)
  none_hidden none = go (kept_args source (value_with_name kwargs_key) 0 l.items) refl none
    where
      go : (xs : List (Numbered (Expression Span))) → kept_args source (value_with_name kwargs_key) 0 l.items ≡ xs → length xs ≤ 0
          → f.marks ≡ follow_marks p (placed_call call function source l)
      go [] at_ none = ap (λ g. g.marks) is ∙ sym (append-nil (call_followed p call source l.items).marks) ∙ sym (ap hidden_by at_) ∙ sym marks_are
      go (x ∷ xs) at_ none = absurd (omega (arith, none))
