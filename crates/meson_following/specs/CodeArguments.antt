-- What the code meets in the arguments of a call.
use Rattle.std.specs.Prelude.{ℕ, Bool, true, false, List, [], Option, Some, None}
use Rattle.meson_lex.specs.declared.kinds.Span.{Span}
use Rattle.meson_syntax.specs.declared.tree.Arg.{Arg}
use Rattle.meson_syntax.specs.Tree.{Argument, Expression}
use Rattle.meson_calls.specs.declared.call.CallRef.{CallRef}
use Rattle.meson_calls.specs.Calls.{Numbered, value_with_name, value_without_name}
use Rattle.meson_calls.specs.NamedArguments.{kept_args, rest, sources_key}
use Rattle.meson_calls.specs.Project.{Project, child}
use Rattle.meson_following.specs.declared.site.Site.{Site}
use Rattle.meson_following.specs.CodeSites.{expression_met, way_at}
use Rattle.meson_following.specs.Following.{Following, follow, follow_values, nothing_met, straight, then_follow}

-- a value without a name, or with this one
abbrev pub value_by : Option (List ℕ) → Argument Span → Option (Expression Span)
value_by None = value_without_name
value_by (Some key) = value_with_name key

-- those without a name are in the list of the call
abbrev pub is_in_list : Option (List ℕ) → Bool
is_in_list None = true
is_in_list (Some key) = false

module _ (s : Site) (c : CallRef) (key : Option (List ℕ)) where
  abbrev pub values_met : List (Numbered (Expression Span)) → List CallRef → Following Span
  values_met = follow_values (expression_met s) (way_at s) c (is_in_list key)

  abbrev pub value_met : Option (Numbered (Expression Span)) → List CallRef → Following Span
  value_met None = nothing_met
  value_met (Some a) = expression_met s a.value (record { place = child c a.number; listed = is_in_list key; way = way_at s })

-- what is met in the arguments of the call at a place
abbrev pub call_followed : Project Span → CallRef → (source : List ℕ) → List Arg → Following Span
call_followed p c source args =
    then_follow (follow_values (follow p) straight c true (rest (kept_args source value_without_name 0 args)) [])
    (follow_values (follow p) straight c false (kept_args source (value_with_name sources_key) 0 args))
