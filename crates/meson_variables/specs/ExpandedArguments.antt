-- Arguments of a call as the code expands them, one after another.
use Rattle.std.specs.Prelude.{ℕ, List, [], ◌∷◌, Option, Some, None}
use Rattle.meson_lex.specs.declared.kinds.Span.{Span}
use Rattle.meson_syntax.specs.declared.tree.Arg.{Arg}
use Rattle.meson_syntax.specs.Tree.{Expression}
use Rattle.meson_calls.specs.declared.call.CallRef.{CallRef}
use Rattle.meson_calls.specs.Project.{Project, child}
use Rattle.meson_calls.specs.Calls.{Numbered, value_without_name, value_with_name}
use Rattle.meson_variables.specs.Expansion.{Slot, in_list, fixed, opaque, Expansion, nothing_met, then_expand}
use Rattle.meson_calls.specs.NamedArguments.{rest, sources_key, kwargs_key, kept_args}
use Rattle.meson_variables.specs.Tallies.{Gathered, expanded, with_mark, no_marks, expand_left}

-- an argument's value, in the list of the call or in none
abbrev pub one_by : Project Span → ℕ → CallRef → (ℕ → Slot) → Numbered (Expression Span) → List (List ℕ) → Expansion Span
one_by p left c slot a = expand_left p left a.value (record { place = child c a.number; slot = slot a.number; variable = None })

abbrev pub expansion_step : Project Span → ℕ → CallRef → (ℕ → Slot) → Option (Numbered (Expression Span)) → List (List ℕ) → Expansion Span
expansion_step p left c slot None followed = nothing_met followed
expansion_step p left c slot (Some a) followed = one_by p left c slot a followed

abbrev pub arguments_by : Project Span → ℕ → CallRef → (ℕ → Slot) → List (Numbered (Expression Span)) → List (List ℕ) → Expansion Span
arguments_by p left c slot [] followed = nothing_met followed
arguments_by p left c slot (a ∷ more) followed = then_expand (one_by p left c slot a followed) (λ now. arguments_by p left c slot more now)

-- a mark for what may be hidden
abbrev pub with_hidden : {Y : Type 0} → Gathered → List Y → Gathered
with_hidden g [] = g
with_hidden g (y ∷ ys) = with_mark g opaque

-- all that the arguments of a call hold
abbrev pub all_gathered : Project Span → ℕ → CallRef → List ℕ → List Arg → Gathered
all_gathered p left c source args =
    with_hidden
    (expanded (expanded no_marks (arguments_by p left c (in_list c) (rest (kept_args source value_without_name 0 args))))
    (arguments_by p left c (λ n. fixed) (kept_args source (value_with_name sources_key) 0 args)))
    (kept_args source (value_with_name kwargs_key) 0 args)
