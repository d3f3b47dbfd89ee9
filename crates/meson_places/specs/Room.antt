-- Whether a list has room for an expression: the file with it nests no deeper than a file may.
use Rattle.std.specs.Prelude.{nat_le, Bool, true, false, List, if◌then◌else◌, Option, Some, None, option_and_then, Result, Ok, Err}
use Rattle.meson_syntax.specs.Grammar.{file_depth}
use Rattle.meson_syntax.specs.Paths.{ListAt, list_at, nth}
use Rattle.meson_syntax.specs.Reads.{max_depth}
use Rattle.meson_syntax.specs.Tree.{Expression, Listing, listing, plain, no_arguments, argument, Nowhere, Plain}
use Rattle.meson_calls.specs.declared.call.CallRef.{CallRef}
use Rattle.meson_calls.specs.declared.refusal.Refusal.{Refusal}
use Rattle.meson_calls.specs.declared.refusal.Refusal.TheVariants.{TooDeep}
use Rattle.meson_calls.specs.Loading.{Loaded}
use Rattle.meson_steps.specs.ResultLimits.{plain_trees}
use Rattle.meson_steps.specs.Steps.{Step}

-- the list of the call, dictionary or array at a place
abbrev pub list_in_trees : List Plain → CallRef → Option (ListAt Nowhere)
list_in_trees trees c = option_and_then (λ t. list_at t c.path.steps) (nth trees c.file)

-- a list of one expression
abbrev pub alone : Expression Nowhere → Listing Nowhere
alone e = listing tt false (argument (plain e) no_arguments)

-- With the expression alone in the list, the file nests no deeper than a file may. As the file itself does not, it then has room among the other elements.
abbrev pub has_room : Expression Nowhere → Option (ListAt Nowhere) → Bool
has_room e None = true
has_room e (Some p) = nat_le (file_depth (p.back (alone e))) max_depth

-- steps that put an expression into a list
abbrev pub if_room : Loaded → CallRef → Expression Nowhere → List Step → Result (List Step) Refusal
if_room l c e steps = if has_room e (list_in_trees (plain_trees l) c) then Ok steps else Err TooDeep
