-- The value that a name names, and what is reported of it.
use Rattle.std.specs.Prelude.{ℕ, List, Option, ok_or, option_map, Result}
use Rattle.meson_lex.specs.declared.kinds.Span.{Span}
use Rattle.meson_splice.specs.Files.{bytes_at}
use Rattle.meson_splice.specs.Patch.{then_ok}
use Rattle.meson_syntax.specs.Tree.{Expression}
use Rattle.meson_edit.specs.Standing.{expression_span}
use Rattle.meson_calls.specs.declared.call.CallRef.{CallRef}
use Rattle.meson_calls.specs.declared.refusal.Refusal.{Refusal}
use Rattle.meson_calls.specs.declared.refusal.Refusal.TheVariants.{NotFound}
use Rattle.meson_calls.specs.Loading.{Loaded, project}
use Rattle.meson_calls.specs.Project.{expression_at}
use Rattle.meson_steps.specs.declared.argument.ValueName.{ValueName}
use Rattle.meson_details.specs.Values.{value_details}
use Rattle.meson_places.specs.NamedValues.{value_place}
use Rattle.meson_plan.specs.declared.values.FoundValue.{FoundValue}

-- of an expression in the file of this number
abbrev pub found_in : List ℕ → (file : ℕ) → Expression Span → FoundValue
found_in source file e = record { file = file; span = expression_span e; details = value_details source e }

abbrev pub found_at : Loaded → CallRef → Option FoundValue
found_at l c = option_map (found_in (bytes_at c.file l.files) c.file) (expression_at (project l) c)

-- an expression always is at the place of a value
abbrev pub the_value : Loaded → ValueName → Result FoundValue Refusal
the_value l n = then_ok (value_place l n) (λ c. ok_or (found_at l c) NotFound)
