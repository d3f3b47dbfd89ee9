-- The extra files of a target: what `extra_files:` holds. Meson manual, Reference manual, `executable`.
use Rattle.std.specs.Prelude.{Option, option_map, Result}
use Rattle.meson_lex.specs.declared.kinds.Span.{Span}
use Rattle.meson_calls.specs.declared.call.CallRef.{CallRef}
use Rattle.meson_variables.specs.declared.source.Sources.{Sources}
use Rattle.meson_calls.specs.declared.refusal.Refusal.{Refusal}
use Rattle.meson_calls.specs.Project.{Project, Placed}
use Rattle.meson_calls.specs.Calls.{Call, keyword}
use Rattle.meson_calls.specs.CallPlaces.{call_at}
use Rattle.meson_variables.specs.TargetSources.{sources_of_marks}
use Rattle.meson_calls.specs.NamedArguments.{once}
use Rattle.meson_sources.specs.SourceEdits.{extra_key, extra_marks}

-- A call with the keyword twice is refused. If no list is met, a further file is added to the call.
abbrev pub extra_of_call : Project Span → Placed (Call Span) → Result Sources Refusal
extra_of_call p c = once extra_key (keyword extra_key c.it) (sources_of_marks c.place (extra_marks p c))

-- those of the target at that place
abbrev pub extra_files : Project Span → CallRef → Option (Result Sources Refusal)
extra_files p c = option_map (extra_of_call p) (call_at p c)
