-- What the code's values mean.
use Rattle.std.specs.Prelude.{map, Option, option_map}
use Rattle.meson_lex.specs.declared.kinds.Span.{Span}
use Rattle.meson_syntax.specs.View.{expr_view}
use Rattle.meson_calls.specs.Project.{placed}
use Rattle.meson_following.specs.declared.makers.Maker as code
use Rattle.meson_following.specs.declared.makers.Made as code_made
use Rattle.meson_following.specs.Makers.{Known, Made, Maker}

abbrev pub maker_view : code.Maker → Maker Span
maker_view m = record { value = placed m.place (expr_view m.source.now m.value.now); adds = m.adds; sure = m.sure }

abbrev pub made_view : code_made.Made → Made Span
made_view m = record { makers = map maker_view m.makers.items; unknown = m.unknown }

abbrev pub known_view : Option code_made.Made → Known Span
known_view k = option_map made_view k
