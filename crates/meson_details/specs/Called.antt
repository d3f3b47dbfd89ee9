-- What the code has of a call in its source.
use Rattle.meson_lex.specs.declared.kinds.Span.{Span}
use Rattle.meson_syntax.specs.Tree.{Expression, call}
use Rattle.meson_syntax.specs.View.{list_view, name_at}
use Rattle.meson_details.specs.declared.called.Called.{Called}

abbrev pub called_view : Called → Expression Span
called_view c = call c.span (name_at c.source.now c.name) (list_view c.source.now c.arguments.now)
