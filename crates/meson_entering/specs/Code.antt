-- What the code's values mean.
use Rattle.meson_lex.specs.declared.kinds.Span.{Span}
use Rattle.meson_syntax.specs.View.{view}
use Rattle.meson_calls.specs.Project.{BuildFile}
use Rattle.meson_entering.specs.declared.entering.SourceFile.{SourceFile}

abbrev pub file_view : SourceFile → BuildFile Span
file_view f = record { name = f.name.now; tree = view f.source.now f.tree.now }
