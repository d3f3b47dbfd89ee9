-- Kinds of opening brackets.
use Rattle.std.specs.Prelude.{Bool, true, false}
use Rattle.meson_lex.specs.declared.kinds.Kind.{Kind}
use Rattle.meson_lex.specs.declared.kinds.Kind.TheVariants.{OpenRound, OpenSquare, OpenCurly}

abbrev pub is_open : Kind → Bool
is_open OpenRound = true
is_open OpenSquare = true
is_open OpenCurly = true
is_open _ = false
