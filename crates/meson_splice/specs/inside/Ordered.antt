-- The splices of a change in the order in which they are done.
use Rattle.std.specs.Prelude.{List}
use Rattle.meson_splice.specs.Patch.{inverses_of}
use Rattle.meson_splice.specs.declared.splice.Splice.{Splice}
use Rattle.meson_splice.specs.declared.way.Way.{Way}
use Rattle.meson_splice.specs.declared.way.Way.TheVariants.{Backward, Forward}

-- as they are, or their inverses, last to first
abbrev pub ordered : Way → List Splice → List Splice
ordered Forward splices = splices
ordered Backward splices = inverses_of splices
