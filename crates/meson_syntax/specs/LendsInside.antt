-- What a box ends as, if its value is borrowed for writing: the value that is left there.
use Rattle.std.specs.Borrow.{Lends, Fml, RattleType, MutBor}
use Rattle.meson_syntax.specs.contracts.boxed.Boxed.{the_row}

abbrev pub LendsInside : (T : RattleType) → MutBor T.Denot → MutBor T.Denot → Fml
LendsInside T whole inside = Lends (the_row T) T whole inside (λ left. left)
