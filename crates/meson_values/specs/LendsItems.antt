-- What a list ends as, if its elements are borrowed for writing.
use Rattle.std.specs.Prelude.{List, ◌++◌, length, take, drop}
use Rattle.std.specs.Borrow.{Lends, Fml, RattleType, MutBor, Array}
use Rattle.meson_values.specs.contracts.many.Many.{the_row}

-- the elements with others in their places from the first on (as many are borrowed as there are)
abbrev pub with_all : {A : Type 0} → List A → List A → List A
with_all elements others = take (length elements) (others ++ drop (length others) elements)

abbrev pub LendsItems : (T : RattleType) → MutBor (List T.Denot) → MutBor (List T.Denot) → Fml
LendsItems T list elements = Lends (the_row T) (Array T 0) list elements (with_all list.now)
