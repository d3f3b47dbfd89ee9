use Rattle.meson_places.proofs.SortedValues.{sorts_into_one_list}
use Rattle.meson_places.proofs.laws.sorts_into_one_list.Goals as goal

pub returns : goal.returns
returns c = sorts_into_one_list
