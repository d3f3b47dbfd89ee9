use Rattle.std.proofs.Common.{ap, ◌∙◌}
use Rattle.std.specs.Prelude.{nat_le}
use Rattle.meson_syntax.specs.Grammar.{file_depth}
use Rattle.meson_syntax.specs.Paths.{list_at}
use Rattle.meson_syntax.specs.View.{view}
use Rattle.meson_places.proofs.room.nests_with.Goals as goal

pub returns : goal.returns
returns c = λ source p is.
    c.nests_within.ensures source
    ∙ ap (λ f. nat_le (file_depth f) 64) (c.put_list-was.ensures.put source p (ap (λ t. list_at (view source t) c.args.path.now.steps) c.in_ok-other.ensures ∙ is))
