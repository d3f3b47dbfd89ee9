use Rattle.std.proofs.Common.{◌∙◌}
use Rattle.meson_following.proofs.passing.WordSearches.new.Goals as goal

pub returns-clause-searches : goal.returns-clause-searches
returns-clause-searches c = λ bytes.
    record {
      variable = c.new.ensures.none bytes;
      setter = c.new-2.ensures.none bytes;
      folder = c.new-3.ensures.none bytes;
      is_setter = c.new-2.ensures.word ∙ c.as_slice.ensures;
      is_folder = c.new-3.ensures.word ∙ c.as_slice-2.ensures;
    }
