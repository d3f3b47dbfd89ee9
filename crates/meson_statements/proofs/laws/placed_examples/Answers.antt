use Rattle.std.proofs.Common.{refl}
use Rattle.meson_statements.proofs.laws.placed_examples.Goals as goal

pub returns-clause-gaps : goal.returns-clause-gaps
returns-clause-gaps c = record {
  indent = refl;
  after_text = refl;
  continued = refl;
  at_start = refl;
  all = refl;
  one_line = refl;
  long_statement = refl;
  long_code = refl;
  two = refl;
  none = refl;
  ended = refl;
  not_ended = refl;
  one = refl;
  with_blanks = refl;
  last_blanks = refl;
  noted = refl;
  empty = refl;
  no_text = refl;
}

pub returns-clause-places : goal.returns-clause-places
returns-clause-places c = record {
  below = refl;
  above = refl;
  last = refl;
  below_long = refl;
  above_long = refl;
  last_long = refl;
  below_inner = refl;
  above_inner = refl;
  last_inner = refl;
  blank_there = refl;
  one_more = refl;
  two = refl;
  none = refl;
  first = refl;
  first_parted = refl;
}
