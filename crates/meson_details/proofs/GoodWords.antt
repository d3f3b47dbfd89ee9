-- Where the strings of a list's elements are of their kinds, so are those of all its words.
use Rattle.std.proofs.Common.{List, [], ◌∷◌, ◌++◌}
use Rattle.std.specs.Prelude.{Bool, true, false}
use Rattle.meson_lex.specs.declared.kinds.Span.{Span}
use Rattle.meson_lex.specs.Significant.{Word}
use Rattle.meson_syntax.specs.declared.operator.Bracket.TheVariants as bracket
use Rattle.meson_syntax.specs.Grammar.{argument_words, arguments_words, comma_words, listing_words}
use Rattle.meson_syntax.specs.Tree.{Listing, listing, Arguments, no_arguments, argument}
use Rattle.meson_calls.specs.GoodLists.{GoodArguments, GoodListing}
use Rattle.meson_calls.specs.Strings.{AreGood}

both : (xs ys : List Word) → AreGood xs → AreGood ys → AreGood (xs ++ ys)
both [] ys first second = second
both (x ∷ xs) ys first second = (first.0, both xs ys first.1 second)

commas : (more : Arguments Span) (trailing : Bool) → AreGood (comma_words more trailing)
commas no_arguments true = (tt, tt)
commas no_arguments false = tt
commas (argument a more) trailing = (tt, tt)

arguments : (list : Arguments Span) (trailing : Bool) → GoodArguments list → AreGood (arguments_words list trailing)
arguments no_arguments trailing good = tt
arguments (argument a more) trailing good =
    both (argument_words a) (comma_words more trailing ++ arguments_words more trailing) good.0
    (both (comma_words more trailing) (arguments_words more trailing) (commas more trailing) (arguments more trailing good.1))

pub list_words : (l : Listing Span) → GoodListing l → AreGood (listing_words l bracket.Round)
list_words (listing s trailing list) good = (tt, both (arguments_words list trailing) _ (arguments list trailing good) (tt, tt))
