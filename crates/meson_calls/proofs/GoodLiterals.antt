-- Strings among the arguments of a call.
use Rattle.meson_calls.proofs.Words.{filter_map, option_map, ◌≡◌, ℕ, ◌+◌, List, ◌++◌, subst, Bool, Option, Some, None, IsString, mark, comma_words}
use Rattle.meson_calls.proofs.Words.{expression_words, argument_words, arguments_words, listing_words, string_kind, Expression, Listing, listing, plain, named}
use Rattle.meson_calls.proofs.Words.{pair, Arguments, no_arguments, argument, StringKind, numbered, kept_number, value_without_name, first_of, first_argument}
use Rattle.meson_calls.proofs.Words.{call_with, IsGood, AreGood}
use Rattle.meson_lex.specs.declared.kinds.Kind.TheVariants as k
use Rattle.meson_syntax.specs.declared.operator.Bracket.TheVariants as bracket
use Rattle.meson_syntax.specs.declared.operator.StringKind.TheVariants as quotes
use Rattle.meson_calls.proofs.GoodParts.{good_left, good_right}

pub string_good : (q : StringKind) (x : List ℕ) → IsGood (string_kind q) x → IsString (string_kind q) x
string_good quotes.Plain x good = good
string_good quotes.Multiline x good = good
string_good quotes.Format x good = good
string_good quotes.FormatMultiline x good = good

module _ {S : Type 0} where
  abbrev pub first_from : ℕ → Arguments S → Option (Expression S)
  first_from n list = option_map (λ a. a.value) (first_of (filter_map (kept_number value_without_name) (numbered n list)))

  first_good : (n : ℕ) (list : Arguments S) (trailing : Bool) (e : Expression S) → first_from n list ≡ Some e → AreGood (arguments_words list trailing) → AreGood (expression_words e)
  first_good n no_arguments trailing e is good = absurd (none_some is)
    where
      none_some : None ≡ Some e → ⊥
      none_some h = cc
  first_good n (argument (plain x) more) trailing e is good =
      subst (λ y. AreGood (expression_words y)) (same is) (good_left (expression_words x) (comma_words more trailing ++ arguments_words more trailing) good)
    where
      same : Some x ≡ Some e → x ≡ e
      same h = cc
  first_good n (argument (named s x v) more) trailing e is good =
      first_good (n + 1) more trailing e is (good_right (comma_words more trailing) (arguments_words more trailing) (good_right (expression_words v) (comma_words more trailing ++ arguments_words more trailing) good.1.1))
  first_good n (argument (pair s x v) more) trailing e is good =
      first_good (n + 1) more trailing e is
      (good_right (comma_words more trailing) (arguments_words more trailing) (good_right (argument_words (pair s x v)) (comma_words more trailing ++ arguments_words more trailing) good))

  pub first_argument_good : (f : List ℕ) (l : Listing S) (e : Expression S) → first_argument (call_with f l) ≡ Some e → AreGood (listing_words l bracket.Round) → AreGood (expression_words e)
  first_argument_good f (listing s trailing list) e is good = first_good 0 list trailing e is (good_left (arguments_words list trailing) (mark k.CloseRound) good.1)
