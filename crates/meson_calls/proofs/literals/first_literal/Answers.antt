use Rattle.meson_calls.proofs.Words.{option_and_then, ◌∙◌, sym, ap, [], literal_of}
use Rattle.meson_calls.proofs.GoodLiterals.{first_argument_good}
use Rattle.meson_calls.proofs.literals.first_literal.Goals as goal

pub literal-requires : goal.literal-requires
literal-requires c = first_argument_good [] _ _ (c.in-Some.ensures c.args.source.now []) c.requires

pub returns-in_ok-text-in-Some : goal.returns-in_ok-text-in-Some
returns-in_ok-text-in-Some c = λ function. c.in_ok-text-in-Some.ensures ∙ sym (ap (option_and_then literal_of) (c.in-Some.ensures c.args.source.now function))

pub returns-in-None : goal.returns-in-None
returns-in-None c = λ function. sym (ap (option_and_then literal_of) (c.in-None.ensures c.args.source.now function))
