use Rattle.std.proofs.Common.{sym, subst}
use Rattle.meson_syntax.specs.Grammar.{argument_words}
use Rattle.meson_syntax.specs.View.{arg_view}
use Rattle.meson_calls.specs.Strings.{AreGood}
use Rattle.meson_calls.proofs.Nested.{good_arg}
use Rattle.meson_details.proofs.showing.variables_in.Goals as goal

pub variable_in-requires : goal.variable_in-requires
variable_in-requires c =
    subst (λ a. AreGood (argument_words (arg_view c.args.source.now a))) (sym c.index-elements-i.is)
    (good_arg c.args.source.now c.args.elements.now c.loop-i.i c.index-elements-i.result c.loop-i-test.true c.requires)
