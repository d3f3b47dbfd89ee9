use Rattle.std.proofs.Common.{◌+◌, ◌++◌, drop, ◌∙◌, sym, ap, subst}
use Rattle.std.specs.Prelude.{Bool}
use Rattle.meson_lex.specs.declared.kinds.Span.{Span}
use Rattle.meson_syntax.specs.Tree.{Argument}
use Rattle.meson_syntax.specs.Grammar.{argument_words}
use Rattle.meson_syntax.specs.View.{arg_view, args_view}
use Rattle.meson_calls.specs.Strings.{AreGood}
use Rattle.meson_calls.proofs.Nested.{good_arg}
use Rattle.meson_places.specs.Slots.{passing}
use Rattle.meson_places.specs.inside.Wanted.{is_wanted}
use Rattle.meson_places.proofs.ListElements.{passing_here, passing_more}
use Rattle.meson_places.proofs.elements.numbers.Goals as goal
use Rattle.meson_places.proofs.elements.numbers.Goals.{then-branch+in_ok-push, else-branch}

pub is_wanted-requires : goal.is_wanted-requires
is_wanted-requires c =
    subst (λ a. AreGood (argument_words (arg_view c.args.source.now a))) (sym c.index-elements-i.is)
    (good_arg c.args.source.now c.args.elements.now c.loop-i.i c.index-elements-i.result c.loop-i-test.true c.requires)

pub loop-i-preserved : goal.loop-i-preserved
loop-i-preserved c =
    let source = c.args.source.now in
    let args = c.args.elements.now in
    let i = c.loop-i.i in
    let d = c.index-elements-i.result in
    let test : Argument Span → Bool = λ a. is_wanted c.args.wanted a in
    let all = c.loop-i.all.items in
    let rest = passing test (i + 1) (args_view source (drop (i + 1) args)) in
    let here = ap (λ a. is_wanted c.args.wanted (arg_view source a)) (sym c.index-elements-i.is) ∙ sym c.in_ok-is_wanted.ensures in
    elim c.if-branch.branch [
      | then-branch+in_ok-push w ↦
          ap (λ v. v.items ++ rest) w.all-is ∙ ap (λ ns. ns ++ rest) w.in_ok-push.ensures.items ∙ passing_here source args i d c.loop-i-test.true test all (here ∙ w.if-branch.true) ∙ c.loop-i.invariant
      | else-branch w ↦ ap (λ v. v.items ++ rest) w.all-is ∙ passing_more source args i d c.loop-i-test.true test all (here ∙ w.if-branch.false) ∙ c.loop-i.invariant
    ]
