use Rattle.meson_keywords.proofs.Words.{◌+◌, ◌++◌, drop, ◌∙◌, sym, ap, subst, Bool, Span, argument_words, Argument, arg_view, args_view, AreGood, good_arg}
use Rattle.meson_keywords.proofs.Words.{passing, test_of}
use Rattle.meson_keywords.proofs.ElementsSay.{passing_here, passing_more}
use Rattle.meson_keywords.proofs.elements.passing.Goals as goal
use Rattle.meson_keywords.proofs.elements.passing.Goals.{then-branch+in_ok-push, else-branch}

pub passes-requires : goal.passes-requires
passes-requires c =
    subst (λ a. AreGood (argument_words (arg_view c.args.source.now a))) (sym c.index-elements-i.is)
    (good_arg c.args.source.now c.args.elements.now c.loop-i.i c.index-elements-i.result c.loop-i-test.true c.requires)

pub loop-i-preserved : goal.loop-i-preserved
loop-i-preserved c =
    let source = c.args.source.now in
    let args = c.args.elements.now in
    let i = c.loop-i.i in
    let d = c.index-elements-i.result in
    let test : Argument Span → Bool = λ a. test_of c.args.test a in
    let all = c.loop-i.all.items in
    let rest = passing test (i + 1) (args_view source (drop (i + 1) args)) in
    let here = ap (λ a. test_of c.args.test (arg_view source a)) (sym c.index-elements-i.is) ∙ sym c.in_ok-passes.ensures in
    elim c.if-branch.branch [
      | then-branch+in_ok-push w ↦
          ap (λ v. v.items ++ rest) w.all-is ∙ ap (λ ns. ns ++ rest) w.in_ok-push.ensures.items ∙ passing_here source args i d c.loop-i-test.true test all (here ∙ w.if-branch.true) ∙ c.loop-i.invariant
      | else-branch w ↦ ap (λ v. v.items ++ rest) w.all-is ∙ passing_more source args i d c.loop-i-test.true test all (here ∙ w.if-branch.false) ∙ c.loop-i.invariant
    ]
