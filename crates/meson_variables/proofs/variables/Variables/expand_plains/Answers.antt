use Rattle.meson_variables.proofs.Words.{◌∙◌, sym, ap, subst, argument_words, arg_view, value_without_name, kept_arg, place, AreGood, good_arg, project_of}
use Rattle.meson_variables.proofs.Words.{expansion_step, in_list, gathered, expanded}
use Rattle.meson_variables.proofs.KeptTurns.{kept_turn}
use Rattle.meson_variables.proofs.variables.Variables.expand_plains.Goals as goal

pub expand_plain-requires-clause-good : goal.expand_plain-requires-clause-good
expand_plain-requires-clause-good c =
    let source = c.args.site.source.now in
    subst (λ a. AreGood (argument_words (arg_view source a))) (sym c.index-args-i.is) (good_arg source c.args.args.now c.loop-i.i c.index-args-i.result c.loop-i-test.true c.requires.good)

pub loop-i-preserved : goal.loop-i-preserved
loop-i-preserved c =
    let source = c.args.site.source.now in
    let file = c.args.site.file in
    let p = project_of c.args.self.now in
    let left = c.args.left in
    let q = place file c.args.path.now.items in
    let before = gathered c.loop-i.marks in
    let i = c.loop-i.i in
    let x = c.index-args-i.result in (
      c.in_ok-expand_plain.ensures.back ∙ c.loop-i.invariant.0,
      kept_turn p left q (in_list q) source value_without_name c.args.args.now i x before (gathered c.expand_plain.new.marks) _ c.loop-i-test.true
          (c.in_ok-expand_plain.ensures.all
          ∙ ap (λ path. expanded before (expansion_step p left (place file path) (in_list (place file path)) (kept_arg source value_without_name i x))) c.loop-i.invariant.0
          ∙ ap (λ a. expanded before (expansion_step p left q (in_list q) (kept_arg source value_without_name i a))) c.index-args-i.is)
          c.loop-i.invariant.1,
    )
