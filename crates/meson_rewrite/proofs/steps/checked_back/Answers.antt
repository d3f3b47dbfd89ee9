use Rattle.std.proofs.Common.{◌∙◌, ap, inl, inr, sym}
use Rattle.std.proofs.lemmas.Result.{IfErr-weaker, IfOk-weaker}
use Rattle.meson_rewrite.specs.declared.advice.Advice.TheVariants.{Nothing}
use Rattle.meson_rewrite.proofs.Checking.{has-sums, other-sums}
use Rattle.meson_rewrite.specs.Steps.{HasSums}
use Rattle.meson_rewrite.specs.declared.stop.Stop.TheVariants.{OtherFiles}
use Rattle.meson_rewrite.proofs.steps.checked_back.Goals as goal

pub returns-then-not-same-clause-refused : goal.returns-then-not-same-clause-refused
returns-then-not-same-clause-refused c =
    let others = other-sums c.args.kept.now c.args.session.now c.files.result.now c.get.result.now c.files.ensures c.get.ensures (sym c.in_ok-same.ensures ∙ c.if-not-same.true) in
    inr (inl (others, ap (λ n. OtherFiles n Nothing) c.in_ok-name.ensures.cases))

pub returns-clause-does : goal.returns-clause-does
returns-clause-does c =
    let has : HasSums c.args.session.now c.args.kept.now = has-sums c.args.kept.now c.args.session.now c.files.result.now c.get.result.now c.files.ensures c.get.ensures (sym c.in_ok-same.ensures ∙ c.if-not-same.false) in
    IfOk-weaker c.back_to.result _ _ (λ report does. (has, does)) c.back_to.ensures.does

pub returns-clause-refused : goal.returns-clause-refused
returns-clause-refused c =
    let has : HasSums c.args.session.now c.args.kept.now = has-sums c.args.kept.now c.args.session.now c.files.result.now c.get.result.now c.files.ensures c.get.ensures (sym c.in_ok-same.ensures ∙ c.if-not-same.false) in
    IfErr-weaker c.back_to.result _ _ (λ why may. elim may [
      | inl wants ↦ inl wants
      | inr stops ↦ inr (inr (has, stops))
    ]) c.back_to.ensures.refused
