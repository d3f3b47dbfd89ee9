use Rattle.std.proofs.Common.{◌∙◌, sym}
use Rattle.meson_syntax.specs.View.{expr_view}
use Rattle.meson_following.proofs.NameParts.{last_done, last_step}
use Rattle.meson_following.proofs.names.last_of.Goals as goal

pub loop-i-preserved : goal.loop-i-preserved
loop-i-preserved c = λ source. sym (last_step source (expr_view source c.loop-i.last.now) c.args.rest.now c.loop-i.i c.index-rest-i.result c.loop-i-test.true) ∙ c.loop-i.invariant source

pub returns : goal.returns
returns c = λ source. sym (last_done source (expr_view source c.loop-i.last.now) c.args.rest.now c.loop-i.i c.loop-i-test.false) ∙ c.loop-i.invariant source
