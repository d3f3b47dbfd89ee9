use Rattle.std.proofs.Common.{arith}
use Rattle.std.proofs.lemmas.Grind.{common_steps}
use Rattle.std.proofs.lemmas.Result.{IfErr-weaker}
use Rattle.meson_script.proofs.Keeping.{if_ok, keeps-stands, keeps-text}
use Rattle.meson_script.proofs.RunFacts.{reaches-none}
use Rattle.meson_script.proofs.Untouched.{keeps-untouched}
use Rattle.meson_script.proofs.session.Session.run_listed.Goals as goal

pub returns-in-len1-clause-step : goal.returns-in-len1-clause-step
returns-in-len1-clause-step c = if_ok c.run_one.result c.run_one.ensures.done c.run_one.ensures.project (keeps-stands c.args.form c.args.self.now c.run_one.new.self _ c.args.title.now)

pub returns-in-len1-clause-text : goal.returns-in-len1-clause-text
returns-in-len1-clause-text c = if_ok c.run_one.result c.run_one.ensures.done c.run_one.ensures.project (λ r keeps _ before. keeps-text c.args.form c.args.self.now c.run_one.new.self _ c.args.title.now r keeps before c.requires)

pub returns-in_default-clause-step : goal.returns-in_default-clause-step
returns-in_default-clause-step c = if_ok c.run_all.result c.run_all.ensures.done c.run_all.ensures.project (keeps-stands c.args.form c.args.self.now c.run_all.new.self _ c.args.title.now)

pub returns-in_default-clause-text : goal.returns-in_default-clause-text
returns-in_default-clause-text c = if_ok c.run_all.result c.run_all.ensures.done c.run_all.ensures.project (λ r keeps _ before. keeps-text c.args.form c.args.self.now c.run_all.new.self _ c.args.title.now r keeps before c.requires)

pub returns-in-len1-clause-index : goal.returns-in-len1-clause-index
returns-in-len1-clause-index c = IfErr-weaker c.run_one.result _ _ (λ f. reaches-none c.args.self.now.project c.args.script.now.commands f.index) c.run_one.ensures.index

pub returns-in_default-clause-done : goal.returns-in_default-clause-done
returns-in_default-clause-done c = grind (arith, common_steps)

pub returns-in_default-clause-refused : goal.returns-in_default-clause-refused
returns-in_default-clause-refused c = grind (arith, common_steps)

pub returns-in_default-clause-index : goal.returns-in_default-clause-index
returns-in_default-clause-index c = grind (arith, common_steps)

pub returns-in-len1-clause-done : goal.returns-in-len1-clause-done
returns-in-len1-clause-done c = grind (arith, common_steps)

pub returns-in-len1-clause-refused : goal.returns-in-len1-clause-refused
returns-in-len1-clause-refused c = grind (arith, common_steps)

pub returns-in-len1-clause-untouched : goal.returns-in-len1-clause-untouched
returns-in-len1-clause-untouched c = keeps-untouched c.args.form c.args.self.now c.run_one.new.self c.args.script.now.commands c.args.title.now c.run_one.result (returns-in-len1-clause-done c)

pub returns-in_default-clause-untouched : goal.returns-in_default-clause-untouched
returns-in_default-clause-untouched c = keeps-untouched c.args.form c.args.self.now c.run_all.new.self c.args.script.now.commands c.args.title.now c.run_all.result (returns-in_default-clause-done c)
