use Rattle.std.proofs.Common.{◌∙◌, ap, sym, [], List, Option, Ok, ℕ}
use Rattle.std.specs.Prelude.{unwrap_or}
use Rattle.std.proofs.lemmas.Result.{IfErr-weaker, IfOk-weaker}
use Rattle.clap.specs.Words.{found_of}
use Rattle.clap.proofs.WalkLemmas.{raw_values-rows}
use Rattle.meson_command.specs.Pairs.{pairs_of}
use Rattle.meson_command.proofs.pairs.pairs_at.Goals as goal

pub returns-in-Some-clause-ok : goal.returns-in-Some-clause-ok
returns-in-Some-clause-ok c = IfOk-weaker c.pairs_of.result _ _
    (λ v h. sym (ap (λ (o : Option (List (List ℕ))). pairs_of (unwrap_or o [])) (c.in-Some.ensures ∙ raw_values-rows (found_of c.args.matches.now) c.args.name.now)) ∙ h) c.pairs_of.ensures.ok

pub returns-in-Some-clause-refused : goal.returns-in-Some-clause-refused
returns-in-Some-clause-refused c = IfErr-weaker c.pairs_of.result _ _
    (λ e h n. sym (ap (λ (o : Option (List (List ℕ))). pairs_of (unwrap_or o [])) (c.in-Some.ensures ∙ raw_values-rows (found_of c.args.matches.now) c.args.name.now)) ∙ h n) c.pairs_of.ensures.refused

pub returns-in-None-clause-ok : goal.returns-in-None-clause-ok
unfolding pairs_of
returns-in-None-clause-ok c =
    sym (ap (λ (o : Option (List (List ℕ))). pairs_of (unwrap_or o [])) (c.in-None.ensures ∙ raw_values-rows (found_of c.args.matches.now) c.args.name.now)) ∙ ap Ok (sym c.new.ensures.items)
