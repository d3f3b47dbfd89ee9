use Rattle.std.proofs.Common.{◌∙◌, ap, [], List, Option, ℕ}
use Rattle.std.specs.Prelude.{unwrap_or}
use Rattle.std.proofs.lemmas.Result.{IfOk-weaker}
use Rattle.clap.specs.Words.{found_of}
use Rattle.clap.proofs.WalkLemmas.{raw_values-rows}
use Rattle.meson_command.proofs.words.words_at.Goals as goal

pub returns-in-Some : goal.returns-in-Some
returns-in-Some c = IfOk-weaker c.all_owned.result _ _
    (λ ts h. h ∙ ap (λ (o : Option (List (List ℕ))). unwrap_or o []) (c.in-Some.ensures ∙ raw_values-rows (found_of c.args.matches.now) c.args.name.now)) c.all_owned.ensures

pub returns-in-None : goal.returns-in-None
returns-in-None c = c.new.ensures ∙ ap (λ (o : Option (List (List ℕ))). unwrap_or o []) (c.in-None.ensures ∙ raw_values-rows (found_of c.args.matches.now) c.args.name.now)
