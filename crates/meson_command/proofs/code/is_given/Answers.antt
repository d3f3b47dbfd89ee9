use Rattle.std.proofs.Common.{◌≡◌, ◌∙◌, ℕ, List, Option, Some, None, ap, refl, Bor}
use Rattle.std.specs.Prelude.{is_some, option_map}
use Rattle.clap.specs.Words.{found_of}
use Rattle.clap.proofs.WalkLemmas.{first_value-rows}
use Rattle.meson_command.proofs.code.is_given.Goals as goal

there : (o : Option (Bor (List ℕ))) → is_some o ≡ is_some (option_map (λ w. w.now) o)
there None = refl
there (Some w) = refl

pub returns : goal.returns
returns c =
    let found = found_of c.args.matches.now in
    c.is_some.ensures ∙ there c.get_str.result ∙ ap is_some (c.get_str.ensures ∙ first_value-rows found c.args.name.now)
