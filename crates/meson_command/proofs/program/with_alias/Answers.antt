use Rattle.std.proofs.Common.{◌∙◌, List, map, ap}
use Rattle.std.proofs.lemmas.List.{map-append}
use Rattle.std.proofs.lemmas.Result.{IfOk-weaker}
use Rattle.clap.specs.Simple.{app_of_fields}
use Rattle.clap.specs.Words.{App, Text, app_of}
use Rattle.clap.specs.declared.builder.command.Command.TheViews.{out-Command}
use Rattle.meson_command.specs.Program.{with_alias}
use Rattle.meson_command.proofs.program.with_alias.Goals as goal

abbrev with_aliases : App → List Text → App
with_aliases a aliases = record a { top = record a.top { aliases = aliases } }

pub returns : goal.returns
returns c = λ a told.
    let of : App → List Text = λ b. b.top.aliases in
    IfOk-weaker c.alias.result _ _ (λ r h. (
      ap app_of_fields h.0
          ∙ ap (λ xs. with_aliases (app_of c.args.command) (map (λ p. p.0.now) xs)) h.1
          ∙ ap (with_aliases (app_of c.args.command)) (map-append (λ p. p.0.now) (out-Command c.args.command).aliases.items _)
          ∙ ap (with_alias c.args.alias.now) told.0,
      ap (λ f. f.has_globals) h.0 ∙ told.1,
    )) c.alias.ensures
