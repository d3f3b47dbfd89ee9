use Rattle.std.proofs.Common.{◌≡◌, ◌∙◌, ap, codes, false, true}
use Rattle.std.proofs.lemmas.Result.{IfOk-weaker}
use Rattle.clap.specs.Simple.{app_of_fields}
use Rattle.clap.specs.Words.{App, app_of}
use Rattle.clap.specs.declared.builder.command.Command.TheViews.{out-Command}
use Rattle.meson_command.specs.Program.{bare_command}
use Rattle.meson_command.proofs.program.own_words.Goals as goal

abbrev needs : App → App
needs a = record a { top = record a.top { subcommand_required = true; disable_help_flag = true; disable_help_subcommand = true } }

pub returns : goal.returns
returns c =
    let bare_is : app_of c.disable_help_subcommand-bare.result ≡ bare_command (codes "meson_rewrite") =
    ap app_of_fields c.disable_help_subcommand-bare.ensures
    ∙ ap (λ f. app_of_fields (record f { disable_help_subcommand = true })) c.disable_help_flag.ensures
    ∙ ap (λ f. app_of_fields (record f { disable_help_flag = true; disable_help_subcommand = true })) c.subcommand_required.ensures
    ∙ ap needs c.described.ensures.0 in
    let has_none : (out-Command c.disable_help_subcommand-bare.result).has_globals ≡ false =
    ap (λ f. f.has_globals) c.disable_help_subcommand-bare.ensures ∙ ap (λ f. f.has_globals) c.disable_help_flag.ensures
    ∙ ap (λ f. f.has_globals) c.subcommand_required.ensures ∙ c.described.ensures.1 in
    let folders = c.with_option-program.ensures _ (c.with_short_option-program.ensures _ (bare_is, has_none)) in
    let title = c.with_option-program-2.ensures _ (c.with_hidden_flag-program.ensures _ (c.with_flag-program.ensures _ folders)) in
    let answers = c.with_flag-program-4.ensures _ (c.with_flag-program-3.ensures _ (c.with_flag-program-2.ensures _ title)) in
    let flags = c.with_flag-program-6.ensures _ (c.with_flag-program-5.ensures _ answers) in
    let verbose = c.with_short_flag-program.ensures _ (c.with_option-program-3.ensures _ flags) in
    IfOk-weaker c.with_version.result _ _ (λ r h. h.0) (c.with_version.ensures _ (c.with_help-program.ensures _ verbose))
