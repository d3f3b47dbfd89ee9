use Rattle.std.proofs.Common.{◌≡◌, ◌∙◌, map, [], List}
use Rattle.std.proofs.lemmas.Result.{IfOk-weaker}
use Rattle.clap.specs.Words.{Text, kind_of, matches_of, subcommand_of}
use Rattle.clap.specs.Kinds.{HasKind}
use Rattle.meson_command.specs.Input.{lacks_code}
use Rattle.meson_command.specs.Program.{program}
use Rattle.meson_command.proofs.ReadCode.{taken, untaken}
use Rattle.meson_command.proofs.Taken.{kinds_at}
use Rattle.meson_command.proofs.input.reads_code_as.Goals as goal

pub returns-in-Ok : goal.returns-in-Ok
returns-in-Ok c =
    let ws : List Text = map (λ w. w.now) c.args.words.now in
    let none = kinds_at _ ws (λ ks. ks ≡ []) c.in_ok-command.ensures c.in-Ok.ensures.kinds in
    IfOk-weaker c.lacks_code.result _ _ (λ b is. taken _ ws c.in-Ok.matches b c.in_ok-command.ensures c.in-Ok.ensures.matches none is) c.lacks_code.ensures

pub returns : goal.returns
returns c =
    let ws : List Text = map (λ w. w.now) c.args.words.now in
    let has = kinds_at _ ws (λ ks. HasKind ks c.in-Err.error) c.in_ok-command.ensures c.in-Err.ensures.kinds in
    untaken _ (kind_of c.in-Err.error) (lacks_code (matches_of program ws) (subcommand_of program ws)) (λ e. c.in_default.not-OutOfMemory (c.kind.ensures ∙ e)) has
