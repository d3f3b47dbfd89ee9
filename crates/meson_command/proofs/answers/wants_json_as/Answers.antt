use Rattle.std.proofs.Common.{◌≡◌, ◌∙◌, map, [], List}
use Rattle.clap.specs.Words.{Text, kind_of, matches_of}
use Rattle.clap.specs.Kinds.{HasKind}
use Rattle.meson_command.specs.Asking.{is_json_answer}
use Rattle.meson_command.specs.Program.{program}
use Rattle.meson_command.proofs.Json.{unwanted, wanted}
use Rattle.meson_command.proofs.Taken.{kinds_at}
use Rattle.meson_command.proofs.answers.wants_json_as.Goals as goal

pub returns-in-Ok : goal.returns-in-Ok
returns-in-Ok c =
    let ws : List Text = map (λ w. w.now) c.args.words.now in
    let none = kinds_at _ ws (λ ks. ks ≡ []) c.in_ok-command.ensures c.in-Ok.ensures.kinds in
    wanted _ ws c.in-Ok.matches _ c.in_ok-command.ensures c.in-Ok.ensures.matches none c.is_set.ensures

pub returns : goal.returns
returns c =
    let ws : List Text = map (λ w. w.now) c.args.words.now in
    let has = kinds_at _ ws (λ ks. HasKind ks c.in-Err.error) c.in_ok-command.ensures c.in-Err.ensures.kinds in
    unwanted _ (kind_of c.in-Err.error) (is_json_answer (matches_of program ws)) (λ e. c.in_default.not-OutOfMemory (c.kind.ensures ∙ e)) has
