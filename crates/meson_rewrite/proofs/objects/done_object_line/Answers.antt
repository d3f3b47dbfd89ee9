use Rattle.std.proofs.Common.{◌∙◌, ap}
use Rattle.std.proofs.lemmas.Result.{IfOk-weaker}
use Rattle.serde_json.specs.Written.{compact_text, has_float}
use Rattle.meson_rewrite.proofs.PlainObjects.{changes-plain}
use Rattle.meson_rewrite.specs.Lines.{line}
use Rattle.meson_rewrite.specs.Objects.{done_members}
use Rattle.meson_rewrite.proofs.objects.done_object_line.Goals as goal

pub done_line-requires : goal.done_line-requires
done_line-requires c =
    let changes = c.in_ok-changes.ensures in
    ap has_float changes.2 ∙ changes-plain changes.0

pub returns : goal.returns
returns c =
    let changes = c.in_ok-changes.ensures in
    let listed = c.requires.listed in
    IfOk-weaker c.done_line.result _ _
    (λ text makes. (changes.0, changes.1, listed.0, listed.1, makes listed.0 listed.1 ∙ ap (λ d. line (compact_text (done_members d listed.0 c.args.report))) changes.2)) c.done_line.ensures
