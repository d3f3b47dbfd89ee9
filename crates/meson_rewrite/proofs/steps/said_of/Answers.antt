use Rattle.std.proofs.Common.{◌∙◌, ap, subst, sym}
use Rattle.std.specs.List.{All}
use Rattle.std.specs.Prelude.{IfOk}
use Rattle.meson_script.proofs.RunFacts.{names}
use Rattle.meson_rewrite.proofs.PlainObjects.{IsText, project-text}
use Rattle.meson_rewrite.specs.Objects.{SaysObject}
use Rattle.meson_rewrite.proofs.steps.said_of.Goals as goal

pub object-requires : goal.object-requires
object-requires c = record {
  same_files = c.requires.same_files ∙ ap names (sym c.files.ensures);
  old_text = c.requires.old_text;
  new_text = subst (All IsText) (sym c.files.ensures) (project-text c.args.session.now.project c.reads.ensures);
  listed = c.requires.listed;
}

pub returns-then-json : goal.returns-then-json
returns-then-json c =
    rw (c.if-json.true) (subst (λ fs. IfOk c.object.result (SaysObject c.args.step.now c.args.old.now fs c.args.report)) c.files.ensures c.object.ensures)

pub returns : goal.returns
returns c = rw (c.if-json.false) c.of.ensures
