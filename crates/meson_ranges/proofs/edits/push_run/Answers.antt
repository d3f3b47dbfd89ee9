use Rattle.std.proofs.Common.{sym, ◌∙◌}
use Rattle.meson_ranges.proofs.Runs.{none_added, one_added}
use Rattle.meson_ranges.proofs.edits.push_run.Goals as goal

pub returns-in_ok-push : goal.returns-in_ok-push
returns-in_ok-push c =
    let run = c.args.run in
    one_added c.args.old.now c.args.new.now run.old_at run.removed run.new_at run.added c.trimmed.result c.args.edits.now.items
    c.push.new.self.items (sym c.ne.ensures ∙ c.if-ne.true) c.trimmed.ensures c.in_ok-push.ensures.items

pub returns-else-ne : goal.returns-else-ne
returns-else-ne c =
    let run = c.args.run in
    none_added c.args.old.now c.args.new.now run.old_at run.removed run.new_at run.added c.args.edits.now.items (sym c.ne.ensures ∙ c.if-ne.false)
