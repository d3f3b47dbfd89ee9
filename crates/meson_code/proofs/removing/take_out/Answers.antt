use Rattle.std.proofs.Common.{[], ◌∷◌, ◌++◌, sym, ap, ◌∙◌, subst}
use Rattle.meson_calls.specs.Loading.{AreParsed, project}
use Rattle.meson_steps.specs.ListSteps.{AreBare}
use Rattle.meson_steps.specs.Working.{so_far}
use Rattle.meson_targets.specs.inside.TargetViews.{place_view}
use Rattle.meson_code.specs.AnchorLaws.{IsStatementAt}
use Rattle.meson_code.specs.Removal.{removal_step}
use Rattle.meson_code.specs.Unused.{names_read}
use Rattle.meson_code.proofs.RemovalsDone.{next_removed, next_under_way, removed_project}
use Rattle.meson_code.proofs.removing.take_out.Goals as goal

pub names_read-requires : goal.names_read-requires
names_read-requires c =
    let n = c.requires in
    subst (λ l. AreParsed l.files l.parsed) (sym c.sources_of-sources.ensures) (removed_project n.old n.before c.args.work.now n.so_far).parsed

pub removal_step-requires : goal.removal_step-requires
removal_step-requires c =
    let n = c.requires in
    record {
      project = subst (λ l. AreParsed l.files l.parsed) (sym c.sources_of-sources.ensures) (removed_project n.old n.before c.args.work.now n.so_far).parsed;
      there = subst (λ l. IsStatementAt l (place_view c.args.statement)) (sym c.sources_of-sources.ensures) n.there;
    }

pub do_steps-requires : goal.do_steps-requires
do_steps-requires c =
    let n = c.requires in
    let a = place_view c.args.statement in
    let code = c.in_ok-steps.steps.items in
    let bare = subst (λ l. AreBare (removal_step (project l) a ∷ []) code) c.sources_of-sources.ensures c.in_ok-steps.ensures.bare in
    (n.old, n.before ++ removal_step (project (so_far c.args.work.now)) a ∷ [], next_under_way n.old n.before c.args.work.now n.so_far a n.there code bare)

pub returns-clause-names : goal.returns-clause-names
returns-clause-names c =
    c.in_ok-append.ensures ∙ ap (λ ns. c.args.names.now.items ++ ns) (c.in_ok-read.ensures ∙ ap (λ l. names_read (project l) (place_view c.args.statement)) c.sources_of-sources.ensures)

pub returns-clause-done : goal.returns-clause-done
returns-clause-done c = λ old before h.
    let n = c.requires in
    let w = c.args.work.now in
    let a = place_view c.args.statement in
    let code = c.in_ok-steps.steps.items in
    let bare = subst (λ l. AreBare (removal_step (project l) a ∷ []) code) c.sources_of-sources.ensures c.in_ok-steps.ensures.bare in
    next_removed old before w h a n.there c.do_steps.new.self
    (c.in_ok-do_steps.ensures.done old (before ++ removal_step (project (so_far w)) a ∷ []) (next_under_way old before w h a n.there code bare))
