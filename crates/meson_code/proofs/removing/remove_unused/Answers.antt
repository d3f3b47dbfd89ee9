use Rattle.std.proofs.Common.{sym, ap, ap₂, ◌∙◌, subst, arith}
use Rattle.std.specs.Prelude.{option_map}
use Rattle.meson_calls.specs.Loading.{IsProject, project}
use Rattle.meson_steps.specs.ResultLimits.{plain_trees}
use Rattle.meson_steps.specs.Working.{so_far}
use Rattle.meson_targets.specs.inside.TargetViews.{place_view}
use Rattle.meson_code.specs.Unused.{next_unused}
use Rattle.meson_code.proofs.RemovalsDone.{removed_project}
use Rattle.meson_code.proofs.Turns.{no_more, turn_there, turns_first, turns_last, turns_more}
use Rattle.meson_code.proofs.removing.remove_unused.Goals as goal

pub loop-turn-init : goal.loop-turn-init
loop-turn-init c = record {
  left = λ old before h. turns_first c.args.files.now c.args.turns c.args.names.items old before c.args.work.now h;
  restores = λ first r. r;
}

pub next_unused-requires : goal.next_unused-requires
next_unused-requires c =
    let t = c.loop-turn.invariant.left c.requires.0 c.requires.1 c.requires.2 in
    subst IsProject (sym c.sources_of-sources.ensures) (removed_project c.requires.0 _ c.loop-turn.work t.removed)

pub returns-in_err-statement-clause-restores : goal.returns-in_err-statement-clause-restores
returns-in_err-statement-clause-restores c = λ first r. c.loop-turn.invariant.restores first r

pub take_out-requires : goal.take_out-requires
take_out-requires c =
    let w = c.loop-turn.work in
    let t = c.loop-turn.invariant.left c.requires.0 c.requires.1 c.requires.2 in
    let e =
    ap (option_map place_view) (sym c.in-Some.is) ∙ c.in_ok-statement.ensures
    ∙ ap₂ (λ l ns. next_unused c.args.files.now (project l) ns) c.sources_of-sources.ensures c.as_slice.ensures.value in
    turn_there c.args.files.now c.args.turns c.args.names.items (plain_trees (so_far c.args.work.now)) c.requires.0 c.requires.1 c.loop-turn._turn c.loop-turn.sought.items w t (place_view c.in-Some.statement) (sym e)

pub loop-turn-preserved : goal.loop-turn-preserved
loop-turn-preserved c = record {
  left = λ old before h.
      let w = c.loop-turn.work in
      let t = c.loop-turn.invariant.left old before h in
      let e =
      ap (option_map place_view) (sym c.in-Some.is) ∙ c.in_ok-statement.ensures
      ∙ ap₂ (λ l ns. next_unused c.args.files.now (project l) ns) c.sources_of-sources.ensures c.as_slice.ensures.value in
      turns_more c.args.files.now c.args.turns c.args.names.items (plain_trees (so_far c.args.work.now)) old before c.loop-turn._turn c.loop-turn.sought.items w t c.loop-turn-test.true
      (place_view c.in-Some.statement) e c.take_out.new.work c.take_out.new.names.items c.in_ok-take_out-in-Some.ensures.names c.in_ok-take_out-in-Some.ensures.done;
  restores = λ first r. c.in_ok-take_out-in-Some.ensures.restores first (c.loop-turn.invariant.restores first r);
}

pub returns-in_err-take_out-in-Some-clause-restores : goal.returns-in_err-take_out-in-Some-clause-restores
returns-in_err-take_out-in-Some-clause-restores c = λ first r. c.in_err-take_out-in-Some.ensures.restores first (c.loop-turn.invariant.restores first r)

pub returns-in-None-clause-done : goal.returns-in-None-clause-done
returns-in-None-clause-done c = λ old before h.
    let w = c.loop-turn.work in
    let t = c.loop-turn.invariant.left old before h in
    let e =
    ap (option_map place_view) (sym c.in-None.is) ∙ c.in_ok-statement.ensures
    ∙ ap₂ (λ l ns. next_unused c.args.files.now (project l) ns) c.sources_of-sources.ensures c.as_slice.ensures.value in
    no_more c.args.files.now c.args.turns c.args.names.items (plain_trees (so_far c.args.work.now)) old before c.loop-turn._turn c.loop-turn.sought.items w t c.loop-turn-test.true e

pub returns-in-None-clause-restores : goal.returns-in-None-clause-restores
returns-in-None-clause-restores c = λ first r. c.loop-turn.invariant.restores first r

pub returns-clause-done : goal.returns-clause-done
returns-clause-done c = λ old before h.
    let t = c.loop-turn.invariant.left old before h in
    turns_last c.args.files.now c.args.turns c.args.names.items (plain_trees (so_far c.args.work.now)) old before c.loop-turn._turn c.loop-turn.sought.items c.loop-turn.work t (omega (arith, c.loop-turn-test.false))

pub returns-clause-restores : goal.returns-clause-restores
returns-clause-restores c = λ first r. c.loop-turn.invariant.restores first r
