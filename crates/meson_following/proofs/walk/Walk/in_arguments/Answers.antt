use Rattle.std.proofs.Common.{ℕ, List}
use Rattle.meson_lex.specs.declared.kinds.Span.{Span}
use Rattle.meson_syntax.specs.View.{expr_view, list_view}
use Rattle.meson_calls.specs.Calls.{Call}
use Rattle.meson_calls.specs.Project.{child}
use Rattle.meson_following.specs.CodeMakers.{known_view}
use Rattle.meson_following.specs.Effects.{calls_of_listing}
use Rattle.meson_following.specs.Walks.{here}
use Rattle.meson_following.proofs.Walked.{calls_walked, searched}
use Rattle.meson_following.proofs.walk.Walk.in_arguments.Goals as goal

pub returns : goal.returns
returns c =
    let w = c.args.self.now in
    let e = expr_view w.source.now c.args.call.now in
    let found : List ℕ → List (Call Span) = λ source. calls_of_listing (list_view source c.args.arguments.now) in
    calls_walked w c.args.trail.now c.arrive.new.trail c.in_ok-flow.flow (child (here w c.args.trail.now) 0) e (found w.source.now) (known_view c.args.now) c.in_ok-sets.sets c.in_ok-leaves.leaves
    c.in_ok-arrive.ensures.back c.in_ok-arrive.ensures.found
    (searched w found c.search.result c.search.ensures.deed c.search.ensures.variable c.search.ensures.source c.in_ok-sets.ensures)
    (searched w found c.search-2.result c.search-2.ensures.deed c.search-2.ensures.variable c.search-2.ensures.source c.in_ok-leaves.ensures)
    c.in_ok-flow.ensures
