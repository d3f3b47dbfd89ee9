-- What the code's flows mean.
use Rattle.std.specs.Prelude.{[]}
use Rattle.meson_lex.specs.declared.kinds.Span.{Span}
use Rattle.meson_following.specs.declared.flows.Chosen as code_chosen
use Rattle.meson_following.specs.declared.flows.Flow as code
use Rattle.meson_following.specs.CodeMakers.{known_view}
use Rattle.meson_following.specs.Flows.{Choice, Flow}

-- without the expressions that are evaluated
abbrev pub flow_view : code.Flow → Flow Span
flow_view f =
    record { now = known_view f.now; turned = known_view f.turned; ended = known_view f.ended; leaves = f.leaves; arrivals = [] }

abbrev pub chosen_view : code_chosen.Chosen → Choice Span
chosen_view c = record { taken = flow_view c.taken; left = known_view c.left }
