use Rattle.meson_calls.proofs.Words.{filter_map, ◌≡◌, ◌++◌, take, taken_view, kept_note}
use Rattle.meson_calls.proofs.notes.with_assignments.Given as goal

abbrev pub invariant-loop-i : goal.invariant-loop-i
invariant-loop-i l = taken_view l.taken ≡ taken_view l.initial.taken ++ filter_map (kept_note l.names l.file l.source l.parsed) (take l.i l.assignments)
