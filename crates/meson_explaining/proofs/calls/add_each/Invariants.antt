use Rattle.std.proofs.Common.{◌≡◌, ◌++◌, drop, map}
use Rattle.meson_explaining.specs.Notes.{call_note}
use Rattle.meson_explaining.proofs.calls.add_each.Given as goal

abbrev pub invariant-loop-call : goal.invariant-loop-call
invariant-loop-call l = l.notes.items ++ map (call_note l.more) (drop l.call-index l.calls) ≡ l.initial.notes.items ++ map (call_note l.more) l.calls
