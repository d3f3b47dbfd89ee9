use Rattle.std.proofs.Common.{◌≡◌, ◌++◌, drop}
use Rattle.std.specs.Prelude.{flat_map}
use Rattle.meson_warnings.specs.SharedLists.{sharer_notes}
use Rattle.meson_warnings.proofs.shared_lists.all_sharers.Given as goal

abbrev pub invariant-loop-call : goal.invariant-loop-call
invariant-loop-call l =
    let notes = sharer_notes l.shared.named.now l.shared.reads.now in
    l.notes.items ++ flat_map notes (drop l.call-index l.calls) ≡ flat_map notes l.calls
