use Rattle.std.proofs.Common.{ap, sym, ◌∙◌, map, string_bytes}
use Rattle.std.specs.Ordering.{nat_cmp}
use Rattle.std.specs.Cmp.Lexicographic.{slice_cmp, nat_list_cmp_total}
use Rattle.std.specs.FinMap.{get, find, get-from_entries}
use Rattle.meson_store.proofs.memory.Memory.get.Goals as goal

pub loop-written-init : goal.loop-written-init
loop-written-init c =
    ap (λ h. get h.files c.args.name.now) (sym c.self.view_is)
    ∙ get-from_entries nat_list_cmp_total _ _
    ∙ ap (λ l. find (slice_cmp nat_cmp) c.args.name.now (map (λ w. (string_bytes w.name, w.bytes.items)) l)) (sym c.into_iter-written-iterator.ensures.into_iter_gives.0)
