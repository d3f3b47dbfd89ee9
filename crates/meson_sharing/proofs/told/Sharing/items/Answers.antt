use Rattle.std.proofs.Common.{append_assoc, [], ◌∷◌, ◌++◌, map, ap, sym, ◌∙◌}
use Rattle.std.specs.List.{cons_option}
use Rattle.std.specs.Vec.Iter.{into_iter_items}
use Rattle.std.proofs.lemmas.List.{map-append}
use Rattle.std.proofs.lemmas.List.Elements.{filter_map-append}
use Rattle.meson_following.specs.CodeFollowing.{mark_view}
use Rattle.meson_sharing.specs.CodeTold.{items_with, mark_with}
use Rattle.meson_sharing.proofs.told.Sharing.items.Goals as goal

pub loop-mark-preserved : goal.loop-mark-preserved
loop-mark-preserved c =
    let s = c.args.self.now in
    let before = c.loop-mark.yielded in
    let mark = mark_view c.in-Some.mark in
    record {
      joined =
          c.loop-mark.invariant.joined ∙ ap (λ xs. before ++ xs) c.in-Some.ensures.steps.0 ∙ sym (append_assoc before (c.in-Some.mark ∷ []) (into_iter_items c.next.new.self));
      told =
          c.in_ok-take_mark.ensures.all
          ∙ ap (λ xs. xs ++ cons_option (mark_with s mark) []) c.loop-mark.invariant.told
          ∙ sym (ap (items_with s) (map-append mark_view before (c.in-Some.mark ∷ [])) ∙ filter_map-append (mark_with s) (map mark_view before) (mark ∷ []));
      kept = c.in_ok-take_mark.ensures.kept;
    }
