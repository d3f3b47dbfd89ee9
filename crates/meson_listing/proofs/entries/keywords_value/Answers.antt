use Rattle.std.proofs.Common.{ℕ, List, ◌∷◌, [], ◌++◌, sym, ap, ◌∙◌, append_assoc}
use Rattle.std.specs.Vec.Iter.{into_iter_items}
use Rattle.serde_json.specs.Data.{no_members, put}
use Rattle.meson_details.specs.declared.details.Shown.{Shown}
use Rattle.meson_listing.specs.Entries.{shown_data}
use Rattle.meson_listing.proofs.Puts.{put_one_more}
use Rattle.meson_listing.proofs.entries.keywords_value.Goals as goal

pub loop-key-preserved : goal.loop-key-preserved
loop-key-preserved c =
    let pair : List ℕ × Shown = (c.in-Some.key, c.in-Some.shown) in
    let before = c.loop-key.yielded in
    record {
      joined = c.loop-key.invariant.joined ∙ ap (λ xs. before ++ xs) c.in-Some.ensures.steps.0 ∙ sym (append_assoc before (pair ∷ []) (into_iter_items c.next.new.self));
      put = c.in_ok-put_keyword.ensures ∙ ap (put pair.0 (shown_data pair.1)) c.loop-key.invariant.put ∙ sym (put_one_more no_members before pair);
    }
