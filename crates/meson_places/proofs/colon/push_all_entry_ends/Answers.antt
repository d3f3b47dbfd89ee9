use Rattle.std.proofs.Common.{◌++◌, refl, sym, ap, ◌∙◌}
use Rattle.std.specs.Prelude.{flat_map}
use Rattle.meson_syntax.specs.View.{view}
use Rattle.meson_places.specs.Colons.{entry_ends}
use Rattle.meson_places.proofs.Pushed.{pushed_all, pushed_more}
use Rattle.meson_places.proofs.colon.push_all_entry_ends.Goals as goal

pub loop-i-preserved : goal.loop-i-preserved
loop-i-preserved c = λ source.
    let tree = view source c.args.parsed.now in
    let old = c.loop-i.ends.items in
    pushed_more (flat_map (entry_ends tree)) (entry_ends tree) (λ x xs. refl) c.args.lists.now c.loop-i.i c.index-lists-i.result c.loop-i-test.true old
    c.push_entry_ends.new.ends.items (c.in_ok-push_entry_ends.ensures source ∙ ap (λ x. old ++ entry_ends tree x) c.index-lists-i.is)
    ∙ c.loop-i.invariant source

pub returns : goal.returns
returns c = λ source. sym (pushed_all (flat_map (entry_ends (view source c.args.parsed.now))) refl c.args.lists.now c.loop-i.i c.loop-i-test.false c.loop-i.ends.items) ∙ c.loop-i.invariant source
