use Rattle.std.proofs.Common.{◌++◌, refl, sym, ap, ◌∙◌}
use Rattle.meson_syntax.specs.View.{arg_view, args_view}
use Rattle.meson_places.specs.Colons.{key_end, key_ends}
use Rattle.meson_places.proofs.Pushed.{pushed_all, pushed_more}
use Rattle.meson_places.proofs.colon.push_key_ends.Goals as goal

pub loop-i-preserved : goal.loop-i-preserved
loop-i-preserved c = λ source.
    let old = c.loop-i.ends.items in
    pushed_more (λ xs. key_ends (args_view source xs)) (λ a. key_end (arg_view source a)) (λ x xs. refl) c.args.elements.now c.loop-i.i c.index-elements-i.result c.loop-i-test.true old
    c.push_key_end.new.ends.items (c.in_ok-push_key_end.ensures source ∙ ap (λ a. old ++ key_end (arg_view source a)) c.index-elements-i.is)
    ∙ c.loop-i.invariant source

pub returns : goal.returns
returns c = λ source. sym (pushed_all (λ xs. key_ends (args_view source xs)) refl c.args.elements.now c.loop-i.i c.loop-i-test.false c.loop-i.ends.items) ∙ c.loop-i.invariant source
