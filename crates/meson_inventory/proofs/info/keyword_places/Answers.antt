use Rattle.std.proofs.Common.{◌+◌, ◌++◌, drop, sym, ap, ◌∙◌, subst}
use Rattle.std.specs.List.{filter_map}
use Rattle.meson_syntax.specs.Grammar.{argument_words}
use Rattle.meson_syntax.specs.View.{arg_view, args_view}
use Rattle.meson_calls.specs.Strings.{AreGood}
use Rattle.meson_calls.proofs.Nested.{good_arg}
use Rattle.meson_inventory.proofs.KeywordsPlaced.{kept_more, kept_none}
use Rattle.meson_inventory.specs.Info.{keyword_place}
use Rattle.meson_inventory.proofs.info.keyword_places.Goals as goal
use Rattle.meson_inventory.proofs.info.keyword_places.Goals.{in-Some+in_ok-push, in_default}

pub keyword_place-requires : goal.keyword_place-requires
keyword_place-requires c =
    subst (λ a. AreGood (argument_words (arg_view c.args.source.now a))) (sym c.index-args-i.is)
    (good_arg c.args.source.now c.args.args.now c.loop-i.i c.index-args-i.result c.loop-i-test.true c.requires)

pub loop-i-preserved : goal.loop-i-preserved
loop-i-preserved c =
    let source = c.args.source.now in
    let args = c.args.args.now in
    let i = c.loop-i.i in
    let d = c.index-args-i.result in
    let all = c.loop-i.places.items in
    let rest = filter_map (keyword_place c.args.role) (args_view source (drop (i + 1) args)) in
    let here = ap (λ a. keyword_place c.args.role (arg_view source a)) (sym c.index-args-i.is) ∙ sym c.in_ok-place.ensures in
    elim c.match-branch-2.branch [
      | in-Some+in_ok-push w ↦
          ap (λ v. v.items ++ rest) w.places-is ∙ ap (λ ps. ps ++ rest) w.in_ok-push.ensures.items
          ∙ kept_more (keyword_place c.args.role) source args i d c.loop-i-test.true all w.in-Some.place (here ∙ w.in-Some.is) ∙ c.loop-i.invariant
      | in_default w ↦
          ap (λ v. v.items ++ rest) w.places-is ∙ kept_none (keyword_place c.args.role) source args i d c.loop-i-test.true all (here ∙ w.in_default.is) ∙ c.loop-i.invariant
    ]
