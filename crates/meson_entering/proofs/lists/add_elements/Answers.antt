use Rattle.std.proofs.Common.{rules, ◌≡◌, None, ◌++◌, ap, sym, subst, ◌∙◌, map, string_bytes}
use Rattle.std.specs.Prelude.{option_map}
use Rattle.std.specs.List.{flat_map}
use Rattle.meson_syntax.specs.Grammar.{argument_words}
use Rattle.meson_syntax.specs.View.{arg_view}
use Rattle.meson_calls.specs.GoodLists.{GoodArgs}
use Rattle.meson_calls.specs.Strings.{AreGood}
use Rattle.meson_calls.proofs.Nested.{good_arg, good_args}
use Rattle.meson_entering.specs.Lists.{element_text}
use Rattle.meson_entering.proofs.Sums.{list_texts, text_of}
use Rattle.meson_entering.proofs.Turns.{ended, next, with_none, with_one}
use Rattle.meson_entering.proofs.lists.add_elements.Goals as goal
use Rattle.meson_entering.proofs.lists.add_elements.Goals.{in-Some+in_ok-push, in_default}

pub element_text-requires : goal.element_text-requires
element_text-requires c =
    let source = c.args.source.now in
    let good = subst (GoodArgs source) (sym c.get-args.ensures) (good_args source c.args.list.now c.requires) in
    subst (λ a. AreGood (argument_words (arg_view source a))) (sym c.index-args-i.is) (good_arg source c.get-args.result.now c.loop-i.i c.index-args-i.result c.loop-i-test.true good)

pub loop-i-preserved : goal.loop-i-preserved
loop-i-preserved c =
    let source = c.args.source.now in
    let text = ap (λ a. element_text (arg_view source a)) (sym c.index-args-i.is) ∙ sym c.in_ok-text.ensures in
    let turn = next (text_of source) c.get-args.result.now c.loop-i.i c.index-args-i.result in
    elim c.match-branch-2.branch [
      | in-Some+in_ok-push w ↦
          turn _ _ _ c.loop-i-test.true (with_one string_bytes _ _ _ w.in-Some.text (text ∙ ap (option_map string_bytes) w.in-Some.is) (ap (λ v. v.items) w.texts-is ∙ w.in_ok-push.ensures.items)) c.loop-i.invariant
      | in_default w ↦
          let none : c.in_ok-text.field-0 ≡ None = search rules in
          turn _ _ _ c.loop-i-test.true (with_none string_bytes _ _ _ (text ∙ ap (option_map string_bytes) none) (ap (λ v. v.items) w.texts-is)) c.loop-i.invariant
    ]

pub returns : goal.returns
returns c =
    let source = c.args.source.now in
    ended (text_of source) c.get-args.result.now c.loop-i.i _ _ c.loop-i-test.false c.loop-i.invariant
    ∙ ap (λ args. map string_bytes c.args.texts.now.items ++ flat_map (text_of source) args) c.get-args.ensures
    ∙ sym (ap (λ ts. map string_bytes c.args.texts.now.items ++ ts) (list_texts source c.args.list.now))
