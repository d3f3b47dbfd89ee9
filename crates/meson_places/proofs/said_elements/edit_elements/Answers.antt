use Rattle.std.proofs.Common.{◌≡◌, ℕ, suc, ◌+◌, ◌-◌, ◌<◌, true, false, List, [], ◌∷◌, ◌++◌, append_assoc, drop, get_or, length, map, sym, ap, ◌∙◌, subst, arith}
use Rattle.std.specs.Prelude.{Bool, Option, Some, if◌then◌else◌}
use Rattle.std.proofs.lemmas.List.{append-nil, map-append}
use Rattle.meson_lex.specs.declared.kinds.Span.{Span}
use Rattle.meson_syntax.specs.declared.tree.Arg.{Arg}
use Rattle.meson_syntax.specs.Grammar.{argument_words}
use Rattle.meson_syntax.specs.Tree.{Argument, Expression, Nowhere}
use Rattle.meson_syntax.specs.View.{arg_view, args_view}
use Rattle.meson_edit.specs.Edits.{Written}
use Rattle.meson_calls.specs.declared.call.CallRef.{CallRef}
use Rattle.meson_calls.specs.Strings.{AreGood}
use Rattle.meson_calls.proofs.Nested.{good_arg}
use Rattle.meson_steps.specs.declared.step.ListStep.{ListStep}
use Rattle.meson_steps.specs.ListSteps.{bare}
use Rattle.meson_steps.specs.Steps.{Step, step_in}
use Rattle.meson_places.specs.SaidElements.{element_edit, passing_edited, says_one}
use Rattle.meson_places.proofs.ListElements.{rest_is}
use Rattle.meson_places.proofs.said_elements.edit_elements.Goals as goal

pub says_one-requires : goal.says_one-requires
says_one-requires c =
    let few = c.loop-left.invariant.few in
    let test = c.loop-left-test.true in
    let within : c.loop-left.left - 1 < length c.args.list.1.now = omega (arith, few, test) in
    subst (λ a. AreGood (argument_words (arg_view c.args.source.now a))) (sym c.index-elements-left.is)
    (good_arg c.args.source.now c.args.list.1.now (c.loop-left.left - 1) c.index-elements-left.result within c.requires)

one_more : (before now next : List ListStep) (done : List Step) (s : Step) (m : ListStep) → map Some now ≡ map Some before ++ map bare done → next ≡ now ++ m ∷ [] → bare s ≡ Some m
    → map Some next ≡ map Some before ++ map bare (done ++ s ∷ [])
one_more before now next done s m so_far is is_bare =
    ap (map Some) is ∙ map-append Some now (m ∷ []) ∙ ap (λ l. l ++ Some m ∷ []) so_far ∙ append_assoc (map Some before) (map bare done) (Some m ∷ [])
    ∙ ap (λ l. map Some before ++ l) (sym (map-append bare done (s ∷ []) ∙ ap (λ o. map bare done ++ o ∷ []) is_bare))

module _ (source : List ℕ) (place : CallRef) (w : Option (Written (Expression Nowhere))) (test : Argument Span → Bool) (xs : List Arg) (i left : ℕ) (d : Arg) (within : i < length xs) (next : suc i ≡ left) where
  abbrev own : Bool → List Step
  own b = if b then step_in place (element_edit place.path.steps w i) ∷ [] else []

  passing_here : (b : Bool) → test (arg_view source (get_or xs i d)) ≡ b → passing_edited place w test i (args_view source (drop i xs)) ≡ passing_edited place w test left (args_view source (drop left xs)) ++ own b
  passing_here b is =
      let same : i + 1 ≡ left = omega (arith, next) in
      let a = test (arg_view source (get_or xs i d)) in
      ap (passing_edited place w test i) (rest_is source xs i d within) ∙ ap (λ n. passing_edited place w test n (args_view source (drop (i + 1) xs)) ++ own a) next
      ∙ ap (λ n. passing_edited place w test left (args_view source (drop n xs)) ++ own a) same ∙ ap (λ c. passing_edited place w test left (args_view source (drop left xs)) ++ own c) is

pub loop-left-preserved-in-Continue-branch-3 : goal.loop-left-preserved-in-Continue-branch-3
loop-left-preserved-in-Continue-branch-3 c =
    let few = c.loop-left.invariant.few in
    let some = c.loop-left-test.true in
    record {
      few = omega (arith, few);
      rest = λ w same.
          let source = c.args.source.now in
          let place = c.args.list.0.now in
          let xs = c.args.list.1.now in
          let left = c.loop-left.left in
          let i = left - 1 in
          let d = c.index-elements-left.result in
          let test = says_one source c.args.said.values.now in
          let within : i < length xs = omega (arith, few, some) in
          let next : suc i ≡ left = omega (arith, some) in
          let here : test (arg_view source (get_or xs i d)) ≡ true = ap (λ a. test (arg_view source a)) (sym c.index-elements-left.is) ∙ sym c.in_ok-says_one.ensures ∙ c.if-branch.true in
          one_more c.args.steps.now.items c.loop-left.steps.items c.push_edit.new.steps.items (passing_edited place w test left (args_view source (drop left xs))) (step_in place (element_edit place.path.steps w i)) _
          (c.loop-left.invariant.rest w same) c.in_ok-push_edit.ensures (c.in_ok-edit.ensures.done place w same)
          ∙ ap (λ p. map Some c.args.steps.now.items ++ map bare p) (sym (passing_here source place w test xs i left d within next true here));
    }

pub loop-left-preserved : goal.loop-left-preserved
loop-left-preserved c =
    let few = c.loop-left.invariant.few in
    let some = c.loop-left-test.true in
    record {
      few = omega (arith, few);
      rest = λ w same.
          let source = c.args.source.now in
          let place = c.args.list.0.now in
          let xs = c.args.list.1.now in
          let left = c.loop-left.left in
          let i = left - 1 in
          let d = c.index-elements-left.result in
          let test = says_one source c.args.said.values.now in
          let within : i < length xs = omega (arith, few, some) in
          let next : suc i ≡ left = omega (arith, some) in
          let here : test (arg_view source (get_or xs i d)) ≡ false = ap (λ a. test (arg_view source a)) (sym c.index-elements-left.is) ∙ sym c.in_ok-says_one.ensures ∙ c.if-branch.false in
          c.loop-left.invariant.rest w same
          ∙ ap (λ p. map Some c.args.steps.now.items ++ map bare p)
          (sym (passing_here source place w test xs i left d within next false here ∙ append-nil (passing_edited place w test left (args_view source (drop left xs)))));
    }
