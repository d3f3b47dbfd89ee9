-- The test of all texts.
use Rattle.meson_keywords.proofs.Words.{◌≡◌, ◌<◌, ◌≤◌, List, ℕ, length, get_or, map, refl, sym, ap, ◌∙◌, subst, arith, All, IsUtf8, get_or-map, length-map}
use Rattle.meson_keywords.proofs.Words.{take_all, All-nil, all_more}
use Rattle.meson_keywords.proofs.ElementTests.{all_known, next_known, one_unfit}
use Rattle.meson_keywords.proofs.WrittenElements.{elements_are}
use Rattle.meson_keywords.proofs.value_kinds.are_elements.Goals as goal

pub loop-i-init : goal.loop-i-init
loop-i-init c = record { known = refl; utf8 = All-nil IsUtf8 }

pub returns-then-not-is_element-clause-known : goal.returns-then-not-is_element-clause-known
returns-then-not-is_element-clause-known c =
    let i = c.loop-i.i in
    let ts : List (List ℕ) = map (λ x. x.now) c.args.texts.now in
    let t = c.index-texts-i.result.now in
    let test = c.loop-i-test.true in
    let within : i < length ts = omega (arith, length-map c.args.texts.now (λ x. x.now), test) in
    let read : get_or ts i t ≡ t = get_or-map (λ x. x.now) c.args.texts.now i c.index-texts-i.result t test ∙ ap (λ r. r.now) (sym c.index-texts-i.is) in
    one_unfit c.args.kind ts i c.loop-i.invariant.known t within read (sym c.if-not-is_element.true ∙ c.is_element.ensures.known)

pub loop-i-preserved : goal.loop-i-preserved
loop-i-preserved c =
    let i = c.loop-i.i in
    let ts : List (List ℕ) = map (λ x. x.now) c.args.texts.now in
    let t = c.index-texts-i.result.now in
    let test = c.loop-i-test.true in
    let within : i < length ts = omega (arith, length-map c.args.texts.now (λ x. x.now), test) in
    let read : get_or ts i t ≡ t = get_or-map (λ x. x.now) c.args.texts.now i c.index-texts-i.result t test ∙ ap (λ r. r.now) (sym c.index-texts-i.is) in
    record {
      known = next_known c.args.kind ts i c.loop-i.invariant.known t within read (sym c.if-not-is_element.false ∙ c.is_element.ensures.known);
      utf8 = all_more IsUtf8 ts i t within c.loop-i.invariant.utf8 (subst IsUtf8 (sym read) c.is_element.ensures.utf8);
    }

pub returns-clause-known : goal.returns-clause-known
returns-clause-known c =
    let ts : List (List ℕ) = map (λ x. x.now) c.args.texts.now in
    let past : length ts ≤ c.loop-i.i = omega (arith, c.loop-i-test.false, length-map c.args.texts.now (λ x. x.now)) in
    sym (all_known c.args.kind ts c.loop-i.i c.loop-i.invariant.known past)

pub returns-clause-good : goal.returns-clause-good
returns-clause-good c = λ yes.
    let ts : List (List ℕ) = map (λ x. x.now) c.args.texts.now in
    let past : length ts ≤ c.loop-i.i = omega (arith, c.loop-i-test.false, length-map c.args.texts.now (λ x. x.now)) in
    elements_are c.args.kind ts (all_known c.args.kind ts c.loop-i.i c.loop-i.invariant.known past) (subst (All IsUtf8) (take_all c.loop-i.i ts past) c.loop-i.invariant.utf8)
