use Rattle.std.proofs.Common.{rules, ◌≡◌, ◌-◌, length, take, drop, get_or, Some, sym, ap, ◌∙◌}
use Rattle.std.specs.Prelude.{Ok, Err}
use Rattle.meson_syntax.specs.View.{expr_view}
use Rattle.meson_calls.specs.Project.{child}
use Rattle.meson_calls.specs.declared.refusal.Refusal.TheVariants.{NoSuchValue}
use Rattle.meson_places.specs.declared.slots.Slot.TheVariants as slot
use Rattle.meson_places.specs.Slots.{nth_child, number_in, slot_in}
use Rattle.meson_places.specs.inside.Wanted.{child_view}
use Rattle.meson_places.proofs.Refused.{refused_as, first_key, found_as}
use Rattle.meson_places.proofs.SlotSteps.{step_gone, step_in}
use Rattle.meson_places.proofs.slots.+slot_in.Goals as goal

pub slot_in-requires : goal.slot_in-requires
slot_in-requires t c = (search rules, c.in-Some-nth_child.ensures.good c.args.source.now (c.elements_in.ensures.good c.args.source.now c.requires))

pub returns-in-Some-nth_child-clause-found : goal.returns-in-Some-nth_child-clause-found
returns-in-Some-nth_child-clause-found t c =
    let source = c.args.source.now in
    let r = c.args.reached in
    let e = expr_view source r.value.now in
    let keys = c.args.keys.now in
    let key = get_or keys 0 c.key-item.result in
    let rest = take (length keys - 1) (drop 1 keys) in
    let n = c.in-Some.number in
    let found = child_view source c.in-Some-nth_child.child in
    let there : number_in key e ≡ Ok (Some n) = ap (λ k. number_in k e) (sym c.key-item.is) ∙ c.in_ok-number-in-len1-up.ensures.found ∙ ap Ok c.in-Some.is in
    let value = sym (c.in-Some-nth_child.ensures.child source ∙ ap (λ xs. nth_child 0 xs n) (c.elements_in.ensures.elements source)) in
    let inner = c.in_ok-inner-in-Some-nth_child.ensures ∙ ap (λ q. child q found.number) c.as_place.ensures in
    found_as c.slot_in.result (slot_in r.place e r.slot keys) (slot_in c.in_ok-inner-in-Some-nth_child.inner found.value (slot.Element r.place n) rest)
    (ap (slot_in r.place e r.slot) (first_key keys c.key-item.result c.in-len1-up.len_at_least) ∙ step_in r.place e r.slot key rest n found there value
    ∙ sym (ap (λ q. slot_in q found.value (slot.Element r.place n) rest) inner))
    c.slot_in.ensures.found

pub returns-in-Some-nth_child-clause-refused : goal.returns-in-Some-nth_child-clause-refused
returns-in-Some-nth_child-clause-refused t c =
    let source = c.args.source.now in
    let r = c.args.reached in
    let e = expr_view source r.value.now in
    let keys = c.args.keys.now in
    let key = get_or keys 0 c.key-item.result in
    let rest = take (length keys - 1) (drop 1 keys) in
    let n = c.in-Some.number in
    let found = child_view source c.in-Some-nth_child.child in
    let there : number_in key e ≡ Ok (Some n) = ap (λ k. number_in k e) (sym c.key-item.is) ∙ c.in_ok-number-in-len1-up.ensures.found ∙ ap Ok c.in-Some.is in
    let value = sym (c.in-Some-nth_child.ensures.child source ∙ ap (λ xs. nth_child 0 xs n) (c.elements_in.ensures.elements source)) in
    let inner = c.in_ok-inner-in-Some-nth_child.ensures ∙ ap (λ q. child q found.number) c.as_place.ensures in
    refused_as c.slot_in.result (slot_in r.place e r.slot keys) (slot_in c.in_ok-inner-in-Some-nth_child.inner found.value (slot.Element r.place n) rest)
    (ap (slot_in r.place e r.slot) (first_key keys c.key-item.result c.in-len1-up.len_at_least) ∙ step_in r.place e r.slot key rest n found there value
    ∙ sym (ap (λ q. slot_in q found.value (slot.Element r.place n) rest) inner))
    c.slot_in.ensures.refused

pub returns-in-Some-clause-refused : goal.returns-in-Some-clause-refused
returns-in-Some-clause-refused t c = λ other.
    let source = c.args.source.now in
    let r = c.args.reached in
    let e = expr_view source r.value.now in
    let keys = c.args.keys.now in
    let key = get_or keys 0 c.key-item.result in
    let rest = take (length keys - 1) (drop 1 keys) in
    let n = c.in-Some.number in
    let there : number_in key e ≡ Ok (Some n) = ap (λ k. number_in k e) (sym c.key-item.is) ∙ c.in_ok-number-in-len1-up.ensures.found ∙ ap Ok c.in-Some.is in
    let gone = sym (c.in-None-nth_child.ensures.child source ∙ ap (λ xs. nth_child 0 xs n) (c.elements_in.ensures.elements source)) in
    ap (slot_in r.place e r.slot) (first_key keys c.key-item.result c.in-len1-up.len_at_least) ∙ step_gone r.place e r.slot key rest n there gone
    ∙ ap (λ k. Err (NoSuchValue k)) (sym (c.in_ok-clone-in-None-nth_child.ensures.cases ∙ c.key-item.is))
