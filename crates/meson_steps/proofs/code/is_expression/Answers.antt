use Rattle.meson_steps.proofs.Words.{◌≡◌, ◌∷◌, ◌++◌, [], false, sym, ap, ◌∙◌, subst, IsItemList, ReadsListWithin, plain, no_arguments, argument, listing}
use Rattle.meson_steps.proofs.Words.{erase_listing, list_view, is_bare, is_lone}
use Rattle.std.proofs.lemmas.Result.{IfOk-weaker}
use Rattle.meson_syntax.specs.declared.operator.Bracket.TheVariants as bracket
use Rattle.meson_steps.proofs.Bracketed.{bare, complete, lone_erased, sound}
use Rattle.meson_steps.proofs.code.is_expression.Goals as goal

pub returns-then-not-is_bare-clause-no : goal.returns-then-not-is_bare-clause-no
returns-then-not-is_bare-clause-no c = λ x.
    let xs = x.writes.items in
    let n = x.writes.is_new in
    let list = subst (λ b. IsItemList b xs) (sym c.as_bytes.ensures.value) n.are_items in
    sym c.if-not-is_bare.true ∙ c.is_bare.ensures ∙ ap is_bare (c.as_slice.ensures.value ∙ c.in_ok-kinds.ensures xs list) ∙ bare xs n.tight n.no_remarks

pub returns-in-Ok-clause-yes : goal.returns-in-Ok-clause-yes
returns-in-Ok-clause-yes c = λ h.
    let text = c.args.text.now in
    let source = c.as_bytes-bytes.result.now in
    let whole : source ≡ 91 ∷ (text ++ 93 ∷ []) = c.as_bytes-bytes.ensures.value ∙ c.as_str.ensures.value ∙ c.in_ok-whole.ensures in
    let l = erase_listing (list_view source c.in-Ok.list) in
    sound text c.utf8.text
    (λ xs list. sym (ap is_bare (c.as_slice.ensures.value ∙ c.in_ok-kinds.ensures xs (subst (λ b. IsItemList b xs) (sym c.as_bytes.ensures.value) list))) ∙ sym c.is_bare.ensures ∙ c.if-not-is_bare.false)
    l (subst (λ b. ReadsListWithin 65 bracket.Square b l) whole c.in-Ok.ensures.reads.reads)
    (lone_erased (list_view source c.in-Ok.list) ∙ sym (c.is_lone.ensures source) ∙ h)

pub returns-in-Ok-clause-no : goal.returns-in-Ok-clause-no
returns-in-Ok-clause-no c = λ x.
    let text = c.args.text.now in
    let source = c.as_bytes-bytes.result.now in
    let whole : source ≡ 91 ∷ (text ++ 93 ∷ []) = c.as_bytes-bytes.ensures.value ∙ c.as_str.ensures.value ∙ c.in_ok-whole.ensures in
    let l = listing tt false (argument (plain x.node) no_arguments) in
    c.is_lone.ensures source ∙ sym (lone_erased (list_view source c.in-Ok.list))
    ∙ ap is_lone (c.in-Ok.ensures.finds l (subst (λ b. ReadsListWithin 65 bracket.Square b l) (sym whole) (complete text x)))

pub returns-clause-yes : goal.returns-clause-yes
returns-clause-yes c = IfOk-weaker c.not_list.result _ _ (λ b h. λ is. absurd (let none : ⊥ = let e = sym h.0 ∙ is in cc in none)) c.not_list.ensures

pub returns-clause-no : goal.returns-clause-no
returns-clause-no c = λ x.
    let text = c.args.text.now in
    let source = c.as_bytes-bytes.result.now in
    let whole : source ≡ 91 ∷ (text ++ 93 ∷ []) = c.as_bytes-bytes.ensures.value ∙ c.as_str.ensures.value ∙ c.in_ok-whole.ensures in
    let l = listing tt false (argument (plain x.node) no_arguments) in
    IfOk-weaker c.not_list.result _ _ (λ b h. absurd (h.1 (c.in-Err.ensures.finds l (subst (λ t. ReadsListWithin 65 bracket.Square t l) (sym whole) (complete text x))))) c.not_list.ensures
