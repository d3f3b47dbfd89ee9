use Rattle.std.proofs.Common.{◌≡◌, [], ◌∷◌, ◌++◌, append_assoc, lit<, rules, sym, ap, ◌∙◌}
use Rattle.std.specs.Prelude.{if◌then◌else◌}
use Rattle.std.proofs.lemmas.Str.Pattern.{split_once_first}
use Rattle.std.specs.List.{after_first}
use Rattle.meson_json.specs.Arguments.{between_dots, is_dot}
use Rattle.meson_json.proofs.Dots.{dots_none, dots_some}
use Rattle.meson_json.proofs.argument.keys_in.Goals as goal

pub loop-key-preserved : goal.loop-key-preserved
loop-key-preserved c =
    let rest = c.loop-key.rest.now in
    let h = rw c.in-Some.is at (split_once_first 46 rest c.split_once.result c.split_once.ensures.cases (lit< tt)) in
    let parts : between_dots rest ≡ c.in-Some.key.now ∷ between_dots c.in-Some.more.now =
    dots_some rest h.0 ∙ ap (λ k. k ∷ between_dots (after_first is_dot rest)) (sym h.1) ∙ ap (λ m. c.in-Some.key.now ∷ between_dots m) (sym h.2) in
    record {
      utf8 = search rules;
      so_far = ap (λ ks. ks ++ between_dots c.in-Some.more.now) (c.in_ok-push.ensures.items ∙ ap (λ t. c.loop-key.keys.items ++ t ∷ []) c.in_ok-owned.ensures)
          ∙ append_assoc c.loop-key.keys.items (c.in-Some.key.now ∷ []) (between_dots c.in-Some.more.now) ∙ ap (λ ps. c.loop-key.keys.items ++ ps) (sym parts) ∙ c.loop-key.invariant.so_far;
    }

pub returns : goal.returns
returns c =
    let rest = c.loop-key.rest.now in
    let h = rw c.in_default.is at (split_once_first 46 rest c.split_once.result c.split_once.ensures.cases (lit< tt)) in
    c.of-2.ensures ∙ c.in_ok-push-2.ensures.items ∙ ap (λ t. c.loop-key.keys.items ++ t ∷ []) c.in_ok-owned-2.ensures
    ∙ ap (λ ps. c.loop-key.keys.items ++ ps) (sym (dots_none rest h)) ∙ c.loop-key.invariant.so_far
    ∙ sym (ap (λ b. if b then [] else between_dots c.args.word.now) (sym c.eq.ensures ∙ c.if-eq.false))
