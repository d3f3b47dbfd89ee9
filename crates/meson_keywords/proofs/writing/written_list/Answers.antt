use Rattle.meson_keywords.proofs.Words.{◌≡◌, ◌<◌, ◌≤◌, ◌++◌, List, ℕ, length, get_or, map, sym, ap, ◌∙◌, subst, arith, All, IsUtf8, get_or-map, length-map}
use Rattle.meson_keywords.proofs.Words.{take_all, all_more, element_bytes}
use Rattle.meson_steps.proofs.Between.{first_behind, next_behind}
use Rattle.meson_keywords.proofs.writing.written_list.Goals as goal
use Rattle.meson_keywords.proofs.writing.written_list.Goals.{then-i-gt0+in_ok-extend_from_slice-2, else-i-gt0}

pub loop-i-preserved : goal.loop-i-preserved
loop-i-preserved c =
    let i = c.loop-i.i in
    let e = c.args.kind in
    let ts : List (List ℕ) = map (λ x. x.now) c.args.texts.now in
    let xs = map (element_bytes e) ts in
    let t = c.index-texts-i.result.now in
    let many = length-map c.args.texts.now (λ x. x.now) in
    let test = c.loop-i-test.true in
    let within : i < length ts = omega (arith, many, test) in
    let inside : i < length xs = omega (arith, within, length-map ts (element_bytes e)) in
    let read : get_or ts i t ≡ t = get_or-map (λ x. x.now) c.args.texts.now i c.index-texts-i.result t test ∙ ap (λ r. r.now) (sym c.index-texts-i.is) in
    let is : get_or xs i (element_bytes e t) ≡ element_bytes e t = get_or-map (element_bytes e) ts i t (element_bytes e t) within ∙ ap (element_bytes e) read in
    let before = c.loop-i.out.items in
    let after = c.push_element.new.to.items in
    let so_far = c.loop-i.invariant.written in
    let made = c.in_ok-push_element.ensures.done in
    record {
      written = elim c.if-i-gt0.branch [
        | then-i-gt0+in_ok-extend_from_slice-2 w ↦
            next_behind xs i (element_bytes e t) inside is before after so_far c.if-i-gt0.out.items w.if-i-gt0.true (ap (λ v. v.items) w.out-is ∙ w.in_ok-extend_from_slice-2.ensures.items) made
        | else-i-gt0 w ↦ first_behind xs i (element_bytes e t) inside is before after so_far (omega (arith, w.if-i-gt0.false)) (made ∙ ap (λ v. v.items ++ element_bytes e t) w.out-is)
      ];
      texts = all_more IsUtf8 ts i t within c.loop-i.invariant.texts (subst IsUtf8 (sym read) c.push_element.ensures.utf8);
    }

pub returns-clause-utf8 : goal.returns-clause-utf8
returns-clause-utf8 c =
    let ts : List (List ℕ) = map (λ x. x.now) c.args.texts.now in
    let past : length ts ≤ c.loop-i.i = omega (arith, c.loop-i-test.false, length-map c.args.texts.now (λ x. x.now)) in
    subst (All IsUtf8) (take_all c.loop-i.i ts past) c.loop-i.invariant.texts
