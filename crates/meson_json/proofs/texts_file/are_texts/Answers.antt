use Rattle.std.proofs.Common.{◌≡◌, ◌≤◌, ◌<◌, ◌∙◌, ap, sym, subst, length, get_or, arith, rules}
use Rattle.std.specs.Prelude.{All}
use Rattle.std.proofs.lemmas.List.{get_or_default, take_all}
use Rattle.std.proofs.lemmas.List.Elements.{All-more}
use Rattle.meson_calls.specs.Folders.{IsFileName}
use Rattle.meson_json.specs.TextsFile.{GivenText}
use Rattle.meson_json.proofs.TextsFacts.{apart-more, twice-is-none}
use Rattle.meson_json.proofs.texts_file.are_texts.Goals as goal

pub returns-then-has_name : goal.returns-then-has_name
returns-then-has_name c =
    let texts = c.args.texts.now in
    let text = c.index-texts-i.result in
    let i = c.loop-i.i in
    let within : i < length texts = omega arith in
    let is : (d : GivenText) → (get_or texts i d).0 ≡ c.get-name.result.now = λ d. ap (λ t. t.0) (get_or_default texts i d text within) ∙ sym c.get-name.ensures in (
      λ so. let no : ⊥ = cc in absurd no,
      λ are. absurd (twice-is-none texts i within c.get-name.result.now is (sym c.has_name.ensures ∙ c.if-has_name.true) are),
    )

pub loop-i-preserved : goal.loop-i-preserved
loop-i-preserved c =
    let texts = c.args.texts.now in
    let text = c.index-texts-i.result in
    let i = c.loop-i.i in
    let within : i < length texts = omega arith in
    let is : (d : GivenText) → (get_or texts i d).0 ≡ c.get-name.result.now = λ d. ap (λ t. t.0) (get_or_default texts i d text within) ∙ sym c.get-name.ensures in
    let named = c.is_file_name.ensures.0 c.if-not-is_file_name.false in
    record {
      named = All-more (λ t. IsFileName t.0) texts i text within c.loop-i.invariant.named (subst IsFileName (c.as_bytes.ensures.value ∙ sym (is text)) named);
      apart = apart-more texts i within c.get-name.result.now is c.loop-i.invariant.apart (sym c.has_name.ensures ∙ c.if-has_name.false);
    }

pub returns : goal.returns
returns c =
    let texts = c.args.texts.now in
    let all : length texts ≤ c.loop-i.i = omega arith in (
      λ so. record {
        few = omega arith;
        named = subst (All (λ t. IsFileName t.0)) (take_all c.loop-i.i texts all) c.loop-i.invariant.named;
        apart = λ i j d h k. c.loop-i.invariant.apart i j d h (omega arith);
      },
      λ are. search rules,
    )
