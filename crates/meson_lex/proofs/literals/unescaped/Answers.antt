use Rattle.std.proofs.Common.{◌≡◌, ◌∙◌, ◌++◌, drop, Some, None, encode_utf8, string_bytes, subst, sym, ap}
use Rattle.std.proofs.lemmas.Str.{IsCharBoundary-from_drop}
use Rattle.meson_lex.specs.Literals.{escape}
use Rattle.meson_lex.proofs.Characters.{Cuts}
use Rattle.meson_lex.proofs.EscapeTexts.{CutsAfter, escape_cuts}
use Rattle.meson_lex.proofs.Unescaping.{Reads, reads_end, reads_opaque, reads_on, SplitsAtBackslash, split_texts}
use Rattle.meson_lex.proofs.literals.unescaped.Goals as goal
use Rattle.meson_lex.proofs.literals.unescaped.Goals.{In-Some-escape}

split : (c : In-Some-escape) → SplitsAtBackslash c.loop-front.rest.now c.in-Some.front.now c.in-Some.after.now
split c = split_texts c.loop-front.rest.now c.in-Some.front.now c.in-Some.after.now c.loop-front.invariant.0 c.in-Some.ensures.cases

-- the escape behind the backslash, and where the text may be cut behind it
found : (c : In-Some-escape) → escape c.in-Some.after.now ≡ Some c.in-Some-escape.escape
found c = ap escape (sym c.as_bytes.ensures.value) ∙ sym c.escape.ensures ∙ c.in-Some-escape.is

cuts : (c : In-Some-escape) → Cuts c.in-Some.after.now c.in-Some-escape.escape.taken
cuts c = subst (CutsAfter c.in-Some.after.now) (found c) (escape_cuts c.in-Some.after.now (split c).after_text)

pub returns-in_default-escape : goal.returns-in_default-escape
returns-in_default-escape c =
    let s = split_texts c.loop-front.rest.now c.in-Some.front.now c.in-Some.after.now c.loop-front.invariant.0 c.in-Some.ensures.cases in
    let none : escape c.in-Some.after.now ≡ None = ap escape (sym c.as_bytes.ensures.value) ∙ sym c.escape.ensures ∙ c.in_default-escape.is in
    reads_opaque c.args.inner.now _ c.loop-front.rest.now c.in-Some.front.now c.in-Some.after.now s.front_text s.after_text s.none s.joins c.loop-front.invariant.1 none

pub range_from-rest-requires : goal.range_from-rest-requires
range_from-rest-requires c =
    let k = cuts (goal.at.range_from-rest-requires c).In-Some-escape in
    (λ _. IsCharBoundary-from_drop c.in-Some.after.now c.in-Some-escape.escape.taken k.within k.rest)

pub loop-front-preserved : goal.loop-front-preserved
loop-front-preserved c =
    let here = (goal.at.loop-front-preserved c).In-Some-escape in
    let s = split here in
    let text : string_bytes c.push.new.self ≡ (string_bytes c.loop-front.text ++ c.in-Some.front.now) ++ encode_utf8 c.in-Some-escape.escape.character =
    c.in_ok-push.ensures.bytes ∙ ap (λ l. l ++ encode_utf8 c.in-Some-escape.escape.character) c.in_ok-push_str.ensures.bytes in
    let rest : c.range_from-rest.result.now ≡ drop c.in-Some-escape.escape.taken c.in-Some.after.now = c.range_from-rest.ensures.value in
    let on = reads_on c.args.inner.now (string_bytes c.loop-front.text) c.loop-front.rest.now c.in-Some.front.now c.in-Some.after.now s.front_text s.after_text s.none s.joins c.loop-front.invariant.1 c.in-Some-escape.escape (found here) (cuts here) in
    (c.range_from-rest.utf8, subst (λ t. Reads c.args.inner.now t c.range_from-rest.result.now) (sym text) (subst (Reads c.args.inner.now ((string_bytes c.loop-front.text ++ c.in-Some.front.now) ++ encode_utf8 c.in-Some-escape.escape.character)) (sym rest) on))

pub returns : goal.returns
returns c =
    ap Some c.in_ok-push_str-2.ensures.bytes
    ∙ reads_end c.args.inner.now (string_bytes c.loop-front.text) c.loop-front.rest.now c.loop-front.invariant.0 c.in_default.ensures.cases c.loop-front.invariant.1
