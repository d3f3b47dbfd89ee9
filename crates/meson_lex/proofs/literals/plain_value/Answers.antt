use Rattle.std.proofs.Common.{◌≡◌, ◌∙◌, IsUtf8, option_map, string_bytes, encode_utf8_all, sym, ap, subst}
use Rattle.std.specs.Str.{chars}
use Rattle.std.proofs.lemmas.Result.{IfOk-weaker}
use Rattle.meson_lex.specs.declared.kinds.Kind.TheVariants.{PlainString}
use Rattle.meson_lex.specs.Literals.{unescaped, value}
use Rattle.meson_lex.proofs.Values.{plain_enclosed, plain_text, plain_bytes, plain_slice}
use Rattle.meson_lex.proofs.literals.plain_value.Goals as goal

pub returns-in-Ok : goal.returns-in-Ok
returns-in-Ok c =
    let e = plain_enclosed c.args.token.now c.requires in
    let slice = plain_slice c.args.token.now e in
    let same = c.in-Ok.ensures.cases.0 ∙ slice in
    let is : option_map encode_utf8_all (unescaped (chars c.in-Ok.inner.now)) ≡ value PlainString c.args.token.now =
    ap (λ l. option_map encode_utf8_all (unescaped (chars l))) same ∙ sym (plain_text c.args.token.now e (subst IsUtf8 slice c.in-Ok.ensures.cases.1)) in
    IfOk-weaker c.unescaped.result (λ text. option_map string_bytes text ≡ option_map encode_utf8_all (unescaped (chars c.in-Ok.inner.now))) (λ text. option_map string_bytes text ≡ value PlainString c.args.token.now) (λ text read. read ∙ is) c.unescaped.ensures

pub returns-in-Err : goal.returns-in-Err
returns-in-Err c =
    let e = plain_enclosed c.args.token.now c.requires in
    sym (plain_bytes c.args.token.now e (λ text. c.in-Err.ensures.cases.0 (subst IsUtf8 (sym (plain_slice c.args.token.now e)) text)))
