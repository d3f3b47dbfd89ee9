use Rattle.std.proofs.Common.{◌≡◌, ◌+◌, Some, Ok, take, ap, sym, subst, ◌∙◌}
use Rattle.std.proofs.lemmas.List.{take_rest}
use Rattle.meson_lex.specs.Bytes.{first_bare_return}
use Rattle.meson_lex.specs.Scan.{quoted_len, string_front}
use Rattle.meson_lex.proofs.SimpleStrings.{simple_string}
use Rattle.meson_lex.proofs.strings.string_front.Goals as goal

pub returns-in-Some : goal.returns-in-Some
returns-in-Some c =
    let len = c.in-Some.len in
    let rest_is = take_rest c.args.bytes.now 1 in
    subst (λ k. Ok (k, 1 + len) ≡ string_front c.args.at k c.args.bytes.now) (sym c.in-PlainString.is)
    (sym (simple_string c.args.at c.args.bytes.now len (c.requires.opens ∙ ap Some c.in-PlainString.is) (ap quoted_len (sym rest_is) ∙ c.in-Some.ensures.value) (ap (λ l. first_bare_return (take len l)) (sym rest_is) ∙ c.in-Some.ensures.no_return)))
