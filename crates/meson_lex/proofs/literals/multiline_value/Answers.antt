use Rattle.std.proofs.Common.{◌∙◌, ◌++◌, IsUtf8, Some, codes, sym, ap, subst, arith}
use Rattle.meson_lex.proofs.Values.{multiline_enclosed, multiline_text, multiline_bytes, multiline_slice, enclosed_len}
use Rattle.meson_lex.proofs.literals.multiline_value.Goals as goal

pub slice_bounds-from_utf8-count : goal.slice_bounds-from_utf8-count
slice_bounds-from_utf8-count c = let n = enclosed_len (codes "'''") c.args.token.now (multiline_enclosed c.args.token.now c.requires) in omega (arith, n)

pub slice_bounds-from_utf8-start : goal.slice_bounds-from_utf8-start
slice_bounds-from_utf8-start c = let n = enclosed_len (codes "'''") c.args.token.now (multiline_enclosed c.args.token.now c.requires) in omega (arith, n)

pub returns-in_default : goal.returns-in_default
returns-in_default c =
    let e = multiline_enclosed c.args.token.now c.requires in
    sym (multiline_bytes c.args.token.now e (λ text. c.in_default.ensures.cases.0 (subst IsUtf8 (sym (multiline_slice c.args.token.now e)) text)))

pub returns : goal.returns
returns c =
    let e = multiline_enclosed c.args.token.now c.requires in
    let slice = multiline_slice c.args.token.now e in
    ap Some (c.in_ok-push_str.ensures.bytes ∙ ap (λ l. l ++ c.in-Ok.inner.now) c.new-text.ensures.bytes ∙ c.in-Ok.ensures.cases.0 ∙ slice)
    ∙ sym (multiline_text c.args.token.now e (subst IsUtf8 slice c.in-Ok.ensures.cases.1))
