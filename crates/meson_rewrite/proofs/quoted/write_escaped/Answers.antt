use Rattle.std.proofs.Output.{has_written_of_eq}
use Rattle.meson_rewrite.proofs.Escapes.{with_letter, with_digits, as_it_is}
use Rattle.meson_rewrite.proofs.quoted.write_escaped.Goals as goal

pub returns-in-Some : goal.returns-in-Some
returns-in-Some g c = λ plain ok.
    let h = c.in-Some.ensures in
    has_written_of_eq _ _ _ _ _ (with_letter c.args.c c.in-Some.letter h.0 h.1 h.2 h.3) (c.write.ensures.writes plain ok)

pub returns-then-c-lt32 : goal.returns-then-c-lt32
returns-then-c-lt32 g c = λ plain ok.
    let wrote = rw (c.in_radix.ensures, c.laid_out.ensures) at c.write-then-c-lt32.ensures.writes in
    has_written_of_eq _ _ _ _ _ (with_digits c.args.c c.in_default.ensures c.if-c-lt32.true) (wrote plain ok)

pub returns : goal.returns
returns g c = λ plain ok. has_written_of_eq _ _ _ _ _ (as_it_is c.args.c c.in_default.ensures c.if-c-lt32.false) (c.write_char.ensures.writes plain ok)
