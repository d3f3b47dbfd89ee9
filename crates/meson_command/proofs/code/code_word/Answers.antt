use Rattle.std.proofs.Common.{◌∙◌, codes, sym}
use Rattle.clap.specs.Words.{found_of, rows_of}
use Rattle.clap.proofs.WalkLemmas.{first_value-rows}
use Rattle.meson_command.proofs.CodeRequests.{one-too-many, second-word, third-word}
use Rattle.meson_command.proofs.code.code_word.Goals as goal

pub returns-in-After : goal.returns-in-After
returns-in-After c =
    let found = found_of c.args.matches.now in
    third-word c.args.operation (rows_of found) _ c.in-After.is (c.get_str-third.ensures ∙ first_value-rows found (codes "CODE"))

pub returns-in-Append : goal.returns-in-Append
returns-in-Append c =
    let found = found_of c.args.matches.now in
    one-too-many c.args.operation (rows_of found) c.get_str-third.result c.in-Append.is (c.get_str-third.ensures ∙ first_value-rows found (codes "CODE"))
    (sym c.is_some.ensures ∙ c.if-is_some.true)

pub returns-in-Append-2 : goal.returns-in-Append-2
returns-in-Append-2 c =
    let found = found_of c.args.matches.now in
    second-word c.args.operation (rows_of found) c.get_str-third.result _ c.in-Append-2.is (c.get_str-third.ensures ∙ first_value-rows found (codes "CODE"))
    (sym c.is_some.ensures ∙ c.if-is_some.false) (c.get_str.ensures ∙ first_value-rows found (codes "ID|CODE"))
